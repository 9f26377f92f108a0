use Rattle.std.proofs.Common.{[], List, map, arith, subst, sym}
use Rattle.nd_model.specs.Book.Notebook.{book_of}
use Rattle.nd_notebook.specs.ReadsShown.{name_of}
use Rattle.nd_notebook.specs.declared.reading.NameRead.{NameRead}
use Rattle.nd_notebook.proofs.Listing.{Adds, adds_nothing}
use Rattle.nd_notebook.proofs.ReadsTold.{NameAt, name_more, names_told, same_names}
use Rattle.nd_notebook.proofs.notebook.Notebook.names_read.Goals as goal

pub loop-place-init : goal.loop-place-init
loop-place-init c =
    subst (λ (l : List NameRead). Adds (NameAt (book_of c.args.self.now) c.args.at c.reads_at-reads.result.now) 0 [] (map name_of l)) (sym c.new-names.ensures.items)
    (adds_nothing (NameAt (book_of c.args.self.now) c.args.at c.reads_at-reads.result.now) [])

pub loop-place-preserved : goal.loop-place-preserved
loop-place-preserved c =
    let x : NameRead = record { name = c.name_at-name.result; cell = c.last_setter-cell.result } in
    name_more (book_of c.args.self.now) c.args.at c.reads_at-reads.result.now c.loop-place.place x _ c.loop-place.names.items c.note.new.list.items
    c.name_at-name.ensures c.last_setter-cell.ensures (λ y. same_names y x) c.in_ok-note.ensures c.loop-place.invariant

pub returns : goal.returns
returns c = names_told (book_of c.args.self.now) c.args.at c.reads_at-reads.result.now c.loop-place.place c.loop-place.names.items c.reads_at-reads.ensures (omega arith) c.loop-place.invariant
