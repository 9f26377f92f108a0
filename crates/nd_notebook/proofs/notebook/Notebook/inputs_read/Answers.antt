use Rattle.std.proofs.Common.{List, ℕ, [], Bor, map, arith, subst, sym}
use Rattle.std.proofs.lemmas.Slice.Eq.{bytes_eq-Decides}
use Rattle.nd_model.specs.Book.Notebook.{book_of}
use Rattle.nd_notebook.specs.Readers.{run_at}
use Rattle.nd_notebook.proofs.Listing.{Adds, adds_nothing}
use Rattle.nd_notebook.proofs.ReadsTold.{InputAt, input_more, inputs_told}
use Rattle.nd_notebook.proofs.notebook.Notebook.inputs_read.Goals as goal

pub loop-place-init : goal.loop-place-init
loop-place-init c =
    subst (λ (l : List (Bor (List ℕ))). Adds (InputAt c.reads_at-reads.result.now) 0 [] (map (λ (s : Bor (List ℕ)). s.now) l)) (sym c.new-inputs.ensures.items)
    (adds_nothing (InputAt c.reads_at-reads.result.now) [])

pub loop-place-preserved : goal.loop-place-preserved
loop-place-preserved c =
    input_more (λ (s : Bor (List ℕ)). s.now) c.reads_at-reads.result.now c.loop-place.place c.input_at.result _ c.loop-place.inputs.items c.note.new.list.items
    c.input_at.ensures (λ y. bytes_eq-Decides y.now c.input_at.result.now) c.in_ok-note.ensures c.loop-place.invariant

pub returns : goal.returns
returns c = inputs_told (run_at (book_of c.args.self.now) c.args.at) c.reads_at-reads.result.now c.loop-place.place (map (λ (s : Bor (List ℕ)). s.now) c.loop-place.inputs.items) c.reads_at-reads.ensures (omega arith) c.loop-place.invariant
