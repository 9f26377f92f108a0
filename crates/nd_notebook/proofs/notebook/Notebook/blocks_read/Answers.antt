use Rattle.std.proofs.Common.{◌+◌, [], List, Vec, Global, arith, map, subst, sym}
use Rattle.nd_model.specs.Book.Notebook.{book_of}
use Rattle.nd_heap.specs.Values.{base_of}
use Rattle.nd_notebook.specs.ReadsShown.{block_of}
use Rattle.nd_notebook.specs.declared.reading.BlockRead.{BlockRead}
use Rattle.nd_notebook.proofs.Listing.{Adds, adds_nothing}
use Rattle.nd_notebook.proofs.ReadsTold.{BytesAt, LengthAt, blocks_told, bytes_more, bytes_not_read, length_more, same_blocks}
use Rattle.nd_notebook.proofs.notebook.Notebook.blocks_read.Goals as goal
use Rattle.nd_notebook.proofs.notebook.Notebook.blocks_read.Goals.{then-reads_bytes+in_ok-note, else-reads_bytes}

pub loop-place-init : goal.loop-place-init
loop-place-init c =
    subst (λ (l : List BlockRead). Adds (BytesAt (book_of c.args.self.now) c.args.at c.reads_at-reads.result.now) 0 [] (map block_of l)) (sym c.new-blocks.ensures.items)
    (adds_nothing (BytesAt (book_of c.args.self.now) c.args.at c.reads_at-reads.result.now) [])

pub loop-place-preserved : goal.loop-place-preserved
loop-place-preserved c = elim c.if-reads_bytes.branch [
  | then-reads_bytes+in_ok-note w ↦
      subst (λ (v : Vec BlockRead Global). Adds (BytesAt (book_of c.args.self.now) c.args.at c.reads_at-reads.result.now) (c.loop-place.place + 1) [] (map block_of v.items)) (sym w.blocks-is)
      (bytes_more (book_of c.args.self.now) c.args.at c.reads_at-reads.result.now c.loop-place.place (base_of c.block_at-base.result) w.block_read.result _ c.loop-place.blocks.items w.note.new.list.items
      c.reads_at-reads.ensures c.block_at-base.ensures (c.reads_bytes.ensures.0 w.if-reads_bytes.true) w.block_read.ensures.maker w.block_read.ensures.number w.block_read.ensures.writer
      (λ y. same_blocks y w.block_read.result) w.in_ok-note.ensures c.loop-place.invariant)
  | else-reads_bytes w ↦
      subst (λ (v : Vec BlockRead Global). Adds (BytesAt (book_of c.args.self.now) c.args.at c.reads_at-reads.result.now) (c.loop-place.place + 1) [] (map block_of v.items)) (sym w.blocks-is)
      (bytes_not_read (book_of c.args.self.now) c.args.at c.reads_at-reads.result.now c.loop-place.place (base_of c.block_at-base.result) (map block_of c.loop-place.blocks.items) c.reads_bytes.result
      c.block_at-base.ensures c.reads_bytes.ensures w.if-reads_bytes.false c.loop-place.invariant)
]

pub loop-place-2-init : goal.loop-place-2-init
loop-place-2-init c = adds_nothing (LengthAt (book_of c.args.self.now) c.args.at c.reads_at-reads.result.now) (map block_of c.loop-place.blocks.items)

pub loop-place-2-preserved : goal.loop-place-2-preserved
loop-place-2-preserved c =
    length_more (book_of c.args.self.now) c.args.at c.reads_at-reads.result.now c.loop-place-2.place (base_of c.length_at.result) c.block_read-in-loop-place-2.result _ (map block_of c.loop-place.blocks.items) c.loop-place-2.blocks.items c.note-in-loop-place-2.new.list.items
    c.reads_at-reads.ensures c.length_at.ensures c.block_read-in-loop-place-2.ensures.maker c.block_read-in-loop-place-2.ensures.number c.block_read-in-loop-place-2.ensures.writer (λ y. same_blocks y c.block_read-in-loop-place-2.result) c.in_ok-note-2.ensures c.loop-place-2.invariant

pub returns : goal.returns
returns c =
    blocks_told (book_of c.args.self.now) c.args.at c.reads_at-reads.result.now c.loop-place.place c.loop-place-2.place (map block_of c.loop-place.blocks.items) (map block_of c.loop-place-2.blocks.items)
    c.reads_at-reads.ensures (omega arith) (omega arith) c.loop-place.invariant c.loop-place-2.invariant
