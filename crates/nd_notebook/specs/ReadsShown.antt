-- The reads of a cell as the program has them.
use Rattle.std.specs.Prelude.{ℕ, List, [], map, Option, Result}
use Rattle.nd_model.specs.Book.Book as model
use Rattle.nd_notebook.specs.Queries.{answer_of}
use Rattle.nd_notebook.specs.Readers as readers
use Rattle.nd_notebook.specs.declared.query.QueryFault as declared
use Rattle.nd_notebook.specs.declared.reading.CellReads.{CellReads}
use Rattle.nd_notebook.specs.declared.reading.NameRead.{NameRead}
use Rattle.nd_notebook.specs.declared.reading.BlockRead.{BlockRead}

abbrev pub name_of : NameRead → List ℕ × Option ℕ
name_of n = (n.name.now, n.cell)

abbrev pub block_of : BlockRead → readers.BlockRead
block_of b = record { maker = b.maker; number = b.number; writer = b.writer }

abbrev pub reads_of : CellReads → readers.CellReads
reads_of r = record {
  names = map name_of r.names.items;
  inputs = map (λ n. n.now) r.inputs.items;
  blocks = map block_of r.blocks.items;
}

-- the answer to the question for the reads of a cell
abbrev pub reads_told : Result CellReads declared.QueryFault → Result readers.CellReads model.QueryFault
reads_told r = answer_of [] reads_of r
