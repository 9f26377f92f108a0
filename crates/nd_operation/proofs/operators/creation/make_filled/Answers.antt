use Rattle.std.proofs.Common.{map, option_map}
use Rattle.nd_syntax.specs.Trees.Calls.{dtype_of, fill_of}
use Rattle.nd_operation.specs.Operators.Contents.{unused_of}
use Rattle.nd_operation.proofs.operators.Creating.{filled_lengths}
use Rattle.nd_operation.proofs.operators.creation.make_filled.Goals as goal

pub returns : goal.returns
returns c =
    filled_lengths (fill_of c.args.fill) (option_map dtype_of c.args.dtype.now) (map unused_of c.args.shape.now) c.in_ok-shape.shape.items c.filled_array.result
    c.in_ok-shape.ensures (rw c.deref.ensures at c.filled_array.ensures)
