use Rattle.std.proofs.Common.{◌≡◌, length, drop}
use Rattle.nd_model.specs.Cells.Session.{put}
use Rattle.nd_types.specs.Fields.{fields_of}
use Rattle.nd_scatter.proofs.Copies.{field_copies}
use Rattle.nd_scatter.proofs.structures.write_structure.Given as goal

abbrev pub invariant-loop-field : goal.invariant-loop-field
invariant-loop-field l = record {
  len : length l.out ≡ length l.fn.out;
  rest : put (field_copies l.values l.to l.from (drop l.field-index (fields_of l.field-items))) l.out ≡ put (field_copies l.values l.to l.from l.structure.0) l.fn.out;
}
