use Rattle.std.proofs.Common.{◌≡◌, length, drop}
use Rattle.nd_model.specs.Arrays.Content.{field_writes}
use Rattle.nd_model.specs.Cells.Session.{put}
use Rattle.nd_types.specs.Fields.{fields_of}
use Rattle.nd_assign.proofs.Fielded.{numbers_in}
use Rattle.nd_assign.proofs.structures.copy_structure.Given as goal

abbrev pub invariant-loop-field : goal.invariant-loop-field
invariant-loop-field l = record {
  len : length l.out ≡ length l.fn.out;
  rest : put (field_writes l.place (drop l.field-index (fields_of l.field-items)) (numbers_in l.bytes l.from (drop l.field-index (fields_of l.field-items)))) l.out
      ≡ put (field_writes l.place l.structure.0 (numbers_in l.bytes l.from l.structure.0)) l.fn.out;
}
