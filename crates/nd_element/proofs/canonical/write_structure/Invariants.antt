use Rattle.std.proofs.Common.{◌≡◌, length, take, replicate}
use Rattle.std.specs.List.{flat_map}
use Rattle.nd_model.specs.Cells.Session.{put}
use Rattle.nd_types.specs.Fields.{fields_of}
use Rattle.nd_element.proofs.Structures.{writes}
use Rattle.nd_element.proofs.canonical.write_structure.Given as goal

abbrev pub invariant-loop-field : goal.invariant-loop-field
invariant-loop-field l =
    (length l.out ≡ l.structure.1)
    × (l.out ≡ put (flat_map (writes l.bytes l.place) (take l.field-index (fields_of l.field-items))) (replicate l.structure.1 0))
