-- What maps of marks hold.
use Rattle.std.specs.Prelude.{List, [], ◌∷◌}
use Rattle.nd_model.specs.Arrays.Value as model
use Rattle.nd_marks.specs.Marks.{Places}
use Rattle.nd_heap.specs.declared.value.Base.{Base}
use Rattle.nd_heap.specs.Values.{base_of}

abbrev pub marks_of : List (Base × Places) → List (model.Base × Places)
marks_of [] = []
marks_of (e ∷ es) = (base_of e.0, e.1) ∷ marks_of es
