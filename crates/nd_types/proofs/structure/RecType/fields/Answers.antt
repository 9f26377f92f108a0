use Rattle.std.proofs.Common.{ℕ, ◌+◌, ◌≤◌, List, subst}
use Rattle.std.specs.List.{All}
use Rattle.nd_model.specs.Arrays.Element.{size_of}
use Rattle.nd_model.specs.Arrays.View.{Field}
use Rattle.nd_types.specs.Fields.{fields_of}
use Rattle.nd_types.proofs.Sized.{each_inside}
use Rattle.nd_types.proofs.structure.RecType.fields.Goals as goal

pub returns-clause-inside : goal.returns-clause-inside
returns-clause-inside c =
    let r = c.self.inside in
    subst (λ (v : List Field × ℕ). All (λ (f : Field). f.at + size_of f.element.kind ≤ v.1) v.0) c.self.view_is (each_inside (fields_of r.fields.items) r.size c.self.invariant)
