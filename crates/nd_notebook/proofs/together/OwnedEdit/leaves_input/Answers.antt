use Rattle.std.proofs.Common.{Bool, true, false, ap, bytes_eq, ◌∙◌, string_bytes}
use Rattle.std.specs.Bool.{then_some}
use Rattle.nd_input.specs.Sources.{source_of}
use Rattle.nd_notebook.proofs.Looking.{drop_leaves, set_leaves}
use Rattle.nd_notebook.proofs.together.OwnedEdit.leaves_input.Goals as goal

pub returns-in-SetInput : goal.returns-in-SetInput
returns-in-SetInput c =
    let name = c.args.name.now in
    rw c.in-SetInput.is (set_leaves name (string_bytes c.in-SetInput.set) (source_of c.in-SetInput.field-1) c.then_some.result
    (c.then_some.ensures ∙ ap (λ (b : Bool). then_some b true) (c.eq.ensures ∙ ap (bytes_eq name) c.as_str.ensures.value)))

pub returns-in-DropInput : goal.returns-in-DropInput
returns-in-DropInput c =
    let name = c.args.name.now in
    rw c.in-DropInput.is (drop_leaves name (string_bytes c.in-DropInput.dropped) c.then_some-in-DropInput.result
    (c.then_some-in-DropInput.ensures ∙ ap (λ (b : Bool). then_some b false) (c.eq-in-DropInput.ensures ∙ ap (bytes_eq name) c.as_str-in-DropInput.ensures.value)))
