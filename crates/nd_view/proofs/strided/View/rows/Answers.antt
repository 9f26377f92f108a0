use Rattle.std.proofs.Common.{◌+◌, ◌-◌, ◌≤◌, ◌^◌, length, get_or, ap, ◌∙◌}
use Rattle.std.specs.Prelude.{pos}
use Rattle.std.proofs.lemmas.List.Elements.{All-from_get_or}
use Rattle.nd_model.specs.Arrays.View.{item_size}
use Rattle.nd_view.proofs.Fields.{ends}
use Rattle.nd_view.proofs.ViewLoops.{inner_last}
use Rattle.nd_view.proofs.strided.View.rows.Goals as goal

pub new-requires : goal.new-requires
new-requires c =
    inner_last c.self.inside c.self.invariant c.args.self.now c.self.view_is c.last_axis.result
    (c.last_axis.ensures.outer ∙ ap (λ s. length s - 1) c.as_slice.ensures)
    (c.last_axis.ensures.count ∙ ap (λ s. get_or s (length s - 1) 1) c.as_slice.ensures)
    (c.last_axis.ensures.step ∙ (λ i. get_or (c.as_slice-2.ensures i) (length (c.as_slice.ensures i) - 1) (pos 0)))

pub returns-clause-ends : goal.returns-clause-ends
returns-clause-ends c =
    All-from_get_or (λ p. p + item_size c.args.self.now.element ≤ 2 ^ 64) c.args.self.now.places 0 (ends c.self.inside c.self.invariant c.args.self.now c.self.view_is)
