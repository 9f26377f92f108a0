use Rattle.std.proofs.Common.{◌≡◌, ◌+◌, suc, true, reverse, get_or, drop, sym, ap, ◌∙◌, add-one}
use Rattle.std.specs.Prelude.{◌&&◌}
use Rattle.nd_shape.specs.Stretches.{is_common, are_common}
use Rattle.nd_shape.proofs.Stretches.{common_next}
use Rattle.nd_shape.proofs.stretching.are_common.Goals as goal

pub loop-at-preserved : goal.loop-at-preserved
loop-at-preserved c =
    let s = reverse c.args.left.now in
    let t = reverse c.args.right.now in
    let k = c.loop-at.at in
    let here : is_common (get_or s k 1) (get_or t k 1) ≡ true
    = (λ i. is_common (sym c.length_from_last.ensures i) (sym c.length_from_last-in-loop-at.ensures i)) ∙ sym c.is_common.ensures ∙ c.if-not-is_common.false in
    let rest : are_common (drop k s) (drop k t) ≡ are_common (drop (k + 1) s) (drop (k + 1) t)
    = rw add-one (common_next s t k ∙ ap (λ b. b && are_common (drop (suc k) s) (drop (suc k) t)) here) in
    c.loop-at.invariant ∙ rest
