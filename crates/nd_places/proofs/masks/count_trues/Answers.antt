use Rattle.std.proofs.Common.{◌≡◌, ◌+◌, ◌-◌, ◌≤◌, length, take, drop, ap, ◌∙◌, arith}
use Rattle.std.proofs.lemmas.List.{length-take-le, length-drop}
use Rattle.nd_places.specs.Near.{trues_in}
use Rattle.nd_places.proofs.Found.{count_few, count_split}
use Rattle.nd_places.proofs.masks.count_trues.Goals as goal

pub loop-at-preserved : goal.loop-at-preserved
loop-at-preserved c =
    let mask = c.args.mask.now in let at = c.loop-at.at in let n = c.min.result in
    let width : at + n - at ≡ n = omega arith in
    let counted : c.from-count.result ≡ length (trues_in 0 (take n (drop at mask)))
    = c.from-count.ensures ∙ c.count_few.ensures ∙ ap (λ m. length (trues_in 0 (take m (drop at mask)))) width in
    let fits : n ≤ length (drop at mask) = omega (arith, c.min.ensures, length-drop at mask) in
    let few = count_few 0 (take n (drop at mask)) in
    record {
      total = omega (arith, c.loop-at.invariant.total, count_split at n mask, counted);
      few = omega (arith, c.loop-at.invariant.few, counted, few, length-take-le n (drop at mask) fits);
      within = omega (arith, fits, length-drop at mask, c.loop-at.invariant.within);
    }
