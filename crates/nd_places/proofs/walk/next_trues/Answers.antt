use Rattle.std.proofs.Common.{◌≡◌, ◌+◌, ◌-◌, ◌≤◌, List, ℕ, ◌++◌, length, take, drop, sym, ap, ◌∙◌, arith}
use Rattle.std.proofs.lemmas.List.{length-take-le, length-drop}
use Rattle.nd_places.specs.Forms.{trues_on}
use Rattle.nd_places.specs.Left.{trues_left}
use Rattle.nd_places.proofs.Found.{parts_of, trues_split}
use Rattle.nd_places.proofs.walk.next_trues.Goals as goal

pub loop-count-preserved : goal.loop-count-preserved
loop-count-preserved c =
    let trues = c.args.trues.now in let mask = c.as_slice-mask.result.now in let at = c.loop-count.done in let n = c.min.result in let line = trues.line in
    let width : at + n - at ≡ n = omega arith in
    let fits : n ≤ length (drop at mask) = omega (arith, c.min.ensures, length-drop at mask) in
    let part : List ℕ = take n (drop at mask) in
    let long : length part ≡ n = length-take-le n (drop at mask) fits in
    let same : mask ≡ trues.mask = c.as_slice-mask.ensures in
    let none : c.loop-count.count ≡ 0 = omega (arith, c.loop-count-test.true) in
    let written : take c.write_true_places-count.result c.write_true_places-count.new.out ≡ trues_on line at part
    = c.write_true_places-count.ensures.places ∙ ap (λ m. trues_on line at (take m (drop at mask))) width in
    record {
      room = c.write_true_places-count.ensures.len ∙ c.loop-count.invariant.room;
      few = c.write_true_places-count.ensures.few;
      split = c.loop-count.invariant.split
          ∙ ap (λ k. take k c.loop-count.room ++ trues_left trues at) none
          ∙ ap (λ ms. trues_on line at (drop at ms)) (sym same) ∙ ap (trues_on line at) (parts_of at n mask) ∙ trues_split line at part (drop (at + n) mask)
          ∙ ap (λ k. trues_on line at part ++ trues_on line (at + k) (drop (at + n) mask)) long
          ∙ (λ i. sym written i ++ trues_on line (at + n) (drop (at + n) (same i)));
    }
