use Rattle.std.proofs.Common.{rules, ◌≡◌, ℕ, ℤ, ◌+◌, ◌-◌, ◌*◌, ◌≤◌, List, [], ◌∷◌, ◌++◌, length, take, drop, FitsSigned, to_z, of_z, refl, sym, ap, ◌∙◌, arith, append_assoc, length-drop}
use Rattle.std.specs.Int.{w128}
use mir.Facts.{to_z-of_z}
use Rattle.nd_model.specs.Grammar.Calls.{Reduction}
use Rattle.nd_model.specs.Arrays.Element.{Kind, size_of, bytes_of, wrap}
use Rattle.nd_model.specs.Making.Elementwise.{little}
use Rattle.nd_model.specs.Making.Reductions.{folded}
use Rattle.nd_model.proofs.Values.{length-bytes_of}
use Rattle.nd_types.specs.Kinds.{kind_of}
use Rattle.nd_convert.proofs.conversion.Written.{place_more}
use Rattle.nd_reduce.specs.Folds.Lanes.{fold_bytes, lanes_in}
use Rattle.nd_reduce.proofs.folds.Sliced.{next_lane}
use Rattle.nd_reduce.proofs.folds.lanes.fold_lanes.Goals as goal

pub loop-rest-preserved : goal.loop-rest-preserved
loop-rest-preserved g c =
    let a = c.args in let is = c.loop-rest.invariant in let m = c.loop-rest.rest in let p : ℕ = m - 1 in let n = a.count in let r : Reduction = g.F.FoldStep.reduction in
    let zs : List ℤ = c.skip.new.numbers.numbers in let left = c.fold_lane-number.result.1 in let after : List ℤ = drop left c.fold_lane-number.new.numbers.numbers in
    let next : zs ≡ drop c.loop-rest.unread c.loop-rest.numbers.numbers = c.skip.ensures.left in
    let to : Kind = kind_of a.to in let s = size_of to in let size = c.size-size.result in
    let one : m ≡ p + 1 = omega (arith, c.loop-rest-test.true) in
    let fits : FitsSigned w128 c.fold_lane-number.result.0 = search rules in
    let number : to_z w128 (of_z w128 c.fold_lane-number.result.0) ≡ wrap to (folded r (take n zs))
    = to_z-of_z fits ∙ c.fold_lane-number.ensures.number ∙ ap (λ k. wrap k (folded r (take n zs))) (sym c.requires.to) in
    let ys : List ℕ = bytes_of c.little.result (to_z w128 (of_z w128 c.fold_lane-number.result.0)) in
    let bytes_are : ys ≡ bytes_of (little to) (wrap to (folded r (take n zs))) = λ i. bytes_of (c.little.ensures i) (number i) in
    let long : length ys ≡ s = ap length bytes_are ∙ length-bytes_of (little to) (wrap to (folded r (take n zs))) in
    let eight : s ≤ 8 = omega (arith, c.size-size.ensures.value, c.size-size.ensures.range) in
    let part : take size c.store_at.new.bytes ≡ ys
    = ap (take size) c.store_at.ensures.bytes ∙ place_more c.loop-rest.bytes ys [] size 0 (omega arith) (omega (arith, c.size-size.ensures.value, long)) refl in
    let whole : length zs ≡ p * n + n = ap length next ∙ is.numbers ∙ ap (λ k. k * n) one ∙ omega arith in
    let room : m * s ≡ p * s + s = ap (λ k. k * s) one ∙ omega arith in
    record {
      unread = c.fold_lane-number.ensures.unread;
      numbers = ap length c.fold_lane-number.ensures.left ∙ length-drop n zs ∙ omega (arith, whole);
      size = c.fold_lane-number.ensures.size ∙ c.skip.ensures.size ∙ is.size;
      buffer = c.fold_lane-number.auto.buffer ∙ c.skip.auto.buffer ∙ is.buffer;
      bytes = c.store_at.ensures.len ∙ is.bytes;
      room = omega (arith, is.room, room, c.push.ensures.left, ap length part, long);
      written = ap (λ l. l ++ fold_bytes r to (lanes_in n p after)) (c.push.ensures.written ∙ ap (λ l. c.loop-rest.out.0 ++ l) (part ∙ bytes_are))
          ∙ append_assoc c.loop-rest.out.0 (bytes_of (little to) (wrap to (folded r (take n zs)))) (fold_bytes r to (lanes_in n p after))
          ∙ ap (λ l. c.loop-rest.out.0 ++ fold_bytes r to (take n zs ∷ lanes_in n p l)) c.fold_lane-number.ensures.left
          ∙ ap (λ l. c.loop-rest.out.0 ++ fold_bytes r to l) (sym (next_lane n m zs (omega (arith, c.loop-rest-test.true))))
          ∙ ap (λ l. c.loop-rest.out.0 ++ fold_bytes r to (lanes_in n m l)) next ∙ is.written;
    }
