use Rattle.std.proofs.lemmas.Grind.{common_steps}
use Rattle.std.proofs.Common.{◌≡◌, ℕ, ℤ, ◌+◌, ◌*◌, ◌<◌, ◌≤◌, ◌^◌, List, [], ◌++◌, length, take, drop, sym, ap, ◌∙◌, arith, append_assoc, length-take, subst}
use Rattle.std.proofs.Math.Nat.{mul-le-mul_right}
use Rattle.std.proofs.Math.Seq.{take-append_seam}
use Rattle.std.proofs.lemmas.List.{length-take-le}
use Rattle.nd_model.specs.Grammar.Calls.{Reduction}
use Rattle.nd_model.specs.Arrays.Element.{Kind, size_of}
use Rattle.nd_types.specs.Kinds.{kind_of}
use Rattle.nd_ufunc.specs.Loops.Sides.{numbers_on}
use Rattle.nd_reduce.specs.Folds.Lanes.{number_bytes, prefix_bytes, prefix_folds}
use Rattle.nd_reduce.proofs.folds.Prefixed.{more_folds}
use Rattle.nd_reduce.proofs.folds.Taken.{length-numbers, taken_more, left_more}
use Rattle.nd_reduce.proofs.folds.prefixes.accumulate_lane.Goals as goal

pub loop-done-preserved : goal.loop-done-preserved
loop-done-preserved g c =
    let a = c.args in let is = c.loop-done.invariant in let zs : List ℤ = a.numbers.now.numbers in let now : List ℤ = c.loop-done.numbers.numbers in
    let n = c.min-some.result in let done = c.loop-done.done in let front : List ℤ = numbers_on c.take-side.result n in let rest : List ℤ = c.take-side.new.self.numbers in
    let to : Kind = kind_of a.to in let r : Reduction = g.F.FoldStep.reduction in let s = size_of to in let size = c.size-size.result in
    let folds = c.loop-done.folds in let part : List ℕ = c.accumulate_side-fold.new.out in
    let joined : take done zs ++ front ≡ take (done + n) zs = taken_more zs now front rest done n is.left c.take-side.ensures.split (length-numbers c.take-side.result n) in
    let few : n ≤ a.chunk = omega (arith, c.min-some.ensures) in
    let most : n * s ≤ a.chunk * s = mul-le-mul_right s few in
    let bytes : n * size ≡ n * s = ap (λ m. n * m) c.size-size.ensures.value in
    let long : length part ≡ n * size = c.accumulate_side-fold.auto.out ∙ length-take-le (n * size) folds (omega (arith, most, bytes, c.requires.folds, c.loop-done.auto.folds)) in
    let pushed : take (n * size) (part ++ drop (n * size) folds) ≡ part = ap (λ m. take m (part ++ drop (n * size) folds)) (sym long) ∙ take-append_seam part (drop (n * size) folds) in
    let short : length (take done zs) + n < 2 ^ 64 = omega (arith, length-take done zs, c.min-some.ensures, c.requires.few, c.requires.enough, is.within, c.loop-done-test.true) in
    let more : (done + n) * s ≡ done * s + n * s = omega arith in
    record {
      within = omega (arith, c.min-some.ensures, c.loop-done-test.true);
      taken = subst (g.F.FoldStep.has_taken c.accumulate_side-fold.result) joined (c.accumulate_side-fold.ensures.taken (take done zs) is.taken);
      left = left_more zs now front rest done n is.left c.take-side.ensures.split (length-numbers c.take-side.result n);
      size = c.take-side.ensures.kind ∙ is.size;
      room = omega (arith, is.room, c.push.ensures.left, ap length pushed, long, bytes, more);
      written = c.push.ensures.written ∙ ap (λ l. c.loop-done.out.0 ++ l) (pushed ∙ c.accumulate_side-fold.ensures.bytes (take done zs) short is.taken)
          ∙ ap (λ l. l ++ number_bytes to (prefix_folds r (take done zs) front)) is.written
          ∙ append_assoc a.out.now.0 (prefix_bytes r to (take done zs)) (number_bytes to (prefix_folds r (take done zs) front))
          ∙ ap (λ l. a.out.now.0 ++ l) (sym (more_folds r to [] (take done zs) front) ∙ ap (prefix_bytes r to) joined);
    }

pub overflow_mul-end : goal.overflow_mul-end
overflow_mul-end g c = grind (arith, common_steps)

pub slice_bounds-accumulate_side-end-in-loop-done : goal.slice_bounds-accumulate_side-end-in-loop-done
slice_bounds-accumulate_side-end-in-loop-done g c = grind (arith, common_steps)

pub slice_bounds-push-end : goal.slice_bounds-push-end
slice_bounds-push-end g c = grind (arith, common_steps)

pub slice_bounds-push-end-in-loop-done : goal.slice_bounds-push-end-in-loop-done
slice_bounds-push-end-in-loop-done g c = grind (arith, common_steps)

pub push-requires : goal.push-requires
push-requires g c = grind (arith, common_steps)

pub take-side-requires-clause-enough : goal.take-side-requires-clause-enough
take-side-requires-clause-enough g c = grind (arith, common_steps)

pub take-side-requires-clause-buffer : goal.take-side-requires-clause-buffer
take-side-requires-clause-buffer g c = grind (arith, common_steps)
