use Rattle.std.proofs.lemmas.Grind.{common_steps}
use Rattle.std.proofs.Common.{◌≡◌, ℕ, ℤ, ◌+◌, ◌-◌, ◌*◌, ◌≤◌, List, ◌∷◌, ◌++◌, length, take, sym, ap, ◌∙◌, arith, append_assoc, length-drop}
use Rattle.std.proofs.Math.Nat.{mul-le-mul_right}
use Rattle.std.specs.List.{flat_map}
use Rattle.nd_model.specs.Grammar.Calls.{Reduction}
use Rattle.nd_model.specs.Arrays.Element.{Kind, size_of}
use Rattle.nd_types.specs.Kinds.{kind_of}
use Rattle.nd_reduce.specs.Folds.Lanes.{lanes_in, prefix_bytes}
use Rattle.nd_reduce.proofs.folds.Sliced.{next_lane}
use Rattle.nd_reduce.proofs.folds.prefixes.accumulate_lanes.Goals as goal

pub loop-rest-preserved : goal.loop-rest-preserved
loop-rest-preserved g c =
    let a = c.args in let is = c.loop-rest.invariant in let m = c.loop-rest.rest in let p : ℕ = m - 1 in let n = a.count in let r : Reduction = g.F.FoldStep.reduction in
    let zs : List ℤ = c.loop-rest.numbers.numbers in let after : List ℤ = c.accumulate_lane.new.numbers.numbers in let to : Kind = kind_of a.to in let s = size_of to in
    let one : m ≡ p + 1 = omega (arith, c.loop-rest-test.true) in
    let whole : length zs ≡ p * n + n = is.numbers ∙ ap (λ k. k * n) one ∙ omega arith in
    let room : m * n * s ≡ p * n * s + n * s = ap (λ k. k * n * s) one ∙ omega arith in
    record {
      numbers = ap length c.accumulate_lane.ensures.left ∙ length-drop n zs ∙ omega (arith, whole);
      size = c.accumulate_lane.ensures.size ∙ is.size;
      buffer = c.accumulate_lane.auto.buffer ∙ is.buffer;
      folds = c.accumulate_lane.auto.folds ∙ is.folds;
      room = omega (arith, is.room, room, c.accumulate_lane.ensures.room);
      written = ap (λ l. l ++ flat_map (prefix_bytes r to) (lanes_in n p after)) c.accumulate_lane.ensures.written
          ∙ append_assoc c.loop-rest.out.0 (prefix_bytes r to (take n zs)) (flat_map (prefix_bytes r to) (lanes_in n p after))
          ∙ ap (λ l. c.loop-rest.out.0 ++ flat_map (prefix_bytes r to) (take n zs ∷ lanes_in n p l)) c.accumulate_lane.ensures.left
          ∙ ap (λ l. c.loop-rest.out.0 ++ flat_map (prefix_bytes r to) l) (sym (next_lane n m zs (omega (arith, c.loop-rest-test.true))))
          ∙ is.written;
    }

pub accumulate_lane-requires-clause-enough : goal.accumulate_lane-requires-clause-enough
accumulate_lane-requires-clause-enough g c =
    let n = c.args.count in let le : 1 * n ≤ c.loop-rest.rest * n = mul-le-mul_right n (omega (arith, c.loop-rest-test.true)) in omega (arith, le, c.loop-rest.invariant.numbers)

pub accumulate_lane-requires-clause-room : goal.accumulate_lane-requires-clause-room
accumulate_lane-requires-clause-room g c =
    let m = c.loop-rest.rest in let n = c.args.count in let s = size_of (kind_of c.args.to) in
    let le : 1 * (n * s) ≤ m * (n * s) = mul-le-mul_right (n * s) (omega (arith, c.loop-rest-test.true)) in let turned : m * (n * s) ≡ m * n * s = omega arith in
    omega (arith, le, turned, c.loop-rest.invariant.room)

pub accumulate_lane-requires-clause-buffer : goal.accumulate_lane-requires-clause-buffer
accumulate_lane-requires-clause-buffer g c = grind (arith, common_steps)

pub accumulate_lane-requires-clause-folds : goal.accumulate_lane-requires-clause-folds
accumulate_lane-requires-clause-folds g c = grind (arith, common_steps)

pub slice_bounds-accumulate_lane-end-in-loop-rest : goal.slice_bounds-accumulate_lane-end-in-loop-rest
slice_bounds-accumulate_lane-end-in-loop-rest g c = grind (arith, common_steps)
