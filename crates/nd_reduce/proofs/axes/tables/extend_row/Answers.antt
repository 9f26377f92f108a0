use Rattle.std.proofs.lemmas.Grind.{common_steps}
use Rattle.std.proofs.Common.{◌≡◌, ℕ, ◌+◌, ◌-◌, ◌*◌, ◌≤◌, ℤ, Option, List, length, take, drop, refl, arith, ◌∙◌, length-drop}
use Rattle.std.proofs.Math.Nat.{mul-le-mul_left, mul-le-mul_right}
use Rattle.std.proofs.lemmas.List.{length-take-le}
use Rattle.nd_model.specs.Grammar.Calls.{Reduction}
use Rattle.nd_model.specs.Arrays.Element.{Kind}
use Rattle.nd_types.specs.Kinds.{kind_of}
use Rattle.nd_ufunc.specs.Loops.Sides.{numbers_on}
use Rattle.nd_reduce.specs.Axes.Tables.{AreFolds, best_size}
use Rattle.nd_reduce.proofs.axes.Parts.{bests_after, bests_before, part_after, part_before, start_bests, start_row, whole_bests, whole_row}
use Rattle.nd_reduce.proofs.axes.Tabled.{part_folds}
use Rattle.nd_reduce.proofs.folds.Taken.{length-numbers, left_more, taken_more}
use Rattle.nd_reduce.proofs.axes.tables.extend_row.Goals as goal

pub loop-done-init : goal.loop-done-init
loop-done-init g c =
    let a = c.args in let zs : List ℤ = a.numbers.now.numbers in
    record {
      within = omega arith;
      left = refl;
      kind = refl;
      folds = λ columns long are. start_row g.F.FoldStep.reduction (kind_of a.to) columns zs a.folds.now;
      bests = λ columns long are. start_bests (kind_of a.kind) columns zs a.bests.now g.F.Best.Bests.kept;
    }

pub loop-done-preserved : goal.loop-done-preserved
loop-done-preserved g c =
    let a = c.args in let is = c.loop-done.invariant in let zs : List ℤ = a.numbers.now.numbers in let now : List ℤ = c.loop-done.numbers.numbers in
    let d = c.loop-done.done in let n = c.min-some.result in let front : List ℤ = numbers_on c.take-side.result n in let rest : List ℤ = c.take-side.new.self.numbers in
    let r : Reduction = g.F.FoldStep.reduction in let b : Option Reduction = g.F.Best.Bests.kept in let k : Kind = kind_of a.to in let kind : Kind = kind_of a.kind in
    let size = c.size-size.result in let bytes = c.size-size.ensures.value in let best = c.size-best_size.result in let best_bytes = c.size-best_size.ensures.value in
    let first : List ℕ = a.folds.now in let out = c.loop-done.folds in let best_first : List ℕ = a.bests.now in let best_out = c.loop-done.bests in
    let inside : d + n ≤ a.width = omega (arith, c.min-some.ensures, c.loop-done-test.true) in
    let long_front : length front ≡ n = length-numbers c.take-side.result n in
    let joined = taken_more zs now front rest d n is.left c.take-side.ensures.split long_front in
    let part : List ℕ = take ((d + n) * size - d * size) (drop (d * size) out) in
    let best_part : List ℕ = take ((d + n) * best - d * best) (drop (d * best) best_out) in
    let fits : (columns : List (List ℤ)) → length columns ≡ a.width → d + n ≤ length columns = λ columns long. omega (arith, inside, long) in
    let enough : (columns : List (List ℤ)) → length columns ≡ a.width → length columns ≤ length zs = λ columns long. omega (arith, long, c.requires.enough) in
    let long_next : (columns : List (List ℤ)) → length columns ≡ a.width → length (take n (drop d columns)) ≡ n
    = λ columns long. length-take-le n (drop d columns) (omega (arith, fits columns long, length-drop d columns)) in
    let parts : (columns : List (List ℤ)) → length columns ≡ a.width → AreFolds r b kind k a.taken first best_first columns → AreFolds r b kind k a.taken part best_part (take n (drop d columns))
    = λ columns long are.
    part_folds r b kind k a.taken first best_first part best_part columns d n (fits columns long)
    (part_before r k columns zs first d n size out bytes (fits columns long) (enough columns long) (is.folds columns long are))
    (λ some. bests_before kind columns zs best_first d n best best_out (fits columns long) (enough columns long) b best_bytes (is.bests columns long are) (are.beside some)) are in
    record {
      within = inside;
      left = left_more zs now front rest d n is.left c.take-side.ensures.split long_front;
      kind = c.take-side.ensures.kind ∙ is.kind;
      folds = λ columns long are.
          part_after r k columns zs first d n size out bytes (fits columns long) (enough columns long) (is.folds columns long are) c.extend_part.new.part front joined
          (c.extend_part.ensures.folds (take n (drop d columns)) (long_next columns long) (parts columns long are));
      bests = λ columns long are.
          bests_after kind columns zs best_first d n best best_out (fits columns long) (enough columns long) b best_bytes (is.bests columns long are) c.extend_part.new.bests front joined
          (c.extend_part.ensures.bests (take n (drop d columns)) (long_next columns long) (parts columns long are));
    }

pub extend_part-requires-clause-found_bests : goal.extend_part-requires-clause-found_bests
extend_part-requires-clause-found_bests g c =
    let best : ℕ = best_size g.F.Best.Bests.kept (kind_of c.args.kind) in let n = c.min-some.result in let chunk = c.chunk_of-chunk.result in let most = c.max.result in
    let few : n ≤ chunk = omega (arith, c.min-some.ensures) in let small : best ≤ most = omega (arith, c.max.ensures, c.size-best_size.ensures.value) in
    let one : n * best ≤ chunk * best = mul-le-mul_right best few in let all : chunk * best ≤ chunk * most = mul-le-mul_left chunk small in
    omega (arith, one, all, c.chunk_of-chunk.ensures.right, c.requires.found)

pub returns-clause-folds : goal.returns-clause-folds
returns-clause-folds g c = λ columns long are.
    let a = c.args in let is = c.loop-done.invariant in
    is.folds columns long are
    ∙ whole_row g.F.FoldStep.reduction (kind_of a.to) columns a.numbers.now.numbers a.folds.now a.width c.loop-done.done (omega (arith, is.within, c.loop-done-test.false)) long c.requires.folds

pub returns-clause-bests : goal.returns-clause-bests
returns-clause-bests g c = λ columns long are.
    let a = c.args in let is = c.loop-done.invariant in
    whole_bests (kind_of a.kind) columns a.numbers.now.numbers a.bests.now g.F.Best.Bests.kept a.width c.loop-done.done c.loop-done.bests
    (omega (arith, is.within, c.loop-done-test.false)) long c.requires.bests (is.bests columns long are)

pub overflow_mul-part : goal.overflow_mul-part
overflow_mul-part g c = grind (arith, common_steps)

pub overflow_mul-part-in-loop-done : goal.overflow_mul-part-in-loop-done
overflow_mul-part-in-loop-done g c = grind (arith, common_steps)

pub overflow_mul-best_part : goal.overflow_mul-best_part
overflow_mul-best_part g c = grind (arith, common_steps)

pub overflow_mul-best_part-in-loop-done : goal.overflow_mul-best_part-in-loop-done
overflow_mul-best_part-in-loop-done g c = grind (arith, common_steps)

pub slice_bounds-part-start : goal.slice_bounds-part-start
slice_bounds-part-start g c = grind (arith, common_steps)

pub slice_bounds-part-end : goal.slice_bounds-part-end
slice_bounds-part-end g c = grind (arith, common_steps)

pub slice_bounds-best_part-start : goal.slice_bounds-best_part-start
slice_bounds-best_part-start g c = grind (arith, common_steps)

pub slice_bounds-best_part-end : goal.slice_bounds-best_part-end
slice_bounds-best_part-end g c = grind (arith, common_steps)

pub extend_part-requires-clause-part : goal.extend_part-requires-clause-part
extend_part-requires-clause-part g c = grind (arith, common_steps)

pub extend_part-requires-clause-bests : goal.extend_part-requires-clause-bests
extend_part-requires-clause-bests g c = grind (arith, common_steps)

pub extend_part-requires-clause-found : goal.extend_part-requires-clause-found
extend_part-requires-clause-found g c = grind (arith, common_steps)

pub take-side-requires-clause-enough : goal.take-side-requires-clause-enough
take-side-requires-clause-enough g c = grind (arith, common_steps)

pub take-side-requires-clause-buffer : goal.take-side-requires-clause-buffer
take-side-requires-clause-buffer g c = grind (arith, common_steps)
