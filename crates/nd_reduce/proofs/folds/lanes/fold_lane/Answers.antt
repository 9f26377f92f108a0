use Rattle.std.proofs.Common.{rules, ◌≡◌, ℤ, ◌+◌, ◌-◌, ◌<◌, ◌^◌, List, FitsSigned, sym, ap, ◌∙◌, arith, subst, length, take, drop, length-drop}
use Rattle.std.specs.Int.{w128}
use Rattle.std.proofs.Math.Seq.{take-add}
use Rattle.std.proofs.lemmas.List.{drop-drop, length-take}
use mir.Facts.{to_z-of_z}
use Rattle.nd_ufunc.specs.Loops.Sides.{numbers_on}
use Rattle.nd_reduce.proofs.folds.Taken.{length-numbers, taken_more, left_more}
use Rattle.nd_reduce.proofs.folds.lanes.fold_lane.Goals as goal
use Rattle.nd_reduce.proofs.folds.lanes.fold_lane.Goals.{then-loop-done-test+else-not-is_settled, else-loop-done-test}

pub loop-done-preserved : goal.loop-done-preserved
loop-done-preserved g c =
    let is = c.loop-done.invariant in let zs : List ℤ = c.args.numbers.now.numbers in let now : List ℤ = c.loop-done.numbers.numbers in
    let n = c.min-some.result in let done = c.loop-done.done in let front : List ℤ = numbers_on c.take-side.result n in let rest : List ℤ = c.take-side.new.self.numbers in
    record {
      within = omega (arith, c.min-some.ensures, c.loop-done-test.true);
      taken = subst (g.F.FoldStep.has_taken c.fold_side-fold.result) (taken_more zs now front rest done n is.left c.take-side.ensures.split (length-numbers c.take-side.result n)) (c.fold_side-fold.ensures (take done zs) is.taken);
      left = left_more zs now front rest done n is.left c.take-side.ensures.split (length-numbers c.take-side.result n);
      size = c.take-side.ensures.kind ∙ is.size;
    }

pub returns : goal.returns
returns g c =
    let is = c.loop-done.invariant in let zs : List ℤ = c.args.numbers.now.numbers in let n = c.args.count in let done = c.loop-done.done in
    let all : done + (n - done) ≡ n = omega (arith, is.within) in
    let taken : g.F.FoldStep.has_taken c.loop-done.fold (take n zs) = elim c.loop-done-test.branch [
      | then-loop-done-test+else-not-is_settled w ↦
          let rest : List ℤ = take (n - done) (drop done zs) in
          subst (g.F.FoldStep.has_taken c.loop-done.fold) (sym (take-add done (n - done) zs) ∙ ap (λ m. take m zs) all) (w.is_settled.ensures (take done zs) rest w.if-not-is_settled.false is.taken)
      | else-loop-done-test w ↦ let end : done ≡ n = omega (arith, is.within, w.loop-done-test.false) in subst (λ m. g.F.FoldStep.has_taken c.loop-done.fold (take m zs)) end is.taken
    ] in
    let few : length (take n zs) < 2 ^ 64 = omega (arith, length-take n zs, c.requires.few) in let fits : FitsSigned w128 c.result.result = search rules in
    record {
      number = to_z-of_z fits ∙ c.result.ensures (take n zs) few taken;
      unread = omega (arith, ap length is.left, length-drop done zs, c.requires.enough);
      left = ap (drop (n - done)) is.left ∙ drop-drop (n - done) done zs ∙ ap (λ m. drop m zs) all;
      size = is.size;
    }
