use Rattle.std.proofs.Common.{◌≡◌, ℕ, List, pos, ◌<◌, length, get_or, refl, sym, ap, arith}
use Rattle.nd_model.specs.Arrays.Runs.{place_at}
use Rattle.nd_view.proofs.SideBySide.{by_step}
use Rattle.nd_scatter.proofs.numbers.are_side_by_side.Goals as goal

pub returns-clause-places : goal.returns-clause-places
returns-clause-places c = λ yes.
    let ps : List ℕ = c.args.places.now in
    let each : (k : ℕ) → k < length ps → place_at (get_or ps 0 0) (pos c.args.size) k ≡ pos (get_or ps k 0)
    = λ k lt. sym (ap pos (c.loop-index.invariant.same yes k (omega (arith, lt, c.loop-index-test.false, c.loop-index.auto.index-end)))) in
    by_step ps (pos c.args.size) c.args.size each refl
