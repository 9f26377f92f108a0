use Rattle.std.proofs.Common.{◌≡◌, pos, to_z, of_z, ap, ◌∙◌, arith}
use Rattle.std.specs.Prelude.{◌+ℤ◌, ◌*ℤ◌}
use Rattle.std.specs.Int.{w64}
use Rattle.std.proofs.lemmas.Int.{ints}
use Rattle.nd_places.specs.Near.{place_on}
use Rattle.nd_places.proofs.Found.{near_product}
use Rattle.nd_scatter.proofs.masked.place_at.Goals as goal

pub returns-else-is_row : goal.returns-else-is_row
returns-else-is_row c =
    let line = c.args.line in let n = c.args.number in
    let step : to_z w64 (of_z w64 line.step) ≡ line.step = omega (arith, ints, line.step_near) in
    let way : to_z w64 (of_z w64 (to_z w64 n *ℤ to_z w64 (of_z w64 line.step))) ≡ pos n *ℤ line.step
    = (let whole : to_z w64 n ≡ pos n = omega (arith, ints, c.requires.number) in let same : to_z w64 n *ℤ to_z w64 (of_z w64 line.step) ≡ pos n *ℤ line.step = (λ i. whole i *ℤ step i) in
    omega (arith, ints, same, near_product n line.step c.requires.number line.step_near)) in
    let sum : to_z w64 (of_z w64 (to_z w64 (of_z w64 line.start) +ℤ to_z w64 (of_z w64 (to_z w64 n *ℤ to_z w64 (of_z w64 line.step))))) ≡ line.start +ℤ (pos n *ℤ line.step)
    = omega (arith, ints, way, near_product n line.step c.requires.number line.step_near, line.start_near) in
    c.near_place.ensures ∙ ap place_on sum
