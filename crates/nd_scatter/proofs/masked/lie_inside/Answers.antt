use Rattle.std.proofs.Common.{◌≡◌, ℕ, ◌-◌, ◌^◌, ◌≤◌, pos, to_z, of_z, IsTrue, true, arith, rules}
use Rattle.std.specs.Prelude.{◌+ℤ◌, ◌-ℤ◌, ◌*ℤ◌, ◌≤ℤ◌}
use Rattle.std.specs.Int.{w64}
use Rattle.std.proofs.lemmas.Int.{ints}
use Rattle.nd_places.specs.declared.line.StridedLine.{StridedLine}
use Rattle.nd_places.proofs.Found.{near_product}
use Rattle.nd_scatter.proofs.Between.{not_before, not_behind, place_inside}
use Rattle.nd_scatter.proofs.masked.lie_inside.Goals as goal

start_is : (line : StridedLine) → to_z w64 (of_z w64 line.start) ≡ line.start
start_is line = omega (arith, ints, line.start_near)

end_is : (line : StridedLine) (n : ℕ) → n ≤ 2 ^ 24 → (n ≡ 0 → ⊥)
    → to_z w64 (of_z w64 (to_z w64 (of_z w64 line.start) +ℤ to_z w64 (of_z w64 (to_z w64 (of_z w64 (to_z w64 n -ℤ pos 1)) *ℤ to_z w64 (of_z w64 line.step))))) ≡ line.start +ℤ (pos (n - 1) *ℤ line.step)
end_is line n few some =
    let whole : to_z w64 (of_z w64 (to_z w64 n -ℤ pos 1)) ≡ pos (n - 1) = omega (arith, ints, few, some) in
    let step : to_z w64 (of_z w64 line.step) ≡ line.step = omega (arith, ints, line.step_near) in
    let same : to_z w64 (of_z w64 (to_z w64 n -ℤ pos 1)) *ℤ to_z w64 (of_z w64 line.step) ≡ pos (n - 1) *ℤ line.step = (λ i. whole i *ℤ step i) in
    let near = near_product (n - 1) line.step (omega (arith, few)) line.step_near in
    let way : to_z w64 (of_z w64 (to_z w64 (of_z w64 (to_z w64 n -ℤ pos 1)) *ℤ to_z w64 (of_z w64 line.step))) ≡ pos (n - 1) *ℤ line.step = omega (arith, ints, same, near) in
    omega (arith, ints, way, near, line.start_near)

pub returns-then-ends_inside-clause-ways : goal.returns-then-ends_inside-clause-ways
returns-then-ends_inside-clause-ways c = λ is k lt.
    let yes : IsTrue true = search rules in
    let line = c.args.line in let n = c.args.count in
    let first : pos 0 ≤ℤ line.start = omega (arith, ints, c.if-ends_inside.ensures.above yes, start_is line) in
    let last : pos 0 ≤ℤ (line.start +ℤ (pos (n - 1) *ℤ line.step)) = omega (arith, ints, c.ends_inside-then-ends_inside.ensures.above is, end_is line n c.requires.few c.if-count-eq0.false) in
    not_before line.start line.step k (n - 1) (omega (arith, lt)) first last

pub returns-then-ends_inside-clause-ends : goal.returns-then-ends_inside-clause-ends
returns-then-ends_inside-clause-ends c = λ is k lt.
    let yes : IsTrue true = search rules in
    let line = c.args.line in let n = c.args.count in let size = c.args.size in let len = c.args.len in
    let first : pos 0 ≤ℤ line.start = omega (arith, ints, c.if-ends_inside.ensures.above yes, start_is line) in
    let last : pos 0 ≤ℤ (line.start +ℤ (pos (n - 1) *ℤ line.step)) = omega (arith, ints, c.ends_inside-then-ends_inside.ensures.above is, end_is line n c.requires.few c.if-count-eq0.false) in
    let front : (line.start +ℤ pos size) ≤ℤ pos len = omega (arith, ints, c.if-ends_inside.ensures.inside yes, start_is line) in
    let back : ((line.start +ℤ (pos (n - 1) *ℤ line.step)) +ℤ pos size) ≤ℤ pos len = omega (arith, ints, c.ends_inside-then-ends_inside.ensures.inside is, end_is line n c.requires.few c.if-count-eq0.false) in
    let before : k ≤ n - 1 = omega (arith, lt) in
    place_inside (line.start +ℤ (pos k *ℤ line.step)) size len (not_before line.start line.step k (n - 1) before first last) (not_behind line.start line.step k (n - 1) size len before front back)
