use Rattle.std.proofs.Common.{◌≡◌, ℕ, ◌<◌, ◌≤◌, ◌^◌, ◌++◌, map, length, get_or, pos, to_z, of_z, ap, ◌∙◌, arith, take_all}
use Rattle.std.specs.Prelude.{◌+ℤ◌, ◌*ℤ◌}
use Rattle.std.specs.Int.{w64}
use Rattle.std.proofs.lemmas.Int.{ints, fits_signed_from_abs}
use Rattle.nd_places.specs.Near.{place_on}
use Rattle.nd_places.proofs.Found.{near_product}
use Rattle.nd_index.proofs.offsets.NearWays.{product, held}
use Rattle.nd_index.proofs.offsets.Pushed.{mapped_again}
use Rattle.nd_index.proofs.offsets.near.push_on_line.Goals as goal

pub overflow_mul-number : goal.overflow_mul-number
overflow_mul-number c =
    let line = c.args.line in let n : ℕ = get_or c.args.numbers.now c.loop-number.number-index 0 in
    let few : n ≤ 2 ^ 32 = c.requires c.loop-number.number-index 0 (omega (arith, c.loop-number-test.true)) in
    rw (product n line.step few line.step_near) (fits_signed_from_abs w64 (pos n *ℤ line.step) (omega (arith, near_product n line.step few line.step_near)))

pub overflow_add-line : goal.overflow_add-line
overflow_add-line c =
    let line = c.args.line in let n : ℕ = get_or c.args.numbers.now c.loop-number.number-index 0 in
    let few : n ≤ 2 ^ 32 = c.requires c.loop-number.number-index 0 (omega (arith, c.loop-number-test.true)) in
    fits_signed_from_abs w64 _ (omega (arith, ints, held n line.step few line.step_near, near_product n line.step few line.step_near, line.start_near))

pub loop-number-preserved : goal.loop-number-preserved
loop-number-preserved c =
    let numbers = c.args.numbers.now in let k = c.loop-number.number-index in let line = c.args.line in
    let lt : k < length numbers = omega (arith, c.loop-number-test.true) in
    let n : ℕ = get_or numbers k 0 in
    let few : n ≤ 2 ^ 32 = c.requires k 0 lt in
    let sum : to_z w64 (of_z w64 (to_z w64 (of_z w64 line.start) +ℤ to_z w64 (of_z w64 (to_z w64 n *ℤ to_z w64 (of_z w64 line.step))))) ≡ line.start +ℤ (pos n *ℤ line.step)
    = omega (arith, ints, held n line.step few line.step_near, near_product n line.step few line.step_near, line.start_near) in
    mapped_again (λ n. place_on (line.start +ℤ (pos n *ℤ line.step))) numbers k 0 c.args.places.now.items c.loop-number.places.items c.push.new.self.items _ lt c.in_ok-push.ensures.items
    (c.near_place.ensures ∙ ap place_on sum) c.loop-number.invariant

pub returns : goal.returns
returns c = c.loop-number.invariant ∙ ap (λ ns. c.args.places.now.items ++ map (λ n. place_on (c.args.line.start +ℤ (pos n *ℤ c.args.line.step))) ns) (take_all c.loop-number.number-index c.args.numbers.now c.loop-number-test.false)
