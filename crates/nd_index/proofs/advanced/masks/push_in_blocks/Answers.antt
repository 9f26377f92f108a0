use Rattle.std.proofs.Common.{◌≡◌, ℕ, ◌+◌, ◌-◌, ◌*◌, ◌/◌, ◌^◌, ◌<◌, ◌≤◌, length, get_or, pos, to_z, of_z, sym, ap, ◌∙◌, arith}
use Rattle.std.specs.Prelude.{ℤ, ◌+ℤ◌, ◌*ℤ◌, unsigned_abs}
use Rattle.std.specs.Int.{w64, w128}
use Rattle.std.proofs.lemmas.Int.{ints, fits_signed_from_abs}
use Rattle.nd_places.proofs.Found.{near_product}
use Rattle.nd_index.specs.Offsets.RowPlaces.{HasBlocks, IsFront, row_places, way_on}
use Rattle.nd_index.specs.declared.offsets.axes.Axes.{Axes}
use Rattle.nd_index.proofs.offsets.NearWays.{product, held, near_on}
use Rattle.nd_index.proofs.offsets.Pushed.{joined_again}
use Rattle.nd_index.proofs.advanced.masks.push_in_blocks.Goals as goal

-- the way of an element by that of the front of its block
behind : (axes : Axes) (count first n : ℕ) (way step : ℤ) → HasBlocks axes count step → IsFront axes count first way → first ≤ n → n < first + count
    → way_on axes n ≡ way +ℤ (pos (n - first) *ℤ step)
behind axes count first n way step blocks front from within =
    let at : n ≡ first / count * count + (n - first) = omega (arith, front.0, from) in
    ap (way_on axes) at ∙ blocks (first / count) (n - first) (omega (arith, from, within))
    ∙ (λ i. (ap (way_on axes) front.0 ∙ sym front.1) i +ℤ (pos (n - first) *ℤ step))

-- as the code has it
summed : (way rest z step : ℤ) → unsigned_abs way ≤ 2 ^ 112 → rest ≡ z → unsigned_abs z ≤ 2 ^ 61
    → to_z w128 (of_z w128 (to_z w128 (of_z w128 way) +ℤ to_z w128 (of_z w128 rest))) ≡ way +ℤ z
summed way rest z step near is small = omega (arith, ints, near, is, small)

pub invariant_of-front : goal.invariant_of-front
invariant_of-front c = record { low = c.loop-number.invariant.low; near_front = c.loop-number.invariant.near }

pub overflow_mul-behind : goal.overflow_mul-behind
overflow_mul-behind c =
    let block = c.even_block-block.result in let front = c.front_of-front.result in
    let n : ℕ = get_or c.args.numbers.now c.loop-number.number-index 0 in
    let few : n ≤ 2 ^ 32 = c.requires c.loop-number.number-index 0 (omega (arith, c.loop-number-test.true)) in
    let r : ℕ = n - front.number in let low : r ≤ 2 ^ 32 = omega (arith, few) in
    rw (product r block.step low block.near) (fits_signed_from_abs w64 (pos r *ℤ block.step) (omega (arith, near_product r block.step low block.near)))

pub overflow_add-front : goal.overflow_add-front
overflow_add-front c =
    let block = c.even_block-block.result in let front = c.front_of-front.result in
    let n : ℕ = get_or c.args.numbers.now c.loop-number.number-index 0 in
    let few : n ≤ 2 ^ 32 = c.requires c.loop-number.number-index 0 (omega (arith, c.loop-number-test.true)) in
    let r : ℕ = n - front.number in let low : r ≤ 2 ^ 32 = omega (arith, few) in
    let rest : c.from.result ≡ pos r *ℤ block.step = c.from.ensures ∙ held r block.step low block.near in
    fits_signed_from_abs w128 _ (omega (arith, ints, rest, near_product r block.step low block.near, front.near_front))

pub push_row-requires : goal.push_row-requires
push_row-requires c =
    let block = c.even_block-block.result in let front = c.front_of-front.result in let axes = c.args.axes.now in
    let n : ℕ = get_or c.args.numbers.now c.loop-number.number-index 0 in
    let few : n ≤ 2 ^ 32 = c.requires c.loop-number.number-index 0 (omega (arith, c.loop-number-test.true)) in
    let r : ℕ = n - front.number in let low : r ≤ 2 ^ 32 = omega (arith, few) in
    let rest : c.from.result ≡ pos r *ℤ block.step = c.from.ensures ∙ held r block.step low block.near in
    let own = behind axes block.count front.number n front.way block.step c.even_block-block.ensures c.front_of-front.ensures.front c.front_of-front.ensures.inside.0 c.front_of-front.ensures.inside.1 in
    rw (summed front.way c.from.result _ block.step front.near_front rest (near_product r block.step low block.near), sym own) (near_on axes n few)

pub loop-number-preserved : goal.loop-number-preserved
loop-number-preserved c =
    let block = c.even_block-block.result in let front = c.front_of-front.result in let axes = c.args.axes.now in let row = c.args.row.now in
    let numbers = c.args.numbers.now in let k = c.loop-number.number-index in
    let lt : k < length numbers = omega (arith, c.loop-number-test.true) in
    let n : ℕ = get_or numbers k 0 in
    let few : n ≤ 2 ^ 32 = c.requires k 0 lt in
    let r : ℕ = n - front.number in let low : r ≤ 2 ^ 32 = omega (arith, few) in
    let rest : c.from.result ≡ pos r *ℤ block.step = c.from.ensures ∙ held r block.step low block.near in
    let own = behind axes block.count front.number n front.way block.step c.even_block-block.ensures c.front_of-front.ensures.front c.front_of-front.ensures.inside.0 c.front_of-front.ensures.inside.1 in
    let sum = summed front.way c.from.result _ block.step front.near_front rest (near_product r block.step low block.near) ∙ sym own in
    record {
      low = front.low;
      near = front.near_front;
      front = c.front_of-front.ensures.front;
      done = joined_again (λ m. row_places row (way_on axes m)) numbers k 0 c.args.places.now.items c.loop-number.places.items c.push_row.new.places.items (row_places row _) lt
          c.in_ok-push_row.ensures (ap (row_places row) sum) c.loop-number.invariant.done;
    }
