use Rattle.std.proofs.Common.{◌≡◌, ◌+◌, ◌-◌, ◌^◌, ◌<◌, ◌≤◌, ℕ, List, Vec, Global, map, length, take, drop, sym, ap, subst, ◌∙◌, arith, length-take}
use Rattle.std.specs.List.{All}
use Rattle.std.specs.Prelude.{ℤ, ◌+ℤ◌, pos, unsigned_abs}
use Rattle.std.proofs.lemmas.List.{length-drop, length-map}
use Rattle.std.proofs.lemmas.List.Elements.{All-drop, All-take}
use Rattle.nd_model.specs.Indexing.Advanced.{unravelled}
use Rattle.nd_model.specs.Arrays.Broadcast.{own_tuple}
use Rattle.nd_model.specs.Arrays.Strides.{way_to}
use Rattle.nd_model.specs.Arrays.Tuple.{indices, number}
use Rattle.nd_view.proofs.Indexed.{length-indices}
use Rattle.nd_index.specs.Advanced.IndexNumbers.{numbers_in}
use Rattle.nd_index.specs.Advanced.Takes.{spread_of}
use Rattle.nd_index.specs.Advanced.TakenWays.{way_by}
use Rattle.nd_index.specs.Offsets.Ways.{sums_at, sums_of}
use Rattle.nd_index.proofs.advanced.Alike.{alike_led}
use Rattle.nd_index.proofs.offsets.Numbers.{some_of}
use Rattle.nd_index.proofs.offsets.Pushed.{ok_then}
use Rattle.nd_index.proofs.advanced.Spreads.{array_led, led_near}
use Rattle.nd_index.proofs.advanced.arrays.add_array.Goals as goal

pub ways_to-requires-clause-numbers : goal.ways_to-requires-clause-numbers
ways_to-requires-clause-numbers c = subst (All (λ k. k ≤ 2 ^ 32)) (sym (c.as_slice.ensures.value ∙ c.in_ok-chosen.ensures)) c.args.spread.now.near

pub ways_to-requires-clause-axes : goal.ways_to-requires-clause-axes
ways_to-requires-clause-axes c =
    let axis = c.args.axis in let axes = axis + c.args.spread.now.axes - axis in let sizes = c.args.sizes.now in let strides = c.args.strides.now in
    omega (arith, length-take axes (drop axis strides), length-take axes (drop axis sizes), length-drop axis strides, length-drop axis sizes, c.requires.axes)

pub ways_to-requires-clause-most : goal.ways_to-requires-clause-most
ways_to-requires-clause-most c =
    let axis = c.args.axis in let sizes = c.args.sizes.now in
    omega (arith, length-take (axis + c.args.spread.now.axes - axis) (drop axis sizes), length-drop axis sizes, c.requires.most)

pub ways_to-requires-clause-range : goal.ways_to-requires-clause-range
ways_to-requires-clause-range c =
    let axis = c.args.axis in let strides = c.args.strides.now in
    All-take (λ s. unsigned_abs s < 2 ^ 64) (axis + c.args.spread.now.axes - axis) (drop axis strides) (All-drop (λ s. unsigned_abs s < 2 ^ 64) axis strides c.requires.range)

pub ways_to-requires-clause-some : goal.ways_to-requires-clause-some
ways_to-requires-clause-some c = (some_of c.args.axis (c.args.axis + c.args.spread.now.axes - c.args.axis) c.args.sizes.now c.requires.some).0

pub ways_to-requires-clause-few : goal.ways_to-requires-clause-few
ways_to-requires-clause-few c = omega (arith, (some_of c.args.axis (c.args.axis + c.args.spread.now.axes - c.args.axis) c.args.sizes.now c.requires.some).1, c.requires.few)

pub add_each-requires-clause-near : goal.add_each-requires-clause-near
add_each-requires-clause-near c =
    let axis = c.args.axis in let axes = c.args.spread.now.axes in let sizes = c.args.sizes.now in let strides = c.args.strides.now in
    let own = c.as_slice-then-is_same_shape.ensures.value ∙ c.in_ok-own.ensures
    ∙ ap (map (λ k. way_to (unravelled (take (axis + axes - axis) (drop axis sizes)) k) (take (axis + axes - axis) (drop axis strides)))) (c.as_slice.ensures.value ∙ c.in_ok-chosen.ensures) in
    (c.requires.near, led_near (numbers_in c.args.spread.now.numbers) sizes strides c.as_slice-then-is_same_shape.result.now axis axes own c.args.spread.now.near c.requires.most c.requires.range)

pub returns-then-is_same_shape : goal.returns-then-is_same_shape
returns-then-is_same_shape c =
    let axis = c.args.axis in let axes = c.args.spread.now.axes in let many = c.args.many.now in let sizes = c.args.sizes.now in let strides = c.args.strides.now in
    let own = c.as_slice-then-is_same_shape.ensures.value ∙ c.in_ok-own.ensures
    ∙ ap (map (λ k. way_to (unravelled (take (axis + axes - axis) (drop axis sizes)) k) (take (axis + axes - axis) (drop axis strides)))) (c.as_slice.ensures.value ∙ c.in_ok-chosen.ensures) in
    let same = sym c.as_slice-2.ensures ∙ c.is_same_shape.ensures.0 c.if-is_same_shape.true in
    ok_then {X = Vec ℤ Global} (λ v. v.items ≡ sums_of c.args.ways.now c.as_slice-then-is_same_shape.result.now)
    (λ v. (f : List ℕ → ℤ) → c.args.ways.now ≡ map f (indices many) → v.items ≡ map (λ m. f m +ℤ way_by (spread_of c.args.spread.now) (drop axis sizes) (drop axis strides) m) (indices many)) c.add_each.result
    (λ v is f were. alike_led c.args.spread.now.shape.items (numbers_in c.args.spread.now.numbers) many sizes strides axis axes c.args.ways.now c.as_slice-then-is_same_shape.result.now v.items f own same (sym c.args.spread.now.all ∙ c.args.spread.now.whole) is were) c.add_each.ensures

pub add_ways-requires-clause-each : goal.add_ways-requires-clause-each
add_ways-requires-clause-each c =
    ap length c.as_slice-5.ensures.value ∙ ap length c.in_ok-numbers.ensures ∙ length-map (indices c.args.many.now) _ ∙ length-indices c.args.many.now ∙ sym c.requires.each

pub add_ways-requires-clause-near : goal.add_ways-requires-clause-near
add_ways-requires-clause-near c =
    let axis = c.args.axis in let axes = c.args.spread.now.axes in let sizes = c.args.sizes.now in let strides = c.args.strides.now in
    let own = c.as_slice-4.ensures.value ∙ c.in_ok-own.ensures
    ∙ ap (map (λ k. way_to (unravelled (take (axis + axes - axis) (drop axis sizes)) k) (take (axis + axes - axis) (drop axis strides)))) (c.as_slice.ensures.value ∙ c.in_ok-chosen.ensures) in
    (c.requires.near, led_near (numbers_in c.args.spread.now.numbers) sizes strides c.as_slice-4.result.now axis axes own c.args.spread.now.near c.requires.most c.requires.range)

pub returns : goal.returns
returns c =
    let axis = c.args.axis in let axes = c.args.spread.now.axes in let many = c.args.many.now in let sizes = c.args.sizes.now in let strides = c.args.strides.now in
    let own = c.as_slice-4.ensures.value ∙ c.in_ok-own.ensures
    ∙ ap (map (λ k. way_to (unravelled (take (axis + axes - axis) (drop axis sizes)) k) (take (axis + axes - axis) (drop axis strides)))) (c.as_slice.ensures.value ∙ c.in_ok-chosen.ensures) in
    let numbers = c.as_slice-5.ensures.value ∙ c.in_ok-numbers.ensures ∙ ap (λ s. map (λ m. pos (number s (own_tuple s m))) (indices many)) c.as_slice-3.ensures in
    ok_then {X = Vec ℤ Global} (λ v. v.items ≡ sums_at c.as_slice-4.result.now c.args.ways.now c.as_slice-5.result.now)
    (λ v. (f : List ℕ → ℤ) → c.args.ways.now ≡ map f (indices many) → v.items ≡ map (λ m. f m +ℤ way_by (spread_of c.args.spread.now) (drop axis sizes) (drop axis strides) m) (indices many)) c.add_ways.result
    (λ v is f were. array_led c.args.spread.now.shape.items (numbers_in c.args.spread.now.numbers) many sizes strides axis axes c.args.ways.now c.as_slice-4.result.now c.as_slice-5.result.now v.items f own numbers is were) c.add_ways.ensures
