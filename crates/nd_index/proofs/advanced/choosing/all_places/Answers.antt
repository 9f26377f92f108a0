use Rattle.std.proofs.Common.{◌≡◌, ◌+◌, ◌-◌, ◌<◌, ◌≤◌, ◌^◌, ℕ, List, map, length, take, drop, get_or, pos, replicate, sym, ap, subst, ◌∙◌, arith, rules}
use Rattle.std.specs.List.{All, flat_map}
use Rattle.std.specs.Prelude.{◌+ℤ◌}
use Rattle.std.specs.Result.{IfOk}
use Rattle.std.proofs.lemmas.List.{length-take-le, length-drop, length-take}
use Rattle.std.proofs.lemmas.List.Elements.{All-drop, All-take}
use Rattle.nd_model.specs.Indexing.Advanced.{chosen_source}
use Rattle.nd_model.specs.Arrays.Strides.{IsInLimits}
use Rattle.nd_model.specs.Arrays.Tuple.{elements_of, indices}
use Rattle.nd_model.specs.Arrays.View.{item_size, place_of}
use Rattle.nd_view.proofs.Counts.{none, some}
use Rattle.nd_view.proofs.Limits.{limits_of}
use Rattle.nd_view.proofs.Made.{axes}
use Rattle.nd_view.proofs.Steps.{number-below, zeros}
use Rattle.nd_view.proofs.Tuples.{no_tuples}
use Rattle.nd_types.specs.Types.{type_of}
use Rattle.nd_index.specs.Advanced.Takes.{kept_in, takes_of}
use Rattle.nd_index.specs.Advanced.TakenWays.{kept_strides, way_taken}
use Rattle.nd_index.specs.Offsets.Ways.{AreNear, ways}
use Rattle.nd_places.specs.Near.{place_on}
use Rattle.nd_index.proofs.advanced.Placed.{limit, placed}
use Rattle.nd_index.proofs.offsets.Pushed.{ok_then, rest_of}
use Rattle.nd_index.proofs.advanced.Spreads.{cut, in_range, kept_range, length-kept_strides}
use Rattle.nd_index.proofs.offsets.Sums.{few_lengths, ways_near}
use Rattle.nd_index.proofs.advanced.choosing.all_places.Goals as goal

few : (size : ℕ) (shape : List ℕ) → IsInLimits size shape → All (λ n. n ≤ 2 ^ 32) shape
few size shape limits = few_lengths shape (limits_of size shape limits).lengths

pub returns-then-contains-clause-value : goal.returns-then-contains-clause-value
returns-then-contains-clause-value c =
    c.of_each.ensures ∙ c.new.ensures.items
    ∙ sym (ap (map (λ t. place_of c.args.view.now (chosen_source (takes_of c.args.takes.now) c.args.view.now.shape c.args.at c.args.axes t)))
    (no_tuples c.args.shape.now (none c.args.shape.now (sym c.contains.ensures.value ∙ c.if-contains.true))))

kept_is : (c : goal.After-as_slice) → c.as_slice.result.now ≡ kept_strides (takes_of c.args.takes.now) c.held_strides-strides.result.now
kept_is c = c.as_slice.ensures ∙ c.in_ok-kept.ensures

length-kept : (c : goal.After-as_slice) → length c.as_slice.result.now ≡ kept_in (takes_of c.args.takes.now)
length-kept c = ap length (kept_is c) ∙ length-kept_strides (takes_of c.args.takes.now) c.held_strides-strides.result.now

pub slice_bounds-ways_of-end-2 : goal.slice_bounds-ways_of-end-2
slice_bounds-ways_of-end-2 c = sym (length-take-le c.args.at c.as_slice.result.now (omega (arith, length-kept c, c.requires.at)))

pub ways_of-requires-clause-axes : goal.ways_of-requires-clause-axes
ways_of-requires-clause-axes c =
    omega (arith, length-take c.args.at c.as_slice.result.now, length-take c.args.at c.args.shape.now, length-kept c, c.requires.at, c.requires.kept)

pub element_count-count-requires : goal.element_count-count-requires
element_count-count-requires c = (limits_of (item_size c.args.view.now.element) c.args.shape.now c.requires.limits).elements

pub ways_of-requires-clause-most : goal.ways_of-requires-clause-most
ways_of-requires-clause-most c =
    omega (arith, length-take c.args.at c.args.shape.now, (limits_of (item_size c.args.view.now.element) c.args.shape.now c.requires.limits).axes)

pub ways_of-requires-clause-lengths : goal.ways_of-requires-clause-lengths
ways_of-requires-clause-lengths c = All-take (λ n. n ≤ 2 ^ 32) c.args.at c.args.shape.now (few (item_size c.args.view.now.element) c.args.shape.now c.requires.limits)

pub ways_of-requires-clause-range : goal.ways_of-requires-clause-range
ways_of-requires-clause-range c =
    All-take in_range c.args.at c.as_slice.result.now
    (subst (All in_range) (sym (kept_is c)) (kept_range (takes_of c.args.takes.now) c.held_strides-strides.result.now c.held_strides-strides.ensures.range))

pub array_places-requires-clause-taken : goal.array_places-requires-clause-taken
array_places-requires-clause-taken c = omega (arith, c.requires.taken, ap length c.shape-sizes.ensures.value)

pub array_places-requires-clause-axes : goal.array_places-requires-clause-axes
array_places-requires-clause-axes c =
    let h = c.args.view.now in
    axes (item_size h.element) h.shape c.held_strides-strides.result.now (get_or h.places 0 0) (2 ^ 64) c.held_strides-strides.ensures.held ∙ ap length (sym c.shape-sizes.ensures.value)

pub array_places-requires-clause-most : goal.array_places-requires-clause-most
array_places-requires-clause-most c =
    let h = c.args.view.now in
    omega (arith, (limits_of (item_size h.element) h.shape c.shape-sizes.ensures.limits).axes, ap length c.shape-sizes.ensures.value)

pub array_places-requires-clause-few : goal.array_places-requires-clause-few
array_places-requires-clause-few c =
    let h = c.args.view.now in
    omega (arith, (limits_of (item_size h.element) h.shape c.shape-sizes.ensures.limits).elements, ap elements_of c.shape-sizes.ensures.value)

pub array_places-requires-clause-many : goal.array_places-requires-clause-many
array_places-requires-clause-many c =
    let at = c.args.at in let shape = c.args.shape.now in
    omega (arith, length-take (at + c.args.axes - at) (drop at shape), length-drop at shape, (limits_of (item_size c.args.view.now.element) shape c.requires.limits).axes)

pub array_places-requires-clause-limits : goal.array_places-requires-clause-limits
array_places-requires-clause-limits c =
    let at = c.args.at in let shape = c.args.shape.now in
    All-take (λ n. n ≤ 2 ^ 32) (at + c.args.axes - at) (drop at shape) (All-drop (λ n. n ≤ 2 ^ 32) at shape (few (item_size c.args.view.now.element) shape c.requires.limits))

pub array_places-requires-clause-some : goal.array_places-requires-clause-some
array_places-requires-clause-some c =
    let shape = c.args.shape.now in let sizes = c.args.view.now.shape in
    let first = zeros shape (some shape (sym c.contains.ensures.value ∙ c.if-contains.false)) in
    let below = number-below sizes _ (c.requires.tuples (replicate (length shape) 0) first.0) in
    let same : c.shape-sizes.result.now ≡ sizes = c.shape-sizes.ensures.value in
    let has : 0 < elements_of sizes = omega (arith, below) in
    subst (λ s. 0 < elements_of s) (sym same) has

length-kept-2 : (c : goal.After-as_slice-2) → length c.as_slice-2.result.now ≡ kept_in (takes_of c.args.takes.now)
length-kept-2 c = ap length (c.as_slice-2.ensures ∙ c.in_ok-kept.ensures) ∙ length-kept_strides (takes_of c.args.takes.now) c.held_strides-strides.result.now

pub slice_bounds-ways_of-start-2 : goal.slice_bounds-ways_of-start-2
slice_bounds-ways_of-start-2 c = let le : c.args.at ≤ length c.as_slice-2.result.now = omega (arith, length-kept-2 c, c.requires.at) in search (rules, le)

pub slice_bounds-ways_of-count-2 : goal.slice_bounds-ways_of-count-2
slice_bounds-ways_of-count-2 c = omega (arith, length-kept-2 c, c.requires.at)

pub ways_of-requires-2-clause-axes : goal.ways_of-requires-2-clause-axes
ways_of-requires-2-clause-axes c =
    let end = c.args.at + c.args.axes in
    let kept = ap length (c.as_slice-2.ensures ∙ c.in_ok-kept.ensures) ∙ length-kept_strides (takes_of c.args.takes.now) c.held_strides-strides.result.now in
    ap length (rest_of c.args.at c.as_slice-2.result.now)
    ∙ omega (arith, length-drop c.args.at c.as_slice-2.result.now, length-drop end c.args.shape.now, kept, c.requires.kept, c.requires.at)
    ∙ sym (ap length (rest_of end c.args.shape.now))

pub ways_of-requires-2-clause-most : goal.ways_of-requires-2-clause-most
ways_of-requires-2-clause-most c =
    let end = c.args.at + c.args.axes in
    omega (arith, ap length (rest_of end c.args.shape.now), length-drop end c.args.shape.now, (limits_of (item_size c.args.view.now.element) c.args.shape.now c.requires.limits).axes)

pub ways_of-requires-2-clause-lengths : goal.ways_of-requires-2-clause-lengths
ways_of-requires-2-clause-lengths c =
    let end = c.args.at + c.args.axes in let shape = c.args.shape.now in
    subst (All (λ n. n ≤ 2 ^ 32)) (sym (rest_of end shape)) (All-drop (λ n. n ≤ 2 ^ 32) end shape (few (item_size c.args.view.now.element) shape c.requires.limits))

pub ways_of-requires-2-clause-range : goal.ways_of-requires-2-clause-range
ways_of-requires-2-clause-range c =
    subst (All in_range) (sym (rest_of c.args.at c.as_slice-2.result.now)) (All-drop in_range c.args.at c.as_slice-2.result.now
    (subst (All in_range) (sym (c.as_slice-2.ensures ∙ c.in_ok-kept.ensures)) (kept_range (takes_of c.args.takes.now) c.held_strides-strides.result.now c.held_strides-strides.ensures.range)))

pub invariant_of-ways : goal.invariant_of-ways
invariant_of-ways c =
    let at = c.args.at in let end = c.args.at + c.args.axes in let shape = c.args.shape.now in let strides = c.held_strides-strides.result.now in let ts = takes_of c.args.takes.now in
    let limits = limits_of (item_size c.args.view.now.element) shape c.requires.limits in
    let few = few_lengths shape limits.lengths in
    let range = kept_range ts strides c.held_strides-strides.ensures.range in
    let kept : All in_range c.as_slice.result.now = subst (All in_range) (sym (c.as_slice.ensures ∙ c.in_ok-kept.ensures)) range in
    let kept-2 : All in_range c.as_slice-2.result.now = subst (All in_range) (sym (c.as_slice-2.ensures ∙ c.in_ok-kept.ensures)) range in
    let before : length (take at shape) ≤ 64 = omega (arith, length-take at shape, limits.axes) in
    let behind : length (drop end shape) ≤ 64 = omega (arith, length-drop end shape, limits.axes) in
    record {
      first = subst AreNear (sym (c.as_slice-3.ensures.value ∙ c.in_ok-before.ensures))
          (ways_near (take at shape) (take at c.as_slice.result.now) before (All-take (λ n. n ≤ 2 ^ 32) at shape few) (All-take in_range at c.as_slice.result.now kept));
      last = subst AreNear (sym (c.as_slice-4.ensures.value ∙ c.in_ok-behind.ensures ∙ (λ i. ways (rest_of end shape i) (rest_of at c.as_slice-2.result.now i))))
          (ways_near (drop end shape) (drop at c.as_slice-2.result.now) behind (All-drop (λ n. n ≤ 2 ^ 32) end shape few) (All-drop in_range at c.as_slice-2.result.now kept-2));
    }

has_bytes : (c : goal.Joined-kept-3) → 0 < item_size c.args.view.now.element
has_bytes c =
    let type : type_of c.elem.result.now ≡ c.args.view.now.element = c.elem.ensures in
    let some : 0 < item_size (type_of c.elem.result.now) = omega (arith, c.size-size.ensures.value, c.size-size.ensures.range.0) in
    subst (λ t. 0 < item_size t) type some

value : (c : goal.Joined-kept-3)
    → IfOk c.array_places.result (λ v. v ≡ map (λ t. place_of c.args.view.now (chosen_source (takes_of c.args.takes.now) c.args.view.now.shape c.args.at c.args.axes t)) (indices c.args.shape.now))
value c =
    let h = c.args.view.now in let at = c.args.at in let axes = c.args.axes in let shape = c.args.shape.now in let strides = c.held_strides-strides.result.now in
    let ts = takes_of c.args.takes.now in
    let sizes : c.shape-sizes.result.now ≡ h.shape = c.shape-sizes.ensures.value in
    let before = c.as_slice-3.ensures.value ∙ c.in_ok-before.ensures ∙ ap (λ ks. ways (take at shape) (take at ks)) (c.as_slice.ensures ∙ c.in_ok-kept.ensures) in
    let behind = c.as_slice-4.ensures.value ∙ c.in_ok-behind.ensures ∙ (λ i. ways (rest_of (at + axes) shape i) (rest_of at c.as_slice-2.result.now i))
    ∙ ap (λ ks. ways (drop (at + axes) shape) (drop at ks)) (c.as_slice-2.ensures ∙ c.in_ok-kept.ensures) in
    let offset : c.offset.result ≡ get_or h.places 0 0 = c.offset.ensures in
    let all = (λ i. flat_map (λ b. flat_map (λ a. map (λ z. place_on (((pos (offset i) +ℤ b) +ℤ a) +ℤ z)) (behind i)) (map (way_taken ts (sizes i) strides) (indices (cut at axes shape i)))) (before i))
    ∙ placed h strides (has_bytes c) c.held_strides-strides.ensures.held c.held_strides-strides.ensures.places ts c.requires.taken at axes shape c.requires.kept c.requires.at c.requires.tuples in
    subst (λ l. IfOk c.array_places.result (λ v. v ≡ l)) all c.array_places.ensures

pub returns-clause-value : goal.returns-clause-value
returns-clause-value c = value c

pub returns-clause-limit : goal.returns-clause-limit
returns-clause-limit c =
    let h = c.args.view.now in let ts = takes_of c.args.takes.now in
    let all = limit h c.held_strides-strides.result.now (has_bytes c) c.held_strides-strides.ensures.held c.held_strides-strides.ensures.places ts c.requires.taken
    c.args.at c.args.axes c.args.shape.now c.requires.kept c.requires.at c.requires.tuples in
    ok_then {X = List ℕ} (λ v. v ≡ map (λ t. place_of h (chosen_source ts h.shape c.args.at c.args.axes t)) (indices c.args.shape.now))
    (λ v. All (λ p. p + item_size h.element ≤ 2 ^ 64) v) c.array_places.result (λ v is. subst (All (λ p. p + item_size h.element ≤ 2 ^ 64)) (sym is) all) (value c)
