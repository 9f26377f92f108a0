use Rattle.std.proofs.Common.{◌≡◌, ◌+◌, ◌-◌, map, drop, pos, sym, ap, subst, ◌∙◌, arith, length-take}
use Rattle.std.specs.List.{flat_map}
use Rattle.std.specs.Prelude.{◌+ℤ◌}
use Rattle.std.proofs.lemmas.List.{length-drop}
use Rattle.std.proofs.lemmas.List.Elements.{All-drop, All-take}
use Rattle.std.specs.Result.{IfOk}
use Rattle.nd_model.specs.Indexing.Advanced.{unravelled}
use Rattle.nd_model.specs.Arrays.Strides.{way_to}
use Rattle.nd_model.specs.Arrays.Tuple.{indices}
use Rattle.nd_index.specs.Offsets.RowPlaces.{way_on}
use Rattle.nd_index.specs.Advanced.IndexNumbers.{numbers_in}
use Rattle.nd_index.specs.Advanced.Takes.{takes_of}
use Rattle.nd_index.specs.Advanced.TakenWays.{way_taken}
use Rattle.nd_index.specs.Offsets.Ways.{AreNear}
use Rattle.nd_places.specs.Near.{place_on}
use Rattle.nd_index.proofs.offsets.Numbers.{some_of}
use Rattle.nd_index.proofs.advanced.SoleArrays.{direct_same}
use Rattle.nd_index.proofs.advanced.Spreads.{arrays_near, code_few, cut, in_range}
use Rattle.nd_index.proofs.advanced.choosing.array_places.Goals as goal

pub new-axes-requires-clause-axes : goal.new-axes-requires-clause-axes
new-axes-requires-clause-axes c =
    let s = c.in-Some.sole in let n = s.axis + s.spread.now.axes - s.axis in let sizes = c.args.sizes.now in let strides = c.args.strides.now in
    omega (arith, length-take n (drop s.axis strides), length-take n (drop s.axis sizes), length-drop s.axis strides, length-drop s.axis sizes, c.requires.axes)

pub new-axes-requires-clause-most : goal.new-axes-requires-clause-most
new-axes-requires-clause-most c =
    let s = c.in-Some.sole in let sizes = c.args.sizes.now in
    omega (arith, length-take (s.axis + s.spread.now.axes - s.axis) (drop s.axis sizes), length-drop s.axis sizes, c.requires.most)

pub new-axes-requires-clause-range : goal.new-axes-requires-clause-range
new-axes-requires-clause-range c =
    let s = c.in-Some.sole in let strides = c.args.strides.now in
    All-take in_range (s.axis + s.spread.now.axes - s.axis) (drop s.axis strides) (All-drop in_range s.axis strides c.requires.range)

pub new-axes-requires-clause-some : goal.new-axes-requires-clause-some
new-axes-requires-clause-some c = let s = c.in-Some.sole in (some_of s.axis (s.axis + s.spread.now.axes - s.axis) c.args.sizes.now c.requires.some).0

pub new-axes-requires-clause-few : goal.new-axes-requires-clause-few
new-axes-requires-clause-few c = let s = c.in-Some.sole in omega (arith, (some_of s.axis (s.axis + s.spread.now.axes - s.axis) c.args.sizes.now c.requires.some).1, c.requires.few)

pub returns-in-Some : goal.returns-in-Some
returns-in-Some c =
    let s = c.in-Some.sole in let kept = c.args.kept.now in let ks = numbers_in s.spread.now.numbers in let axes = c.new-axes.result in
    let arrays = map (way_taken (takes_of c.args.takes.now) c.args.sizes.now c.args.strides.now) (indices c.args.many.now) in
    let own : arrays ≡ map (way_on axes) ks
    = c.in-Some.ensures.ways c.args.sizes.now c.args.strides.now
    ∙ (λ i. map (λ k. way_to (unravelled (sym (c.new-axes.ensures.lengths ∙ cut s.axis s.spread.now.axes c.args.sizes.now) i) k) (sym (c.new-axes.ensures.strides ∙ cut s.axis s.spread.now.axes c.args.strides.now) i)) ks) in
    subst (λ l. IfOk c.direct_places.result (λ v. v ≡ l)) (direct_same (pos kept.offset) kept.before.now kept.behind.now arrays ks (way_on axes) own) c.direct_places.ensures

pub places_on-requires : goal.places_on-requires
places_on-requires c =
    let kept = c.args.kept.now in let ts = takes_of c.args.takes.now in
    record {
      near = (
        kept.first,
        subst AreNear (sym (c.as_slice-arrays.ensures.value ∙ c.in_ok-arrays.ensures))
            (arrays_near ts c.args.sizes.now c.args.strides.now c.args.many.now (code_few c.args.takes.now) (omega (arith, c.requires.taken, c.requires.most)) c.requires.range),
        kept.last,
      );
    }

pub returns : goal.returns
returns c =
    let kept = c.args.kept.now in
    c.of_each.ensures ∙ c.in_ok-places.ensures
    ∙ ap (λ l. flat_map (λ b. flat_map (λ a. map (λ z. place_on (((pos kept.offset +ℤ b) +ℤ a) +ℤ z)) kept.behind.now) l) kept.before.now) (c.as_slice-arrays.ensures.value ∙ c.in_ok-arrays.ensures)
