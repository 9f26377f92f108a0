use Rattle.std.proofs.Common.{◌≡◌, ◌<◌, ◌++◌, [], ◌∷◌, map, length, to_z, of_z, refl, ap, ◌∙◌, arith, take_all}
use Rattle.std.specs.Prelude.{◌+ℤ◌}
use Rattle.std.specs.Int.{w64, w128}
use Rattle.std.proofs.lemmas.Int.{ints, fits_signed_from_abs, to_z-of_z}
use Rattle.nd_index.specs.Offsets.RowPlaces.{way_on}
use Rattle.nd_places.specs.Near.{IsNear}
use Rattle.nd_index.proofs.advanced.Forms.{near_pushed}
use Rattle.nd_index.proofs.offsets.Pushed.{mapped_again}
use Rattle.nd_index.proofs.advanced.by_rows.push_starts.Goals as goal

pub overflow_add-way : goal.overflow_add-way
overflow_add-way c = fits_signed_from_abs w128 _ (omega (arith, ints, c.requires.start, c.way.ensures.near))

pub loop-number-preserved : goal.loop-number-preserved
loop-number-preserved c =
    let numbers = c.args.numbers.now in let k = c.loop-number.number-index in let axes = c.args.axes.now in let start = to_z w128 (of_z w128 c.args.start) in
    let lt : k < length numbers = omega (arith, c.loop-number-test.true) in
    let way = to_z w128 (of_z w128 (start +ℤ to_z w128 (of_z w128 c.way.result))) in
    let near : IsNear way = c.if-not-is_near.ensures.0 refl in
    let whole : to_z w64 (of_z w64 way) ≡ way = omega (arith, ints, near) in
    let sum : way ≡ start +ℤ c.way.result = omega (arith, ints, c.requires.start, c.way.ensures.near) in
    let is = whole ∙ sum ∙ ap (λ w. start +ℤ w) c.way.ensures.value in
    record {
      near = near_pushed c.loop-number.starts.items c.push.new.self.items way (c.in_ok-push.ensures.items ∙ ap (λ x. c.loop-number.starts.items ++ x ∷ []) whole) near c.loop-number.invariant.near;
      done = mapped_again (λ n. start +ℤ way_on axes n) numbers k 0 c.args.starts.now.items c.loop-number.starts.items c.push.new.self.items _ lt c.in_ok-push.ensures.items is c.loop-number.invariant.done;
    }

pub returns : goal.returns
returns c = λ yes. (
  c.loop-number.invariant.near,
  c.loop-number.invariant.done
      ∙ (λ i. c.args.starts.now.items ++ map (λ n. to_z-of_z w128 c.args.start c.ranges.start i +ℤ way_on c.args.axes.now n)
      (take_all c.loop-number.number-index c.args.numbers.now (omega (arith, c.loop-number-test.false)) i)),
)
