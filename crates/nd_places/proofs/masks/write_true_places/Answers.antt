use Rattle.std.proofs.Common.{◌≡◌, ◌+◌, ◌<◌, ◌≤◌, ◌^◌, length, get_or, pos, to_z, of_z, ap, ◌∙◌, arith}
use Rattle.std.specs.Prelude.{◌+ℤ◌, ◌*ℤ◌, if◌then◌else◌}
use Rattle.std.specs.Int.{w64}
use Rattle.std.proofs.lemmas.Int.{ints}
use Rattle.std.proofs.lemmas.List.{length-set}
use Rattle.nd_places.specs.Near.{is_true, place_on, place_on_line}
use Rattle.nd_places.proofs.Found.{near_product, one_at_most, written_next}
use Rattle.nd_places.proofs.masks.write_true_places.Goals as goal

pub loop-index-preserved : goal.loop-index-preserved
loop-index-preserved c =
    let mask = c.args.mask.now in let k = c.loop-index.index in let out = c.loop-index.out in let count = c.loop-index.count in let line = c.args.line in
    let n = c.args.first + k in
    let lt : k < length mask = omega (arith, c.loop-index-test.true, c.loop-index.auto.index-end) in
    let room : count < length out = omega (arith, lt, c.loop-index.invariant.few, c.loop-index.invariant.room, c.requires.room) in
    let few : n ≤ 2 ^ 32 = omega (arith, lt, c.requires.range) in
    let more : c.from-count.result ≡ (if is_true (get_or mask k 0) then 1 else 0) = c.from-count.ensures ∙ c.count_of_byte.ensures in
    let step : to_z w64 (of_z w64 line.step) ≡ line.step = omega (arith, ints, line.step_near) in
    let way : to_z w64 (of_z w64 (to_z w64 n *ℤ to_z w64 (of_z w64 line.step))) ≡ pos n *ℤ line.step
    = (let whole : to_z w64 n ≡ pos n = omega (arith, ints, few) in let same : to_z w64 n *ℤ to_z w64 (of_z w64 line.step) ≡ pos n *ℤ line.step = (λ i. whole i *ℤ step i) in
    omega (arith, ints, same, near_product n line.step few line.step_near)) in
    let sum : to_z w64 (of_z w64 (to_z w64 (of_z w64 line.start) +ℤ to_z w64 (of_z w64 (to_z w64 n *ℤ to_z w64 (of_z w64 line.step))))) ≡ line.start +ℤ (pos n *ℤ line.step)
    = omega (arith, ints, way, near_product n line.step few line.step_near, line.start_near) in
    let at = c.near_place.ensures ∙ ap place_on sum in
    record {
      room = length-set out count c.near_place.result ∙ c.loop-index.invariant.room;
      few = omega (arith, c.loop-index.invariant.few, one_at_most (is_true (get_or mask k 0)) _ more);
      done = written_next (place_on_line line.start line.step) c.args.first mask out k count c.from-count.result c.near_place.result _ lt room at more c.loop-index.invariant.done;
    }
