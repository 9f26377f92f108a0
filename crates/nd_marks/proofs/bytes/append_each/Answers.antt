use Rattle.std.proofs.Common.{◌≡◌, ℕ, ◌<◌, ◌≤◌, ◌+◌, ◌*◌, ◌++◌, ◌∙◌, length, length-append, length-drop, length-take, drop, map, slice_index, ap, arith}
use Rattle.std.proofs.Math.Nat.{mul-le-mul_right}
use Rattle.nd_marks.specs.Kept.{row_places}
use Rattle.nd_marks.proofs.Walks.{rows_added}
use Rattle.nd_marks.proofs.bytes.append_each.Goals as goal

pub copy_rows-requires-clause-inside : goal.copy_rows-requires-clause-inside
copy_rows-requires-clause-inside c = λ k lt.
    let s = c.args.strip.now in let row = c.loop-number.number in
    let few : row + k < s.count = omega (arith, lt, c.min-count.ensures, c.count-all.ensures, c.loop-number-test.true) in
    let inside : s.first + (row + k) * s.step + s.width ≤ length c.args.block.now = c.requires.inside (row + k) few in
    let step : k * c.step-step.result ≡ k * s.step = ap (λ n. k * n) c.step-step.ensures in
    let split : (row + k) * s.step ≡ row * s.step + k * s.step = omega arith in
    omega (arith, inside, step, split, c.offset.ensures, c.requires.width)

pub loop-number-preserved : goal.loop-number-preserved
loop-number-preserved c =
    let s = c.args.strip.now in let row = c.loop-number.number in let n = c.min-count.result in let f : ℕ → ℕ = slice_index c.args.block.now in
    let part = c.copy_rows.new.target in let buffer = c.loop-number.buffer in let size = n * c.args.width in
    let few : row + n ≤ s.count = omega (arith, c.min-count.ensures, c.count-all.ensures, c.loop-number-test.true) in
    let most : n * c.args.width ≤ 64 * c.args.width = mul-le-mul_right c.args.width (omega (arith, c.min-count.ensures)) in
    let room : size ≤ length buffer = omega (arith, most, c.requires.narrow, c.loop-number.invariant.buffer) in
    let long : length part ≡ size = c.copy_rows.auto.target ∙ omega (arith, length-take size buffer, room) in
    let rows : part ≡ map f (row_places (s.first + row * s.step) s.width s.step n)
    = c.copy_rows.ensures ∙ (λ i. map f (row_places (c.offset.ensures i) (c.requires.width i) (c.step-step.ensures i) n)) in
    record {
      within = few;
      buffer = length-append part (drop size buffer) ∙ omega (arith, long, length-drop size buffer, room, c.loop-number.invariant.buffer);
      done = rows_added f s row n c.loop-number.bytes.items c.extend_from_slice.new.self.items _ few
          (c.in_ok-extend_from_slice.ensures.items ∙ ap (λ ys. c.loop-number.bytes.items ++ ys) rows)
          c.loop-number.invariant.done;
    }
