use Rattle.std.proofs.Common.{◌≡◌, ℕ, ◌<◌, ◌≤◌, ◌+◌, ◌-◌, ◌*◌, ◌++◌, ◌∙◌, length, map, slice_index, take, sym, ap, ap₂, arith}
use Rattle.std.proofs.Math.Nat.{mul-le-mul_right}
use Rattle.std.proofs.lemmas.List.{length-map, map-append}
use Rattle.nd_model.specs.Arrays.Tuple.{count_up}
use Rattle.nd_marks.specs.Kept.{row_places}
use Rattle.nd_marks.proofs.Walks.{length-count_up, length-put, row_copied, rows_end, taken_range}
use borrow.Rule.Slice.PartMut.{put_mid}
use Rattle.nd_marks.proofs.bytes.copy_rows.Goals as goal

pub loop-row-preserved : goal.loop-row-preserved
loop-row-preserved c =
    let a = c.args in let k = c.loop-row.row in let xs = c.loop-row.target in let w = a.width in let ys = c.copy_row.new.target in
    let f : ℕ → ℕ = slice_index a.block.now in
    let lt : k < a.count = omega (arith, c.loop-row-test.true) in
    let inside : a.first + k * a.step + w ≤ length a.block.now = c.requires.inside k lt in
    let row : ys ≡ map f (count_up (a.first + k * a.step) w) = c.copy_row.ensures ∙ taken_range a.block.now (a.first + k * a.step) w inside in
    let long : length ys ≡ w = ap length row ∙ length-map (count_up (a.first + k * a.step) w) f ∙ length-count_up (a.first + k * a.step) w in
    let next : (k + 1) * w ≡ k * w + w = omega arith in
    let some : k * w + w - k * w ≡ w = omega arith in
    let most : (k + 1) * w ≤ a.count * w = mul-le-mul_right w (omega (arith, lt)) in
    let room : k * w + w ≤ length xs = omega (arith, most, next, c.loop-row.invariant.len, c.requires.target) in
    record {
      len = length-put xs ys (k * w) w (k * w + w - k * w) some long room ∙ c.loop-row.invariant.len;
      done = ap₂ (λ m n. take m (put_mid (k * w) n xs ys)) next some
          ∙ row_copied xs ys (k * w) w long room
          ∙ ap₂ (λ before now. before ++ now) c.loop-row.invariant.done row
          ∙ sym (map-append f (row_places a.first w a.step k) (count_up (a.first + k * a.step) w))
          ∙ ap (map f) (sym (rows_end a.first w a.step k));
    }
