use Rattle.std.proofs.Common.{◌≡◌, ◌+◌, ◌*◌, ◌<◌, ◌≤◌, ℕ, List, ◌++◌, length, map, take, drop, get_or, ap, ◌∙◌, arith}
use Rattle.std.proofs.Math.Nat.{mul-le-mul_right}
use Rattle.std.specs.List.{flat_map}
use Rattle.nd_model.specs.Arrays.Element.{bytes_at}
use Rattle.nd_model.specs.Arrays.View.{One}
use Rattle.nd_block.proofs.Copied.{length-bytes_at}
use Rattle.nd_element.specs.Elements.{canonical_at}
use Rattle.nd_places.specs.Near.{is_true, place_on_line, trues_in}
use Rattle.nd_assign.proofs.Bytewise.{small_bytes}
use Rattle.nd_scatter.proofs.Chosen.{kept_next, step_few}
use Rattle.nd_scatter.proofs.OwnBytes.{own_bytes}
use Rattle.nd_scatter.proofs.masked.keep_trues.Goals as goal

pub copy_bytes-requires-clause-out : goal.copy_bytes-requires-clause-out
copy_bytes-requires-clause-out c =
    let k = c.loop-index.index in let size = c.args.size in
    let lt : k < length c.args.mask.now = omega (arith, c.loop-index-test.true, c.loop-index.auto.index-end) in
    let room : (k + 1) * size ≤ length c.args.mask.now * size = mul-le-mul_right size (omega (arith, lt)) in
    let next : (k + 1) * size ≡ k * size + size = omega arith in
    omega (arith, room, next, c.requires.room, c.loop-index.invariant.len, c.loop-index.invariant.few)

pub copy_bytes-requires-clause-held : goal.copy_bytes-requires-clause-held
copy_bytes-requires-clause-held c =
    let k = c.loop-index.index in
    let lt : k < length c.args.mask.now = omega (arith, c.loop-index-test.true, c.loop-index.auto.index-end) in
    omega (arith, c.place_at-place.ensures, c.requires.inside (c.args.first + k) (omega (arith, lt)))

pub overflow_add-kept : goal.overflow_add-kept
overflow_add-kept c =
    let k = c.loop-index.index in let size = c.args.size in
    let lt : k < length c.args.mask.now = omega (arith, c.loop-index-test.true, c.loop-index.auto.index-end) in
    let room : (k + 1) * size ≤ length c.args.mask.now * size = mul-le-mul_right size (omega (arith, lt)) in
    let next : (k + 1) * size ≡ k * size + size = omega arith in
    let more = step_few (is_true (get_or c.args.mask.now k 0)) c.step_of-kept.result size c.step_of-kept.ensures in
    omega (arith, room, next, more, c.requires.room, c.loop-index.invariant.len, c.loop-index.invariant.few)

pub loop-index-preserved : goal.loop-index-preserved
loop-index-preserved c =
    let a = c.args in let mask : List ℕ = a.mask.now in let bytes : List ℕ = a.bytes.now in let out : List ℕ = c.loop-index.out in
    let k = c.loop-index.index in let kept = c.loop-index.kept in let size = a.size in
    let place : ℕ → ℕ = place_on_line a.line.start a.line.step in let q = place (a.first + k) in
    let lt : k < length mask = omega (arith, c.loop-index-test.true, c.loop-index.auto.index-end) in
    let at : c.place_at-place.result ≡ q = c.place_at-place.ensures in
    let held : q + size ≤ length bytes = c.requires.inside (a.first + k) (omega (arith, lt)) in
    let ys : List ℕ = bytes_at bytes c.place_at-place.result size in
    let long : length ys ≡ size = length-bytes_at bytes c.place_at-place.result size (omega (arith, held, at)) in
    let is : ys ≡ canonical_at (One a.elem) bytes q
    = (λ i. bytes_at bytes (at i) (c.requires.size i)) ∙ own_bytes a.elem bytes c.requires.kind (small_bytes bytes c.type_inv.bytes) q (omega (arith, held, c.requires.size)) in
    let room : length mask * size ≤ length out = omega (arith, c.requires.room, c.loop-index.invariant.len) in
    let so_far : k * size ≤ length mask * size = mul-le-mul_right size (omega (arith, lt)) in
    let next : (k + 1) * size ≡ k * size + size = omega arith in
    let more = step_few (is_true (get_or mask k 0)) c.step_of-kept.result size c.step_of-kept.ensures in
    record {
      len = c.copy_bytes.ensures.len ∙ c.loop-index.invariant.len;
      few = omega (arith, c.loop-index.invariant.few, more, next);
      done = ap (λ l. take (kept + c.step_of-kept.result) l ++ flat_map (canonical_at (One a.elem) bytes) (map place (trues_in (a.first + (k + 1)) (drop (k + 1) mask)))) c.copy_bytes.ensures.bytes
          ∙ kept_next (canonical_at (One a.elem) bytes) place a.first k kept c.step_of-kept.result size mask out ys _ lt (omega (arith, room, so_far, c.loop-index.invariant.few)) is long c.step_of-kept.ensures c.loop-index.invariant.done;
    }
