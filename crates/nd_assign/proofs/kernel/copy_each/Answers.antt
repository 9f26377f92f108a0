use Rattle.std.proofs.Common.{rules, ◌≡◌, ℕ, ℤ, List, ◌+◌, ◌<◌, ◌≤◌, length, get_or, sym, ◌∙◌, subst, arith}
use Rattle.std.specs.Int.{w128, cast_signed, cast_unsigned}
use Rattle.std.specs.Int.RustNames.{FitsSigned}
use mir.Facts.{to_z-of_z}
use Rattle.nd_model.specs.Arrays.Content.{number_at, writes}
use Rattle.nd_model.specs.Arrays.Element.{size_of, bytes_of, with_bytes, wrap}
use Rattle.nd_model.specs.Arrays.Runs.{spot_at, run_places}
use Rattle.nd_model.specs.Cells.Session.{put}
use Rattle.nd_model.specs.Arrays.View.{One}
use Rattle.nd_assign.specs.Copies.{copied_content, with_copies}
use Rattle.nd_assign.proofs.Copied.{number_put, run_at, length-run, one_more, all_done}
use Rattle.nd_assign.proofs.kernel.copy_each.Goals as goal

pub loop-index-preserved : goal.loop-index-preserved
loop-index-preserved c =
    let a = c.args in let k = c.loop-index.index in let out = c.loop-index.out in
    let s : ℤ = cast_signed w128 (cast_unsigned w128 a.step) in let t : ℤ = cast_signed w128 (cast_unsigned w128 a.from_step) in
    let ps : List ℕ = run_places a.start s a.count in let qs : List ℕ = run_places a.from_start t a.count in
    let fx : FitsSigned w128 c.number_of-number.result = search rules in let fz : FitsSigned w128 c.wrap.result = search rules in
    let x : cast_signed w128 (cast_unsigned w128 c.number_of-number.result) ≡ number_at a.from a.bytes.now (spot_at a.from_start t k) = to_z-of_z fx ∙ c.number_of-number.ensures.value in
    let z : cast_signed w128 (cast_unsigned w128 c.wrap.result) ≡ wrap a.to.kind (number_at a.from a.bytes.now (spot_at a.from_start t k))
    = to_z-of_z fz ∙ c.wrap.ensures.value ∙ (λ i. wrap (c.kind.ensures i) (x i)) in
    let lt : k < a.count = c.loop-index-test.true in
    let lp : k < length ps = omega (arith, lt, length-run a.start s a.count) in let lq : k < length qs = omega (arith, lt, length-run a.from_start t a.count) in
    let p : get_or ps k 0 ≡ spot_at a.start s k = run_at a.start s a.count k lt in let q : get_or qs k 0 ≡ spot_at a.from_start t k = run_at a.from_start t a.count k lt in
    let own : s ≡ a.step = to_z-of_z c.ranges.step in
    let end : spot_at a.start s k + size_of a.to.kind ≤ length a.out.now = subst (λ z. spot_at a.start z k + size_of a.to.kind ≤ length a.out.now) (sym own) (c.requires.out k lt).1 in
    let room : spot_at a.start s k + size_of a.to.kind ≤ length out = omega (arith, end, c.loop-index.invariant.len) in
    record {
      len = c.store_at.ensures.len ∙ c.loop-index.invariant.len;
      rest = one_more (One a.to) (One a.from) a.bytes.now ps qs out c.store_at.new.bytes (with_copies (One a.to) (One a.from) a.bytes.now ps qs a.out.now) k lp lq
          (c.store_at.ensures.bytes ∙ (λ i. with_bytes out (c.spot-place.ensures i) (bytes_of a.to (z i)))
          ∙ number_put a.to (wrap a.to.kind (number_at a.from a.bytes.now (spot_at a.from_start t k))) (spot_at a.start s k) out room
          ∙ sym (λ i. put (writes (One a.to) (p i) (copied_content (One a.to) (One a.from) a.bytes.now (q i))) out))
          c.loop-index.invariant.rest;
    }

pub returns-clause-bytes : goal.returns-clause-bytes
returns-clause-bytes c =
    let a = c.args in
    let s : cast_signed w128 (cast_unsigned w128 a.step) ≡ a.step = to_z-of_z c.ranges.step in
    let t : cast_signed w128 (cast_unsigned w128 a.from_step) ≡ a.from_step = to_z-of_z c.ranges.from_step in
    let u : ℤ = cast_signed w128 (cast_unsigned w128 a.step) in let v : ℤ = cast_signed w128 (cast_unsigned w128 a.from_step) in
    all_done (One a.to) (One a.from) a.bytes.now (run_places a.start u a.count) (run_places a.from_start v a.count) c.loop-index.out
    (with_copies (One a.to) (One a.from) a.bytes.now (run_places a.start u a.count) (run_places a.from_start v a.count) a.out.now) c.loop-index.index
    (omega (arith, c.loop-index-test.false, length-run a.start u a.count)) c.loop-index.invariant.rest
    ∙ (λ i. with_copies (One a.to) (One a.from) a.bytes.now (run_places a.start (s i) a.count) (run_places a.from_start (t i) a.count) a.out.now)
