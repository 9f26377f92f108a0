use Rattle.std.proofs.Common.{◌+◌, ◌*◌, ◌<◌, ◌≤◌, ℕ, List, length, get_or, ap, ◌∙◌, arith}
use Rattle.nd_model.specs.Arrays.Element.{bytes_at, size_of, with_bytes}
use Rattle.nd_model.specs.Arrays.View.{One}
use Rattle.nd_scatter.specs.Scattered.{scattered}
use Rattle.nd_scatter.proofs.Copies.{run_put, element_more}
use Rattle.nd_scatter.proofs.kernel.write_each.Goals as goal

pub loop-index-preserved : goal.loop-index-preserved
loop-index-preserved c =
    let a = c.args in let k = c.loop-index.index in let out : List ℕ = c.loop-index.out in let ps : List ℕ = a.places.now in let n = size_of a.elem.kind in
    let lt : k < length ps = omega (arith, c.loop-index-test.true, c.loop-index.auto.index-end) in
    let p = get_or ps k 0 in let from = a.from + k * a.step in
    let room : p + n ≤ length out = omega (arith, c.requires.out k 0 lt, c.loop-index.invariant.len) in
    let held : from + n ≤ length a.values.now = omega (arith, c.requires.held k lt, c.requires.size) in
    record {
      len = c.copy_bytes.ensures.len ∙ c.loop-index.invariant.len;
      rest = element_more (One a.elem) a.values.now out c.copy_bytes.new.out (scattered (One a.elem) a.values.now a.step a.from ps a.out.now) ps a.step a.from k lt
          (c.copy_bytes.ensures.bytes ∙ ap (λ m. with_bytes out p (bytes_at a.values.now from m)) c.requires.size ∙ run_put a.values.now out p from n room held)
          c.loop-index.invariant.rest;
    }
