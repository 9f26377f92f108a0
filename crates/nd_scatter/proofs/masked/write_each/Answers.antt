use Rattle.std.proofs.Common.{◌≡◌, ◌+◌, ◌*◌, ◌<◌, ◌≤◌, ℕ, List, [], length, map, drop, get_or, refl, sym, ap, ◌∙◌, subst, arith}
use Rattle.std.specs.Prelude.{if◌then◌else◌}
use Rattle.std.proofs.lemmas.List.{drop_all}
use Rattle.nd_model.specs.Arrays.Element.{bytes_at, size_of, with_bytes}
use Rattle.nd_model.specs.Arrays.View.{One}
use Rattle.nd_places.specs.Forms.{trues_on}
use Rattle.nd_places.specs.Near.{is_true, place_on_line, trues_in}
use Rattle.nd_scatter.specs.Ready.{AreValues}
use Rattle.nd_scatter.specs.Scattered.{scattered}
use Rattle.nd_scatter.proofs.Chosen.{Wrote, none_chosen, step_few, times, wrote_next}
use Rattle.nd_scatter.proofs.masked.write_each.Goals as goal

pub write_chosen-requires-clause-out : goal.write_chosen-requires-clause-out
write_chosen-requires-clause-out c =
    let k = c.loop-index.index in
    let lt : k < length c.args.mask.now = omega (arith, c.loop-index-test.true, c.loop-index.auto.index-end) in
    omega (arith, c.place_at-place.ensures, c.requires.inside k lt, c.requires.word.1, c.loop-index.invariant.len)

pub loop-index-preserved : goal.loop-index-preserved
loop-index-preserved c =
    let a = c.args in let mask : List ℕ = a.mask.now in let values : List ℕ = a.values.now in let out : List ℕ = c.loop-index.out in let e = a.elem in
    let k = c.loop-index.index in let used = c.loop-index.used in let n = c.step_of-used.result in let from = c.min.result in
    let place : ℕ → ℕ = place_on_line a.line.start a.line.step in
    let lt : k < length mask = omega (arith, c.loop-index-test.true, c.loop-index.auto.index-end) in
    let none : k ≡ 0 + k = omega arith in
    let here : c.place_at-place.result ≡ place (0 + k) = c.place_at-place.ensures ∙ ap place none in
    let room : place (0 + k) + size_of e.kind ≤ length out = (let inside = c.requires.inside k lt in omega (arith, inside, ap place none, c.requires.size, c.loop-index.invariant.len)) in
    let written = c.write_chosen.ensures.bytes ∙ (λ i. if is_true (get_or mask k 0) then with_bytes out (here i) (bytes_at values from ((c.requires.word.1 ∙ c.requires.size) i)) else out) in
    let one = times (is_true (get_or mask k 0)) n a.step c.step_of-used.ensures in
    let next : used * a.step + n * a.step ≡ (used + n) * a.step = omega arith in
    let more = step_few (is_true (get_or mask k 0)) n 1 c.step_of-used.ensures in
    record {
      len = c.write_chosen.ensures.len ∙ c.loop-index.invariant.len;
      few = omega (arith, more, c.loop-index.invariant.few);
      wrote = subst (λ q. Wrote e values a.step q (map place (trues_in (0 + (k + 1)) (drop (k + 1) mask))) c.write_chosen.new.out (scattered (One e) values a.step 0 (trues_on a.line 0 mask) a.out.now)) next
          (wrote_next e values a.step place k (used * a.step) from (n * a.step) mask out c.write_chosen.new.out _ lt (omega (arith, c.requires.step, c.requires.size)) room
          (λ end. omega (arith, c.min.ensures, end, c.requires.size)) one written c.loop-index.invariant.wrote);
    }

pub loop-index-init : goal.loop-index-init
loop-index-init c =
    let a = c.args in let ps : List ℕ = trues_on a.line 0 a.mask.now in let none : 0 ≡ 0 * a.step = omega arith in record {
      len = refl;
      few = omega arith;
      wrote = record {
        inside = omega (arith, none);
        held = subst (λ q. AreValues (size_of a.elem.kind) q a.step (length ps) (length a.values.now)) none
            (subst (λ n. AreValues n 0 a.step (length ps) (length a.values.now)) c.requires.size c.requires.held);
        rest = ap (λ q. scattered (One a.elem) a.values.now a.step q ps a.out.now) (sym none);
      };
    }

pub returns : goal.returns
returns c =
    let a = c.args in let mask : List ℕ = a.mask.now in let k = c.loop-index.index in
    let place : ℕ → ℕ = place_on_line a.line.start a.line.step in
    let none : drop k mask ≡ [] = drop_all k mask (omega (arith, c.loop-index-test.false)) in
    ap (λ ms. scattered (One a.elem) a.values.now a.step (c.loop-index.used * a.step) (map place (trues_in (0 + k) ms)) c.loop-index.out) (sym none) ∙ c.loop-index.invariant.wrote.rest

pub returns-then-values-size : goal.returns-then-values-size
returns-then-values-size c =
    let a = c.args in let ps : List ℕ = trues_on a.line 0 a.mask.now in
    none_chosen a.elem a.values.now a.step ps a.out.now (subst (λ n. AreValues n 0 a.step (length ps) (length a.values.now)) c.requires.size c.requires.held)
    (omega (arith, c.if-values-size.true, c.requires.size))

pub overflow_add-used : goal.overflow_add-used
overflow_add-used c =
    let mask : List ℕ = c.args.mask.now in let k = c.loop-index.index in
    let lt : k < length mask = omega (arith, c.loop-index-test.true, c.loop-index.auto.index-end) in
    let more = step_few (is_true (get_or mask k 0)) c.step_of-used.result 1 c.step_of-used.ensures in
    omega (arith, more, lt, c.loop-index.invariant.few, c.requires.range)
