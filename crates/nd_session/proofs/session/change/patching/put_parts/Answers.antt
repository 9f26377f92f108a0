use Rattle.std.proofs.Common.{◌≡◌, ◌∙◌, ℕ, List, true, cond, add-one, inl, inr, refl, sym, ap, arith}
use Rattle.std.proofs.lemmas.Bool.{cases_Bool}
use Rattle.nd_heap.specs.Live.{bytes_at}
use Rattle.nd_heap.specs.Values.{base_of}
use Rattle.nd_heap.proofs.Same.{same_bases}
use Rattle.nd_marks.specs.Kept.{kept_at}
use Rattle.nd_model.specs.Arrays.Value as values
use Rattle.nd_model.specs.Arrays.Value.{Base}
use Rattle.nd_model.specs.Cells.Footprint.{patched}
use Rattle.nd_session.specs.Session.Now.{kept_in}
use Rattle.nd_session.proofs.session.Putting.{part_put, parts_all}
use Rattle.nd_session.proofs.session.Reading.{same_base_sym}
use Rattle.nd_session.proofs.session.change.patching.put_parts.Goals as goal

pub loop-i-preserved : goal.loop-i-preserved
loop-i-preserved c =
    let base = base_of c.in-Some.base.now in
    let w = kept_at (kept_in c.in-Some.part.now) in
    let cur = bytes_at c.loop-i.heap.blocks in
    let put : (b : values.Base) → bytes_at c.write.new.self.blocks b ≡ cond (values.same_base b base) (patched w (cur b)) (cur b)
    = λ b. ap (λ (f : Base → List ℕ). f b) c.in_ok-write.ensures.ok ∙ ap (λ k. cond (values.same_base base b) (patched (kept_at k) (cur base)) (cur b)) c.as_ref-part.ensures
    ∙ elim (cases_Bool (values.same_base b base)) [
      | inl same ↦ let there : values.same_base base b ≡ true = same_base_sym base b ∙ same in rw (same, there) (ap (λ d. patched w (cur d)) (sym (same_bases b base same)))
      | inr apart ↦ let other = same_base_sym base b ∙ apart in rw (apart, other) refl
    ] in
    rw add-one (
      c.write.ensures.names ∙ c.loop-i.invariant.0,
      part_put c.args.parts.now.entries c.loop-i.i (c.in-Some.base.now, c.in-Some.part.now) (bytes_at c.args.heap.now.blocks) cur (bytes_at c.write.new.self.blocks)
          (sym c.in-Some.ensures.entry) c.in-Some.ensures.value c.loop-i.invariant.1 put,
    )

pub returns-clause-blocks : goal.returns-clause-blocks
returns-clause-blocks c = λ b. c.loop-i.invariant.1 b ∙ parts_all c.args.parts.now.entries c.loop-i.i (bytes_at c.args.heap.now.blocks) b (omega (arith, c.loop-i-test.false, c.len-i-end.ensures.len))
