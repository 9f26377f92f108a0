use Rattle.std.proofs.Common.{◌∙◌, ℕ, List, subst, sym, refl, arith, string_bytes}
use Rattle.nd_session.specs.Session.Change.{FitsAt}
use Rattle.nd_session.specs.Session.Now.{input_now}
use Rattle.nd_session.specs.Session.Reading.{source_at}
use Rattle.nd_session.proofs.session.Agreeing.{false_true}
use Rattle.nd_session.proofs.session.Fitting.{IsInputFit}
use Rattle.nd_heap.proofs.Entries.{all_more, all_of}
use Rattle.nd_session.proofs.session.Reading.{text_all, text_entry}
use Rattle.nd_session.proofs.session.change.fitting.fit_inputs.Goals as goal

pub returns-then-not-fits_input : goal.returns-then-not-fits_input
returns-then-not-fits_input c =
    let now = input_now c.args.inputs.now.entries in
    let here = source_at c.in-Some.input.now in (
      false_true,
      λ all. sym c.if-not-fits_input.true ∙ c.fits_input.ensures.1 (subst (λ (n : List ℕ). FitsAt (now n) here) (sym c.as_str.ensures.value)
          (all (string_bytes c.in-Some.name.now) here (text_entry source_at c.in-Some.name.now c.in-Some.input.now c.args.reads.now.entries c.in-Some.ensures.value))),
    )

pub loop-i-preserved : goal.loop-i-preserved
loop-i-preserved c =
    let now = input_now c.args.inputs.now.entries in
    all_more (IsInputFit now) c.args.reads.now.entries c.loop-i.i (c.in-Some.name.now, c.in-Some.input.now) (sym c.in-Some.ensures.entry)
    (subst (λ (n : List ℕ). FitsAt (now n) (source_at c.in-Some.input.now)) c.as_str.ensures.value (c.fits_input.ensures.0 c.if-not-fits_input.false)) c.loop-i.invariant

pub returns : goal.returns
returns c =
    let now = input_now c.args.inputs.now.entries in (
      λ yes. text_all source_at (λ n v. FitsAt (now n) v) c.args.reads.now.entries
          (all_of (IsInputFit now) c.args.reads.now.entries c.loop-i.i (omega (arith, c.loop-i-test.false, c.len-i-end.ensures.len)) c.loop-i.invariant),
      λ all. refl,
    )
