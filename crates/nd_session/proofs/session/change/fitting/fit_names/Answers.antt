use Rattle.std.proofs.Common.{◌∙◌, ℕ, List, subst, sym, refl, arith, string_bytes}
use Rattle.nd_session.specs.Session.Change.{FitsAt}
use Rattle.nd_session.specs.Session.Now.{value_now}
use Rattle.nd_session.specs.Session.Reading.{value_at}
use Rattle.nd_session.proofs.session.Agreeing.{false_true}
use Rattle.nd_session.proofs.session.Fitting.{IsNameFit}
use Rattle.nd_heap.proofs.Entries.{all_more, all_of}
use Rattle.nd_session.proofs.session.Reading.{text_all, text_entry}
use Rattle.nd_session.proofs.session.change.fitting.fit_names.Goals as goal

pub returns-then-not-fits_name : goal.returns-then-not-fits_name
returns-then-not-fits_name c =
    let now = value_now c.args.names.now.entries in
    let here = value_at c.in-Some.value.now in (
      false_true,
      λ all. sym c.if-not-fits_name.true ∙ c.fits_name.ensures.1 (subst (λ (n : List ℕ). FitsAt (now n) here) (sym c.as_str.ensures.value)
          (all (string_bytes c.in-Some.name.now) here (text_entry value_at c.in-Some.name.now c.in-Some.value.now c.args.reads.now.entries c.in-Some.ensures.value))),
    )

pub loop-i-preserved : goal.loop-i-preserved
loop-i-preserved c =
    let now = value_now c.args.names.now.entries in
    all_more (IsNameFit now) c.args.reads.now.entries c.loop-i.i (c.in-Some.name.now, c.in-Some.value.now) (sym c.in-Some.ensures.entry)
    (subst (λ (n : List ℕ). FitsAt (now n) (value_at c.in-Some.value.now)) c.as_str.ensures.value (c.fits_name.ensures.0 c.if-not-fits_name.false)) c.loop-i.invariant

pub returns : goal.returns
returns c =
    let now = value_now c.args.names.now.entries in (
      λ yes. text_all value_at (λ n v. FitsAt (now n) v) c.args.reads.now.entries
          (all_of (IsNameFit now) c.args.reads.now.entries c.loop-i.i (omega (arith, c.loop-i-test.false, c.len-i-end.ensures.len)) c.loop-i.invariant),
      λ all. refl,
    )
