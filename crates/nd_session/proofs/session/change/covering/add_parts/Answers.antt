use Rattle.std.proofs.Common.{sym, subst, arith, Global}
use Rattle.std.proofs.lemmas.List.Elements.{All-from_recursion}
use Rattle.nd_heap.specs.declared.value.Base.{Base}
use Rattle.nd_heap.proofs.Entries.{all_more, all_of}
use Rattle.std.specs.Prelude.{IsTrue, is_some}
use Rattle.std.specs.declared.rc.Rc.{Rc}
use Rattle.nd_marks.specs.Kept.{KeptData, kept_at}
use Rattle.nd_session.specs.Session.Filter.{CoversKept, FilterData}
use Rattle.nd_session.proofs.session.Gathering.{before_weaker}
use Rattle.nd_session.proofs.session.Covering.{kept_stays, stays_on}
use Rattle.nd_session.proofs.session.change.covering.add_parts.Goals as goal

abbrev IsIn : FilterData → Base × Rc KeptData Global → Type 0
IsIn ws e = CoversKept ws e.0.label e.1.value

pub loop-i-init : goal.loop-i-init
loop-i-init c = (tt, λ k h. h)

pub loop-i-preserved : goal.loop-i-preserved
loop-i-preserved c =
    let was = c.loop-i.filter in
    let now = c.add_bytes.new.self in
    let es = c.args.parts.now.entries in (
      all_more (IsIn now) es c.loop-i.i (c.in-Some.base.now, c.in-Some.part.now) (sym c.in-Some.ensures.entry)
          (λ b own p there. c.add_bytes.ensures.added b own p (c.granules.ensures p (subst (λ (k : KeptData). IsTrue (is_some (kept_at k p))) (sym c.as_ref.ensures) there)))
          (before_weaker (IsIn was) (IsIn now) (λ e. kept_stays was now e.0.label e.1.value c.add_bytes.ensures.stays) es c.loop-i.i c.loop-i.invariant.0),
      stays_on c.args.filter.now was now c.loop-i.invariant.1 c.add_bytes.ensures.stays,
    )

pub returns-clause-added : goal.returns-clause-added
returns-clause-added c =
    let now = c.loop-i.filter in
    let es = c.args.parts.now.entries in
    All-from_recursion (IsIn now) es
    (all_of (IsIn now) es c.loop-i.i (omega (arith, c.loop-i-test.false, c.len-i-end.ensures.len)) c.loop-i.invariant.0)
