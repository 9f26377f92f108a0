use Rattle.std.proofs.Common.{sym, arith, ℕ}
use Rattle.std.proofs.lemmas.List.Elements.{All-from_recursion}
use Rattle.nd_heap.specs.declared.value.Base.{Base}
use Rattle.nd_heap.proofs.Entries.{all_more, all_of}
use Rattle.nd_session.specs.Session.Filter.{CoversLength, FilterData}
use Rattle.nd_session.proofs.session.Gathering.{before_weaker}
use Rattle.nd_session.proofs.session.Covering.{length_stays, stays_on}
use Rattle.nd_session.proofs.session.change.covering.add_lengths.Goals as goal

abbrev IsIn : FilterData → Base × ℕ → Type 0
IsIn ws e = CoversLength ws e.0.label

pub loop-i-init : goal.loop-i-init
loop-i-init c = (tt, λ k h. h)

pub loop-i-preserved : goal.loop-i-preserved
loop-i-preserved c =
    let was = c.loop-i.filter in
    let now = c.add_length.new.self in
    let es = c.args.lengths.now.entries in (
      all_more (IsIn now) es c.loop-i.i (c.in-Some.base.now, c.in-Some.field-0-1.now) (sym c.in-Some.ensures.entry)
          c.add_length.ensures.added
          (before_weaker (IsIn was) (IsIn now) (λ e. length_stays was now e.0.label c.add_length.ensures.stays) es c.loop-i.i c.loop-i.invariant.0),
      stays_on c.args.filter.now was now c.loop-i.invariant.1 c.add_length.ensures.stays,
    )

pub returns-clause-added : goal.returns-clause-added
returns-clause-added c =
    let now = c.loop-i.filter in
    let es = c.args.lengths.now.entries in
    All-from_recursion (IsIn now) es
    (all_of (IsIn now) es c.loop-i.i (omega (arith, c.loop-i-test.false, c.len-i-end.ensures.len)) c.loop-i.invariant.0)
