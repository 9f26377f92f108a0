use Rattle.std.proofs.Common.{sym, arith}
use Rattle.std.proofs.lemmas.List.Elements.{All-from_recursion}
use Rattle.nd_heap.specs.declared.value.Base.{Base}
use Rattle.nd_heap.proofs.Entries.{all_more, all_of}
use Rattle.nd_session.specs.declared.session.found.FoundBytes.{FoundBytes}
use Rattle.nd_session.specs.Session.Found.{bytes_of}
use Rattle.nd_session.specs.Session.Filter.{CoversFound, FilterData}
use Rattle.nd_session.proofs.session.Gathering.{before_weaker}
use Rattle.nd_session.proofs.session.Covering.{found_stays, stays_on}
use Rattle.nd_session.proofs.session.change.covering.add_found.Goals as goal

abbrev IsIn : FilterData → Base × FoundBytes → Type 0
IsIn ws e = CoversFound ws e.0.label (bytes_of e.1)

pub loop-i-init : goal.loop-i-init
loop-i-init c = (tt, λ k h. h)

pub loop-i-preserved : goal.loop-i-preserved
loop-i-preserved c =
    let was = c.loop-i.filter in
    let now = c.add_bytes.new.self in
    let es = c.args.found.now.entries in (
      all_more (IsIn now) es c.loop-i.i (c.in-Some.base.now, c.in-Some.bytes.now) (sym c.in-Some.ensures.entry)
          (λ b own p there. c.add_bytes.ensures.added b own p (c.granules_of.ensures p there))
          (before_weaker (IsIn was) (IsIn now) (λ e. found_stays was now e.0.label (bytes_of e.1) c.add_bytes.ensures.stays) es c.loop-i.i c.loop-i.invariant.0),
      stays_on c.args.filter.now was now c.loop-i.invariant.1 c.add_bytes.ensures.stays,
    )

pub returns-clause-added : goal.returns-clause-added
returns-clause-added c =
    let now = c.loop-i.filter in
    let es = c.args.found.now.entries in
    All-from_recursion (IsIn now) es
    (all_of (IsIn now) es c.loop-i.i (omega (arith, c.loop-i-test.false, c.len-i-end.ensures.len)) c.loop-i.invariant.0)
