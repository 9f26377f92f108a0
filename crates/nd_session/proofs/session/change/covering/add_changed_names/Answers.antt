use Rattle.std.proofs.Common.{sym, subst, arith, Global}
use Rattle.std.specs.Prelude.{IsTrue}
use Rattle.std.specs.Rc.{rc_str_bytes}
use Rattle.std.specs.declared.rc.RcStr.{RcStr}
use Rattle.std.proofs.lemmas.List.Elements.{All-from_recursion}
use Rattle.nd_model.specs.Cells.Running.{Name}
use Rattle.nd_heap.proofs.Entries.{all_more, all_of}
use Rattle.nd_session.specs.Session.Filter.{FilterData, covers}
use Rattle.nd_session.proofs.session.Gathering.{before_weaker}
use Rattle.nd_session.proofs.session.Covering.{stays_on}
use Rattle.nd_session.proofs.session.change.covering.add_changed_names.Goals as goal

abbrev IsIn : {V : Type 0} → FilterData → RcStr Global × V → Type 0
IsIn ws e = IsTrue (covers ws (Name (rc_str_bytes e.0)))

pub loop-i-init : goal.loop-i-init
loop-i-init g c = (tt, λ k h. h)

pub loop-i-preserved : goal.loop-i-preserved
loop-i-preserved g c =
    let was = c.loop-i.filter in
    let now = c.add_name.new.self in
    let es = c.args.names.now.entries in (
      all_more (IsIn {V = g.row.V.Denot} now) es c.loop-i.i (c.in-Some.name.now, c.in-Some.field-0-1.now) (sym c.in-Some.ensures.entry)
          (subst (λ n. IsTrue (covers now (Name n))) c.as_str.ensures.value c.add_name.ensures.added)
          (before_weaker (IsIn {V = g.row.V.Denot} was) (IsIn now) (λ e. c.add_name.ensures.stays (Name (rc_str_bytes e.0))) es c.loop-i.i c.loop-i.invariant.0),
      stays_on c.args.filter.now was now c.loop-i.invariant.1 c.add_name.ensures.stays,
    )

pub returns-clause-added : goal.returns-clause-added
returns-clause-added g c =
    let now = c.loop-i.filter in
    let es = c.args.names.now.entries in
    All-from_recursion (IsIn {V = g.row.V.Denot} now) es
    (all_of (IsIn {V = g.row.V.Denot} now) es c.loop-i.i (omega (arith, c.loop-i-test.false, c.len-i-end.ensures.len)) c.loop-i.invariant.0)
