use Rattle.std.proofs.Common.{sym, ◌∙◌, arith}
use Rattle.nd_view.proofs.SameViews.{writable_same, elem_same, offset_same, strides_same, all_same, not_true, not_false, bools, integers, numbers}
use Rattle.nd_view.proofs.strided.View.is_same.Goals as goal

pub returns-then-self-other : goal.returns-then-self-other
returns-then-self-other c = (
  λ f. cc,
  λ e.
      let same = (bools c.self.inside.writable c.other.inside.writable).1 (writable_same c.self.inside c.other.inside c.self.invariant c.other.invariant c.args.self.now c.args.other.now c.self.view_is c.other.view_is e) in
      sym (not_true _ c.if-self-other.true) ∙ same,
)

pub returns-then-self-other-2 : goal.returns-then-self-other-2
returns-then-self-other-2 c = (
  λ f. cc,
  λ e.
      let same = offset_same c.self.inside c.other.inside c.self.invariant c.other.invariant c.args.self.now c.args.other.now c.self.view_is c.other.view_is e in
      absurd (omega (arith, same, c.if-self-other-2.true)),
)

pub returns-then-ne-2 : goal.returns-then-ne-2
returns-then-ne-2 c = (
  λ f. cc,
  λ e.
      let same = strides_same c.self.inside c.other.inside c.self.invariant c.other.invariant c.args.self.now c.args.other.now c.self.view_is c.other.view_is e in
      let here = (integers c.as_slice-3.result.now c.as_slice-4.result.now).1 (c.as_slice-3.ensures ∙ same ∙ sym c.as_slice-4.ensures) in
      sym (not_true _ (sym c.ne-2.ensures ∙ c.if-ne-2.true)) ∙ here,
)

pub returns : goal.returns
returns c =
    let write = (bools c.self.inside.writable c.other.inside.writable).0 (not_false _ c.if-self-other.false) in
    let shape = sym c.as_slice.ensures ∙ (numbers c.as_slice.result.now c.as_slice-2.result.now).0 (not_false _ (sym c.ne.ensures ∙ c.if-ne.false)) ∙ c.as_slice-2.ensures in
    let strides = sym c.as_slice-3.ensures ∙ (integers c.as_slice-3.result.now c.as_slice-4.result.now).0 (not_false _ (sym c.ne-2.ensures ∙ c.if-ne-2.false)) ∙ c.as_slice-4.ensures in (
      λ yes. all_same c.self.inside c.other.inside c.self.invariant c.other.invariant c.args.self.now c.args.other.now c.self.view_is c.other.view_is write (omega (arith, c.if-self-other-2.false)) shape strides (c.is_same.ensures.0 yes),
      λ e. c.is_same.ensures.1 (elem_same c.self.inside c.other.inside c.self.invariant c.other.invariant c.args.self.now c.args.other.now c.self.view_is c.other.view_is e),
    )
