use Rattle.std.proofs.Common.{◌≡◌, ◌∙◌, ◌+◌, ◌<◌, ◌≤◌, refl, sym, ap, ap₂, subst, arith}
use Rattle.std.proofs.lemmas.Bool.Decides.{nat_tests}
use Rattle.nd_model.specs.Arrays.Tuple.{elements_of}
use Rattle.nd_model.specs.Arrays.View.{item_size}
use Rattle.nd_model.specs.Cells.Sound.{LiesIn}
use Rattle.nd_types.specs.Types.{type_of}
use Rattle.nd_view.specs.Strides.{behind_of}
use Rattle.nd_view.proofs.Within.{below_lies, lies_below, nothing_lies}
use Rattle.nd_view.proofs.strided.View.lies_within.Goals as goal

pub returns-then-element_count-eq0 : goal.returns-then-element_count-eq0
returns-then-element_count-eq0 c = (
  λ _. subst (LiesIn c.args.length) c.self.view_is (nothing_lies c.self.inside c.self.invariant c.args.length
      (ap elements_of (sym c.as_slice-shape.ensures) ∙ sym c.element_count.ensures ∙ c.if-element_count-eq0.true)),
  λ _. refl,
)

pub returns : goal.returns
returns c =
    let v = c.self.inside in
    let len = c.args.length in
    let some : 0 < elements_of v.shape.items = omega (arith, ap elements_of c.as_slice-shape.ensures, c.element_count.ensures, c.if-element_count-eq0.false) in
    let reach : c.reach_of-reach.result ≡ behind_of v.shape.items v.strides.items = c.reach_of-reach.ensures ∙ ap₂ (λ shape strides. behind_of shape strides) c.as_slice-shape.ensures c.as_slice.ensures in
    let end : c.from.result + c.reach_of-reach.result + c.from-2.result ≡ v.offset + behind_of v.shape.items v.strides.items + item_size (type_of v.elem)
    = omega (arith, c.from.ensures, reach, c.from-2.ensures, c.size.ensures.value) in (
      λ yes. subst (LiesIn len) c.self.view_is (lies_below v c.self.invariant len
          (let le : c.from.result + c.reach_of-reach.result + c.from-2.result ≤ c.from-3.result = grind (arith, nat_tests) in omega (arith, le, end, c.from-3.ensures))),
      λ h. let le : v.offset + behind_of v.shape.items v.strides.items + item_size (type_of v.elem) ≤ len = below_lies v c.self.invariant len some (subst (LiesIn len) (sym c.self.view_is) h) in
          let le' : c.from.result + c.reach_of-reach.result + c.from-2.result ≤ c.from-3.result = omega (arith, le, end, c.from-3.ensures) in grind (arith, nat_tests),
    )
