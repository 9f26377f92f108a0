use Rattle.std.proofs.Common.{rules, ◌≡◌, ℕ, ◌+◌, ◌-◌, ◌*◌, ◌≤◌, List, pos, length, get_or, refl, sym, ap, ◌∙◌, arith}
use Rattle.std.specs.Int.{w128, cast_signed}
use Rattle.std.specs.Int.RustNames.{FitsSigned}
use mir.Facts.{to_z-of_z}
use Rattle.nd_ufunc.proofs.elementwise.KeptOff.{keeps_before, keeps_behind, keeps_along}
use Rattle.nd_ufunc.proofs.elementwise.apart.run_keeps_off.Goals as goal

pub returns-then-ends_before-2 : goal.returns-then-ends_before-2
returns-then-ends_before-2 c = (
  λ test.
      let a = c.args in let ps : List ℕ = a.run.now in
      let low : c.place-start.result + a.size ≤ a.first = c.ends_before.ensures.0 c.if-ends_before.true in
      let high : c.place-last.result + a.size ≤ a.first = c.ends_before-then-ends_before.ensures.0 c.if-ends_before-2.true in
      let last : get_or ps (length ps - 1) 0 ≡ c.place-last.result = ap (λ n. get_or ps (n - 1) 0) (sym c.count-count.ensures.value) ∙ sym c.place-last.ensures in
      keeps_before a.size a.first a.step a.at ps c.step-own.result c.step-own.ensures.places (omega (arith, low, c.place-start.ensures)) (omega (arith, high, last)),
  λ off. refl,
)

pub returns-then-end-from-2 : goal.returns-then-end-from-2
returns-then-end-from-2 c = (
  λ test.
      let a = c.args in let ps : List ℕ = a.run.now in
      let end : a.first + (a.at + length ps) * a.step ≡ c.place_at-end.result = ap (λ n. a.first + (a.at + n) * a.step) (sym c.count-count.ensures.value) ∙ sym c.place_at-end.ensures in
      let last : get_or ps (length ps - 1) 0 ≡ c.place-last.result = ap (λ n. get_or ps (n - 1) 0) (sym c.count-count.ensures.value) ∙ sym c.place-last.ensures in
      keeps_behind a.size a.first a.step a.at ps c.step-own.result c.step-own.ensures.places
      (omega (arith, end, c.place-start.ensures, c.if-end-from.true, c.from.ensures))
      (omega (arith, end, last, c.if-end-from-2.true, c.from-then-end-from.ensures)),
  λ off. refl,
)

pub returns-then-place_at-from : goal.returns-then-place_at-from
returns-then-place_at-from c = (
  λ test.
      let a = c.args in let ps : List ℕ = a.run.now in let own = c.step-own.result in
      let f : FitsSigned w128 own = search rules in let g : FitsSigned w128 c.from-2.result = search rules in
      let same : own ≡ pos a.step = sym (to_z-of_z f) ∙ ap (cast_signed w128) c.if-own-from.true ∙ to_z-of_z g ∙ c.from-2.ensures in
      keeps_along a.size a.first a.step a.at ps own c.step-own.ensures.places same
      (omega (arith, c.place_at.ensures, c.place-start.ensures, c.if-place_at-from.true, c.from-then-own-from.ensures)),
  λ off. refl,
)
