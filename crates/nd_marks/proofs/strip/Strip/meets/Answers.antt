use Rattle.std.proofs.Common.{◌≡◌, ℕ, ◌+◌, ◌-◌, ◌*◌, ◌/◌, ◌%◌, ◌<◌, ◌≤◌, ◌∙◌, nat_lt, true, refl, sym, ap, ap₂, inl, inr, arith}
use Rattle.std.proofs.lemmas.Bool.{cases_lt}
use Rattle.std.proofs.lemmas.Bool.Decides.{nat_tests}
use Rattle.std.proofs.Math.Nat.{mul-le-mul_right}
use Rattle.nd_marks.specs.Marks.{Strip, in_rows, in_strip}
use Rattle.nd_marks.proofs.Strips.{before, between, divided, next_behind, no_bytes, none_from, past, row_in}
use Rattle.nd_marks.proofs.strip.Strip.meets.Goals.{then-self-eq0-via-then-self-eq0, then-self-eq0-via-else-self-eq0+then-self-eq0-2, then-self-eq0-via-else-self-eq0+else-self-eq0-2+then-to-from}
use Rattle.nd_marks.proofs.strip.Strip.meets.Goals as goal

pub returns-then-self-eq0-clause-none : goal.returns-then-self-eq0-clause-none
returns-then-self-eq0-clause-none c = let r = c.self.inside in λ h p lo hi. ap (λ s. in_strip s p) (sym c.self.view_is) ∙ elim c.then-self-eq0.branch [
  | then-self-eq0-via-then-self-eq0 w ↦ ap (λ n. in_rows r.first r.width r.step n p) w.if-self-eq0.true
  | then-self-eq0-via-else-self-eq0+then-self-eq0-2 w ↦ ap (λ v. in_rows r.first v r.step r.count p) w.if-self-eq0-2.true ∙ no_bytes r.first r.step r.count p
  | then-self-eq0-via-else-self-eq0+else-self-eq0-2+then-to-from w ↦ absurd (omega (arith, lo, hi, w.if-to-from.true))
]

pub returns-then-from-first-clause-none : goal.returns-then-from-first-clause-none
returns-then-from-first-clause-none c = let r = c.self.inside in λ h p lo hi.
    let least : c.args.to ≤ c.from-first.result = grind (arith, nat_tests, h) in
    ap (λ s. in_strip s p) (sym c.self.view_is) ∙ before r.first r.width r.step r.count p (omega (arith, hi, least, c.from-first.ensures))

pub returns-then-from-first-clause-some : goal.returns-then-from-first-clause-some
returns-then-from-first-clause-some c = let r = c.self.inside in λ h.
    let inside : c.from-first.result < c.args.to = grind (arith, nat_tests, h) in
    let some : 0 < r.count = omega (arith, c.if-self-eq0.false) in
    let wide : 0 < r.width = omega (arith, c.if-self-eq0-2.false) in (
      r.first,
      omega (arith, c.if-from-first.true, c.from-first.ensures),
      omega (arith, inside, c.from-first.ensures),
      ap (λ s. in_strip s r.first) (sym c.self.view_is) ∙ row_in r.first r.width r.step r.count 0 r.first some (omega arith) (omega arith),
    )

pub returns-then-row-from-clause-none : goal.returns-then-row-from-clause-none
returns-then-row-from-clause-none c = let r = c.self.inside in λ h p lo hi.
    let row : (c.args.from - c.from-first.result) / c.from.result ≡ (c.args.from - r.first) / r.step = ap₂ (λ f s. (c.args.from - f) / s) c.from-first.ensures c.from.ensures in
    ap (λ s. in_strip s p) (sym c.self.view_is)
    ∙ none_from r.first r.width r.step r.count c.args.from p c.self.invariant.1.0 (omega (arith, c.if-from-first.false, c.from-first.ensures)) (omega (arith, c.if-row-from.true, c.from-2.ensures, row)) lo

pub returns-then-behind-from-clause-some : goal.returns-then-behind-from-clause-some
returns-then-behind-from-clause-some c = let r = c.self.inside in λ h.
    let a : ℕ = c.args.from - r.first in
    let row : (c.args.from - c.from-first.result) / c.from.result ≡ a / r.step = ap₂ (λ f s. (c.args.from - f) / s) c.from-first.ensures c.from.ensures in
    let rest : (c.args.from - c.from-first.result) % c.from-3.result ≡ a % r.step = ap₂ (λ f s. (c.args.from - f) % s) c.from-first.ensures c.from-3.ensures in
    let low : a / r.step < r.count = omega (arith, c.if-row-from.false, c.from-2.ensures, row) in
    let here : a % r.step < r.width = omega (arith, c.if-behind-from.true, c.from-4.ensures, rest) in
    let one : nat_lt (a / r.step) r.count ≡ true = grind (arith, nat_tests) in
    let two : nat_lt (a % r.step) r.width ≡ true = grind (arith, nat_tests) in (
      c.args.from,
      omega arith,
      omega (arith, c.if-to-from.false),
      ap (λ s. in_strip s c.args.from) (sym c.self.view_is)
          ∙ divided r.first r.width r.step r.count a c.args.from c.self.invariant.0 c.self.invariant.1.0 refl (omega (arith, c.if-from-first.false, c.from-first.ensures)) ∙ rw (one, two) refl,
    )

pub returns-then-next-self-clause-none : goal.returns-then-next-self-clause-none
returns-then-next-self-clause-none c = let r = c.self.inside in λ h p lo hi.
    let a : ℕ = c.args.from - r.first in
    let row : (c.args.from - c.from-first.result) / c.from.result + 1 ≡ a / r.step + 1 = ap₂ (λ f s. (c.args.from - f) / s + 1) c.from-first.ensures c.from.ensures in
    let rest : (c.args.from - c.from-first.result) % c.from-3.result ≡ a % r.step = ap₂ (λ f s. (c.args.from - f) % s) c.from-first.ensures c.from-3.ensures in
    let next : c.start.result ≡ r.first + (a / r.step + 1) * r.step = c.start.ensures.value ∙ (λ i. sym (ap (λ (s : Strip). s.first) c.self.view_is) i + row i * sym (ap (λ (s : Strip). s.step) c.self.view_is) i) in
    let past : c.args.to ≤ c.start.result = grind (arith, nat_tests, h) in
    ap (λ s. in_strip s p) (sym c.self.view_is)
    ∙ between r.first r.width r.step r.count c.args.from p c.self.invariant.0 c.self.invariant.1.0 (omega (arith, c.if-from-first.false, c.from-first.ensures))
    (omega (arith, c.if-behind-from.false, c.from-4.ensures, rest)) lo (omega (arith, hi, past, next))

pub returns-then-next-self-clause-some : goal.returns-then-next-self-clause-some
returns-then-next-self-clause-some c = let r = c.self.inside in λ h.
    let a : ℕ = c.args.from - r.first in
    let row : (c.args.from - c.from-first.result) / c.from.result + 1 ≡ a / r.step + 1 = ap₂ (λ f s. (c.args.from - f) / s + 1) c.from-first.ensures c.from.ensures in
    let next : c.start.result ≡ r.first + (a / r.step + 1) * r.step = c.start.ensures.value ∙ (λ i. sym (ap (λ (s : Strip). s.first) c.self.view_is) i + row i * sym (ap (λ (s : Strip). s.step) c.self.view_is) i) in
    let inside : c.start.result < c.args.to = grind (arith, nat_tests, h) in
    let less : a / r.step + 1 < r.count = omega (arith, c.if-next-self.true, row) in
    let wide : 0 < r.width = omega (arith, c.if-self-eq0-2.false) in
    let at : ℕ = r.first + (a / r.step + 1) * r.step in (
      at,
      next_behind r.first r.step c.args.from c.self.invariant.0 (omega (arith, c.if-from-first.false, c.from-first.ensures)),
      omega (arith, inside, next),
      ap (λ s. in_strip s at) (sym c.self.view_is) ∙ row_in r.first r.width r.step r.count (a / r.step + 1) at less (omega arith) (omega arith),
    )

pub returns-else-next-self-clause-none : goal.returns-else-next-self-clause-none
returns-else-next-self-clause-none c = let r = c.self.inside in λ h p lo hi.
    let a : ℕ = c.args.from - r.first in
    let row : (c.args.from - c.from-first.result) / c.from.result + 1 ≡ a / r.step + 1 = ap₂ (λ f s. (c.args.from - f) / s + 1) c.from-first.ensures c.from.ensures in
    let rest : (c.args.from - c.from-first.result) % c.from-3.result ≡ a % r.step = ap₂ (λ f s. (c.args.from - f) % s) c.from-first.ensures c.from-3.ensures in
    let most : r.count ≤ a / r.step + 1 = omega (arith, c.if-next-self.false, row) in
    let up : r.count * r.step ≤ (a / r.step + 1) * r.step = mul-le-mul_right r.step most in
    ap (λ s. in_strip s p) (sym c.self.view_is) ∙ elim (cases_lt p (r.first + (a / r.step + 1) * r.step)) [
      | inl lt ↦ between r.first r.width r.step r.count c.args.from p c.self.invariant.0 c.self.invariant.1.0 (omega (arith, c.if-from-first.false, c.from-first.ensures))
          (omega (arith, c.if-behind-from.false, c.from-4.ensures, rest)) lo lt
      | inr ge ↦ past r.first r.width r.step r.count p c.self.invariant.1.0 (omega (arith, ge, up))
    ]
