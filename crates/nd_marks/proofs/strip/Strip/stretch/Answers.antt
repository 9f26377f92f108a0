use Rattle.std.proofs.Common.{◌≡◌, ℕ, ◌+◌, ◌-◌, ◌*◌, ◌/◌, ◌%◌, ◌<◌, ◌≤◌, ◌∙◌, nat_lt, true, false, refl, sym, ap, arith}
use Rattle.std.proofs.lemmas.Bool.Decides.{nat_tests}
use Rattle.nd_marks.specs.Marks.{in_strip}
use Rattle.nd_marks.proofs.Strips.{before, past, stretched}
use Rattle.std.proofs.lemmas.Nat.{div-add-mod'}
use Rattle.std.proofs.Math.Nat.{mod-lt, mul-le-mul_right}
use Rattle.nd_marks.proofs.strip.Strip.stretch.Goals.{then-is_held, else-is_held}
use Rattle.nd_marks.proofs.strip.Strip.stretch.Goals as goal

pub returns-then-place-self-clause-alike : goal.returns-then-place-self-clause-alike
returns-then-place-self-clause-alike c = let r = c.self.inside in λ p from to.
    ap (λ s. in_strip s p) (sym c.self.view_is) ∙ before r.first r.width r.step r.count p (omega (arith, to, c.from.ensures))

pub returns-then-behind-self-clause-alike : goal.returns-then-behind-self-clause-alike
returns-then-behind-self-clause-alike c = let r = c.self.inside in λ p from to.
    let a : ℕ = c.args.place - r.first in
    let whole : a / r.step * r.step + a % r.step ≡ a = div-add-mod' a r.step in
    let up : r.count * r.step ≤ a / r.step * r.step = mul-le-mul_right r.step c.if-behind-self.true in
    ap (λ s. in_strip s p) (sym c.self.view_is) ∙ past r.first r.width r.step r.count p c.self.invariant.1.0 (omega (arith, from, whole, up, c.if-place-self.false))

pub returns-clause-alike : goal.returns-clause-alike
returns-clause-alike c = let r = c.self.inside in λ p from to.
    let a : ℕ = c.args.place - r.first in
    let less : a % r.step < r.step = mod-lt a c.self.invariant.0 in
    let wide : r.width ≤ r.step = c.self.invariant.1.0 in
    let one : nat_lt (a / r.step) r.count ≡ true = grind (arith, nat_tests, c.if-behind-self.false) in
    ap (λ s. in_strip s p) (sym c.self.view_is) ∙ elim c.if-is_held.branch [
      | then-is_held w ↦
          let held : a % r.step < r.width = w.if-is_held.true in
          let end : p < c.args.place + (r.width - a % r.step) = omega (arith, to, c.from-2.ensures, c.from-3.ensures, w.length-is) in
          let yes : nat_lt (a % r.step) r.width ≡ true = grind (arith, nat_tests) in
          let also : nat_lt (a % r.step + (p - c.args.place)) r.width ≡ true = grind (arith, nat_tests) in
          stretched r.first r.width r.step r.count a c.args.place p c.self.invariant.0 wide refl c.if-place-self.false from (omega arith) ∙ rw (one, also, yes) refl
      | else-is_held w ↦
          let out : r.width ≤ a % r.step = w.if-is_held.false in
          let end : p < c.args.place + (r.step - a % r.step) = omega (arith, to, c.from-2.ensures, c.from-3.ensures, w.length-is) in
          let no : nat_lt (a % r.step) r.width ≡ false = grind (arith, nat_tests) in
          let also : nat_lt (a % r.step + (p - c.args.place)) r.width ≡ false = grind (arith, nat_tests) in
          stretched r.first r.width r.step r.count a c.args.place p c.self.invariant.0 wide refl c.if-place-self.false from end ∙ rw (one, also, no) refl
    ]
