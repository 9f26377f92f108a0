use Rattle.std.proofs.Common.{◌≡◌, ◌-◌, ◌/◌, ◌%◌, ◌&&◌, ◌∙◌, nat_lt, true, false, refl, sym, ap, arith}
use Rattle.std.proofs.lemmas.Bool.Decides.{nat_tests}
use Rattle.nd_marks.specs.Marks.{in_strip}
use Rattle.nd_marks.proofs.Strips.{before, divided}
use Rattle.nd_marks.proofs.strip.Strip.holds.Goals as goal

pub returns-then-place-self : goal.returns-then-place-self
returns-then-place-self c = let r = c.self.inside in
    sym (ap (λ s. in_strip s c.args.place) (sym c.self.view_is) ∙ before r.first r.width r.step r.count c.args.place c.if-place-self.true)

pub returns-then-behind-self : goal.returns-then-behind-self
returns-then-behind-self c = let r = c.self.inside in let a = c.args.place - r.first in
    let one : nat_lt (a / r.step) r.count ≡ true = grind (arith, nat_tests, c.if-behind-self.true) in
    sym (ap (λ s. in_strip s c.args.place) (sym c.self.view_is) ∙ divided r.first r.width r.step r.count a c.args.place c.self.invariant.0 c.self.invariant.1.0 refl c.if-place-self.false ∙ ap (λ b. b && nat_lt (a % r.step) r.width) one)

pub returns-else-behind-self : goal.returns-else-behind-self
returns-else-behind-self c = let r = c.self.inside in let a = c.args.place - r.first in
    let one : nat_lt (a / r.step) r.count ≡ false = grind (arith, nat_tests, c.if-behind-self.false) in
    one ∙ sym (ap (λ s. in_strip s c.args.place) (sym c.self.view_is) ∙ divided r.first r.width r.step r.count a c.args.place c.self.invariant.0 c.self.invariant.1.0 refl c.if-place-self.false ∙ ap (λ b. b && nat_lt (a % r.step) r.width) one)
