use Rattle.std.proofs.Common.{sym, ap, ◌∙◌}
use Rattle.std.specs.Prelude.{◌&&◌}
use Rattle.std.specs.List.{list_any}
use Rattle.nd_model.specs.Making.Operators.{is_negative}
use Rattle.nd_ufunc.specs.Elementwise.Stretched.{stretched_numbers}
use Rattle.nd_ufunc.proofs.elementwise.Any.{and_any}
use Rattle.nd_ufunc.proofs.elementwise.powers.has_power_below.Goals as goal

pub returns-else-is_power : goal.returns-else-is_power
returns-else-is_power c =
    let xs = stretched_numbers c.args.exponents.now c.args.count in
    c.if-is_power.false ∙ sym ((λ i. list_any (λ z. c.is_power.ensures z i) xs) ∙ and_any is_negative c.is_power.result xs ∙ ap (λ b. b && list_any is_negative xs) c.if-is_power.false)
