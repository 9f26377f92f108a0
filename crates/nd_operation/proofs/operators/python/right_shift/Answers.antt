use Rattle.std.proofs.Common.{◌≡◌, pos, negsuc, true, false, refl, sym, subst, ◌∙◌, arith, rules}
use mir.Facts.{to_z-of_z}
use Rattle.nd_model.specs.Making.Operand.{python_int}
use Rattle.nd_operation.specs.Operators.Contents.{number_made}
use Rattle.nd_operation.specs.Refusals.Ends.{Says}
use Rattle.std.proofs.lemmas.Nat.{pow_below}
use Rattle.nd_model.specs.Making.Operators.{is_negative}
use Rattle.nd_ufunc.proofs.scalar.WholeNumbers.{out_above, out_below}
use Rattle.nd_operation.proofs.operators.python.right_shift.Goals as goal

pub pow-requires : goal.pow-requires
pow-requires c = record { sfits = pow_below c.args.count 127 (omega arith) }

pub returns-then-is_negative : goal.returns-then-is_negative
returns-then-is_negative c =
    let number = c.ranges.number in
    let less : is_negative c.args.number ≡ true = sym (simp to_z-of_z at c.is_negative.ensures) ∙ c.if-is_negative.true in
    subst (λ z. Says number_made c.python_int.result (python_int z)) (sym (out_below c.args.number c.args.count c.ranges.number (omega arith) less))
    (c.python_int.ensures (negsuc 0) (search rules, refl))

pub returns : goal.returns
returns c =
    let number = c.ranges.number in
    let more : is_negative c.args.number ≡ false = sym (simp to_z-of_z at c.is_negative.ensures) ∙ c.if-is_negative.false in
    subst (λ z. Says number_made c.python_int-2.result (python_int z)) (sym (out_above c.args.number c.args.count c.ranges.number (omega arith) more))
    (c.python_int-2.ensures (pos 0) (search rules, refl))
