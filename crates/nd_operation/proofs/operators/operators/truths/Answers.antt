use Rattle.std.proofs.Common.{◌≡◌, Bool, refl, rules}
use Rattle.nd_model.specs.Making.Operand.{truth_number}
use Rattle.nd_model.specs.Making.Operators.{arithmetic, of_truths}
use Rattle.nd_syntax.specs.declared.trees.tree.BinaryOp.{BinaryOp}
use Rattle.nd_syntax.specs.declared.trees.tree.BinaryOp.TheVariants.{BitwiseAnd, BitwiseXor, BitwiseOr}
use Rattle.nd_syntax.specs.Trees.Syntax.{binary_op}
use Rattle.nd_operation.proofs.operators.operators.truths.Goals as goal

-- another operator takes Booleans as numbers
other : (op : BinaryOp) (s t : Bool) → (op ≡ BitwiseAnd → ⊥) → (op ≡ BitwiseXor → ⊥) → (op ≡ BitwiseOr → ⊥) → of_truths (binary_op op) s t ≡ arithmetic (binary_op op) (truth_number s) (truth_number t)
other BitwiseAnd s t h k l = absurd (h refl)
other BitwiseXor s t h k l = absurd (k refl)
other BitwiseOr s t h k l = absurd (l refl)
other op s t h k l = refl

pub returns-in_default : goal.returns-in_default
returns-in_default c =
    rw (other c.args.op c.args.left c.args.right c.in_default.not-BitwiseAnd c.in_default.not-BitwiseXor c.in_default.not-BitwiseOr) (search (rules, c.arithmetic.ensures))
