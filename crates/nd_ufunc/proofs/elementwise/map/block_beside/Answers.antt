use Rattle.std.proofs.Common.{◌≡◌, ℕ, ℤ, List, length, sym, ap, ◌∙◌, subst}
use Rattle.nd_model.specs.Making.Operand.{Operand}
use Rattle.nd_types.specs.Kinds.{kind_of}
use Rattle.nd_ufunc.specs.Elementwise.Arguments.{argument_of, numbers_beside}
use Rattle.nd_ufunc.specs.Elementwise.Faults.{Makes}
use Rattle.nd_ufunc.specs.Elementwise.Made.{bytes_unless_below}
use Rattle.nd_ufunc.specs.Elementwise.Stretched.{stretched_numbers}
use Rattle.nd_ufunc.specs.Scalar.Ufuncs.{ufunc_of}
use Rattle.nd_ufunc.proofs.elementwise.Mapped.{length-beside}
use Rattle.nd_ufunc.proofs.elementwise.map.block_beside.Goals as goal

pub binary_block-requires-clause-left_count : goal.binary_block-requires-clause-left_count
binary_block-requires-clause-left_count c =
    let counted = c.requires.elements in
    ap (λ n. length (stretched_numbers c.in_ok-left.left n)) counted ∙ ap length c.in_ok-left.ensures.numbers ∙ length-beside (argument_of c.args.left) c.args.shape.now ∙ sym counted

pub binary_block-requires-clause-right_count : goal.binary_block-requires-clause-right_count
binary_block-requires-clause-right_count c =
    let counted = c.requires.elements in
    ap (λ n. length (stretched_numbers c.in_ok-right.right n)) counted ∙ ap length c.in_ok-right.ensures.numbers ∙ length-beside (argument_of c.args.right) c.args.shape.now ∙ sym counted

pub returns : goal.returns
returns c =
    let x : Operand = argument_of c.args.left in let y : Operand = argument_of c.args.right in let shape : List ℕ = c.args.shape.now in
    let left : stretched_numbers c.in_ok-left.left c.args.count ≡ numbers_beside x shape = ap (stretched_numbers c.in_ok-left.left) c.requires.elements ∙ c.in_ok-left.ensures.numbers in
    let right : stretched_numbers c.in_ok-right.right c.args.count ≡ numbers_beside y shape = ap (stretched_numbers c.in_ok-right.right) c.requires.elements ∙ c.in_ok-right.ensures.numbers in
    subst (λ (p : List ℤ × List ℤ). Makes {X = List ℕ} {Y = List ℕ} (λ b. b) c.binary_block.result (bytes_unless_below (ufunc_of c.args.ufunc) (kind_of c.args.kind) p.0 p.1))
    (λ i. (left i, right i)) c.binary_block.ensures
