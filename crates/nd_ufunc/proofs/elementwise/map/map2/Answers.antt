use Rattle.std.proofs.Common.{◌≡◌, ℕ, List, Ok, sym, ap, ◌∙◌, subst}
use Rattle.nd_model.specs.Arrays.Broadcast.{broadcast, broadcasts_to, in_limits}
use Rattle.nd_model.specs.Arrays.Element.{Kind, size_of}
use Rattle.nd_model.specs.Making.Elementwise.{little, operand_sort, binary_kind, common_shape}
use Rattle.nd_model.specs.Making.Operand.{Operand, shape_of}
use Rattle.nd_model.specs.Making.Operators.{BinaryUfunc}
use Rattle.nd_model.specs.Arrays.Strides.{IsInLimits}
use Rattle.nd_model.specs.Arrays.Tuple.{elements_of}
use Rattle.nd_model.specs.Arrays.View.{One, Geo, contiguous}
use Rattle.nd_types.specs.Kinds.{kind_of}
use Rattle.nd_ufunc.specs.Scalar.Ufuncs.{ufunc_of}
use Rattle.nd_ufunc.specs.Elementwise.Arguments.{argument_of, numbers_beside}
use Rattle.nd_ufunc.specs.Elementwise.Faults.{Makes}
use Rattle.nd_ufunc.specs.Elementwise.Made.{bytes_unless_below}
use Rattle.nd_ufunc.proofs.elementwise.Augmented.{left_some, right_some, no_quotient}
use Rattle.nd_ufunc.proofs.elementwise.Common.{limits_alike}
use Rattle.nd_ufunc.proofs.elementwise.Mapped.{within, viewed, both_fit, comes_to}
use Rattle.nd_ufunc.proofs.elementwise.map.map2.Goals as goal

pub block_beside-block-requires-clause-ufunc : goal.block_beside-block-requires-clause-ufunc
block_beside-block-requires-clause-ufunc c = λ divides.
    let x : Operand = argument_of c.args.left in let y : Operand = argument_of c.args.right in let f : BinaryUfunc = ufunc_of c.args.ufunc in
    let k : Kind = kind_of c.in_ok-kind.kind in
    let kind_is : binary_kind f (operand_sort x) (operand_sort y) ≡ Ok k = (λ i. binary_kind f (sym c.argument_sort.ensures i) (sym c.argument_sort-2.ensures i)) ∙ c.in_ok-kind.ensures in
    no_quotient (operand_sort x) (operand_sort y) k (subst (λ h. binary_kind h (operand_sort x) (operand_sort y) ≡ Ok k) divides kind_is)

pub block_beside-block-requires-clause-left_numbers : goal.block_beside-block-requires-clause-left_numbers
block_beside-block-requires-clause-left_numbers c =
    let x : Operand = argument_of c.args.left in let y : Operand = argument_of c.args.right in let f : BinaryUfunc = ufunc_of c.args.ufunc in
    let k : Kind = kind_of c.in_ok-kind.kind in
    let kind_is : binary_kind f (operand_sort x) (operand_sort y) ≡ Ok k = (λ i. binary_kind f (sym c.argument_sort.ensures i) (sym c.argument_sort-2.ensures i)) ∙ c.in_ok-kind.ensures in
    left_some f (operand_sort x) (operand_sort y) k kind_is

pub block_beside-block-requires-clause-right_numbers : goal.block_beside-block-requires-clause-right_numbers
block_beside-block-requires-clause-right_numbers c =
    let x : Operand = argument_of c.args.left in let y : Operand = argument_of c.args.right in let f : BinaryUfunc = ufunc_of c.args.ufunc in
    let k : Kind = kind_of c.in_ok-kind.kind in
    let kind_is : binary_kind f (operand_sort x) (operand_sort y) ≡ Ok k = (λ i. binary_kind f (sym c.argument_sort.ensures i) (sym c.argument_sort-2.ensures i)) ∙ c.in_ok-kind.ensures in
    right_some f (operand_sort x) (operand_sort y) k kind_is

pub block_beside-block-requires-clause-limits : goal.block_beside-block-requires-clause-limits
block_beside-block-requires-clause-limits c = λ j.
    let k : Kind = kind_of c.in_ok-kind.kind in let shape = c.in_ok-shape.shape.items in let view : Geo = c.in_ok-view.view in
    let view_is : in_limits (One (little k)) shape (Ok (contiguous (One (little k)) shape)) ≡ Ok view
    = (λ i. in_limits (One (little k)) (sym c.as_slice.ensures i) (Ok (contiguous (One (little k)) (sym c.as_slice.ensures i)))) ∙ c.in_ok-view.ensures in
    subst (IsInLimits (size_of j)) (sym c.as_slice-2.ensures) (limits_alike k j shape (within k shape view view_is))

pub block_beside-block-requires-clause-left_fits : goal.block_beside-block-requires-clause-left_fits
block_beside-block-requires-clause-left_fits c =
    let x : Operand = argument_of c.args.left in let y : Operand = argument_of c.args.right in
    let shape_is : common_shape (broadcast (shape_of x) (shape_of y)) ≡ Ok c.in_ok-shape.shape.items
    = (λ i. common_shape (broadcast (sym c.shape_of.ensures i) (sym c.shape_of-2.ensures i))) ∙ c.in_ok-shape.ensures in
    ap (broadcasts_to (shape_of x)) c.as_slice-2.ensures ∙ (both_fit (shape_of x) (shape_of y) c.in_ok-shape.shape.items shape_is).0

pub block_beside-block-requires-clause-right_fits : goal.block_beside-block-requires-clause-right_fits
block_beside-block-requires-clause-right_fits c =
    let x : Operand = argument_of c.args.left in let y : Operand = argument_of c.args.right in
    let shape_is : common_shape (broadcast (shape_of x) (shape_of y)) ≡ Ok c.in_ok-shape.shape.items
    = (λ i. common_shape (broadcast (sym c.shape_of.ensures i) (sym c.shape_of-2.ensures i))) ∙ c.in_ok-shape.ensures in
    ap (broadcasts_to (shape_of y)) c.as_slice-2.ensures ∙ (both_fit (shape_of x) (shape_of y) c.in_ok-shape.shape.items shape_is).1

pub block_beside-block-requires-clause-elements : goal.block_beside-block-requires-clause-elements
block_beside-block-requires-clause-elements c =
    let k : Kind = kind_of c.in_ok-kind.kind in let shape = c.in_ok-shape.shape.items in let view : Geo = c.in_ok-view.view in
    let view_is : in_limits (One (little k)) shape (Ok (contiguous (One (little k)) shape)) ≡ Ok view
    = (λ i. in_limits (One (little k)) (sym c.as_slice.ensures i) (Ok (contiguous (One (little k)) (sym c.as_slice.ensures i)))) ∙ c.in_ok-view.ensures in
    c.count-count.ensures.elements ∙ ap (λ (v : Geo). elements_of v.shape) (sym (viewed k shape view view_is)) ∙ ap elements_of (sym c.as_slice-2.ensures)

pub returns : goal.returns
returns c =
    let x : Operand = argument_of c.args.left in let y : Operand = argument_of c.args.right in let f : BinaryUfunc = ufunc_of c.args.ufunc in
    let k : Kind = kind_of c.in_ok-kind.kind in let shape = c.in_ok-shape.shape.items in let view : Geo = c.in_ok-view.view in
    let kind_is : binary_kind f (operand_sort x) (operand_sort y) ≡ Ok k = (λ i. binary_kind f (sym c.argument_sort.ensures i) (sym c.argument_sort-2.ensures i)) ∙ c.in_ok-kind.ensures in
    let shape_is : common_shape (broadcast (shape_of x) (shape_of y)) ≡ Ok shape = (λ i. common_shape (broadcast (sym c.shape_of.ensures i) (sym c.shape_of-2.ensures i))) ∙ c.in_ok-shape.ensures in
    let view_is : in_limits (One (little k)) shape (Ok (contiguous (One (little k)) shape)) ≡ Ok view
    = (λ i. in_limits (One (little k)) (sym c.as_slice.ensures i) (Ok (contiguous (One (little k)) (sym c.as_slice.ensures i)))) ∙ c.in_ok-view.ensures in
    let made : Makes {X = List ℕ} {Y = List ℕ} (λ b. b) c.block_beside-block.result (bytes_unless_below f k (numbers_beside x shape) (numbers_beside y shape))
    = subst (λ (s : List ℕ). Makes {X = List ℕ} {Y = List ℕ} (λ b. b) c.block_beside-block.result (bytes_unless_below f k (numbers_beside x s) (numbers_beside y s))) c.as_slice-2.ensures
    c.block_beside-block.ensures in
    subst (Makes {X = Geo × List ℕ} {Y = Geo × List ℕ} (λ m. m) c.with_block.result) (sym (comes_to f x y k shape view kind_is shape_is view_is))
    (c.with_block.ensures (bytes_unless_below f k (numbers_beside x shape) (numbers_beside y shape)) made)
