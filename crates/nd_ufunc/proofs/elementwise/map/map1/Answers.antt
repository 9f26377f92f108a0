use Rattle.std.proofs.Common.{◌≡◌, pos, Ok, replicate, sym, ap, ◌∙◌}
use Rattle.nd_model.specs.Arrays.Broadcast.{broadcasts_to, in_limits}
use Rattle.nd_model.specs.Arrays.Element.{Kind}
use Rattle.nd_model.specs.Making.Elementwise.{little, operand_sort, single_kind, single_number}
use Rattle.nd_model.specs.Making.Operand.{Operand, shape_of}
use Rattle.nd_model.specs.Making.Operators.{Single}
use Rattle.nd_model.specs.Arrays.Tuple.{elements_of}
use Rattle.nd_model.specs.Arrays.View.{One, Geo, contiguous}
use Rattle.nd_types.specs.Kinds.{kind_of}
use Rattle.nd_ufunc.specs.Scalar.Ufuncs.{single_of}
use Rattle.nd_ufunc.specs.Elementwise.Arguments.{argument_of, numbers_beside}
use Rattle.nd_ufunc.specs.Loops.Results.{result_bytes}
use Rattle.nd_ufunc.proofs.elementwise.Common.{fits_itself, limits_alike}
use Rattle.nd_ufunc.proofs.elementwise.Mapped.{within, viewed, single_some, is_single}
use Rattle.nd_ufunc.proofs.elementwise.map.map1.Goals as goal

pub single_block-requires-clause-numbers : goal.single_block-requires-clause-numbers
single_block-requires-clause-numbers c =
    let x : Operand = argument_of c.args.argument in let op : Single = single_of c.args.op in
    single_some op (operand_sort x) (kind_of c.in_ok-kind.kind) (ap (single_kind op) (sym c.argument_sort.ensures) ∙ c.in_ok-kind.ensures)

pub single_block-requires-clause-limits : goal.single_block-requires-clause-limits
single_block-requires-clause-limits c = λ j.
    let k : Kind = kind_of c.in_ok-kind.kind in let shape = c.shape_of-shape.result.now in
    limits_alike k j shape (within k shape c.in_ok-view.view c.in_ok-view.ensures)

pub single_block-requires-clause-fits : goal.single_block-requires-clause-fits
single_block-requires-clause-fits c = ap (broadcasts_to (shape_of (argument_of c.args.argument))) c.shape_of-shape.ensures ∙ fits_itself (shape_of (argument_of c.args.argument))

pub single_block-requires-clause-elements : goal.single_block-requires-clause-elements
single_block-requires-clause-elements c =
    let k : Kind = kind_of c.in_ok-kind.kind in
    c.count.ensures.elements ∙ ap (λ (v : Geo). elements_of v.shape) (sym (viewed k c.shape_of-shape.result.now c.in_ok-view.view c.in_ok-view.ensures))

pub returns : goal.returns
returns c =
    let x : Operand = argument_of c.args.argument in let op : Single = single_of c.args.op in
    let k : Kind = kind_of c.in_ok-kind.kind in let shape = c.shape_of-shape.result.now in let view : Geo = c.in_ok-view.view in
    let is = c.shape_of-shape.ensures in
    let kind_is : single_kind op (operand_sort x) ≡ Ok k = ap (single_kind op) (sym c.argument_sort.ensures) ∙ c.in_ok-kind.ensures in
    let view_is : in_limits (One (little k)) (shape_of x) (Ok (contiguous (One (little k)) (shape_of x))) ≡ Ok view
    = (λ i. in_limits (One (little k)) (sym is i) (Ok (contiguous (One (little k)) (sym is i)))) ∙ c.in_ok-view.ensures in
    let counted : c.count.result ≡ elements_of shape = c.count.ensures.elements ∙ ap (λ (v : Geo). elements_of v.shape) (sym (viewed k shape view c.in_ok-view.ensures)) in
    is_single op x k view kind_is view_is c.in_ok-block.block
    (c.in_ok-block.ensures ∙ (λ i. result_bytes (little k) (λ a b. single_number op k a) (numbers_beside x (is i)) (replicate ((counted ∙ ap elements_of is) i) (pos 0))))
