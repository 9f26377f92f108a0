use Rattle.std.proofs.Common.{◌≡◌, ◌≢◌, ◌*◌, ℕ, false, List, None, Result, Ok, Err, map, length, sym, ap, ◌∙◌, subst}
use Rattle.std.specs.Prelude.{IfOk}
use Rattle.nd_model.specs.Arrays.Broadcast.{broadcasts_to}
use Rattle.nd_model.specs.Arrays.Content.{content_at}
use Rattle.nd_model.specs.Arrays.Element.{Kind, size_of}
use Rattle.nd_model.specs.Making.Elementwise.{little, operand_sort}
use Rattle.nd_model.specs.Making.Operand.{Operand, Elements, shape_of}
use Rattle.nd_model.specs.Making.Operators.{Operator}
use Rattle.nd_model.specs.Grammar.Syntax.{BinaryOp}
use Rattle.nd_model.specs.Cells.Sound.{LiesIn}
use Rattle.nd_model.specs.Arrays.Tuple.{elements_of}
use Rattle.nd_model.specs.Arrays.View.{Geo, One, contiguous}
use Rattle.nd_syntax.specs.Trees.Syntax.{binary_op}
use Rattle.nd_types.specs.Kinds.{kind_of}
use Rattle.nd_ufunc.specs.Elementwise.Arguments.{argument_of, contents_over, numbers_beside}
use Rattle.nd_ufunc.specs.Elementwise.Prepared.{right_operand}
use Rattle.nd_ufunc.specs.Loops.Results.{binary_result, result_bytes}
use Rattle.nd_ufunc.specs.Elementwise.Stretched.{stretched_numbers}
use Rattle.nd_ufunc.proofs.elementwise.Alone.{held_alone, count_alone}
use Rattle.nd_ufunc.proofs.elementwise.Augmented.{cast_limits, kind_facts, not_divide, numbers_are, right_numbers, target_numbers}
use Rattle.nd_ufunc.specs.Elementwise.InPlaceResults.{AreResults}
use Rattle.nd_model.specs.Arrays.Strides.{IsInLimits}
use Rattle.nd_ufunc.proofs.elementwise.Common.{fits_itself}
use Rattle.nd_ufunc.proofs.elementwise.Mapped.{length-beside}
use Rattle.nd_ufunc.proofs.loops.Zipped.{length-result}
use Rattle.nd_ufunc.proofs.elementwise.in_place.results_in_place.Goals as goal

pub stretch-requires-clause-numbers : goal.stretch-requires-clause-numbers
stretch-requires-clause-numbers c =
    let g : Geo = c.args.target.now in let y : Operand = right_operand c.args.right c.args.block.now in let k : Kind = kind_of c.args.kind in let op : BinaryOp = binary_op c.args.op in
    let facts = kind_facts op g y k c.requires.kind in
    target_numbers op g y k facts.kind

pub stretch-requires-clause-limits : goal.stretch-requires-clause-limits
stretch-requires-clause-limits c = λ j.
    let g : Geo = c.args.target.now in let y : Operand = right_operand c.args.right c.args.block.now in let k : Kind = kind_of c.args.kind in let op : BinaryOp = binary_op c.args.op in
    let facts = kind_facts op g y k c.requires.kind in
    subst (IsInLimits (size_of j)) (sym c.shape-shape.ensures.value) (cast_limits k j g.element g.shape facts.casts c.shape-shape.ensures.limits)

pub result_beside-requires-clause-op : goal.result_beside-requires-clause-op
result_beside-requires-clause-op c = λ divides.
    let g : Geo = c.args.target.now in let y : Operand = right_operand c.args.right c.args.block.now in let k : Kind = kind_of c.args.kind in let op : BinaryOp = binary_op c.args.op in
    let facts = kind_facts op g y k c.requires.kind in
    not_divide op g y k facts.kind (ap Operator divides)

pub result_beside-requires-clause-right_numbers : goal.result_beside-requires-clause-right_numbers
result_beside-requires-clause-right_numbers c =
    let g : Geo = c.args.target.now in let y : Operand = right_operand c.args.right c.args.block.now in let k : Kind = kind_of c.args.kind in let op : BinaryOp = binary_op c.args.op in
    let facts = kind_facts op g y k c.requires.kind in
    subst (λ (o : Operand). operand_sort o ≢ None) (sym c.argument_beside-right.ensures.operand) (right_numbers op g y k facts.kind)

pub result_beside-requires-clause-limits : goal.result_beside-requires-clause-limits
result_beside-requires-clause-limits c = λ j.
    let g : Geo = c.args.target.now in let y : Operand = right_operand c.args.right c.args.block.now in let k : Kind = kind_of c.args.kind in let op : BinaryOp = binary_op c.args.op in
    let facts = kind_facts op g y k c.requires.kind in
    subst (IsInLimits (size_of j)) (sym c.shape-shape.ensures.value) (cast_limits k j g.element g.shape facts.casts c.shape-shape.ensures.limits)

pub stretch-requires-clause-fits : goal.stretch-requires-clause-fits
stretch-requires-clause-fits c = ap (broadcasts_to c.args.target.now.shape) c.shape-shape.ensures.value ∙ fits_itself c.args.target.now.shape

pub result_beside-requires-clause-right_fits : goal.result_beside-requires-clause-right_fits
result_beside-requires-clause-right_fits c =
    let g : Geo = c.args.target.now in let y : Operand = right_operand c.args.right c.args.block.now in
    (λ i. broadcasts_to (shape_of (c.argument_beside-right.ensures.operand i)) (c.shape-shape.ensures.value i)) ∙ (kind_facts (binary_op c.args.op) g y (kind_of c.args.kind) c.requires.kind).fits

pub result_beside-requires-clause-left_count : goal.result_beside-requires-clause-left_count
result_beside-requires-clause-left_count c =
    let g : Geo = c.args.target.now in let x : Operand = Elements false g (contents_over g c.args.block.now) in let shape : List ℕ = c.shape-shape.result.now in
    let counted : c.count-count.result ≡ elements_of shape = c.count-count.ensures.elements ∙ ap elements_of (sym c.shape-shape.ensures.value) in
    ap (λ n. length (stretched_numbers c.in_ok-left.left n)) counted ∙ ap length c.in_ok-left.ensures.numbers ∙ length-beside x shape ∙ sym counted

pub result_beside-requires-clause-elements : goal.result_beside-requires-clause-elements
result_beside-requires-clause-elements c = c.count-count.ensures.elements ∙ ap elements_of (sym c.shape-shape.ensures.value)

-- what is made has both facts
of_ok : {X E : Type 0} (r : Result X E) (P Q R : X → Type 0) → ((x : X) → P x → Q x → R x) → IfOk r P → IfOk r Q → IfOk r R
of_ok (Ok x) P Q R f p q = f x p q
of_ok (Err e) P Q R f p q = tt

pub returns : goal.returns
returns c =
    let g : Geo = c.args.target.now in let block : List ℕ = c.args.block.now in let k : Kind = kind_of c.args.kind in let op : BinaryOp = binary_op c.args.op in
    let x : Operand = Elements false g (contents_over g block) in let y : Operand = right_operand c.args.right block in
    let shape = c.shape-shape.ensures.value in
    let counted : c.count-count.result ≡ elements_of c.shape-shape.result.now = c.count-count.ensures.elements ∙ ap elements_of (sym shape) in
    let left : stretched_numbers c.in_ok-left.left c.count-count.result ≡ numbers_beside x g.shape = ap (stretched_numbers c.in_ok-left.left) counted ∙ c.in_ok-left.ensures.numbers ∙ ap (numbers_beside x) shape in
    let right : numbers_beside (argument_of c.argument_beside-right.result) c.shape-shape.result.now ≡ numbers_beside y g.shape
    = (λ i. numbers_beside (c.argument_beside-right.ensures.operand i) (shape i)) in
    let many : length (numbers_beside x g.shape) ≡ elements_of g.shape = length-beside x g.shape in
    let facts = kind_facts op g y k c.requires.kind in
    let limits : IsInLimits (size_of k) g.shape = cast_limits k k g.element g.shape facts.casts c.requires.target.limits in
    of_ok c.result_beside.result (λ r. r.0 ≡ contiguous (One (little k)) c.shape-shape.result.now)
    (λ r. r.1 ≡ result_bytes (little k) (binary_result (Operator op) k) (stretched_numbers c.in_ok-left.left c.count-count.result) (numbers_beside (argument_of c.argument_beside-right.result) c.shape-shape.result.now))
    (λ r. AreResults k op g (contents_over g block) y r.0 r.1)
    (λ r made found.
    let view_is : r.0 ≡ contiguous (One (little k)) g.shape = made ∙ ap (contiguous (One (little k))) shape in
    let is : r.1 ≡ result_bytes (little k) (binary_result (Operator op) k) (numbers_beside x g.shape) (numbers_beside y g.shape)
    = found ∙ (λ i. result_bytes (little k) (binary_result (Operator op) k) (left i) (right i)) in
    let long : length r.1 ≡ elements_of g.shape * size_of k
    = ap length is ∙ length-result (little k) (binary_result (Operator op) k) (numbers_beside x g.shape) (numbers_beside y g.shape) (many ∙ sym (length-beside y g.shape)) ∙ ap (λ n. n * size_of k) many in
    record {
      view = view_is;
      lies = subst (LiesIn (length r.1)) (sym view_is) (record { count = count_alone (little k) g.shape; limits = limits; inside = held_alone (little k) g.shape (length r.1) long });
      numbers = ap (λ (v : Geo). map (content_at (One (little k)) r.1) v.places) view_is ∙ numbers_are k op g x y r.1 is;
    }) c.result_beside.ensures.view c.result_beside.ensures.results
