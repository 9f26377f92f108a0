use Rattle.std.proofs.Common.{rules, ◌≡◌, true, List, ℕ, ℤ, length, replicate, sym, ap, ◌∙◌, subst, FitsSigned}
use Rattle.std.specs.Int.{w128}
use mir.Facts.{to_z-of_z}
use Rattle.nd_model.specs.Arrays.Broadcast.{broadcast_view, broadcasts_to}
use Rattle.nd_model.specs.Arrays.Element.{Element}
use Rattle.nd_model.specs.Making.Operand.{shape_of}
use Rattle.nd_model.specs.Cells.Sound.{LiesIn}
use Rattle.nd_model.specs.Arrays.Tuple.{elements_of}
use Rattle.nd_model.specs.Arrays.View.{One, Geo}
use Rattle.nd_types.specs.Types.{type_of}
use Rattle.nd_ufunc.specs.Scalar.Numbers.{num_of}
use Rattle.nd_ufunc.specs.Elementwise.Arguments.{numbers_beside}
use Rattle.nd_ufunc.specs.Elementwise.Prepared.{IsRightSide, right_operand}
use Rattle.nd_ufunc.proofs.elementwise.Besides.{other_fixed, other_held, other_numbers, own_held, own_numbers}
use Rattle.nd_ufunc.proofs.elementwise.Standing.{beside_is, beside_held, plain_beside}
use Rattle.nd_ufunc.proofs.elementwise.beside.beside_of.Goals as goal

pub returns-in-Number-clause-numbers : goal.returns-in-Number-clause-numbers
returns-in-Number-clause-numbers c = λ bytes same.
    let fits : FitsSigned w128 c.whole_number.result = search rules in let shape : List ℕ = c.args.shape.now in
    ap (λ (z : ℤ). replicate (elements_of shape) z) (to_z-of_z fits ∙ c.whole_number.ensures)
    ∙ plain_beside (num_of c.in-Number.number) shape
    ∙ ap (λ r. numbers_beside (right_operand r bytes) shape) (sym c.in-Number.is)

pub returns-in-One-clause-numbers : goal.returns-in-One-clause-numbers
returns-in-One-clause-numbers c = λ bytes same.
    let g : Geo = c.in-Own.view.now in let e : Element = c.in-One.elem in let shape : List ℕ = c.args.shape.now in let block : List ℕ = c.args.block.now in
    let one : g.element ≡ One e = sym c.elem.ensures ∙ ap type_of c.in-One.is in
    let own : LiesIn (length block) g = subst (IsRightSide (length block)) c.in-Own.is c.requires.right in
    let lies : LiesIn (length bytes) g = subst (λ n. LiesIn n g) (sym same) own in
    let fits : broadcasts_to g.shape shape ≡ true = ap (λ r. broadcasts_to (shape_of (right_operand r block)) shape) (sym c.in-Own.is) ∙ c.requires.fits in
    own_numbers c.own_beside.result e (broadcast_view g shape).places c.own_beside.ensures (elements_of shape) bytes
    ∙ beside_is g e bytes one lies shape fits ∙ ap (λ r. numbers_beside (right_operand r bytes) shape) (sym c.in-Own.is)

pub returns-in-One-clause-held : goal.returns-in-One-clause-held
returns-in-One-clause-held c =
    let g : Geo = c.in-Own.view.now in let e : Element = c.in-One.elem in let shape : List ℕ = c.args.shape.now in let block : List ℕ = c.args.block.now in
    let one : g.element ≡ One e = sym c.elem.ensures ∙ ap type_of c.in-One.is in
    let own : LiesIn (length block) g = subst (IsRightSide (length block)) c.in-Own.is c.requires.right in
    let fits : broadcasts_to g.shape shape ≡ true = ap (λ r. broadcasts_to (shape_of (right_operand r block)) shape) (sym c.in-Own.is) ∙ c.requires.fits in
    own_held c.own_beside.result e (broadcast_view g shape).places c.own_beside.ensures (length block) (beside_held g e block one own shape fits)

pub returns-in-One-elem-clause-numbers : goal.returns-in-One-elem-clause-numbers
returns-in-One-elem-clause-numbers c = λ bytes same.
    let g : Geo = c.in-Other.view.now in let e : Element = c.in-One-elem.elem in let shape : List ℕ = c.args.shape.now in let block : List ℕ = c.args.block.now in
    let own : List ℕ = c.in-Other.bytes.now in
    let one : g.element ≡ One e = sym c.elem-in-Other.ensures ∙ ap type_of c.in-One-elem.is in
    let lies : LiesIn (length own) g = subst (IsRightSide (length block)) c.in-Other.is c.requires.right in
    let fits : broadcasts_to g.shape shape ≡ true = ap (λ r. broadcasts_to (shape_of (right_operand r block)) shape) (sym c.in-Other.is) ∙ c.requires.fits in
    other_numbers c.other_beside.result e own (broadcast_view g shape).places c.other_beside.ensures (elements_of shape) bytes
    ∙ beside_is g e own one lies shape fits ∙ ap (λ r. numbers_beside (right_operand r bytes) shape) (sym c.in-Other.is)

pub returns-in-One-elem-clause-fixed : goal.returns-in-One-elem-clause-fixed
returns-in-One-elem-clause-fixed c =
    let g : Geo = c.in-Other.view.now in let e : Element = c.in-One-elem.elem in let shape : List ℕ = c.args.shape.now in let block : List ℕ = c.args.block.now in
    let own : List ℕ = c.in-Other.bytes.now in
    let one : g.element ≡ One e = sym c.elem-in-Other.ensures ∙ ap type_of c.in-One-elem.is in
    let lies : LiesIn (length own) g = subst (IsRightSide (length block)) c.in-Other.is c.requires.right in
    let fits : broadcasts_to g.shape shape ≡ true = ap (λ r. broadcasts_to (shape_of (right_operand r block)) shape) (sym c.in-Other.is) ∙ c.requires.fits in
    other_fixed c.other_beside.result e own (broadcast_view g shape).places c.other_beside.ensures (beside_held g e own one lies shape fits)

pub returns-in-One-elem-clause-held : goal.returns-in-One-elem-clause-held
returns-in-One-elem-clause-held c =
    let g : Geo = c.in-Other.view.now in let e : Element = c.in-One-elem.elem in let shape : List ℕ = c.args.shape.now in let block : List ℕ = c.args.block.now in
    let own : List ℕ = c.in-Other.bytes.now in
    let one : g.element ≡ One e = sym c.elem-in-Other.ensures ∙ ap type_of c.in-One-elem.is in
    let lies : LiesIn (length own) g = subst (IsRightSide (length block)) c.in-Other.is c.requires.right in
    let fits : broadcasts_to g.shape shape ≡ true = ap (λ r. broadcasts_to (shape_of (right_operand r block)) shape) (sym c.in-Other.is) ∙ c.requires.fits in
    other_held c.other_beside.result e own (broadcast_view g shape).places c.other_beside.ensures (length block) (beside_held g e own one lies shape fits)
