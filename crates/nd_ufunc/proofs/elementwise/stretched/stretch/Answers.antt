use Rattle.std.proofs.Common.{rules, ◌≡◌, ℤ, true, length, replicate, sym, ap, ◌∙◌, subst, FitsSigned}
use Rattle.std.specs.Int.{w128}
use mir.Facts.{to_z-of_z}
use Rattle.nd_model.specs.Arrays.Broadcast.{broadcasts_to}
use Rattle.nd_model.specs.Making.Operand as operand
use Rattle.nd_model.specs.Cells.Sound.{LiesIn}
use Rattle.nd_model.specs.Arrays.Tuple.{elements_of}
use Rattle.nd_model.specs.Arrays.View.{One, Geo}
use Rattle.nd_types.specs.Types.{type_of}
use Rattle.nd_element.specs.Elements.{AreHeld, numbers_at}
use Rattle.nd_ufunc.specs.Scalar.Numbers.{num_of}
use Rattle.nd_ufunc.specs.Elementwise.Arguments.{LiesInBlock, argument_of, numbers_beside}
use Rattle.nd_ufunc.proofs.elementwise.Standing.{plain_beside, beside_is, beside_held}
use Rattle.nd_ufunc.proofs.elementwise.stretched.stretch.Goals as goal

pub returns-in-Number-clause-numbers : goal.returns-in-Number-clause-numbers
returns-in-Number-clause-numbers c =
    let fits : FitsSigned w128 c.whole_number.result = search rules in
    ap (λ (z : ℤ). replicate (elements_of c.args.shape.now) z) (to_z-of_z fits ∙ c.whole_number.ensures)
    ∙ plain_beside (num_of c.in-Number.number) c.args.shape.now
    ∙ ap (λ a. numbers_beside (argument_of a) c.args.shape.now) (sym c.in-Number.is)

pub returns-in_ok-stretched-in-One-clause-numbers :
    goal.returns-in_ok-stretched-in-One-clause-numbers
returns-in_ok-stretched-in-One-clause-numbers c =
    let g = c.in-Elements.view.now in let bytes = c.in-Elements.bytes.now in let e = c.in-One.elem in let to = c.args.shape.now in
    let one : g.element ≡ One e = sym c.elem.ensures ∙ ap type_of c.in-One.is in
    let lies : LiesIn (length bytes) g = subst LiesInBlock c.in-Elements.is c.requires.lies in
    let fits : broadcasts_to g.shape to ≡ true = ap (λ a. broadcasts_to (operand.shape_of (argument_of a)) to) (sym c.in-Elements.is) ∙ c.requires.fits in
    ap (λ (v : Geo). numbers_at e bytes v.places) c.in_ok-stretched-in-One.ensures
    ∙ beside_is g e bytes one lies to fits
    ∙ ap (λ a. numbers_beside (argument_of a) to) (sym c.in-Elements.is)

pub returns-in_ok-stretched-in-One-clause-held : goal.returns-in_ok-stretched-in-One-clause-held
returns-in_ok-stretched-in-One-clause-held c =
    let g = c.in-Elements.view.now in let bytes = c.in-Elements.bytes.now in let e = c.in-One.elem in let to = c.args.shape.now in
    let one : g.element ≡ One e = sym c.elem.ensures ∙ ap type_of c.in-One.is in
    let lies : LiesIn (length bytes) g = subst LiesInBlock c.in-Elements.is c.requires.lies in
    let fits : broadcasts_to g.shape to ≡ true = ap (λ a. broadcasts_to (operand.shape_of (argument_of a)) to) (sym c.in-Elements.is) ∙ c.requires.fits in
    subst (λ (v : Geo). AreHeld e bytes v.places) (sym c.in_ok-stretched-in-One.ensures) (beside_held g e bytes one lies to fits)
