use Rattle.std.proofs.Common.{◌≡◌, sym, ap, ◌∙◌, subst}
use Rattle.std.specs.Prelude.{◌&&◌}
use Rattle.std.specs.List.{list_any}
use Rattle.nd_model.specs.Arrays.Broadcast.{broadcasts_to}
use Rattle.nd_model.specs.Arrays.Element.{size_of}
use Rattle.nd_model.specs.Arrays.Strides.{IsInLimits}
use Rattle.nd_model.specs.Arrays.Tuple.{elements_of, indices}
use Rattle.nd_model.specs.Arrays.View.{Geo}
use Rattle.nd_model.specs.Making.Operand.{Operand, shape_of}
use Rattle.nd_model.specs.Making.Elementwise.{number_beside}
use Rattle.nd_model.specs.Making.Operators.{BinaryUfunc, is_negative, is_power_below}
use Rattle.nd_ufunc.specs.Scalar.Ufuncs.{ufunc_of}
use Rattle.nd_ufunc.specs.Elementwise.Arguments.{argument_of, numbers_beside}
use Rattle.nd_ufunc.specs.Elementwise.Stretched.{stretched_numbers}
use Rattle.nd_ufunc.proofs.elementwise.Any.{and_any}
use Rattle.nd_ufunc.proofs.elementwise.Mapped.{powers_below}
use Rattle.nd_ufunc.proofs.elementwise.in_place.is_any_exponent_below.Goals as goal

pub stretch-requires-clause-fits : goal.stretch-requires-clause-fits
stretch-requires-clause-fits c = ap (broadcasts_to (shape_of (argument_of c.args.right))) c.shape.ensures.value ∙ c.requires.fits

pub stretch-requires-clause-limits : goal.stretch-requires-clause-limits
stretch-requires-clause-limits c = λ j. subst (IsInLimits (size_of j)) (sym c.shape.ensures.value) (c.requires.limits j)

pub returns : goal.returns
returns c =
    let f : BinaryUfunc = ufunc_of c.args.ufunc in let g : Geo = c.args.target.now in let y : Operand = argument_of c.args.right in
    let numbers : stretched_numbers c.in_ok-exponents.exponents c.count.result ≡ numbers_beside y g.shape
    = ap (stretched_numbers c.in_ok-exponents.exponents) (c.count.ensures.elements ∙ ap elements_of (sym c.shape.ensures.value))
    ∙ c.in_ok-exponents.ensures.numbers ∙ ap (numbers_beside y) c.shape.ensures.value in
    c.has_power_below.ensures ∙ ap (list_any (is_power_below f)) numbers ∙ powers_below f y g.shape

pub returns-then-not-is_power : goal.returns-then-not-is_power
returns-then-not-is_power c =
    let f : BinaryUfunc = ufunc_of c.args.ufunc in let g : Geo = c.args.target.now in let y : Operand = argument_of c.args.right in let b = c.is_power.result in
    sym ((λ i. list_any (λ t. c.is_power.ensures (number_beside y t) i) (indices g.shape)) ∙ and_any (λ t. is_negative (number_beside y t)) b (indices g.shape)
    ∙ ap (λ a. a && list_any (λ t. is_negative (number_beside y t)) (indices g.shape)) c.if-not-is_power.true)
