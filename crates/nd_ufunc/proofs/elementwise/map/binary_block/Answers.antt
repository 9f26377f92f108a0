use Rattle.std.proofs.Common.{◌≡◌, true, false, Ok, refl, sym, ap, ◌∙◌}
use Rattle.std.specs.List.{list_any}
use Rattle.nd_model.specs.Making.Operators.{is_power_below}
use Rattle.nd_ufunc.specs.Elementwise.Stretched.{stretched_numbers}
use Rattle.nd_ufunc.specs.Scalar.Ufuncs.{ufunc_of}
use Rattle.nd_ufunc.proofs.elementwise.map.binary_block.Goals as goal

pub returns-then-has_power_below : goal.returns-then-has_power_below
returns-then-has_power_below c =
    let some : list_any (is_power_below (ufunc_of c.args.ufunc)) (stretched_numbers c.args.right.now c.args.count) ≡ true
    = sym c.has_power_below.ensures ∙ c.if-has_power_below.true in
    rw some refl

pub returns : goal.returns
returns c =
    let none : list_any (is_power_below (ufunc_of c.args.ufunc)) (stretched_numbers c.args.right.now c.args.count) ≡ false
    = sym c.has_power_below.ensures ∙ c.if-has_power_below.false in
    rw none (ap Ok (sym c.in_ok-block.ensures))
