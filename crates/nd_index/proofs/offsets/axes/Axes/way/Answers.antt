use Rattle.std.proofs.Common.{pos, sym, ap, ◌∙◌, arith, rules}
use Rattle.std.specs.Prelude.{◌*ℤ◌, unsigned_abs}
use Rattle.std.specs.Int.{w64, w128}
use Rattle.std.specs.Int.RustNames.{FitsSigned}
use Rattle.std.proofs.lemmas.Int.{ints, fits_signed_from_abs, to_z-of_z}
use Rattle.nd_places.proofs.Found.{near_product}
use Rattle.nd_index.proofs.offsets.NearWays.{product, held, near_on}
use Rattle.nd_index.proofs.offsets.axes.Axes.way.Goals as goal

pub overflow_mul-number : goal.overflow_mul-number
overflow_mul-number c =
    let n = c.args.number in let step = c.in-Some.step in
    let even = c.args.self.now.even step c.in-Some.is in
    rw (product n step c.requires even.0) (fits_signed_from_abs w64 (pos n *ℤ step) (omega (arith, near_product n step c.requires even.0)))

pub returns-in-Some-clause-value : goal.returns-in-Some-clause-value
returns-in-Some-clause-value c =
    let n = c.args.number in let step = c.in-Some.step in
    let even = c.args.self.now.even step c.in-Some.is in
    let fits : FitsSigned w128 c.from.result = search rules in
    to_z-of_z w128 c.from.result fits ∙ c.from.ensures ∙ held n step c.requires even.0 ∙ sym (even.1 n)

pub returns-in-None-clause-near : goal.returns-in-None-clause-near
returns-in-None-clause-near c =
    omega (arith, ints, ap unsigned_abs c.way_of.ensures, near_on c.args.self.now c.args.number c.requires)
