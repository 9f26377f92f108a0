use Rattle.std.proofs.Common.{ℕ, ◌^◌, ◌<◌, ◌≤◌, refl, arith, rules}
use Rattle.std.specs.Prelude.{ℤ, pos, ◌*ℤ◌, unsigned_abs}
use Rattle.std.specs.Int.{w128}
use Rattle.std.specs.Int.RustNames.{FitsSigned}
use Rattle.std.proofs.lemmas.Int.{to_z-of_z, fits_signed_from_abs}
use Rattle.nd_index.proofs.offsets.Sums.{abs_product}
use Rattle.nd_index.proofs.offsets.ways.scale.Goals as goal

fits : (by : ℕ) (stride : ℤ) → by ≤ 2 ^ 32 → unsigned_abs stride < 2 ^ 64 → FitsSigned w128 (pos by *ℤ stride)
fits by stride few range = fits_signed_from_abs w128 (pos by *ℤ stride) (omega (arith, abs_product by stride few range))

pub overflow_mul-result : goal.overflow_mul-result
overflow_mul-result c =
    let held : FitsSigned w128 c.from.result = search rules in
    rw (to_z-of_z w128 c.from.result held, c.from.ensures, to_z-of_z w128 c.args.stride c.ranges.stride) (fits c.args.by c.args.stride c.requires.by c.requires.stride)

pub returns-clause-value : goal.returns-clause-value
returns-clause-value c =
    let held : FitsSigned w128 c.from.result = search rules in
    let whole = to_z-of_z w128 (pos c.args.by *ℤ c.args.stride) (fits c.args.by c.args.stride c.requires.by c.requires.stride) in
    rw (to_z-of_z w128 c.from.result held, c.from.ensures, to_z-of_z w128 c.args.stride c.ranges.stride, whole) refl

pub returns-clause-limit : goal.returns-clause-limit
returns-clause-limit c =
    let held : FitsSigned w128 c.from.result = search rules in
    let whole = to_z-of_z w128 (pos c.args.by *ℤ c.args.stride) (fits c.args.by c.args.stride c.requires.by c.requires.stride) in
    rw (to_z-of_z w128 c.from.result held, c.from.ensures, to_z-of_z w128 c.args.stride c.ranges.stride, whole) (abs_product c.args.by c.args.stride c.requires.by c.requires.stride)
