use Rattle.std.proofs.Common.{◌≤◌, ◌*◌, ◌^◌, refl, arith}
use Rattle.std.specs.Prelude.{◌*ℤ◌, unsigned_abs}
use Rattle.std.specs.Int.{w128}
use Rattle.std.specs.Int.RustNames.{FitsSigned}
use Rattle.std.proofs.Math.Nat.{mul-le-mul}
use Rattle.std.proofs.lemmas.Int.{to_z-of_z, fits_signed_mul, unsigned_abs-mul}
use Rattle.nd_index.proofs.basic.layout.scale.Goals as goal

fits : (c : goal.Start) → FitsSigned w128 (c.args.by *ℤ c.args.stride)
fits c = fits_signed_mul w128 c.args.by c.args.stride (2 ^ 32) (2 ^ 64) c.requires.by (omega (arith, c.requires.stride)) (omega arith)

pub overflow_mul-result : goal.overflow_mul-result
overflow_mul-result c = rw (to_z-of_z w128 c.args.by c.ranges.by, to_z-of_z w128 c.args.stride c.ranges.stride) (fits c)

pub returns : goal.returns
returns c =
    let below : unsigned_abs c.args.stride ≤ 2 ^ 64 = omega (arith, c.requires.stride) in
    let product : unsigned_abs (c.args.by *ℤ c.args.stride) ≤ 2 ^ 32 * 2 ^ 64
    = rw (unsigned_abs-mul c.args.by c.args.stride) (mul-le-mul c.requires.by below) in
    rw (to_z-of_z w128 c.args.by c.ranges.by, to_z-of_z w128 c.args.stride c.ranges.stride, to_z-of_z w128 (c.args.by *ℤ c.args.stride) (fits c))
    (record { value = refl; limit = product })
