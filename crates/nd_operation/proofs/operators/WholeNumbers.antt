-- Whole numbers that are no Python integer.
use Rattle.std.proofs.Common.{◌≡◌, ℕ, ◌*◌, ◌^◌, ◌≤◌, false, refl, sym, arith}
use Rattle.std.specs.Prelude.{ℤ, pos, negsuc, ◌*ℤ◌, unsigned_abs, Err}
use Rattle.std.proofs.lemmas.Bool.Decides.{nat_tests}
use Rattle.std.proofs.Math.Nat.{mul-le-mul_left, mul_comm}
use Rattle.std.proofs.Math.Pow.{pow_mono}
use Rattle.std.proofs.lemmas.Int.{unsigned_abs-mul}
use Rattle.nd_model.specs.Cells.Fault.{Stmt, IntTooBig}
use Rattle.nd_model.specs.Making.Operand.{is_python_int, python_int}

far : (z : ℤ) → 2 ^ 65 ≤ unsigned_abs z → python_int z ≡ Err (Stmt IntTooBig)
far (pos n) h = let out : is_python_int (pos n) ≡ false = grind (arith, nat_tests) in rw out refl
far (negsuc n) h = let out : is_python_int (negsuc n) ≡ false = grind (arith, nat_tests) in rw out refl

pub far_shift : (z : ℤ) (n : ℕ) → 1 ≤ unsigned_abs z → 65 ≤ n → python_int (z *ℤ pos (2 ^ n)) ≡ Err (Stmt IntTooBig)
far_shift z n some many =
    let size : unsigned_abs z * 2 ^ n ≡ unsigned_abs (z *ℤ pos (2 ^ n)) = sym (unsigned_abs-mul z (pos (2 ^ n))) in
    far (z *ℤ pos (2 ^ n)) (omega (arith, mul-le-mul_left (2 ^ n) some, pow_mono many, mul_comm (unsigned_abs z) (2 ^ n)))
