-- Numbers that 128 bits don't hold, and kinds that are no Boolean.
use Rattle.std.proofs.Common.{◌≡◌, ◌≢◌, zero, suc, ℤ, pos, negsuc, FitsSigned, refl, arith, rules}
use Rattle.std.specs.Prelude.{◌==◌, false}
use Rattle.std.specs.Int.{w128, int_wrap}
use Rattle.std.proofs.lemmas.Int.{int_wrap_fits, SFits-int_wrap}
use Rattle.std.proofs.lemmas.Bool.Decides.{nat_tests}
use Rattle.nd_model.specs.Arrays.Element.{Boolean, wrap}
use Rattle.nd_types.specs.Kinds.{kind_of}
use Rattle.nd_types.specs.declared.kind.Kind as kinds
use Rattle.nd_types.specs.declared.kind.Kind.TheVariants as kind

-- a number that 128 bits don't hold is not zero
pub past_truth : (z : ℤ) → (FitsSigned w128 z → ⊥) → pos 1 ≡ wrap Boolean z
past_truth (pos zero) large = absurd (large (search rules))
past_truth (pos (suc n)) large = let some : (suc n == 0) ≡ false = grind (arith, nat_tests) in rw some refl
past_truth (negsuc n) large = let some : (suc n == 0) ≡ false = grind (arith, nat_tests) in rw some refl

pub no_boolean : (k : kinds.Kind) → (k ≡ kind.Bool → ⊥) → kind_of k ≢ Boolean
no_boolean kind.Bool h = absurd (h refl)
no_boolean kind.I8 h = λ e. absurd cc
no_boolean kind.I16 h = λ e. absurd cc
no_boolean kind.I32 h = λ e. absurd cc
no_boolean kind.I64 h = λ e. absurd cc
no_boolean kind.U8 h = λ e. absurd cc
no_boolean kind.U16 h = λ e. absurd cc
no_boolean kind.U32 h = λ e. absurd cc
no_boolean kind.U64 h = λ e. absurd cc

-- the lowest bits are their own
pub wrapped_again : (z : ℤ) → int_wrap w128 (int_wrap w128 z) ≡ int_wrap w128 z
wrapped_again z = int_wrap_fits w128 (int_wrap w128 z) (SFits-int_wrap w128 z)
