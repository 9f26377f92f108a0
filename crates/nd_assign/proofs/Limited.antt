-- What converts is in the limits too.
use Rattle.std.proofs.Common.{◌≡◌, ℕ, ◌*◌, ◌^◌, ◌≤◌, true, false, List, length, refl, sym, subst, arith}
use Rattle.std.specs.Prelude.{nat_lt}
use Rattle.std.proofs.Math.Nat.{mul-le-mul_left}
use Rattle.std.proofs.lemmas.Bool.Decides.{nat_tests}
use Rattle.nd_model.specs.Making.Conversion.{converts}
use Rattle.nd_model.specs.Arrays.Element.{size_of}
use Rattle.nd_model.specs.Arrays.Strides.{IsInLimits}
use Rattle.nd_model.specs.Arrays.Tuple.{elements_of}
use Rattle.nd_model.specs.Arrays.View.{ElementType, One, Structure, item_size}
use Rattle.nd_model.proofs.Values.{few_bytes}
use Rattle.nd_view.proofs.Limits.{limits_of}
use Rattle.nd_assign.proofs.SameTypes.{same_structure}

numbers_in : (size part : ℕ) (shape : List ℕ) → part ≤ 8 → IsInLimits size shape → IsInLimits part shape
numbers_in size part shape le limits =
    let l = limits_of size shape limits in
    let most : elements_of shape * part ≤ elements_of shape * 8 = mul-le-mul_left (elements_of shape) le in
    let axes : nat_lt 32 (length shape) ≡ false = below 32 (length shape) l.axes in
    let elements : nat_lt (2 ^ 24) (elements_of shape) ≡ false = below (2 ^ 24) (elements_of shape) l.elements in
    let bytes : nat_lt (2 ^ 27) (elements_of shape * part) ≡ false = below (2 ^ 27) (elements_of shape * part) (omega (arith, most, l.elements)) in
    rw (axes, l.lengths, elements, bytes) refl
  where
    below : (m n : ℕ) → n ≤ m → nat_lt m n ≡ false
    below m n le = grind (arith, nat_tests)

pub converted_limits : (s t : ElementType) (shape : List ℕ) → converts s t ≡ true → IsInLimits (item_size t) shape → IsInLimits (item_size s) shape
converted_limits (One d) (One e) shape can limits = numbers_in (size_of e.kind) (size_of d.kind) shape (few_bytes d.kind) limits
converted_limits (One d) (Structure fs m) shape can limits = cc
converted_limits (Structure fs m) (One e) shape can limits = cc
converted_limits (Structure fs m) (Structure gs n) shape can limits = subst (λ t. IsInLimits (item_size t) shape) (sym (same_structure fs gs m n can)) limits
