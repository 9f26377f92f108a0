-- The texts of elements are ASCII.
use Rattle.std.proofs.Common.{◌≡◌, ℕ, zero, suc, ◌<◌, ◌⊎◌, Bool, true, false, List, [], ◌∷◌, refl, sym, subst, inl, inr, arith, lit<}
use Rattle.std.specs.Prelude.{◌==◌, ◌||◌, bytes_eq, Option, Some, None, if◌then◌else◌}
use Rattle.std.specs.Str.{IsUtf8, IsAscii}
use Rattle.std.proofs.lemmas.Str.{IsUtf8-nil, IsUtf8-from_ascii}
use Rattle.std.proofs.lemmas.Str.Ascii.{IsAscii-nil}
use Rattle.std.proofs.lemmas.Bool.{cases_Bool}
use Rattle.std.proofs.lemmas.Bool.Decides.{nat_tests}
use Rattle.nd_model.specs.Arrays.Element.{Kind, Element}
use Rattle.nd_model.specs.Cells.Session.{lookup}
use Rattle.nd_model.specs.Arrays.Types.{kind_codes, with_order, without_order}
use Rattle.nd_model.specs.Formats.NpyHeader.{element_in}
use Rattle.nd_model.proofs.Lists.{same_bytes}

ascii_more : (b : ℕ) (bs : List ℕ) → b < 128 → IsAscii bs → IsAscii (b ∷ bs)
ascii_more b bs low rest zero = low
ascii_more b bs low rest (suc i) = rest i

two : (a b : ℕ) → a < 128 → b < 128 → IsAscii (a ∷ b ∷ [])
two a b first last = ascii_more a (b ∷ []) first (ascii_more b [] last IsAscii-nil)

abbrev AreAscii : List (List ℕ × Kind) → Type 0
AreAscii [] = Unit {0}
AreAscii (e ∷ es) = (text : IsAscii e.0) × AreAscii es

codes_are : AreAscii kind_codes
codes_are = (
  two 98 49 (lit< tt) (lit< tt),
  (
    two 105 49 (lit< tt) (lit< tt),
    (
      two 105 50 (lit< tt) (lit< tt),
      (
        two 105 52 (lit< tt) (lit< tt),
        (
          two 105 56 (lit< tt) (lit< tt),
          (
            two 117 49 (lit< tt) (lit< tt),
            (
              two 117 50 (lit< tt) (lit< tt),
              (
                two 117 52 (lit< tt) (lit< tt),
                (two 117 56 (lit< tt) (lit< tt), tt),
              ),
            ),
          ),
        ),
      ),
    ),
  ),
)

ascii_of_key : (n : List ℕ) (es : List (List ℕ × Kind)) (k : Kind) → AreAscii es → lookup n es ≡ Some k → IsAscii n
ascii_of_key n [] k all is = absurd cc
ascii_of_key n (e ∷ es) k all is = elim (cases_Bool (bytes_eq n e.0)) [
  | inl same ↦ subst IsAscii (sym (same_bytes n e.0 same)) all.0
  | inr other ↦ ascii_of_key n es k all.1 (rw other at is)
]

ascii_in_order : (big : Bool) (n : List ℕ) (o : Option Kind) (e : Element) → lookup n kind_codes ≡ o → with_order big o ≡ Some e → IsAscii n
ascii_in_order big n None e same is = absurd cc
ascii_in_order big n (Some k) e same is = ascii_of_key n kind_codes k codes_are same

ascii_without_order : (n : List ℕ) (o : Option Kind) (e : Element) → lookup n kind_codes ≡ o → without_order o ≡ Some e → IsAscii n
ascii_without_order n None e same is = absurd cc
ascii_without_order n (Some k) e same is = ascii_of_key n kind_codes k codes_are same

-- one of four ways
ways : (p q r : Bool) (w x y z : Option Element) (e : Element) → (if p then w else (if q then x else (if r then y else z))) ≡ Some e
    → ((p ≡ true) × (w ≡ Some e)) ⊎ (((q ≡ true) × (x ≡ Some e)) ⊎ (((r ≡ true) × (y ≡ Some e)) ⊎ (z ≡ Some e)))
ways true q r w x y z e is = inl (refl, is)
ways false true r w x y z e is = inr (inl (refl, is))
ways false false true w x y z e is = inr (inr (inl (refl, is)))
ways false false false w x y z e is = inr (inr (inr is))

either_low : (b : ℕ) → (b == 60 || b == 61) ≡ true → b < 128
either_low b is = grind (arith, nat_tests)

low : (b n : ℕ) → (b == n) ≡ true → n < 128 → b < 128
low b n is lt = grind (arith, nat_tests)

element_text : (text : List ℕ) (e : Element) → element_in text ≡ Some e → IsUtf8 text
element_text [] e is = IsUtf8-nil
element_text (b ∷ bs) e is =
    let little = with_order false (lookup bs kind_codes) in
    IsUtf8-from_ascii (b ∷ bs) (elim (ways (b == 60 || b == 61) (b == 62) (b == 124) little (with_order true (lookup bs kind_codes)) (without_order (lookup bs kind_codes)) (with_order false (lookup (b ∷ bs) kind_codes)) e is) [
      | inl w ↦ ascii_more b bs (either_low b w.0) (ascii_in_order false bs (lookup bs kind_codes) e refl w.1)
      | inr others ↦ elim others [
        | inl w ↦ ascii_more b bs (low b 62 w.0 (lit< tt)) (ascii_in_order true bs (lookup bs kind_codes) e refl w.1)
        | inr rest ↦ elim rest [
          | inl w ↦ ascii_more b bs (low b 124 w.0 (lit< tt)) (ascii_without_order bs (lookup bs kind_codes) e refl w.1)
          | inr w ↦ ascii_in_order false (b ∷ bs) (lookup (b ∷ bs) kind_codes) e refl w
        ]
      ]
    ])

-- what is no text is no element
pub no_element : (text : List ℕ) → ¬ (IsUtf8 text) → None ≡ element_in text
no_element text isnt = by_option (element_in text) refl
  where
    by_option : (o : Option Element) → element_in text ≡ o → None ≡ o
    by_option None is = refl
    by_option (Some e) is = absurd (isnt (element_text text e is))
