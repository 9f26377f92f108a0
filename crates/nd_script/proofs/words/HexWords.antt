-- Bytes in two hex digits each, as the kit's hex reads them.
use Rattle.std.proofs.Common.{◌≡◌, ℕ, ◌+◌, ◌*◌, ◌%◌, List, [], ◌∷◌, length, Option, Some, None, Result, Ok, Err, refl, sym, ap, ◌∙◌, arith, inl, inr}
use Rattle.std.specs.Prelude.{◌==◌, ◌/◌, ◌++◌, MatchResult, take}
use Rattle.std.specs.Result.{result_ok}
use Rattle.std.proofs.lemmas.Bool.{cases_Bool, eq-eqb, eqb-true}
use Rattle.std.proofs.Math.Seq.{take-append_seam}
use Rattle.hex.specs.Hex.{decode_sized, decode_pairs, digit_or_error, hex_digit_value, ◌>>=◌}
use Rattle.hex.specs.declared.error.FromHexError.{FromHexError}
use Rattle.nd_model.specs.Book.Script.{also, hex_byte, hex_value, hex_bytes}

pair : (h l i : ℕ) (x y : Option ℕ) (rest : Result (List ℕ) FromHexError)
    → result_ok ((digit_or_error h i x >>= (λ a. digit_or_error l (i + 1) y >>= (λ b. Ok (a * 16 + b)))) >>= (λ byte. rest >>= (λ bytes. Ok (byte ∷ bytes))))
    ≡ also (hex_byte x y) (result_ok rest)
pair h l i None y rest = refl
pair h l i (Some a) None rest = refl
pair h l i (Some a) (Some b) (Ok bytes) = refl
pair h l i (Some a) (Some b) (Err e) = refl

pairs : (i : ℕ) (text : List ℕ) → result_ok (decode_pairs i text) ≡ hex_bytes text
unfolding decode_pairs
pairs i [] = refl
pairs i (d ∷ []) = refl
pairs i (h ∷ l ∷ rest) = pair h l i (hex_digit_value h) (hex_digit_value l) (decode_pairs (i + 2) rest) ∙ ap (also (hex_byte (hex_value h) (hex_value l))) (pairs (i + 2) rest)

no_more : (x : Option ℕ) → also x None ≡ None
no_more None = refl
no_more (Some a) = refl

pub odd : (text : List ℕ) → length text % 2 ≡ 1 → hex_bytes text ≡ None
odd [] h = absurd (omega (arith, h))
odd (d ∷ []) h = refl
odd (c ∷ d ∷ rest) h =
    let fewer : length rest % 2 ≡ 1 = omega (arith, h) in
    ap (also (hex_byte (hex_value c) (hex_value d))) (odd rest fewer) ∙ no_more (hex_byte (hex_value c) (hex_value d))

-- what a text of an even length is decoded to, into room for half as many bytes
sized : (text : List ℕ) (n : ℕ) → (length text % 2 ≡ 1 → ⊥) → n ≡ length text / 2 → result_ok (decode_sized text n) ≡ hex_bytes text
sized text n even n_is = elim (cases_Bool (length text % 2 == 1)) [
  | inl is ↦ absurd (even (eqb-true (length text % 2) 1 is))
  | inr not ↦ rw (not, n_is, eq-eqb (length text / 2) (length text / 2) refl) (pairs 0 text)
]

module _ (r : Result (Unit {0}) FromHexError) (out : List ℕ) where
  abbrev Answer : Result (List ℕ) FromHexError → Type 0
  Answer d = MatchResult d (λ bytes. (r ≡ Ok tt) × (out ≡ bytes)) (λ e. r ≡ Err e)

  done : (d : Result (List ℕ) FromHexError) → Answer d → r ≡ Ok tt → result_ok d ≡ Some out
  done (Ok bytes) a is = ap Some (sym a.1)
  done (Err e) a is = absurd (cc)

  not_done : (d : Result (List ℕ) FromHexError) (f : FromHexError) → Answer d → r ≡ Err f → result_ok d ≡ None
  not_done (Ok bytes) f a is = absurd (cc)
  not_done (Err e) f a is = refl

  pub decoded : (text : List ℕ) (n : ℕ) → (length text % 2 ≡ 1 → ⊥) → n ≡ length text / 2 → Answer (decode_sized text n) → r ≡ Ok tt → hex_bytes text ≡ Some out
  decoded text n even n_is a is = sym (sized text n even n_is) ∙ done (decode_sized text n) a is

  pub undecoded : (text : List ℕ) (n : ℕ) (f : FromHexError) → (length text % 2 ≡ 1 → ⊥) → n ≡ length text / 2 → Answer (decode_sized text n) → r ≡ Err f → hex_bytes text ≡ None
  undecoded text n f even n_is a is = sym (sized text n even n_is) ∙ not_done (decode_sized text n) f a is

-- bytes that were written over others of the same number
pub written_over : (n : ℕ) (out all : List ℕ) → length out ≡ n → take n (out ++ all) ≡ out
written_over n out all is = rw (sym is) (take-append_seam out all)
