-- Texts of ASCII.
use Rattle.std.proofs.Common.{◌≡◌, ℕ, suc, ◌<◌, ◌≤◌, ◌==◌, ◌^◌, nat_lt, Bool, true, false, ◌&&◌, List, [], ◌∷◌, ◌++◌, decimal, codes, refl, sym, ap, ◌∙◌, arith, subst}
use Rattle.std.specs.Int.Digits.{digits_of, AllBelowBase}
use Rattle.std.proofs.lemmas.Int.Digits.{all_below_base_digits_of}
use Rattle.std.proofs.lemmas.Fmt.{decimal-digits_of}
use Rattle.std.proofs.lemmas.Bool.{eqb-true, eqb-false, leb-true}
use Rattle.nd_model.specs.Arrays.Element.{Kind, Boolean, Int8, Int16, Int32, Int64, UInt8, UInt16, UInt32, UInt64, Element}
use Rattle.nd_model.specs.Formats.NpyWriting.{element_text}
use Rattle.nd_round_trip.proofs.files.Letters.{letters, letters_are, decimal_zero}
use Rattle.nd_round_trip.proofs.files.Pads.{glyphs}

abbrev pub AreAscii : List ℕ → Type 0
AreAscii [] = Unit {0}
AreAscii (b ∷ bs) = (b < 128) × AreAscii bs

-- whether all bytes are ASCII, as a test
abbrev pub are_ascii : List ℕ → Bool
are_ascii [] = true
are_ascii (b ∷ bs) = nat_lt b 128 && are_ascii bs

first : (a b : Bool) → (a && b) ≡ true → a ≡ true
first true b e = refl
first false b e = e

second : (a b : Bool) → (a && b) ≡ true → b ≡ true
second true b e = e
second false b e = absurd (cc)

pub tested : (bs : List ℕ) → are_ascii bs ≡ true → AreAscii bs
tested [] ok = tt
tested (b ∷ bs) ok = (below b (first (nat_lt b 128) (are_ascii bs) ok), tested bs (second (nat_lt b 128) (are_ascii bs) ok))
  where
    below : (b : ℕ) → nat_lt b 128 ≡ true → b < 128
    below b e = let lt : suc b ≤ 128 = leb-true (suc b) 128 e in omega (arith, lt)

digits_ascii : (ds : List ℕ) → AllBelowBase 10 ds → AreAscii (glyphs ds)
digits_ascii [] all = tt
digits_ascii (d ∷ ds) all = let lt = all.0 in (omega (arith, lt), digits_ascii ds all.1)

pub decimal_ascii : (n : ℕ) → n < 2 ^ 64 → AreAscii (decimal n)
decimal_ascii n small = by (n == 0) refl
  where
    by : (b : Bool) → (n == 0) ≡ b → AreAscii (decimal n)
    by true e = subst AreAscii (sym (ap decimal (eqb-true n 0 e) ∙ decimal_zero)) (tested (codes "0") refl)
    by false e = subst AreAscii (sym (decimal-digits_of n (omega (arith, eqb-false n 0 e)) small)) (digits_ascii (digits_of 10 n) (all_below_base_digits_of 10 n (omega arith)))

pub element_ascii : (e : Element) → AreAscii (element_text e)
element_ascii e = subst AreAscii (sym (letters_are e)) (tested (letters e) (by e.kind e.big))
  where
    by : (k : Kind) (big : Bool) → are_ascii (letters (record { kind = k; big = big })) ≡ true
    by Boolean true = refl
    by Boolean false = refl
    by Int8 true = refl
    by Int8 false = refl
    by UInt8 true = refl
    by UInt8 false = refl
    by Int16 true = refl
    by Int16 false = refl
    by Int32 true = refl
    by Int32 false = refl
    by Int64 true = refl
    by Int64 false = refl
    by UInt16 true = refl
    by UInt16 false = refl
    by UInt32 true = refl
    by UInt32 false = refl
    by UInt64 true = refl
    by UInt64 false = refl

pub ascii-append : (xs ys : List ℕ) → AreAscii xs → AreAscii ys → AreAscii (xs ++ ys)
ascii-append [] ys all others = others
ascii-append (x ∷ xs) ys all others = (all.0, ascii-append xs ys all.1 others)
