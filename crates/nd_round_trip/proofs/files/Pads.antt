-- Written pad bytes.
use Rattle.std.proofs.Common.{◌≡◌, ℕ, ◌+◌, ◌-◌, ◌*◌, ◌<◌, ◌≤◌, nat_lt, min, Bool, true, ◌&&◌, List, [], ◌∷◌, ◌++◌, map, length, get_or, codes, decimal, Some, None, refl, sym, ap, ◌∙◌, arith, if◌then◌else◌, append_assoc, subst}
use Rattle.std.specs.Int.Digits.{digits_of, number_from_digits_after, AllBelowBase}
use Rattle.std.proofs.lemmas.Int.Digits.{number_digits_of, first_digits_of, all_below_base_digits_of}
use Rattle.std.proofs.lemmas.Fmt.{decimal-digits_of}
use Rattle.std.proofs.lemmas.Bool.{ne_eqb}
use Rattle.std.proofs.lemmas.Bool.Decides.{nat_tests}
use Rattle.std.proofs.Math.Nat.{min-eq_left}
use Rattle.nd_model.specs.Arrays.View.{Field}
use Rattle.nd_model.specs.Grammar.Grammar.{has}
use Rattle.nd_model.specs.Formats.NpyHeader.{Encoding, with_pair, with_pad, number_in, count_in, is_digit, capped_size}
use Rattle.nd_model.specs.Formats.NpyWriting.{pair_text}
use Rattle.nd_round_trip.proofs.files.At.{At, in_name, in_type, behind_pair}
use Rattle.nd_round_trip.proofs.files.Pairs.{pairing, Unquoted, type_go, quote_go, pair_is, leads, comma, opens}

abbrev pub glyphs : List ℕ → List ℕ
glyphs ds = map (λ d. 48 + d) ds

unquoted_digits : (ds : List ℕ) → Unquoted (glyphs ds)
unquoted_digits [] = tt
unquoted_digits (d ∷ ds) = (ne_eqb (48 + d) 39 (λ e. omega (arith, e)), unquoted_digits ds)

-- ---- their number

digit_test : (d : ℕ) → d < 10 → is_digit (48 + d) ≡ true
digit_test d lt = grind (arith, nat_tests)

pub grows : (c : ℕ) (ds : List ℕ) → c ≤ number_from_digits_after 10 c ds
grows c [] = omega arith
grows c (d ∷ ds) = let more = grows (c * 10 + d) ds in omega (arith, more)

count_is : (c : ℕ) (ds : List ℕ) → AllBelowBase 10 ds → number_from_digits_after 10 c ds ≤ 65536 → count_in c (glyphs ds) ≡ Some (number_from_digits_after 10 c ds)
count_is c [] all small = refl
count_is c (d ∷ ds) all small =
    let more = grows (c * 10 + d) ds in
    let value : 10 * c + (48 + d - 48) ≡ c * 10 + d = omega arith in
    let low : c * 10 + d ≤ 65537 = omega (arith, more, small) in
    ap (λ b. if b then count_in (capped_size (10 * c + (48 + d - 48))) (glyphs ds) else None) (digit_test d all.0)
    ∙ ap (λ k. count_in k (glyphs ds)) (ap (λ k. min k 65537) value ∙ min-eq_left low)
    ∙ count_is (c * 10 + d) ds all.1 small

first_is : (ds : List ℕ) → 0 < get_or ds 0 0 → number_in (glyphs ds) ≡ count_in 0 (glyphs ds)
first_is [] some = absurd (omega (arith, some))
first_is (d ∷ ds) some =
    ap (λ b. if b && nat_lt 0 (length (glyphs ds)) then None else count_in 0 (glyphs (d ∷ ds))) (ne_eqb (48 + d) 48 (λ e. omega (arith, e, some)))

number_is : (n : ℕ) → 0 < n → n ≤ 65536 → number_in (decimal n) ≡ Some n
number_is n some small =
    let ds = digits_of 10 n in
    let value = number_digits_of 10 n (omega arith) in
    ap number_in (decimal-digits_of n some (omega (arith, small))) ∙ first_is ds (first_digits_of 10 n (omega arith) some)
    ∙ count_is 0 ds (all_below_base_digits_of 10 n (omega arith)) (omega (arith, value, small)) ∙ ap Some value

-- ---- a pair of pad bytes

begins : (encoding : Encoding) (fs : List Field) (size : ℕ) (after : List ℕ)
    → At encoding (pairing fs size [] []) in_name (39 ∷ 44 ∷ 32 ∷ 39 ∷ 124 ∷ 86 ∷ after) ≡ At encoding (pairing fs size [] (124 ∷ 86 ∷ [])) in_type after
unfolding has
begins encoding fs size after = refl

ends : (encoding : Encoding) (fs : List Field) (size : ℕ) (text after : List ℕ)
    → At encoding (pairing fs size [] text) in_type (39 ∷ 41 ∷ after) ≡ At encoding (with_pair (pairing fs size [] text)) behind_pair after
unfolding has
ends encoding fs size text after = refl

pub pad_pair : (encoding : Encoding) (fs : List Field) (size n : ℕ) (is_first : Bool) (after : List ℕ) → 0 < n → size + n ≤ 65536
    → At encoding (pairing fs size [] []) (leads is_first) (comma is_first ++ (pair_text [] (codes "|V" ++ decimal n) ++ after))
    ≡ At encoding (pairing fs (size + n) [] []) behind_pair after
pad_pair encoding fs size n is_first after some small =
    let s = pairing fs size [] [] in
    let text = 124 ∷ 86 ∷ decimal n in
    let digits : decimal n ≡ glyphs (digits_of 10 n) = decimal-digits_of n some (omega (arith, small)) in
    let plain : Unquoted (decimal n) = subst Unquoted (sym digits) (unquoted_digits (digits_of 10 n)) in
    ap (λ l. At encoding s (leads is_first) (comma is_first ++ l)) (pair_is [] text after)
    ∙ opens encoding s is_first (39 ∷ 39 ∷ 44 ∷ 32 ∷ 39 ∷ 124 ∷ 86 ∷ (decimal n ++ 39 ∷ [] ++ 41 ∷ after))
    ∙ quote_go encoding s (39 ∷ 44 ∷ 32 ∷ 39 ∷ 124 ∷ 86 ∷ (decimal n ++ 39 ∷ [] ++ 41 ∷ after))
    ∙ begins encoding fs size (decimal n ++ 39 ∷ [] ++ 41 ∷ after)
    ∙ ap (λ l. At encoding (pairing fs size [] (124 ∷ 86 ∷ [])) in_type l) (append_assoc (decimal n) (39 ∷ []) (41 ∷ after))
    ∙ type_go encoding fs size (124 ∷ 86 ∷ []) (decimal n) (39 ∷ 41 ∷ after) plain
    ∙ ends encoding fs size text after
    ∙ ap (λ o. At encoding (with_pad (pairing fs size [] text) o) behind_pair after) (number_is n some (omega (arith, small)))
    ∙ ap (λ k. At encoding (pairing fs k [] []) behind_pair after) (min-eq_left (omega (arith, small)))
