-- Runs of bytes at a place of a text, and the character boundaries beside them.
use Rattle.std.proofs.Common.{◌≡◌, ℕ, ◌+◌, ◌-◌, ◌<◌, ◌≤◌, Bool, true, List, length, drop, get_or, IsUtf8, sym, ◌∙◌, ap, subst, arith, get_or-drop}
use Rattle.std.specs.List.{prefix_len}
use Rattle.std.specs.Str.{IsCharBoundary}
use Rattle.std.proofs.iter.FirstChar.{beside_ascii}
use Rattle.std.proofs.lemmas.List.Sums.{prefix_len-le-length, prefix_len_passes, prefix_len-drop_yes}
use Rattle.std.proofs.lemmas.Bool.Decides.{nat_tests}
use Rattle.std.proofs.Common.{IsTrue, take, nat_le, length-take, get_or-take, le-leb, Result, Ok, Err, Some, false, None, ◌&&◌, if◌then◌else◌, length-drop, ⊎_elim}
use Rattle.std.proofs.str.Laws.{order}
use Rattle.std.proofs.lemmas.Bool.{lt-leb}
use Rattle.std.specs.Char.{is_ascii_digit}
use Rattle.std.specs.Int.{IsInRange}
use Rattle.std.specs.Result.{result_ok}
use Rattle.std.specs.Str.Parse.{ParsesUnsigned, digits_value}
use Rattle.std.proofs.lemmas.Str.Parse.{numerals_by_value, tells_by_index, parse_digits}
use Rattle.nd_model.specs.Grammar.Lexing.{begins_name, is_name_byte, is_quote, is_plain, integer_of, most_integer}

pub ruleset runs = prefix_len-le-length

-- before an ASCII byte
pub boundary_before : (bs : List ℕ) (i : ℕ) → i < length bs → get_or bs i 0 < 128 → IsCharBoundary bs i
boundary_before bs i lt ascii = (omega arith, λ _ high. absurd (omega arith))

-- behind an ASCII byte
pub boundary_behind : (bs : List ℕ) (i : ℕ) → IsUtf8 bs → i < length bs → get_or bs i 0 < 128 → IsCharBoundary bs (i + 1)
boundary_behind bs i utf8 lt ascii = (beside_ascii bs i utf8 lt ascii).1

-- a run whose first byte passes is not empty
pub run_nonempty : (p : ℕ → Bool) (bs : List ℕ) (at : ℕ) → at < length bs → p (get_or bs at 0) ≡ true → 0 < prefix_len p (drop at bs)
run_nonempty p bs at lt passes = let e = prefix_len-drop_yes p bs at 0 lt passes in omega arith

-- a run of ASCII bytes, from the place `at` on, ends at a boundary
boundary_behind_run : (p : ℕ → Bool) → ((b : ℕ) → p b ≡ true → b < 128) → (bs run : List ℕ) (at n : ℕ) → IsUtf8 bs
    → at < length bs → p (get_or bs at 0) ≡ true → run ≡ drop at bs → n ≡ prefix_len p run → n ≤ length run → IsCharBoundary bs (at + n)
boundary_behind_run p ascii bs run at n utf8 lt passes is_rest is_run within =
    let same : n ≡ prefix_len p (drop at bs) = is_run ∙ ap (prefix_len p) is_rest in
    let some = run_nonempty p bs at lt passes in
    let bound : at + n ≤ length bs = omega (arith, ap length is_rest, length-drop at bs) in
    let last : p (get_or bs (at + (n - 1)) 0) ≡ true = ap p (sym (get_or-drop at bs (n - 1) 0)) ∙ prefix_len_passes p (drop at bs) (n - 1) 0 (omega arith) in
    let e : at + (n - 1) + 1 ≡ at + n = omega arith in
    subst (IsCharBoundary bs) e (boundary_behind bs (at + (n - 1)) utf8 (omega arith) (ascii _ last))

name_is_ascii : (b : ℕ) → is_name_byte b ≡ true → b < 128
name_is_ascii b h = grind (arith, nat_tests)

name_begins : (b : ℕ) → IsTrue (begins_name b) → is_name_byte b ≡ true
name_begins b h = grind (arith, nat_tests)

digit_is_ascii : (b : ℕ) → is_ascii_digit b ≡ true → b < 128
digit_is_ascii b h = grind (arith, nat_tests)

pub quote_is_ascii : (b : ℕ) → IsTrue (is_quote b) → b < 128
quote_is_ascii b h = grind (arith, nat_tests)

pub boundary_behind_name : (bs run : List ℕ) (at n : ℕ) → IsUtf8 bs → at < length bs → IsTrue (begins_name (get_or bs at 0))
    → run ≡ drop at bs → n ≡ prefix_len is_name_byte run → n ≤ length run → IsCharBoundary bs (at + n)
boundary_behind_name bs run at n utf8 lt begins = boundary_behind_run is_name_byte name_is_ascii bs run at n utf8 lt (name_begins (get_or bs at 0) begins)

pub boundary_behind_digits : (bs run : List ℕ) (at n : ℕ) → IsUtf8 bs → at < length bs → IsTrue (is_ascii_digit (get_or bs at 0))
    → run ≡ drop at bs → n ≡ prefix_len is_ascii_digit run → n ≤ length run → IsCharBoundary bs (at + n)
boundary_behind_digits bs run at n utf8 lt begins = boundary_behind_run is_ascii_digit digit_is_ascii bs run at n utf8 lt begins

-- the bytes of a run pass
pub run_passes : (p : ℕ → Bool) (bs run xs : List ℕ) (n : ℕ) → run ≡ bs → n ≡ prefix_len p run → xs ≡ take n bs → (k : ℕ) → k < length xs → p (get_or xs k 0) ≡ true
run_passes p bs run xs n is_rest is_run is_part k lt =
    let same : n ≡ prefix_len p bs = is_run ∙ ap (prefix_len p) is_rest in
    let fits : k < n = omega (arith, ap length is_part, length-take n bs) in
    ap p (ap (λ l. get_or l k 0) is_part ∙ get_or-take n bs k 0 fits) ∙ prefix_len_passes p bs k 0 (omega arith)

in_range_of_digit : (b : ℕ) → is_ascii_digit b ≡ true → IsInRange 48 57 b
in_range_of_digit b h = grind (arith, nat_tests)

-- the tests of `integer_of` are known
given : (ds : List ℕ) (plain fits : Bool) → is_plain ds ≡ plain → nat_le (digits_value 10 ds) most_integer ≡ fits
    → integer_of ds ≡ (if plain && fits then Some (digits_value 10 ds) else None)
given ds plain fits p f i = if p i && f i then Some (digits_value 10 ds) else None

-- what `parse` gives for plain digits
pub integer_parsed : {E : Type 0} (ds : List ℕ) (r : Result ℕ E) → 0 < length ds → ((k : ℕ) → k < length ds → IsTrue (is_ascii_digit (get_or ds k 0)))
    → is_plain ds ≡ true → ParsesUnsigned 64 10 ds r → result_ok r ≡ integer_of ds
integer_parsed {E} ds (Ok x) some digits plain parsed =
    let h = parse_digits (numerals_by_value _ tells_by_index) {E = E} 64 ds (Ok x) parsed (λ i lt. in_range_of_digit _ (digits i lt)) in
    let le : nat_le (digits_value 10 ds) most_integer ≡ true = le-leb _ _ (omega (arith, h.0.1)) in
    ap (λ n. Some n) h.1 ∙ sym (given ds true true plain le)
integer_parsed {E} ds (Err e) some digits plain parsed =
    let h = parse_digits (numerals_by_value _ tells_by_index) {E = E} 64 ds (Err e) parsed (λ i lt. in_range_of_digit _ (digits i lt)) in
    let gt : nat_le (digits_value 10 ds) most_integer ≡ false = lt-leb _ _ (⊎_elim (λ gt. gt) (λ le. absurd (h (some, omega arith))) (order most_integer (digits_value 10 ds))) in
    sym (given ds true false plain gt)
