-- The numbers of a script.
use Rattle.std.proofs.Common.{◌≡◌, ℕ, ◌<◌, ◌^◌, Bool, true, false, List, Some, None, refl, sym, ◌∙◌}
use Rattle.std.specs.Prelude.{◌&&◌, nat_lt, bytes_eq, decimal}
use Rattle.std.specs.Str.Parse.{digits_value}
use Rattle.std.proofs.lemmas.Bool.{ltb-true, lt-ltb}
use Rattle.std.proofs.lemmas.Str.Parse.{numerals_by_value, tells_digits}
use Rattle.std.specs.Result.{result_ok}
use Rattle.std.specs.Prelude.{Result, Ok, Err}
use Rattle.std.specs.Str.Parse.{ParsesUnsigned, without_leading_plus}
use Rattle.std.proofs.lemmas.Fmt.{digits_value-decimal, parse-decimal}
use Rattle.std.proofs.lemmas.Slice.Eq.{bytes_eq-Decides}
use Rattle.nd_model.specs.Book.Script.{number_word}

both_false : (a b : Bool) → (a ≡ true → b ≡ true → ⊥) → (a && b) ≡ false
both_false true true apart = absurd (apart refl refl)
both_false true false apart = refl
both_false false b apart = refl

pub number_word-decimal : (w : List ℕ) (n : ℕ) → n < 2 ^ 64 → w ≡ decimal n → number_word w ≡ Some n
number_word-decimal w n small e =
    let value : digits_value 10 (decimal n) ≡ n = digits_value-decimal (numerals_by_value _ tells_digits) n small in
    let low : nat_lt n (2 ^ 64) ≡ true = lt-ltb n (2 ^ 64) small in
    let same : bytes_eq (decimal n) (decimal n) ≡ true = (bytes_eq-Decides (decimal n) (decimal n)).1 refl in
    rw (e, value, low, same) refl

pub number_word-none : (w : List ℕ) → ((n : ℕ) → n < 2 ^ 64 → w ≡ decimal n → ⊥) → number_word w ≡ None
number_word-none w apart =
    let v = digits_value 10 w in
    let fails : (nat_lt v (2 ^ 64) && bytes_eq w (decimal v)) ≡ false
    = both_false (nat_lt v (2 ^ 64)) (bytes_eq w (decimal v)) (λ low same. apart v (ltb-true v (2 ^ 64) low) ((bytes_eq-Decides w (decimal v)).0 same)) in
    rw fails refl

-- what reading a word gives, where its text is compared with the number's own

pub number_word-at_err : {E : Type 0} (w : List ℕ) (r : Result ℕ E) → ParsesUnsigned 64 10 w r → result_ok r ≡ None → number_word w ≡ None
number_word-at_err w r parses at_err =
    number_word-none w (λ m small e. let gives : r ≡ Ok m = parse-decimal 64 m w r small small e parses in cc)

pub number_word-same : {E : Type 0} (w : List ℕ) (r : Result ℕ E) (n : ℕ) (text : List ℕ) → ParsesUnsigned 64 10 w r → result_ok r ≡ Some n → text ≡ decimal n → bytes_eq text w ≡ true → number_word w ≡ Some n
number_word-same w (Ok m) n text parses at_ok is same =
    let both : m ≡ n = cc in
    let value : n ≡ digits_value 10 (without_leading_plus w) = sym both ∙ parses.1 in
    let equal : text ≡ w = (bytes_eq-Decides text w).0 same in
    number_word-decimal w n (rw value parses.0.1) (sym equal ∙ is)
number_word-same w (Err e) n text parses at_ok is same = cc

pub number_word-other : {E : Type 0} (w : List ℕ) (r : Result ℕ E) (n : ℕ) (text : List ℕ) → ParsesUnsigned 64 10 w r → result_ok r ≡ Some n → text ≡ decimal n → bytes_eq text w ≡ false → number_word w ≡ None
number_word-other w r n text parses at_ok is other =
    number_word-none w (λ m small e.
    let gives : r ≡ Ok m = parse-decimal 64 m w r small small e parses in
    let same : bytes_eq text w ≡ true = (bytes_eq-Decides text w).1 cc in
    cc)
