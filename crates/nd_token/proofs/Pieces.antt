-- What stands at the front of a text has some bytes, and no more than the text.
use Rattle.std.proofs.Common.{◌≡◌, ℕ, ◌+◌, ◌<◌, ◌≤◌, true, List, [], ◌∷◌, not, length, drop, get_or, Option, Some, None, IfSome, refl, sym, ◌∙◌, ap, subst, nat_le, nat_eq, ⊎_elim, arith, rules, length-append, length-drop}
use Rattle.std.specs.Prelude.{◌==◌}
use Rattle.std.specs.Char.{is_ascii_digit}
use Rattle.std.specs.List.{AllByRecursion, prefix_len, starts_with}
use Rattle.std.specs.Option.{option_map}
use Rattle.std.proofs.lemmas.Bool.{cond_both, cases_lt, eqb-true}
use Rattle.std.proofs.lemmas.Bool.Decides.{nat_tests, Decides-eqb}
use Rattle.std.proofs.lemmas.List.{get_or_past}
use Rattle.std.proofs.lemmas.List.Sums.{prefix_len-le-length}
use Rattle.std.proofs.lemmas.Slice.Eq.{starts_is}
use Rattle.nd_model.specs.Grammar.Token.{Word, Integer}
use Rattle.nd_model.specs.Grammar.Lexing.{begins_name, is_name_byte, is_quote, is_quotable, joins_number, most_name, name_at, number_at, quoted_at, symbols, first_of, word_at, Piece, lexeme, is_blank, comment_length, piece_at}
use Rattle.nd_token.specs.States.{size_of}
use Rattle.nd_token.proofs.Runs.{run_nonempty}

-- a word has some bytes, and at most this many
abbrev pub Fits : ℕ → Option (Word × ℕ) → Type 0
Fits most o = IfSome o (λ w. (0 < w.1) × (w.1 ≤ most))

name_fits : (bs : List ℕ) → 0 < length bs → is_name_byte (get_or bs 0 0) ≡ true → Fits (length bs) (name_at bs)
name_fits bs some begins =
    cond_both (nat_le (prefix_len is_name_byte bs) most_name) _ _ (Fits (length bs)) (λ _. (run_nonempty is_name_byte bs 0 some begins, prefix_len-le-length is_name_byte bs)) (λ _. tt)

mapped_fits : (most n : ℕ) (o : Option ℕ) → 0 < n → n ≤ most → Fits most (option_map (λ v. (Integer v, n)) o)
mapped_fits most n (Some v) some fits = (some, fits)
mapped_fits most n None some fits = tt

number_fits : (bs : List ℕ) → 0 < length bs → is_ascii_digit (get_or bs 0 0) ≡ true → Fits (length bs) (number_at bs)
number_fits bs some begins =
    let n = prefix_len is_ascii_digit bs in
    cond_both (joins_number (get_or bs n 0)) _ _ (Fits (length bs)) (λ _. tt)
    (λ _. mapped_fits _ n _ (run_nonempty is_ascii_digit bs 0 some begins) (prefix_len-le-length is_ascii_digit bs))

quote_is_positive : (b : ℕ) → is_quote b ≡ true → 0 < b
quote_is_positive b h = grind (arith, nat_tests)

quoted_fits : (bs : List ℕ) → is_quote (get_or bs 0 0) ≡ true → Fits (length bs) (quoted_at bs)
quoted_fits bs quotes =
    let rest = drop 1 bs in
    let n = prefix_len (is_quotable (get_or bs 0 0)) rest in
    cond_both (get_or rest n 0 == get_or bs 0 0) _ _ (Fits (length bs))
    (λ closes.
    let same : get_or rest n 0 ≡ get_or bs 0 0 = eqb-true (get_or rest n 0) (get_or bs 0 0) closes in
    let positive : 0 < get_or bs 0 0 = quote_is_positive (get_or bs 0 0) quotes in
    ⊎_elim (λ lt. (omega arith, omega (arith, length-drop 1 bs))) (λ past. absurd (let e = get_or_past rest n 0 past in omega arith)) (cases_lt n (length rest)))
    (λ _. tt)

abbrev IsSymbol : List ℕ × Word → Type 0
IsSymbol e = 0 < length e.0

first_fits : (es : List (List ℕ × Word)) (bs : List ℕ) → AllByRecursion IsSymbol es → Fits (length bs) (first_of es bs)
first_fits [] bs h = tt
first_fits (e ∷ es) bs h =
    cond_both (starts_with nat_eq bs e.0) _ _ (Fits (length bs))
    (λ stands. let is_front = (starts_is Decides-eqb bs e.0 _ refl).0 stands in (h.0, omega (arith, ap length is_front, length-append e.0 (drop (length e.0) bs))))
    (λ _. first_fits es bs h.1)

symbols_have_bytes : AllByRecursion IsSymbol symbols
unfolding symbols
symbols_have_bytes = search (rules, arith)

begins_is_name_byte : (b : ℕ) → begins_name b ≡ true → is_name_byte b ≡ true
begins_is_name_byte b h = grind (arith, nat_tests)

pub word_fits : (bs : List ℕ) → 0 < length bs → Fits (length bs) (word_at bs)
unfolding word_at
word_fits bs some =
    let b = get_or bs 0 0 in
    cond_both (begins_name b) _ _ (Fits (length bs)) (λ h. name_fits bs some (begins_is_name_byte b h))
    (λ _. cond_both (is_ascii_digit b) _ _ (Fits (length bs)) (number_fits bs some)
    (λ _. cond_both (is_quote b) _ _ (Fits (length bs)) (quoted_fits bs)
    (λ _. first_fits symbols bs symbols_have_bytes)))

abbrev pub PieceFits : ℕ → Option Piece → Type 0
PieceFits most o = IfSome o (λ p. (0 < size_of p) × (size_of p ≤ most))

lexeme_fits : (most : ℕ) (o : Option (Word × ℕ)) → Fits most o → PieceFits most (lexeme o)
lexeme_fits most (Some w) h = h
lexeme_fits most None h = tt

sharp_is_no_newline : (b : ℕ) → (b == 35) ≡ true → not (b == 10) ≡ true
sharp_is_no_newline b h = grind (arith, nat_tests)

pub piece_fits : (bs : List ℕ) → 0 < length bs → PieceFits (length bs) (piece_at bs)
unfolding piece_at
piece_fits bs some =
    let b = get_or bs 0 0 in
    let P = PieceFits (length bs) in
    cond_both (b == 10) _ _ P (λ _. (omega arith, omega arith))
    (λ _. cond_both (is_blank b) _ _ P (λ _. (omega arith, omega arith))
    (λ _. cond_both (b == 13) _ _ P (λ _. cond_both (get_or bs 1 0 == 10) _ _ P (λ _. (omega arith, omega arith)) (λ _. tt))
    (λ _. cond_both (b == 35) _ _ P (λ h. (run_nonempty (λ c. not (c == 10)) bs 0 some (sharp_is_no_newline b h), prefix_len-le-length (λ c. not (c == 10)) bs))
    (λ _. lexeme_fits _ _ (word_fits bs some)))))

pub comment_fits : (bs run : List ℕ) (at n : ℕ) → at < length bs → get_or bs at 0 ≡ 35 → run ≡ drop at bs → n ≡ comment_length run
    → (0 < n) × (at + n ≤ length bs)
comment_fits bs run at n lt sharp is_rest is_run =
    let p = λ (c : ℕ). not (c == 10) in
    let e : n ≡ prefix_len p (drop at bs) = is_run ∙ ap comment_length is_rest in
    let some = run_nonempty p bs at lt (ap p sharp) in
    let fits = prefix_len-le-length p (drop at bs) in
    (omega arith, omega (arith, length-drop at bs))

pub word_fits_at : (bs : List ℕ) (at : ℕ) (w : Word) (n : ℕ) → at < length bs → Some (w, n) ≡ word_at (drop at bs) → (0 < n) × (at + n ≤ length bs)
word_fits_at bs at w n lt is =
    let fits : Fits (length (drop at bs)) (Some (w, n)) = subst (Fits (length (drop at bs))) (sym is) (word_fits (drop at bs) (omega (arith, length-drop at bs))) in
    (fits.0, omega (arith, fits.1, length-drop at bs))
