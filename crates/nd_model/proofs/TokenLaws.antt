-- The laws of the tokens of a text.
use Rattle.std.proofs.Common.{◌≡◌, ℕ, zero, suc, ◌-◌, ◌≤◌, true, false, List, [], ◌∷◌, length, get_or, drop, nat_le, nat_eq, Option, Some, None, IfSome, Result, Ok, Err, IfOk, refl, sym, subst, arith, rules}
use Rattle.std.specs.Prelude.{not, ◌==◌, if◌then◌else◌, bytes_eq, codes}
use Rattle.std.specs.Char.{is_ascii_digit}
use Rattle.std.specs.List.{AllByRecursion, prefix_len, starts_with}
use Rattle.std.specs.Option.{is_some, option_map}
use Rattle.std.proofs.lemmas.Bool.{cond_both}
use Rattle.nd_model.specs.Grammar.Token.{Word, Integer, Token}
use Rattle.nd_model.specs.Cells.Fault.{ParseFault}
use Rattle.nd_model.specs.Grammar.Lexing.{is_keyword, begins_name, is_name_byte, is_quote, is_quotable, joins_number, most_name, word_of_name, symbols, first_of, word_at, is_blank, lexeme, State, Place, ahead, Piece, Blank, Newline, Lexeme, piece_at, reads, followed, tokens_from, tokens, end_at, ended, ended_by_newline, token_here, after_newline, is_end, words_in, FewWords, AreStatements, WholeStatements}

abbrev Answer : Type 0
Answer = Result (List Token) ParseFault

-- ---- a text has at most as many words as bytes

abbrev Few : ℕ → Answer → Type 0
Few most r = IfOk r (λ ts. words_in ts ≤ most)

few_more : (most : ℕ) (r : Answer) → Few most r → Few (suc most) r
few_more most (Ok ts) h = omega arith
few_more most (Err f) h = tt

few_after_end : (most : ℕ) (behind : Option Place) (r : Answer) → Few most r → Few most (followed (end_at behind) r)
few_after_end most None (Ok ts) h = h
few_after_end most (Some p) (Ok ts) h = h
few_after_end most None (Err f) h = tt
few_after_end most (Some p) (Err f) h = tt

few_after_newline : (most : ℕ) (s : State) (r : Answer) → Few most r → Few most (followed (ended_by_newline s) r)
few_after_newline most s r h =
    cond_both (s.depth == 0) (ended s) [] (λ ts. Few most (followed ts r)) (λ _. few_after_end most s.behind r h) (λ _. few_after_end most None r h)

few_after_word : (most : ℕ) (t : Token) (r : Answer) → Few most r → Few (suc most) (followed (t ∷ []) r)
few_after_word most t (Ok ts) h = cond_both (is_end t.word) (words_in ts) (suc (words_in ts)) (λ n. n ≤ suc most) (λ _. omega arith) (λ _. omega arith)
few_after_word most t (Err f) h = tt

few_reads : (most : ℕ) (p : Option Piece) (s : State) (rest : ℕ → State → Answer) → ((n : ℕ) (next : State) → Few most (rest n next)) → Few (suc most) (reads p s rest)
few_reads most None s rest h = tt
few_reads most (Some (Blank n)) s rest h = few_more most _ (h n _)
few_reads most (Some Newline) s rest h = few_more most _ (few_after_newline most s _ (h 1 _))
few_reads most (Some (Lexeme w n)) s rest h = few_after_word most _ _ (h n _)

few_ended : (behind : Option Place) → words_in (end_at behind) ≤ 0
few_ended None = omega arith
few_ended (Some p) = omega arith

few_from : (n : ℕ) (bs : List ℕ) (s : State) → Few (length bs) (tokens_from n bs s)
unfolding tokens_from
few_from n [] s = few_ended s.behind
few_from (suc n) (b ∷ bs) s = few_more (length bs) _ (few_from n bs s)
few_from zero (b ∷ bs) s = few_reads (length bs) (piece_at (b ∷ bs)) s _ (λ n next. few_from (n - 1) bs next)

pub few_words : FewWords
unfolding tokens
few_words text = few_from 0 text _

-- ---- no word of a text is the end of a statement

abbrev NoEnd : Option (Word × ℕ) → Type 0
NoEnd o = IfSome o (λ w. is_end w.0 ≡ false)

no_end_of_name : (name : List ℕ) → is_end (word_of_name name) ≡ false
no_end_of_name name =
    let P = λ (w : Word). is_end w ≡ false in
    cond_both (is_keyword name) _ _ P (λ _. refl)
    (λ _. cond_both (bytes_eq name (codes "np")) _ _ P (λ _. refl)
    (λ _. cond_both (bytes_eq name (codes "print")) _ _ P (λ _. refl)
    (λ _. cond_both (bytes_eq name (codes "abs")) _ _ P (λ _. refl)
    (λ _. cond_both (bytes_eq name (codes "buffer")) _ _ P (λ _. refl) (λ _. refl)))))

no_end_of_integer : (n : ℕ) (o : Option ℕ) → NoEnd (option_map (λ v. (Integer v, n)) o)
no_end_of_integer n (Some v) = refl
no_end_of_integer n None = tt

abbrev IsNoEnd : List ℕ × Word → Type 0
IsNoEnd e = is_end e.1 ≡ false

no_end_of_first : (es : List (List ℕ × Word)) (bs : List ℕ) → AllByRecursion IsNoEnd es → NoEnd (first_of es bs)
no_end_of_first [] bs h = tt
no_end_of_first (e ∷ es) bs h = cond_both (starts_with nat_eq bs e.0) _ _ NoEnd (λ _. h.0) (λ _. no_end_of_first es bs h.1)

no_end_of_symbols : AllByRecursion IsNoEnd symbols
unfolding symbols
no_end_of_symbols = search (rules, arith)

no_end_of_word : (bs : List ℕ) → NoEnd (word_at bs)
unfolding word_at
no_end_of_word bs =
    let b = get_or bs 0 0 in
    let rest = drop 1 bs in
    cond_both (begins_name b) _ _ NoEnd (λ _. cond_both (nat_le (prefix_len is_name_byte bs) most_name) _ _ NoEnd (λ _. no_end_of_name _) (λ _. tt))
    (λ _. cond_both (is_ascii_digit b) _ _ NoEnd (λ _. cond_both (joins_number (get_or bs (prefix_len is_ascii_digit bs) 0)) _ _ NoEnd (λ _. tt) (λ _. no_end_of_integer _ _))
    (λ _. cond_both (is_quote b) _ _ NoEnd (λ _. cond_both (get_or rest (prefix_len (is_quotable b) rest) 0 == b) _ _ NoEnd (λ _. refl) (λ _. tt))
    (λ _. no_end_of_first symbols bs no_end_of_symbols)))

abbrev NoEndIn : Piece → Type 0
NoEndIn (Lexeme w n) = is_end w ≡ false
NoEndIn (Blank n) = Unit {0}
NoEndIn Newline = Unit {0}

abbrev NoEndPiece : Option Piece → Type 0
NoEndPiece o = IfSome o NoEndIn

no_end_of_lexeme : (o : Option (Word × ℕ)) → NoEnd o → NoEndPiece (lexeme o)
no_end_of_lexeme (Some w) h = h
no_end_of_lexeme None h = tt

no_end_of_piece : (bs : List ℕ) → NoEndPiece (piece_at bs)
unfolding piece_at
no_end_of_piece bs =
    let b = get_or bs 0 0 in
    cond_both (b == 10) _ _ NoEndPiece (λ _. tt)
    (λ _. cond_both (is_blank b) _ _ NoEndPiece (λ _. tt)
    (λ _. cond_both (b == 13) _ _ NoEndPiece (λ _. cond_both (get_or bs 1 0 == 10) _ _ NoEndPiece (λ _. tt) (λ _. tt))
    (λ _. cond_both (b == 35) _ _ NoEndPiece (λ _. tt) (λ _. no_end_of_lexeme _ (no_end_of_word bs)))))

-- ---- the tokens of a text are whole statements

abbrev Whole : Option Place → Answer → Type 0
Whole behind r = IfOk r (AreStatements (not (is_some behind)))

whole_after_end : (behind : Option Place) (r : Answer) → Whole None r → Whole behind (followed (end_at behind) r)
whole_after_end None (Ok ts) h = h
whole_after_end (Some p) (Ok ts) h = (refl, h)
whole_after_end behind (Err f) h = tt

unchanged : (behind : Option Place) (r : Answer) → Whole behind r → Whole behind (followed [] r)
unchanged behind (Ok ts) h = h
unchanged behind (Err f) h = tt

whole_after_newline : (s : State) (r : Answer) → Whole (after_newline s).behind r → Whole s.behind (followed (ended_by_newline s) r)
whole_after_newline s r =
    elim (s.depth == 0) as (λ t. Whole (if t then None else s.behind) r → Whole s.behind (followed (if t then ended s else []) r)) [
      | true ↦ whole_after_end s.behind r
      | false ↦ unchanged s.behind r
    ]

whole_after_word : (w : Word) (s : State) (p : Place) (r : Answer) → is_end w ≡ false → Whole (Some p) r → Whole s.behind (followed (token_here w s ∷ []) r)
whole_after_word w s p (Ok ts) no_end h = (refl, subst (λ b. AreStatements b ts) (sym no_end) h)
whole_after_word w s p (Err f) no_end h = tt

whole_reads : (p : Option Piece) (s : State) (rest : ℕ → State → Answer) → NoEndPiece p → ((n : ℕ) (next : State) → Whole next.behind (rest n next)) → Whole s.behind (reads p s rest)
whole_reads None s rest no_end h = tt
whole_reads (Some (Blank n)) s rest no_end h = h n _
whole_reads (Some Newline) s rest no_end h = whole_after_newline s _ (h 1 _)
whole_reads (Some (Lexeme w n)) s rest no_end h = whole_after_word w s (ahead n s.here) _ no_end (h n _)

whole_ended : (behind : Option Place) → Whole behind (Ok (end_at behind))
whole_ended None = refl
whole_ended (Some p) = (refl, refl)

whole_from : (n : ℕ) (bs : List ℕ) (s : State) → Whole s.behind (tokens_from n bs s)
unfolding tokens_from
whole_from n [] s = whole_ended s.behind
whole_from (suc n) (b ∷ bs) s = whole_from n bs s
whole_from zero (b ∷ bs) s = whole_reads (piece_at (b ∷ bs)) s _ (no_end_of_piece (b ∷ bs)) (λ n next. whole_from (n - 1) bs next)

pub whole_statements : WholeStatements
unfolding tokens
whole_statements text = whole_from 0 text _
