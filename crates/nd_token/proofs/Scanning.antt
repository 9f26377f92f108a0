-- A pass over a text, piece by piece.
use Rattle.std.proofs.Common.{◌≡◌, ℕ, zero, suc, ◌+◌, ◌-◌, ◌<◌, ◌≤◌, List, [], ◌∷◌, ◌++◌, length, drop, Some, None, Result, Ok, Err, refl, sym, ◌∙◌, ap, arith, append_assoc, length-drop}
use Rattle.std.proofs.lemmas.List.{drop-drop, drop_all}
use Rattle.nd_token.specs.States.{IsWithin}
use Rattle.nd_token.specs.Tokens.{token_of}
use Rattle.nd_token.specs.declared.token.Token as declared
use Rattle.std.proofs.Common.{map}
use Rattle.std.proofs.lemmas.List.{map-append}
use Rattle.nd_model.specs.Grammar.Token.{Word, OpenParen, CloseParen, OpenBracket, CloseBracket, Token}
use Rattle.nd_model.specs.Cells.Fault.{ParseFault, BadToken}
use Rattle.nd_model.specs.Grammar.Lexing.{State, at_first, depth_after, tokens, Blank, Newline, Lexeme, piece_at, reads, followed, tokens_from, ended, ended_by_newline, token_here, after_word, after_blank, after_newline}

abbrev Answer : Type 0
Answer = Result (List Token) ParseFault

-- bytes that are passed over do not matter
passed : (n : ℕ) (bs : List ℕ) (s : State) → tokens_from n bs s ≡ tokens_from 0 (drop n bs) s
unfolding tokens_from
passed zero bs s = refl
passed (suc n) [] s = refl
passed (suc n) (b ∷ bs) s = passed n bs s

-- the bytes behind the first one of a piece
behind_first : (n : ℕ) (bs : List ℕ) (s : State) → tokens_from (suc n - 1) bs s ≡ tokens_from 0 (drop n bs) s
behind_first n bs s = let e : suc n - 1 ≡ n = omega arith in ap (λ m. tokens_from m bs s) e ∙ passed n bs s

pub at_end : (s : State) → tokens_from 0 [] s ≡ Ok (ended s)
unfolding tokens_from
at_end s = refl

pub at_fault : (bs : List ℕ) (s : State) → 0 < length bs → piece_at bs ≡ None → tokens_from 0 bs s ≡ Err (record { kind = BadToken; line = s.here.line; column = s.here.column })
unfolding tokens_from
at_fault [] s some is = absurd (omega arith)
at_fault (b ∷ bs) s some is = ap (λ p. reads p s (λ n. tokens_from (n - 1) bs)) is

pub at_blank : (bs : List ℕ) (s : State) (n : ℕ) → 0 < length bs → 0 < n → piece_at bs ≡ Some (Blank n) → tokens_from 0 bs s ≡ tokens_from 0 (drop n bs) (after_blank n s)
unfolding tokens_from
at_blank [] s n some positive is = absurd (omega arith)
at_blank (b ∷ bs) s zero some positive is = absurd (omega arith)
at_blank (b ∷ bs) s (suc n) some positive is = ap (λ p. reads p s (λ n. tokens_from (n - 1) bs)) is ∙ behind_first n bs (after_blank (suc n) s)

pub at_newline : (bs : List ℕ) (s : State) → 0 < length bs → piece_at bs ≡ Some Newline
    → tokens_from 0 bs s ≡ followed (ended_by_newline s) (tokens_from 0 (drop 1 bs) (after_newline s))
unfolding tokens_from
at_newline [] s some is = absurd (omega arith)
at_newline (b ∷ bs) s some is = ap (λ p. reads p s (λ n. tokens_from (n - 1) bs)) is

pub at_lexeme : (bs : List ℕ) (s : State) (w : Word) (n : ℕ) → 0 < length bs → 0 < n → piece_at bs ≡ Some (Lexeme w n)
    → tokens_from 0 bs s ≡ followed (token_here w s ∷ []) (tokens_from 0 (drop n bs) (after_word w n s))
unfolding tokens_from
at_lexeme [] s w n some positive is = absurd (omega arith)
at_lexeme (b ∷ bs) s w zero some positive is = absurd (omega arith)
at_lexeme (b ∷ bs) s w (suc n) some positive is =
    ap (λ p. reads p s (λ n. tokens_from (n - 1) bs)) is ∙ ap (followed (token_here w s ∷ [])) (behind_first n bs (after_word w (suc n) s))

pub followed-followed : (ts us : List Token) (r : Answer) → followed ts (followed us r) ≡ followed (ts ++ us) r
followed-followed ts us (Ok vs) = ap (λ l. Ok l) (sym (append_assoc ts us vs))
followed-followed ts us (Err f) = refl

followed-nil : (r : Answer) → followed [] r ≡ r
followed-nil (Ok vs) = refl
followed-nil (Err f) = refl

-- a word opens one bracket at most
depth_grows : (w : Word) (depth count n : ℕ) → 0 < n → depth ≤ count → depth_after w depth ≤ count + n
depth_grows OpenParen depth count n positive h = omega arith
depth_grows OpenBracket depth count n positive h = omega arith
depth_grows CloseParen depth count n positive h = omega arith
depth_grows CloseBracket depth count n positive h = omega arith
depth_grows w depth count n positive h = omega arith

-- where a pass over the text stands: ts are the tokens before the place `at`, and s is the state there
pub record Stands (text : List ℕ) (at : ℕ) (ts : List Token) (s : State) : Type 0 where
  pub in_text : at ≤ length text
  pub within : IsWithin at s
  pub so_far : followed ts (tokens_from 0 (drop at text) s) ≡ tokens text

pub at_start : (text : List ℕ) (ts : List Token) (s : State) → ts ≡ [] → s ≡ at_first → Stands text 0 ts s
unfolding tokens
at_start text ts s none first = rw (none, first) (record {
  in_text = omega arith;
  within = record { line = omega arith; column = omega arith; depth = omega arith };
  so_far = followed-nil (tokens_from 0 text at_first);
})

module _ {text : List ℕ} {at : ℕ} {ts : List Token} {s : State} (stands : Stands text at ts s) where
  some_left : at < length text → 0 < length (drop at text)
  some_left lt = omega (arith, length-drop at text)

  pub after_a_fault : at < length text → None ≡ piece_at (drop at text) → Err (record { kind = BadToken; line = s.here.line; column = s.here.column }) ≡ tokens text
  after_a_fault lt is = ap (followed ts) (sym (at_fault (drop at text) s (some_left lt) (sym is))) ∙ stands.so_far

  pub after_a_blank : (n : ℕ) (next : State) → at < length text → 0 < n → at + n ≤ length text → Some (Blank n) ≡ piece_at (drop at text)
      → next ≡ after_blank n s → Stands text (at + n) ts next
  after_a_blank n next lt positive fits is next_is = rw next_is (record {
    in_text = fits;
    within = let w = stands.within in record { line = omega arith; column = omega arith; depth = omega arith };
    so_far =
        ap (λ l. followed ts (tokens_from 0 l (after_blank n s))) (sym (drop-drop n at text))
        ∙ ap (followed ts) (sym (at_blank (drop at text) s n (some_left lt) positive (sym is))) ∙ stands.so_far;
  })

  pub after_a_newline : (us : List Token) (next : State) → at < length text → Some Newline ≡ piece_at (drop at text)
      → us ≡ ts ++ ended_by_newline s → next ≡ after_newline s → Stands text (at + 1) us next
  after_a_newline us next lt is us_is next_is = rw (next_is, us_is) (record {
    in_text = omega arith;
    within = let w = stands.within in record { line = omega arith; column = omega arith; depth = omega arith };
    so_far =
        ap (λ l. followed (ts ++ ended_by_newline s) (tokens_from 0 l (after_newline s))) (sym (drop-drop 1 at text))
        ∙ sym (followed-followed ts (ended_by_newline s) _)
        ∙ ap (followed ts) (sym (at_newline (drop at text) s (some_left lt) (sym is))) ∙ stands.so_far;
  })

  pub after_a_lexeme : (w : Word) (n : ℕ) (us : List Token) (next : State) → at < length text → 0 < n → at + n ≤ length text
      → Some (Lexeme w n) ≡ piece_at (drop at text) → us ≡ ts ++ token_here w s ∷ [] → next ≡ after_word w n s → Stands text (at + n) us next
  after_a_lexeme w n us next lt positive fits is us_is next_is = rw (next_is, us_is) (record {
    in_text = fits;
    within = let inside : IsWithin at s = stands.within in record { line = omega arith; column = omega arith; depth = depth_grows w s.depth at n positive inside.depth };
    so_far =
        ap (λ l. followed (ts ++ token_here w s ∷ []) (tokens_from 0 l (after_word w n s))) (sym (drop-drop n at text))
        ∙ sym (followed-followed ts (token_here w s ∷ []) _)
        ∙ ap (followed ts) (sym (at_lexeme (drop at text) s w n (some_left lt) positive (sym is))) ∙ stands.so_far;
  })

  pub after_all : (us : List Token) → length text ≤ at → us ≡ ts ++ ended s → Ok us ≡ tokens text
  after_all us past us_is =
      ap (λ l. Ok l) us_is ∙ ap (followed ts) (sym (at_end s)) ∙ ap (λ l. followed ts (tokens_from 0 l s)) (sym (drop_all at text past)) ∙ stands.so_far

pub pushed : (xs ys : List declared.Token) (x : declared.Token) (t : Token) → ys ≡ xs ++ x ∷ [] → token_of x ≡ t
    → map token_of ys ≡ map token_of xs ++ t ∷ []
pushed xs ys x t is same = ap (map token_of) is ∙ map-append token_of xs (x ∷ []) ∙ ap (λ u. map token_of xs ++ u ∷ []) same
