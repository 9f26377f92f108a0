-- What is read of a text is what the grammar says of it.
use Rattle.std.proofs.Common.{◌≡◌, ℕ, List, [], inl, inr, Result, Ok, Err, refl, sym, ap, ◌∙◌}
use Rattle.nd_model.specs.Grammar.Grammar.{Stop}
use Rattle.nd_model.specs.Grammar.Faults.{HasFault}
use Rattle.nd_model.specs.Grammar.Predict.{read_all}
use Rattle.nd_model.specs.Grammar.Token.{Token}
use Rattle.nd_model.specs.Cells.Fault.{ParseFault}
use Rattle.nd_model.specs.Grammar.Syntax.{Line, Parsed}
use Rattle.nd_model.specs.Grammar.Lexing.{tokens}
use Rattle.nd_model.specs.Grammar.Kinds.{kind}
use Rattle.nd_model.specs.Grammar.Factored.{cell}
use Rattle.nd_model.specs.Grammar.Cells as cells
use Rattle.nd_model.specs.Grammar.Reading.{fault_at, parsed, reading_of, reading, IsCell, HasCellFault}
use Rattle.nd_model.proofs.Parsing.Answers.{read_all_sound, read_all_complete, read_all_fault, same_fault}
use Rattle.nd_model.proofs.Parsing.Unique as unique
use Rattle.nd_model.proofs.Parsing.Looks.{fits}
use Rattle.nd_model.proofs.Parsing.Alike.{cell_up, cell_down}

abbrev Ok-of : List Line → Parsed
Ok-of ls = Ok ls

abbrev Err-of : ParseFault → Parsed
Err-of f = Err f

same_ok : (a b : List Line) → Ok-of a ≡ Ok-of b → a ≡ b
same_ok a b e = cc

same_err : (f g : ParseFault) → Err-of f ≡ Err-of g → f ≡ g
same_err f g e = cc

pub cell_is_read : (text : List ℕ) (ls : List Line) → IsCell text ls → reading text ≡ Ok ls
unfolding reading
cell_is_read text ls h = rw (h.1, read_all_complete kind cell h.0 ls fits (cell_up.spans h.0 [] ls h.2)) refl

pub read_is_cell : (text : List ℕ) (ls : List Line) → reading text ≡ Ok ls → IsCell text ls
unfolding reading
read_is_cell text ls e = by_tokens (tokens text) refl e
  where
    by_reading : (ts : List Token) → tokens text ≡ Ok ts → (r : Result (List Line) Stop) → read_all kind cell ts ≡ r → parsed ts r ≡ Ok ls → IsCell text ls
    by_reading ts t (Ok k) d e = (ts, t, cell_down.spans ts [] ls (read_all_sound kind cell ts ls (d ∙ ap (λ l. Ok l) (same_ok k ls e))))
    by_reading ts t (Err s) d e = absurd cc

    by_tokens : (r : Result (List Token) ParseFault) → tokens text ≡ r → reading_of r ≡ Ok ls → IsCell text ls
    by_tokens (Ok ts) t e = by_reading ts t (read_all kind cell ts) refl e
    by_tokens (Err f) t e = absurd cc

-- a fault of the tokens is the one that reading gives
faulty : (ts : List Token) (s : Stop) → HasFault kind cells.cell ts s → read_all kind cell ts ≡ Err s
faulty ts s h = go (read_all kind cell ts) refl
  where
    up : HasFault kind cell ts s
    up = same_fault kind cells.cell cell cell_up cell_down ts s h

    go : (r : Result (List Line) Stop) → read_all kind cell ts ≡ r → read_all kind cell ts ≡ Err s
    go (Ok ls) e = absurd (up.none ls (read_all_sound kind cell ts ls e))
    go (Err z) e = e ∙ ap (λ s. Err s) (unique.one_fault kind cell ts z s (read_all_fault kind cell ts z fits e) up)

pub fault_is_read : (text : List ℕ) (f : ParseFault) → HasCellFault text f → reading text ≡ Err f
unfolding reading
fault_is_read text f (inl e) = rw e refl
fault_is_read text f (inr h) = rw (h.2, faulty h.0 h.1 h.3) (ap (λ f. Err f) (sym h.4))

pub read_is_fault : (text : List ℕ) (f : ParseFault) → reading text ≡ Err f → HasCellFault text f
unfolding reading
read_is_fault text f e = by_tokens (tokens text) refl e
  where
    by_reading : (ts : List Token) → tokens text ≡ Ok ts → (r : Result (List Line) Stop) → read_all kind cell ts ≡ r → parsed ts r ≡ Err f → HasCellFault text f
    by_reading ts t (Ok k) d e = absurd cc
    by_reading ts t (Err s) d e =
        inr (ts, s, t, same_fault kind cell cells.cell cell_down cell_up ts s (read_all_fault kind cell ts s fits d), sym (same_err (fault_at ts s) f e))

    by_tokens : (r : Result (List Token) ParseFault) → tokens text ≡ r → reading_of r ≡ Err f → HasCellFault text f
    by_tokens (Ok ts) t e = by_reading ts t (read_all kind cell ts) refl e
    by_tokens (Err g) t e = inl (t ∙ ap (λ f. Err f) (same_err g f e))

pub one_meaning : (text : List ℕ) (a b : List Line) → IsCell text a → IsCell text b → a ≡ b
one_meaning text a b p q = same_ok a b (sym (cell_is_read text a p) ∙ cell_is_read text b q)

pub one_fault : (text : List ℕ) (f g : ParseFault) → HasCellFault text f → HasCellFault text g → f ≡ g
one_fault text f g p q = same_err f g (sym (fault_is_read text f p) ∙ fault_is_read text g q)
