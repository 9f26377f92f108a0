-- The lines of a cell, one after another.
use Rattle.std.proofs.Common.{◌≡◌, ℕ, ◌+◌, ◌<◌, true, false, leb, List, [], ◌∷◌, ◌++◌, length, length-append, drop, get_or, Option, None, Some, option_map, is_some, Result, Ok, Err, IfOk, arith, refl, sym, ap, ap₂, subst, ◌∙◌, inl, inr, add-one, drop-cons, String, string_bytes, Vec, Global}
use Rattle.std.specs.Prelude.{string_eq, bytes_eq}
use Rattle.std.proofs.lemmas.Bool.{cases_Bool}
use Rattle.indexmap.specs.IndexMap.{insert_entry}
use Rattle.std.specs.Map.{lookup as find}
use Rattle.nd_model.specs.Cells.Session.{bind, lookup}
use Rattle.nd_model.specs.Cells.Running.{Running, Inputs, Output}
use Rattle.nd_model.specs.Cells.Fault.{Fault, Statement, TextTooLong}
use Rattle.nd_model.specs.Cells.Fault as fault
use Rattle.nd_model.specs.Grammar.Syntax as model
use Rattle.nd_model.specs.Grammar.Syntax.{Parsed}
use Rattle.nd_reach.specs.Reach.{EndsInReach}
use Rattle.nd_reach.proofs.Reaching.{reach_itself}
use Rattle.nd_model.specs.Cells.Cell.{Ended, Saved, ran, statement, statements, and_then, with_save, most_text}
use Rattle.nd_model.specs.Grammar.Tokens.{tokens_of_stmt, tokens_of_lines}
use Rattle.nd_syntax.specs.declared.trees.tree.Line.{Line}
use Rattle.nd_syntax.specs.Trees.Syntax.{stmt_of, lines_of}
use Rattle.nd_model.specs.Cells.Cell.{limit_text}
use Rattle.nd_cell.specs.declared.result.Refusal.{Refusal}
use Rattle.nd_cell.specs.declared.result.CellResult.{CellResult}
use Rattle.nd_cell.specs.Results.{after_line, ended_of, refusal_of, saved_of, saves_of}

more : (lines : List Line) (k : ℕ) (d : Line) → k < length lines → d ≡ get_or lines k d → drop k lines ≡ d ∷ drop (k + 1) lines
more lines k d lt is = drop-cons lines k d lt ∙ ap₂ (λ (e : Line) (n : ℕ). e ∷ drop n lines) (sym is) (sym (add-one k))

-- a line, and what comes after it
pub line_gives : (i : Inputs) (lines : List Line) (k : ℕ) (d : Line) (text new : List ℕ) (saves kept : Saved) (r x : Running) (o : Option Refusal)
    → k < length lines → d ≡ get_or lines k d
    → ((rest : List ℕ → Saved → Running → Ended) → and_then d.line text saves (statement i (stmt_of d.stmt) r) rest ≡ after_line o new kept x rest)
    → statements i (lines_of (drop k lines)) text saves r ≡ after_line o new kept x (statements i (lines_of (drop (k + 1) lines)))
line_gives i lines k d text new saves kept r x o lt is ran =
    ap (λ (l : List Line). statements i (lines_of l) text saves r) (more lines k d lt is) ∙ ran (statements i (lines_of (drop (k + 1) lines)))

-- where nothing refuses the line, the lines behind it follow
pub line_goes_on : (i : Inputs) (lines : List Line) (k : ℕ) (d : Line) (text new : List ℕ) (saves kept : Saved) (r x : Running) (o : Option Refusal)
    → k < length lines → d ≡ get_or lines k d → false ≡ is_some o
    → ((rest : List ℕ → Saved → Running → Ended) → and_then d.line text saves (statement i (stmt_of d.stmt) r) rest ≡ after_line o new kept x rest)
    → statements i (lines_of (drop k lines)) text saves r ≡ statements i (lines_of (drop (k + 1) lines)) new kept x
line_goes_on i lines k d text new saves kept r x None lt is go ran = line_gives i lines k d text new saves kept r x None lt is ran
line_goes_on i lines k d text new saves kept r x (Some f) lt is go ran = absurd (cc)

-- where it is refused, the cell ends
pub line_stops : (i : Inputs) (lines : List Line) (k : ℕ) (d : Line) (text : List ℕ) (saves : Saved) (r x : Running) (c : CellResult)
    → k < length lines → d ≡ get_or lines k d → true ≡ is_some c.refusal
    → ((rest : List ℕ → Saved → Running → Ended) → and_then d.line text saves (statement i (stmt_of d.stmt) r) rest ≡ after_line c.refusal (string_bytes c.text) (saves_of c.saves.entries) x rest)
    → statements i (lines_of (drop k lines)) text saves r ≡ ended_of c x
line_stops i lines k d text saves r x c lt is stop ran =
    line_gives i lines k d text (string_bytes c.text) saves (saves_of c.saves.entries) r x c.refusal lt is ran
    ∙ ends c.refusal (statements i (lines_of (drop (k + 1) lines))) stop
  where
    ends : (o : Option Refusal) (rest : List ℕ → Saved → Running → Ended) → true ≡ is_some o
        → after_line o (string_bytes c.text) (saves_of c.saves.entries) x rest ≡ record { text = string_bytes c.text; refusal = option_map refusal_of o; saves = saves_of c.saves.entries; running = x }
    ends None rest stop = absurd (cc)
    ends (Some f) rest stop = refl

-- the text of a line that stands, and of one whose text is too long
pub text_stands : (line : ℕ) (text new : List ℕ) (saves kept : Saved) (o : Output) → leb (length (text ++ o.text)) most_text ≡ true → new ≡ text ++ o.text → kept ≡ with_save o.save saves
    → (x : Running) (rest : List ℕ → Saved → Running → Ended) → and_then line text saves (Ok o, x) rest ≡ rest new kept x
text_stands line text new saves kept o fits long saved x rest = rw fits (ap₂ (λ t s. rest t s x) (sym long) (sym saved))

pub text_too_long : (line : ℕ) (text : List ℕ) (saves : Saved) (o : Output) → leb (length (text ++ o.text)) most_text ≡ false
    → (x : Running) (rest : List ℕ → Saved → Running → Ended)
    → and_then line text saves (Ok o, x) rest ≡ record { text = text; refusal = Some (line, Statement (fault.Stmt TextTooLong)); saves = saves; running = x }
text_too_long line text saves o long x rest = rw long refl

pub tokens_more : (lines : List Line) (k : ℕ) (d : Line) → k < length lines → d ≡ get_or lines k d
    → tokens_of_lines (lines_of (drop k lines)) ≡ tokens_of_stmt (stmt_of d.stmt) + tokens_of_lines (lines_of (drop (k + 1) lines))
tokens_more lines k d lt is = ap (λ (l : List Line). tokens_of_lines (lines_of l)) (more lines k d lt is)

pub saves-insert : (n : String Global) (v : Vec ℕ Global) (es : List (String Global × Vec ℕ Global)) → saves_of (insert_entry string_eq es n v) ≡ bind (string_bytes n) v.items (saves_of es)
saves-insert n v [] = refl
saves-insert n v (e ∷ es) = elim (cases_Bool (bytes_eq (string_bytes n) (string_bytes e.0))) [
  | inl is ↦ rw is refl
  | inr other ↦ rw other (ap (λ es. saved_of e ∷ es) (saves-insert n v es))
]

-- the file of a name
pub saves_found : (n : List ℕ) (es : List (String Global × Vec ℕ Global))
    → lookup n (saves_of es) ≡ option_map (λ (f : Vec ℕ Global). f.items) (find (λ k. bytes_eq n (string_bytes k)) es)
saves_found n [] = refl
saves_found n (e ∷ es) = elim (cases_Bool (bytes_eq n (string_bytes e.0))) [ inl is ↦ rw is refl | inr other ↦ rw other (saves_found n es) ]

-- ---- a text that no cell takes

-- a text that is too long is too long behind another one as well
too_long_behind : (text more : List ℕ) → leb (length more) most_text ≡ false → leb (length (text ++ more)) most_text ≡ false
too_long_behind text more long = grind (arith, length-append)

-- a line whose text is too long may be refused before the text is built
pub limited_and_then : (line : ℕ) (text : List ℕ) (saves : Saved) (m : Result Output Fault × Running) (rest : List ℕ → Saved → Running → Ended)
    → and_then line text saves (limit_text m) rest ≡ and_then line text saves m rest
limited_and_then line text saves (Ok o, x) rest = elim (cases_Bool (leb (length o.text) most_text)) [
  | inl fits ↦ rw fits refl
  | inr long ↦ rw long (sym (text_too_long line text saves o (too_long_behind text o.text long) x rest))
]
limited_and_then line text saves (Err f, x) rest = refl

-- a statement that is known but for a text that is too long goes on as the statement does
pub limited_line : (line : ℕ) (text : List ℕ) (saves : Saved) (m : Result Output Fault × Running) (out : Result Output Fault) (x : Running)
    → limit_text m ≡ (out, x) → (rest : List ℕ → Saved → Running → Ended)
    → and_then line text saves m rest ≡ and_then line text saves (out, x) rest
limited_line line text saves m out x told rest =
    sym (limited_and_then line text saves m rest) ∙ ap (λ (m : Result Output Fault × Running). and_then line text saves m rest) told

-- where such a statement gave an output, its cell goes on as what the output adds
pub limited_output : (line : ℕ) (text new : List ℕ) (saves kept : Saved) (m : Result Output Fault × Running) (out : Output) (x : Running) {E : Type 0} (added : Result (Option Refusal) E)
    → limit_text m ≡ (Ok out, x)
    → IfOk added (λ o. (y : Running) → (rest : List ℕ → Saved → Running → Ended) → and_then line text saves (Ok out, y) rest ≡ after_line o new kept y rest)
    → IfOk added (λ o. (rest : List ℕ → Saved → Running → Ended) → and_then line text saves m rest ≡ after_line o new kept x rest)
limited_output line text new saves kept m out x (Ok o) told adds = λ rest. limited_line line text saves m (Ok out) x told rest ∙ adds x rest
limited_output line text new saves kept m out x (Err e) told adds = tt

-- ---- ends in reach

-- a text that does not parse ends at once
pub unread_ends : (i : Inputs) (p : Parsed) (f : fault.ParseFault) (x : Running) (c : CellResult) → p ≡ Err f → string_bytes c.text ≡ [] → option_map refusal_of c.refusal ≡ Some (f.line, fault.Parse f.kind f.column)
    → saves_of c.saves.entries ≡ [] → EndsInReach (ran i p x) (ended_of c x)
unread_ends i p f x c is text refusal saves =
    subst (λ (p : Parsed). EndsInReach (ran i p x) (ended_of c x)) (sym is) (record { text = text; refusal = refusal; saves = saves; running = reach_itself x })

-- the lines of a text are run
pub lines_end : {E : Type 0} (i : Inputs) (p : Parsed) (ls : List model.Line) (x y : Running) (r : Result CellResult E) → p ≡ Ok ls
    → IfOk r (λ c. EndsInReach (statements i ls [] [] x) (ended_of c y)) → IfOk r (λ c. EndsInReach (ran i p x) (ended_of c y))
lines_end i p ls x y (Ok c) is ends = subst (λ (p : Parsed). EndsInReach (ran i p x) (ended_of c y)) (sym is) ends
lines_end i p ls x y (Err e) is ends = tt
