-- What cells are run by, after an edit of the rule.
use Rattle.std.proofs.Common.{◌≡◌, ℕ, List, ap, subst, ◌∙◌}
use Rattle.nd_model.specs.Cells.Running.{Rule, Source}
use Rattle.nd_model.specs.Book.Book.{SetRule}
use Rattle.nd_model.specs.Book.Notebook.{Setting, Sheet, book_of, edited_sheet}
use Rattle.nd_model.specs.Book.Stale.{CountsStale}
use Rattle.nd_schedule.specs.Cells.Source.{sheet}
use Rattle.nd_schedule.specs.Schedule.Ran.{AreStale}

-- another rule, and the inputs that stand
pub rule_edited : (old now : Sheet) (g : Setting) (inputs : List (List ℕ × Source)) (rule : Rule) → old ≡ now → g ≡ old.given → inputs ≡ g.inputs
    → sheet old.cells (record { inputs = inputs; rule = rule }) ≡ edited_sheet (SetRule rule) now
rule_edited old now g inputs rule view same is =
    (λ d. record { cells = old.cells; given = record { inputs = (is ∙ ap (λ (s : Setting). s.inputs) same) d; rule = rule } })
    ∙ ap (edited_sheet (SetRule rule)) view

-- and what that counts
pub rule_counts : (old now : Sheet) (g : Setting) (inputs : List (List ℕ × Source)) (rule : Rule) (before after : ℕ) → old ≡ now → g ≡ old.given → inputs ≡ g.inputs
    → CountsStale (book_of old) (book_of (sheet old.cells (record { inputs = inputs; rule = rule }))) before after
    → CountsStale (book_of now) (book_of (edited_sheet (SetRule rule) now)) before after
rule_counts old now g inputs rule before after view same is counts =
    subst (λ (s : Sheet). CountsStale (book_of s) (book_of (edited_sheet (SetRule rule) now)) before after) view
    (subst (λ (s : Sheet). CountsStale (book_of old) (book_of s) before after) (rule_edited old now g inputs rule view same is) counts)

-- and which cells that runs
pub rule_ran : (old now : Sheet) (g : Setting) (inputs : List (List ℕ × Source)) (rule : Rule) (places : List ℕ) → old ≡ now → g ≡ old.given → inputs ≡ g.inputs
    → AreStale (book_of old) (book_of (sheet old.cells (record { inputs = inputs; rule = rule }))) places → AreStale (book_of now) (book_of (edited_sheet (SetRule rule) now)) places
rule_ran old now g inputs rule places view same is ran =
    subst (λ (s : Sheet). AreStale (book_of s) (book_of (edited_sheet (SetRule rule) now)) places) view
    (subst (λ (s : Sheet). AreStale (book_of old) (book_of s) places) (rule_edited old now g inputs rule view same is) ran)
