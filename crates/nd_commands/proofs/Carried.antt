-- Commands that are carried out.
use Rattle.std.proofs.Common.{◌≡◌, ℕ, true, false, List, [], ◌∷◌, refl, sym, ap, inl, inr}
use Rattle.std.specs.Prelude.{IsUtf8, Option, Some, None, is_some, Ok, codes}
use Rattle.std.specs.Str.{is_utf8}
use Rattle.std.proofs.lemmas.Bool.{false_from_ne_true}
use Rattle.std.proofs.lemmas.Str.{IsUtf8-from_is_utf8, is_utf8-from_IsUtf8}
use Rattle.nd_model.specs.Book.Notebook.{Sheet, book_of}
use Rattle.nd_model.specs.Book.Script.{Command, Edits, Query, Asks, ShowsValue, Bad, Opening, Line, Whole, Opens, Stage, Between, Within, step, read_line, is_dot, closed, source_of, with_source, query_answer, with_text, value_answer, refused_line, succeeds}
use Rattle.nd_model.specs.Book.Book.{Book, value_at}
use Rattle.nd_model.specs.Book.Renaming.{Shown}
use Rattle.nd_script.specs.Lines.Counts.{Tally, plain}
use Rattle.nd_script.specs.Lines.Answers.{AnswerState, Pushes}
use Rattle.nd_script.specs.Lines.Run.{Answered, Ended}
use Rattle.nd_script.proofs.lines.Answers.{pushes_none}
use Rattle.nd_script.proofs.lines.Progress.{one_answer}
use Rattle.nd_commands.specs.Carry.{Carried, CarriedLine}
use Rattle.nd_commands.specs.Noted.{Noted, CarriedNoted, noted, noted_of}
use Rattle.nd_commands.specs.Source.{stage_of}
use Rattle.nd_commands.specs.declared.source.OpenText.{OpenText}
use Rattle.nd_commands.specs.Value.{PushesValue}

pub closed_text : (o : Opening) (ls : List (List ℕ)) (text : List ℕ) → text ≡ source_of ls → IsUtf8 (source_of ls) → closed o ls ≡ Edits (with_source o text)
closed_text o ls text same utf8 = let yes : is_utf8 (source_of ls) ≡ true = is_utf8-from_IsUtf8 (source_of ls) utf8 in rw (yes, ← same) refl

pub closed_bytes : (o : Opening) (ls : List (List ℕ)) → (IsUtf8 (source_of ls) → ⊥) → closed o ls ≡ Bad
closed_bytes o ls other =
    let fails : is_utf8 (source_of ls) ≡ false = false_from_ne_true (is_utf8 (source_of ls)) (λ yes. other (IsUtf8-from_is_utf8 (source_of ls) yes)) in
    rw fails refl

-- ---- the end of a source

-- a line that completes one command
answered_one : (s t : Stage) (c : Command) (line : List ℕ) (old new : Noted) (was now : AnswerState) → (step s line).0 ≡ c ∷ [] → t ≡ (step s line).1
    → CarriedNoted c old was now new → Answered noted s line t old was now new
answered_one s t c line old new was now one stage given =
    (given.0, (stage, rw one (one_answer noted c old new given.0 given.1)), given.2)

pub closed_done : (o : Opening) (before : List (List ℕ)) (line : List ℕ) (old new : Noted) (was now : AnswerState) → is_dot line ≡ true → CarriedNoted (closed o before) old was now new
    → Answered noted (Within o before) line Between old was now new
closed_done o before line old new was now dot given =
    answered_one (Within o before) Between (closed o before) line old new was now (rw dot refl) (rw dot refl) given

-- ---- a line outside a source

pub done_whole : (l : Line) (line : List ℕ) (old new : Noted) (was now : AnswerState) → read_line line ≡ l → (opens : (o : Opening) → l ≡ Opens o → ⊥) → CarriedLine l old was now new
    → Answered noted Between line Between old was now new
done_whole (Whole c) line old new was now is opens given =
    answered_one Between Between c line old new was now (rw is refl) (rw is refl) given
done_whole (Opens o) line old new was now is opens given = absurd (opens o refl)

-- a question counts nothing and notes nothing
pub asked : (q : Query) (s : Sheet) (count : ℕ) (ran : List ℕ) (was now : AnswerState) → Carried (Asks q) (book_of s) was now (book_of s)
    → CarriedNoted (Asks q) (noted_of s count ran) was now (noted_of s count ran)
asked q s count ran was now given = (given.0, ((given.1, refl), refl), given.2)

-- a line that completes no command is answered by nothing
pub answered_none : (s t : Stage) (line : List ℕ) (old : Noted) (was : AnswerState) → (step s line).0 ≡ [] → t ≡ (step s line).1 → Answered noted s line t old was was old
answered_none s t line old was none stage = ([], (stage, rw none (refl, refl)), pushes_none was)

-- ---- the end of a script

-- a source without its end is a bad command
pub ended_by : (source : Option OpenText) (held : Tally) (was now : AnswerState) → is_some source ≡ true → Pushes was (codes "bad command\n") now → Ended plain (stage_of source) held was now
ended_by None held was now some pushed = cc
ended_by (Some s) held was now some pushed = (codes "bad command\n", one_answer plain Bad held held (codes "bad command\n") (inl (refl, refl), refl), pushed)

-- ---- values

pub told_value : (b : Book) (at : ℕ) (name : List ℕ) (v : Shown) (was now : AnswerState) → value_at b at name ≡ Ok v → PushesValue v was now → Carried (Asks (ShowsValue at name)) b was now b
told_value b at name v was now is (inl p) = (value_answer v, inl (sym (ap (λ r. query_answer (with_text value_answer r)) is), refl), p)
told_value b at name v was now is (inr p) = (refused_line (codes "OutOfMemory"), inr (ap (λ r. succeeds (with_text value_answer r)) is, refl, refl), p)
