-- Edits that are made as one, and the lines that are behind them.
use Rattle.std.proofs.Common.{◌≡◌, ℕ, suc, true, false, List, [], ◌∷◌, ◌++◌, Option, Some, None, Result, append_assoc, refl, sym, ap, subst, ◌∙◌, inl, inr}
use Rattle.std.specs.Prelude.{IfOk, codes, decimal}
use Rattle.std.proofs.lemmas.Result.{IfOk-weaker}
use Rattle.nd_model.specs.Book.Book.{Book, Edit, EditFault, edited, edits, refusal, unless_refused}
use Rattle.nd_model.specs.Book.Notebook.{Sheet, book_of, edited_sheet}
use Rattle.nd_model.specs.Book.Script as script
use Rattle.nd_model.specs.Book.Script.{is_dot, read_line}
use Rattle.nd_model.specs.Book.Stale.{CountsStale}
use Rattle.nd_model.specs.Text.FaultText.{edit_fault_text}
use Rattle.nd_model.proofs.EditBooks.{edits_book}
use Rattle.nd_schedule.specs.Schedule.Ran.{AreStale}
use Rattle.nd_script.specs.Lines.Answers.{AnswerState, Pushes}
use Rattle.nd_script.specs.Lines.Language.{AnswersIn}
use Rattle.nd_script.specs.Lines.Run.{Answered}
use Rattle.nd_script.proofs.lines.Answers.{pushes_none}
use Rattle.nd_script.proofs.lines.Progress.{one_answer}
use Rattle.nd_notebook.specs.Together.{RefusedEdit, edited_all, first_refused, refused_or}
use Rattle.nd_commands.specs.Noted.{Noted, noted_of}
use Rattle.nd_desk.specs.Answers.{desk, MakesTogether, TogetherGives, out_of_memory, refused_answer}
use Rattle.nd_desk.specs.Carry.{CarriedOut}
use Rattle.nd_desk.specs.Gather.{Gathers}
use Rattle.nd_desk.specs.Source.{stage_of}
use Rattle.nd_desk.specs.Words.{Command, Plain, Together, Stage, Plainly, Gathering, GatheringText, step, is_end, gathered, gathered_line}
use Rattle.nd_desk.specs.declared.line.DeskSource.{DeskSource}

-- ---- edits of which none is refused

never : {X : Type 0} (x : X) → Some x ≡ None → ⊥
never x is = cc

-- the first of these is not refused, and then none behind it
first_stands : (o : Option EditFault) (number : ℕ) (behind : Option RefusedEdit) → refused_or o number behind ≡ None → (o ≡ None) × (behind ≡ None)
first_stands None number behind none = (refl, none)
first_stands (Some f) number behind none = absurd (never (record { number = number; fault = f }) none)

pub edited_books : (es : List Edit) (number : ℕ) (s : Sheet) → first_refused number es (book_of s) ≡ None → book_of (edited_all es s) ≡ edits es (book_of s)
edited_books [] number s none = refl
edited_books (e ∷ es) number s none =
    let stands = first_stands (refusal e (book_of s)) number (first_refused (suc number) es (edited e (book_of s))) none in
    let behind : first_refused (suc number) es (book_of (edited_sheet e s)) ≡ None = ap (first_refused (suc number) es) (edits_book e s) ∙ stands.1 in
    edited_books es (suc number) (edited_sheet e s) behind ∙ ap (edits es) (edits_book e s ∙ sym (ap (λ o. unless_refused o (edited e (book_of s)) (book_of s)) stands.0))

-- ---- the end of edits

no_refused : (o : Option RefusedEdit) (es : List Edit) (old : Noted) (text : List ℕ) (new : Noted) → o ≡ None → MakesTogether es old text new → TogetherGives o es old text new
no_refused o es old text new none given = subst (λ (o : Option RefusedEdit). TogetherGives o es old text new) (sym none) given

counts_edits : (es : List Edit) (old : Sheet) (before after : ℕ) → first_refused 0 es (book_of old) ≡ None
    → CountsStale (book_of old) (book_of (edited_all es old)) before after → CountsStale (book_of old) (edits es (book_of old)) before after
counts_edits es old before after none counts = subst (λ (b : Book). CountsStale (book_of old) b before after) (edited_books es 0 old none) counts

-- all are made
pub made_together : (es : List Edit) (old new : Sheet) (before after : ℕ) (held ran : List ℕ) (was now : AnswerState) → first_refused 0 es (book_of old) ≡ None
    → new ≡ edited_all es old → CountsStale (book_of old) (book_of (edited_all es old)) before after → AreStale (book_of old) (book_of (edited_all es old)) ran
    → Pushes was (codes "ok\n") now → CarriedOut (Together es) (noted_of old before held) was now (noted_of new after ran)
made_together es old new before after held ran was now none is counts stale pushed =
    let made : book_of new ≡ edits es (book_of old) = ap book_of is ∙ edited_books es 0 old none in
    let ran_stale : AreStale (book_of old) (book_of new) ran = subst (λ (s : Sheet). AreStale (book_of old) (book_of s) ran) (sym is) stale in (
      codes "ok\n",
      no_refused (first_refused 0 es (book_of old)) es (noted_of old before held) (codes "ok\n") (noted_of new after ran) none
          (counts_edits es old before after none counts, inl (refl, made, ran_stale)),
      pushed,
    )

-- memory is wanted, and none is made
pub unmade_together : (es : List Edit) (old new : Sheet) (before after : ℕ) (held : List ℕ) (was now : AnswerState) → first_refused 0 es (book_of old) ≡ None
    → new ≡ old → CountsStale (book_of old) (book_of (edited_all es old)) before after
    → Pushes was out_of_memory now → CarriedOut (Together es) (noted_of old before held) was now (noted_of new after held)
unmade_together es old new before after held was now none is counts pushed = (
  out_of_memory,
  no_refused (first_refused 0 es (book_of old)) es (noted_of old before held) out_of_memory (noted_of new after held) none
      (counts_edits es old before after none counts, inr (refl, ap book_of is, refl)),
  pushed,
)

-- one of them is refused, and none is made
pub refused_together : (es : List Edit) (r : RefusedEdit) (old : Sheet) (count : ℕ) (held : List ℕ) (was now : AnswerState) → first_refused 0 es (book_of old) ≡ Some r
    → Pushes was (refused_answer r) now → CarriedOut (Together es) (noted_of old count held) was now (noted_of old count held)
refused_together es r old count held was now is pushed =
    let same = noted_of old count held in
    (refused_answer r, subst (λ (o : Option RefusedEdit). TogetherGives o es same (refused_answer r) same) (sym is) (refl, refl), pushed)

-- the words of a refusal, one behind the other
pub refused_words : (r : RefusedEdit) → (((codes "refused " ++ decimal r.number) ++ codes " ") ++ edit_fault_text r.fault) ++ codes "\n" ≡ refused_answer r
refused_words r =
    let number = decimal r.number in
    let fault = edit_fault_text r.fault in
    let joined : ((codes "refused " ++ number) ++ codes " ") ++ fault ≡ codes "refused " ++ ((number ++ codes " ") ++ fault) =
    ap (λ (l : List ℕ). l ++ fault) (append_assoc (codes "refused ") number (codes " ")) ∙ append_assoc (codes "refused ") (number ++ codes " ") fault in
    ap (λ (l : List ℕ). l ++ codes "\n") joined

pub ended_together : (es : List Edit) (line : List ℕ) (old new : Noted) (was now : AnswerState) → is_end line ≡ true → CarriedOut (Together es) old was now new
    → Answered desk (Gathering es) line (Plainly script.Between) old was now new
ended_together es line old new was now end given =
    let is : step (Gathering es) line ≡ (Together es ∷ [], Plainly script.Between) = rw end refl in
    let P : List Command × Stage → Type 0 = λ p. (answer : List ℕ) × ((Plainly script.Between ≡ p.1) × AnswersIn desk p.0 old answer new) × Pushes was answer now in
    subst P (sym is) (given.0, (refl, one_answer desk (Together es) old new given.0 given.1), given.2)

-- ---- lines behind edits

-- a line without an answer
pub gathers_quietly : (t : Stage) (was : AnswerState) → Gathers ([], t) was t was
gathers_quietly t was held = ([], (refl, (refl, refl)), pushes_none was)

-- a line that has no place there
pub gathers_badly : (t : Stage) (was now : AnswerState) → Pushes was (codes "bad command\n") now → Gathers (Plain script.Bad ∷ [], t) was t now
gathers_badly t was now pushed held = (codes "bad command\n", (refl, one_answer desk (Plain script.Bad) held held (codes "bad command\n") ((inl (refl, refl), refl), refl)), pushed)

-- a line that led to a stage, without an answer
pub gathers_to : (s t : Stage) (was : AnswerState) → s ≡ t → Gathers ([], t) was s was
gathers_to s t was is = subst (λ (s : Stage). Gathers ([], t) was s was) (sym is) (gathers_quietly t was)

-- a line for which memory may be wanted
pub gathers_by : {E : Type 0} (r : Result DeskSource E) (t : Stage) (was : AnswerState) → IfOk r (λ x. stage_of (Some x) ≡ t) → IfOk r (λ x. Gathers ([], t) was (stage_of (Some x)) was)
gathers_by r t was given = IfOk-weaker r (λ x. stage_of (Some x) ≡ t) (λ x. Gathers ([], t) was (stage_of (Some x)) was) (λ x is. gathers_to (stage_of (Some x)) t was is) given

stepped : (s t : Stage) (line : List ℕ) (p : List Command × Stage) (was now : AnswerState) → step s line ≡ p → Gathers p was t now → (held : Noted) → Answered desk s line t held was now held
stepped s t line p was now is given held =
    let P : List Command × Stage → Type 0 = λ p. (answer : List ℕ) × ((t ≡ p.1) × AnswersIn desk p.0 held answer held) × Pushes was answer now in
    subst P (sym is) (given held)

pub gathered_so : (es : List Edit) (line : List ℕ) (l : script.Line) (t : Stage) (held : Noted) (was now : AnswerState) → is_end line ≡ false → l ≡ read_line line
    → Gathers (gathered_line es l) was t now → Answered desk (Gathering es) line t held was now held
gathered_so es line l t held was now end is given =
    let read : step (Gathering es) line ≡ gathered_line es l = rw (end, is) refl in
    stepped (Gathering es) t line (gathered_line es l) was now read given held

-- ---- texts of edits

pub closed_so : (es : List Edit) (o : script.Opening) (before : List (List ℕ)) (line : List ℕ) (t : Stage) (was now : AnswerState) → is_dot line ≡ true
    → Gathers (gathered es (script.closed o before)) was t now → (held : Noted) → Answered desk (GatheringText es o before) line t held was now held
closed_so es o before line t was now dot given held =
    let read : step (GatheringText es o before) line ≡ gathered es (script.closed o before) = rw dot refl in
    stepped (GatheringText es o before) t line (gathered es (script.closed o before)) was now read given held

pub text_goes_on : (es : List Edit) (o p : script.Opening) (before after : List (List ℕ)) (line : List ℕ) (was : AnswerState) → is_dot line ≡ false → p ≡ o → after ≡ before ++ line ∷ []
    → (held : Noted) → Answered desk (GatheringText es o before) line (GatheringText es p after) held was was held
text_goes_on es o p before after line was dot same more held =
    let read : step (GatheringText es o before) line ≡ ([], GatheringText es p after) = rw (dot, same, more) refl in
    stepped (GatheringText es o before) (GatheringText es p after) line ([], GatheringText es p after) was was read (gathers_quietly (GatheringText es p after) was) held
