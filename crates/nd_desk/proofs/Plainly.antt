-- Lines of every script among those of a desk, and steps of its language.
use Rattle.std.proofs.Common.{◌≡◌, ℕ, true, false, List, [], ◌∷◌, ◌++◌, Option, Some, None, map, refl, sym, ap, subst, ◌∙◌, inl}
use Rattle.std.specs.Prelude.{codes}
use Rattle.nd_model.specs.Book.Script as script
use Rattle.nd_model.specs.Book.Script.{Between, Within, is_dot}
use Rattle.nd_script.specs.Lines.Answers.{AnswerState, Pushes}
use Rattle.nd_script.specs.Lines.Language.{AnswersIn}
use Rattle.nd_script.specs.Lines.Run.{Answered, Ended}
use Rattle.nd_script.proofs.lines.Answers.{pushes_none}
use Rattle.nd_script.proofs.lines.Progress.{one_answer}
use Rattle.nd_model.specs.Book.Book.{Edit}
use Rattle.nd_desk.specs.Words.{Command, Plain, Line, Whole, Opens, Begins, Stage, Plainly, Trying, Gathering, GatheringText, step, step_of_word, plainly, read_word, closed_try, left_open}
use Rattle.nd_desk.specs.Answers.{desk}
use Rattle.nd_desk.specs.Carry.{CarriedOut}
use Rattle.nd_desk.specs.Source.{plain_source, stage_of}
use Rattle.nd_desk.specs.declared.line.DeskSource.{DeskSource}
use Rattle.nd_commands.specs.Noted.{Noted, noted}
use Rattle.nd_commands.specs.declared.source.OpenText.{OpenText}
use Rattle.nd_commands.specs.Source as texts

-- ---- commands of every script

plainly_answers : (cs : List script.Command) (old new : Noted) (text : List ℕ) → AnswersIn noted cs old text new → AnswersIn desk (map Plain cs) old text new
plainly_answers [] old new text given = given
plainly_answers (c ∷ cs) old new text given = (given.0, given.1, given.2, given.3, given.4, plainly_answers cs given.2 new given.1 given.5)

answered_plainly : (s t : script.Stage) (line : List ℕ) (old new : Noted) (was now : AnswerState) → step (Plainly s) line ≡ plainly (script.step s line)
    → Answered noted s line t old was now new → Answered desk (Plainly s) line (Plainly t) old was now new
answered_plainly s t line old new was now same given =
    let stage : Plainly t ≡ (step (Plainly s) line).1 = ap Plainly given.1.0 ∙ sym (ap (λ (p : List Command × Stage). p.1) same) in
    let commands : map Plain (script.step s line).0 ≡ (step (Plainly s) line).0 = sym (ap (λ (p : List Command × Stage). p.0) same) in
    (given.0, (stage, subst (λ cs. AnswersIn desk cs old given.0 new) commands (plainly_answers (script.step s line).0 old new given.0 given.1.1)), given.2)

-- a line that is no word for front ends
pub no_word : (t : script.Stage) (line : List ℕ) (old new : Noted) (was now : AnswerState) → read_word line ≡ None
    → Answered noted Between line t old was now new → Answered desk (Plainly Between) line (Plainly t) old was now new
no_word t line old new was now none given = answered_plainly Between t line old new was now (ap (step_of_word line) none) given

-- a line of the text of an edit
pub within : (o : script.Opening) (before : List (List ℕ)) (t : script.Stage) (line : List ℕ) (old new : Noted) (was now : AnswerState)
    → Answered noted (Within o before) line t old was now new → Answered desk (Plainly (Within o before)) line (Plainly t) old was now new
within o before t line old new was now given = answered_plainly (Within o before) t line old new was now refl given

-- ---- words

word_step : (line : List ℕ) (l : Line) → read_word line ≡ Some l → step (Plainly Between) line ≡ step_of_word line (Some l)
word_step line l is = ap (step_of_word line) is

answered_one : (s t : Stage) (c : Command) (line : List ℕ) (old new : Noted) (was now : AnswerState) → step s line ≡ (c ∷ [], t) → CarriedOut c old was now new
    → Answered desk s line t old was now new
answered_one s t c line old new was now is given =
    let stage : t ≡ (step s line).1 = sym (ap (λ (p : List Command × Stage). p.1) is) in
    let one : c ∷ [] ≡ (step s line).0 = sym (ap (λ (p : List Command × Stage). p.0) is) in
    (given.0, (stage, subst (λ cs. AnswersIn desk cs old given.0 new) one (one_answer desk c old new given.0 given.1)), given.2)

answered_none : (s t : Stage) (line : List ℕ) (old : Noted) (was : AnswerState) → step s line ≡ ([], t) → Answered desk s line t old was was old
answered_none s t line old was is =
    let stage : t ≡ (step s line).1 = sym (ap (λ (p : List Command × Stage). p.1) is) in
    let none : [] ≡ (step s line).0 = sym (ap (λ (p : List Command × Stage). p.0) is) in
    ([], (stage, subst (λ cs. AnswersIn desk cs old [] old) none (refl, refl)), pushes_none was)

pub word_done : (c : Command) (line : List ℕ) (old new : Noted) (was now : AnswerState) → read_word line ≡ Some (Whole c) → CarriedOut c old was now new
    → Answered desk (Plainly Between) line (Plainly Between) old was now new
word_done c line old new was now is given = answered_one (Plainly Between) (Plainly Between) c line old new was now (word_step line (Whole c) is) given

pub try_opened : (at : ℕ) (before : List (List ℕ)) (line : List ℕ) (old : Noted) (was : AnswerState) → read_word line ≡ Some (Opens at) → before ≡ []
    → Answered desk (Plainly Between) line (Trying at before) old was was old
try_opened at before line old was is none = answered_none (Plainly Between) (Trying at before) line old was (word_step line (Opens at) is ∙ ap (λ ls. ([], Trying at ls)) (sym none))

pub begun : (line : List ℕ) (old : Noted) (was : AnswerState) → read_word line ≡ Some Begins → Answered desk (Plainly Between) line (Gathering []) old was was old
begun line old was is = answered_none (Plainly Between) (Gathering []) line old was (word_step line Begins is)

-- ---- texts that are tried

pub try_closed : (at : ℕ) (before : List (List ℕ)) (line : List ℕ) (old new : Noted) (was now : AnswerState) → is_dot line ≡ true → CarriedOut (closed_try at before) old was now new
    → Answered desk (Trying at before) line (Plainly Between) old was now new
try_closed at before line old new was now dot given = answered_one (Trying at before) (Plainly Between) (closed_try at before) line old new was now (rw dot refl) given

pub try_goes_on : (at : ℕ) (before after : List (List ℕ)) (line : List ℕ) (old : Noted) (was : AnswerState) → is_dot line ≡ false → after ≡ before ++ line ∷ []
    → Answered desk (Trying at before) line (Trying at after) old was was old
try_goes_on at before after line old was dot more = answered_none (Trying at before) (Trying at after) line old was (rw (dot, more) refl)

-- ---- the end of a script

bad_answer : (held : Noted) → AnswersIn desk (Plain script.Bad ∷ []) held (codes "bad command\n") held
bad_answer held = one_answer desk (Plain script.Bad) held held (codes "bad command\n") ((inl (refl, refl), refl), refl)

open_ends : (s : Stage) (held : Noted) (was now : AnswerState) → left_open s ≡ Plain script.Bad ∷ [] → Pushes was (codes "bad command\n") now → Ended desk s held was now
open_ends s held was now bad pushed = (codes "bad command\n", subst (λ cs. AnswersIn desk cs held (codes "bad command\n") held) (sym bad) (bad_answer held), pushed)

pub within_ends : (o : script.Opening) (before : List (List ℕ)) (held : Noted) (was now : AnswerState) → Pushes was (codes "bad command\n") now → Ended desk (Plainly (Within o before)) held was now
within_ends o before held was now pushed = open_ends (Plainly (Within o before)) held was now refl pushed

pub try_ends : (at : ℕ) (before : List (List ℕ)) (held : Noted) (was now : AnswerState) → Pushes was (codes "bad command\n") now → Ended desk (Trying at before) held was now
try_ends at before held was now pushed = open_ends (Trying at before) held was now refl pushed

pub edits_end : (es : List Edit) (held : Noted) (was now : AnswerState) → Pushes was (codes "bad command\n") now → Ended desk (Gathering es) held was now
edits_end es held was now pushed = open_ends (Gathering es) held was now refl pushed

pub edit_text_ends : (es : List Edit) (o : script.Opening) (before : List (List ℕ)) (held : Noted) (was now : AnswerState) → Pushes was (codes "bad command\n") now
    → Ended desk (GatheringText es o before) held was now
edit_text_ends es o before held was now pushed = open_ends (GatheringText es o before) held was now refl pushed

-- ---- texts of edits

pub plain_stage : (o : Option OpenText) → stage_of (plain_source o) ≡ Plainly (texts.stage_of o)
plain_stage None = refl
plain_stage (Some t) = refl

-- what a plain line led to, as a desk has it
pub plainly_led : (line : List ℕ) (source : Option DeskSource) (o : Option OpenText) (s : Stage) (old new : Noted) (was now : AnswerState) → source ≡ plain_source o
    → Answered desk s line (Plainly (texts.stage_of o)) old was now new → Answered desk s line (stage_of source) old was now new
plainly_led line source o s old new was now is given = subst (λ t. Answered desk s line t old was now new) (sym (ap stage_of is ∙ plain_stage o)) given
