-- What was noted was counted, and what was counted was carried out and answered.
use Rattle.std.proofs.Common.{◌≡◌, ℕ, Bool, true, false, List, [], ◌∷◌, ◌++◌, Option, Result, ap, ◌∙◌, append_assoc}
use Rattle.std.specs.Prelude.{OnOk, IfErr}
use Rattle.std.proofs.lemmas.Result.{IfErr-weaker, on_ok_weaker}
use Rattle.nd_model.specs.Book.Script.{Command, Stage, Between, Answers, AreFirst, CutAnswers, completed}
use Rattle.nd_model.specs.Book.ScriptRuns as model
use Rattle.nd_model.specs.Book.ScriptRuns.{RanToEnd, RunsAt, StoppedAt}
use Rattle.nd_script.specs.declared.lines.run_fault.RunFault.{RunFault}
use Rattle.nd_script.specs.Lines.Counts.{Tally, plain, CountedToEnd, CountedStop}
use Rattle.nd_script.specs.Lines.Language.{AnswersIn, CutAnswersIn, RunsAtIn}
use Rattle.nd_script.specs.Lines.Answers.{AnswerState}
use Rattle.nd_script.specs.Lines.Run.{Answered, run_fault_of}
use Rattle.nd_script.proofs.lines.Progress.{cut_nowhere}
use Rattle.nd_commands.specs.Noted.{Noted, noted}

-- ---- one line

counted_answers : (cs : List Command) (old new : Noted) (text : List ℕ) → AnswersIn noted cs old text new → AnswersIn plain cs old.tally text new.tally
counted_answers [] old new text given = (given.0, ap (λ n. n.tally) given.1)
counted_answers (c ∷ cs) old new text given = (given.0, given.1, given.2.tally, given.3, given.4.0, counted_answers cs given.2 new given.1 given.5)

-- the places of the cells that ran are left out
pub counted_line : (s t : Stage) (line : List ℕ) (old new : Noted) (was now : AnswerState) → Answered noted s line t old was now new
    → Answered plain s line t old.tally was now new.tally
counted_line s t line old new was now given = (given.0, (given.1.0, counted_answers _ old new given.0 given.1.1), given.2)

-- ---- whole runs

plain_answers : (cs : List Command) (old new : Tally) (text : List ℕ) → AnswersIn plain cs old text new → Answers cs old.book text new.book
plain_answers [] old new text given = (given.0, ap (λ t. t.book) given.1)
plain_answers (c ∷ cs) old new text given = (given.0, given.1, given.2.book, given.3, given.4.0, plain_answers cs given.2 new given.1 given.5)

plain_cut : (cs : List Command) (old new : Tally) (text : List ℕ) → CutAnswersIn plain cs old text new → CutAnswers cs old.book text new.book
plain_cut [] old new text given = (given.0, ap (λ t. t.book) given.1)
plain_cut (c ∷ []) old new text given = (given.0, given.1, given.2.0)
plain_cut (c ∷ d ∷ cs) old new text given = (given.0, given.1, given.2.book, given.3, given.4.0, plain_cut (d ∷ cs) given.2 new given.1 given.5)

plain_to_end : (unread left : Option (List ℕ)) (old : Tally) (was now : Option (List ℕ)) (new : Tally) → CountedToEnd unread left old was now new → RanToEnd unread left old.book was now new.book
plain_to_end unread left old was now new r = record {
  script = r.script;
  written = r.written;
  given = r.given;
  ended = r.ended;
  appended = r.appended;
  answers = plain_answers _ old new r.written r.answers;
}

-- the first commands of a front are those of more bytes
first_of_more : (ended : Bool) (cs : List Command) (given front rest : List ℕ) → given ≡ front ++ rest → AreFirst cs false front → AreFirst cs ended given
first_of_more true cs given front rest place first = λ script same. first script (rest, same ∙ place)
first_of_more false cs given front rest place first = λ script more. first script (rest ++ more.0, more.1 ∙ ap (λ xs. xs ++ more.0) place ∙ append_assoc front rest more.0)

plain_at : (f : model.RunFault) (ended : Bool) (given : List ℕ) (old : Tally) (written : List ℕ) (new : Tally) → RunsAtIn plain Between f ended given old written new → RunsAt f ended given old.book written new.book
plain_at model.ReadFault ended given old written new a = (a.0, plain_answers _ old new written a.1)
plain_at model.WriteFault ended given old written new a = (a.0, a.1, plain_cut a.0 old new written a.2)
plain_at model.LineTooLong ended given old written new a = (a.0, a.1, (a.2.0, plain_answers _ old new written a.2.1))
plain_at model.OutOfMemory ended given old written new a =
    (completed a.0, first_of_more ended (completed a.0) given a.0 a.1 a.2 a.4.0, plain_cut (completed a.0) old new written (cut_nowhere plain (completed a.0) old new written a.4.1))

pub plain_stop : (f : model.RunFault) (unread left : Option (List ℕ)) (old : Tally) (was now : Option (List ℕ)) (new : Tally) → CountedStop f unread left old was now new → StoppedAt f unread left old.book was now new.book
plain_stop f unread left old was now new r = record {
  given = r.given;
  written = r.written;
  ended = r.ended;
  taken = r.taken;
  at_end = r.at_end;
  appended = r.appended;
  answers = plain_at f r.ended r.given old r.written new r.answers;
}

-- the same of what a run returns
pub plain_result : (r : Result (Unit {0}) RunFault) (unread left : Option (List ℕ)) (old : Tally) (was now : Option (List ℕ)) (new : Tally)
    → OnOk r (CountedToEnd unread left old was now new) → OnOk r (RanToEnd unread left old.book was now new.book)
plain_result r unread left old was now new given = on_ok_weaker r (plain_to_end unread left old was now new) given

pub plain_fault : (r : Result (Unit {0}) RunFault) (unread left : Option (List ℕ)) (old : Tally) (was now : Option (List ℕ)) (new : Tally)
    → IfErr r (λ f. CountedStop (run_fault_of f) unread left old was now new) → IfErr r (λ f. StoppedAt (run_fault_of f) unread left old.book was now new.book)
plain_fault r unread left old was now new given =
    IfErr-weaker r (λ f. CountedStop (run_fault_of f) unread left old was now new) (λ f. StoppedAt (run_fault_of f) unread left old.book was now new.book)
    (λ f q. plain_stop (run_fault_of f) unread left old was now new q) given
