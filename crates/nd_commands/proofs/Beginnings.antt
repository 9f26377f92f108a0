-- Runs of scripts on a notebook without cells.
use Rattle.std.proofs.Common.{◌≡◌, ℕ, List, Option, Result, Ok, Err, subst}
use Rattle.std.specs.Result.{IfOk, IfErr}
use Rattle.nd_model.specs.Book.Book.{Book}
use Rattle.nd_model.specs.Book.Notebook.{Sheet, book_of, no_sheet}
use Rattle.nd_model.specs.Book.ScriptRuns.{RunFault, RanToEnd, StoppedAt}
use Rattle.nd_script.specs.Lines.Counts.{CountedToEnd, CountedStop}
use Rattle.nd_commands.specs.Run.{tally_of, RanFromNothing, StoppedFromNothing, CountedFromNothing, CountedStopFromNothing}

-- what follows of a value, or of an error
pub ok_then : {T E : Type 0} (r : Result T E) {P Q : Type 0} → (P → Q) → IfOk r (λ _. P) → IfOk r (λ _. Q)
ok_then (Ok x) f h = f h
ok_then (Err e) f h = tt

pub err_then : {T E : Type 0} (r : Result T E) {P Q : E → Type 0} → ((e : E) → P e → Q e) → IfErr r P → IfErr r Q
err_then (Ok x) f h = tt
err_then (Err e) f h = f e h

module _ (unread left was now : Option (List ℕ)) (s : Sheet) (new : Book) (none : s ≡ no_sheet) where
  pub ran : RanToEnd unread left (book_of s) was now new → RanFromNothing unread left was now
  ran h = (new, subst (λ s. RanToEnd unread left (book_of s) was now new) none h)

  pub stopped : (f : RunFault) → StoppedAt f unread left (book_of s) was now new → StoppedFromNothing f unread left was now
  stopped f h = (new, subst (λ s. StoppedAt f unread left (book_of s) was now new) none h)

  pub counted : (before after : ℕ) → CountedToEnd unread left (tally_of s before) was now (record { book = new; count = after }) → CountedFromNothing unread left was now before after
  counted before after h = (new, subst (λ s. CountedToEnd unread left (tally_of s before) was now (record { book = new; count = after })) none h)

  pub counted_stop : (f : RunFault) (before after : ℕ) → CountedStop f unread left (tally_of s before) was now (record { book = new; count = after }) → CountedStopFromNothing f unread left was now before after
  counted_stop f before after h = (new, subst (λ s. CountedStop f unread left (tally_of s before) was now (record { book = new; count = after })) none h)
