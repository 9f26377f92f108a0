-- Runs of scripts on a notebook, and on one without cells.
use Rattle.std.specs.Prelude.{ℕ, List, Option}
use Rattle.nd_model.specs.Book.Book.{Book}
use Rattle.nd_model.specs.Book.ScriptRuns.{RunFault, RanToEnd, StoppedAt}
use Rattle.nd_model.specs.Book.Notebook.{Sheet, book_of, no_sheet}
use Rattle.nd_script.specs.Lines.Counts.{Tally, CountedToEnd, CountedStop}

-- a notebook, and what its meter shows
abbrev pub tally_of : Sheet → (count : ℕ) → Tally
tally_of s count = record { book = book_of s; count = count }

abbrev pub RanFromNothing : (unread left was now : Option (List ℕ)) → Type 0
RanFromNothing unread left was now = (new : Book) × RanToEnd unread left (book_of no_sheet) was now new

abbrev pub StoppedFromNothing : RunFault → (unread left was now : Option (List ℕ)) → Type 0
StoppedFromNothing f unread left was now = (new : Book) × StoppedAt f unread left (book_of no_sheet) was now new

-- counted on a meter, by what it shows before and after
abbrev pub CountedFromNothing : (unread left was now : Option (List ℕ)) → (before after : ℕ) → Type 0
CountedFromNothing unread left was now before after = (new : Book) × CountedToEnd unread left (tally_of no_sheet before) was now (record { book = new; count = after })

abbrev pub CountedStopFromNothing : RunFault → (unread left was now : Option (List ℕ)) → (before after : ℕ) → Type 0
CountedStopFromNothing f unread left was now before after = (new : Book) × CountedStop f unread left (tally_of no_sheet before) was now (record { book = new; count = after })
