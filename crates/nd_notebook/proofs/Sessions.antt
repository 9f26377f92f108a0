-- Sessions once blocks that no bound value lies in are given up.
use Rattle.std.proofs.Common.{◌≡◌, ℕ, sym, ap, ◌∙◌}
use mathlib.Core.Path.{fun_ext}
use Rattle.nd_model.specs.Cells.Session.{Session, collected}
use Rattle.nd_model.specs.Cells.Running.{World}
use Rattle.nd_model.specs.Grammar.Syntax.{Parsed}
use Rattle.nd_model.specs.Cells.Cell.{cell, session_after}
use Rattle.nd_model.specs.Cells.Footprint.{HasNone}
use Rattle.nd_model.specs.Book.Records.{Record, record_of}
use Rattle.nd_model.proofs.Collected.{cell-collected, held_twice, record_of-collected}

pub none_uncollected : (label : ℕ) (s : Session) → HasNone label (collected s) → HasNone label s
none_uncollected label s h = record { none = h.none }

pub collected_twice : (s : Session) → collected (collected s) ≡ collected s
collected_twice s = λ d. record { names = s.names; bytes = fun_ext (held_twice s) d }

-- a run over a session, and over what is left of it
pub made_over : (label : ℕ) (p : Parsed) (i : World) (s : Session) (r : Record) → r ≡ record_of label p i s → r ≡ record_of label p i (collected s)
made_over label p i s r is = is ∙ sym (record_of-collected label p i s)

pub after_over : (label : ℕ) (p : Parsed) (i : World) (s t : Session) → t ≡ session_after (cell label p i s) → t ≡ session_after (cell label p i (collected s))
after_over label p i s t is = is ∙ sym (ap session_after (cell-collected label p i s))
