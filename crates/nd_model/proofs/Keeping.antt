-- A record that still holds may stand for a run.
use Rattle.std.proofs.Common.{◌≡◌, ℕ, cond, Some, None, refl, sym, ap, ◌∙◌, inl, inr}
use mathlib.Core.Path.{fun_ext}
use Rattle.std.proofs.lemmas.Bool.{cases_Bool}
use Rattle.nd_model.specs.Cells.Session.{Session}
use Rattle.nd_model.specs.Cells.Running.{Key, World}
use Rattle.nd_model.specs.Grammar.Syntax.{Parsed}
use Rattle.nd_model.specs.Cells.Cell.{cell}
use Rattle.nd_model.specs.Cells.Footprint.{Found, found, Agree, reads_of, effects_of}
use Rattle.nd_model.specs.Book.Records.{record_of, StillHolds, Kept}
use Rattle.nd_model.proofs.Frames.{frame}
use Rattle.nd_model.proofs.Tracks.{replay}

same_some : (x y : Found) → Some x ≡ Some y → x ≡ y
same_some x y e = cc

pub found_at : (label : ℕ) (p : Parsed) (s t : Session) (i j : World) → StillHolds (record_of label p i s) t j → Agree (reads_of (cell label p i s)) s i t j
found_at label p s t i j h k read = same_some _ _ (rw read at (h.same k read))

pub kept : Kept
kept label p s t i j none h =
    let agree : Agree (reads_of (cell label p i s)) s i t j = found_at label p s t i j h in
    let both : (reads_of (cell label p i s) ≡ reads_of (cell label p j t)) × (effects_of (cell label p i s) ≡ effects_of (cell label p j t)) = frame label p s t i j none h.none agree in
    let values : (k : Key) → cond (reads_of (cell label p j t) k) (Some (found t j k)) None ≡ cond (reads_of (cell label p i s) k) (Some (found s i k)) None =
    λ k. ap (λ f. cond (f k) (Some (found t j k)) None) (sym both.0) ∙ elim (cases_Bool (reads_of (cell label p i s) k)) [
      | inl read ↦ rw read (ap Some (sym (agree k read)))
      | inr other ↦ rw other refl
    ] in
    (λ d. record { label = label; read = sym both.0 d; values = fun_ext values d; effects = sym both.1 d }, replay label p s t i j none h.none agree)
