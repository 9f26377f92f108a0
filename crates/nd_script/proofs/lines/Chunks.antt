-- The lines of a piece of a script, one after another.
use Rattle.std.proofs.Common.{◌≡◌, ℕ, ◌+◌, ◌-◌, ◌≤◌, List, [], ◌∷◌, ◌++◌, length, take, drop, Option, Some, None, refl, sym, ap, ◌∙◌, append_assoc, append-nil, arith}
use Rattle.std.specs.Prelude.{◌==◌, position, Result, Ok, Err, OnOk, IfErr}
use Rattle.std.proofs.lemmas.List.{take_rest}
use Rattle.nd_script.specs.Lines.Language.{Language}
use Rattle.nd_script.specs.declared.lines.run_fault.RunFault.{RunFault}
use Rattle.nd_script.specs.declared.lines.run_fault.RunFault.TheVariants.{ReadFault, WriteFault, LineTooLong, Memory}
use Rattle.nd_model.specs.Book.ScriptRuns.{most_line, IsInLine}
use Rattle.nd_script.specs.Lines.Run.{IsTooLong, FitsLine, LineRuns, Runs, Stops, StopsInLine}
use Rattle.nd_script.proofs.lines.Lines.{newline_at, no_newline, in_line_append}
use Rattle.nd_script.proofs.lines.Progress.{runs_none, runs_part, runs_line, stops_line, stops_long, stops_memory}

pub fits_none : (line : List ℕ) → line ≡ [] → FitsLine line
fits_none line none = rw none (record { in_line = λ k d h. absurd (omega arith); fits = omega arith })

pub in_line_extended : (rest begun part new : List ℕ) (i : ℕ) → position (λ c. c == 10) rest ≡ Some i → part ≡ take i rest → IsInLine begun → new ≡ begun ++ part → IsInLine new
in_line_extended rest begun part new i found same inside grown =
    let cut = newline_at rest i found in
    rw (grown, same) (in_line_append begun (take i rest) inside cut.1)

-- the bytes, cut at the newline
cut_at : (rest bytes all : List ℕ) (i : ℕ) → position (λ c. c == 10) rest ≡ Some i → all ≡ bytes ++ rest → all ≡ bytes ++ (take i rest ++ 10 ∷ drop (i + 1) rest)
cut_at rest bytes all i found whole = whole ∙ ap (λ xs. bytes ++ xs) (newline_at rest i found).2

pub last_fits : (r : Result (Unit {0}) RunFault) (begun grown rest : List ℕ) → position (λ c. c == 10) rest ≡ None → IsInLine begun → OnOk r (grown ≡ begun ++ rest) → OnOk r (length grown ≤ most_line) → OnOk r (FitsLine grown)
last_fits (Ok x) begun grown rest none inside longer fits = record { in_line = rw longer (in_line_append begun rest inside (no_newline rest none)); fits = fits }
last_fits (Err e) begun grown rest none inside longer fits = tt

module _ (L : Language) where
  -- a line could not be extended
  extend_stops : (f : RunFault) (s : L.Stage) (line bytes : List ℕ) (t : L.Stage) (begun part tail : List ℕ) (old new : L.State) (was now : Option (List ℕ)) → IsInLine (begun ++ part) → IsTooLong (begun ++ part) f
      → Runs L s line bytes t begun old was now new → Stops L f s line (bytes ++ (part ++ tail)) old was now new
  extend_stops ReadFault s line bytes t begun part tail old new was now inside long r = absurd long
  extend_stops WriteFault s line bytes t begun part tail old new was now inside long r = absurd long
  extend_stops LineTooLong s line bytes t begun part tail old new was now inside long r = stops_long L s line bytes t begun part tail old new was now inside long r
  extend_stops (Memory m) s line bytes t begun part tail old new was now inside long r = stops_memory L s line bytes t begun (part ++ tail) old new was now r

  pub stops_extend : (f : RunFault) (s : L.Stage) (line bytes : List ℕ) (t : L.Stage) (begun part rest all : List ℕ) (i : ℕ) (old new : L.State) (was now : Option (List ℕ)) → position (λ c. c == 10) rest ≡ Some i → part ≡ take i rest → IsInLine begun
      → all ≡ bytes ++ rest → Runs L s line bytes t begun old was now new → IsTooLong (begun ++ part) f → Stops L f s line all old was now new
  stops_extend f s line bytes t begun part rest all i old new was now found same inside whole r long =
      let within = in_line_extended rest begun part (begun ++ part) i found same inside refl in
      rw (cut_at rest bytes all i found whole, ← same) (extend_stops f s line bytes t begun part (10 ∷ drop (i + 1) rest) old new was now within long r)

  -- a run stopped in a line
  stops_in_line : (f : RunFault) (s : L.Stage) (line bytes : List ℕ) (t : L.Stage) (begun tail : List ℕ) (old mid new : L.State) (was now then_now : Option (List ℕ)) → IsInLine begun
      → Runs L s line bytes t begun old was now mid → StopsInLine L f t begun mid now then_now new → Stops L f s line (bytes ++ 10 ∷ tail) old was then_now new
  stops_in_line ReadFault s line bytes t begun tail old mid new was now then_now inside r l = absurd l
  stops_in_line WriteFault s line bytes t begun tail old mid new was now then_now inside r l = stops_line L s line bytes t begun tail old mid new was now then_now inside r l
  stops_in_line LineTooLong s line bytes t begun tail old mid new was now then_now inside r l = absurd l
  stops_in_line (Memory m) s line bytes t begun tail old mid new was now then_now inside r l = rw (l.0, l.1) (stops_memory L s line bytes t begun (10 ∷ tail) old mid was now r)

  pub stops_end : (f : RunFault) (s : L.Stage) (line bytes : List ℕ) (t : L.Stage) (begun part grown rest all : List ℕ) (i : ℕ) (old mid new : L.State) (was now then_now : Option (List ℕ)) → position (λ c. c == 10) rest ≡ Some i → part ≡ take i rest → IsInLine begun
      → all ≡ bytes ++ rest → Runs L s line bytes t begun old was now mid → grown ≡ begun ++ part → StopsInLine L f t grown mid now then_now new → Stops L f s line all old was then_now new
  stops_end f s line bytes t begun part grown rest all i old mid new was now then_now found same inside whole r longer l =
      let within = in_line_extended rest begun part (begun ++ part) i found same inside refl in
      let l2 = rw longer at l in
      let gone = runs_part L s line bytes t begun part old mid was now r in
      rw (cut_at rest bytes all i found whole, ← same, ← append_assoc bytes part (10 ∷ drop (i + 1) rest))
      (stops_in_line f s line (bytes ++ part) t (begun ++ part) (drop (i + 1) rest) old mid new was now then_now within gone l2)

  -- a line was answered
  pub line_more : (s : L.Stage) (line bytes : List ℕ) (t v : L.Stage) (begun part grown rest all next : List ℕ) (i : ℕ) (old mid new : L.State) (was now then_now : Option (List ℕ)) → position (λ c. c == 10) rest ≡ Some i → part ≡ take i rest → IsInLine begun
      → all ≡ bytes ++ rest → Runs L s line bytes t begun old was now mid → grown ≡ begun ++ part → LineRuns L t grown v mid now then_now new → next ≡ []
      → (taken : List ℕ) × (all ≡ taken ++ take (length rest - (i + 1)) (drop (i + 1) rest)) × Runs L s line taken v next old was then_now new
  line_more s line bytes t v begun part grown rest all next i old mid new was now then_now found same inside whole r longer l empty =
      let within = in_line_extended rest begun part (begun ++ part) i found same inside refl in
      let l2 = rw longer at l in
      let gone = runs_part L s line bytes t begun part old mid was now r in
      let joined : all ≡ ((bytes ++ part) ++ 10 ∷ []) ++ drop (i + 1) rest = cut_at rest bytes all i found whole ∙ rw (← same) (simp append_assoc) in
      ((bytes ++ part) ++ 10 ∷ [], rw (take_rest rest (i + 1)) joined, rw empty (runs_line L s line (bytes ++ part) t v (begun ++ part) old mid new was now then_now within gone l2))

  -- no newline is left
  pub last_runs : (r : Result (Unit {0}) RunFault) (s : L.Stage) (line bytes : List ℕ) (t : L.Stage) (begun grown rest all : List ℕ) (old new : L.State) (was now : Option (List ℕ)) → all ≡ bytes ++ rest → Runs L s line bytes t begun old was now new
      → OnOk r (grown ≡ begun ++ rest) → OnOk r (Runs L s line all t grown old was now new)
  last_runs (Ok x) s line bytes t begun grown rest all old new was now whole q longer = rw (whole, longer) (runs_part L s line bytes t begun rest old new was now q)
  last_runs (Err e) s line bytes t begun grown rest all old new was now whole q longer = tt

  pub last_stops : (r : Result (Unit {0}) RunFault) (s : L.Stage) (line bytes : List ℕ) (t : L.Stage) (begun rest all : List ℕ) (old new : L.State) (was now : Option (List ℕ)) → position (λ c. c == 10) rest ≡ None → IsInLine begun → all ≡ bytes ++ rest
      → Runs L s line bytes t begun old was now new → IfErr r (IsTooLong (begun ++ rest)) → IfErr r (λ f. Stops L f s line all old was now new)
  last_stops (Ok x) s line bytes t begun rest all old new was now none inside whole q long = tt
  last_stops (Err f) s line bytes t begun rest all old new was now none inside whole q long =
      let within = in_line_append begun rest inside (no_newline rest none) in
      let nothing : all ≡ bytes ++ (rest ++ []) = whole ∙ ap (λ xs. bytes ++ xs) (sym (append-nil rest)) in
      rw nothing (extend_stops f s line bytes t begun rest [] old new was now within long q)

  -- before the first byte
  pub runs_start : (s : L.Stage) (begun : List ℕ) (old : L.State) (was : Option (List ℕ)) → begun ≡ [] → Runs L s [] [] s begun old was was old
  runs_start s begun old was empty = rw empty (runs_none L s [] old was)
