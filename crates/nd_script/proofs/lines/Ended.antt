-- Whole lines, and the commands that they complete.
use Rattle.std.proofs.Common.{◌≡◌, ℕ, true, false, cond, List, [], ◌∷◌, ◌++◌, inl, inr, refl, sym, ap, ◌∙◌, append_assoc, append-nil}
use Rattle.std.specs.Prelude.{◌==◌}
use Rattle.std.specs.List.{slice_split, onto_first}
use Rattle.nd_model.specs.Book.Script.{lines_of, ended_lines, without_last, without_empty_end}
use Rattle.nd_model.specs.Book.ScriptRuns.{AreWholeLines, IsInLine}
use Rattle.nd_script.specs.Lines.Language.{Language, AreFirstIn, commands_in, completed_in, stage_behind}
use Rattle.nd_script.proofs.lines.Lines.{one_line, parts_are_some}

-- ---- lines

-- the lines of a text that is cut at a newline
split_at_newline : (t l : List ℕ) → slice_split (λ c. c == 10) (t ++ 10 ∷ l) ≡ slice_split (λ c. c == 10) t ++ slice_split (λ c. c == 10) l
split_at_newline [] l = refl
split_at_newline (x ∷ xs) l =
    let some = parts_are_some (λ c. c == 10) xs in
    let more = split_at_newline xs l in
    elim (x == 10) as (λ b. cond b ([] ∷ slice_split (λ c. c == 10) (xs ++ 10 ∷ l)) (onto_first x (slice_split (λ c. c == 10) (xs ++ 10 ∷ l)))
    ≡ cond b ([] ∷ slice_split (λ c. c == 10) xs) (onto_first x (slice_split (λ c. c == 10) xs)) ++ slice_split (λ c. c == 10) l) [
      | true ↦ ap (λ ls. [] ∷ ls) more
      | false ↦ rw (more, some.2) refl
    ]

without_last-append : (front : List (List ℕ)) (b : List ℕ) (more : List (List ℕ)) → without_last (front ++ b ∷ more) ≡ front ++ without_last (b ∷ more)
without_last-append [] b more = refl
without_last-append (a ∷ []) b more = refl
without_last-append (a ∷ c ∷ rest) b more = ap (λ ls. a ∷ ls) (without_last-append (c ∷ rest) b more)

without_empty_end-append : (front : List (List ℕ)) (b : List ℕ) (more : List (List ℕ)) → without_empty_end (front ++ b ∷ more) ≡ front ++ without_empty_end (b ∷ more)
without_empty_end-append [] b more = refl
without_empty_end-append (a ∷ []) b more = refl
without_empty_end-append (a ∷ c ∷ rest) b more = ap (λ ls. a ∷ ls) (without_empty_end-append (c ∷ rest) b more)

ended_behind : (before more : List ℕ) → ended_lines (before ++ 10 ∷ more) ≡ slice_split (λ c. c == 10) before ++ ended_lines more
ended_behind before more =
    let some = parts_are_some (λ c. c == 10) more in
    ap without_last (split_at_newline before more) ∙ rw some.2 (without_last-append (slice_split (λ c. c == 10) before) some.0 some.1)

lines_behind : (before more : List ℕ) → lines_of (before ++ 10 ∷ more) ≡ slice_split (λ c. c == 10) before ++ lines_of more
lines_behind before more =
    let some = parts_are_some (λ c. c == 10) more in
    ap without_empty_end (split_at_newline before more) ∙ rw some.2 (without_empty_end-append (slice_split (λ c. c == 10) before) some.0 some.1)

-- all lines of these bytes have ended
ended_whole : (before : List ℕ) → ended_lines (before ++ 10 ∷ []) ≡ slice_split (λ c. c == 10) before
ended_whole before = ended_behind before [] ∙ append-nil (slice_split (λ c. c == 10) before)

pub ended_lines-append : (front more : List ℕ) → AreWholeLines front → ended_lines (front ++ more) ≡ ended_lines front ++ ended_lines more
ended_lines-append front more (inl none) = rw none refl
ended_lines-append front more (inr some) =
    rw some.1 (ap ended_lines (append_assoc some.0 (10 ∷ []) more) ∙ ended_behind some.0 more ∙ ap (λ ls. ls ++ ended_lines more) (sym (ended_whole some.0)))

pub lines_of-append : (front more : List ℕ) → AreWholeLines front → lines_of (front ++ more) ≡ ended_lines front ++ lines_of more
lines_of-append front more (inl none) = rw none refl
lines_of-append front more (inr some) =
    rw some.1 (ap lines_of (append_assoc some.0 (10 ∷ []) more) ∙ lines_behind some.0 more ∙ ap (λ ls. ls ++ lines_of more) (sym (ended_whole some.0)))

-- a line that has not ended
pub ended_lines-open : (l : List ℕ) → IsInLine l → ended_lines l ≡ []
ended_lines-open l inside = ap without_last (one_line l inside)

-- a line that has
pub ended_lines-one : (l : List ℕ) → IsInLine l → ended_lines (l ++ 10 ∷ []) ≡ l ∷ []
ended_lines-one l inside = ended_whole l ∙ one_line l inside

pub whole-append : (xs ys : List ℕ) → AreWholeLines xs → AreWholeLines ys → AreWholeLines (xs ++ ys)
whole-append xs ys first (inl none) = let same : xs ++ ys ≡ xs = ap (λ q. xs ++ q) none ∙ append-nil xs in rw same first
whole-append xs ys first (inr some) = inr (xs ++ some.0, ap (λ q. xs ++ q) some.1 ∙ sym (append_assoc xs some.0 (10 ∷ [])))

module _ (L : Language) where
  -- ---- commands

  pub completed_in-append : (s : L.Stage) (ls ms : List (List ℕ)) → completed_in L s (ls ++ ms) ≡ completed_in L s ls ++ completed_in L (stage_behind L s ls) ms
  completed_in-append s [] ms = refl
  completed_in-append s (l ∷ ls) ms =
      let after = (L.step s l).1 in
      ap (λ cs. (L.step s l).0 ++ cs) (completed_in-append after ls ms) ∙ sym (append_assoc (L.step s l).0 (completed_in L after ls) (completed_in L (stage_behind L after ls) ms))

  pub commands_in-append : (s : L.Stage) (ls ms : List (List ℕ)) → commands_in L s (ls ++ ms) ≡ completed_in L s ls ++ commands_in L (stage_behind L s ls) ms
  commands_in-append s [] ms = refl
  commands_in-append s (l ∷ ls) ms =
      let after = (L.step s l).1 in
      ap (λ cs. (L.step s l).0 ++ cs) (commands_in-append after ls ms) ∙ sym (append_assoc (L.step s l).0 (completed_in L after ls) (commands_in L (stage_behind L after ls) ms))

  pub stage_behind-append : (s : L.Stage) (ls ms : List (List ℕ)) → stage_behind L s (ls ++ ms) ≡ stage_behind L (stage_behind L s ls) ms
  stage_behind-append s [] ms = refl
  stage_behind-append s (l ∷ ls) ms = stage_behind-append (L.step s l).1 ls ms

  -- the commands of whole lines, and then those of what follows
  pub commands_behind : (s : L.Stage) (front more : List ℕ) → AreWholeLines front
      → commands_in L s (lines_of (front ++ more)) ≡ completed_in L s (ended_lines front) ++ commands_in L (stage_behind L s (ended_lines front)) (lines_of more)
  commands_behind s front more whole = ap (commands_in L s) (lines_of-append front more whole) ∙ commands_in-append s (ended_lines front) (lines_of more)

  -- the commands of whole lines are the first ones of each script that begins with them
  pub completed_are_first : (s : L.Stage) (front : List ℕ) → AreWholeLines front → AreFirstIn L s (completed_in L s (ended_lines front)) false front
  completed_are_first s front whole = λ script more.
      (commands_in L (stage_behind L s (ended_lines front)) (lines_of more.0), ap (λ xs. commands_in L s (lines_of xs)) more.1 ∙ commands_behind s front more.0 whole)
