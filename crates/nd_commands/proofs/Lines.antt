-- The lines of a source.
use Rattle.std.proofs.Common.{◌≡◌, ℕ, true, false, cond, List, [], ◌∷◌, ◌++◌, refl, ap, ◌∙◌, append_assoc}
use Rattle.std.specs.Prelude.{◌==◌, ◌≢◌, All}
use Rattle.std.specs.List.{slice_split, onto_first}
use Rattle.nd_script.proofs.lines.Lines.{one_line, parts_are_some}

-- a line more
pub split_line_more : (t l : List ℕ) → All (λ c. c ≢ 10) l → slice_split (λ c. c == 10) (t ++ 10 ∷ l) ≡ slice_split (λ c. c == 10) t ++ l ∷ []
split_line_more [] l none = ap (λ ls. [] ∷ ls) (one_line l none)
split_line_more (x ∷ xs) l none =
    let some = parts_are_some (λ c. c == 10) xs in
    let more = split_line_more xs l none in
    elim (x == 10) as (λ b. cond b ([] ∷ slice_split (λ c. c == 10) (xs ++ 10 ∷ l)) (onto_first x (slice_split (λ c. c == 10) (xs ++ 10 ∷ l)))
    ≡ cond b ([] ∷ slice_split (λ c. c == 10) xs) (onto_first x (slice_split (λ c. c == 10) xs)) ++ l ∷ []) [
      | true ↦ ap (λ ls. [] ∷ ls) more
      | false ↦ rw (more, some.2) refl
    ]

-- the lines of a text that grew by a newline and a line
pub grown_lines : (old mid new l : List ℕ) → All (λ c. c ≢ 10) l → mid ≡ old ++ 10 ∷ [] → new ≡ mid ++ l → slice_split (λ c. c == 10) new ≡ slice_split (λ c. c == 10) old ++ l ∷ []
grown_lines old mid new l none first second =
    let whole : new ≡ old ++ 10 ∷ l = second ∙ ap (λ xs. xs ++ l) first ∙ append_assoc old (10 ∷ []) l in
    rw whole (split_line_more old l none)
