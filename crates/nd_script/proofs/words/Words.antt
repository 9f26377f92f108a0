-- The words of a line.
use Rattle.std.proofs.Common.{◌≡◌, ℕ, ◌<◌, Bool, true, false, cond, List, [], ◌∷◌, length, refl, sym, arith}
use Rattle.std.specs.Prelude.{◌==◌, IsUtf8, not, slice_index, slice_index_or}
use Rattle.std.specs.List.{slice_split, onto_first, position_or_len, before_first, after_first}
use Rattle.std.specs.Str.{is_utf8}
use Rattle.std.proofs.lemmas.Bool.{false_from_ne_true}
use Rattle.std.proofs.lemmas.List.Sums.{prefix_len_passes}
use Rattle.std.proofs.lemmas.Str.{IsUtf8-from_is_utf8, is_utf8-from_IsUtf8}
use Rattle.std.proofs.lemmas.List.Splits.{slice_split_first, slice_split_none}
use Rattle.nd_model.specs.Book.Script.{Whole, Bad, words_of, line_of_words, read_line}

-- a list has a first part
pub parts_are_some : (p : ℕ → Bool) (xs : List ℕ) → (part : List ℕ) × (parts : List (List ℕ)) × (slice_split p xs ≡ part ∷ parts)
parts_are_some p [] = ([], [], refl)
parts_are_some p (x ∷ xs) =
    let more = parts_are_some p xs in
    elim (p x) as (λ b. (part : List ℕ) × (parts : List (List ℕ)) × (cond b ([] ∷ slice_split p xs) (onto_first x (slice_split p xs)) ≡ part ∷ parts)) [
      | true ↦ ([], slice_split p xs, refl)
      | false ↦ (x ∷ more.0, more.1, rw more.2 refl)
    ]

not_passes : (b : Bool) → not b ≡ true → b ≡ false
not_passes true h = sym h
not_passes false h = refl

pub none_is_cons : (p : ℕ → Bool) (xs : List ℕ) → position_or_len p xs ≡ length xs → slice_split p xs ≡ xs ∷ []
none_is_cons p xs e =
    slice_split_none p xs (λ k d h. not_passes (p (slice_index_or xs k d)) (prefix_len_passes (λ x. not (p x)) xs k d (rw e h)))

pub words_of-one : (w : List ℕ) → position_or_len (λ b. b == 32) w ≡ length w → words_of w ≡ w ∷ []
words_of-one w e = none_is_cons (λ b. b == 32) w e

pub words_of-more : (w : List ℕ) → position_or_len (λ b. b == 32) w < length w → words_of w ≡ before_first (λ b. b == 32) w ∷ words_of (after_first (λ b. b == 32) w)
words_of-more w h = slice_split_first (λ b. b == 32) w 0 h

-- a line that is neither empty nor a comment
pub read_line-text : (line : List ℕ) → 0 < length line → (slice_index line 0 == 35) ≡ false → IsUtf8 line → read_line line ≡ line_of_words (words_of line)
read_line-text [] h other text = absurd (omega arith)
read_line-text (c ∷ cs) h other text = let yes : is_utf8 (c ∷ cs) ≡ true = is_utf8-from_IsUtf8 (c ∷ cs) text in rw (other, yes) refl

pub read_line-bytes : (line : List ℕ) → 0 < length line → (slice_index line 0 == 35) ≡ false → (IsUtf8 line → ⊥) → read_line line ≡ Whole Bad
read_line-bytes [] h other bytes = absurd (omega arith)
read_line-bytes (c ∷ cs) h other bytes =
    let fails : is_utf8 (c ∷ cs) ≡ false = false_from_ne_true (is_utf8 (c ∷ cs)) (λ yes. bytes (IsUtf8-from_is_utf8 (c ∷ cs) yes)) in
    rw (other, fails) refl
