-- The words of a line, and the numbers of a list.
use Rattle.std.specs.Prelude.{ℕ, ◌==◌, List, [], ◌∷◌, Option, Some, None}
use Rattle.std.specs.List.{slice_split}
use Rattle.nd_model.specs.Book.Script as script

-- the words of what stands behind a word, where anything does
abbrev pub words_behind : Option (List ℕ) → List (List ℕ)
words_behind None = []
words_behind (Some rest) = script.words_of rest

-- the numbers of a list, as they are written
abbrev pub parts_of : List ℕ → List (List ℕ)
parts_of word = slice_split (λ c. c == 44) word

abbrev pub parts_behind : Option (List ℕ) → List (List ℕ)
parts_behind None = []
parts_behind (Some rest) = parts_of rest

-- the words, where there are six
abbrev pub six_of : List (List ℕ) → Option (List (List ℕ))
six_of (a ∷ b ∷ c ∷ d ∷ e ∷ f ∷ []) = Some (a ∷ b ∷ c ∷ d ∷ e ∷ f ∷ [])
six_of _ = None
