-- How far elements are from the first one, by what is taken of axes.
use Rattle.std.specs.Prelude.{ℕ, ℤ, pos, ◌+ℤ◌, List, [], ◌∷◌, drop, take, slice_index_or}
use Rattle.nd_model.specs.Indexing.Advanced as model
use Rattle.nd_model.specs.Arrays.Strides.{way_to}
use Rattle.nd_index.specs.Advanced.Takes.{axes_taken_by}

-- the strides of the axes that are kept
abbrev pub kept_strides : List model.Take → List ℤ → List ℤ
kept_strides [] strides = []
kept_strides (model.Whole ∷ ts) strides = slice_index_or strides 0 (pos 0) ∷ kept_strides ts (drop 1 strides)
kept_strides (model.Added ∷ ts) strides = pos 0 ∷ kept_strides ts strides
kept_strides (model.Spread axes shape ks ∷ ts) strides = kept_strides ts (drop axes strides)

-- how far an array leads at a tuple of the common shape, on the axes from its first one on
abbrev pub way_by : model.Take → List ℕ → List ℤ → (m : List ℕ) → ℤ
way_by model.Whole sizes strides m = pos 0
way_by model.Added sizes strides m = pos 0
way_by (model.Spread axes shape ks) sizes strides m = way_to (model.unravelled (take axes sizes) (model.number_at shape ks m)) strides

-- how far all arrays lead
abbrev pub way_taken : List model.Take → List ℕ → List ℤ → (m : List ℕ) → ℤ
way_taken [] sizes strides m = pos 0
way_taken (t ∷ ts) sizes strides m = way_by t sizes strides m +ℤ way_taken ts (drop (axes_taken_by t) sizes) (drop (axes_taken_by t) strides) m
