-- What is taken of axes, as the definitions have it.
use Rattle.std.specs.Prelude.{ℕ, ◌+◌, Bool, true, false, List, [], ◌∷◌, map}
use Rattle.nd_model.specs.Indexing.Advanced as model
use Rattle.nd_index.specs.Advanced.IndexNumbers.{numbers_in}
use Rattle.nd_index.specs.declared.advanced.spread.Spread as spread
use Rattle.nd_index.specs.declared.advanced.takes.Take.{Take}
use Rattle.nd_index.specs.declared.advanced.takes.Take.TheVariants.{Whole, Added, Spread}

abbrev pub spread_of : spread.Spread → model.Take
spread_of s = model.Spread s.axes s.shape.items (numbers_in s.numbers)

abbrev pub take_of : Take → model.Take
take_of Whole = model.Whole
take_of Added = model.Added
take_of (Spread s) = spread_of s

abbrev pub takes_of : List Take → List model.Take
takes_of ts = map take_of ts

-- how many axes are taken
abbrev pub axes_taken_by : model.Take → ℕ
axes_taken_by model.Whole = 1
axes_taken_by model.Added = 0
axes_taken_by (model.Spread axes shape ks) = axes

abbrev pub axes_taken : List model.Take → ℕ
axes_taken [] = 0
axes_taken (t ∷ ts) = axes_taken_by t + axes_taken ts

-- how many axes are kept
abbrev pub kept_by : model.Take → ℕ
kept_by model.Whole = 1
kept_by model.Added = 1
kept_by (model.Spread axes shape ks) = 0

abbrev pub kept_in : List model.Take → ℕ
kept_in [] = 0
kept_in (t ∷ ts) = kept_by t + kept_in ts

abbrev pub is_spread : model.Take → Bool
is_spread model.Whole = false
is_spread model.Added = false
is_spread (model.Spread axes shape ks) = true
