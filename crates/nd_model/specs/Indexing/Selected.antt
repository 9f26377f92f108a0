-- What indexes choose lies where it was chosen.
use Rattle.std.specs.Prelude.{◌≡◌, ℕ, List, length, Some, Ok}
use Rattle.std.specs.List.{All}
use Rattle.nd_model.specs.Arrays.Tuple.{elements_of}
use Rattle.nd_model.specs.Arrays.View.{Geo}
use Rattle.nd_model.specs.Indexing.Selecting.{Item, select, field_view}
use Rattle.nd_model.specs.Indexing.Advanced.{IndexItem, Basic, Numbers, Mask, choose}
use Rattle.nd_model.specs.Cells.Sound.{LiesIn}

-- THE LAW OF BASIC INDEXES: what items choose of a view that lies in its base lies there
abbrev pub SelectedLies : Type 0
SelectedLies = (is : List Item) (g h : Geo) (len : ℕ) → LiesIn len g → select is g ≡ Ok h → LiesIn len h

-- THE LAW OF FIELDS: the view of a field of a view that lies in its base lies there
abbrev pub FieldLies : Type 0
FieldLies = (name : List ℕ) (g h : Geo) (len : ℕ) → LiesIn len g → field_view name g ≡ Some h → LiesIn len h

-- an array among the items has as many numbers or truths as its shape has elements
abbrev pub HoldsAll : IndexItem → Type 0
HoldsAll (Basic i) = Unit {0}
HoldsAll (Numbers shape zs) = length zs ≡ elements_of shape
HoldsAll (Mask shape bs) = length bs ≡ elements_of shape

-- THE LAW OF ADVANCED INDEXES: what an index with arrays, each with all its numbers or truths, chooses of a view that lies in its
-- base lies there
abbrev pub AdvancedLies : Type 0
AdvancedLies = (is : List IndexItem) (g h : Geo) (len : ℕ) → All HoldsAll is → LiesIn len g → choose is g ≡ Ok h → LiesIn len h
