-- The numbers by which the arrays of an index choose tuples of axes.
use Rattle.std.specs.Prelude.{ℕ, List, [], ◌∷◌, map}
use Rattle.nd_model.specs.Indexing.Advanced as model
use Rattle.nd_model.specs.Indexing.Selecting.{counted_from}
use Rattle.nd_index.specs.Items.Items.{numbers_of}
use Rattle.nd_index.specs.declared.advanced.index_numbers.IndexNumbers.{IndexNumbers}
use Rattle.nd_index.specs.declared.advanced.index_numbers.IndexNumbers.TheVariants.{One, Positions, Trues}

abbrev pub numbers_in : IndexNumbers → List ℕ
numbers_in (One k) = k ∷ []
numbers_in (Positions size array) = map (counted_from size) (numbers_of array.now)
numbers_in (Trues mask) = model.true_numbers 0 (map model.is_nonzero (numbers_of mask.now))
