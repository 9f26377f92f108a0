-- How many elements of a mask are true.
use Rattle.std.specs.Prelude.{ℕ, List, length, map}
use Rattle.nd_model.specs.Indexing.Advanced.{is_nonzero, true_numbers}
use Rattle.nd_model.specs.Arrays.Element.{Element}
use Rattle.nd_element.specs.Elements.{numbers_at}

-- of those at these places
abbrev pub true_count : Element → List ℕ → List ℕ → ℕ
true_count e bytes places = length (true_numbers 0 (map is_nonzero (numbers_at e bytes places)))
