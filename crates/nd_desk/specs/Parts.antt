-- What an index chooses of a value that is shown.
use Rattle.std.specs.Prelude.{ℕ, List, Result, Ok, Err}
use Rattle.std.specs.List.{flat_map}
use Rattle.nd_model.specs.Arrays.Element.{bytes_at}
use Rattle.nd_model.specs.Arrays.Content.{number_at, array_bytes}
use Rattle.nd_model.specs.Arrays.View.{ElementType, One, Structure, item_size, contiguous}
use Rattle.nd_model.specs.Cells.Fault.{Fault, Stmt, NotAnArray}
use Rattle.nd_model.specs.Cells.Refusing.{◌>>=◌}
use Rattle.nd_model.specs.Indexing.Selecting.{Item}
use Rattle.nd_model.specs.Indexing.Index.{choose_basic}
use Rattle.nd_model.specs.Making.Operand.{Chosen, AnElement, AView, ACopy, Stretched}
use Rattle.nd_model.specs.Book.Renaming.{Shown, ShownArray, ShownScalar, ShownRow}

-- the bytes of the elements at these places of some bytes, one element after the other
abbrev pub elements_at : ElementType → (bytes : List ℕ) → (places : List ℕ) → List ℕ
elements_at t bytes places = flat_map (λ p. bytes_at bytes p (item_size t)) places

-- what is chosen of an array whose elements have these bytes, as it is shown: a number, a row of an array of structures, or an array
abbrev pub shown_choice : (bytes : List ℕ) → Chosen → Shown
shown_choice bytes (AnElement (One e) p) = ShownScalar e.kind (number_at e bytes p)
shown_choice bytes (AnElement (Structure fields size) p) = ShownRow (Structure fields size) (bytes_at bytes p size)
shown_choice bytes (AView g) = ShownArray g.element g.shape (elements_at g.element bytes g.places)
shown_choice bytes (ACopy g) = ShownArray g.element g.shape (elements_at g.element bytes g.places)
shown_choice bytes (Stretched t c shape) = ShownArray t shape (array_bytes t shape (λ i. c))

-- THE PART OF A VALUE that an index of slices and whole numbers chooses. What is shown of an array are the bytes of one without gaps:
-- this one is indexed, as in a cell. All else is no array.
abbrev pub part_of : List Item → Shown → Result Shown Fault
part_of is (ShownArray t shape bytes) = do
  c ← choose_basic is (contiguous t shape)
  Ok (shown_choice bytes c)
part_of is v = Err (Stmt NotAnArray)
