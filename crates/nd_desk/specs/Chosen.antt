-- What items choose of elements in a block, as it is shown.
use Rattle.std.specs.Prelude.{ℕ, List}
use Rattle.nd_model.specs.Arrays.Content.{number_at, array_bytes}
use Rattle.nd_model.specs.Arrays.View.{One, Structure}
use Rattle.nd_model.specs.Making.Operand.{Chosen, AnElement, AView, ACopy, Stretched}
use Rattle.nd_model.specs.Book.Renaming.{Shown, ShownArray, ShownScalar, ShownRow}
use Rattle.nd_element.specs.Elements.{canonical_at, canonical_bytes}

-- what is chosen of elements that lie in this block, as it is shown
abbrev pub shown_in : (block : List ℕ) → Chosen → Shown
shown_in block (AnElement (One e) p) = ShownScalar e.kind (number_at e block p)
shown_in block (AnElement (Structure fields size) p) = ShownRow (Structure fields size) (canonical_at (Structure fields size) block p)
shown_in block (AView g) = ShownArray g.element g.shape (canonical_bytes g block)
shown_in block (ACopy g) = ShownArray g.element g.shape (canonical_bytes g block)
shown_in block (Stretched t c shape) = ShownArray t shape (array_bytes t shape (λ i. c))
