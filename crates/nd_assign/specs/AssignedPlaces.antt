-- The law of the places that an assignment writes.
use Rattle.std.specs.Prelude.{◌≡◌, ℕ, ℤ, true, List, [], ◌∷◌, length, map}
use Rattle.nd_model.specs.Making.Assigning.{value_shape, fits_into, view_writes, assigned_writes}
use Rattle.nd_model.specs.Arrays.Content.{Content, Num, content_at}
use Rattle.nd_model.specs.Making.Conversion.{converts, converted_content}
use Rattle.nd_model.specs.Making.Creation.{is_number_type}
use Rattle.nd_model.specs.Cells.Session.{is_in, is_place}
use Rattle.nd_model.specs.Arrays.Tuple.{elements_of}
use Rattle.nd_model.specs.Arrays.View.{Geo, byte_places}

-- THE LAW: an assignment writes the places of all bytes of the target's elements. What is assigned are the elements of a view, one
-- number, or a number for each index tuple.
pub record AssignedPlaces : Type 0 where
  pub elements : (g s : Geo) (bytes : List ℕ) → length g.places ≡ elements_of g.shape → length s.places ≡ elements_of s.shape
      → converts s.element g.element ≡ true → fits_into s.shape g.shape ≡ true
      → (p : ℕ) → is_in p (byte_places g) ≡ is_place p (assigned_writes g (value_shape s.shape g.shape) (map (content_at s.element bytes) s.places))
  pub number : (g : Geo) (z : ℤ) → length g.places ≡ elements_of g.shape → is_number_type g.element ≡ true
      → (p : ℕ) → is_in p (byte_places g) ≡ is_place p (assigned_writes g [] (Num z ∷ []))
  pub numbers : (g : Geo) (content : List ℕ → Content) → length g.places ≡ elements_of g.shape → is_number_type g.element ≡ true
      → (p : ℕ) → is_in p (byte_places g) ≡ is_place p (view_writes g (λ t. converted_content g.element (content t)))
