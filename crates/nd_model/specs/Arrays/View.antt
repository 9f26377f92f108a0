-- Views: what an array is, apart from the base that it lies in. There are no strides here: a view is the list of the
-- places of its elements in C order (PEP 3118 gives the places by an offset and strides).
use Rattle.std.specs.Prelude.{ℕ, ◌+◌, ◌*◌, Bool, true, List, map, slice_index}
use Rattle.std.specs.List.{flat_map}
use Rattle.nd_model.specs.Arrays.Element.{Element, size_of}
use Rattle.nd_model.specs.Arrays.Tuple.{count_up, elements_of, indices, number}

-- a field of a structure: its name, its place inside, and its element
pub record Field : Type 0 where
  pub name : List ℕ
  pub at : ℕ
  pub element : Element

-- what lies at a place: one number, or a structure of this size
pub data ElementType : Type 0 where
  One : Element → ElementType
  Structure : (fields : List Field) → (size : ℕ) → ElementType

abbrev pub item_size : ElementType → ℕ
item_size (One e) = size_of e.kind
item_size (Structure fields size) = size

pub record Geo : Type 0 where
  pub element : ElementType
  pub shape : List ℕ
  pub writable : Bool
  pub places : List ℕ

-- the places of the bytes of an element at place p, without pad bytes
abbrev pub field_places : ℕ → List Field → List ℕ
field_places p fields = flat_map (λ (f : Field). count_up (p + f.at) (size_of f.element.kind)) fields

abbrev pub element_places : ElementType → ℕ → List ℕ
element_places (One e) p = count_up p (size_of e.kind)
element_places (Structure fields size) p = field_places p fields

-- the places of the bytes of all elements
abbrev pub byte_places : Geo → List ℕ
byte_places g = flat_map (element_places g.element) g.places

-- an array alone in its base, from place 0 in C order without gaps
abbrev pub contiguous : ElementType → List ℕ → Geo
contiguous t shape = record {
  element = t;
  shape = shape;
  writable = true;
  places = map (λ k. k * item_size t) (count_up 0 (elements_of shape));
}

-- the place of the element at an index tuple
abbrev pub place_of : Geo → List ℕ → ℕ
place_of g t = slice_index g.places (number g.shape t)

-- the view of this shape whose element at each index tuple is that of the old one at another tuple
abbrev pub rearranged_view : Geo → (shape : List ℕ) → (List ℕ → List ℕ) → Geo
rearranged_view g shape from = record { element = g.element; shape = shape; writable = g.writable; places = map (λ t. place_of g (from t)) (indices shape) }
