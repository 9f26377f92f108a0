-- Contents of elements: one reader and one writer. An element that is a number has one number, a structure has one for each
-- of its fields; pad bytes are no content.
use Rattle.std.specs.Prelude.{ℕ, ◌+◌, ◌*◌, ℤ, pos, List, [], ◌∷◌, ◌++◌, map, replicate, slice_index_or}
use Rattle.std.specs.List.{flat_map, zip}
use Rattle.nd_model.specs.Arrays.Element.{Element, size_of, value_of, bytes_of, bytes_at}
use Rattle.nd_model.specs.Arrays.Tuple.{count_up, indices, number}
use Rattle.nd_model.specs.Arrays.View.{Field, ElementType, One, Structure, item_size}
use Rattle.nd_model.specs.Cells.Session.{put}

pub data Content : Type 0 where
  Num : ℤ → Content
  Rec : List ℤ → Content

-- the number of an element of numbers
abbrev pub number_in : Content → ℤ
number_in (Num z) = z
number_in (Rec zs) = pos 0

-- ---- reading

abbrev pub number_at : Element → List ℕ → ℕ → ℤ
number_at e bytes p = value_of e (bytes_at bytes p (size_of e.kind))

-- THE READER: the content of the element at a place
abbrev pub content_at : ElementType → List ℕ → ℕ → Content
content_at (One e) bytes p = Num (number_at e bytes p)
content_at (Structure fields size) bytes p = Rec (map (λ (f : Field). number_at f.element bytes (p + f.at)) fields)

-- the same fields one behind the other
abbrev pub packed_fields : ℕ → List Field → List Field
packed_fields at [] = []
packed_fields at (f ∷ fs) = record { name = f.name; at = at; element = f.element } ∷ packed_fields (at + size_of f.element.kind) fs

abbrev pub fields_size : List Field → ℕ
fields_size [] = 0
fields_size (f ∷ fs) = size_of f.element.kind + fields_size fs

-- the type of elements without pad bytes: as such they lie in the bytes that a use of them gives
abbrev pub packed_type : ElementType → ElementType
packed_type (One e) = One e
packed_type (Structure fields size) = Structure (packed_fields 0 fields) (fields_size fields)

-- the contents of n elements, from the bytes that a use of them gives
abbrev pub contents_in : ElementType → ℕ → List ℕ → List Content
contents_in t n bytes = map (λ k. content_at (packed_type t) bytes (k * item_size (packed_type t))) (count_up 0 n)

-- ---- writing

abbrev pub number_writes : Element → ℕ → ℤ → List (ℕ × ℕ)
number_writes e p z = zip (count_up p (size_of e.kind)) (bytes_of e z)

abbrev pub field_writes : ℕ → List Field → List ℤ → List (ℕ × ℕ)
field_writes p [] zs = []
field_writes p (f ∷ fs) [] = []
field_writes p (f ∷ fs) (z ∷ zs) = number_writes f.element (p + f.at) z ++ field_writes p fs zs

-- THE WRITER: the bytes of a content, each with its place. A content of another type has none
abbrev pub writes : ElementType → ℕ → Content → List (ℕ × ℕ)
writes (One e) p (Num z) = number_writes e p z
writes (One e) p (Rec zs) = []
writes (Structure fields size) p (Num z) = []
writes (Structure fields size) p (Rec zs) = field_writes p fields zs

-- contents at these places, one after the other
abbrev pub all_writes : ElementType → List ℕ → List Content → List (ℕ × ℕ)
all_writes t (p ∷ ps) (c ∷ cs) = writes t p c ++ all_writes t ps cs
all_writes t _ _ = []

-- the bytes of an element: pad bytes are 0
abbrev pub element_bytes : ElementType → Content → List ℕ
element_bytes t c = put (writes t 0 c) (replicate (item_size t) 0)

-- the bytes of an array alone in its base, whose element at each index tuple is given
abbrev pub array_bytes : ElementType → List ℕ → (List ℕ → Content) → List ℕ
array_bytes t shape f = flat_map (λ i. element_bytes t (f i)) (indices shape)

-- contents in C order, by their index tuples; past the end there is none
abbrev pub content_or : List Content → ℕ → Content
content_or cs n = slice_index_or cs n (Num (pos 0))

abbrev pub content_in_order : List ℕ → List Content → List ℕ → Content
content_in_order shape cs t = content_or cs (number shape t)
