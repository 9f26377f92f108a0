-- The elements at places of some bytes: whether they lie there, their numbers, and their bytes as they are shown.
use Rattle.std.specs.Prelude.{◌≡◌, ℕ, ◌+◌, ◌≤◌, ℤ, List, ◌++◌, length, map, Vec}
use Rattle.std.specs.Global.{Global}
use Rattle.std.specs.List.{All, flat_map}
use Rattle.nd_model.specs.Arrays.Element.{Element, size_of}
use Rattle.nd_model.specs.Arrays.Content.{number_at, content_at, element_bytes}
use Rattle.nd_model.specs.Arrays.View.{ElementType, Field, Geo, Structure}

-- every byte of the elements is one of these bytes
abbrev pub AreHeld : Element → List ℕ → List ℕ → Type 0
AreHeld e bytes places = All (λ p. p + size_of e.kind ≤ length bytes) places

abbrev pub numbers_at : Element → List ℕ → List ℕ → List ℤ
numbers_at e bytes places = map (number_at e bytes) places

-- these items stand behind what stood there
abbrev pub Appends : {X : Type 0} → List X → Vec X Global → Vec X Global → Type 0
Appends items old new = new.items ≡ old.items ++ items

-- the bytes of the element at a place in its type's own form: a Boolean is 0 or 1, pad bytes are 0
abbrev pub canonical_at : ElementType → List ℕ → ℕ → List ℕ
canonical_at t bytes p = element_bytes t (content_at t bytes p)

abbrev pub canonical_structure : List Field × ℕ → List ℕ → ℕ → List ℕ
canonical_structure s bytes p = canonical_at (Structure s.0 s.1) bytes p

abbrev pub canonical_bytes : Geo → List ℕ → List ℕ
canonical_bytes g bytes = flat_map (canonical_at g.element bytes) g.places
