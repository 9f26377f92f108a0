-- What copies of elements write: contents that are read at places of some bytes, converted, and written one after the other.
use Rattle.std.specs.Prelude.{ℕ, List, map}
use Rattle.nd_model.specs.Arrays.View.{ElementType}
use Rattle.nd_model.specs.Arrays.Content.{Content, content_at, all_writes}
use Rattle.nd_model.specs.Making.Conversion.{converted_content}
use Rattle.nd_model.specs.Cells.Session.{put}

-- the content at a place, as an element of the target has it
abbrev pub copied_content : (to from : ElementType) → List ℕ → ℕ → Content
copied_content to from bytes q = converted_content to (content_at from bytes q)

-- the bytes after a copy from each of these places to one of the target's
abbrev pub with_copies : (to from : ElementType) → List ℕ → (ps qs : List ℕ) → List ℕ → List ℕ
with_copies to from bytes ps qs out = put (all_writes to ps (map (copied_content to from bytes) qs)) out
