-- Elements as they are shown.
use Rattle.std.proofs.Common.{◌≡◌, ℕ, ◌<◌, List, [], ◌∷◌, ◌++◌, length, refl, ◌∙◌, arith}
use Rattle.std.proofs.lemmas.List.{length-replicate}
use Rattle.std.specs.Prelude.{replicate}
use Rattle.std.specs.List.{flat_map}
use Rattle.nd_model.specs.Arrays.View.{ElementType, item_size}
use Rattle.nd_model.specs.Arrays.Content.{content_at, writes}
use Rattle.nd_model.specs.Book.Script.{hex_digits, hex_text}
use Rattle.nd_model.proofs.Lists.{length-put}
use Rattle.nd_element.specs.Elements.{canonical_at}

pub length-canonical : (t : ElementType) (bytes : List ℕ) (p : ℕ) → length (canonical_at t bytes p) ≡ item_size t
length-canonical t bytes p = length-put (writes t 0 (content_at t bytes p)) (replicate (item_size t) 0) ∙ length-replicate (item_size t) 0

text_of_some : (first rest : List ℕ) → 0 < length first → hex_text (first ++ rest) ≡ hex_digits (first ++ rest)
text_of_some [] rest some = absurd (omega arith)
text_of_some (b ∷ bs) rest some = refl

-- elements that are there have bytes
pub shown_digits : (t : ElementType) (bytes places : List ℕ) → 0 < item_size t → 0 < length places
    → hex_text (flat_map (canonical_at t bytes) places) ≡ hex_digits (flat_map (canonical_at t bytes) places)
shown_digits t bytes [] sized some = absurd (omega arith)
shown_digits t bytes (p ∷ ps) sized some =
    text_of_some (canonical_at t bytes p) (flat_map (canonical_at t bytes) ps) (omega (arith, length-canonical t bytes p))
