-- Numbers and bytes, appended one after another.
use Rattle.std.proofs.Common.{◌≡◌, ℕ, ◌+◌, ◌<◌, List, [], ◌∷◌, ◌++◌, length, take, get_or, ap, ◌∙◌, append-nil}
use Rattle.std.specs.List.{flat_map}
use Rattle.std.proofs.lemmas.Grind.{flat_map-append}
use Rattle.std.proofs.lemmas.List.{map-append, take_more}
use Rattle.nd_model.specs.Arrays.Element.{Element}
use Rattle.nd_model.specs.Arrays.Content.{number_at}
use Rattle.nd_element.specs.Elements.{numbers_at}

-- one number more
pub number_more : (e : Element) (bytes places : List ℕ) (k : ℕ) → k < length places → numbers_at e bytes (take (k + 1) places) ≡ numbers_at e bytes (take k places) ++ number_at e bytes (get_or places k 0) ∷ []
number_more e bytes places k lt = ap (numbers_at e bytes) (take_more places k 0 lt) ∙ map-append (number_at e bytes) (take k places) (get_or places k 0 ∷ [])

-- one run more
pub run_more : (e : Element) (bytes runs run rest : List ℕ) → runs ≡ run ++ rest → numbers_at e bytes runs ≡ numbers_at e bytes run ++ numbers_at e bytes rest
run_more e bytes runs run rest is = ap (numbers_at e bytes) is ∙ map-append (number_at e bytes) run rest

-- the bytes of one item more
pub bytes_more : {X Y : Type 0} (f : X → List Y) (items : List X) (k : ℕ) (d : X) → k < length items → flat_map f (take (k + 1) items) ≡ flat_map f (take k items) ++ f (get_or items k d)
bytes_more f items k d lt =
    ap (flat_map f) (take_more items k d lt) ∙ flat_map-append f (take k items) (get_or items k d ∷ []) ∙ ap (λ l. flat_map f (take k items) ++ l) (append-nil (f (get_or items k d)))
