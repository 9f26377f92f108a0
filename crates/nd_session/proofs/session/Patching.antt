-- Blocks into which bytes are put.
use Rattle.std.proofs.Common.{◌≡◌, ◌<◌, ℕ, zero, suc, List, [], ◌∷◌, take, length, append-nil, ◌++◌, slice_index, Option, refl, sym, ap, ◌∙◌, arith}
use Rattle.std.specs.Prelude.{unwrap_or}
use Rattle.std.specs.List.{refill}
use Rattle.std.proofs.lemmas.List.{ext_get_or, drop_all, take_all}
use Rattle.nd_model.specs.Cells.Footprint.{patched}
use Rattle.nd_session.specs.Session.Found.{length-patched}

get_or-patched : (w : ℕ → Option ℕ) (xs : List ℕ) (p : ℕ) → p < length xs → slice_index (patched w xs) p ≡ unwrap_or (w p) (slice_index xs p)
get_or-patched w [] p h = absurd (omega arith)
get_or-patched w (x ∷ xs) zero h = refl
get_or-patched w (x ∷ xs) (suc p) h = get_or-patched (λ p. w (suc p)) xs p (omega arith)

pub is_patched : (w : ℕ → Option ℕ) (xs ys : List ℕ) → length ys ≡ length xs → ((p : ℕ) → p < length xs → slice_index ys p ≡ unwrap_or (w p) (slice_index xs p)) → ys ≡ patched w xs
is_patched w xs ys long each = ext_get_or 0 ys (patched w xs) (long ∙ sym (length-patched w xs)) (λ p lt. each p (omega arith) ∙ sym (get_or-patched w xs p (omega arith)))

-- a row that is written whole
pub refilled : (xs ys : List ℕ) → length ys ≡ length xs → refill (length xs) xs ys ≡ ys
refilled xs ys long =
    ap (λ zs. take (length xs) (ys ++ zs)) (drop_all (length ys) xs (omega arith)) ∙ ap (take (length xs)) (append-nil ys) ∙ take_all (length xs) ys (omega arith)
