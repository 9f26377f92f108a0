-- A kind that does not have both ranges is passed over.
use Rattle.std.proofs.Common.{◌≡◌, ◌&&◌, ℕ, zero, suc, ◌<◌, false, List, [], ◌∷◌, length, map, drop, get_or, refl, arith}
use Rattle.nd_model.specs.Arrays.Element as element
use Rattle.nd_model.specs.Arrays.Promotion.{first_for, has_range_of}
use Rattle.nd_types.specs.Kinds.{kind_of}
use Rattle.nd_types.specs.declared.kind.Kind.{Kind}

module _ (a b : element.Kind) where
  pub passed : (ks : List Kind) (i : ℕ) (other : Kind) → i < length ks
      → (has_range_of (kind_of (get_or ks i other)) a && has_range_of (kind_of (get_or ks i other)) b) ≡ false
      → first_for a b (map kind_of (drop i ks)) ≡ first_for a b (map kind_of (drop (suc i) ks))
  passed [] i other lt lacks = absurd (omega arith)
  passed (k ∷ ks) zero other lt lacks = rw lacks refl
  passed (k ∷ ks) (suc i) other lt lacks = passed ks i other (omega arith) lacks
