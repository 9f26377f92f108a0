-- Views that are made of parts lie in the block.
use Rattle.std.proofs.Common.{◌≡◌, ℕ, ◌+◌, ◌≤◌, Bool, true, false, List, [], ◌∷◌, map, length, refl, arith, subst, ◌∙◌}
use Rattle.std.specs.Prelude.{ℤ, pos, unsigned_abs, int_le, nat_le, ◌&&◌, not, ◌==◌, Option, Some, None, Ok, if◌then◌else◌}
use Rattle.std.specs.List.{list_all, All}
use Rattle.std.proofs.lemmas.List.Elements.{All-nil, All-cons}
use Rattle.std.proofs.lemmas.List.{length-map}
use Rattle.std.proofs.lemmas.Bool.Decides.{nat_tests}
use Rattle.nd_model.specs.Cells.Fault.{ViewFault, AxesDiffer, OutOfBlock}
use Rattle.nd_model.specs.Arrays.Tuple.{indices}
use Rattle.nd_model.specs.Arrays.View.{ElementType, Geo, item_size}
use Rattle.nd_model.specs.Cells.Sound.{LiesIn}
use Rattle.nd_model.proofs.Tuples.{length-indices}
use Rattle.nd_model.specs.Arrays.Strides.{begins_at, place_at, is_held, are_held, limit_fault, or_else, parts_fault, unless, parted, from_parts, PartsAreHeld}

held_end : (size len : ℕ) (z : ℤ) → is_held size len z ≡ true → unsigned_abs z + size ≤ len
held_end size len z held =
    elim (int_le (pos 0) z) as (λ b. (b && nat_le (unsigned_abs z + size) len) ≡ true → unsigned_abs z + size ≤ len) [
      | true ↦ λ e. grind (arith, nat_tests)
      | false ↦ λ e. cc
    ] held

module _ (size len offset : ℕ) (strides : List ℤ) where
  pub ends : (ts : List (List ℕ)) → list_all (is_held size len) (map (begins_at offset strides) ts) ≡ true → All (λ p. p + size ≤ len) (map (place_at offset strides) ts)
  ends [] held = All-nil (λ p. p + size ≤ len)
  ends (t ∷ ts) held =
      elim (is_held size len (begins_at offset strides t)) as (λ b. is_held size len (begins_at offset strides t) ≡ b → (b && list_all (is_held size len) (map (begins_at offset strides) ts)) ≡ true
      → All (λ p. p + size ≤ len) (place_at offset strides t ∷ map (place_at offset strides) ts)) [
        | true ↦ λ here rest. All-cons (λ p. p + size ≤ len) _ _ (held_end size len (begins_at offset strides t) here) (ends ts rest)
        | false ↦ λ here rest. cc
      ] refl held

-- no refusal holds
no_fault : (differ held : Bool) (limit : Option ViewFault) → (if differ then Some AxesDiffer else or_else limit (if held then None else Some OutOfBlock)) ≡ None → held ≡ true
no_fault true held limit e = cc
no_fault false true None e = refl
no_fault false false None e = cc
no_fault false held (Some fault) e = cc

no_limit : (differ held : Bool) (limit : Option ViewFault) → (if differ then Some AxesDiffer else or_else limit (if held then None else Some OutOfBlock)) ≡ None → limit ≡ None
no_limit true held limit e = cc
no_limit false held None e = refl
no_limit false held (Some fault) e = cc

of_ok : {A : Type 0} (fault : Option ViewFault) (a b : A) → unless fault a ≡ Ok b → (fault ≡ None) × (a ≡ b)
of_ok None a b e = (refl, cc)
of_ok (Some fault) a b e = absurd (cc)

pub parts_are_held : PartsAreHeld
parts_are_held t shape strides offset len g e =
    let made = of_ok (parts_fault (item_size t) shape strides offset len) (parted t shape strides offset) g e in
    let held : are_held (item_size t) len offset strides shape ≡ true = no_fault (not (length shape == length strides)) _ (limit_fault (item_size t) shape) made.0 in
    let places : (parted t shape strides offset).places ≡ g.places = λ i. (made.1 i).places in
    rw (← places) (ends (item_size t) len offset strides (indices shape) held)

-- THE VIEW OF PARTS LIES in the block
pub parts_lie : (t : ElementType) (shape : List ℕ) (strides : List ℤ) (offset len : ℕ) (g : Geo) → from_parts t shape strides offset len ≡ Ok g → LiesIn len g
parts_lie t shape strides offset len g e =
    let made = of_ok (parts_fault (item_size t) shape strides offset len) (parted t shape strides offset) g e in
    let held : are_held (item_size t) len offset strides shape ≡ true = no_fault (not (length shape == length strides)) _ (limit_fault (item_size t) shape) made.0 in
    subst (LiesIn len) made.1 (record {
      count = length-map (indices shape) (place_at offset strides) ∙ length-indices shape;
      limits = no_limit (not (length shape == length strides)) (are_held (item_size t) len offset strides shape) (limit_fault (item_size t) shape) made.0;
      inside = ends (item_size t) len offset strides (indices shape) held;
    })
