-- Names, places and the bytes put there.
use Rattle.std.proofs.Common.{◌≡◌, ℕ, Bool, true, false, cond, eqb, List, [], ◌∷◌, length, get_or, set, Option, Some, None, refl, sym, ap, ◌∙◌, inl, inr, arith, length-set, get_or-set_same, get_or-set_other, ne_eqb}
use Rattle.std.specs.Prelude.{bytes_eq}
use Rattle.std.proofs.lemmas.Bool.{cases_Bool, cases_lt, cases_eq, eqb-false, or_parts, or_from, false_from_ne_true}
use Rattle.std.proofs.lemmas.Slice.Eq.{bytes_eq-Decides}
use Rattle.std.proofs.Math.ListN.{get_or-eq_default}
use Rattle.nd_model.specs.Cells.Session.{lookup, bind, unbind, put, is_place}

-- TEXTS
pub same_bytes : (a b : List ℕ) → bytes_eq a b ≡ true → a ≡ b
same_bytes a b h = (bytes_eq-Decides a b).0 h

pub bytes_eq_same : (a b : List ℕ) → a ≡ b → bytes_eq a b ≡ true
bytes_eq_same a b e = (bytes_eq-Decides a b).1 e

pub bytes_eq_self : (a : List ℕ) → bytes_eq a a ≡ true
bytes_eq_self a = bytes_eq_same a a refl

pub not_both : (b : Bool) → b ≡ false → b ≡ true → ⊥
not_both b f t = cc

-- what is equal to one of two texts that differ is not equal to the other
pub bytes_eq_apart : (m n k : List ℕ) → bytes_eq n k ≡ false → bytes_eq m k ≡ true → bytes_eq m n ≡ false
bytes_eq_apart m n k other is = false_from_ne_true _ (λ t. not_both (bytes_eq n k) other (bytes_eq_same n k (sym (same_bytes m n t) ∙ same_bytes m k is)))

-- NAMES
pub lookup-bind : {A : Type 0} (m n : List ℕ) (v : A) (es : List (List ℕ × A)) → lookup m (bind n v es) ≡ cond (bytes_eq m n) (Some v) (lookup m es)
lookup-bind m n v [] = refl
lookup-bind m n v (e ∷ es) = elim (cases_Bool (bytes_eq n e.0)) [
  | inl h ↦ let same : bytes_eq m e.0 ≡ bytes_eq m n = ap (bytes_eq m) (sym (same_bytes n e.0 h)) in
      rw (h, same) (elim (cases_Bool (bytes_eq m n)) [ inl is ↦ rw is refl | inr other ↦ rw other refl ])
  | inr h ↦ rw h (elim (cases_Bool (bytes_eq m e.0)) [
    | inl is ↦ let apart : bytes_eq m n ≡ false = bytes_eq_apart m n e.0 h is in rw (is, apart) refl
    | inr other ↦ rw other (lookup-bind m n v es)
  ])
]

pub lookup-unbind : {A : Type 0} (m n : List ℕ) (es : List (List ℕ × A)) → lookup m (unbind n es) ≡ cond (bytes_eq m n) None (lookup m es)
lookup-unbind {A} m n [] = elim (bytes_eq m n) as (λ b. ◌≡◌ {A = Option A} None (cond b None None)) [ true ↦ refl | false ↦ refl ]
lookup-unbind m n (e ∷ es) = elim (cases_Bool (bytes_eq n e.0)) [
  | inl h ↦ let same : bytes_eq m e.0 ≡ bytes_eq m n = ap (bytes_eq m) (sym (same_bytes n e.0 h)) in
      rw h (lookup-unbind m n es ∙ rw same (elim (cases_Bool (bytes_eq m n)) [ inl is ↦ rw is refl | inr other ↦ rw other refl ]))
  | inr h ↦ rw h (elim (cases_Bool (bytes_eq m e.0)) [
    | inl is ↦ let apart : bytes_eq m n ≡ false = bytes_eq_apart m n e.0 h is in rw (is, apart) refl
    | inr other ↦ rw other (lookup-unbind m n es)
  ])
]

-- BYTES
pub length-put : (ws : List (ℕ × ℕ)) (xs : List ℕ) → length (put ws xs) ≡ length xs
length-put [] xs = refl
length-put (w ∷ ws) xs = length-put ws (set xs w.0 w.1) ∙ length-set xs w.0 w.1

same_set : (p q x : ℕ) (xs ys : List ℕ) → length xs ≡ length ys → (eqb p q ≡ false → get_or xs p 0 ≡ get_or ys p 0) → get_or (set xs q x) p 0 ≡ get_or (set ys q x) p 0
same_set p q x xs ys long h = elim (cases_eq p q) [
  | inl e ↦ elim (cases_lt p (length xs)) [
    | inl lt ↦ grind (arith, get_or-set_same {A = ℕ})
    | inr past ↦ get_or-eq_default (set xs q x) 0 (omega (arith, length-set xs q x)) ∙ sym (get_or-eq_default (set ys q x) 0 (omega (arith, length-set ys q x)))
  ]
  | inr ne ↦ get_or-set_other xs q p x 0 ne ∙ h (ne_eqb p q ne) ∙ sym (get_or-set_other ys q p x 0 ne)
]

-- bytes that are alike but for places that are put are alike then
pub same_put : (ws : List (ℕ × ℕ)) (p : ℕ) (xs ys : List ℕ) → length xs ≡ length ys → (is_place p ws ≡ false → get_or xs p 0 ≡ get_or ys p 0) → get_or (put ws xs) p 0 ≡ get_or (put ws ys) p 0
same_put [] p xs ys long h = h refl
same_put (w ∷ ws) p xs ys long h =
    same_put ws p (set xs w.0 w.1) (set ys w.0 w.1) (length-set xs w.0 w.1 ∙ long ∙ sym (length-set ys w.0 w.1))
    (λ other. same_set p w.0 w.1 xs ys long (λ ne. h (or_from _ _ ne other)))

pub put_elsewhere : (ws : List (ℕ × ℕ)) (p : ℕ) (xs : List ℕ) → is_place p ws ≡ false → get_or (put ws xs) p 0 ≡ get_or xs p 0
put_elsewhere [] p xs h = refl
put_elsewhere (w ∷ ws) p xs h = let parts : (eqb p w.0 ≡ false) × (is_place p ws ≡ false) = or_parts _ _ h in
    put_elsewhere ws p (set xs w.0 w.1) parts.1 ∙ get_or-set_other xs w.0 p w.1 0 (eqb-false p w.0 parts.0)
