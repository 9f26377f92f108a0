-- Blocks of the last axes: how far an element is behind the first of its block.
use Rattle.std.proofs.Common.{◌≡◌, ℕ, zero, suc, ◌+◌, ◌*◌, ◌/◌, ◌%◌, ◌<◌, List, [], ◌∷◌, length, take, drop, refl, sym, ap, ◌∙◌, arith}
use Rattle.std.specs.Prelude.{ℤ, pos, negsuc, ◌+ℤ◌, ◌*ℤ◌}
use Rattle.std.proofs.Math.Arith.{mod-mul}
use Rattle.std.proofs.Math.Nat.{mul-div_cancel_left, mul-mod_right, mul-add-div, mul-add-mod_self_left, div-div-eq-div-mul}
use Rattle.std.proofs.lemmas.Int.{ints}
use Rattle.std.proofs.lemmas.Nat.{div-mul-add, mod-mul-add}
use Rattle.nd_model.specs.Indexing.Advanced.{unravelled}
use Rattle.nd_model.specs.Arrays.Strides.{way_to}
use Rattle.nd_model.specs.Arrays.Tuple.{elements_of}
use Rattle.nd_index.proofs.offsets.Numbers.{elements_split, parts_few}
use Rattle.nd_index.proofs.offsets.Sums.{zero_way}

pub both : (x y : ℕ) (z : ℤ) → pos (x + y) *ℤ z ≡ (pos x *ℤ z) +ℤ (pos y *ℤ z)
both x y (pos m) = omega (arith, ints)
both zero y (negsuc m) = let none : pos 0 *ℤ negsuc m ≡ pos 0 = omega (arith, ints) in let few : 0 + y ≡ y = omega arith in rw (few, none) (omega (arith, ints))
both (suc x) zero (negsuc m) = let none : pos 0 *ℤ negsuc m ≡ pos 0 = omega (arith, ints) in let few : suc x + 0 ≡ suc x = omega arith in rw (few, none) (omega (arith, ints))
both (suc x) (suc y) (negsuc m) = omega (arith, ints)

joined : (x y rest zero_th : ℤ) → zero_th ≡ pos 0 → (x +ℤ y) +ℤ rest ≡ (x +ℤ zero_th) +ℤ (y +ℤ rest)
joined x y rest zero_th none = omega (arith, ints, none)

further : (x y z : ℤ) → x +ℤ (y +ℤ z) ≡ (x +ℤ y) +ℤ z
further x y z = omega (arith, ints)

whole_split : (n : ℕ) (shape : List ℕ) (s : ℤ) (strides : List ℤ) (q r : ℕ) → 0 < elements_of shape
    → way_to (unravelled (n ∷ shape) (q * (n * elements_of shape) + r)) (s ∷ strides)
    ≡ way_to (unravelled (n ∷ shape) (q * (n * elements_of shape))) (s ∷ strides) +ℤ way_to (unravelled (n ∷ shape) r) (s ∷ strides)
whole_split n shape s strides q r some =
    let e : ℕ = elements_of shape in
    let same : q * (n * e) ≡ e * (q * n) = omega arith in
    let top : (q * (n * e) + r) / e ≡ q * n + r / e = ap (λ m. (m + r) / e) same ∙ mul-add-div some (q * n) r in
    let low : (q * (n * e) + r) % e ≡ r % e = ap (λ m. (m + r) % e) same ∙ mul-add-mod_self_left e (q * n) r in
    let first : q * (n * e) / e ≡ q * n = ap (λ m. m / e) same ∙ mul-div_cancel_left (q * n) some in
    let none : q * (n * e) % e ≡ 0 = ap (λ m. m % e) same ∙ mul-mod_right e (q * n) in
    (λ i. (pos (top i) *ℤ s) +ℤ way_to (unravelled shape (low i)) strides)
    ∙ ap (λ z. z +ℤ way_to (unravelled shape (r % e)) strides) (both (q * n) (r / e) s)
    ∙ joined (pos (q * n) *ℤ s) (pos (r / e) *ℤ s) (way_to (unravelled shape (r % e)) strides) (way_to (unravelled shape 0) strides) (zero_way shape strides)
    ∙ (λ i. ((pos (sym first i) *ℤ s) +ℤ way_to (unravelled shape (sym none i)) strides) +ℤ ((pos (r / e) *ℤ s) +ℤ way_to (unravelled shape (r % e)) strides))

-- the element r behind the first of block q, where a block has all elements of the axes from a on
pub split_way : (a : ℕ) (shape : List ℕ) (strides : List ℤ) (q r : ℕ) → length strides ≡ length shape → 0 < elements_of shape → r < elements_of (drop a shape)
    → way_to (unravelled shape (q * elements_of (drop a shape) + r)) strides
    ≡ way_to (unravelled shape (q * elements_of (drop a shape))) strides +ℤ way_to (unravelled (drop a shape) r) (drop a strides)
split_way zero [] strides q r same some lt = refl
split_way (suc a) [] strides q r same some lt = refl
split_way a (n ∷ shape) [] q r same some lt = absurd (omega (arith, same))
split_way zero (n ∷ shape) (s ∷ strides) q r same some lt =
    let parts = parts_few n (elements_of shape) (n * elements_of shape) refl some in
    whole_split n shape s strides q r parts.1.0
split_way (suc a) (n ∷ shape) (s ∷ strides) q r same some lt =
    let e : ℕ = elements_of shape in let b : ℕ = elements_of (drop a shape) in let m : ℕ = elements_of (take a shape) in
    let split : e ≡ m * b = elements_split a shape in
    let turned : e ≡ b * m = omega (arith, split) in
    let parts = parts_few n e (n * e) refl some in
    let inner = parts_few m b e split parts.1.0 in
    let bare : q * b ≡ q * b + 0 = omega arith in
    let own : q * b / b ≡ q = ap (λ x. x / b) bare ∙ div-mul-add q b 0 inner.1.0 in
    let none : q * b % b ≡ 0 = ap (λ x. x % b) bare ∙ mod-mul-add q b 0 inner.1.0 in
    let alike : (q * b + r) / b ≡ q * b / b = div-mul-add q b r lt ∙ sym own in
    let top : (q * b + r) / e ≡ q * b / e =
    ap (λ x. (q * b + r) / x) turned ∙ sym (div-div-eq-div-mul (q * b + r) b m) ∙ ap (λ x. x / m) alike
    ∙ div-div-eq-div-mul (q * b) b m ∙ ap (λ x. q * b / x) (sym turned) in
    let low : (q * b + r) % e ≡ (q % m) * b + r =
    ap (λ x. (q * b + r) % x) split ∙ mod-mul (q * b + r) inner.0.0 inner.1.0 ∙ (λ i. (div-mul-add q b r lt i % m) * b + mod-mul-add q b r lt i) in
    let first : q * b % e ≡ (q % m) * b =
    ap (λ x. q * b % x) split ∙ mod-mul (q * b) inner.0.0 inner.1.0 ∙ (λ i. (own i % m) * b + none i) ∙ sym (bare_of (q % m) b) in
    let behind = way_to (unravelled (drop a shape) r) (drop a strides) in
    (λ i. (pos (top i) *ℤ s) +ℤ way_to (unravelled shape (low i)) strides)
    ∙ ap (λ z. (pos (q * b / e) *ℤ s) +ℤ z) (split_way a shape strides (q % m) r (omega (arith, same)) parts.1.0 lt)
    ∙ further (pos (q * b / e) *ℤ s) (way_to (unravelled shape ((q % m) * b)) strides) behind
    ∙ (λ i. ((pos (q * b / e) *ℤ s) +ℤ way_to (unravelled shape (sym first i)) strides) +ℤ behind)
  where
    bare_of : (x b : ℕ) → x * b ≡ x * b + 0
    bare_of x b = omega arith
