-- One length further on the loops over the lengths of a new shape.
use Rattle.std.proofs.Common.{◌≡◌, ℕ, zero, suc, ◌+◌, ◌*◌, ◌<◌, ◌≤◌, ℤ, List, [], ◌∷◌, ◌++◌, min, length, get_or, drop, refl, sym, ap, ◌∙◌, inl, inr, arith, add-one, append-nil, drop-cons}
use Rattle.std.proofs.lemmas.Bool.{cases_lt}
use Rattle.std.proofs.lemmas.List.{drop_all}
use Rattle.nd_model.specs.Indexing.Reshaping.{length_or, lengths_with, known_elements}
use Rattle.nd_shape.proofs.Pushed.{joined}

-- a product that is cut off may be cut off before
min_mul : (p n r c : ℕ) → min (min (p * n) c * r) c ≡ min (p * (n * r)) c
min_mul p n r c = elim (cases_lt (p * n) c) [
  | inl small ↦ let same : min (p * n) c ≡ p * n = omega arith in ap (λ m. min (m * r) c) same ∙ ap (λ m. min m c) (grouped p n r)
  | inr great ↦ let same : min (p * n) c ≡ c = omega arith in ap (λ m. min (m * r) c) same ∙ by great r ∙ ap (λ m. min m c) (grouped p n r)
]
  where
    grouped : (p n r : ℕ) → p * n * r ≡ p * (n * r)
    grouped p n r = omega arith

    cut : (a c : ℕ) → c ≤ a → min a c ≡ c
    cut a c le = omega arith

    more : (a r : ℕ) → a ≤ a * suc r
    more a r = omega arith

    by : c ≤ p * n → (r : ℕ) → min (c * r) c ≡ min (p * n * r) c
    by great zero = let one : c * 0 ≡ 0 = omega arith in let two : p * n * 0 ≡ 0 = omega arith in rw (one, two) refl
    by great (suc r) = cut (c * suc r) c (more c r) ∙ sym (cut (p * n * suc r) c (at_least (more (p * n) r)))
      where
        at_least : p * n ≤ p * n * suc r → c ≤ p * n * suc r
        at_least le = omega arith

first_of : (zs : List ℤ) (k : ℕ) (d : ℤ) → k < length zs → drop k zs ≡ get_or zs k d ∷ drop (k + 1) zs
first_of zs k d lt = rw add-one (drop-cons zs k d lt)

pub known_next : (zs : List ℤ) (k : ℕ) (d : ℤ) (count new whole c : ℕ) → k < length zs → new ≡ min (count * length_or 1 (get_or zs k d)) c → min (count * known_elements (drop k zs)) c ≡ whole
    → min (new * known_elements (drop (k + 1) zs)) c ≡ whole
known_next zs k d count new whole c lt is so_far =
    ap (λ m. min (m * known_elements (drop (k + 1) zs)) c) is ∙ min_mul count (length_or 1 (get_or zs k d)) (known_elements (drop (k + 1) zs)) c
    ∙ (λ i. min (count * known_elements (sym (first_of zs k d lt) i)) c) ∙ so_far

pub known_last : (zs : List ℤ) (k count whole c : ℕ) → length zs ≤ k → count ≤ c → min (count * known_elements (drop k zs)) c ≡ whole → count ≡ whole
known_last zs k count whole c le few so_far =
    let none : drop k zs ≡ [] = drop_all k zs le in
    one count c few ∙ (λ i. min (count * known_elements (sym none i)) c) ∙ so_far
  where
    one : (a c : ℕ) → a ≤ c → a ≡ min (a * 1) c
    one a c le = omega arith

pub lengths_next : (left : ℕ) (zs : List ℤ) (k : ℕ) (d : ℤ) (items new : List ℕ) (v : ℕ) → k < length zs → v ≡ length_or left (get_or zs k d) → new ≡ items ++ v ∷ []
    → items ++ lengths_with left (drop k zs) ≡ lengths_with left zs → new ++ lengths_with left (drop (k + 1) zs) ≡ lengths_with left zs
lengths_next left zs k d items new v lt is made so_far =
    joined items new (lengths_with left (drop (k + 1) zs)) (lengths_with left zs) v made
    ((λ i. items ++ is i ∷ lengths_with left (drop (k + 1) zs)) ∙ (λ i. items ++ lengths_with left (sym (first_of zs k d lt) i)) ∙ so_far)

pub lengths_last : (left : ℕ) (zs : List ℤ) (k : ℕ) (items : List ℕ) → length zs ≤ k → items ++ lengths_with left (drop k zs) ≡ lengths_with left zs → items ≡ lengths_with left zs
lengths_last left zs k items le so_far =
    let none : drop k zs ≡ [] = drop_all k zs le in sym (append-nil items) ∙ (λ i. items ++ lengths_with left (sym none i)) ∙ so_far
