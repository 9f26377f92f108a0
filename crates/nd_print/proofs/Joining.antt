-- Texts with a separator between two of them.
use Rattle.std.proofs.Common.{◌≡◌, ℕ, zero, suc, ◌+◌, ◌*◌, ◌<◌, ◌≤◌, List, [], ◌∷◌, ◌++◌, map, length, get_or, take, sym, ap, ap₂, ◌∙◌, arith, append_assoc, length-append}
use Rattle.std.specs.List.{All, flat_map}
use Rattle.std.proofs.lemmas.List.{map-append, append-nil, take_more, length-map, length-take}
use Rattle.std.proofs.lemmas.List.Elements.{All-head, All-tail}
use Rattle.std.proofs.lemmas.Grind.{flat_map-append}
use Rattle.nd_model.specs.Text.Text.{joined}

joined_more : (between : List ℕ) (ps : List (List ℕ)) (q : List ℕ) → 0 < length ps → joined between (ps ++ q ∷ []) ≡ joined between ps ++ (between ++ q)
joined_more between [] q lt = absurd (omega arith)
joined_more between (p ∷ ps) q lt =
    let one : List ℕ = between ++ q in
    let rest : List ℕ = flat_map (λ r. between ++ r) ps in
    let last : flat_map (λ r. between ++ r) (ps ++ q ∷ []) ≡ rest ++ one = flat_map-append (λ r. between ++ r) ps (q ∷ []) ∙ ap (λ l. rest ++ l) (append-nil one) in
    ap (λ r. p ++ r) last ∙ sym (append_assoc p rest one)

module _ {X : Type 0} (between : List ℕ) (f : X → List ℕ) (xs : List X) where
  mapped_more : (i : ℕ) (d : X) → i < length xs → map f (take (i + 1) xs) ≡ map f (take i xs) ++ f (get_or xs i d) ∷ []
  mapped_more i d lt = ap (map f) (take_more xs i d lt) ∙ map-append f (take i xs) (get_or xs i d ∷ [])

  -- the first one stands alone, each other one has the separator before it
  pub joined_first : (i : ℕ) (d : X) → i ≤ 0 → i < length xs → joined between (map f (take (i + 1) xs)) ≡ joined between (map f (take i xs)) ++ f (get_or xs i d)
  joined_first zero d le lt = ap (joined between) (mapped_more 0 d lt) ∙ append-nil (f (get_or xs 0 d))
  joined_first (suc i) d le lt = absurd (omega arith)

  pub joined_next : (i : ℕ) (d : X) → 0 < i → i < length xs → joined between (map f (take (i + 1) xs)) ≡ joined between (map f (take i xs)) ++ (between ++ f (get_or xs i d))
  joined_next i d some lt =
      let long : 0 < length (map f (take i xs)) = simp (length-map, length-take) (omega arith) in
      ap (joined between) (mapped_more i d lt) ∙ joined_more between (map f (take i xs)) (f (get_or xs i d)) long

pub regroup : (a b c d : List ℕ) → ((a ++ b) ++ c) ++ d ≡ a ++ (b ++ (c ++ d))
regroup a b c d = simp append_assoc

-- texts of the same length
module _ (between : List ℕ) (each : ℕ) where
  length-further : (ps : List (List ℕ)) → All (λ p. length p ≡ each) ps → length (flat_map (λ q. between ++ q) ps) ≡ length ps * (length between + each)
  length-further [] h = none (length between + each)
    where
      none : (a : ℕ) → 0 ≡ 0 * a
      none a = omega arith
  length-further (p ∷ ps) h =
      length-append (between ++ p) (flat_map (λ q. between ++ q) ps)
      ∙ ap₂ (λ a b. a + b) (length-append between p ∙ ap (λ n. length between + n) (All-head (λ p. length p ≡ each) p ps h)) (length-further ps (All-tail (λ p. length p ≡ each) p ps h))
      ∙ one_more (length between + each) (length ps)
    where
      one_more : (a n : ℕ) → a + n * a ≡ suc n * a
      one_more a n = omega arith

  pub length-joined : (n : ℕ) (ps : List (List ℕ)) → All (λ p. length p ≡ each) ps → length ps ≡ suc n → length (joined between ps) ≡ n * (each + length between) + each
  length-joined n [] h e = absurd (omega arith)
  length-joined n (p ∷ ps) h e =
      let number : length ps ≡ n = omega arith in
      length-append p (flat_map (λ q. between ++ q) ps)
      ∙ ap₂ (λ a b. a + b) (All-head (λ p. length p ≡ each) p ps h) (length-further ps (All-tail (λ p. length p ≡ each) p ps h) ∙ ap (λ m. m * (length between + each)) number)
      ∙ turned each (n * (length between + each)) (n * (each + length between)) (ap (λ m. n * m) (swapped (length between) each))
    where
      swapped : (a b : ℕ) → a + b ≡ b + a
      swapped a b = omega arith

      turned : (a b c : ℕ) → b ≡ c → a + b ≡ c + a
      turned a b c e = omega arith
