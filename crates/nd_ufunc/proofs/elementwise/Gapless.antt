-- Elements that lie one after another, without gaps.
use Rattle.std.proofs.Common.{◌≡◌, ℕ, zero, suc, ◌+◌, ◌*◌, List, [], ◌∷◌, ◌++◌, map, length, refl, sym, ◌∙◌, subst, arith, get_or, ◌<◌}
use Rattle.nd_model.specs.Arrays.Tuple.{count_up}
use Rattle.nd_view.specs.SideBySide.{side_by_side}

-- elements of so many bytes, from that of this number on: element 0 begins at `first`
abbrev pub AreStepped : (size first at : ℕ) → List ℕ → Type 0
AreStepped size first at [] = Unit {0}
AreStepped size first at (q ∷ qs) = (q ≡ first + at * size) × AreStepped size first (at + 1) qs

module _ (size first : ℕ) where
  pub stepped_append : (at : ℕ) (ps qs : List ℕ) → AreStepped size first at ps → AreStepped size first (at + length ps) qs → AreStepped size first at (ps ++ qs)
  stepped_append at [] qs a b = let same : at + 0 ≡ at = omega arith in subst (λ n. AreStepped size first n qs) same b
  stepped_append at (p ∷ ps) qs a b =
      let same : at + suc (length ps) ≡ at + 1 + length ps = omega arith in
      (a.0, stepped_append (at + 1) ps qs a.1 (subst (λ n. AreStepped size first n qs) same b))

  pub stepped_further : (at : ℕ) (ps qs : List ℕ) → AreStepped size first at (ps ++ qs) → AreStepped size first (at + length ps) qs
  stepped_further at [] qs a = let same : at ≡ at + 0 = omega arith in subst (λ n. AreStepped size first n qs) same a
  stepped_further at (p ∷ ps) qs a =
      let same : at + 1 + length ps ≡ at + suc (length ps) = omega arith in
      subst (λ n. AreStepped size first n qs) same (stepped_further (at + 1) ps qs a.1)

  pub stepped_front : (at : ℕ) (ps qs : List ℕ) → AreStepped size first at (ps ++ qs) → AreStepped size first at ps
  stepped_front at [] qs a = tt
  stepped_front at (p ∷ ps) qs a = (a.0, stepped_front (at + 1) ps qs a.1)

  counted : (at n : ℕ) → AreStepped size first at (map (λ k. first + k * size) (count_up at n))
  counted at zero = tt
  counted at (suc n) = (refl, counted (at + 1) n)

  as_counted : (at : ℕ) (qs : List ℕ) → AreStepped size first at qs → qs ≡ map (λ k. first + k * size) (count_up at (length qs))
  as_counted at [] a = refl
  as_counted at (q ∷ qs) a = λ i. a.0 i ∷ as_counted (at + 1) qs a.1 i

  -- from the first one on
  pub from_first : (qs : List ℕ) → qs ≡ side_by_side size first (length qs) → AreStepped size first 0 qs
  from_first qs is = subst (AreStepped size first 0) (sym is) (counted 0 (length qs))

  pub to_first : (qs : List ℕ) → AreStepped size first 0 qs → qs ≡ side_by_side size first (length qs)
  to_first qs a = as_counted 0 qs a

  -- the same elements, counted from a later one
  pub later : (at j : ℕ) (qs : List ℕ) → AreStepped size (first + at * size) j qs → AreStepped size first (at + j) qs
  later at j [] a = tt
  later at j (q ∷ qs) a =
      let here : first + at * size + j * size ≡ first + (at + j) * size = omega arith in
      let next : at + (j + 1) ≡ at + j + 1 = omega arith in
      (a.0 ∙ here, subst (λ n. AreStepped size first n qs) next (later at (j + 1) qs a.1))

  pub earlier : (at j : ℕ) (qs : List ℕ) → AreStepped size first (at + j) qs → AreStepped size (first + at * size) j qs
  earlier at j [] a = tt
  earlier at j (q ∷ qs) a =
      let here : first + (at + j) * size ≡ first + at * size + j * size = omega arith in
      let next : at + j + 1 ≡ at + (j + 1) = omega arith in
      (a.0 ∙ here, earlier at (j + 1) qs (subst (λ n. AreStepped size first n qs) next a.1))

-- a run that begins where an element is due
pub due : (size first at : ℕ) (run : List ℕ) → run ≡ side_by_side size (first + at * size) (length run) → AreStepped size first at run
due size first at run is =
    let none : at + 0 ≡ at = omega arith in
    subst (λ n. AreStepped size first n run) none (later size first at 0 run (from_first size (first + at * size) run is))

pub was_due : (size first at : ℕ) (run : List ℕ) → AreStepped size first at run → run ≡ side_by_side size (first + at * size) (length run)
was_due size first at run a =
    let none : at ≡ at + 0 = omega arith in
    to_first size (first + at * size) run (earlier size first at 0 run (subst (λ n. AreStepped size first n run) none a))

-- the first of them
pub begins : (size first n : ℕ) → 0 < n → get_or (side_by_side size first n) 0 0 ≡ first
begins size first zero lt = absurd (omega arith)
begins size first (suc n) lt = omega arith
