-- How texts and fronts begin.
use Rattle.std.proofs.Common.{◌≡◌, ℕ, zero, suc, ◌<◌, true, false, List, [], length, refl, subst, ◌∙◌, arith, inl, inr, ◌⊎◌}
use Rattle.nd_model.specs.Grammar.Predict.{Look, look_then}
use Rattle.nd_model.proofs.Parsing.Sets.{true_false, next_left, next_right, also_left, also_right}
use Rattle.nd_model.proofs.Parsing.Laws.{fits_then, fits_or, fits_many}
use Rattle.nd_model.specs.Formats.Rules.{Rule, Nothing, One, Then, Or, Many, Part, kinds_of, Repeats, Spans, Reaches}
use Rattle.nd_model.specs.Formats.RuleReading.{look, head, stands}

-- A text is empty, or it begins with a token of `first`, and fewer parts are left after it.
abbrev pub Front : Look → List Part → List Part → Type 0
Front l ps rest = ((rest ≡ ps) × (l.empty ≡ true)) ⊎ ((stands l.first (kinds_of ps) ≡ true) × (length rest < length ps))

pub same : (set : ℕ) (ps mid : List Part) → mid ≡ ps → stands set (kinds_of mid) ≡ true → stands set (kinds_of ps) ≡ true
same set ps mid e h = subst (λ l. stands set (kinds_of l) ≡ true) e h

front_then : (a b : Look) (ps mid rest : List Part) → Front a ps mid → Front b mid rest → Front (look_then a b) ps rest
front_then a b ps mid rest (inl p) (inl q) = inl (q.0 ∙ p.0, rw (p.1, q.1) refl)
front_then a b ps mid rest (inl p) (inr q) = inr (also_right head a.empty a.first b.first (kinds_of ps) p.1 (same b.first ps mid p.0 q.0), rw (← p.0) q.1)
front_then a b ps mid rest (inr p) (inl q) = inr (also_left head a.empty a.first b.first (kinds_of ps) p.0, rw q.0 p.1)
front_then a b ps mid rest (inr p) (inr q) = inr (also_left head a.empty a.first b.first (kinds_of ps) p.0, (let x = p.1 in let y = q.1 in omega arith))

pub front_many : (R : List Part → List Part → Type 0) (l : Look) → l.empty ≡ false → ((ps rest : List Part) → R ps rest → Front l ps rest)
    → (n : ℕ) (ps rest : List Part) → Repeats R n ps rest → (rest ≡ ps) ⊎ ((stands l.first (kinds_of ps) ≡ true) × (length rest < length ps))
front_many R l e each zero ps rest h = inl h
front_many R l e each (suc n) ps rest h =
    elim (each ps h.0 h.1) [
      | inl p ↦ true_false _ p.1 e
      | inr p ↦ inr (
        p.0,
        elim (front_many R l e each n h.0 rest h.2) [
          | inl q ↦ rw q p.1
          | inr q ↦ (let y = p.1 in let z = q.1 in omega arith)
        ],
      )
    ]

pub front : (r : Rule) (ps rest : List Part) → (look r).fits ≡ true → Spans r ps rest → Front (look r) ps rest
front Nothing ps rest fit h = inl (h, refl)
front (One role set) ps rest fit h = inr (rw h.1 h.3, rw h.1 (omega arith))
front (Then a b) ps rest fit h =
    let fits = fits_then (look a) (look b) fit in
    front_then (look a) (look b) ps h.0 rest (front a ps h.0 fits.0 h.1) (front b h.0 rest fits.1 h.2)
front (Or set a b) ps rest fit (inl h) =
    let fits = fits_or set (look a) (look b) fit in
    elim (front a ps rest fits.0 h) [ inl p ↦ true_false _ p.1 fits.2 | inr p ↦ inr (next_left head _ _ (kinds_of ps) p.0, p.1) ]
front (Or set a b) ps rest fit (inr h) =
    let fits = fits_or set (look a) (look b) fit in
    elim (front b ps rest fits.1 h) [ inl p ↦ inl p | inr p ↦ inr (next_right head _ _ (kinds_of ps) p.0, p.1) ]
front (Many set a) ps rest fit h =
    let fits = fits_many set (look a) fit in
    elim (front_many (Spans a) (look a) fits.1 (λ ps rest s. front a ps rest fits.0 s) h.0 ps rest h.1) [ inl p ↦ inl (p, refl) | inr p ↦ inr p ]

-- nothing is a front
pub none : (r : Rule) → Reaches r []
none Nothing = refl
none (One role set) = inl refl
none (Then a b) = inl (none a)
none (Or set a b) = inl (none a)
none (Many set a) = (zero, [], refl, inl refl)

-- a whole text is a front
pub whole : (r : Rule) (ps : List Part) → Spans r ps [] → Reaches r ps
whole Nothing ps h = (let e : [] ≡ ps = h in cc)
whole (One role set) ps h = inr h
whole (Then a b) ps h = inr (h.0, h.1, whole b h.0 h.2)
whole (Or set a b) ps (inl h) = inl (whole a ps h)
whole (Or set a b) ps (inr h) = inr (whole b ps h)
whole (Many set a) ps h = (h.0, [], h.1, inl refl)

abbrev pub Starts : ℕ → List Part → Type 0
Starts set ps = (ps ≡ []) ⊎ (stands set (kinds_of ps) ≡ true)

starts_from : (set : ℕ) (ps mid : List Part) → mid ≡ ps → Starts set mid → Starts set ps
starts_from set ps mid e h = subst (Starts set) e h

-- A front is empty, or it begins with a token of `first`.
pub starts : (r : Rule) (ps : List Part) → (look r).fits ≡ true → Reaches r ps → Starts (look r).first ps
starts Nothing ps fit h = inl h
starts (One role set) ps fit (inl h) = inl h
starts (One role set) ps fit (inr h) = inr (rw h.1 h.3)
starts (Then a b) ps fit (inl h) =
    let fits = fits_then (look a) (look b) fit in
    elim (starts a ps fits.0 h) [ inl p ↦ inl p | inr p ↦ inr (also_left head _ _ _ (kinds_of ps) p) ]
starts (Then a b) ps fit (inr h) =
    let fits = fits_then (look a) (look b) fit in
    elim (front a ps h.0 fits.0 h.1) [
      | inl p ↦ elim (starts_from (look b).first ps h.0 p.0 (starts b h.0 fits.1 h.2)) [ inl q ↦ inl q | inr q ↦ inr (also_right head _ _ _ (kinds_of ps) p.1 q) ]
      | inr p ↦ inr (also_left head _ _ _ (kinds_of ps) p.0)
    ]
starts (Or set a b) ps fit (inl h) =
    let fits = fits_or set (look a) (look b) fit in
    elim (starts a ps fits.0 h) [ inl p ↦ inl p | inr p ↦ inr (next_left head _ _ (kinds_of ps) p) ]
starts (Or set a b) ps fit (inr h) =
    let fits = fits_or set (look a) (look b) fit in
    elim (starts b ps fits.1 h) [ inl p ↦ inl p | inr p ↦ inr (next_right head _ _ (kinds_of ps) p) ]
starts (Many set a) ps fit h =
    let fits = fits_many set (look a) fit in
    elim (front_many (Spans a) (look a) fits.1 (λ ps rest s. front a ps rest fits.0 s) h.0 ps h.1 h.2) [
      | inl p ↦ elim h.3 [ inl q ↦ starts_from _ ps h.1 p (inl q) | inr q ↦ starts_from _ ps h.1 p (starts a h.1 fits.0 q) ]
      | inr p ↦ inr p.0
    ]
