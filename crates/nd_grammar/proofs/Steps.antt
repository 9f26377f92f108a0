-- What a step of a reading says of the rules, and that the rules behind it are fit to be read.
use Rattle.std.proofs.Common.{◌≡◌, ℕ, zero, suc, Bool, true, false, List, [], ◌∷◌, refl, sym, subst, ◌∙◌, arith, inl, inr, ◌⊎◌}
use Rattle.std.specs.Prelude.{bit_or, ◌==◌, max}
use Rattle.std.specs.Int.{bit_at}
use Rattle.std.proofs.lemmas.Bool.{eqb-true}
use Rattle.std.proofs.lemmas.Nat.Bits.{bit_at_or, bit_at-zero}
use Rattle.nd_model.specs.Grammar.Grammar.{has}
use Rattle.nd_model.specs.Grammar.Predict.{also}
use Rattle.nd_model.proofs.Parsing.Sets.{eq-true, true_false, which, chosen, next_left, next_right, next_apart, also_left, also_right}
use Rattle.nd_model.proofs.Parsing.Laws.{fits_then, fits_or, fits_many}
use Rattle.nd_model.specs.Formats.Rules.{Rule, Nothing, One, Then, Or, Many, Part}
use Rattle.nd_model.specs.Formats.RuleReading.{look, head, stands, Step, Taken, Refused, Ended, step_by, step}
use Rattle.nd_grammar.proofs.Moves.{uncut, recut, Goes}

-- ---- what is taken is a text, or a front

regroup_then : (w : Bool) (a b : Rule) (k : List Rule) (ps : List Part) → Goes w (a ∷ b ∷ k) ps → Goes w (Then a b ∷ k) ps
regroup_then w a b k ps (inl c) = inl (recut c (inl (uncut c)))
regroup_then w a b k ps (inr (mid, sa, inl c)) = inl (recut c (inr (mid, sa, uncut c)))
regroup_then w a b k ps (inr (mid, sa, inr (other, sb, g))) = inr (other, (mid, sa, sb), g)

regroup_left : (w : Bool) (set : ℕ) (a b : Rule) (k : List Rule) (ps : List Part) → Goes w (a ∷ k) ps → Goes w (Or set a b ∷ k) ps
regroup_left w set a b k ps (inl c) = inl (recut c (inl (uncut c)))
regroup_left w set a b k ps (inr (mid, sa, g)) = inr (mid, inl sa, g)

regroup_right : (w : Bool) (set : ℕ) (a b : Rule) (k : List Rule) (ps : List Part) → Goes w (b ∷ k) ps → Goes w (Or set a b ∷ k) ps
regroup_right w set a b k ps (inl c) = inl (recut c (inr (uncut c)))
regroup_right w set a b k ps (inr (mid, sa, g)) = inr (mid, inr sa, g)

regroup_many : (w : Bool) (set : ℕ) (a : Rule) (k : List Rule) (ps : List Part) → Goes w (a ∷ Many set a ∷ k) ps → Goes w (Many set a ∷ k) ps
regroup_many w set a k ps (inl c) = inl (recut c (zero, ps, refl, inr (uncut c)))
regroup_many w set a k ps (inr (mid, sa, inl c)) = let h = uncut c in inl (recut c (suc h.0, h.1, (mid, sa, h.2), h.3))
regroup_many w set a k ps (inr (mid, sa, inr (other, sm, g))) = inr (other, (suc sm.0, (mid, sa, sm.1)), g)

-- A step by the rule that isn't refused is one by a token that it takes first, or by the rules behind it.
pub sound : (w : Bool) (x : Step) (ps : List Part) (ts : List ℕ) → (Refused ≡ x → ⊥)
    → ((role set : ℕ) (k : List Rule) → stands set ts ≡ true → Taken role k ≡ x → Goes w (One role set ∷ k) ps)
    → (r : Rule) (k : List Rule) (s : Step) → step_by r ts k s ≡ x → (s ≡ x → Goes w k ps) → Goes w (r ∷ k) ps
sound w x ps ts unlike take Nothing k s e f = inr (ps, refl, f e)
sound w x ps ts unlike take (One role set) k s e f =
    elim (chosen (stands set ts) (Taken role k) Refused x e) [ inl c ↦ take role set k c.0 c.1 | inr c ↦ absurd (unlike c.1) ]
sound w x ps ts unlike take (Then a b) k s e f =
    regroup_then w a b k ps (sound w x ps ts unlike take a (b ∷ k) (step_by b ts k s) e (λ d. sound w x ps ts unlike take b k s d f))
sound w x ps ts unlike take (Or set a b) k s e f =
    elim (chosen (stands set ts) (step_by a ts k s) (step_by b ts k s) x e) [
      | inl c ↦ regroup_left w set a b k ps (sound w x ps ts unlike take a k s c.1 f)
      | inr c ↦ regroup_right w set a b k ps (sound w x ps ts unlike take b k s c.1 f)
    ]
sound w x ps ts unlike take (Many set a) k s e f =
    elim (chosen (stands set ts) (step_by a ts (Many set a ∷ k) Refused) s x e) [
      | inl c ↦ regroup_many w set a k ps (sound w x ps ts unlike take a (Many set a ∷ k) Refused c.1 (λ d. absurd (unlike d)))
      | inr c ↦ inr (ps, (zero, refl), f c.1)
    ]

pub sounds : (w : Bool) (x : Step) (ps : List Part) (ts : List ℕ) → (Refused ≡ x → ⊥)
    → ((role set : ℕ) (k : List Rule) → stands set ts ≡ true → Taken role k ≡ x → Goes w (One role set ∷ k) ps)
    → (Ended ≡ x → Goes w [] ps) → (k : List Rule) → step k ts ≡ x → Goes w k ps
sounds w x ps ts unlike take end [] e = end e
sounds w x ps ts unlike take end (r ∷ k) e = sound w x ps ts unlike take r k (step k ts) e (λ d. sounds w x ps ts unlike take end k d)

-- ---- what stays fit

-- no token is in both sets
abbrev pub Apart : ℕ → ℕ → Type 0
Apart a b = (ts : List ℕ) → stands a ts ≡ true → stands b ts ≡ true → ⊥

abbrev pub firsts : List Rule → ℕ
firsts [] = 0
firsts (r ∷ k) = also (look r).empty (look r).first (firsts k)

abbrev pub AreFit : List Rule → Type 0
AreFit [] = Unit {0}
AreFit (r ∷ k) = ((look r).fits ≡ true) × Apart (look r).ext (firsts k) × AreFit k

has_either : (a b k : ℕ) → has (bit_or a b) k ≡ true → (has a k ≡ true) ⊎ (has b k ≡ true)
unfolding has
has_either a b k h = elim (which (bit_at a k == 1)) [
  | inl p ↦ inl p
  | inr p ↦
      let one : bit_at (bit_or a b) k ≡ 1 = eqb-true _ _ h in
      let m : max (bit_at a k) (bit_at b k) ≡ 1 = sym (bit_at_or a b k) ∙ one in
      inr (eq-true (bit_at b k) 1 (other (bit_at a k) (bit_at b k) m (λ e. true_false {A = ⊥} _ (eq-true _ _ e) p)))
]
  where
    other : (x y : ℕ) → max x y ≡ 1 → (x ≡ 1 → ⊥) → y ≡ 1
    other x y m unlike = omega arith

pub has_zero : (k : ℕ) → has 0 k ≡ true → ⊥
unfolding has
has_zero k h =
    let one : bit_at 0 k ≡ 1 = eqb-true _ _ h in
    omega (arith, one, bit_at-zero k)

stands_either : (a b : ℕ) (ts : List ℕ) → stands (bit_or a b) ts ≡ true → (stands a ts ≡ true) ⊎ (stands b ts ≡ true)
stands_either a b [] h = absurd cc
stands_either a b (t ∷ ts) h = has_either a b t h

also_either : (e : Bool) (a b : ℕ) (ts : List ℕ) → stands (also e a b) ts ≡ true → (stands a ts ≡ true) ⊎ ((e ≡ true) × (stands b ts ≡ true))
also_either true a b ts h = elim (stands_either a b ts h) [ inl p ↦ inl p | inr p ↦ inr (refl, p) ]
also_either false a b ts h = inl h

-- the rules behind a step are fit
pub keep : (role : ℕ) (j : List Rule) (ts : List ℕ) (r : Rule) (k : List Rule) (s : Step) → AreFit (r ∷ k) → step_by r ts k s ≡ Taken role j → (s ≡ Taken role j → AreFit j) → AreFit j
keep role j ts Nothing k s h e f = f e
keep role j ts (One n set) k s h e f =
    elim (chosen (stands set ts) (Taken n k) Refused (Taken role j) e) [ inl c ↦ (let same : k ≡ j = (let d = c.1 in cc) in subst AreFit same h.2) | inr c ↦ absurd (let d = c.1 in cc) ]
keep role j ts (Then a b) k s h e f =
    let fits = fits_then (look a) (look b) h.0 in
    let second : AreFit (b ∷ k) = (fits.1, λ us p q. h.1 us (also_left head _ _ _ us p) q, h.2) in
    let first : Apart (look a).ext (firsts (b ∷ k)) =
    λ us p q.
    elim (also_either (look b).empty (look b).first (firsts k) us q) [
      | inl m ↦ next_apart head _ _ us fits.2 p m
      | inr m ↦ h.1 us (also_right head (look b).empty (look b).ext (look a).ext us m.0 p) m.1
    ] in
    keep role j ts a (b ∷ k) (step_by b ts k s) (fits.0, first, second) e (λ d. keep role j ts b k s second d f)
keep role j ts (Or set a b) k s h e f =
    let fits = fits_or set (look a) (look b) h.0 in
    elim (chosen (stands set ts) (step_by a ts k s) (step_by b ts k s) (Taken role j) e) [
      | inl c ↦ keep role j ts a k s (fits.0, λ us p q. h.1 us (also_left head (look b).empty _ _ us (next_left head _ _ us p)) q, h.2) c.1 f
      | inr c ↦ keep role j ts b k s (fits.1, λ us p q. h.1 us (also_left head (look b).empty _ _ us (next_right head _ _ us p)) q, h.2) c.1 f
    ]
keep role j ts (Many set a) k s h e f =
    let fits = fits_many set (look a) h.0 in
    let first : Apart (look a).ext (firsts (Many set a ∷ k)) =
    λ us p q.
    elim (stands_either (look a).first (firsts k) us q) [
      | inl m ↦ next_apart head _ _ us fits.3 p m
      | inr m ↦ h.1 us (next_right head _ _ us p) m
    ] in
    elim (chosen (stands set ts) (step_by a ts (Many set a ∷ k) Refused) s (Taken role j) e) [
      | inl c ↦ keep role j ts a (Many set a ∷ k) Refused (fits.0, first, h) c.1 (λ d. absurd cc)
      | inr c ↦ f c.1
    ]

pub keeps : (role : ℕ) (j : List Rule) (ts : List ℕ) (k : List Rule) → AreFit k → step k ts ≡ Taken role j → AreFit j
keeps role j ts [] h e = absurd cc
keeps role j ts (r ∷ k) h e = keep role j ts r k (step k ts) h e (λ d. keeps role j ts k h.2 d)
