-- What reading by a grammar gives: its texts with their meanings, and of any other text the longest front.
use Rattle.std.proofs.Common.{◌≡◌, ℕ, ◌<◌, true, false, List, [], ◌∷◌, length, refl, subst, ◌∙◌, arith, inl, inr, ◌⊎◌}
use Rattle.std.proofs.lemmas.Bool.{eqb-true}
use Rattle.nd_model.specs.Grammar.Grammar.{Gram, Done, Here, One, Then, Or, Many, Shut, Repeats, Spans, Reaches, Opens}
use Rattle.nd_model.specs.Grammar.Predict.{next_in, Look, apart, look_then, look_or, look_many, look}
use Rattle.nd_model.proofs.Parsing.Sets.{true_false, and_true, not_not, next_left, next_right, also_left, also_right}

-- ---- what fits

pub fits_then : (a b : Look) → (look_then a b).fits ≡ true → (a.fits ≡ true) × (b.fits ≡ true) × (apart a.ext b.first ≡ true)
fits_then a b h = let p = and_true _ _ h in let q = and_true _ _ p.0 in (q.0, q.1, p.1)

pub fits_or : (set : ℕ) (a b : Look) → (look_or set a b).fits ≡ true → (a.fits ≡ true) × (b.fits ≡ true) × (a.empty ≡ false) × (a.first ≡ set) × (apart a.first b.first ≡ true)
fits_or set a b h =
    let p = and_true _ _ h in let q = and_true _ _ p.0 in let r = and_true _ _ q.0 in let s = and_true _ _ r.0 in
    (s.0, s.1, not_not _ r.1, eqb-true _ _ q.1, p.1)

pub fits_many : (set : ℕ) (a : Look) → (look_many set a).fits ≡ true → (a.fits ≡ true) × (a.empty ≡ false) × (a.first ≡ set) × (apart a.ext a.first ≡ true)
fits_many set a h =
    let p = and_true _ _ h in let q = and_true _ _ p.0 in let r = and_true _ _ q.0 in
    (r.0, not_not _ r.1, eqb-true _ _ q.1, p.1)

-- ---- how texts begin

-- A text is empty, or it begins with a token of `first`, and fewer tokens are left after it.
abbrev pub Front : {T : Type 0} → (List T → ℕ) → Look → List T → List T → Type 0
Front kind l ts rest = ((rest ≡ ts) × (l.empty ≡ true)) ⊎ ((next_in kind l.first ts ≡ true) × (length rest < length ts))

pub at_same : {T : Type 0} (kind : List T → ℕ) (set : ℕ) (ts mid : List T) → mid ≡ ts → next_in kind set mid ≡ true → next_in kind set ts ≡ true
at_same kind set ts mid e h = subst (λ l. next_in kind set l ≡ true) e h

front_then : {T : Type 0} (kind : List T → ℕ) (a b : Look) (ts mid rest : List T) → Front kind a ts mid → Front kind b mid rest → Front kind (look_then a b) ts rest
front_then kind a b ts mid rest (inl p) (inl q) = inl (q.0 ∙ p.0, rw (p.1, q.1) refl)
front_then kind a b ts mid rest (inl p) (inr q) = inr (also_right kind a.empty a.first b.first ts p.1 (at_same kind b.first ts mid p.0 q.0), rw (← p.0) q.1)
front_then kind a b ts mid rest (inr p) (inl q) = inr (also_left kind a.empty a.first b.first ts p.0, rw q.0 p.1)
front_then kind a b ts mid rest (inr p) (inr q) = inr (also_left kind a.empty a.first b.first ts p.0, (let x = p.1 in let y = q.1 in omega arith))

pub front_many : {T A : Type 0} (kind : List T → ℕ) (R : List T → List T → A → Type 0) (l : Look) → l.empty ≡ false → ((ts rest : List T) (x : A) → R ts rest x → Front kind l ts rest)
    → (xs : List A) (ts rest : List T) → Repeats R ts rest xs → (rest ≡ ts) ⊎ ((next_in kind l.first ts ≡ true) × (length rest < length ts))
front_many kind R l e each [] ts rest h = inl h
front_many kind R l e each (x ∷ xs) ts rest h =
    elim (each ts h.0 x h.1) [
      | inl p ↦ true_false _ p.1 e
      | inr p ↦ inr (
        p.0,
        elim (front_many kind R l e each xs h.0 rest h.2) [
          | inl q ↦ rw q p.1
          | inr q ↦ (let y = p.1 in let z = q.1 in omega arith)
        ],
      )
    ]

pub front : {T C : Type 0} (kind : List T → ℕ) (g : Gram T C) (ts rest : List T) (c : C) → (look g).fits ≡ true → Spans kind g ts rest c → Front kind (look g) ts rest
front kind (Done c) ts rest d fit h = inl (h.0, refl)
front kind (Here f) ts rest d fit h = inl (h.0, refl)
front kind (One set f) ts rest d fit h = inr (rw h.1 h.2, rw h.1 (omega arith))
front kind (Then f a b) ts rest d fit h =
    let fits = fits_then (look a) (look b) fit in
    front_then kind (look a) (look b) ts h.0 rest (front kind a ts h.0 h.1 fits.0 h.3) (front kind b h.0 rest h.2 fits.1 h.4)
front kind (Or set a b) ts rest d fit (inl h) =
    let fits = fits_or set (look a) (look b) fit in
    elim (front kind a ts rest d fits.0 h) [ inl p ↦ true_false _ p.1 fits.2 | inr p ↦ inr (next_left kind _ _ ts p.0, p.1) ]
front kind (Or set a b) ts rest d fit (inr h) =
    let fits = fits_or set (look a) (look b) fit in
    elim (front kind b ts rest d fits.1 h) [ inl p ↦ inl p | inr p ↦ inr (next_right kind _ _ ts p.0, p.1) ]
front kind (Many set f a) ts rest d fit h =
    let fits = fits_many set (look a) fit in
    elim (front_many kind (Spans kind a) (look a) fits.1 (λ ts rest x s. front kind a ts rest x fits.0 s) h.0 ts rest h.1) [ inl p ↦ inl (p, refl) | inr p ↦ inr p ]
front kind (Shut set why) ts rest d fit h = absurd h

-- nothing is a front
pub none : {T C : Type 0} (kind : List T → ℕ) (g : Gram T C) (ts : List T) → Reaches kind g ts ts
none kind (Done c) ts = refl
none kind (Here f) ts = refl
none kind (One set f) ts = inl refl
none kind (Then f a b) ts = inl (none kind a ts)
none kind (Or set a b) ts = inl (none kind a ts)
none kind (Many set f a) ts = (ts, [], refl, inl refl)
none kind (Shut set why) ts = refl

-- a whole text is a front
pub whole : {T C : Type 0} (kind : List T → ℕ) (g : Gram T C) (ts rest : List T) (c : C) → Spans kind g ts rest c → Reaches kind g ts rest
whole kind (Done c) ts rest d h = h.0
whole kind (Here f) ts rest d h = h.0
whole kind (One set f) ts rest d h = inr (h.0, h.1, h.2)
whole kind (Then f a b) ts rest d h = inr (h.0, h.1, h.3, whole kind b h.0 rest h.2 h.4)
whole kind (Or set a b) ts rest d (inl h) = inl (whole kind a ts rest d h)
whole kind (Or set a b) ts rest d (inr h) = inr (whole kind b ts rest d h)
whole kind (Many set f a) ts rest d h = (rest, h.0, h.1, inl refl)
whole kind (Shut set why) ts rest d h = absurd h

abbrev pub Starts : {T : Type 0} → (List T → ℕ) → ℕ → List T → List T → Type 0
Starts kind set ts rest = (rest ≡ ts) ⊎ (next_in kind set ts ≡ true)

pub starts_from : {T : Type 0} (kind : List T → ℕ) (set : ℕ) (ts mid rest : List T) → mid ≡ ts → Starts kind set mid rest → Starts kind set ts rest
starts_from kind set ts mid rest e (inl p) = inl (p ∙ e)
starts_from kind set ts mid rest e (inr p) = inr (at_same kind set ts mid e p)

-- A front is empty, or it begins with a token of `first`.
pub starts : {T C : Type 0} (kind : List T → ℕ) (g : Gram T C) (ts rest : List T) → (look g).fits ≡ true → Reaches kind g ts rest → Starts kind (look g).first ts rest
starts kind (Done c) ts rest fit h = inl h
starts kind (Here f) ts rest fit h = inl h
starts kind (One set f) ts rest fit (inl h) = inl h
starts kind (One set f) ts rest fit (inr h) = inr (rw h.1 h.2)
starts kind (Then f a b) ts rest fit (inl h) =
    let fits = fits_then (look a) (look b) fit in
    elim (starts kind a ts rest fits.0 h) [ inl p ↦ inl p | inr p ↦ inr (also_left kind _ _ _ ts p) ]
starts kind (Then f a b) ts rest fit (inr h) =
    let fits = fits_then (look a) (look b) fit in
    elim (front kind a ts h.0 h.1 fits.0 h.2) [
      | inl p ↦ elim (starts_from kind (look b).first ts h.0 rest p.0 (starts kind b h.0 rest fits.1 h.3)) [ inl q ↦ inl q | inr q ↦ inr (also_right kind _ _ _ ts p.1 q) ]
      | inr p ↦ inr (also_left kind _ _ _ ts p.0)
    ]
starts kind (Or set a b) ts rest fit (inl h) =
    let fits = fits_or set (look a) (look b) fit in
    elim (starts kind a ts rest fits.0 h) [ inl p ↦ inl p | inr p ↦ inr (next_left kind _ _ ts p) ]
starts kind (Or set a b) ts rest fit (inr h) =
    let fits = fits_or set (look a) (look b) fit in
    elim (starts kind b ts rest fits.1 h) [ inl p ↦ inl p | inr p ↦ inr (next_right kind _ _ ts p) ]
starts kind (Many set f a) ts rest fit h =
    let fits = fits_many set (look a) fit in
    elim (front_many kind (Spans kind a) (look a) fits.1 (λ ts rest x s. front kind a ts rest x fits.0 s) h.1 ts h.0 h.2) [
      | inl p ↦ elim h.3 [ inl q ↦ inl (q ∙ p) | inr q ↦ starts_from kind _ ts h.0 rest p (starts kind a h.0 rest fits.0 q) ]
      | inr p ↦ inr p.0
    ]
starts kind (Shut set why) ts rest fit h = inl h

-- What would open a level too many stands behind a token of `first`, or is one.
pub opens_first : {T C : Type 0} (kind : List T → ℕ) (g : Gram T C) (ts rest : List T) (w : ℕ) → (look g).fits ≡ true → Opens kind g ts rest w → next_in kind (look g).first ts ≡ true
opens_first kind (Done c) ts rest w fit h = absurd h
opens_first kind (Here f) ts rest w fit h = absurd h
opens_first kind (One set f) ts rest w fit h = absurd h
opens_first kind (Then f a b) ts rest w fit (inl h) = also_left kind _ _ _ ts (opens_first kind a ts rest w (fits_then (look a) (look b) fit).0 h)
opens_first kind (Then f a b) ts rest w fit (inr h) =
    let fits = fits_then (look a) (look b) fit in
    elim (front kind a ts h.0 h.1 fits.0 h.2) [
      | inl p ↦ also_right kind _ _ _ ts p.1 (at_same kind _ ts h.0 p.0 (opens_first kind b h.0 rest w fits.1 h.3))
      | inr p ↦ also_left kind _ _ _ ts p.0
    ]
opens_first kind (Or set a b) ts rest w fit (inl h) = next_left kind _ _ ts (opens_first kind a ts rest w (fits_or set (look a) (look b) fit).0 h)
opens_first kind (Or set a b) ts rest w fit (inr h) = next_right kind _ _ ts (opens_first kind b ts rest w (fits_or set (look a) (look b) fit).1 h)
opens_first kind (Many set f a) ts rest w fit h =
    let fits = fits_many set (look a) fit in
    elim (front_many kind (Spans kind a) (look a) fits.1 (λ ts rest x s. front kind a ts rest x fits.0 s) h.1 ts h.0 h.2) [
      | inl p ↦ at_same kind _ ts h.0 p (opens_first kind a h.0 rest w fits.0 h.3)
      | inr p ↦ p.0
    ]
opens_first kind (Shut set why) ts rest w fit h = rw h.4 h.5
