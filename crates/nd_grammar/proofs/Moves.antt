-- One step of a reading, and the texts and the fronts of the rules that it begins.
use Rattle.std.proofs.Common.{◌≡◌, ℕ, zero, suc, ◌<◌, Bool, true, false, cond, List, [], ◌∷◌, length, refl, sym, ap, subst, ◌∙◌, arith, inl, inr, ◌⊎◌}
use Rattle.std.specs.Prelude.{bit_or}
use Rattle.nd_model.specs.Grammar.Grammar.{has}
use Rattle.nd_model.specs.Grammar.Predict.{apart}
use Rattle.nd_model.proofs.Parsing.Sets.{true_false, and_true, apart_false, also_not_left, also_not_right, or_not_left, or_not_right}
use Rattle.nd_model.proofs.Parsing.Laws.{fits_then, fits_or, fits_many}
use Rattle.nd_model.specs.Formats.Rules.{Rule, Nothing, One, Then, Or, Many, Part, Repeats, Spans, Reaches}
use Rattle.nd_model.specs.Formats.RuleReading.{look, head, stands, Step, Taken, Refused, step_by}
use Rattle.nd_grammar.proofs.Begins.{front, none, starts}

-- ---- the rules that are still to be read

-- a fact that is needed of fronts only
pub data Cut (P : Type 0) : Bool → Type 0 where
  cut : P → Cut P false

pub uncut : {P : Type 0} {w : Bool} → Cut P w → P
uncut (cut x) = x

pub recut : {P Q : Type 0} {w : Bool} → Cut P w → Q → Cut Q w
recut (cut x) q = cut q

pub uncut_true : {P A : Type 0} → Cut P true → A
uncut_true c = elim c [ ]

-- The parts are a text of the rules, one after another; or only the front of one.
abbrev pub Goes : Bool → List Rule → List Part → Type 0
Goes w [] ps = ps ≡ []
Goes w (r ∷ k) ps = Cut (Reaches r ps) w ⊎ ((mid : List Part) × Spans r ps mid × Goes w k mid)

pub begun : (k : List Rule) → Goes false k []
begun [] = refl
begun (r ∷ k) = inl (cut (none r))

-- ---- a rule without a token

-- A rule that has an empty text takes no token that can't go on it.
pub skips : (r : Rule) (ts : List ℕ) (k : List Rule) (s : Step) → (look r).fits ≡ true → (look r).empty ≡ true → stands (look r).ext ts ≡ false → step_by r ts k s ≡ s
skips Nothing ts k s fit e x = refl
skips (One role set) ts k s fit e x = absurd cc
skips (Then a b) ts k s fit e x =
    let fits = fits_then (look a) (look b) fit in
    let both = and_true (look a).empty (look b).empty e in
    skips a ts (b ∷ k) (step_by b ts k s) fits.0 both.0 (also_not_right head (look b).empty (look b).ext (look a).ext ts both.1 x)
    ∙ skips b ts k s fits.1 both.1 (also_not_left head (look b).empty (look b).ext (look a).ext ts x)
skips (Or set a b) ts k s fit e x =
    let fits = fits_or set (look a) (look b) fit in
    let m : stands set ts ≡ false = subst (λ k. stands k ts ≡ false) fits.3 (also_not_right head (look b).empty (bit_or (look a).ext (look b).ext) (look a).first ts e x) in
    rw m (skips b ts k s fits.1 e (or_not_right head (look a).ext (look b).ext ts (also_not_left head (look b).empty _ (look a).first ts x)))
skips (Many set a) ts k s fit e x =
    let fits = fits_many set (look a) fit in
    let m : stands set ts ≡ false = subst (λ k. stands k ts ≡ false) fits.2 (or_not_left head (look a).first (look a).ext ts x) in
    rw m refl

-- ---- each token of a text or of a front is taken

abbrev pub Moves : Bool → Step → Part → List Part → Type 0
Moves w s p ps = (k : List Rule) × (s ≡ Taken p.role k) × Goes w k ps

-- these parts begin with a part of the rule, and go on by the others
abbrev pub Comes : Bool → Rule → List Rule → List Part → Type 0
Comes w r k ps = Cut (Reaches r ps) w ⊎ ((mid : List Part) × Spans r ps mid × (length mid < length ps) × Goes w k mid)

chosen_true : (w : Bool) (b : Bool) (x y : Step) (p : Part) (ps : List Part) → b ≡ true → Moves w x p ps → Moves w (cond b x y) p ps
chosen_true w b x y p ps e m = (m.0, rw e m.1, m.2)

chosen_false : (w : Bool) (b : Bool) (x y : Step) (p : Part) (ps : List Part) → b ≡ false → Moves w y p ps → Moves w (cond b x y) p ps
chosen_false w b x y p ps e m = (m.0, rw e m.1, m.2)

moves_one : (w : Bool) (role set : ℕ) (k : List Rule) (p q : Part) (ps rest : List Part) → p ∷ ps ≡ q ∷ rest → q.role ≡ role → has set q.kind ≡ true → Goes w k rest
    → Moves w (cond (has set p.kind) (Taken role k) Refused) p ps
moves_one w role set k p q ps rest e er eh g =
    let ep : q ≡ p = cc in
    let es : rest ≡ ps = cc in
    let m : has set p.kind ≡ true = subst (λ (x : Part). has set x.kind ≡ true) ep eh in
    let er' : role ≡ p.role = sym er ∙ ap (λ (x : Part). x.role) ep in
    (k, rw m (ap (λ x. Taken x k) er'), subst (Goes w k) es g)

moves_one_front : (w : Bool) (role set : ℕ) (k : List Rule) (p : Part) (ps : List Part) → Cut (Reaches (One role set) (p ∷ ps)) w → Moves w (cond (has set p.kind) (Taken role k) Refused) p ps
moves_one_front w role set k p ps (cut (inl e)) = absurd cc
moves_one_front w role set k p ps (cut (inr h)) = moves_one false role set k p h.0 ps [] h.1 h.2 h.3 (begun k)

-- a text, or a front, that is not empty begins with a token of `first`
text_starts : (r : Rule) (p : Part) (ps mid : List Part) (ts : List ℕ) → (look r).fits ≡ true → Spans r (p ∷ ps) mid → length mid < length (p ∷ ps) → stands (look r).first (p.kind ∷ ts) ≡ true
text_starts r p ps mid ts fit h lt = elim (front r (p ∷ ps) mid fit h) [ inl e ↦ absurd (let l = ap length e.0 in omega arith) | inr m ↦ m.0 ]

front_starts : (r : Rule) (p : Part) (ps : List Part) (ts : List ℕ) → (look r).fits ≡ true → Reaches r (p ∷ ps) → stands (look r).first (p.kind ∷ ts) ≡ true
front_starts r p ps ts fit h = elim (starts r (p ∷ ps) fit h) [ inl e ↦ absurd cc | inr m ↦ m ]

pub comes_starts : (w : Bool) (r : Rule) (k : List Rule) (p : Part) (ps : List Part) (ts : List ℕ) → (look r).fits ≡ true → Comes w r k (p ∷ ps) → stands (look r).first (p.kind ∷ ts) ≡ true
comes_starts w r k p ps ts fit (inl c) = front_starts r p ps ts fit (uncut c)
comes_starts w r k p ps ts fit (inr h) = text_starts r p ps h.0 ts fit h.1 h.2

moves_then : (w : Bool) (a b : Rule) (k : List Rule) (s : Step) (p : Part) (ps : List Part) (ts : List ℕ) → (look (Then a b)).fits ≡ true
    → (Comes w a (b ∷ k) (p ∷ ps) → Moves w (step_by a (p.kind ∷ ts) (b ∷ k) (step_by b (p.kind ∷ ts) k s)) p ps)
    → (Comes w b k (p ∷ ps) → Moves w (step_by b (p.kind ∷ ts) k s) p ps)
    → Comes w (Then a b) k (p ∷ ps) → Moves w (step_by (Then a b) (p.kind ∷ ts) k s) p ps
moves_then w a b k s p ps ts fit ia ib h = by_part h
  where
    fits : ((look a).fits ≡ true) × ((look b).fits ≡ true) × (apart (look a).ext (look b).first ≡ true)
    fits = fits_then (look a) (look b) fit

    -- the first part is empty
    second : (look a).empty ≡ true → Comes w b k (p ∷ ps) → Moves w (step_by (Then a b) (p.kind ∷ ts) k s) p ps
    second e c =
        let x = ib c in
        let m = comes_starts w b k p ps ts fits.1 c in
        (x.0, skips a (p.kind ∷ ts) (b ∷ k) (step_by b (p.kind ∷ ts) k s) fits.0 e (apart_false head _ _ (p.kind ∷ ts) fits.2 m) ∙ x.1, x.2)

    -- the first part ends at mid
    at : (mid : List Part) → Spans a (p ∷ ps) mid → Goes w (b ∷ k) mid → (mid ≡ p ∷ ps → Comes w b k (p ∷ ps)) → Moves w (step_by (Then a b) (p.kind ∷ ts) k s) p ps
    at mid sa g f = elim (front a (p ∷ ps) mid fits.0 sa) [
      | inl x ↦ second x.1 (f x.0)
      | inr x ↦ ia (inr (mid, sa, x.1, g))
    ]

    by_part : Comes w (Then a b) k (p ∷ ps) → Moves w (step_by (Then a b) (p.kind ∷ ts) k s) p ps
    by_part (inl c) = elim (uncut c) [
      | inl ra ↦ ia (inl (recut c ra))
      | inr h ↦ at h.0 h.1 (inl (recut c h.2)) (λ e. inl (recut c (subst (Reaches b) e h.2)))
    ]
    by_part (inr h) =
        let both = h.1 in
        at both.0 both.1 (inr (h.0, both.2, h.3)) (λ e. inr (h.0, subst (λ m. Spans b m h.0) e both.2, h.2, h.3))

moves_or : (w : Bool) (set : ℕ) (a b : Rule) (k : List Rule) (s : Step) (p : Part) (ps : List Part) (ts : List ℕ) → (look (Or set a b)).fits ≡ true
    → (Comes w a k (p ∷ ps) → Moves w (step_by a (p.kind ∷ ts) k s) p ps)
    → (Comes w b k (p ∷ ps) → Moves w (step_by b (p.kind ∷ ts) k s) p ps)
    → Comes w (Or set a b) k (p ∷ ps) → Moves w (step_by (Or set a b) (p.kind ∷ ts) k s) p ps
moves_or w set a b k s p ps ts fit ia ib h = by_part h
  where
    fits : ((look a).fits ≡ true) × ((look b).fits ≡ true) × ((look a).empty ≡ false) × ((look a).first ≡ set) × (apart (look a).first (look b).first ≡ true)
    fits = fits_or set (look a) (look b) fit

    left : Comes w a k (p ∷ ps) → Moves w (step_by (Or set a b) (p.kind ∷ ts) k s) p ps
    left c = chosen_true w (stands set (p.kind ∷ ts)) _ _ p ps (subst (λ k. stands k (p.kind ∷ ts) ≡ true) fits.3 (comes_starts w a k p ps ts fits.0 c)) (ia c)

    right : Comes w b k (p ∷ ps) → Moves w (step_by (Or set a b) (p.kind ∷ ts) k s) p ps
    right c =
        chosen_false w (stands set (p.kind ∷ ts)) _ _ p ps
        (subst (λ k. stands k (p.kind ∷ ts) ≡ false) fits.3 (apart_false head _ _ (p.kind ∷ ts) fits.4 (comes_starts w b k p ps ts fits.1 c))) (ib c)

    by_part : Comes w (Or set a b) k (p ∷ ps) → Moves w (step_by (Or set a b) (p.kind ∷ ts) k s) p ps
    by_part (inl c) = elim (uncut c) [ inl x ↦ left (inl (recut c x)) | inr x ↦ right (inl (recut c x)) ]
    by_part (inr h) = elim h.1 [ inl x ↦ left (inr (h.0, x, h.2, h.3)) | inr x ↦ right (inr (h.0, x, h.2, h.3)) ]

moves_many : (w : Bool) (set : ℕ) (a : Rule) (k : List Rule) (s : Step) (p : Part) (ps : List Part) (ts : List ℕ) → (look (Many set a)).fits ≡ true
    → (Comes w a (Many set a ∷ k) (p ∷ ps) → Moves w (step_by a (p.kind ∷ ts) (Many set a ∷ k) Refused) p ps)
    → Comes w (Many set a) k (p ∷ ps) → Moves w (step_by (Many set a) (p.kind ∷ ts) k s) p ps
moves_many w set a k s p ps ts fit ia h = by_part h
  where
    fits : ((look a).fits ≡ true) × ((look a).empty ≡ false) × ((look a).first ≡ set) × (apart (look a).ext (look a).first ≡ true)
    fits = fits_many set (look a) fit

    first : Comes w a (Many set a ∷ k) (p ∷ ps) → Moves w (step_by (Many set a) (p.kind ∷ ts) k s) p ps
    first c =
        chosen_true w (stands set (p.kind ∷ ts)) _ _ p ps (subst (λ k. stands k (p.kind ∷ ts) ≡ true) fits.2 (comes_starts w a (Many set a ∷ k) p ps ts fits.0 c)) (ia c)

    more : (mid : List Part) → Spans a (p ∷ ps) mid → Goes w (Many set a ∷ k) mid → Moves w (step_by (Many set a) (p.kind ∷ ts) k s) p ps
    more mid sa g = elim (front a (p ∷ ps) mid fits.0 sa) [ inl x ↦ true_false _ x.1 fits.1 | inr x ↦ first (inr (mid, sa, x.1, g)) ]

    fronts : (n : ℕ) (mid : List Part) → Cut Unit w → Repeats (Spans a) n (p ∷ ps) mid → (mid ≡ []) ⊎ Reaches a mid → Moves w (step_by (Many set a) (p.kind ∷ ts) k s) p ps
    fronts zero mid c e (inl q) = absurd cc
    fronts zero mid c e (inr q) = first (inl (recut c (subst (Reaches a) e q)))
    fronts (suc n) mid c h q = more h.0 h.1 (inl (recut c (n, mid, h.2, q)))

    texts : (n : ℕ) (mid : List Part) → Repeats (Spans a) n (p ∷ ps) mid → length mid < length (p ∷ ps) → Goes w k mid → Moves w (step_by (Many set a) (p.kind ∷ ts) k s) p ps
    texts zero mid e lt g = absurd (let l = ap length e in omega arith)
    texts (suc n) mid h lt g = more h.0 h.1 (inr (mid, (n, h.2), g))

    by_part : Comes w (Many set a) k (p ∷ ps) → Moves w (step_by (Many set a) (p.kind ∷ ts) k s) p ps
    by_part (inl c) = let h = uncut c in fronts h.0 h.1 (recut c tt) h.2 h.3
    by_part (inr h) = let z = h.1 in texts z.0 h.0 z.1 h.2 h.3

-- The first token of what comes is taken, in its role.
pub moves : (w : Bool) (r : Rule) (k : List Rule) (s : Step) (p : Part) (ps : List Part) (ts : List ℕ) → (look r).fits ≡ true → Comes w r k (p ∷ ps) → Moves w (step_by r (p.kind ∷ ts) k s) p ps
moves w Nothing k s p ps ts fit (inl c) = absurd (let e : p ∷ ps ≡ [] = uncut c in cc)
moves w Nothing k s p ps ts fit (inr h) = absurd (let e : h.0 ≡ p ∷ ps = h.1 in let l = ap length e in let lt = h.2 in omega arith)
moves w (One role set) k s p ps ts fit (inl c) = moves_one_front w role set k p ps c
moves w (One role set) k s p ps ts fit (inr h) = let o = h.1 in moves_one w role set k p o.0 ps h.0 o.1 o.2 o.3 h.3
moves w (Then a b) k s p ps ts fit h =
    let fits = fits_then (look a) (look b) fit in
    moves_then w a b k s p ps ts fit (λ c. moves w a (b ∷ k) (step_by b (p.kind ∷ ts) k s) p ps ts fits.0 c) (λ c. moves w b k s p ps ts fits.1 c) h
moves w (Or set a b) k s p ps ts fit h =
    let fits = fits_or set (look a) (look b) fit in
    moves_or w set a b k s p ps ts fit (λ c. moves w a k s p ps ts fits.0 c) (λ c. moves w b k s p ps ts fits.1 c) h
moves w (Many set a) k s p ps ts fit h =
    let fits = fits_many set (look a) fit in
    moves_many w set a k s p ps ts fit (λ c. moves w a (Many set a ∷ k) Refused p ps ts fits.0 c) h
