-- What a rule makes of tokens before the rules behind it, as the code reads them.
use Rattle.std.proofs.Common.{◌≤◌, Result, Ok, Err, IfOk, ◌≡◌, ℕ, Bool, true, false, List, [], ◌∷◌, ◌++◌, append_assoc, length, refl, sym, ap, inl, inr, arith}
use Rattle.std.specs.Prelude.{◌&&◌, ◌==◌}
use Rattle.std.proofs.lemmas.List.{append-nil}
use Rattle.std.proofs.lemmas.Bool.{eqb-true}
use Rattle.nd_model.proofs.Parsing.Sets.{not_true, which}
use Rattle.nd_model.proofs.Parsing.Laws.{fits_then, fits_or, fits_many}
use Rattle.nd_model.specs.Formats.Rules.{Rule, Nothing, One, Then, Or, Many}
use Rattle.nd_model.specs.Formats.RuleReading.{look, stands, Step, Taken, Refused, Ended, step_by, step, go_on, run}
use Rattle.nd_grammar.specs.Reads.{roles_of, ahead}

-- how a rule that isn't empty is read doesn't depend on what is behind it
takes : (r : Rule) (ts : List ℕ) (k : List Rule) (s other : Step) → (look r).fits ≡ true → (look r).empty ≡ false → step_by r ts k s ≡ step_by r ts k other
takes Nothing ts k s other fit e = absurd cc
takes (One role set) ts k s other fit e = refl
takes (Then a b) ts k s other fit e =
    let fits = fits_then (look a) (look b) fit in
    elim (which (look a).empty) [
      | inl p ↦ ap (λ x. step_by a ts (b ∷ k) x) (takes b ts k s other fits.1 (second (look a).empty (look b).empty p e))
      | inr p ↦ takes a ts (b ∷ k) (step_by b ts k s) (step_by b ts k other) fits.0 p
    ]
  where
    second : (x y : Bool) → x ≡ true → (x && y) ≡ false → y ≡ false
    second true y p h = h
    second false y p h = absurd cc
takes (Or set a b) ts k s other fit e =
    let fits = fits_or set (look a) (look b) fit in
    elim (which (stands set ts)) [
      | inl p ↦ rw p (takes a ts k s other fits.0 fits.2)
      | inr p ↦ rw p (takes b ts k s other fits.1 e)
    ]
takes (Many set a) ts k s other fit e = absurd cc

same_step : (k j : List Rule) (ts : List ℕ) → ((us : List ℕ) → step k us ≡ step j us) → run k ts ≡ run j ts
same_step k j [] e = rw (e []) refl
same_step k j (t ∷ ts) e = ap (λ s. go_on s t (λ i. run i ts)) (e (t ∷ ts))

pub run_nothing : (k : List Rule) (ts : List ℕ) → run (Nothing ∷ k) ts ≡ run k ts
run_nothing k ts = same_step (Nothing ∷ k) k ts (λ us. refl)

pub run_then : (a b : Rule) (k : List Rule) (ts : List ℕ) → run (Then a b ∷ k) ts ≡ run (a ∷ b ∷ k) ts
run_then a b k ts = same_step (Then a b ∷ k) (a ∷ b ∷ k) ts (λ us. refl)

same_here : (k j : List Rule) (ts : List ℕ) → step k ts ≡ step j ts → run k ts ≡ run j ts
same_here k j [] e = rw e refl
same_here k j (t ∷ ts) e = ap (λ s. go_on s t (λ i. run i ts)) e

pub run_left : (set : ℕ) (a b : Rule) (k : List Rule) (ts : List ℕ) → stands set ts ≡ true → run (Or set a b ∷ k) ts ≡ run (a ∷ k) ts
run_left set a b k ts m = same_here (Or set a b ∷ k) (a ∷ k) ts (rw m refl)

pub run_right : (set : ℕ) (a b : Rule) (k : List Rule) (ts : List ℕ) → stands set ts ≡ false → run (Or set a b ∷ k) ts ≡ run (b ∷ k) ts
run_right set a b k ts m = same_here (Or set a b ∷ k) (b ∷ k) ts (rw m refl)

pub run_more : (set : ℕ) (a : Rule) (k : List Rule) (ts : List ℕ) → (look (Many set a)).fits ≡ true → stands set ts ≡ true → run (Many set a ∷ k) ts ≡ run (a ∷ Many set a ∷ k) ts
run_more set a k ts fit m =
    let fits = fits_many set (look a) fit in
    same_here (Many set a ∷ k) (a ∷ Many set a ∷ k) ts (rw m (takes a ts (Many set a ∷ k) Refused (step_by a ts (Many set a ∷ k) Refused) fits.0 fits.1))

pub run_end : (set : ℕ) (a : Rule) (k : List Rule) (ts : List ℕ) → stands set ts ≡ false → run (Many set a ∷ k) ts ≡ run k ts
run_end set a k ts m = same_here (Many set a ∷ k) k ts (rw m refl)

pub run_one : (roles : List ℕ) (role set t : ℕ) (k : List Rule) (ts : List ℕ) → stands set (t ∷ ts) ≡ true → ahead roles (run (One role set ∷ k) (t ∷ ts)) ≡ ahead (roles ++ role ∷ []) (run k ts)
run_one roles role set t k ts m = rw m (ap (λ l. (l, (run k ts).whole)) (sym (append_assoc roles (role ∷ []) (roles_of (run k ts).parts))))

pub run_refused : (roles : List ℕ) (role set : ℕ) (k : List Rule) (ts : List ℕ) → stands set ts ≡ false → ahead roles (run (One role set ∷ k) ts) ≡ (roles, false)
run_refused roles role set k [] m = ap (λ l. (l, false)) (append-nil roles)
run_refused roles role set k (t ∷ ts) m = rw m (ap (λ l. (l, false)) (append-nil roles))

-- ---- where the code reads a part and goes on

pub if_ok : {A E : Type 0} {P Q : A → Type 0} (r : Result A E) → ((x : A) → P x → Q x) → IfOk r P → IfOk r Q
if_ok (Ok x) f h = f x h
if_ok (Err e) f h = h

-- no rules are to come
pub run_none : (roles : List ℕ) (ts : List ℕ) → ahead roles (run [] ts) ≡ (roles, length ts == 0)
run_none roles [] = ap (λ l. (l, true)) (append-nil roles)
run_none roles (t ∷ ts) =
    let some : (length (t ∷ ts) == 0) ≡ false = not_true _ (λ e. (let z = eqb-true _ _ e in omega arith)) in
    rw some (ap (λ l. (l, false)) (append-nil roles))

-- no more is read than there is
pub run_within : (ts : List ℕ) (k : List Rule) → length (roles_of (run k ts).parts) ≤ length ts
run_within [] k = omega arith
run_within (t ∷ ts) k = by_step (λ j. run_within ts j) (step k (t ∷ ts))
  where
    by_step : ((j : List Rule) → length (roles_of (run j ts).parts) ≤ length ts) → (s : Step) → length (roles_of (go_on s t (λ j. run j ts)).parts) ≤ length (t ∷ ts)
    by_step f (Taken role j) = let le = f j in omega arith
    by_step f Refused = omega arith
    by_step f Ended = omega arith
