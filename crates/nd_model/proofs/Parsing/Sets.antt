-- Sets of kinds by the bits of a number, and results in steps.
use Rattle.std.proofs.Common.{eq-eqb, ◌≡◌, ℕ, ◌≤◌, Bool, true, false, cond, List, [], ◌∷◌, length, Result, Ok, Err, refl, ap, ◌∙◌, arith, inl, inr, ◌⊎◌}
use Rattle.std.specs.Prelude.{bit_and, bit_or, ◌==◌, ◌&&◌, not}
use Rattle.std.specs.Int.{bit_at}
use Rattle.std.proofs.lemmas.Bool.{eqb-true}
use Rattle.std.proofs.lemmas.Nat.Bits.{bit_at_or, bit_at_and, bit_at-zero, bit_at-lt}
use Rattle.nd_model.specs.Grammar.Grammar.{Stop, has}
use Rattle.nd_model.specs.Grammar.Predict.{◌>>=◌, next_in, apart, also}

pub eq-true : (a b : ℕ) → a ≡ b → (a == b) ≡ true
eq-true a b e = eq-eqb a b e

pub has_left : (a b k : ℕ) → has a k ≡ true → has (bit_or a b) k ≡ true
unfolding has
has_left a b k h =
    let one : bit_at a k ≡ 1 = eqb-true _ _ h in
    let lt = bit_at-lt b k in
    eq-true _ _ (bit_at_or a b k ∙ (omega (arith, one, lt)))

pub has_right : (a b k : ℕ) → has b k ≡ true → has (bit_or a b) k ≡ true
unfolding has
has_right a b k h =
    let one : bit_at b k ≡ 1 = eqb-true _ _ h in
    let lt = bit_at-lt a k in
    eq-true _ _ (bit_at_or a b k ∙ (omega (arith, one, lt)))

has_zero : (k : ℕ) → has 0 k ≡ true → ⊥
unfolding has
has_zero k h =
    let one : bit_at 0 k ≡ 1 = eqb-true _ _ h in
    omega (arith, one, bit_at-zero k)

has_apart : (a b k : ℕ) → apart a b ≡ true → has a k ≡ true → has b k ≡ true → ⊥
unfolding has
has_apart a b k h p q =
    let none : bit_and a b ≡ 0 = eqb-true _ _ h in
    let pa : bit_at a k ≡ 1 = eqb-true _ _ p in
    let pb : bit_at b k ≡ 1 = eqb-true _ _ q in
    let e : bit_at (bit_and a b) k ≡ 0 = rw none (bit_at-zero k) in
    let f = bit_at_and a b k in
    omega (arith, e, f, pa, pb)

-- ---- tests

pub not_true : (b : Bool) → (b ≡ true → ⊥) → b ≡ false
not_true true h = absurd (h refl)
not_true false h = refl

pub true_false : {A : Type 0} (b : Bool) → b ≡ true → b ≡ false → A
true_false b p q = absurd (cc)

pub which : (b : Bool) → (b ≡ true) ⊎ (b ≡ false)
which true = inl refl
which false = inr refl

pub and_true : (a b : Bool) → (a && b) ≡ true → (a ≡ true) × (b ≡ true)
and_true true b h = (refl, h)
and_true false b h = absurd (cc)

pub and_both : (a b : Bool) → a ≡ true → b ≡ true → (a && b) ≡ true
and_both true b p q = q
and_both false b p q = absurd (cc)

pub not_not : (a : Bool) → not a ≡ true → a ≡ false
not_not true h = absurd (cc)
not_not false h = refl

pub chosen : {A : Type 0} (b : Bool) (x y z : A) → cond b x y ≡ z → ((b ≡ true) × (x ≡ z)) ⊎ ((b ≡ false) × (y ≡ z))
chosen true x y z e = inl (refl, e)
chosen false x y z e = inr (refl, e)

-- ---- the next token

pub next_left : {T : Type 0} (kind : List T → ℕ) (a b : ℕ) (ts : List T) → next_in kind a ts ≡ true → next_in kind (bit_or a b) ts ≡ true
next_left kind a b [] h = h
next_left kind a b (t ∷ ts) h = has_left a b (kind (t ∷ ts)) h

pub next_right : {T : Type 0} (kind : List T → ℕ) (a b : ℕ) (ts : List T) → next_in kind b ts ≡ true → next_in kind (bit_or a b) ts ≡ true
next_right kind a b [] h = h
next_right kind a b (t ∷ ts) h = has_right a b (kind (t ∷ ts)) h

pub next_apart : {T : Type 0} (kind : List T → ℕ) (a b : ℕ) (ts : List T) → apart a b ≡ true → next_in kind a ts ≡ true → next_in kind b ts ≡ true → ⊥
next_apart kind a b [] h p q = cc
next_apart kind a b (t ∷ ts) h p q = has_apart a b (kind (t ∷ ts)) h p q

pub also_left : {T : Type 0} (kind : List T → ℕ) (e : Bool) (a b : ℕ) (ts : List T) → next_in kind a ts ≡ true → next_in kind (also e a b) ts ≡ true
also_left kind true a b ts h = next_left kind a b ts h
also_left kind false a b ts h = h

pub also_right : {T : Type 0} (kind : List T → ℕ) (e : Bool) (a b : ℕ) (ts : List T) → e ≡ true → next_in kind b ts ≡ true → next_in kind (also e a b) ts ≡ true
also_right kind true a b ts p h = next_right kind a b ts h
also_right kind false a b ts p h = absurd (cc)

pub apart_false : {T : Type 0} (kind : List T → ℕ) (a b : ℕ) (ts : List T) → apart a b ≡ true → next_in kind b ts ≡ true → next_in kind a ts ≡ false
apart_false kind a b ts h q = not_true _ (λ p. next_apart kind a b ts h p q)

pub also_not_left : {T : Type 0} (kind : List T → ℕ) (e : Bool) (a b : ℕ) (ts : List T) → next_in kind (also e a b) ts ≡ false → next_in kind a ts ≡ false
also_not_left kind e a b ts h = not_true _ (λ p. true_false _ (also_left kind e a b ts p) h)

pub also_not_right : {T : Type 0} (kind : List T → ℕ) (e : Bool) (a b : ℕ) (ts : List T) → e ≡ true → next_in kind (also e a b) ts ≡ false → next_in kind b ts ≡ false
also_not_right kind e a b ts pe h = not_true _ (λ p. true_false _ (also_right kind e a b ts pe p) h)

pub or_not_left : {T : Type 0} (kind : List T → ℕ) (a b : ℕ) (ts : List T) → next_in kind (bit_or a b) ts ≡ false → next_in kind a ts ≡ false
or_not_left kind a b ts h = not_true _ (λ p. true_false _ (next_left kind a b ts p) h)

pub or_not_right : {T : Type 0} (kind : List T → ℕ) (a b : ℕ) (ts : List T) → next_in kind (bit_or a b) ts ≡ false → next_in kind b ts ≡ false
or_not_right kind a b ts h = not_true _ (λ p. true_false _ (next_right kind a b ts p) h)

-- ---- steps

abbrev pub Ok-of : {A : Type 0} → A → Result A Stop
Ok-of x = Ok x

abbrev pub Err-of : {A : Type 0} → Stop → Result A Stop
Err-of s = Err s

pub ok_is : {A : Type 0} (x y : A) → Ok-of x ≡ Ok-of y → x ≡ y
ok_is x y e = cc

pub err_is : {A : Type 0} (x y : Stop) → Err-of {A = A} x ≡ Err-of y → x ≡ y
err_is x y e = cc

pub bind_ok : {A B : Type 0} (r : Result A Stop) (f : A → Result B Stop) (y : B) → (r >>= f) ≡ Ok y → (x : A) × (r ≡ Ok x) × (f x ≡ Ok y)
bind_ok (Ok x) f y e = (x, refl, e)
bind_ok (Err d) f y e = absurd (cc)

pub bind_err : {A B : Type 0} (r : Result A Stop) (f : A → Result B Stop) (s : Stop) → (r >>= f) ≡ Err s → (r ≡ Err s) ⊎ ((x : A) × (r ≡ Ok x) × (f x ≡ Err s))
bind_err (Ok x) f s e = inr (x, refl, e)
bind_err {B = B} (Err d) f s e = inl (ap (λ z. Err z) (err_is {A = B} d s e))

-- how many tokens are left
abbrev pub left_of : {T C : Type 0} → Result (C × List T) Stop → ℕ
left_of (Ok x) = length x.1
left_of (Err s) = s.left

pub then_left : {T A B : Type 0} (r : Result (A × List T) Stop) (f : A × List T → Result (B × List T) Stop) (n : ℕ) → left_of r ≤ n → ((x : A × List T) → left_of (f x) ≤ length x.1) → left_of (r >>= f) ≤ n
then_left (Ok x) f n h k = let le = k x in omega arith
then_left (Err s) f n h k = h

pub map_left : {T A B : Type 0} (r : Result (A × List T) Stop) (f : A → B) → left_of (r >>= λ y. Ok (f y.0, y.1)) ≡ left_of r
map_left (Ok x) f = refl
map_left (Err s) f = refl
