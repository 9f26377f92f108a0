-- Reading parts one after the other, as a loop does.
use Rattle.std.proofs.Common.{◌≡◌, ℕ, zero, suc, ◌<◌, ◌≤◌, Bool, true, false, cond, List, [], ◌∷◌, length, ◌++◌, append_assoc, Result, Ok, Err, refl, sym, ap, subst, ◌∙◌, arith, inl, inr}
use Rattle.nd_model.specs.Grammar.Grammar.{Stop, Gram, One, Then, Many, Shut, has}
use Rattle.nd_model.specs.Grammar.Predict.{◌>>=◌, next_in, stop, read_many, read, look}
use Rattle.nd_model.proofs.Parsing.Sets.{true_false, chosen, ok_is, bind_ok, left_of}
use Rattle.std.proofs.lemmas.List.{append-nil}
use Rattle.nd_model.proofs.Parsing.Laws.{front}
use Rattle.nd_model.proofs.Parsing.Exact.{sound}
use Rattle.nd_model.proofs.Parsing.Whole.{back}

-- a part takes a token at least
pub record Shrinks {T A : Type 0} (kind : List T → ℕ) (a : Gram T A) : Type 0 where
  pub less : (ts : List T) (out : A × List T) → read kind a ts ≡ Ok out → length out.1 < length ts

pub shrinks : {T A : Type 0} (kind : List T → ℕ) (a : Gram T A) → (look a).fits ≡ true → (look a).empty ≡ false → Shrinks kind a
shrinks kind a fit ne = record {
  less = λ ts out e. elim (front kind a ts out.1 out.0 fit (sound kind a ts out e)) [ inl p ↦ true_false _ p.1 ne | inr p ↦ p.1 ];
}

-- ---- parts that take a token

pub one_shrinks : {T C : Type 0} (kind : List T → ℕ) (set : ℕ) (f : T → C) → Shrinks kind (One set f)
one_shrinks {T} {C} kind set f = record { less = λ ts out e. go ts out e }
  where
    go : (ts : List T) (out : C × List T) → read kind (One set f) ts ≡ Ok out → length out.1 < length ts
    go [] out e = absurd cc
    go (t ∷ ts) out e = elim (chosen (has set (kind (t ∷ ts))) (Ok (f t, ts)) (Err (stop 0 (t ∷ ts))) (Ok out) e) [
      | inl c ↦ (let s = ap (λ (x : C × List T). length x.1) (ok_is (f t, ts) out c.1) in omega arith)
      | inr c ↦ absurd (let h = c.1 in cc)
    ]

pub then_shrinks : {T A B C : Type 0} (kind : List T → ℕ) (f : A → B → C) (a : Gram T A) (b : Gram T B) → Shrinks kind a → Shrinks kind (Then f a b)
then_shrinks {T} {A} {B} {C} kind f a b s = record {
  less = λ ts out e. (
      let p = bind_ok (read kind a ts) (λ x. read kind b x.1 >>= λ y. Ok (f x.0 y.0, y.1)) out e in
      let q = bind_ok (read kind b p.0.1) (λ y. Ok (f p.0.0 y.0, y.1)) out p.2 in
      let lt : length p.0.1 < length ts = s.less ts p.0 p.1 in
      let le : length q.0.1 ≤ length p.0.1 = subst (λ (r : Result (B × List T) Stop). left_of r ≤ length p.0.1) q.1 (back kind b p.0.1) in
      let same = ap (λ (x : C × List T). length x.1) (ok_is (f p.0.0 q.0.0, q.0.1) out q.2) in
      omega arith);
}

pub shut_shrinks : {T C : Type 0} (kind : List T → ℕ) (set why : ℕ) → Shrinks kind (Shut {C = C} set why)
shut_shrinks kind set why = record { less = λ ts out e. absurd cc }

bind_same : {A B : Type 0} (r : Result A Stop) (f g : A → Result B Stop) → ((x : A) → r ≡ Ok x → f x ≡ g x) → (r >>= f) ≡ (r >>= g)
bind_same (Ok x) f g h = h x refl
bind_same (Err s) f g h = refl

fuel : {T A : Type 0} (step : List T → Result (A × List T) Stop) (more : List T → Bool) → ((ts : List T) (out : A × List T) → step ts ≡ Ok out → length out.1 < length ts)
    → more [] ≡ false → (n m : ℕ) (ts : List T) → length ts ≤ n → length ts ≤ m → read_many step more n ts ≡ read_many step more m ts
fuel step more less none zero zero ts p q = refl
fuel step more less none zero (suc m) [] p q = rw none refl
fuel step more less none zero (suc m) (t ∷ ts) p q = absurd (omega arith)
fuel step more less none (suc n) zero [] p q = rw none refl
fuel step more less none (suc n) zero (t ∷ ts) p q = absurd (omega arith)
fuel step more less none (suc n) (suc m) ts p q =
    ap (λ r. cond (more ts) r (Ok ([], ts)))
    (bind_same (step ts) (λ x. read_many step more n x.1 >>= λ y. Ok (x.0 ∷ y.0, y.1)) (λ x. read_many step more m x.1 >>= λ y. Ok (x.0 ∷ y.0, y.1))
    (λ x e. let lt = less ts x e in ap (λ r. r >>= λ y. Ok (x.0 ∷ y.0, y.1)) (fuel step more less none n m x.1 (omega arith) (omega arith))))

-- the parts that are left, before which come those of front
abbrev pub parts : {T A : Type 0} → (List T → ℕ) → ℕ → Gram T A → List T → Result (List A × List T) Stop
parts kind set a ts = read_many (read kind a) (next_in kind set) (length ts) ts

pub parts_end : {T A : Type 0} (kind : List T → ℕ) (set : ℕ) (a : Gram T A) (ts : List T) → next_in kind set ts ≡ false → parts kind set a ts ≡ Ok ([], ts)
parts_end kind set a [] h = refl
parts_end kind set a (t ∷ ts) h = rw h refl

pub parts_more : {T A : Type 0} (kind : List T → ℕ) (set : ℕ) (a : Gram T A) (ts : List T) → Shrinks kind a → next_in kind set ts ≡ true
    → parts kind set a ts ≡ (read kind a ts >>= λ x. parts kind set a x.1 >>= λ y. Ok (x.0 ∷ y.0, y.1))
parts_more kind set a [] s h = absurd cc
parts_more kind set a (t ∷ ts) s h =
    rw h (bind_same (read kind a (t ∷ ts)) (λ x. read_many (read kind a) (next_in kind set) (length ts) x.1 >>= λ y. Ok (x.0 ∷ y.0, y.1)) (λ x. parts kind set a x.1 >>= λ y. Ok (x.0 ∷ y.0, y.1))
    (λ x e. let lt = s.less (t ∷ ts) x e in ap (λ r. r >>= λ y. Ok (x.0 ∷ y.0, y.1)) (fuel (read kind a) (next_in kind set) s.less refl (length ts) (length x.1) x.1 (omega arith) (omega arith))))

-- ---- Many, as the loop that reads it sees it

abbrev pub mapped : {T A B : Type 0} → (A → B) → Result (A × List T) Stop → Result (B × List T) Stop
mapped f r = r >>= λ y. Ok (f y.0, y.1)

mapped_same : {T A B : Type 0} (f g : A → B) (r : Result (A × List T) Stop) → ((x : A) → f x ≡ g x) → mapped f r ≡ mapped g r
mapped_same f g (Ok x) h = ap (λ y. Ok (y, x.1)) (h x.0)
mapped_same f g (Err s) h = refl

pub many_end : {T A C : Type 0} (kind : List T → ℕ) (set : ℕ) (g : List A → C) (a : Gram T A) (ts : List T) → next_in kind set ts ≡ false → read kind (Many set g a) ts ≡ Ok (g [], ts)
many_end kind set g a ts h = rw (parts_end kind set a ts h) refl

regroup : {T A C : Type 0} (g : List A → C) (x : A) (r : Result (List A × List T) Stop) → mapped g (mapped (λ (ys : List A). x ∷ ys) r) ≡ mapped (λ (ys : List A). g (x ∷ ys)) r
regroup g x (Ok y) = refl
regroup g x (Err s) = refl

pub many_step : {T A C : Type 0} (kind : List T → ℕ) (set : ℕ) (g : List A → C) (a : Gram T A) (ts : List T) (x : A) (rest : List T) → Shrinks kind a → next_in kind set ts ≡ true
    → read kind a ts ≡ Ok (x, rest) → read kind (Many set g a) ts ≡ read kind (Many set (λ ys. g (x ∷ ys)) a) rest
many_step kind set g a ts x rest s h e = rw (parts_more kind set a ts s h, e) (regroup g x (parts kind set a rest))

pub many_err : {T A C : Type 0} (kind : List T → ℕ) (set : ℕ) (g : List A → C) (a : Gram T A) (ts : List T) (f : Stop) → Shrinks kind a → next_in kind set ts ≡ true
    → read kind a ts ≡ Err f → read kind (Many set g a) ts ≡ Err f
many_err kind set g a ts f s h e = rw (parts_more kind set a ts s h, e) refl

pub many_same : {T A C : Type 0} (kind : List T → ℕ) (set : ℕ) (f g : List A → C) (a : Gram T A) (ts : List T) → ((ys : List A) → f ys ≡ g ys) → read kind (Many set f a) ts ≡ read kind (Many set g a) ts
many_same kind set f g a ts h = mapped_same f g (parts kind set a ts) h

pub fused : {T A B C : Type 0} (f : B → C) (g : A → B) (r : Result (A × List T) Stop) → mapped f (mapped g r) ≡ mapped (λ x. f (g x)) r
fused f g (Ok x) = refl
fused f g (Err s) = refl

pub many_fuse : {T A B C : Type 0} (kind : List T → ℕ) (set : ℕ) (f : B → C) (g : List A → B) (a : Gram T A) (ts : List T) → mapped f (read kind (Many set g a) ts) ≡ read kind (Many set (λ ys. f (g ys)) a) ts
many_fuse kind set f g a ts = fused f g (parts kind set a ts)

-- a loop that adds each part at the end of a list
pub push_step : {T A : Type 0} (kind : List T → ℕ) (set : ℕ) (a : Gram T A) (before : List A) (ts : List T) (x : A) (rest : List T) → Shrinks kind a → next_in kind set ts ≡ true
    → read kind a ts ≡ Ok (x, rest) → read kind (Many set (λ xs. before ++ xs) a) ts ≡ read kind (Many set (λ xs. (before ++ x ∷ []) ++ xs) a) rest
push_step {A = A} kind set a before ts x rest s h e =
    many_step kind set (λ (xs : List A). before ++ xs) a ts x rest s h e
    ∙ many_same kind set (λ (xs : List A). before ++ (x ∷ xs)) (λ (xs : List A). (before ++ x ∷ []) ++ xs) a rest (λ ys. sym (append_assoc before (x ∷ []) ys))

pub push_end : {T A : Type 0} (kind : List T → ℕ) (set : ℕ) (a : Gram T A) (before : List A) (ts : List T) → next_in kind set ts ≡ false
    → read kind (Many set (λ xs. before ++ xs) a) ts ≡ Ok (before, ts)
push_end {A = A} kind set a before ts h = many_end kind set (λ (xs : List A). before ++ xs) a ts h ∙ ap (λ (xs : List A). Ok (xs, ts)) (append-nil before)
