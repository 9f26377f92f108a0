-- What reading by a grammar gives: its texts with their meanings, and of any other text the longest front.
use Rattle.std.proofs.Common.{cond, ◌≡◌, ◌≢◌, ℕ, zero, suc, Bool, true, List, [], ◌∷◌, length, Result, Ok, Err, refl, sym, ap, subst, ◌∙◌, inl, inr}
use Rattle.nd_model.specs.Grammar.Grammar.{Stop, Gram, Done, Here, One, Then, Or, Many, Shut, has, Repeats, Spans, Reaches, Opens}
use Rattle.nd_model.specs.Grammar.Predict.{◌>>=◌, next_in, stop, read_many, read}
use Rattle.nd_model.proofs.Parsing.Sets.{Err-of, which, chosen, ok_is, err_is, bind_ok, bind_err}

-- ---- what is read is a text

many_sound : {T A : Type 0} (step : List T → Result (A × List T) Stop) (more : List T → Bool) (R : List T → List T → A → Type 0)
    → ((ts : List T) (out : A × List T) → step ts ≡ Ok out → R ts out.1 out.0)
    → (n : ℕ) (ts : List T) (out : List A × List T) → read_many step more n ts ≡ Ok out → Repeats R ts out.1 out.0
many_sound step more R each zero ts out e = subst (λ o. Repeats R ts o.1 o.0) (ok_is ([], ts) out e) refl
many_sound {A = A} step more R each (suc n) ts out e =
    elim (chosen (more ts) (step ts >>= λ x. read_many step more n x.1 >>= λ y. Ok (x.0 ∷ y.0, y.1)) (Ok ([], ts)) (Ok out) e) [
      | inl c ↦
          let p = bind_ok (step ts) (λ x. read_many step more n x.1 >>= λ y. Ok (x.0 ∷ y.0, y.1)) out c.1 in
          let q = bind_ok (read_many step more n p.0.1) (λ y. Ok (p.0.0 ∷ y.0, y.1)) out p.2 in
          subst (λ o. Repeats R ts o.1 o.0) (ok_is (p.0.0 ∷ q.0.0, q.0.1) out q.2) (p.0.1, each ts p.0 p.1, many_sound step more R each n p.0.1 q.0 q.1)
      | inr c ↦ subst (λ o. Repeats R ts o.1 o.0) (ok_is ([], ts) out c.1) refl
    ]

pub sound : {T C : Type 0} (kind : List T → ℕ) (g : Gram T C) (ts : List T) (out : C × List T) → read kind g ts ≡ Ok out → Spans kind g ts out.1 out.0
sound kind (Done c) ts out e = subst (λ o. Spans kind (Done c) ts o.1 o.0) (ok_is (c, ts) out e) (refl, refl)
sound kind (Here f) ts out e = subst (λ o. Spans kind (Here f) ts o.1 o.0) (ok_is (f ts, ts) out e) (refl, refl)
sound kind (One set f) [] out e = absurd cc
sound kind (One set f) (t ∷ ts) out e =
    elim (chosen (has set (kind (t ∷ ts))) (Ok (f t, ts)) (Err (stop 0 (t ∷ ts))) (Ok out) e) [
      | inl c ↦ subst (λ o. Spans kind (One set f) (t ∷ ts) o.1 o.0) (ok_is (f t, ts) out c.1) (t, refl, c.0, refl)
      | inr c ↦ absurd cc
    ]
sound kind (Then f a b) ts out e =
    let p = bind_ok (read kind a ts) (λ x. read kind b x.1 >>= λ y. Ok (f x.0 y.0, y.1)) out e in
    let q = bind_ok (read kind b p.0.1) (λ y. Ok (f p.0.0 y.0, y.1)) out p.2 in
    subst (λ o. Spans kind (Then f a b) ts o.1 o.0) (ok_is (f p.0.0 q.0.0, q.0.1) out q.2) (p.0.1, p.0.0, q.0.0, sound kind a ts p.0 p.1, sound kind b p.0.1 q.0 q.1, refl)
sound kind (Or set a b) ts out e =
    elim (chosen (next_in kind set ts) (read kind a ts) (read kind b ts) (Ok out) e) [
      | inl c ↦ inl (sound kind a ts out c.1)
      | inr c ↦ inr (sound kind b ts out c.1)
    ]
sound kind (Many set f a) ts out e =
    let p = bind_ok (read_many (read kind a) (next_in kind set) (length ts) ts) (λ x. Ok (f x.0, x.1)) out e in
    subst (λ o. Spans kind (Many set f a) ts o.1 o.0) (ok_is (f p.0.0, p.0.1) out p.2)
    (p.0.0, many_sound (read kind a) (next_in kind set) (Spans kind a) (λ ts out e. sound kind a ts out e) (length ts) ts p.0 p.1, refl)
sound kind (Shut set why) ts out e = absurd cc

-- ---- where reading stops is behind a front

pub record Stopped {T C : Type 0} (kind : List T → ℕ) (g : Gram T C) (ts : List T) (s : Stop) : Type 0 where
  pub rest : List T
  pub front : Reaches kind g ts rest
  pub left : length rest ≡ s.left
  pub deep : s.why ≢ 0 → Opens kind g ts rest s.why

many_stops : {T A : Type 0} (kind : List T → ℕ) (a : Gram T A) (more : List T → Bool)
    → ((ts : List T) (s : Stop) → read kind a ts ≡ Err s → Stopped kind a ts s)
    → (n : ℕ) (ts : List T) (s : Stop) → read_many (read kind a) more n ts ≡ Err s → Stopped kind (Many 0 (λ (xs : List A). xs) a) ts s
many_stops kind a more each zero ts s e = absurd cc
many_stops {T} {A} kind a more each (suc n) ts s e =
    elim (chosen (more ts) (read kind a ts >>= λ x. read_many (read kind a) more n x.1 >>= λ y. Ok (x.0 ∷ y.0, y.1)) (Ok ([], ts)) (Err s) e) [
      | inl c ↦
          elim (bind_err (read kind a ts) (λ x. read_many (read kind a) more n x.1 >>= λ y. Ok (x.0 ∷ y.0, y.1)) s c.1) [
            | inl p ↦ let z = each ts s p in record { rest = z.rest; front = (ts, [], refl, inr z.front); left = z.left; deep = λ d. (ts, [], refl, z.deep d) }
            | inr p ↦
                let w = sound kind a ts p.0 p.1 in
                elim (bind_err (read_many (read kind a) more n p.0.1) (λ y. Ok (p.0.0 ∷ y.0, y.1)) s p.2) [
                  | inl q ↦
                      let z = many_stops kind a more each n p.0.1 s q in
                      let r = z.front in
                      record { rest = z.rest; front = (r.0, p.0.0 ∷ r.1, (p.0.1, w, r.2), r.3); left = z.left; deep = λ d. (let o = z.deep d in (o.0, p.0.0 ∷ o.1, (p.0.1, w, o.2), o.3)) }
                  | inr q ↦ absurd (let h = q.2 in cc)
                ]
          ]
      | inr c ↦ absurd (let h = c.1 in cc)
    ]

pub stops : {T C : Type 0} (kind : List T → ℕ) (g : Gram T C) (ts : List T) (s : Stop) → read kind g ts ≡ Err s → Stopped kind g ts s
stops kind (Done c) ts s e = absurd cc
stops kind (Here f) ts s e = absurd cc
stops {C = C} kind (One set f) [] s e =
    let z = err_is {A = C × List _} (record { left = 0; why = 0 }) s e in
    record { rest = []; front = inl refl; left = ap (λ (x : Stop). x.left) z; deep = λ d. absurd (d (sym (ap (λ (x : Stop). x.why) z))) }
stops {T} {C} kind (One set f) (t ∷ ts) s e =
    elim (chosen (has set (kind (t ∷ ts))) (Ok (f t, ts)) (Err (stop 0 (t ∷ ts))) (Err s) e) [
      | inl c ↦ absurd (let h = c.1 in cc)
      | inr c ↦
          let z = err_is {A = C × List T} (stop 0 (t ∷ ts)) s c.1 in
          record { rest = t ∷ ts; front = inl refl; left = ap (λ (x : Stop). x.left) z; deep = λ d. absurd (d (sym (ap (λ (x : Stop). x.why) z))) }
    ]
stops kind (Then f a b) ts s e =
    elim (bind_err (read kind a ts) (λ x. read kind b x.1 >>= λ y. Ok (f x.0 y.0, y.1)) s e) [
      | inl p ↦ let z = stops kind a ts s p in record { rest = z.rest; front = inl z.front; left = z.left; deep = λ d. inl (z.deep d) }
      | inr p ↦
          let w = sound kind a ts p.0 p.1 in
          elim (bind_err (read kind b p.0.1) (λ y. Ok (f p.0.0 y.0, y.1)) s p.2) [
            | inl q ↦ let z = stops kind b p.0.1 s q in record { rest = z.rest; front = inr (p.0.1, p.0.0, w, z.front); left = z.left; deep = λ d. inr (p.0.1, p.0.0, w, z.deep d) }
            | inr q ↦ absurd (let h = q.2 in cc)
          ]
    ]
stops kind (Or set a b) ts s e =
    elim (chosen (next_in kind set ts) (read kind a ts) (read kind b ts) (Err s) e) [
      | inl c ↦ let z = stops kind a ts s c.1 in record { rest = z.rest; front = inl z.front; left = z.left; deep = λ d. inl (z.deep d) }
      | inr c ↦ let z = stops kind b ts s c.1 in record { rest = z.rest; front = inr z.front; left = z.left; deep = λ d. inr (z.deep d) }
    ]
stops kind (Many set f a) ts s e =
    elim (bind_err (read_many (read kind a) (next_in kind set) (length ts) ts) (λ x. Ok (f x.0, x.1)) s e) [
      | inl p ↦ let z = many_stops kind a (next_in kind set) (λ ts s e. stops kind a ts s e) (length ts) ts s p in record { rest = z.rest; front = z.front; left = z.left; deep = z.deep }
      | inr p ↦ absurd (let h = p.2 in cc)
    ]
stops {T} {C} kind (Shut set why) ts s e = elim (which (next_in kind set ts)) [
  | inl p ↦
      let z = err_is {A = C × List T} (stop why ts) s (sym (ap (λ b. Err-of (stop (cond b why 0) ts)) p) ∙ e) in
      record { rest = ts; front = refl; left = ap (λ (x : Stop). x.left) z; deep = λ d. closes C kind set why s.why ts p (ap (λ (x : Stop). x.why) z) }
  | inr p ↦
      let z = err_is {A = C × List T} (stop 0 ts) s (sym (ap (λ b. Err-of (stop (cond b why 0) ts)) p) ∙ e) in
      record { rest = ts; front = refl; left = ap (λ (x : Stop). x.left) z; deep = λ d. absurd (d (sym (ap (λ (x : Stop). x.why) z))) }
]
  where
    closes : {T : Type 0} (C : Type 0) (kind : List T → ℕ) (set why w : ℕ) (ts : List T) → next_in kind set ts ≡ true → why ≡ w → Opens {C = C} kind (Shut set why) ts ts w
    closes C kind set why w [] h e = absurd cc
    closes C kind set why w (t ∷ ts) h e = (e, t, ts, refl, refl, h)
