-- A reading is exact.
use Rattle.std.proofs.Common.{◌≡◌, ℕ, Bool, true, false, List, [], ◌∷◌, ◌++◌, length, refl, sym, ap, subst, ◌∙◌, arith, inl, inr}
use Rattle.std.proofs.lemmas.List.{length-append, append-nil}
use Rattle.nd_model.proofs.Parsing.Sets.{true_false, also_left, also_right}
use Rattle.nd_model.specs.Formats.Rules.{Rule, Part, kinds_of, Spans, Reaches, Means, Opens, Stops}
use Rattle.nd_model.specs.Formats.RuleReading.{look, head, stands, Step, Taken, Refused, Ended, step, Reading, is_ended, go_on, run, reading, ReadingIsExact}
use Rattle.nd_grammar.proofs.Begins.{front, whole}
use Rattle.nd_grammar.proofs.Moves.{cut, uncut, Goes, begun, skips, Moves, moves, comes_starts}
use Rattle.nd_grammar.proofs.Steps.{sounds, firsts, AreFit, has_zero, keeps}

-- ---- several rules

-- what comes begins with a token of `firsts`
goes_starts : (w : Bool) (k : List Rule) (p : Part) (ps : List Part) (ts : List ℕ) → AreFit k → Goes w k (p ∷ ps) → stands (firsts k) (p.kind ∷ ts) ≡ true
goes_starts w [] p ps ts f h = absurd cc
goes_starts w (r ∷ k) p ps ts f (inl c) = also_left head (look r).empty _ _ (p.kind ∷ ts) (comes_starts w r k p ps ts f.0 (inl c))
goes_starts w (r ∷ k) p ps ts f (inr h) = elim (front r (p ∷ ps) h.0 f.0 h.1) [
  | inl e ↦ also_right head (look r).empty _ _ (p.kind ∷ ts) e.1 (goes_starts w k p ps ts f.2 (subst (Goes w k) e.0 h.2))
  | inr m ↦ also_left head (look r).empty _ _ (p.kind ∷ ts) m.0
]

not_true : (b : Bool) → (b ≡ true → ⊥) → b ≡ false
not_true true h = absurd (h refl)
not_true false h = refl

goes_on : (w : Bool) (k : List Rule) (p : Part) (ps : List Part) (ts : List ℕ) → AreFit k → Goes w k (p ∷ ps) → Moves w (step k (p.kind ∷ ts)) p ps
goes_on w [] p ps ts f h = absurd cc
goes_on w (r ∷ k) p ps ts f (inl c) = moves w r k (step k (p.kind ∷ ts)) p ps ts f.0 (inl c)
goes_on w (r ∷ k) p ps ts f (inr h) = elim (front r (p ∷ ps) h.0 f.0 h.1) [
  | inl e ↦
      let g : Goes w k (p ∷ ps) = subst (Goes w k) e.0 h.2 in
      let m = goes_on w k p ps ts f.2 g in
      let x : stands (look r).ext (p.kind ∷ ts) ≡ false = not_true _ (λ q. f.1 (p.kind ∷ ts) q (goes_starts w k p ps ts f.2 g)) in
      (m.0, skips r (p.kind ∷ ts) k (step k (p.kind ∷ ts)) f.0 e.1 x ∙ m.1, m.2)
  | inr m ↦ moves w r k (step k (p.kind ∷ ts)) p ps ts f.0 (inr (h.0, h.1, m.1, h.2))
]

ends : (k : List Rule) → AreFit k → Goes true k [] → step k [] ≡ Ended
ends [] f h = refl
ends (r ∷ k) f (inl c) = elim c [ ]
ends (r ∷ k) f (inr h) = elim (front r [] h.0 f.0 h.1) [
  | inl e ↦ skips r [] k (step k []) f.0 e.1 refl ∙ ends k f.2 (subst (Goes true k) e.0 h.2)
  | inr m ↦ absurd (let lt = m.1 in omega arith)
]

-- ---- a reading

-- each front is a front of what is read
passes : (w : Bool) (ps : List Part) (k : List Rule) (rest : List ℕ) → AreFit k → Goes w k ps → (xs : List Part) × ((run k (kinds_of ps ++ rest)).parts ≡ ps ++ xs)
passes w [] k rest f h = ((run k rest).parts, refl)
passes w (p ∷ ps) k rest f h =
    let m = goes_on w k p ps (kinds_of ps ++ rest) f h in
    let more = passes w ps m.0 rest (keeps p.role m.0 (p.kind ∷ (kinds_of ps ++ rest)) k f m.1) m.2 in
    (more.0, rw m.1 (ap (λ l. p ∷ l) more.1))

-- each text is read
reads : (ps : List Part) (k : List Rule) → AreFit k → Goes true k ps → run k (kinds_of ps) ≡ record { parts = ps; whole = true }
reads [] k f h = rw (ends k f h) refl
reads (p ∷ ps) k f h =
    let m = goes_on true k p ps (kinds_of ps) f h in
    let more = reads ps m.0 (keeps p.role m.0 (p.kind ∷ kinds_of ps) k f m.1) m.2 in
    rw (m.1, more) refl

-- what is read is a front, and a text where all is read
record IsRead (k : List Rule) (ts : List ℕ) (r : Reading) : Type 0 where
  rest : List ℕ
  kinds : kinds_of r.parts ++ rest ≡ ts
  front : Goes false k r.parts
  text : r.whole ≡ true → Goes true k r.parts × (kinds_of r.parts ≡ ts)

refused_read : (k : List Rule) (ts : List ℕ) → IsRead k ts (record { parts = []; whole = false })
refused_read k ts = record { rest = ts; kinds = refl; front = begun k; text = λ e. absurd cc }

taken : (w : Bool) (k : List Rule) (role t : ℕ) (ts : List ℕ) (j : List Rule) (ps : List Part) → step k (t ∷ ts) ≡ Taken role j → Goes w j ps → Goes w k (record { role = role; kind = t } ∷ ps)
taken w k role t ts j ps e g =
    sounds w (Taken role j) (record { role = role; kind = t } ∷ ps) (t ∷ ts) (λ d. absurd cc)
    (λ n set i m d. inr (ps, (record { role = role; kind = t }, refl, (let same : role ≡ n = cc in same), m), (let same : j ≡ i = cc in subst (λ l. Goes w l ps) same g)))
    (λ d. absurd cc) k e

is_read : (ts : List ℕ) (k : List Rule) → IsRead k ts (run k ts)
is_read [] k = record {
  rest = [];
  kinds = refl;
  front = begun k;
  text = λ e. (sounds true Ended [] [] (λ d. absurd cc) (λ n set i m d. absurd cc) (λ d. refl) k (by_end (step k []) e), refl);
}
  where
    by_end : (s : Step) → is_ended s ≡ true → s ≡ Ended
    by_end (Taken role j) e = absurd cc
    by_end Refused e = absurd cc
    by_end Ended e = refl
is_read (t ∷ ts) k = by_step (λ j. is_read ts j) (step k (t ∷ ts)) refl
  where
    by_step : ((j : List Rule) → IsRead j ts (run j ts)) → (s : Step) → step k (t ∷ ts) ≡ s → IsRead k (t ∷ ts) (go_on s t (λ j. run j ts))
    by_step ih (Taken role j) e =
        let h = ih j in
        record {
          rest = h.rest;
          kinds = ap (λ l. t ∷ l) h.kinds;
          front = taken false k role t ts j (run j ts).parts e h.front;
          text = λ d. (let g = h.text d in (taken true k role t ts j (run j ts).parts e g.0, ap (λ l. t ∷ l) g.1));
        }
    by_step ih Refused e = refused_read k (t ∷ ts)
    by_step ih Ended e = refused_read k (t ∷ ts)

-- ---- one rule

fit : (r : Rule) → (look r).fits ≡ true → AreFit (r ∷ [])
fit r h = (h, λ ts p q. nowhere ts q, tt)
  where
    nowhere : (ts : List ℕ) → stands 0 ts ≡ true → ⊥
    nowhere [] h = cc
    nowhere (t ∷ ts) h = has_zero t h

text_of : (r : Rule) (ps : List Part) → Goes true (r ∷ []) ps → Spans r ps []
text_of r ps (inl c) = elim c [ ]
text_of r ps (inr h) = subst (Spans r ps) h.2 h.1

front_of : (r : Rule) (ps : List Part) → Goes false (r ∷ []) ps → Reaches r ps
front_of r ps (inl c) = uncut c
front_of r ps (inr h) = whole r ps (subst (Spans r ps) h.2 h.1)

-- two lists, each the front of the other
both : (a b : List Part) → (xs : List Part) × (a ≡ b ++ xs) → (ys : List Part) × (b ≡ a ++ ys) → a ≡ b
both a b (xs, e) ([], d) = sym (d ∙ append-nil a)
both a b (xs, e) (y ∷ ys, d) = absurd (let la = ap length e in let lb = ap length d in omega (arith, la, lb, length-append b xs, length-append a (y ∷ ys)))

pub reading_is_exact : ReadingIsExact
unfolding reading
reading_is_exact r h ts = record { means = means; stops = stops; one_meaning = one_meaning; one_fault = one_fault }
  where
    now : IsRead (r ∷ []) ts (run (r ∷ []) ts)
    now = is_read ts (r ∷ [])

    means : (run (r ∷ []) ts).whole ≡ true → Means r ts (run (r ∷ []) ts).parts
    means e = let t = now.text e in record { kinds = t.1; text = text_of r _ t.0 }

    one_meaning : (ps : List Part) → Means r ts ps → run (r ∷ []) ts ≡ record { parts = ps; whole = true }
    one_meaning ps m = subst (λ l. run (r ∷ []) l ≡ record { parts = ps; whole = true }) m.kinds (reads ps (r ∷ []) (fit r h) (inr ([], m.text, refl)))

    longest : (qs : List Part) → Opens r ts qs → (xs : List Part) × ((run (r ∷ []) ts).parts ≡ qs ++ xs)
    longest qs o = subst (λ l. (xs : List Part) × ((run (r ∷ []) l).parts ≡ qs ++ xs)) o.kinds (passes false qs (r ∷ []) o.rest (fit r h) (inl (cut o.front)))

    opens : Opens r ts (run (r ∷ []) ts).parts
    opens = record { rest = now.rest; kinds = now.kinds; front = front_of r _ now.front }

    stops : (run (r ∷ []) ts).whole ≡ false → Stops r ts (run (r ∷ []) ts).parts
    stops e = record {
      opens = opens;
      longest = longest;
      none = λ qs m. true_false {A = ⊥} true refl (sym (ap (λ (x : Reading). x.whole) (one_meaning qs m)) ∙ e);
    }

    one_fault : (ps : List Part) → Stops r ts ps → run (r ∷ []) ts ≡ record { parts = ps; whole = false }
    one_fault ps z = by_whole (run (r ∷ []) ts).whole refl
      where
        same : (run (r ∷ []) ts).parts ≡ ps
        same = both (run (r ∷ []) ts).parts ps (longest ps z.opens) (z.longest (run (r ∷ []) ts).parts opens)

        by_whole : (b : Bool) → (run (r ∷ []) ts).whole ≡ b → run (r ∷ []) ts ≡ record { parts = ps; whole = false }
        by_whole true e = absurd (z.none _ (means e))
        by_whole false e = λ i. record { parts = same i; whole = e i }
