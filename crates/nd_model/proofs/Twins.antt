-- Two running sessions that a cell cannot tell apart.
use Rattle.std.proofs.Common.{◌≡◌, ℕ, ◌+◌, Bool, true, false, not, cond, ◌&&◌, ◌||◌, eqb, List, [], ◌∷◌, ◌++◌, map, length, get_or, Option, Some, None, refl, sym, ap, ap₂, ◌∙◌, inl, inr, arith, eq-eqb}
use mathlib.Core.Path.{fun_ext}
use Rattle.std.proofs.lemmas.Bool.{cases_Bool, or_left, or_right, or_cases, and_from, not_from_false}
use Rattle.std.proofs.lemmas.Bool.Decides.{nat_tests}
use Rattle.std.specs.Prelude.{bytes_eq}
use Rattle.nd_model.specs.Arrays.Value.{Base, same_base, Value}
use Rattle.nd_model.specs.Cells.Session.{lookup, put, is_place, is_in}
use Rattle.nd_model.specs.Cells.Running.{Key, Name, Input, Length, Byte, OfRule, Python, Event, Binds, Unbinds, Inputs, Running, is_event_of, is_touched, is_own, is_doing_of, having_read, is_name, is_length, is_length_of, Act, Lookup, Ask, Use, Make, asked, reply, with_base, made, after, Source, Effect, Nothing, Prints, Saves, Binding, Unbinding, Storing, done}
use Rattle.nd_model.specs.Cells.Footprint.{Found, Bound, Given, Number, Ruled}
use Rattle.nd_model.proofs.Lists.{bytes_eq_self, not_both, lookup-bind, lookup-unbind, length-put, same_put}

-- what stands at a key now; no statement asks for the rule
abbrev pub at : Inputs → Running → Key → Found
at i r (Name n) = Bound (lookup n r.names)
at i r (Input n) = Given (i n)
at i r (Length b) = Number (length (r.bytes b))
at i r (Byte b p) = Number (get_or (r.bytes b) p 0)
at i r OfRule = Ruled Python

-- They have done and read the same, and have the same wherever the cell did it itself or will have read it.
pub record Twin (seen : Key → Bool) (i j : Inputs) (x y : Running) : Type 0 where
  pub label : x.label ≡ y.label
  pub next : x.next ≡ y.next
  pub events : x.events ≡ y.events
  pub written : x.written ≡ y.written
  pub read : x.read ≡ y.read
  pub same : (k : Key) → (is_own x k || seen k) ≡ true → at i x k ≡ at j y k

-- all that was read is among these keys
abbrev pub Within : (Key → Bool) → Running → Type 0
Within seen r = (k : Key) → r.read k ≡ true → seen k ≡ true

same_own : (seen : Key → Bool) (i j : Inputs) (x y : Running) → Twin seen i j x y → (k : Key) → is_own x k ≡ is_own y k
same_own seen i j x y t k = ap (λ l. is_doing_of l x.events x.written k) t.label ∙ ap₂ (λ es w. is_doing_of y.label es w k) t.events t.written

-- a key that is read is one that both have alike
pub same_read : (seen keys : Key → Bool) (i j : Inputs) (x y : Running) → Twin seen i j x y → Within seen (having_read keys x) → (k : Key) → keys k ≡ true → at i x k ≡ at j y k
same_read seen keys i j x y t within k asks = t.same k (elim (cases_Bool (is_own x k)) [
  | inl own ↦ or_left _ _ own
  | inr other ↦ or_right _ _ (within k (or_right _ _ (and_from _ _ asks (not_from_false _ other))))
])

same_base_self : (b : Base) → same_base b b ≡ true
same_base_self b = and_from _ _ (eq-eqb b.label b.label refl) (eq-eqb b.number b.number refl)

same_map : (ps : List ℕ) (f g : ℕ → ℕ) → ((p : ℕ) → is_in p ps ≡ true → f p ≡ g p) → map f ps ≡ map g ps
same_map [] f g h = refl
same_map (p ∷ ps) f g h = ap₂ (λ a b. a ∷ b) (h p (or_left _ _ (eq-eqb p p refl))) (same_map ps f g (λ q e. h q (or_right _ _ e)))

same_value : (x y : Option Value) → Bound x ≡ Bound y → x ≡ y
same_value x y e = cc

same_input : (x y : Option Source) → Given x ≡ Given y → x ≡ y
same_input x y e = cc

same_number : (x y : ℕ) → Number x ≡ Number y → x ≡ y
same_number x y e = cc

pub same_reply : (a : Act) (seen : Key → Bool) (i j : Inputs) (x y : Running) → Twin seen i j x y → Within seen (having_read (asked a x) x) → reply i a x ≡ reply j a y
same_reply (Lookup n) seen i j x y t within =
    same_value _ _ (same_read seen (asked (Lookup n) x) i j x y t within (Name n) (or_left _ _ (bytes_eq_self n)))
same_reply (Ask n) seen i j x y t within =
    same_input _ _ (same_read seen (asked (Ask n) x) i j x y t within (Input n) (bytes_eq_self n))
same_reply (Use b ps) seen i j x y t within =
    same_map ps _ _ (λ p e. same_number _ _ (same_read seen (asked (Use b ps) x) i j x y t within (Byte b p) (and_from _ _ (same_base_self b) e)))
same_reply (Make bytes) seen i j x y t within = ap₂ (λ l n. record { label = l; number = n }) t.label t.next

same_asked : (a : Act) (i j : Inputs) (x y : Running) → reply i a x ≡ reply j a y → (k : Key) → asked a x k ≡ asked a y k
same_asked (Lookup n) i j x y e k = ap (λ v. is_name n k || is_length_of v k) e
same_asked (Ask n) i j x y e k = refl
same_asked (Use b ps) i j x y e k = refl
same_asked (Make bytes) i j x y e k = refl

twin_read : (keys keys' : Key → Bool) (seen : Key → Bool) (i j : Inputs) (x y : Running) → Twin seen i j x y → ((k : Key) → keys k ≡ keys' k) → Twin seen i j (having_read keys x) (having_read keys' y)
twin_read keys keys' seen i j x y t e = record {
  label = t.label;
  next = t.next;
  events = t.events;
  written = t.written;
  read = fun_ext (λ k. ap₂ (λ a b. a || b) (ap (λ f. f k) t.read) (ap₂ (λ a b. a && not b) (e k) (same_own seen i j x y t k)));
  same = t.same;
}

number_from : (x y : ℕ) → x ≡ y → Number x ≡ Number y
number_from x y e = ap Number e

same_with : (b c : Base) (l m n : List ℕ) (f : List ℕ → ℕ) → (same_base b c ≡ false → Number (f m) ≡ Number (f n)) → Number (f (cond (same_base b c) l m)) ≡ Number (f (cond (same_base b c) l n))
same_with b c l m n f h = elim (cases_Bool (same_base b c)) [
  | inl e ↦ rw e refl
  | inr e ↦ rw e (h e)
]

twin_made : (bytes : List ℕ) (seen : Key → Bool) (i j : Inputs) (x y : Running) → Twin seen i j x y → Twin seen i j (made (Make bytes) x) (made (Make bytes) y)
twin_made bytes seen i j x y t = record {
  label = t.label;
  next = ap (λ n. n + 1) t.next;
  events = t.events;
  written = t.written;
  read = t.read;
  same = elim [
    | Name n ↦ t.same (Name n)
    | Input n ↦ t.same (Input n)
    | Length c ↦ λ h. same_with (record { label = x.label; number = x.next }) c bytes _ _ length (λ _. t.same (Length c) h)
        ∙ ap₂ (λ l n. Number (length (with_base (record { label = l; number = n }) bytes y.bytes c))) t.label t.next
    | Byte c p ↦ λ h. same_with (record { label = x.label; number = x.next }) c bytes _ _ (λ l. get_or l p 0) (λ _. t.same (Byte c p) h)
        ∙ ap₂ (λ l n. Number (get_or (with_base (record { label = l; number = n }) bytes y.bytes c) p 0)) t.label t.next
    | OfRule ↦ λ h. refl
  ];
}

pub twin_after : (a : Act) (seen : Key → Bool) (i j : Inputs) (x y : Running) → Twin seen i j x y → reply i a x ≡ reply j a y → Twin seen i j (after a x) (after a y)
twin_after (Lookup n) seen i j x y t e = twin_read _ _ seen i j x y t (same_asked (Lookup n) i j x y e)
twin_after (Ask n) seen i j x y t e = twin_read _ _ seen i j x y t (λ k. refl)
twin_after (Use b ps) seen i j x y t e = twin_read _ _ seen i j x y t (λ k. refl)
twin_after (Make bytes) seen i j x y t e = twin_made bytes seen i j _ _ (twin_read (λ k. false) (λ k. false) seen i j x y t (λ k. refl))

touched-more : (n : List ℕ) (es : List Event) (e : Event) → is_touched n (es ++ e ∷ []) ≡ (is_touched n es || is_event_of n e)
touched-more n [] e = grind (arith, nat_tests)
touched-more n (d ∷ es) e = grind (arith, nat_tests, touched-more n es e)

-- what a name stands for after an event, and whether it is the cell's own doing
bound_twin : (n m : List ℕ) (es ds : List Event) (e : Event) (seen old : Bool) (o a b : Option Value) → is_event_of m e ≡ bytes_eq m n → es ≡ ds
    → ((is_touched m es || seen) ≡ true → Bound a ≡ Bound b) → (is_touched m (es ++ e ∷ []) || seen) ≡ true → Bound (cond (bytes_eq m n) o a) ≡ Bound (cond (bytes_eq m n) o b)
bound_twin n m es ds e seen old o a b at_event same_es h own = elim (cases_Bool (bytes_eq m n)) [
  | inl is ↦ rw is refl
  | inr other ↦ rw other (h (elim (or_cases _ _ own) [
    | inl touched ↦ or_left (is_touched m es) seen (elim (or_cases (is_touched m es) (is_event_of m e) (sym (touched-more m es e) ∙ touched)) [ inl before ↦ before | inr now ↦ absurd (not_both (bytes_eq m n) other (sym at_event ∙ now)) ])
    | inr read ↦ or_right _ _ read
  ]))
]

still_own : (o w is place seen : Bool) → (is ≡ true → place ≡ false) → ((o || (w || (is && place))) || seen) ≡ true → ((o || w) || seen) ≡ true
still_own true w is place seen h e = refl
still_own false true is place seen h e = refl
still_own false false is place true h e = refl
still_own false false true true false h e = absurd (not_both true (h refl) refl)
still_own false false true false false h e = e
still_own false false false place false h e = e

pub twin_done : (e : Effect) (seen : Key → Bool) (i j : Inputs) (x y : Running) → Twin seen i j x y → Within seen (done e x) → Twin seen i j (done e x) (done e y)
twin_done Nothing seen i j x y t within = t
twin_done (Prints text) seen i j x y t within = t
twin_done (Saves name file) seen i j x y t within = t
twin_done (Binding n v) seen i j x y t within = record {
  label = t.label;
  next = t.next;
  events = ap (λ es. es ++ Binds n v ∷ []) t.events;
  written = t.written;
  read = t.read;
  same = elim [
    | Name m ↦ λ h. rw (lookup-bind m n v x.names, lookup-bind m n v y.names)
        (bound_twin n m x.events y.events (Binds n v) (seen (Name m)) false (Some v) _ _ refl t.events (t.same (Name m)) h)
    | Input m ↦ t.same (Input m)
    | Length c ↦ t.same (Length c)
    | Byte c p ↦ t.same (Byte c p)
    | OfRule ↦ t.same OfRule
  ];
}
twin_done (Unbinding n) seen i j x y t within = record {
  label = t.label;
  next = t.next;
  events = ap (λ es. es ++ Unbinds n ∷ []) t.events;
  written = t.written;
  read = t.read;
  same = elim [
    | Name m ↦ λ h. rw (lookup-unbind m n x.names, lookup-unbind m n y.names)
        (bound_twin n m x.events y.events (Unbinds n) (seen (Name m)) false None _ _ refl t.events (t.same (Name m)) h)
    | Input m ↦ t.same (Input m)
    | Length c ↦ t.same (Length c)
    | Byte c p ↦ t.same (Byte c p)
    | OfRule ↦ t.same OfRule
  ];
}
twin_done (Storing b ws) seen i j x y t within = record {
  label = t.label;
  next = t.next;
  events = t.events;
  written = fun_ext (λ c. fun_ext (λ p. ap (λ w. w c p || (same_base b c && is_place p ws)) t.written));
  read = fun_ext (λ k. ap₂ (λ a o. a || (is_length b k && not o)) (ap (λ f. f k) t.read) (same_own seen i j x y t k));
  same = elim [
    | Name m ↦ t.same (Name m)
    | Input m ↦ t.same (Input m)
    | Length c ↦ λ h. stored_length b c ws x y (t.same (Length c) h)
    | Byte c p ↦ λ h. elim (cases_Bool (same_base b c)) [
      | inl is ↦ rw is (number_from _ _ (same_put ws p (x.bytes c) (y.bytes c)
          (same_number _ _ (same_read seen (is_length b) i j x y t within (Length c) is))
          (λ elsewhere. same_number _ _ (t.same (Byte c p) (still_own (eqb c.label x.label) (x.written c p) (same_base b c) (is_place p ws) (seen (Byte c p)) (λ _. elsewhere) h)))))
      | inr other ↦ rw other (t.same (Byte c p) (still_own (eqb c.label x.label) (x.written c p) (same_base b c) (is_place p ws) (seen (Byte c p)) (λ e. absurd (not_both _ other e)) h))
    ]
    | OfRule ↦ t.same OfRule
  ];
}
  where
    stored_length : (b c : Base) (ws : List (ℕ × ℕ)) (x y : Running) → Number (length (x.bytes c)) ≡ Number (length (y.bytes c))
        → Number (length (cond (same_base b c) (put ws (x.bytes c)) (x.bytes c))) ≡ Number (length (cond (same_base b c) (put ws (y.bytes c)) (y.bytes c)))
    stored_length b c ws x y h = elim (cases_Bool (same_base b c)) [
      | inl is ↦ rw is (number_from _ _ (length-put ws (x.bytes c) ∙ same_number _ _ h ∙ sym (length-put ws (y.bytes c))))
      | inr other ↦ rw other h
    ]
