-- The law of a change.
use Rattle.std.proofs.Common.{◌≡◌, ℕ, zero, suc, ◌<◌, IsTrue, Bool, true, false, cond, ◌||◌, eqb, eqb-true, List, [], ◌∷◌, length, get_or, Option, Some, None, IfSome, unwrap_or, option_map, refl, sym, ap, ap₂, subst, ◌∙◌, inl, inr, arith}
use Rattle.std.specs.Prelude.{bytes_eq, ◌⊎◌, is_none}
use Rattle.std.proofs.lemmas.Bool.{cases_Bool, or_left, or_right, or_cases}
use Rattle.nd_model.specs.Arrays.Value.{Base, Value, lies_in}
use Rattle.nd_model.specs.Cells.Session.{Names, lookup, bind, unbind, is_held, Session, held_bytes}
use Rattle.nd_model.specs.Cells.Running.{Event, Binds, Unbinds, Key, Name, Input, Length, Byte, OfRule, World, is_touched}
use Rattle.nd_model.specs.Cells.Cell.{Ended, cell, session_after}
use Rattle.nd_model.specs.Cells.Footprint.{Found, Bound, Number, found, HasNone, reads_of, replayed, patched, with_effects}
use Rattle.nd_model.specs.Book.Records.{Record, StillHolds}
use Rattle.nd_model.proofs.Lists.{not_both}
use Rattle.nd_model.proofs.Tracks.{effects_are_all}
use Rattle.nd_model.proofs.Sessions.{untouched_lookup}
use Rattle.nd_model.proofs.Passing.{stands}
use Rattle.nd_change.proofs.Touched.{touched_lookup}
use Rattle.nd_change.proofs.Named.{by_name}
use Rattle.nd_change.specs.Change.{Change, IsThere, IsOver, puts, puts_by, did_by, IsNamed, BindsNamed, IsByName, IsRunOver, Fits, HoldsOver, IsStep, GoesOn, without, Overwrites, Passes}

-- ---- small facts

same_some : {X : Type 0} (x y : X) → Some x ≡ Some y → x ≡ y
same_some x y e = cc

same_bound : (x y : Option Value) → Bound x ≡ Bound y → x ≡ y
same_bound x y e = cc

none_some : {X : Type 0} (x : X) → None ≡ Some x → ⊥
none_some x e = cc

-- ---- names

-- a name that is bound to a value in a base holds it
pub held_by_name : (b : Base) (n : List ℕ) (v : Value) (es : Names) → lookup n es ≡ Some v → lies_in b v ≡ true → is_held b es ≡ true
held_by_name b n v [] e l = absurd (none_some v e)
held_by_name b n v (x ∷ es) e l = elim (cases_Bool (bytes_eq n x.0)) [
  | inl is ↦ let same : x.1 ≡ v = same_some _ _ (rw is at e) in or_left _ _ (ap (lies_in b) same ∙ l)
  | inr other ↦ or_right _ _ (held_by_name b n v es (rw other at e) l)
]

-- what is held once a name is bound was held, or the value lies in it
pub held-bind : (b : Base) (n : List ℕ) (v : Value) (ns : Names) → is_held b (bind n v ns) ≡ true → (lies_in b v ≡ true) ⊎ (is_held b ns ≡ true)
held-bind b n v [] h = elim (or_cases _ _ h) [ inl here ↦ inl here | inr there ↦ inr there ]
held-bind b n v (e ∷ ns) h = elim (cases_Bool (bytes_eq n e.0)) [
  | inl is ↦ elim (or_cases (lies_in b v) (is_held b ns) (rw is at h)) [ inl here ↦ inl here | inr there ↦ inr (or_right _ _ there) ]
  | inr other ↦ elim (or_cases (lies_in b e.1) (is_held b (bind n v ns)) (rw other at h)) [
    | inl here ↦ inr (or_left _ _ here)
    | inr there ↦ elim (held-bind b n v ns there) [ inl v ↦ inl v | inr more ↦ inr (or_right _ _ more) ]
  ]
]

pub held-unbind : (b : Base) (n : List ℕ) (ns : Names) → is_held b (unbind n ns) ≡ true → is_held b ns ≡ true
held-unbind b n [] h = h
held-unbind b n (e ∷ ns) h = elim (cases_Bool (bytes_eq n e.0)) [
  | inl is ↦ or_right _ _ (held-unbind b n ns (rw is at h))
  | inr other ↦ elim (or_cases (lies_in b e.1) (is_held b (unbind n ns)) (rw other at h)) [
    | inl here ↦ or_left _ _ here
    | inr there ↦ or_right _ _ (held-unbind b n ns there)
  ]
]

-- a base of another cell that is held behind a run was held before it, or the run came to it by a name
held_from : (r : Record) (b : Base) (es : List Event) (ns : Names) → eqb b.label r.label ≡ false → BindsNamed r es → is_held b (replayed es ns) ≡ true → (is_held b ns ≡ true) ⊎ IsNamed r b
held_from r b [] ns other named h = inl h
held_from r b (Binds n v ∷ es) ns other named h = elim (held_from r b es (bind n v ns) other named.1 h) [
  | inl before ↦ elim (held-bind b n v ns before) [
    | inl lies ↦ elim (named.0 b lies) [ inl own ↦ absurd (not_both _ other (Rattle.std.proofs.Common.eq-eqb b.label r.label own)) | inr by ↦ inr by ]
    | inr there ↦ inl there
  ]
  | inr by ↦ inr by
]
held_from r b (Unbinds n ∷ es) ns other named h = elim (held_from r b es (unbind n ns) other named h) [
  | inl before ↦ inl (held-unbind b n ns before)
  | inr by ↦ inr by
]

-- the base of a name that was read is there where the record holds
named_there : (r : Record) (s : Session) (i : World) (b : Base) → StillHolds r s i → IsNamed r b → is_held b s.names ≡ true
named_there r s i b h by =
    held_by_name b by.name by.value s.names (same_bound _ _ (same_some _ _ (sym (h.same (Name by.name) by.read) ∙ by.found))) by.lies

-- ---- a run over a session

run_names : (r : Record) (s : Session) (i : World) → IsRunOver r s i → IsByName r
run_names r s i run = subst IsByName (sym run.run) (by_name r.label run.parsed s i)

holds_here : (r : Record) (s : Session) (i : World) → IsRunOver r s i → StillHolds r s i
holds_here r s i run = record { none = run.none; same = λ k read. ap (λ (x : Record). x.values k) run.run ∙ found_read k (ap (λ (x : Record). x.read k) (sym run.run) ∙ read) }
  where
    found_read : (k : Key) → reads_of (cell r.label run.parsed i s) k ≡ true → cond (reads_of (cell r.label run.parsed i s) k) (Some (found s i k)) None ≡ Some (found s i k)
    found_read k read = rw read refl

-- where it does nothing, what is there behind it was there before
pub undone : (r : Record) (s : Session) (i : World) (k : Key) → IsRunOver r s i → puts r k ≡ None → IsThere (with_effects r.label r.effects s) k
    → IsThere s k × (found (with_effects r.label r.effects s) i k ≡ found s i k)
undone r s i (Name n) run none there = (tt, ap Bound (untouched_lookup n r.effects.events s.names (untouched (is_touched n r.effects.events) none)))
  where
    untouched : (t : Bool) → cond t (Some (Bound (lookup n (replayed r.effects.events [])))) None ≡ None → t ≡ false
    untouched true e = absurd (none_some _ (sym e))
    untouched false e = refl
undone r s i (Input n) run none there = (tt, refl)
undone r s i OfRule run none there = (tt, refl)
undone r s i (Length b) run none there =
    let other : eqb b.label r.label ≡ false = foreign (eqb b.label r.label) none in
    let before : is_held b s.names ≡ true = elim (held_from r b r.effects.events s.names other (run_names r s i run).events there) [ inl held ↦ held | inr by ↦ named_there r s i b (holds_here r s i run) by ] in
    (before, rw (there, other) (ap Number (length-patched (r.effects.writes b) (held_bytes s b))))
  where
    foreign : (t : Bool) → cond t (Some (Number (length (r.effects.bases b)))) None ≡ None → t ≡ false
    foreign true e = absurd (none_some _ (sym e))
    foreign false e = refl

    length-patched : (w : ℕ → Option ℕ) (xs : List ℕ) → length (patched w xs) ≡ length xs
    length-patched w [] = refl
    length-patched w (x ∷ xs) = ap suc (length-patched (λ p. w (suc p)) xs)
undone r s i (Byte b p) run none there =
    let parts : (eqb b.label r.label ≡ false) × (r.effects.writes b p ≡ None) = foreign (eqb b.label r.label) (r.effects.writes b p) none in
    let before : is_held b s.names ≡ true = elim (held_from r b r.effects.events s.names parts.0 (run_names r s i run).events there) [ inl held ↦ held | inr by ↦ named_there r s i b (holds_here r s i run) by ] in
    (before, rw (there, parts.0) (ap Number (get_or-patched (r.effects.writes b) (held_bytes s b) p parts.1)))
  where
    foreign : (t : Bool) (o : Option ℕ) → cond t (Some (Number (get_or (r.effects.bases b) p 0))) (option_map Number o) ≡ None → (t ≡ false) × (o ≡ None)
    foreign true o e = absurd (none_some _ (sym e))
    foreign false None e = (refl, refl)
    foreign false (Some x) e = absurd (none_some _ (sym e))

    get_or-patched : (w : ℕ → Option ℕ) (xs : List ℕ) (p : ℕ) → w p ≡ None → get_or (patched w xs) p 0 ≡ get_or xs p 0
    get_or-patched w [] p h = refl
    get_or-patched w (x ∷ xs) zero h = ap (λ o. unwrap_or o x) h
    get_or-patched w (x ∷ xs) (suc p) h = get_or-patched (λ p. w (suc p)) xs p h

-- where it does something, that is there behind it
pub done_there : (r : Record) (s : Session) (i : World) (k : Key) (f : Found) → IsRunOver r s i → puts r k ≡ Some f → IsThere (with_effects r.label r.effects s) k
    → found (with_effects r.label r.effects s) i k ≡ f
done_there r s i (Name n) f run is there =
    let parts : (is_touched n r.effects.events ≡ true) × (Bound (lookup n (replayed r.effects.events [])) ≡ f) = touched (is_touched n r.effects.events) is in
    ap Bound (touched_lookup n r.effects.events s.names [] parts.0) ∙ parts.1
  where
    touched : (t : Bool) → cond t (Some (Bound (lookup n (replayed r.effects.events [])))) None ≡ Some f → (t ≡ true) × (Bound (lookup n (replayed r.effects.events [])) ≡ f)
    touched true e = (refl, same_some _ _ e)
    touched false e = absurd (none_some _ e)
done_there r s i (Input n) f run is there = absurd (none_some _ is)
done_there r s i OfRule f run is there = absurd (none_some _ is)
done_there r s i (Length b) f run is there =
    let parts : (eqb b.label r.label ≡ true) × (Number (length (r.effects.bases b)) ≡ f) = own (eqb b.label r.label) is in
    rw (there, parts.0) parts.1
  where
    own : (t : Bool) → cond t (Some (Number (length (r.effects.bases b)))) None ≡ Some f → (t ≡ true) × (Number (length (r.effects.bases b)) ≡ f)
    own true e = (refl, same_some _ _ e)
    own false e = absurd (none_some _ e)
done_there r s i (Byte b p) f run is there = elim (cases_Bool (eqb b.label r.label)) [
  | inl own ↦ rw (there, own) (same_some _ _ (rw own at is))
  | inr other ↦ written (rw other at is)
]
  where
    e : Ended
    e = cell r.label run.parsed i s

    -- the session behind the run itself
    after : with_effects r.label r.effects s ≡ session_after e
    after = ap (λ (x : Record). with_effects r.label x.effects s) run.run ∙ sym (effects_are_all r.label run.parsed s i run.none)

    held : is_held b e.running.names ≡ true
    held = ap (λ (t : Session). is_held b t.names) (sym after) ∙ there

    now : found (with_effects r.label r.effects s) i (Byte b p) ≡ Number (get_or (e.running.bytes b) p 0)
    now = ap (λ (t : Session). found t i (Byte b p)) after ∙ rw held refl

    written_as : (t w : Bool) (x : ℕ) → option_map Number (cond t None (cond w (Some x) None)) ≡ Some f → Number x ≡ f
    written_as true w x h = absurd (none_some _ h)
    written_as false true x h = same_some _ _ h
    written_as false false x h = absurd (none_some _ h)

    written : option_map Number (r.effects.writes b p) ≡ Some f → found (with_effects r.label r.effects s) i (Byte b p) ≡ f
    written h = now ∙ written_as (eqb b.label e.running.label) (e.running.written b p) _ (ap (λ (x : Record). option_map Number (x.effects.writes b p)) (sym run.run) ∙ h)

-- ---- the law

either : (d : Change) (k : Key) → (d k ≡ None) ⊎ ((f : Found) × (d k ≡ Some f))
either d k = elim (d k) as (λ o. (o ≡ None) ⊎ ((f : Found) × (o ≡ Some f))) [ None ↦ inl refl | Some f ↦ inr (f, refl) ]

-- where a key fits, it is now what the run found
fits_found : (d : Change) (r : Record) (s t : Session) (i j : World) (k : Key) → IsOver d s i t j → StillHolds r s i → IsTrue (r.read k) → IsThere s k → IsThere t k → (d k ≡ None) ⊎ (d k ≡ r.values k)
    → r.values k ≡ Some (found t j k)
fits_found d r s t i j k over h read in_s in_t (inl out) = h.same k read ∙ ap Some (over.same k out in_s in_t)
fits_found d r s t i j k over h read in_s in_t (inr is) = h.same k read ∙ ap Some (sym (over.now k (found s i k) (is ∙ h.same k read) in_t))

-- and the base of a name that was read is there too
named_now : (d : Change) (r : Record) (s t : Session) (i j : World) (b : Base) → IsOver d s i t j → StillHolds r s i → Fits d r → IsNamed r b → is_held b t.names ≡ true
named_now d r s t i j b over h fits by =
    held_by_name b by.name by.value t.names
    (same_bound _ _ (same_some _ _ (sym (fits_found d r s t i j (Name by.name) over h by.read tt tt (fits (Name by.name) by.read)) ∙ by.found))) by.lies

pub fits_holds : (d : Change) (r : Record) (s t : Session) (i j : World) → IsOver d s i t j → IsRunOver r s i → HasNone r.label t → Fits d r → StillHolds r t j
fits_holds d r s t i j over run none fits = record { none = none; same = same }
  where
    h : StillHolds r s i
    h = holds_here r s i run

    same : (k : Key) → IsTrue (r.read k) → r.values k ≡ Some (found t j k)
    same (Name n) read = fits_found d r s t i j (Name n) over h read tt tt (fits (Name n) read)
    same (Input n) read = fits_found d r s t i j (Input n) over h read tt tt (fits (Input n) read)
    same OfRule read = fits_found d r s t i j OfRule over h read tt tt (fits OfRule read)
    same (Length b) read = let by : IsNamed r b = (run_names r s i run).lengths b read in
        fits_found d r s t i j (Length b) over h read (named_there r s i b h by) (named_now d r s t i j b over h fits by) (fits (Length b) read)
    same (Byte b p) read = let by : IsNamed r b = (run_names r s i run).bytes b p read in
        fits_found d r s t i j (Byte b p) over h read (named_there r s i b h by) (named_now d r s t i j b over h fits by) (fits (Byte b p) read)

holds_fits : (d : Change) (r : Record) (s t : Session) (i j : World) → IsOver d s i t j → IsByName r → StillHolds r t j → Fits d r
holds_fits d r s t i j over names h k read = elim (either d k) [
  | inl out ↦ inl out
  | inr is ↦ inr (is.1 ∙ ap Some (sym (over.now k is.0 is.1 (there k read))) ∙ sym (h.same k read))
]
  where
    there : (k : Key) → IsTrue (r.read k) → IsThere t k
    there (Name n) read = tt
    there (Input n) read = tt
    there OfRule read = tt
    there (Length b) read = named_there r t j b h (names.lengths b read)
    there (Byte b p) read = named_there r t j b h (names.bytes b p read)

pub holds_over : HoldsOver
holds_over d r s t i j over run none = (holds_fits d r s t i j over (run_names r s i run), fits_holds d r s t i j over run none)

-- what is there behind a run, or behind none, where that does something, and where it does not
done_by : (r : Option Record) (s : Session) (i : World) (k : Key) (f : Found) → IfSome r (λ r. IsRunOver r s i) → puts_by r k ≡ Some f → IsThere (did_by r s) k → found (did_by r s) i k ≡ f
done_by None s i k f run is there = absurd (none_some _ is)
done_by (Some r) s i k f run is there = done_there r s i k f run is there

undone_by : (r : Option Record) (s : Session) (i : World) (k : Key) → IfSome r (λ r. IsRunOver r s i) → puts_by r k ≡ None → IsThere (did_by r s) k → IsThere s k × (found (did_by r s) i k ≡ found s i k)
undone_by None s i k run none there = (there, refl)
undone_by (Some r) s i k run none there = undone r s i k run none there

pub goes_on : GoesOn
goes_on d e r q s t i j over old new step = record { now = now; same = same }
  where
    now : (k : Key) (f : Found) → e k ≡ Some f → IsThere (did_by q t) k → found (did_by q t) j k ≡ f
    now k f is there = elim (step.now k f is there) [
      | inl here ↦ here
      | inr left ↦ let before : IsThere t k × (found (did_by q t) j k ≡ found t j k) = undone_by q t j k new left.1 there in before.1 ∙ over.now k f left.0 before.0
    ]

    same : (k : Key) → e k ≡ None → IsThere (did_by r s) k → IsThere (did_by q t) k → found (did_by r s) i k ≡ found (did_by q t) j k
    same k out in_s in_t = elim (either (puts_by r) k) [
      | inl none ↦
          let before : IsThere s k × (found (did_by r s) i k ≡ found s i k) = undone_by r s i k old none in_s in
          let now : IsThere t k × (found (did_by q t) j k ≡ found t j k) = undone_by q t j k new (sym (step.same k out in_s in_t) ∙ none) in_t in
          before.1 ∙ over.same k (step.rest k out in_s in_t none) before.0 now.0 ∙ sym now.1
      | inr is ↦ done_by r s i k is.0 old is.1 in_s ∙ sym (done_by q t j k is.0 new (sym (step.same k out in_s in_t) ∙ is.1) in_t)
    ]

-- the record of a run stands for one over each session that it holds over
pub run_over : (r : Record) (s t : Session) (i j : World) → IsRunOver r s i → StillHolds r t j → IsRunOver r t j
run_over r s t i j run h = record { parsed = run.parsed; none = h.none; run = (stands r.label run.parsed r t j (i, s, run.none, run.run) h).0 }

-- the change without what the run overwrites is a step behind it
pub without_step : (d : Change) (r : Record) (u t : Session) (j : World) → IsStep d (Some r) (Some r) u t j (without r d)
without_step d r u t j = record {
  now = λ k f is there. let parts : (puts r k ≡ None) × (d k ≡ Some f) = left (puts r k) (d k) f is in inr (parts.1, parts.0);
  same = λ k out in_u in_t. refl;
  rest = λ k out in_u in_t none. rw none at out;
}
  where
    left : (o : Option Found) (x : Option Found) (f : Found) → cond (is_none o) x None ≡ Some f → (o ≡ None) × (x ≡ Some f)
    left None x f h = (refl, h)
    left (Some y) x f h = absurd (none_some _ h)

pub overwrites : Overwrites
overwrites d r s t i j over run none fits =
    let now : IsRunOver r t j = run_over r s t i j run (fits_holds d r s t i j over run none fits) in
    goes_on d (without r d) (Some r) (Some r) s t i j over run now (without_step d r (did_by (Some r) s) (did_by (Some r) t) j)

pub passes : Passes
passes d r s t i j over run none disjoint = (holds, goes_on d d (Some r) (Some r) s t i j over run now step)
  where
    holds : StillHolds r t j
    holds = fits_holds d r s t i j over run none (λ k read. inl (disjoint.reads k read))

    now : IsRunOver r t j
    now = run_over r s t i j run holds

    step : IsStep d (Some r) (Some r) (did_by (Some r) s) (did_by (Some r) t) j d
    step = record {
      now = λ k f is there. elim (disjoint.does k) [ inl none ↦ inr (is, none) | inr out ↦ absurd (none_some _ (sym out ∙ is)) ];
      same = λ k out in_u in_t. refl;
      rest = λ k out in_u in_t none. out;
    }
