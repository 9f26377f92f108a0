-- Sessions that are kept.
use Rattle.std.proofs.Common.{◌≡◌, ℕ, ◌<◌, IsTrue, Bool, true, false, cond, ◌||◌, List, [], ◌∷◌, length, get_or, Option, Some, None, refl, sym, ap, ap₂, subst, ◌∙◌, inl, inr}
use Rattle.std.specs.Prelude.{bytes_eq, ◌⊎◌, IsSome}
use Rattle.std.proofs.lemmas.Bool.{cases_Bool, or_cases}
use Rattle.std.proofs.lemmas.List.{ext_get_or}
use Rattle.nd_model.specs.Arrays.Value.{Base, Value, lies_in}
use Rattle.nd_model.specs.Cells.Session.{Names, lookup, bind, unbind, is_held, Session, held_bytes}
use Rattle.nd_model.specs.Cells.Running.{Event, Binds, Unbinds, Key, Name, Input, Length, Byte, OfRule, World}
use Rattle.nd_model.specs.Cells.Cell.{cell, session_after}
use Rattle.nd_model.specs.Cells.Footprint.{Found, Bound, Number, found, HasNone, replayed, patched, with_effects}
use Rattle.nd_model.specs.Book.Records.{Record, record_of, StillHolds}
use Rattle.nd_model.specs.Book.Sessions.{IsOnce}
use Rattle.nd_model.proofs.Lists.{same_bytes, bytes_eq_self, not_both, lookup-bind, lookup-unbind}
use Rattle.nd_model.proofs.Passing.{stands}
use Rattle.nd_model.proofs.Sessions.{once_replayed}
use Rattle.nd_model.proofs.Tracks.{effects_are_all}
use Rattle.nd_change.specs.Change.{IsThere, did_by}
use Rattle.nd_change.specs.Snapshots.{IsAlike, NothingLeft, AlikeRuns, AlikeReplays, Patches, OverAlike}
use Rattle.nd_change.proofs.Changes.{held_by_name}

same_number : (x y : ℕ) → Number x ≡ Number y → x ≡ y
same_number x y e = cc

same_value : (x y : Option Value) → Bound x ≡ Bound y → x ≡ y
same_value x y e = cc

-- a base that is held is held by a name that finds it
found_by : (b : Base) (es : Names) → IsOnce es → is_held b es ≡ true → (n : List ℕ) × (v : Value) × (lookup n es ≡ Some v) × (lies_in b v ≡ true)
found_by b [] once h = absurd (cc)
found_by b (e ∷ es) once h = elim (or_cases _ _ h) [
  | inl here ↦ (e.0, e.1, rw (bytes_eq_self e.0) refl, here)
  | inr there ↦
      let more : (n : List ℕ) × (v : Value) × (lookup n es ≡ Some v) × (lies_in b v ≡ true) = found_by b es once.1 there in
      elim (cases_Bool (bytes_eq more.0 e.0)) [
        | inl is ↦ absurd (none_some more.1 (sym once.0 ∙ ap (λ n. lookup n es) (sym (same_bytes more.0 e.0 is)) ∙ more.2))
        | inr other ↦ (more.0, more.1, rw other more.2, more.3)
      ]
]
  where
    none_some : (v : Value) → None ≡ Some v → ⊥
    none_some v e = cc

-- names that find the same hold the same
pub held_more : (b : Base) (es ds : Names) → IsOnce es → ((n : List ℕ) → lookup n es ≡ lookup n ds) → is_held b es ≡ true → is_held b ds ≡ true
held_more b es ds once same h =
    let by : (n : List ℕ) × (v : Value) × (lookup n es ≡ Some v) × (lies_in b v ≡ true) = found_by b es once h in
    held_by_name b by.0 by.1 ds (sym (same by.0) ∙ by.2) by.3

held_same : (b : Base) (es ds : Names) → IsOnce es → IsOnce ds → ((n : List ℕ) → lookup n es ≡ lookup n ds) → is_held b es ≡ is_held b ds
held_same b es ds once once' same = elim (cases_Bool (is_held b es)) [
  | inl held ↦ held ∙ sym (held_more b es ds once same held)
  | inr not ↦ elim (cases_Bool (is_held b ds)) [
    | inl held ↦ absurd (not_both _ not (held_more b ds es once' (λ n. sym (same n)) held))
    | inr neither ↦ not ∙ sym neither
  ]
]

-- sessions in which the same names are bound, and the same is found in each base
alike_from : (s t : Session) (i j : World) → IsOnce s.names → IsOnce t.names → ((n : List ℕ) → lookup n s.names ≡ lookup n t.names)
    → ((k : Key) → IsThere s k → IsThere t k → found s i k ≡ found t j k) → IsAlike s t
alike_from s t i j once once' names same = record { names = names; held = held; bytes = bytes }
  where
    held : (b : Base) → is_held b s.names ≡ is_held b t.names
    held b = held_same b s.names t.names once once' names

    bytes : (b : Base) → held_bytes s b ≡ held_bytes t b
    bytes b = elim (cases_Bool (is_held b s.names)) [
      | inl is ↦ let is' : is_held b t.names ≡ true = sym (held b) ∙ is in
          ext_get_or 0 (held_bytes s b) (held_bytes t b) (same_number _ _ (same (Length b) is is')) (λ p _. same_number _ _ (same (Byte b p) is is'))
      | inr not ↦ let not' : is_held b t.names ≡ false = sym (held b) ∙ not in rw (not, not') refl
    ]

pub nothing_left : NothingLeft
nothing_left s t i j over once once' =
    alike_from s t i j once once' (λ n. same_value _ _ (over.same (Name n) refl tt tt)) (λ k in_s in_t. over.same k refl in_s in_t)

pub patches : Patches
patches d s t u i j over once patch = alike_from u t j j patch.once once names same
  where
    either : (k : Key) → (d k ≡ None) ⊎ ((f : Found) × (d k ≡ Some f))
    either k = elim (d k) as (λ o. (o ≡ None) ⊎ ((f : Found) × (o ≡ Some f))) [ None ↦ inl refl | Some f ↦ inr (f, refl) ]

    none_is : (f : Option Found) → f ≡ None → IsSome f → ⊥
    none_is None e h = absurd (let g : false ≡ true = h in cc)
    none_is (Some f) e h = absurd (let g : Some f ≡ None = e in cc)

    at : (k : Key) → (d k ≡ None → IsThere s k) → IsThere u k → IsThere t k → found u j k ≡ found t j k
    at k in_s in_u in_t = elim (either k) [
      | inl out ↦ patch.same k out in_u ∙ over.same k out (in_s out) in_t
      | inr is ↦ patch.now k is.0 is.1 in_u ∙ sym (over.now k is.0 is.1 in_t)
    ]

    names : (n : List ℕ) → lookup n u.names ≡ lookup n t.names
    names n = same_value _ _ (at (Name n) (λ out. tt) tt tt)

    same : (k : Key) → IsThere u k → IsThere t k → found u j k ≡ found t j k
    same (Name n) in_u in_t = at (Name n) (λ out. tt) tt tt
    same (Input n) in_u in_t = at (Input n) (λ out. tt) tt tt
    same OfRule in_u in_t = at OfRule (λ out. tt) tt tt
    same (Length b) in_u in_t = at (Length b) (λ out. elim (patch.known b in_u) [ inl held ↦ held | inr whole ↦ absurd (none_is (d (Length b)) out whole.length) ]) in_u in_t
    same (Byte b p) in_u in_t = at (Byte b p) (λ out. elim (patch.known b in_u) [ inl held ↦ held | inr whole ↦ absurd (none_is (d (Byte b p)) out (whole.bytes p)) ]) in_u in_t

-- ---- runs over alike sessions

alike_found : (s t : Session) (i : World) → IsAlike s t → (k : Key) → found s i k ≡ found t i k
alike_found s t i alike (Name n) = ap Bound (alike.names n)
alike_found s t i alike (Input n) = refl
alike_found s t i alike OfRule = refl
alike_found s t i alike (Length b) = ap (λ l. Number (length l)) (alike.bytes b)
alike_found s t i alike (Byte b p) = ap (λ l. Number (get_or l p 0)) (alike.bytes b)

alike_sym : (s t : Session) → IsAlike s t → IsAlike t s
alike_sym s t a = record { names = λ n. sym (a.names n); held = λ b. sym (a.held b); bytes = λ b. sym (a.bytes b) }

none_alike : (label : ℕ) (s t : Session) → IsAlike s t → HasNone label t → HasNone label s
none_alike label s t a none = record { none = λ b is. a.held b ∙ none.none b is }

holds_alike : (r : Record) (s t : Session) (i : World) → IsAlike s t → StillHolds r t i → StillHolds r s i
holds_alike r s t i a h = record { none = none_alike r.label s t a h.none; same = λ k read. h.same k read ∙ ap Some (sym (alike_found s t i a k)) }

there_alike : (s t : Session) → IsAlike s t → (k : Key) → IsThere s k → IsThere t k
there_alike s t a (Name n) h = tt
there_alike s t a (Input n) h = tt
there_alike s t a OfRule h = tt
there_alike s t a (Length b) h = sym (a.held b) ∙ h
there_alike s t a (Byte b p) h = sym (a.held b) ∙ h

pub over_alike : OverAlike
over_alike d s t u v i j over left right = record {
  now = λ k f is there. alike_found v t j right k ∙ over.now k f is (there_alike v t right k there);
  same = λ k out in_u in_v. alike_found u s i left k ∙ over.same k out (there_alike u s left k in_u) (there_alike v t right k in_v) ∙ sym (alike_found v t j right k);
}

-- what is bound after the same events, and what is held
module _ (r : Record) (s t : Session) (a : IsAlike s t) (once : IsOnce s.names) (once' : IsOnce t.names) where
  same_lookups : (es : List Event) (ns ms : Names) → ((n : List ℕ) → lookup n ns ≡ lookup n ms) → (n : List ℕ) → lookup n (replayed es ns) ≡ lookup n (replayed es ms)
  same_lookups [] ns ms h n = h n
  same_lookups (Binds m v ∷ es) ns ms h n = same_lookups es (bind m v ns) (bind m v ms) (λ n. lookup-bind n m v ns ∙ ap (cond (bytes_eq n m) (Some v)) (h n) ∙ sym (lookup-bind n m v ms)) n
  same_lookups (Unbinds m ∷ es) ns ms h n = same_lookups es (unbind m ns) (unbind m ms) (λ n. lookup-unbind n m ns ∙ ap (cond (bytes_eq n m) None) (h n) ∙ sym (lookup-unbind n m ms)) n

  alike_done : IsAlike (did_by (Some r) s) (did_by (Some r) t)
  alike_done = record { names = names; held = held; bytes = bytes }
    where
      names : (n : List ℕ) → lookup n (replayed r.effects.events s.names) ≡ lookup n (replayed r.effects.events t.names)
      names = same_lookups r.effects.events s.names t.names a.names

      held : (b : Base) → is_held b (replayed r.effects.events s.names) ≡ is_held b (replayed r.effects.events t.names)
      held b = held_same b (replayed r.effects.events s.names) (replayed r.effects.events t.names) (once_replayed r.effects.events s.names once) (once_replayed r.effects.events t.names once') names

      bytes : (b : Base) → held_bytes (did_by (Some r) s) b ≡ held_bytes (did_by (Some r) t) b
      bytes b = ap₂ (λ h l. cond h (cond h (cond (Rattle.std.proofs.Common.eqb b.label r.label) (r.effects.bases b) (patched (r.effects.writes b) l)) []) []) (held b) (a.bytes b)

pub alike_replays : AlikeReplays
alike_replays r s t i a once once' h = (holds_alike r s t i a h, alike_done r s t a once once')

pub alike_runs : AlikeRuns
alike_runs label p s t i a once once' none =
    let r : Record = record_of label p i t in
    let holds : StillHolds r t i = record { none = none; same = λ k read. rw read refl } in
    let both : (r ≡ record_of label p i s) × (with_effects label r.effects s ≡ session_after (cell label p i s)) = stands label p r s i (i, t, none, refl) (holds_alike r s t i a holds) in (
      none_alike label s t a none,
      sym both.0,
      subst (λ u. IsAlike u (session_after (cell label p i t))) both.1 (subst (IsAlike (with_effects label r.effects s)) (sym (effects_are_all label p t i none)) (alike_done r s t a once once')),
    )
