-- Names in layers.
use Rattle.std.proofs.Common.{◌≡◌, ℕ, zero, suc, ◌+◌, ◌-◌, ◌≤◌, Bool, true, false, ◌||◌, cond, bytes_eq, List, [], ◌∷◌, ◌++◌, length, take, slice_get, Option, Some, None, is_some, option_map, unwrap_or, add-one, refl, sym, ap, ◌∙◌, inl, inr, arith}
use Rattle.std.proofs.lemmas.Bool.{cases_Bool, or_parts, or_from}
use Rattle.nd_model.specs.Arrays.Value as model
use Rattle.nd_model.specs.Cells.Session.{Names, lookup, bind, unbind, is_held}
use Rattle.nd_model.specs.Book.Sessions.{IsOnce}
use Rattle.nd_model.proofs.Lists.{lookup-bind, lookup-unbind, bytes_eq_same}
use Rattle.nd_heap.specs.Layers.{overridden, AreDistinctNames}
use Rattle.nd_heap.specs.Loose.{lies_in_found, LosesHolder}
use Rattle.nd_heap.proofs.Plain.{none_some, some_same, false_true, or_false, or_true, or_assoc}
use Rattle.nd_heap.proofs.Same.{same_bytes}

abbrev pub Entry : Type 0
Entry = List ℕ × model.Value

eq_sym : (m n : List ℕ) → bytes_eq m n ≡ bytes_eq n m
eq_sym m n = elim (cases_Bool (bytes_eq m n)) [
  | inl is ↦ is ∙ sym (bytes_eq_same n m (sym (same_bytes m n is)))
  | inr other ↦ elim (cases_Bool (bytes_eq n m)) [
    | inl is ↦ bytes_eq_same m n (sym (same_bytes n m is)) ∙ sym is
    | inr apart ↦ other ∙ sym apart
  ]
]

-- ---- distinct names

pub once_of : (es : Names) → AreDistinctNames es → IsOnce es
once_of [] h = tt
once_of (e ∷ es) h = (h.0, once_of es h.1)

-- ---- look-ups

pub found_front : (n : List ℕ) (xs ys : Names) (v : model.Value) → lookup n xs ≡ Some v → lookup n (xs ++ ys) ≡ Some v
found_front n [] ys v h = none_some v h
found_front n (x ∷ xs) ys v h = elim (cases_Bool (bytes_eq n x.0)) [
  | inl is ↦ rw is (sym (ap (λ t. cond t (Some x.1) (lookup n xs)) is) ∙ h)
  | inr other ↦ rw other (found_front n xs ys v (sym (ap (λ t. cond t (Some x.1) (lookup n xs)) other) ∙ h))
]

pub found_behind : (n : List ℕ) (xs ys : Names) → lookup n xs ≡ None → lookup n (xs ++ ys) ≡ lookup n ys
found_behind n [] ys h = refl
found_behind n (x ∷ xs) ys h = elim (cases_Bool (bytes_eq n x.0)) [
  | inl is ↦ none_some x.1 (sym (sym (ap (λ t. cond t (Some x.1) (lookup n xs)) is) ∙ h))
  | inr other ↦ rw other (found_behind n xs ys (sym (ap (λ t. cond t (Some x.1) (lookup n xs)) other) ∙ h))
]

pub lookup-overridden : (n : List ℕ) (newer old : Names) → lookup n (overridden newer old) ≡ option_map (unwrap_or (lookup n newer)) (lookup n old)
lookup-overridden n newer [] = refl
lookup-overridden n newer (e ∷ es) = elim (cases_Bool (bytes_eq n e.0)) [
  | inl is ↦ rw is (ap (λ m. Some (unwrap_or (lookup m newer) e.1)) (sym (same_bytes n e.0 is)))
  | inr other ↦ rw other (lookup-overridden n newer es)
]

-- the value of a name that the old layer has
pub found_old : (n : List ℕ) (newer old added : Names) (v : model.Value) → lookup n old ≡ Some v → lookup n (overridden newer old ++ added) ≡ Some (unwrap_or (lookup n newer) v)
found_old n newer old added v h = found_front n (overridden newer old) added _ (lookup-overridden n newer old ∙ ap (option_map (unwrap_or (lookup n newer))) h)

-- and of another one
pub found_added : (n : List ℕ) (newer old added : Names) → lookup n old ≡ None → lookup n (overridden newer old ++ added) ≡ lookup n added
found_added n newer old added h = found_behind n (overridden newer old) added (lookup-overridden n newer old ∙ ap (option_map (unwrap_or (lookup n newer))) h)

-- ---- places

pub length-layers : (newer old added : Names) → length (overridden newer old ++ added) ≡ length old + length added
length-layers newer [] added = omega arith
length-layers newer (e ∷ es) added = omega (arith, length-layers newer es added)

pub old_there : (newer old added : Names) (i : ℕ) (e : Entry) → slice_get old i ≡ Some e → slice_get (overridden newer old ++ added) i ≡ Some (e.0, unwrap_or (lookup e.0 newer) e.1)
old_there newer [] added i e h = none_some e h
old_there newer (d ∷ es) added zero e h = ap (λ (d : Entry). Some (d.0, unwrap_or (lookup d.0 newer) d.1)) (some_same d e h)
old_there newer (d ∷ es) added (suc i) e h = old_there newer es added i e h

pub added_there : (newer old added : Names) (i : ℕ) → length old ≤ i → slice_get (overridden newer old ++ added) i ≡ slice_get added (i - length old)
added_there newer [] added i h = let same : i ≡ i - length {A = Entry} [] = omega arith in ap (slice_get added) same
added_there newer (e ∷ es) added zero h = absurd (omega arith)
added_there newer (e ∷ es) added (suc i) h = let same : i - length es ≡ suc i - length (e ∷ es) = omega arith in added_there newer es added i (omega arith) ∙ ap (slice_get added) same

-- ---- bindings

-- a newer value of a name that the old ones lack is none of theirs
lacking : (n : List ℕ) (v : model.Value) (newer old : Names) → lookup n old ≡ None → overridden (bind n v newer) old ≡ overridden newer old
lacking n v newer [] h = refl
lacking n v newer (e ∷ es) h = elim (cases_Bool (bytes_eq n e.0)) [
  | inl is ↦ none_some e.1 (sym (sym (ap (λ t. cond t (Some e.1) (lookup n es)) is) ∙ h))
  | inr other ↦
      let same : lookup e.0 (bind n v newer) ≡ lookup e.0 newer = lookup-bind e.0 n v newer ∙ rw (eq_sym e.0 n ∙ other) refl in
      rw same (ap (λ es. (e.0, unwrap_or (lookup e.0 newer) e.1) ∷ es) (lacking n v newer es (sym (ap (λ t. cond t (Some e.1) (lookup n es)) other) ∙ h)))
]

front_distinct : (newer old added : Names) → AreDistinctNames (overridden newer old ++ added) → AreDistinctNames old
front_distinct newer [] added h = tt
front_distinct newer (e ∷ es) added h = (lacks es h.0, front_distinct newer es added h.1)
  where
    lacks : (es : Names) → lookup e.0 (overridden newer es ++ added) ≡ None → lookup e.0 es ≡ None
    lacks [] h = refl
    lacks (d ∷ es) h = elim (cases_Bool (bytes_eq e.0 d.0)) [
      | inl is ↦ none_some (unwrap_or (lookup d.0 newer) d.1) (sym (sym (ap (λ t. cond t (Some (unwrap_or (lookup d.0 newer) d.1)) (lookup e.0 (overridden newer es ++ added))) is) ∙ h))
      | inr other ↦ rw other (lacks es (sym (ap (λ t. cond t (Some (unwrap_or (lookup d.0 newer) d.1)) (lookup e.0 (overridden newer es ++ added))) other) ∙ h))
    ]

bind_old' : (n : List ℕ) (v w : model.Value) (newer old added : Names) → AreDistinctNames old → lookup n old ≡ Some w
    → overridden (bind n v newer) old ++ added ≡ bind n v (overridden newer old ++ added)
bind_old' n v w newer [] added d h = none_some w h
bind_old' n v w newer (e ∷ es) added d h = elim (cases_Bool (bytes_eq n e.0)) [
  | inl is ↦
      let same : n ≡ e.0 = same_bytes n e.0 is in
      let found : lookup e.0 (bind n v newer) ≡ Some v = lookup-bind e.0 n v newer ∙ rw (eq_sym e.0 n ∙ is) refl in
      rw (is, found) (ap (λ es. (e.0, v) ∷ es ++ added) (lacking n v newer es (ap (λ m. lookup m es) same ∙ d.0)))
  | inr other ↦
      let same : lookup e.0 (bind n v newer) ≡ lookup e.0 newer = lookup-bind e.0 n v newer ∙ rw (eq_sym e.0 n ∙ other) refl in
      rw (other, same) (ap (λ es. (e.0, unwrap_or (lookup e.0 newer) e.1) ∷ es) (bind_old' n v w newer es added d.1 (sym (ap (λ t. cond t (Some e.1) (lookup n es)) other) ∙ h)))
]

-- an old name gets another value
pub bind_old : (n : List ℕ) (v w : model.Value) (newer old added : Names) → AreDistinctNames (overridden newer old ++ added) → lookup n old ≡ Some w
    → overridden (bind n v newer) old ++ added ≡ bind n v (overridden newer old ++ added)
bind_old n v w newer old added d h = bind_old' n v w newer old added (front_distinct newer old added d) h

bind-behind : (n : List ℕ) (v : model.Value) (xs ys : Names) → lookup n xs ≡ None → xs ++ bind n v ys ≡ bind n v (xs ++ ys)
bind-behind n v [] ys h = refl
bind-behind n v (x ∷ xs) ys h = elim (cases_Bool (bytes_eq n x.0)) [
  | inl is ↦ none_some x.1 (sym (sym (ap (λ t. cond t (Some x.1) (lookup n xs)) is) ∙ h))
  | inr other ↦ rw other (ap (λ es. x ∷ es) (bind-behind n v xs ys (sym (ap (λ t. cond t (Some x.1) (lookup n xs)) other) ∙ h)))
]

-- another name gets one
pub bind_added : (n : List ℕ) (v : model.Value) (newer old added : Names) → lookup n old ≡ None → overridden newer old ++ bind n v added ≡ bind n v (overridden newer old ++ added)
bind_added n v newer old added h = bind-behind n v (overridden newer old) added (lookup-overridden n newer old ∙ ap (option_map (unwrap_or (lookup n newer))) h)

pub distinct_bind : (n : List ℕ) (v : model.Value) (es : Names) → AreDistinctNames es → AreDistinctNames (bind n v es)
distinct_bind n v [] d = (refl, tt)
distinct_bind n v (e ∷ es) d = elim (cases_Bool (bytes_eq n e.0)) [
  | inl is ↦ rw is d
  | inr other ↦
      let lacks : lookup e.0 (bind n v es) ≡ None = lookup-bind e.0 n v es ∙ rw (eq_sym e.0 n ∙ other) d.0 in
      rw other (lacks, distinct_bind n v es d.1)
]

-- ---- names that are taken out

unbind-none : (n : List ℕ) (es : Names) → lookup n es ≡ None → unbind n es ≡ es
unbind-none n [] h = refl
unbind-none n (e ∷ es) h = elim (cases_Bool (bytes_eq n e.0)) [
  | inl is ↦ none_some e.1 (sym (sym (ap (λ t. cond t (Some e.1) (lookup n es)) is) ∙ h))
  | inr other ↦ rw other (ap (λ es. e ∷ es) (unbind-none n es (sym (ap (λ t. cond t (Some e.1) (lookup n es)) other) ∙ h)))
]

unbind-behind : (n : List ℕ) (xs ys : Names) → lookup n xs ≡ None → xs ++ unbind n ys ≡ unbind n (xs ++ ys)
unbind-behind n [] ys h = refl
unbind-behind n (x ∷ xs) ys h = elim (cases_Bool (bytes_eq n x.0)) [
  | inl is ↦ none_some x.1 (sym (sym (ap (λ t. cond t (Some x.1) (lookup n xs)) is) ∙ h))
  | inr other ↦ rw other (ap (λ es. x ∷ es) (unbind-behind n xs ys (sym (ap (λ t. cond t (Some x.1) (lookup n xs)) other) ∙ h)))
]

pub unbind_added : (n : List ℕ) (newer old added : Names) → lookup n old ≡ None → overridden newer old ++ unbind n added ≡ unbind n (overridden newer old ++ added)
unbind_added n newer old added h = unbind-behind n (overridden newer old) added (lookup-overridden n newer old ∙ ap (option_map (unwrap_or (lookup n newer))) h)

pub distinct_unbind : (n : List ℕ) (es : Names) → AreDistinctNames es → AreDistinctNames (unbind n es)
distinct_unbind n [] d = tt
distinct_unbind n (e ∷ es) d = elim (cases_Bool (bytes_eq n e.0)) [
  | inl is ↦ rw is (distinct_unbind n es d.1)
  | inr other ↦
      let lacks : lookup e.0 (unbind n es) ≡ None = lookup-unbind e.0 n es ∙ rw (eq_sym e.0 n ∙ other) d.0 in
      rw other (lacks, distinct_unbind n es d.1)
]

-- a base of which another name's value is left is held by it
pub held_unbind : (b : model.Base) (n : List ℕ) (es : Names) → AreDistinctNames es → is_held b (unbind n es) ≡ false → lies_in_found b (lookup n es) ≡ false → is_held b es ≡ false
held_unbind b n [] d h f = refl
held_unbind b n (e ∷ es) d h f = elim (cases_Bool (bytes_eq n e.0)) [
  | inl is ↦
      let lacks : lookup n es ≡ None = ap (λ m. lookup m es) (same_bytes n e.0 is) ∙ d.0 in
      let others : is_held b es ≡ false = ap (is_held b) (sym (unbind-none n es lacks)) ∙ sym (ap (λ t. is_held b (cond t (unbind n es) (e ∷ unbind n es))) is) ∙ h in
      let this : model.lies_in b e.1 ≡ false = sym (ap (λ t. lies_in_found b (cond t (Some e.1) (lookup n es))) is) ∙ f in
      or_from _ _ this others
  | inr other ↦
      let parts = or_parts (model.lies_in b e.1) _ (sym (ap (λ t. is_held b (cond t (unbind n es) (e ∷ unbind n es))) other) ∙ h) in
      let behind : lies_in_found b (lookup n es) ≡ false = sym (ap (λ t. lies_in_found b (cond t (Some e.1) (lookup n es))) other) ∙ f in
      or_from _ _ parts.0 (held_unbind b n es d.1 parts.1 behind)
]

-- ---- one layer

pub one_layer : (old : Names) → overridden [] old ++ [] ≡ old
one_layer [] = refl
one_layer (e ∷ es) = ap (λ es. e ∷ es) (one_layer es)

-- the old names stand in front, with their newer values
pub newer_front : (newer old added : Names) → take (length old) (overridden newer old ++ added) ≡ overridden newer old
newer_front newer [] added = refl
newer_front newer (e ∷ es) added = ap (λ es. (e.0, unwrap_or (lookup e.0 newer) e.1) ∷ es) (newer_front newer es added)

pub length-overridden : (newer old : Names) → length (overridden newer old) ≡ length old
length-overridden newer [] = refl
length-overridden newer (e ∷ es) = ap suc (length-overridden newer es)

apart_there : (n : List ℕ) (es : Names) (i : ℕ) (e : Entry) → slice_get es i ≡ Some e → lookup n es ≡ None → bytes_eq e.0 n ≡ false
apart_there n [] i e at h = none_some e at
apart_there n (d ∷ es) zero e at h = elim (cases_Bool (bytes_eq n d.0)) [
  | inl is ↦ none_some d.1 (sym (sym (ap (λ t. cond t (Some d.1) (lookup n es)) is) ∙ h))
  | inr other ↦ eq_sym e.0 n ∙ ap (λ (d : Entry). bytes_eq n d.0) (sym (some_same d e at)) ∙ other
]
apart_there n (d ∷ es) (suc i) e at h = elim (cases_Bool (bytes_eq n d.0)) [
  | inl is ↦ none_some d.1 (sym (sym (ap (λ t. cond t (Some d.1) (lookup n es)) is) ∙ h))
  | inr other ↦ apart_there n es i e at (sym (ap (λ t. cond t (Some d.1) (lookup n es)) other) ∙ h)
]

bind_next' : (es : Names) (i : ℕ) (e : Entry) → AreDistinctNames es → slice_get es i ≡ Some e → bind e.0 e.1 (take i es) ≡ take (suc i) es
bind_next' [] i e d at = none_some e at
bind_next' (c ∷ es) zero e d at = ap (λ (e : Entry). e ∷ []) (sym (some_same c e at))
bind_next' (c ∷ es) (suc i) e d at = rw (apart_there c.0 es i e at d.0) (ap (λ es. c ∷ es) (bind_next' es i e d.1 at))

-- the next name goes behind the first ones
pub bind_next : (es xs : Names) (i : ℕ) (n : List ℕ) (v : model.Value) → AreDistinctNames es → slice_get es i ≡ Some (n, v) → xs ≡ take i es → bind n v xs ≡ take (i + 1) es
bind_next es xs i n v d at is = ap (bind n v) is ∙ bind_next' es i (n, v) d at ∙ ap (λ k. take k es) (sym (add-one i))

-- ---- newer values put over the old ones

end_here : (es : Names) → es ++ [] ≡ es
end_here [] = refl
end_here (e ∷ es) = ap (λ es. e ∷ es) (end_here es)

found_below : (n : List ℕ) (f : model.Value → model.Value) (o : Option model.Value) (w : model.Value) → option_map f o ≡ Some w → (v : model.Value) × (o ≡ Some v)
found_below n f None w h = none_some w h
found_below n f (Some v) w h = (v, refl)

lacks_below : (f : model.Value → model.Value) (o : Option model.Value) → option_map f o ≡ None → o ≡ None
lacks_below f None h = refl
lacks_below f (Some v) h = cc

-- the next of them is that of a name that is there
pub put_next : (newer old xs : Names) (i : ℕ) (n : List ℕ) (v w : model.Value) → AreDistinctNames newer → AreDistinctNames old → slice_get newer i ≡ Some (n, v)
    → xs ≡ overridden (take i newer) old → lookup n xs ≡ Some w → bind n v xs ≡ overridden (take (i + 1) newer) old
put_next newer old xs i n v w dn od at is found =
    let there = found_below n (unwrap_or (lookup n (take i newer))) (lookup n old) w (sym (ap (lookup n) is ∙ lookup-overridden n (take i newer) old) ∙ found) in
    ap (bind n v) is ∙ ap (bind n v) (sym (end_here (overridden (take i newer) old))) ∙ sym (bind_old' n v there.0 (take i newer) old [] od there.1) ∙ end_here (overridden (bind n v (take i newer)) old)
    ∙ ap (λ t. overridden t old) (bind_next newer (take i newer) i n v dn at refl)

-- or of another name
pub pass_next : (newer old xs : Names) (i : ℕ) (n : List ℕ) (v : model.Value) → AreDistinctNames newer → slice_get newer i ≡ Some (n, v)
    → xs ≡ overridden (take i newer) old → lookup n xs ≡ None → xs ≡ overridden (take (i + 1) newer) old
pass_next newer old xs i n v dn at is lacks =
    let absent : lookup n old ≡ None = lacks_below (unwrap_or (lookup n (take i newer))) (lookup n old) (sym (ap (lookup n) is ∙ lookup-overridden n (take i newer) old) ∙ lacks) in
    is ∙ sym (lacking n v (take i newer) old absent) ∙ ap (λ t. overridden t old) (bind_next newer (take i newer) i n v dn at refl)

pub none_newer : (old : Names) → old ≡ overridden [] old
none_newer [] = refl
none_newer (e ∷ es) = ap (λ es. e ∷ es) (none_newer es)

-- ---- bases

held-append : (b : model.Base) (xs ys : Names) → is_held b (xs ++ ys) ≡ (is_held b xs || is_held b ys)
held-append b [] ys = refl
held-append b (x ∷ xs) ys = ap (λ t. model.lies_in b x.1 || t) (held-append b xs ys) ∙ or_assoc (model.lies_in b x.1) _ _

-- where the names that were added do not hold it
pub unheld_added : (b : model.Base) (newer old added : Names) → is_held b added ≡ false → is_held b (overridden newer old ++ added) ≡ is_held b (overridden newer old)
unheld_added b newer old added h = held-append b (overridden newer old) added ∙ rw h (or_false (is_held b (overridden newer old)))

pub held_added : (b : model.Base) (newer old added : Names) → is_held b added ≡ true → is_held b (overridden newer old ++ added) ≡ true
held_added b newer old added h = held-append b (overridden newer old) added ∙ rw h (or_true (is_held b (overridden newer old)))

pub held_there : (b : model.Base) (es : Names) (i : ℕ) (n : List ℕ) (v : model.Value) → slice_get es i ≡ Some (n, v) → model.lies_in b v ≡ true → is_held b es ≡ true
held_there b [] i n v at h = none_some (n, v) at
held_there b (e ∷ es) zero n v at h = rw (ap (λ (e : Entry). model.lies_in b e.1) (some_same e (n, v) at) ∙ h) refl
held_there b (e ∷ es) (suc i) n v at h = rw (held_there b es i n v at h) (or_true (model.lies_in b e.1))

held_more' : (b : model.Base) (es : Names) (i : ℕ) (e : Entry) → slice_get es i ≡ Some e → is_held b (take (suc i) es) ≡ (is_held b (take i es) || model.lies_in b e.1)
held_more' b [] i e at = none_some e at
held_more' b (d ∷ es) zero e at = ap (λ (d : Entry). model.lies_in b d.1 || false) (some_same d e at) ∙ or_false (model.lies_in b e.1)
held_more' b (d ∷ es) (suc i) e at = ap (λ t. model.lies_in b d.1 || t) (held_more' b es i e at) ∙ or_assoc (model.lies_in b d.1) _ _

-- the first ones and the next
pub held_next : (b : model.Base) (es : Names) (i : ℕ) (n : List ℕ) (v : model.Value) → slice_get es i ≡ Some (n, v) → is_held b (take (i + 1) es) ≡ (is_held b (take i es) || model.lies_in b v)
held_next b es i n v at = ap (λ k. is_held b (take k es)) (add-one i) ∙ held_more' b es i (n, v) at

pub only_layer : (newer shared added es : Names) → newer ≡ [] → shared ≡ es → added ≡ [] → overridden newer shared ++ added ≡ es
only_layer newer shared added es a b d = ap (λ n. overridden n shared ++ added) a ∙ ap (λ s. overridden [] s ++ added) b ∙ ap (λ t. overridden [] es ++ t) d ∙ one_layer es

pub is_there : (o : Option model.Value) → is_some o ≡ true → (v : model.Value) × (o ≡ Some v)
is_there None h = false_true h
is_there (Some v) h = (v, refl)

pub is_none : (o : Option model.Value) → is_some o ≡ false → o ≡ None
is_none None h = refl
is_none (Some v) h = cc

mapped : {X Y : Type 0} (f : X → Y) (o : Option X) → is_some (option_map f o) ≡ is_some o
mapped f None = refl
mapped f (Some x) = refl

-- what is found where a look-up answers
pub found_is : {X : Type 0} (f : X → model.Value) (o : Option X) (l : Option model.Value) (t : Bool) → option_map f o ≡ l → t ≡ is_some o → t ≡ true → (v : model.Value) × (l ≡ Some v)
found_is f o l t is test some = is_there l (ap is_some (sym is) ∙ mapped f o ∙ sym test ∙ some)

pub lacks_is : {X : Type 0} (f : X → model.Value) (o : Option X) (l : Option model.Value) (t : Bool) → option_map f o ≡ l → t ≡ is_some o → t ≡ false → l ≡ None
lacks_is f o l t is test none = is_none l (ap is_some (sym is) ∙ mapped f o ∙ sym test ∙ none)

-- a name that is found is bound in the newer layer
pub bind_newer : (n m : List ℕ) (v : model.Value) (newer newer' old old' added : Names) → m ≡ n → old' ≡ old → newer' ≡ bind n v newer → AreDistinctNames (overridden newer old ++ added)
    → ((w : model.Value) × (lookup m old' ≡ Some w)) → overridden newer' old ++ added ≡ bind n v (overridden newer old ++ added)
bind_newer n m v newer newer' old old' added named same put distinct found =
    ap (λ t. overridden t old ++ added) put ∙ bind_old n v found.0 newer old added distinct (ap (λ m. lookup m old) (sym named) ∙ ap (lookup m) (sym same) ∙ found.1)

-- and another one behind
pub bind_more : (n m : List ℕ) (v : model.Value) (newer old old' added added' : Names) → m ≡ n → old' ≡ old → added' ≡ bind n v added → lookup m old' ≡ None
    → overridden newer old ++ added' ≡ bind n v (overridden newer old ++ added)
bind_more n m v newer old old' added added' named same put lacks =
    ap (λ t. overridden newer old ++ t) put ∙ bind_added n v newer old added (ap (λ m. lookup m old) (sym named) ∙ ap (lookup m) (sym same) ∙ lacks)

-- layers that are the same
pub same_layers : (newer newer' old old' added added' : Names) → newer' ≡ newer → old' ≡ old → added' ≡ added → overridden newer' old' ++ added' ≡ overridden newer old ++ added
same_layers newer newer' old old' added added' a b d = ap (λ n. overridden n old' ++ added') a ∙ ap (λ s. overridden newer s ++ added') b ∙ ap (λ t. overridden newer old ++ t) d

-- a base loses its last name only where the value of the one that is taken out lies in it
pub loses : (n : List ℕ) (old new : Names) → AreDistinctNames old → new ≡ unbind n old → LosesHolder n old new
loses n old new distinct is = λ b unheld free. held_unbind b n old distinct (sym (ap (is_held b) is) ∙ unheld) free

pub unheld_there : (b : model.Base) (es : Names) (i : ℕ) (n : List ℕ) (v : model.Value) → slice_get es i ≡ Some (n, v) → is_held b es ≡ false → model.lies_in b v ≡ false
unheld_there b [] i n v at h = none_some (n, v) at
unheld_there b (e ∷ es) zero n v at h = ap (λ (e : Entry). model.lies_in b e.1) (sym (some_same e (n, v) at)) ∙ (or_parts (model.lies_in b e.1) _ h).0
unheld_there b (e ∷ es) (suc i) n v at h = unheld_there b es i n v at (or_parts (model.lies_in b e.1) _ h).1
