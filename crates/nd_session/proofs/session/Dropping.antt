-- What is left of a change behind a cell that did the same in both sessions.
use Rattle.std.proofs.Common.{◌≡◌, ◌<◌, ◌≤◌, ◌+◌, ℕ, suc, Bool, true, false, cond, ◌||◌, ◌&&◌, nat_eq, bytes_eq, List, [], ◌∷◌, map, drop, take, length, slice_get, slice_index, get_or, Global, Option, Some, None, option_map, unwrap_or, add-one, refl, sym, ap, ap₂, subst, ◌∙◌, inl, inr, arith}
use Rattle.std.specs.Prelude.{◌⊎◌, IsSome, IsTrue, MatchOption, is_some}
use Rattle.std.specs.declared.rc.Rc.{Rc}
use Rattle.std.specs.Map.{lookup as find}
use Rattle.indexmap.specs.IndexMap.{insert_entry}
use Rattle.std.proofs.Math.Seq.{drop-cons}
use Rattle.std.proofs.lemmas.Bool.{cases_Bool, or_right}
use Rattle.std.proofs.lemmas.Bool.Decides.{nat_tests}
use Rattle.std.proofs.lemmas.List.{take_all}
use Rattle.nd_change.specs.Whole.{Whole, IsWithout, binds_in, byte_in, whole_of}
use Rattle.nd_marks.specs.Kept.{KeptData}
use Rattle.nd_model.proofs.Lists.{not_both}
use Rattle.nd_heap.specs.Contents.{bytes_in}
use Rattle.nd_heap.specs.Live.{is_base_among}
use Rattle.nd_heap.specs.declared.value.Base.{Base}
use Rattle.nd_heap.specs.Values.{base_of}
use Rattle.nd_heap.proofs.Bases.{base_eq}
use Rattle.nd_heap.proofs.Same.{same_bases}
use Rattle.nd_model.specs.Arrays.Value as model
use Rattle.nd_model.specs.Book.Records.{Record}
use Rattle.nd_model.specs.Cells.Footprint.{Bound, Given, Number, Ruled, patched}
use Rattle.nd_model.specs.Cells.Running as running
use Rattle.nd_model.specs.Cells.Running.{Key, Name, Input, Length, Byte, OfRule, Binds, Unbinds, is_event_of, is_touched}
use Rattle.nd_model.proofs.Patched.{patched_none}
use Rattle.nd_session.specs.declared.session.found.FoundBytes.{FoundBytes}
use Rattle.nd_session.specs.Session.Change.{HasDone, IsOverwritten, is_bound_in, part_at}
use Rattle.nd_session.specs.Session.Now.{block_now, entry_now, kept_in, part_now}
use Rattle.nd_session.specs.Session.Changes.{ChangesData, writes_in}
use Rattle.nd_session.specs.Session.Found.{by_base, byte_at, byte_found, bytes_of, found_at, lookup_base}
use Rattle.nd_session.proofs.session.Gathering.{event_name}
use Rattle.nd_session.proofs.session.Reading.{base_entry, base_found, base_insert, entry_bases, entry_step, or_false, same_base_sym}
use Rattle.nd_session.proofs.session.Redoing.{patched_same, patched_twice}
use Rattle.nd_session.proofs.session.Standing.{none_some}
use Rattle.nd_trace.specs.declared.trace.Event.{Event}
use Rattle.nd_trace.specs.Events.{event_of, name_of_event}

-- ---- names

-- one name more is taken out
pub dropped_more : {X : Type 0} (es : List Event) (i : ℕ) (e : Event) (n : List ℕ) (cur new : Option X) → i < length es → e ≡ get_or es i e
    → new ≡ cond (bytes_eq n (name_of_event (event_of e))) None cur
    → cond (is_touched n (map event_of (drop (i + 1) es))) None new ≡ cond (is_touched n (map event_of (drop i es))) None cur
dropped_more es i e n cur new inside at is =
    let split : drop i es ≡ e ∷ drop (suc i) es = drop-cons es i e inside ∙ ap (λ d. d ∷ drop (suc i) es) (sym at) in
    ap (λ j. cond (is_touched n (map event_of (drop j es))) None new) (add-one i)
    ∙ either (is_event_of n (event_of e)) (is_touched n (map event_of (drop (suc i) es))) (is ∙ ap (λ t. cond t None cur) (sym (event_name n (event_of e))))
    ∙ sym (ap (λ ds. cond (is_touched n (map event_of ds)) None cur) split)
  where
    either : (t u : Bool) → new ≡ cond t None cur → cond u None new ≡ cond (t || u) None cur
    either true true h = refl
    either true false h = h
    either false true h = refl
    either false false h = h

-- ---- blocks

-- the block of a base of the label is taken out
pub own_out : {X : Type 0} (label : ℕ) (old new : model.Base → Option X) (c : model.Base) → c.label ≡ label → ((b : model.Base) → new b ≡ cond (model.same_base c b) None (old b))
    → (b : model.Base) → new b ≡ cond (nat_eq b.label label && model.same_base b c) None (old b)
own_out label old new c own removed b = removed b ∙ ap (λ t. cond t None (old b)) test
  where
    test : model.same_base c b ≡ (nat_eq b.label label && model.same_base b c)
    test = grind (arith, nat_tests)

-- a base of another label is none of them
pub own_stays : {X : Type 0} (label : ℕ) (c b : model.Base) (o : Option X) → (c.label ≡ label → ⊥) → o ≡ cond (nat_eq b.label label && model.same_base b c) None o
own_stays label c b o other = ap (λ t. cond t None o) (sym test)
  where
    test : (nat_eq b.label label && model.same_base b c) ≡ false
    test = grind (arith, nat_tests)

-- what no value lies in stays
pub none_out : {X : Type 0} (own lies : Bool) (o : Option X) → lies ≡ false → o ≡ cond (own && lies) None o
none_out true true o h = absurd (cc)
none_out true false o h = refl
none_out false lies o h = refl

-- the blocks of one event more are taken out
pub own_more : {X : Type 0} (label : ℕ) (es : List Event) (i : ℕ) (e : Event) (b : model.Base) (cur new : Option X) → i < length es → e ≡ get_or es i e
    → new ≡ cond (nat_eq b.label label && is_bound_in b (event_of e)) None cur
    → cond (nat_eq b.label label && binds_in b (map event_of (drop (i + 1) es))) None new ≡ cond (nat_eq b.label label && binds_in b (map event_of (drop i es))) None cur
own_more label es i e b cur new inside at is =
    let split : drop i es ≡ e ∷ drop (suc i) es = drop-cons es i e inside ∙ ap (λ d. d ∷ drop (suc i) es) (sym at) in
    ap (λ j. cond (nat_eq b.label label && binds_in b (map event_of (drop j es))) None new) (add-one i)
    ∙ either (nat_eq b.label label) (is_bound_in b (event_of e)) (binds_in b (map event_of (drop (suc i) es))) is
    ∙ ap (λ t. cond (nat_eq b.label label && t) None cur) (sym (one_bound (event_of e) (map event_of (drop (suc i) es))))
    ∙ sym (ap (λ ds. cond (nat_eq b.label label && binds_in b (map event_of ds)) None cur) split)
  where
    one_bound : (e : running.Event) (es : List running.Event) → binds_in b (e ∷ es) ≡ (is_bound_in b e || binds_in b es)
    one_bound (Binds n v) es = refl
    one_bound (Unbinds n) es = refl

    either : (o t u : Bool) → new ≡ cond (o && t) None cur → cond (o && u) None new ≡ cond (o && (t || u)) None cur
    either false t u h = h
    either true true true h = refl
    either true true false h = h
    either true false true h = refl
    either true false false h = h

-- a block is taken out and put back with other bytes
module _ (f : List ℕ → List ℕ) (base : Base) (es fs : List (Base × Option (Rc (List ℕ) Global))) (taken : fs ≡ insert_entry base_eq es base None) where
  block_taken : (b : model.Base) → block_now fs b ≡ cond (model.same_base b (base_of base)) (Some []) (block_now es b)
  block_taken b = ap (λ fs. block_now fs b) taken ∙ base_insert bytes_in base None es b

  block_there : (o : Option (Rc (List ℕ) Global)) → Some o ≡ find (base_eq base) es → (b : model.Base) → model.same_base b (base_of base) ≡ true → block_now es b ≡ Some (bytes_in o)
  block_there o at b same = ap (block_now es) (same_bases b (base_of base) same) ∙ base_found bytes_in base es ∙ ap (option_map bytes_in) (sym at)

  pub block_put : (gs : List (Base × Option (Rc (List ℕ) Global))) (was now : Rc (List ℕ) Global) → Some (Some was) ≡ find (base_eq base) es → gs ≡ insert_entry base_eq fs base (Some now) → now.value ≡ f was.value
      → (b : model.Base) → block_now gs b ≡ cond (model.same_base b (base_of base)) (option_map f (block_now es b)) (block_now es b)
  block_put gs was now at put is b = ap (λ gs. block_now gs b) put ∙ base_insert bytes_in base (Some now) fs b ∙ elim (cases_Bool (model.same_base b (base_of base))) [
    | inl same ↦ rw same (ap Some is ∙ sym (ap (option_map f) (block_there (Some was) at b same)))
    | inr apart ↦ rw apart (block_taken b ∙ ap (λ t. cond t (Some []) (block_now es b)) apart)
  ]

  -- one without bytes stays so
  pub block_empty : Some None ≡ find (base_eq base) es → f [] ≡ [] → (b : model.Base) → block_now fs b ≡ cond (model.same_base b (base_of base)) (option_map f (block_now es b)) (block_now es b)
  block_empty at none b = block_taken b ∙ elim (cases_Bool (model.same_base b (base_of base))) [
    | inl same ↦ rw same (sym (ap (option_map f) (block_there None at b same) ∙ ap Some none))
    | inr apart ↦ rw apart refl
  ]

pub nothing_found : {X : Type 0} (o : Option X) → is_some o ≡ false → o ≡ None
nothing_found None h = refl
nothing_found (Some x) h = absurd (cc)

-- nothing is written where there is no block
pub block_absent : (f : List ℕ → List ℕ) (base : Base) (es : List (Base × Option (Rc (List ℕ) Global))) → find (base_eq base) es ≡ None
    → (b : model.Base) → block_now es b ≡ cond (model.same_base b (base_of base)) (option_map f (block_now es b)) (block_now es b)
block_absent f base es none b = elim (cases_Bool (model.same_base b (base_of base))) [
  | inl same ↦ let out : block_now es b ≡ None = ap (block_now es) (same_bases b (base_of base) same) ∙ base_found bytes_in base es ∙ ap (option_map bytes_in) none in
      rw same (out ∙ sym (ap (option_map f) out))
  | inr apart ↦ rw apart refl
]

-- ---- the bytes of all entries

again : (t : Bool) (w : ℕ → Option ℕ) (o : Option (List ℕ)) → option_map (patched w) (cond t (option_map (patched w) o) o) ≡ option_map (patched w) o
again true w None = refl
again true w (Some bytes) = ap Some (patched_twice w bytes)
again false w o = refl

map_same : (v w : ℕ → Option ℕ) (o : Option (List ℕ)) → ((p : ℕ) → v p ≡ w p) → option_map (patched v) o ≡ option_map (patched w) o
map_same v w None h = refl
map_same v w (Some bytes) h = ap Some (patched_same v w bytes h)

-- those of the first entries are written
abbrev pub written_before : List (Base × FoundBytes) → ℕ → (model.Base → Option (List ℕ)) → model.Base → Option (List ℕ)
written_before es i old b = cond (is_base_among (entry_bases (take i es)) b) (option_map (patched (byte_found es b)) (old b)) (old b)

pub written_more : (es : List (Base × FoundBytes)) (i : ℕ) (e : Base × FoundBytes) (old cur new : model.Base → Option (List ℕ)) → slice_get es i ≡ Some e → find (base_eq e.0) es ≡ Some e.1
    → ((b : model.Base) → cur b ≡ written_before es i old b)
    → ((b : model.Base) → new b ≡ cond (model.same_base b (base_of e.0)) (option_map (patched (found_at (bytes_of e.1))) (cur b)) (cur b))
    → (b : model.Base) → new b ≡ written_before es (suc i) old b
written_more es i e old cur new at found before put b = put b ∙ elim (cases_Bool (model.same_base b (base_of e.0))) [
  | inl same ↦
      let is : b ≡ base_of e.0 = same_bases b (base_of e.0) same in
      let among : is_base_among (entry_bases (take (suc i) es)) b ≡ true = entry_step es i e b at ∙ or_right (is_base_among (entry_bases (take i es)) b) _ (same_base_sym (base_of e.0) b ∙ same) in
      let w : ℕ → Option ℕ = byte_found es b in
      let here : (p : ℕ) → found_at (bytes_of e.1) p ≡ w p = λ p. ap (λ o. byte_at o p) (sym (base_entry bytes_of e.0 e.1 es found)) ∙ ap (λ c. byte_found es c p) (sym is) in
      rw (same, among) (map_same (found_at (bytes_of e.1)) w (cur b) here ∙ ap (option_map (patched w)) (before b) ∙ again (is_base_among (entry_bases (take i es)) b) w (old b))
  | inr apart ↦
      let among : is_base_among (entry_bases (take (suc i) es)) b ≡ is_base_among (entry_bases (take i es)) b
      = entry_step es i e b at ∙ ap (λ t. is_base_among (entry_bases (take i es)) b || t) (same_base_sym (base_of e.0) b ∙ apart) ∙ or_false _ in
      rw (apart, among) (before b)
]

pub written_all : (es : List (Base × FoundBytes)) (i : ℕ) (old : model.Base → Option (List ℕ)) (b : model.Base) → length es ≤ i → written_before es i old b ≡ option_map (patched (byte_found es b)) (old b)
written_all es i old b all = ap (λ fs. cond (is_base_among (entry_bases fs) b) (option_map (patched (byte_found es b)) (old b)) (old b)) (take_all i es all) ∙ elim (cases_Bool (is_base_among (entry_bases es) b)) [
  | inl among ↦ rw among refl
  | inr apart ↦ rw apart (same (old b) (λ p. ap (λ o. byte_at o p) (nothing es apart)))
]
  where
    same : (o : Option (List ℕ)) → ((p : ℕ) → byte_found es b p ≡ None) → o ≡ option_map (patched (byte_found es b)) o
    same None h = refl
    same (Some bytes) h = ap Some (sym (patched_none (byte_found es b) bytes h))

    nothing : (fs : List (Base × FoundBytes)) → is_base_among (entry_bases fs) b ≡ false → lookup_base b (by_base bytes_of fs) ≡ None
    nothing [] apart = refl
    nothing (f ∷ fs) apart = elim (cases_Bool (model.same_base (base_of f.0) b)) [
      | inl there ↦ let none : true ≡ false = rw there at apart in absurd (cc)
      | inr other ↦
          let rest : is_base_among (entry_bases fs) b ≡ false = rw other at apart in
          let here : model.same_base b (base_of f.0) ≡ false = same_base_sym b (base_of f.0) ∙ other in
          rw here (nothing fs rest)
    ]

-- ---- single bytes

-- what is taken out of the entries is out of what stands there
pub block_entry : (es : List (Base × Option (Rc (List ℕ) Global))) (b : model.Base) → block_now es b ≡ option_map bytes_in (entry_now es b)
block_entry [] b = refl
block_entry (e ∷ es) b = elim (cases_Bool (model.same_base b (base_of e.0))) [ inl here ↦ rw here refl | inr other ↦ rw other (block_entry es b) ]

pub block_out : (es fs : List (Base × Option (Rc (List ℕ) Global))) (t : Bool) (b : model.Base) → entry_now fs b ≡ cond t None (entry_now es b) → block_now fs b ≡ cond t None (block_now es b)
block_out es fs true b out = block_entry fs b ∙ ap (option_map bytes_in) out
block_out es fs false b out = block_entry fs b ∙ ap (option_map bytes_in) out ∙ sym (block_entry es b)

part_entry : (es : List (Base × Rc KeptData Global)) (b : model.Base) → lookup_base b (by_base kept_in es) ≡ option_map kept_in (entry_now es b)
part_entry [] b = refl
part_entry (e ∷ es) b = elim (cases_Bool (model.same_base b (base_of e.0))) [ inl here ↦ rw here refl | inr other ↦ rw other (part_entry es b) ]

pub part_out : (es fs : List (Base × Rc KeptData Global)) (t : Bool) (b : model.Base) (p : ℕ) → entry_now fs b ≡ cond t None (entry_now es b) → part_now fs b p ≡ cond t None (part_now es b p)
part_out es fs true b p out = ap (λ o. part_at o p) (part_entry fs b ∙ ap (option_map kept_in) out)
part_out es fs false b p out = ap (λ o. part_at o p) (part_entry fs b ∙ ap (option_map kept_in) out ∙ sym (part_entry es b))

none_is : {X P : Type 0} (o : Option X) → IsSome o → o ≡ None → P
none_is None h e = absurd (let f : false ≡ true = h in cc)
none_is (Some x) h e = none_some x (sym e)

-- no byte is kept where one is written
pub stays_apart : (w old : ℕ → Option ℕ) (p : ℕ) → (IsTrue (is_some (old p)) → w p ≡ None) → IsOverwritten w old old p
stays_apart w old p apart = at (w p) (old p) refl refl
  where
    at : (x y : Option ℕ) → w p ≡ x → old p ≡ y → IsOverwritten w old old p
    at None y wx oy = inl (refl, wx)
    at (Some m) None wx oy = inr (ap is_some wx, inl oy)
    at (Some m) (Some n) wx oy = none_some m (sym (apart (ap is_some oy)) ∙ wx)

-- all bytes that are kept are written
pub taken_out : (w old new : ℕ → Option ℕ) (p : ℕ) → is_some (old p) ≡ is_some (w p) → new p ≡ None → IsOverwritten w old new p
taken_out w old new p same out = at (w p) (old p) refl refl
  where
    at : (x y : Option ℕ) → w p ≡ x → old p ≡ y → IsOverwritten w old new p
    at None None wx oy = inl (out ∙ sym oy, wx)
    at None (Some n) wx oy = absurd (let h : true ≡ false = sym (ap is_some oy) ∙ same ∙ ap is_some wx in cc)
    at (Some m) y wx oy = inr (ap is_some wx, inl out)

-- they are written over
pub written_over : (w old new : ℕ → Option ℕ) (p : ℕ) → new p ≡ cond (is_some (old p)) (Some (unwrap_or (w p) (unwrap_or (old p) 0))) None → IsOverwritten w old new p
written_over w old new p is = at (w p) (old p) refl refl
  where
    at : (x y : Option ℕ) → w p ≡ x → old p ≡ y → IsOverwritten w old new p
    at None None wx oy = inl (is ∙ ap (λ o. cond (is_some o) (Some (unwrap_or (w p) (unwrap_or o 0))) None) oy ∙ sym oy, wx)
    at None (Some n) wx oy = inl (is ∙ ap₂ (λ x o. cond (is_some o) (Some (unwrap_or x (unwrap_or o 0))) None) wx oy ∙ sym oy, wx)
    at (Some m) None wx oy = inr (ap is_some wx, inl (is ∙ ap (λ o. cond (is_some o) (Some (unwrap_or (w p) (unwrap_or o 0))) None) oy))
    at (Some m) (Some n) wx oy = inr (ap is_some wx, inr (is ∙ ap₂ (λ x o. cond (is_some o) (Some (unwrap_or x (unwrap_or o 0))) None) wx oy ∙ sym wx, ap is_some oy))

-- one write after the other, of the same bytes
overwritten_on : (w a b c : ℕ → Option ℕ) (p : ℕ) → IsOverwritten w a b p → IsOverwritten w b c p → IsOverwritten w a c p
overwritten_on w a b c p one two = elim two [
  | inl same ↦ elim one [ inl was ↦ inl (same.0 ∙ was.0, same.1) | inr more ↦ none_is (w p) more.0 same.1 ]
  | inr more ↦ elim more.1 [
    | inl none ↦ inr (more.0, inl none)
    | inr set ↦ elim one [
      | inl was ↦ none_is (w p) more.0 was.1
      | inr before ↦ elim before.1 [ inl none ↦ none_is (b p) set.1 none | inr first ↦ inr (more.0, inr (set.0, first.1)) ]
    ]
  ]
]

other_writes : (v w old new : ℕ → Option ℕ) (p : ℕ) → v p ≡ w p → IsOverwritten v old new p → IsOverwritten w old new p
other_writes v w old new p e h = elim h [
  | inl same ↦ inl (same.0, sym e ∙ same.1)
  | inr more ↦ inr (sym (ap is_some e) ∙ more.0, elim more.1 [ inl none ↦ inl none | inr set ↦ inr (set.0 ∙ e, set.1) ])
]

pub other_bytes : (w a b c d : ℕ → Option ℕ) (p : ℕ) → a p ≡ c p → d p ≡ b p → IsOverwritten w a b p → IsOverwritten w c d p
other_bytes w a b c d p from to h = elim h [
  | inl same ↦ inl (to ∙ same.0 ∙ from, same.1)
  | inr more ↦ inr (more.0, elim more.1 [ inl none ↦ inl (to ∙ none) | inr set ↦ inr (to ∙ set.0, sym (ap is_some from) ∙ set.1) ])
]

-- those of the first entries are written
abbrev pub AreLaid : List (Base × FoundBytes) → ℕ → (old cur : model.Base → ℕ → Option ℕ) → Type 0
AreLaid es i old cur = (b : model.Base) → (is_base_among (entry_bases (take i es)) b ≡ true → (p : ℕ) → IsOverwritten (byte_found es b) (old b) (cur b) p)
    × (is_base_among (entry_bases (take i es)) b ≡ false → (p : ℕ) → cur b p ≡ old b p)

pub laid_none : (es : List (Base × FoundBytes)) (old : model.Base → ℕ → Option ℕ) → AreLaid es 0 old old
laid_none es old b = (λ among p. absurd (cc), λ apart p. refl)

pub laid_more : (es : List (Base × FoundBytes)) (i : ℕ) (e : Base × FoundBytes) (old cur new : model.Base → ℕ → Option ℕ) → slice_get es i ≡ Some e → find (base_eq e.0) es ≡ Some e.1 → AreLaid es i old cur
    → ((p : ℕ) → IsOverwritten (found_at (bytes_of e.1)) (cur (base_of e.0)) (new (base_of e.0)) p)
    → ((b : model.Base) (p : ℕ) → model.same_base b (base_of e.0) ≡ false → new b p ≡ cur b p)
    → AreLaid es (suc i) old new
laid_more es i e old cur new at found before here others b = elim (cases_Bool (model.same_base b (base_of e.0))) [
  | inl same ↦
      let is : b ≡ base_of e.0 = same_bases b (base_of e.0) same in
      let among : is_base_among (entry_bases (take (suc i) es)) b ≡ true = entry_step es i e b at ∙ or_right (is_base_among (entry_bases (take i es)) b) _ (same_base_sym (base_of e.0) b ∙ same) in (
        λ yes p.
            let w : found_at (bytes_of e.1) p ≡ byte_found es (base_of e.0) p = ap (λ o. byte_at o p) (sym (base_entry bytes_of e.0 e.1 es found)) in
            let step : IsOverwritten (byte_found es b) (cur b) (new b) p
            = subst (λ d. IsOverwritten (byte_found es d) (cur d) (new d) p) (sym is) (other_writes (found_at (bytes_of e.1)) (byte_found es (base_of e.0)) (cur (base_of e.0)) (new (base_of e.0)) p w (here p)) in
            elim (cases_Bool (is_base_among (entry_bases (take i es)) b)) [
              | inl was ↦ overwritten_on (byte_found es b) (old b) (cur b) (new b) p ((before b).0 was p) step
              | inr not ↦ other_bytes (byte_found es b) (cur b) (new b) (old b) (new b) p ((before b).1 not p) refl step
            ],
        λ no p. absurd (not_both _ no among),
      )
  | inr apart ↦
      let among : is_base_among (entry_bases (take (suc i) es)) b ≡ is_base_among (entry_bases (take i es)) b
      = entry_step es i e b at ∙ ap (λ t. is_base_among (entry_bases (take i es)) b || t) (same_base_sym (base_of e.0) b ∙ apart) ∙ or_false _ in (
        λ yes p. other_bytes (byte_found es b) (old b) (cur b) (old b) (new b) p refl (others b p apart) ((before b).0 (sym among ∙ yes) p),
        λ no p. others b p apart ∙ (before b).1 (sym among ∙ no) p,
      )
]

pub laid_all : (es : List (Base × FoundBytes)) (i : ℕ) (old cur : model.Base → ℕ → Option ℕ) → length es ≤ i → AreLaid es i old cur → (b : model.Base) (p : ℕ) → IsOverwritten (byte_found es b) (old b) (cur b) p
laid_all es i old cur all laid b p = elim (cases_Bool (is_base_among (entry_bases es) b)) [
  | inl among ↦ (laid b).0 (ap (λ fs. is_base_among (entry_bases fs) b) (take_all i es all) ∙ among) p
  | inr apart ↦ inl ((laid b).1 (ap (λ fs. is_base_among (entry_bases fs) b) (take_all i es all) ∙ apart) p, ap (λ o. byte_at o p) (no_entry b es apart))
]
  where
    no_entry : (b : model.Base) (fs : List (Base × FoundBytes)) → is_base_among (entry_bases fs) b ≡ false → lookup_base b (by_base bytes_of fs) ≡ None
    no_entry b [] apart = refl
    no_entry b (f ∷ fs) apart = elim (cases_Bool (model.same_base (base_of f.0) b)) [
      | inl there ↦ let none : true ≡ false = rw there at apart in absurd (cc)
      | inr other ↦
          let rest : is_base_among (entry_bases fs) b ≡ false = rw other at apart in
          let here : model.same_base b (base_of f.0) ≡ false = same_base_sym b (base_of f.0) ∙ other in
          rw here (no_entry b fs rest)
    ]

-- ---- behind a run

same_label : (m n : ℕ) → m ≡ n → nat_eq m n ≡ true
same_label m n e = grind (arith, nat_tests)

pub without_done : (r : Record) (d : ChangesData) (c e : Whole) → HasDone d r
    → ((n : List ℕ) → e.names n ≡ cond (is_touched n d.events) None (c.names n))
    → ((n : List ℕ) → e.inputs n ≡ c.inputs n) → e.rule ≡ c.rule
    → ((b : model.Base) → e.blocks b ≡ option_map (patched (writes_in d b)) (cond (nat_eq b.label d.label && binds_in b d.events) None (c.blocks b)))
    → ((b : model.Base) (p : ℕ) → IsOverwritten (writes_in d b) (λ p. cond (nat_eq b.label d.label && binds_in b d.events) None (c.bytes b p)) (e.bytes b) p)
    → IsWithout r c e
without_done r d c e done names inputs rule blocks bytes = record {
  names = λ n. names n ∙ ap (λ es. cond (is_touched n es) None (c.names n)) (sym done.events);
  inputs = inputs;
  rule = rule;
  own = λ b own bound. blocks b ∙ ap (λ t. option_map (patched (writes_in d b)) (cond t None (c.blocks b)))
      (ap₂ (λ s t. s && t) (same_label b.label d.label (own ∙ done.label)) (ap (binds_in b) (sym done.events) ∙ bound));
  blocks = λ b other. blocks b ∙ ap (λ t. option_map (patched (writes_in d b)) (cond (t && binds_in b d.events) None (c.blocks b))) (ap (nat_eq b.label) (sym done.label) ∙ other)
      ∙ map_same (writes_in d b) (r.effects.writes b) (c.blocks b) (λ p. sym (done.writes b p));
  own_bytes = λ b p own bound. gone b p (λ p. cond (nat_eq b.label d.label && binds_in b d.events) None (c.bytes b p)) (ap₂ (λ s t. cond (s && t) None (c.bytes b p)) (same_label b.label d.label (own ∙ done.label)) (ap (binds_in b) (sym done.events) ∙ bound)) (bytes b p);
  bytes = λ b p other. written b p (λ p. cond (nat_eq b.label d.label && binds_in b d.events) None (c.bytes b p)) (r.effects.writes b p) (sym (done.writes b p))
      (ap (λ t. cond (t && binds_in b d.events) None (c.bytes b p)) (ap (nat_eq b.label) (sym done.label) ∙ other)) (bytes b p);
}
  where
    gone : (b : model.Base) (p : ℕ) (old : ℕ → Option ℕ) → old p ≡ None → IsOverwritten (writes_in d b) old (e.bytes b) p → e.bytes b p ≡ None
    gone b p old none h = elim h [
      | inl same ↦ same.0 ∙ none
      | inr more ↦ elim more.1 [ inl out ↦ out | inr set ↦ none_is (old p) set.1 none ]
    ]

    written : (b : model.Base) (p : ℕ) (old : ℕ → Option ℕ) (x : Option ℕ) → writes_in d b p ≡ x → old p ≡ c.bytes b p → IsOverwritten (writes_in d b) old (e.bytes b) p
        → MatchOption x (e.bytes b p ≡ c.bytes b p) (λ n. (e.bytes b p ≡ None) ⊎ (e.bytes b p ≡ Some n))
    written b p old None is was h = elim h [ inl same ↦ same.0 ∙ was | inr more ↦ none_is (writes_in d b p) more.0 is ]
    written b p old (Some n) is was h = elim h [
      | inl same ↦ none_some n (sym same.1 ∙ is)
      | inr more ↦ elim more.1 [ inl out ↦ inl out | inr set ↦ inr (set.0 ∙ is) ]
    ]

-- ---- no key comes in

pub fewer_bytes : (w : ℕ → Option ℕ) (t : Bool) (old new : ℕ → Option ℕ) (p : ℕ) → IsOverwritten w (λ p. cond t None (old p)) new p → IsTrue (is_some (new p)) → IsTrue (is_some (old p))
fewer_bytes w t old new p h some = elim h [
  | inl same ↦ before t (old p) (sym (ap is_some same.0) ∙ some)
  | inr more ↦ elim more.1 [ inl none ↦ none_is (new p) some none | inr set ↦ before t (old p) set.1 ]
]
  where
    before : (t : Bool) (o : Option ℕ) → is_some (cond t None o) ≡ true → is_some o ≡ true
    before true o some = absurd (cc)
    before false o some = some

none_left : {X Z : Type 0} (g : X → Z) (t : Bool) (o : Option X) → is_some (option_map g (cond t None o)) ≡ true → is_some (option_map g o) ≡ true
none_left g true o some = absurd (cc)
none_left g false o some = some

mapped_left : {X Z : Type 0} (f : X → X) (g : X → Z) (t : Bool) (o : Option X) → is_some (option_map g (option_map f (cond t None o))) ≡ true → is_some (option_map g o) ≡ true
mapped_left f g true o some = absurd (cc)
mapped_left f g false None some = some
mapped_left f g false (Some x) some = refl

byte_left : (f : List ℕ → List ℕ) (t : Bool) (o v : Option (List ℕ)) (x y : Option ℕ) (p : ℕ) → v ≡ option_map f (cond t None o) → (IsTrue (is_some y) → IsTrue (is_some x))
    → is_some (option_map Number (byte_in v y p)) ≡ true → is_some (option_map Number (byte_in o x p)) ≡ true
byte_left f t (Some bytes) v x y p is h some = refl
byte_left f t None v x y p is h some = single x y h (ap (λ v. is_some (option_map Number (byte_in v y p))) (sym (is ∙ out t)) ∙ some)
  where
    out : (t : Bool) → option_map f (cond t None None) ≡ None
    out true = refl
    out false = refl

    single : (x y : Option ℕ) → (IsTrue (is_some y) → IsTrue (is_some x)) → is_some (option_map Number y) ≡ true → is_some (option_map Number x) ≡ true
    single x None h some = absurd (cc)
    single (Some m) (Some n) h some = refl
    single None (Some n) h some = absurd (let f : false ≡ true = h refl in cc)

-- what is in a change without some names and bases, and with other bytes in the others, was in it
pub fewer_left : (c e : Whole) (t : List ℕ → Bool) (u : model.Base → Bool) (f : model.Base → List ℕ → List ℕ) → ((n : List ℕ) → e.names n ≡ cond (t n) None (c.names n)) → ((n : List ℕ) → e.inputs n ≡ c.inputs n) → e.rule ≡ c.rule
    → ((b : model.Base) → e.blocks b ≡ option_map (f b) (cond (u b) None (c.blocks b))) → ((b : model.Base) (p : ℕ) → IsTrue (is_some (e.bytes b p)) → IsTrue (is_some (c.bytes b p))) → (k : Key) → IsTrue (is_some (whole_of e k)) → IsTrue (is_some (whole_of c k))
fewer_left c e t u f names inputs rule blocks bytes (Name n) some = none_left Bound (t n) (c.names n) (ap (λ o. is_some (option_map Bound o)) (sym (names n)) ∙ some)
fewer_left c e t u f names inputs rule blocks bytes (Input n) some = ap (λ o. is_some (option_map Given o)) (sym (inputs n)) ∙ some
fewer_left c e t u f names inputs rule blocks bytes (Length b) some =
    mapped_left (f b) (λ bs. Number (length bs)) (u b) (c.blocks b) (ap (λ o. is_some (option_map (λ bs. Number (length bs)) o)) (sym (blocks b)) ∙ some)
fewer_left c e t u f names inputs rule blocks bytes (Byte b p) some = byte_left (f b) (u b) (c.blocks b) (e.blocks b) (c.bytes b p) (e.bytes b p) p (blocks b) (bytes b p) some
fewer_left c e t u f names inputs rule blocks bytes OfRule some = ap (λ o. is_some (option_map Ruled o)) (sym rule) ∙ some
