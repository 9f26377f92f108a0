-- A change that is put over a session.
use Rattle.std.proofs.Common.{◌≡◌, ◌⊎◌, ℕ, zero, suc, ◌≤◌, Bool, true, false, cond, ◌||◌, bytes_eq, List, [], ◌∷◌, length, drop, take, slice_get, Option, Some, None, option_map, unwrap_or, Global, refl, sym, ap, subst, ◌∙◌, inl, inr, arith}
use Rattle.std.specs.Prelude.{IfOk, IsSome, IsTrue, Ok, Err, Result, is_some}
use Rattle.std.specs.Map.{lookup as find}
use Rattle.std.specs.Result.{IsErr}
use Rattle.std.specs.List.{AllByRecursion}
use Rattle.std.specs.Rc.{rc_str_bytes}
use Rattle.std.specs.declared.rc.Rc.{Rc}
use Rattle.std.specs.declared.rc.RcStr.{RcStr}
use Rattle.nd_change.specs.Whole.{Whole, IsPut}
use Rattle.nd_model.specs.Arrays.View.{Geo}
use Rattle.nd_model.specs.Arrays.Value as model
use Rattle.nd_model.specs.Arrays.Value.{lies_in}
use Rattle.nd_model.specs.Book.Sessions.{IsOnce}
use Rattle.nd_model.specs.Cells.Session.{Names, lookup, is_held, held_bytes, collected}
use Rattle.nd_model.specs.Cells.Footprint.{patched}
use Rattle.nd_model.proofs.Patched.{patched_none}
use Rattle.nd_marks.specs.Kept.{KeptData, kept_at}
use Rattle.nd_heap.specs.Live.{is_base_among}
use Rattle.nd_heap.proofs.Same.{same_bases}
use Rattle.std.proofs.lemmas.Bool.{cases_Bool, or_right}
use Rattle.std.proofs.lemmas.List.{take_all}
use Rattle.nd_model.specs.Cells.Sound.{LiesIn, IsViewOf, AreViewsOf}
use Rattle.nd_heap.specs.Contents.{bytes_in}
use Rattle.nd_heap.specs.Values.{base_of}
use Rattle.nd_heap.specs.declared.value.Base.{Base}
use Rattle.nd_heap.specs.declared.value.Value.{Value}
use Rattle.nd_heap.proofs.Bases.{base_eq}
use Rattle.nd_heap.proofs.Plain.{none_some, some_same}
use Rattle.nd_session.specs.Session.Intact.{LiesThere, AllLie}
use Rattle.nd_session.specs.Session.Change.{part_at}
use Rattle.nd_session.specs.Session.Found.{by_base, length-patched, lookup_base}
use Rattle.nd_session.specs.Session.Now.{block_now, kept_in, part_now, value_now}
use Rattle.nd_session.specs.Session.Patch.{AllBound, KeepLengths, LiesInKnown}
use Rattle.nd_session.specs.Session.Reading.{value_at}
use Rattle.nd_session.proofs.session.Naming.{held_by, holder, view_at, view_map, views_from}
use Rattle.nd_session.proofs.session.Reading.{base_all, base_entry, base_found, entry_bases, entry_step, or_false, same_base_sym}
use Rattle.nd_session.proofs.session.Redoing.{patched_same, patched_twice}
use Rattle.nd_session.proofs.session.Standing.{name_all}

-- ---- answers

-- nothing is asked of an answer at a refusal
pub not_answered : {X E : Type 0} (P : X → Type 0) (r : Result X E) → IsErr r → IfOk r P
not_answered P (Ok x) h = cc
not_answered P (Err e) h = tt

pub answered : {X E : Type 0} (P Q : X → Type 0) (r : Result X E) → ((x : X) → P x → Q x) → IfOk r P → IfOk r Q
answered P Q (Ok x) f h = f x h
answered P Q (Err e) f h = tt

-- ---- entries from a place on

from_here : {E : Type 0} (es : List E) (i : ℕ) (e : E) → slice_get es i ≡ Some e → drop i es ≡ e ∷ drop (suc i) es
from_here [] i e h = none_some e h
from_here (d ∷ es) zero e h = ap (λ d. d ∷ es) (some_same d e h)
from_here (d ∷ es) (suc i) e h = from_here es i e h

chosen : {A : Type 0} (t : Bool) (x y : A) (o : Option A) → cond t x (unwrap_or o y) ≡ unwrap_or (cond t (Some x) o) y
chosen true x y o = refl
chosen false x y o = refl

abbrev pub SharedValue : Type 0
SharedValue = Option (Rc Value Global)

abbrev pub SharedBlock : Type 0
SharedBlock = Option (Rc (List ℕ) Global)

-- one name more
pub name_put : (es : List (RcStr Global × SharedValue)) (i : ℕ) (e : RcStr Global × SharedValue) (old cur new : List ℕ → Option model.Value) → slice_get es i ≡ Some e
    → ((n : List ℕ) → cur n ≡ unwrap_or (value_now (drop (suc i) es) n) (old n))
    → ((n : List ℕ) → new n ≡ cond (bytes_eq n (rc_str_bytes e.0)) (value_at e.1) (cur n))
    → (n : List ℕ) → new n ≡ unwrap_or (value_now (drop i es) n) (old n)
name_put es i e old cur new at before put n =
    put n ∙ ap (cond (bytes_eq n (rc_str_bytes e.0)) (value_at e.1)) (before n) ∙ chosen (bytes_eq n (rc_str_bytes e.0)) (value_at e.1) (old n) (value_now (drop (suc i) es) n)
    ∙ ap (λ es. unwrap_or (value_now es n) (old n)) (sym (from_here es i e at))

-- one block more
pub block_put : (es : List (Base × SharedBlock)) (i : ℕ) (e : Base × SharedBlock) (old cur new : model.Base → List ℕ) → slice_get es i ≡ Some e
    → ((b : model.Base) → cur b ≡ unwrap_or (block_now (drop (suc i) es) b) (old b))
    → ((b : model.Base) → new b ≡ cond (model.same_base b (base_of e.0)) (bytes_in e.1) (cur b))
    → (b : model.Base) → new b ≡ unwrap_or (block_now (drop i es) b) (old b)
block_put es i e old cur new at before put b =
    put b ∙ ap (cond (model.same_base b (base_of e.0)) (bytes_in e.1)) (before b) ∙ chosen (model.same_base b (base_of e.0)) (bytes_in e.1) (old b) (block_now (drop (suc i) es) b)
    ∙ ap (λ es. unwrap_or (block_now es b) (old b)) (sym (from_here es i e at))

-- ---- single bytes

abbrev pub SharedPart : Type 0
SharedPart = Rc KeptData Global

-- the bytes of the first entries are put into their blocks
abbrev pub parts_before : List (Base × SharedPart) → ℕ → (model.Base → List ℕ) → model.Base → List ℕ
parts_before es i old b = cond (is_base_among (entry_bases (take i es)) b) (patched (part_now es b) (old b)) (old b)

again : (t : Bool) (w : ℕ → Option ℕ) (bytes : List ℕ) → patched w (cond t (patched w bytes) bytes) ≡ patched w bytes
again true w bytes = patched_twice w bytes
again false w bytes = refl

-- those of one entry more
pub part_put : (es : List (Base × SharedPart)) (i : ℕ) (e : Base × SharedPart) (old cur new : model.Base → List ℕ) → slice_get es i ≡ Some e → find (base_eq e.0) es ≡ Some e.1
    → ((b : model.Base) → cur b ≡ parts_before es i old b)
    → ((b : model.Base) → new b ≡ cond (model.same_base b (base_of e.0)) (patched (kept_at (kept_in e.1)) (cur b)) (cur b))
    → (b : model.Base) → new b ≡ parts_before es (suc i) old b
part_put es i e old cur new at found before put b = put b ∙ elim (cases_Bool (model.same_base b (base_of e.0))) [
  | inl same ↦
      let is : b ≡ base_of e.0 = same_bases b (base_of e.0) same in
      let among : is_base_among (entry_bases (take (suc i) es)) b ≡ true = entry_step es i e b at ∙ or_right (is_base_among (entry_bases (take i es)) b) _ (same_base_sym (base_of e.0) b ∙ same) in
      let w : ℕ → Option ℕ = part_now es b in
      let here : (p : ℕ) → kept_at (kept_in e.1) p ≡ w p = λ p. ap (λ o. part_at o p) (sym (base_entry kept_in e.0 e.1 es found)) ∙ ap (λ c. part_now es c p) (sym is) in
      rw (same, among) (patched_same (kept_at (kept_in e.1)) w (cur b) here ∙ ap (patched w) (before b) ∙ again (is_base_among (entry_bases (take i es)) b) w (old b))
  | inr apart ↦
      let among : is_base_among (entry_bases (take (suc i) es)) b ≡ is_base_among (entry_bases (take i es)) b
      = entry_step es i e b at ∙ ap (λ t. is_base_among (entry_bases (take i es)) b || t) (same_base_sym (base_of e.0) b ∙ apart) ∙ or_false _ in
      rw (apart, among) (before b)
]

-- and those of all
pub parts_all : (es : List (Base × SharedPart)) (i : ℕ) (old : model.Base → List ℕ) (b : model.Base) → length es ≤ i → parts_before es i old b ≡ patched (part_now es b) (old b)
parts_all es i old b all = ap (λ fs. cond (is_base_among (entry_bases fs) b) (patched (part_now es b) (old b)) (old b)) (take_all i es all) ∙ elim (cases_Bool (is_base_among (entry_bases es) b)) [
  | inl among ↦ rw among refl
  | inr apart ↦ rw apart (sym (patched_none (part_now es b) (old b) (λ p. ap (λ o. part_at o p) (nothing es apart))))
]
  where
    nothing : (fs : List (Base × SharedPart)) → is_base_among (entry_bases fs) b ≡ false → lookup_base b (by_base kept_in fs) ≡ None
    nothing [] apart = refl
    nothing (f ∷ fs) apart = elim (cases_Bool (model.same_base (base_of f.0) b)) [
      | inl there ↦ let none : true ≡ false = rw there at apart in absurd (cc)
      | inr other ↦
          let rest : is_base_among (entry_bases fs) b ≡ false = rw other at apart in
          let here : model.same_base b (base_of f.0) ≡ false = same_base_sym b (base_of f.0) ∙ other in
          rw here (nothing fs rest)
    ]

-- ---- what is asked of each entry

-- of the value that the name has now
abbrev pub IsBoundTo : (model.Value → Type 0) → RcStr Global × SharedValue → Type 0
IsBoundTo P e = (v : model.Value) → value_at e.1 ≡ Some v → P v

pub all_bound : (P : model.Value → Type 0) (es : List (RcStr Global × SharedValue)) → AllByRecursion (IsBoundTo P) es → AllBound P (value_now es)
all_bound P es h n v at = name_all value_at (λ n o. (v : model.Value) → o ≡ Some v → P v) es h n (Some v) at v refl

-- a base that has an entry is in the change
pub known_block : (base : Base) (b : model.Base) (es : List (Base × SharedBlock)) (t : Bool) → t ≡ is_some (find (base_eq base) es) → IsTrue t → b ≡ base_of base → IsSome (block_now es b)
known_block base b es t is has same = subst (λ (c : model.Base). IsSome (block_now es c)) (sym same) (subst IsSome (sym (base_found bytes_in base es)) (there (find (base_eq base) es) (sym is ∙ has)))
  where
    there : (o : Option SharedBlock) → is_some o ≡ true → IsSome (option_map bytes_in o)
    there None h = cc
    there (Some x) h = refl

-- a base keeps the length of its block
abbrev pub KeepsLength : (model.Base → List ℕ) → Base × SharedBlock → Type 0
KeepsLength bytes e = length (bytes (base_of e.0)) ≤ length (bytes_in e.1)

pub all_keep : (bytes : model.Base → List ℕ) (es : List (Base × SharedBlock)) → AllByRecursion (KeepsLength bytes) es → KeepLengths bytes (block_now es)
all_keep bytes es h b now at = base_all bytes_in (λ b now. length (bytes b) ≤ length now) es h b now at

-- ---- values

-- of the value of a bound name
abbrev pub IsViewIn : (model.Base → Geo → Type 0) → List ℕ × model.Value → Type 0
IsViewIn P e = IsViewOf P e.1

pub all_views : (P : model.Base → Geo → Type 0) (es : Names) → AllByRecursion (IsViewIn P) es → AreViewsOf P es
all_views P [] h = tt
all_views P (e ∷ es) h = (h.0, all_views P es h.1)

-- the entry that has the value
pub record HasValue (es : Names) (i : ℕ) (v : model.Value) : Type 0 where
  pub entry : List ℕ × model.Value
  pub there : slice_get es i ≡ Some entry
  pub is : entry.1 ≡ v

pub has_value : (es : Names) (i : ℕ) (v : model.Value) → Some v ≡ option_map (λ (e : List ℕ × model.Value). e.1) (slice_get es i) → HasValue es i v
has_value [] i v at = none_some v (sym at)
has_value (e ∷ es) zero v at = record { entry = e; there = refl; is = sym (some_same v e.1 at) }
has_value (e ∷ es) (suc i) v at = let rest = has_value es i v at in record { entry = rest.entry; there = rest.there; is = rest.is }

-- ---- the whole change

either : {A : Type 0} (o : Option A) → (o ≡ None) ⊎ ((a : A) × (o ≡ Some a))
either None = inl refl
either (Some a) = inr (a, refl)

-- names and bytes behind the change
module _ (c : Whole) (olds news : Names) (old new : model.Base → List ℕ) (once : IsOnce news)
    (names : (n : List ℕ) → lookup n news ≡ unwrap_or (c.names n) (lookup n olds))
    (blocks : (b : model.Base) → new b ≡ unwrap_or (c.blocks b) (patched (c.bytes b) (old b))) where
  -- what a name finds was found before, or is in the change
  found_from : (n : List ℕ) (v : model.Value) → lookup n news ≡ Some v → (lookup n olds ≡ Some v) ⊎ (c.names n ≡ Some (Some v))
  found_from n v at = elim (either (c.names n)) [
    | inl none ↦ inl (sym (names n ∙ ap (λ o. unwrap_or o (lookup n olds)) none) ∙ at)
    | inr is ↦ inr (is.1 ∙ ap Some (sym (names n ∙ ap (λ o. unwrap_or o (lookup n olds)) is.1) ∙ at))
  ]

  was_known : AllBound (LiesInKnown olds c.blocks) c.names → (b : model.Base) → is_held b news ≡ true → (is_held b olds ≡ true) ⊎ IsSome (c.blocks b)
  was_known known b held =
      let by = holder b news once held in
      elim (found_from by.name by.value by.found) [
        | inl was ↦ inl (held_by b by.name by.value olds was by.lies)
        | inr now ↦ known by.name by.value now b by.lies
      ]

  pub is_put : AllBound (LiesInKnown olds c.blocks) c.names → IsPut c (collected (record { names = olds; bytes = old })) (collected (record { names = news; bytes = new }))
  is_put known = record { names = names; blocks = same; known = was_known known; once = once }
    where
      held_twice : (t : Bool) (x : List ℕ) → t ≡ true → cond t (cond t x []) [] ≡ x
      held_twice true x h = refl
      held_twice false x h = cc

      not_some : (o : Option (List ℕ)) → o ≡ None → IsSome o → ⊥
      not_some None e h = let f : false ≡ true = h in cc
      not_some (Some x) e h = cc

      rest : (b : model.Base) → is_held b news ≡ true → unwrap_or (c.blocks b) (patched (c.bytes b) (old b)) ≡ unwrap_or (c.blocks b) (patched (c.bytes b) (cond (is_held b olds) (cond (is_held b olds) (old b) []) []))
      rest b held = elim (either (c.blocks b)) [
        | inl none ↦ ap (λ bytes. unwrap_or (c.blocks b) (patched (c.bytes b) bytes)) (sym (elim (was_known known b held) [
          | inl was ↦ held_twice (is_held b olds) (old b) was
          | inr some ↦ absurd (not_some (c.blocks b) none some)
        ]))
        | inr is ↦ ap (λ o. unwrap_or o (patched (c.bytes b) (old b))) is.1 ∙ sym (ap (λ o. unwrap_or o (patched (c.bytes b) (cond (is_held b olds) (cond (is_held b olds) (old b) []) []))) is.1)
      ]

      same : (b : model.Base) → is_held b news ≡ true → cond (is_held b news) (cond (is_held b news) (new b) []) [] ≡ unwrap_or (c.blocks b) (patched (c.bytes b) (cond (is_held b olds) (cond (is_held b olds) (old b) []) []))
      same b held = held_twice (is_held b news) (new b) held ∙ blocks b ∙ rest b held

  -- each array lies in its block where it did, and where those of the change do
  pub still_lie : (label next later : ℕ) → next ≤ later → AllLie label next old olds → KeepLengths (held_bytes (record { names = news; bytes = old })) c.blocks
      → AllBound (IsViewOf (LiesThere label later new)) c.names → AllLie label later new news
  still_lie label next later le lie kept changed = views_from (LiesThere label later new) news once at
    where
      long : (b : model.Base) → is_held b news ≡ true → length (old b) ≤ length (new b)
      long b held = elim (either (c.blocks b)) [
        | inl none ↦ let same : new b ≡ patched (c.bytes b) (old b) = blocks b ∙ ap (λ o. unwrap_or o (patched (c.bytes b) (old b))) none in omega (arith, ap length same, length-patched (c.bytes b) (old b))
        | inr is ↦
            let same : new b ≡ is.0 = blocks b ∙ ap (λ o. unwrap_or o (patched (c.bytes b) (old b))) is.1 in
            let was : length (cond (is_held b news) (old b) []) ≤ length is.0 = kept b is.0 is.1 in
            let all : cond (is_held b news) (old b) [] ≡ old b = ap (λ t. cond t (old b) []) held in
            omega (arith, ap length same, ap length all, was)
      ]

      wider : (m n : ℕ) (g : Geo) → m ≤ n → LiesIn m g → LiesIn n g
      wider m n g le h = record { count = h.count; limits = h.limits; inside = λ k d lt. omega (arith, le, h.inside k d lt) }

      at : (n : List ℕ) (v : model.Value) → lookup n news ≡ Some v → IsViewOf (LiesThere label later new) v
      at n v found = elim (found_from n v found) [
        | inl was ↦ view_map (LiesThere label next old) (LiesThere label later new) v
            (λ b g lies h. record {
              lies = wider (length (old b)) (length (new b)) g (long b (held_by b n v news found lies)) h.lies;
              old = λ e. omega (arith, h.old e, le);
            }) (view_at (LiesThere label next old) n v olds lie was)
        | inr now ↦ changed n v now
      ]
