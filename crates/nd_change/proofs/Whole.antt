-- Changes that have bases whole or by single bytes are carried on.
use Rattle.std.proofs.Common.{◌≡◌, ℕ, zero, suc, ◌<◌, IsTrue, Bool, true, false, cond, ◌||◌, eqb, List, [], ◌∷◌, length, get_or, slice_index, Option, Some, None, IfSome, option_map, unwrap_or, refl, sym, ap, ap₂, subst, ◌∙◌, inl, inr, arith}
use Rattle.std.specs.Prelude.{◌⊎◌, IsSome, MatchOption, nat_eq}
use Rattle.std.proofs.lemmas.Bool.{cases_Bool, or_left, or_right}
use Rattle.std.proofs.lemmas.List.{ext_get_or}
use Rattle.nd_model.specs.Arrays.Value.{Base, Value}
use Rattle.nd_model.specs.Cells.Session.{Names, lookup, bind, unbind, is_held, Session, held_bytes}
use Rattle.nd_model.specs.Cells.Running.{Event, Binds, Unbinds, Key, Name, Input, Length, Byte, OfRule, World, is_touched}
use Rattle.nd_model.specs.Cells.Footprint.{Found, Bound, Given, Number, Ruled, found, HasNone, replayed, patched}
use Rattle.nd_model.specs.Book.Records.{Record}
use Rattle.nd_model.proofs.Lists.{not_both}
use Rattle.nd_change.specs.Change.{IsThere, IsOver, puts, puts_by, did_by, IsRunOver, IsStep}
use Rattle.nd_change.specs.Whole.{Whole, whole_of, binds_in, IsWithout, KeepsWhole, LeavesName, LeavesBase, HasBase, IsAsItWas, HasByte, HasPart, LosesBase, IsGone, byte_in, IsWithBoth, IsWith, FollowsWhole, LeavesWhole, ComesWhole, PutsWhole}
use Rattle.nd_change.proofs.Changes.{goes_on, undone, done_there, held-bind, held-unbind}
use Rattle.nd_change.proofs.Snapshots.{held_more, patches}

none_some : {X P : Type 0} (x : X) → None ≡ Some x → P
none_some x e = cc

same_some : {X : Type 0} (x y : X) → Some x ≡ Some y → x ≡ y
same_some x y e = cc

-- ---- bases that events bind

held_behind : (b : Base) (es : List Event) (ns : Names) → is_held b (replayed es ns) ≡ true → (is_held b ns ≡ true) ⊎ (binds_in b es ≡ true)
held_behind b [] ns h = inl h
held_behind b (Binds n v ∷ es) ns h = elim (held_behind b es (bind n v ns) h) [
  | inl before ↦ elim (held-bind b n v ns before) [ inl lies ↦ inr (or_left _ _ lies) | inr there ↦ inl there ]
  | inr later ↦ inr (or_right _ _ later)
]
held_behind b (Unbinds n ∷ es) ns h = elim (held_behind b es (unbind n ns) h) [ inl before ↦ inl (held-unbind b n ns before) | inr later ↦ inr later ]

-- a base of its own that is held behind a run is one that it binds
own_bound : (r : Record) (s : Session) (b : Base) → HasNone r.label s → b.label ≡ r.label → is_held b (replayed r.effects.events s.names) ≡ true → binds_in b r.effects.events ≡ true
own_bound r s b none own h = elim (held_behind b r.effects.events s.names h) [ inl before ↦ absurd (not_both _ (none.none b own) before) | inr bound ↦ bound ]

same_label : (b : Base) (label : ℕ) → nat_eq b.label label ≡ true → b.label ≡ label
same_label b label is = Rattle.std.proofs.Common.eqb-true b.label label is

-- ---- behind a run that is in both

some_of : {X Y : Type 0} (f : X → Y) (o : Option X) (y : Y) → option_map f o ≡ Some y → (x : X) × (o ≡ Some x) × (f x ≡ y)
some_of f None y e = none_some y e
some_of f (Some x) y e = (x, refl, same_some (f x) y e)

none_of : {X Y : Type 0} (f : X → Y) (o : Option X) → option_map f o ≡ None → o ≡ None
none_of f None e = refl
none_of f (Some x) e = none_some (f x) (sym e)

-- ---- bytes of whole bases, and single ones

-- a byte that is in the change by its whole base
record ByBlock (o : Option (List ℕ)) (p : ℕ) (f : Found) : Type 0 where
  bytes : List ℕ
  block : o ≡ Some bytes
  is : Number (slice_index bytes p) ≡ f

-- or single
record ByByte (o : Option (List ℕ)) (x : Option ℕ) (f : Found) : Type 0 where
  number : ℕ
  block : o ≡ None
  byte : x ≡ Some number
  is : Number number ≡ f

byte_some : (o : Option (List ℕ)) (x : Option ℕ) (p : ℕ) (f : Found) → option_map Number (byte_in o x p) ≡ Some f → ByBlock o p f ⊎ ByByte o x f
byte_some None x p f is = let has : (n : ℕ) × (x ≡ Some n) × (Number n ≡ f) = some_of Number x f is in inr (record { number = has.0; block = refl; byte = has.1; is = has.2 })
byte_some (Some bytes) x p f is = inl (record { bytes = bytes; block = refl; is = same_some _ _ is })

byte_none : (o : Option (List ℕ)) (x : Option ℕ) (p : ℕ) → option_map Number (byte_in o x p) ≡ None → (o ≡ None) × (x ≡ None)
byte_none None x p out = (refl, none_of Number x out)
byte_none (Some bytes) x p out = none_some (Number (slice_index bytes p)) (sym out)

byte_same : (o v : Option (List ℕ)) (x y : Option ℕ) (p : ℕ) → o ≡ v → x ≡ y → option_map Number (byte_in o x p) ≡ option_map Number (byte_in v y p)
byte_same o v x y p one two = ap₂ (λ o x. option_map Number (byte_in o x p)) one two

-- what is in the change is there
has_block : (c : Whole) (s t : Session) (i j : World) (b : Base) (bytes : List ℕ) → IsOver (whole_of c) s i t j → c.blocks b ≡ Some bytes → is_held b t.names ≡ true → held_bytes t b ≡ bytes
has_block c s t i j b bytes over is there =
    ext_get_or 0 (held_bytes t b) bytes (number _ _ (over.now (Length b) (Number (length bytes)) (ap (option_map (λ bs. Number (length bs))) is) there))
    (λ p _. number _ _ (over.now (Byte b p) (Number (slice_index bytes p)) (byte_same (c.blocks b) (Some bytes) (c.bytes b p) (c.bytes b p) p is refl) there))
  where
    number : (m n : ℕ) → Number m ≡ Number n → m ≡ n
    number m n e = cc

module _ (r : Record) (c e : Whole) (less : IsWithout r c e) (s t : Session) (i j : World) (over : IsOver (whole_of c) s i t j) (old : IsRunOver r s i) (new : IsRunOver r t j) where
  abbrev w : List ℕ → Base → List ℕ
  w bytes b = patched (r.effects.writes b) bytes

  -- a base of another cell that is in the change behind the run has the bytes that are there
  bytes_there : (b : Base) (bytes : List ℕ) → nat_eq b.label r.label ≡ false → e.blocks b ≡ Some bytes → is_held b (replayed r.effects.events t.names) ≡ true → held_bytes (did_by (Some r) t) b ≡ bytes
  bytes_there b bytes other is there =
      let was : (was : List ℕ) × (c.blocks b ≡ Some was) × (w was b ≡ bytes) = some_of (λ bs. w bs b) (c.blocks b) bytes (sym (less.blocks b other) ∙ is) in
      let before : is_held b t.names ≡ true = (undone r t j (Length b) new (ap (λ x. cond x (Some (Number (length (r.effects.bases b)))) None) other) there).0 in
      rw (there, other) (ap (λ bs. w bs b) (has_block c s t i j b was.0 over was.1 before) ∙ was.2)

  -- none of its own is
  own_out : (b : Base) (bytes : List ℕ) {P : Type 0} → nat_eq b.label r.label ≡ true → e.blocks b ≡ Some bytes → is_held b (replayed r.effects.events t.names) ≡ true → P
  own_out b bytes own is there = none_some bytes (sym (less.own b (same_label b r.label own) (own_bound r t b new.none (same_label b r.label own) there)) ∙ is)

  gone : (b : Base) → nat_eq b.label r.label ≡ false → e.blocks b ≡ None → c.blocks b ≡ None
  gone b other none = none_of (λ bs. w bs b) (c.blocks b) (sym (less.blocks b other) ∙ none)

  -- a single byte of another cell is the one that the run wrote, or was there before
  single : (b : Base) (p : ℕ) (f : Found) → nat_eq b.label r.label ≡ false → ByByte (e.blocks b) (e.bytes b p) f → IsThere (did_by (Some r) t) (Byte b p)
      → (found (did_by (Some r) t) j (Byte b p) ≡ f) ⊎ ((whole_of c (Byte b p) ≡ Some f) × (puts r (Byte b p) ≡ None))
  single b p f other by there = at (r.effects.writes b p) refl (less.bytes b p other)
    where
      puts_there : (o : Option ℕ) → r.effects.writes b p ≡ o → puts r (Byte b p) ≡ option_map Number o
      puts_there o is = rw other (ap (option_map Number) is)

      at : (o : Option ℕ) → r.effects.writes b p ≡ o → MatchOption o (e.bytes b p ≡ c.bytes b p) (λ n. (e.bytes b p ≡ None) ⊎ (e.bytes b p ≡ Some n))
          → (found (did_by (Some r) t) j (Byte b p) ≡ f) ⊎ ((whole_of c (Byte b p) ≡ Some f) × (puts r (Byte b p) ≡ None))
      at None is same = inr (byte_same (c.blocks b) None (c.bytes b p) (Some by.number) p (gone b other by.block) (sym same ∙ by.byte) ∙ ap Some by.is, puts_there None is)
      at (Some n) is (inl none) = none_some by.number (sym none ∙ by.byte)
      at (Some n) is (inr same) = inl (done_there r t j (Byte b p) f new (puts_there (Some n) is ∙ ap (λ x. Some (Number x)) (same_some _ _ (sym same ∙ by.byte)) ∙ ap Some by.is) there)

  -- nor was one that is out of it, if the run writes nothing there
  single_gone : (b : Base) (p : ℕ) → nat_eq b.label r.label ≡ false → e.bytes b p ≡ None → puts r (Byte b p) ≡ None → c.bytes b p ≡ None
  single_gone b p other out none = at (r.effects.writes b p) (none_of Number (r.effects.writes b p) (rw other at none)) (less.bytes b p other)
    where
      at : (o : Option ℕ) → o ≡ None → MatchOption o (e.bytes b p ≡ c.bytes b p) (λ n. (e.bytes b p ≡ None) ⊎ (e.bytes b p ≡ Some n)) → c.bytes b p ≡ None
      at None is same = sym same ∙ out
      at (Some n) is same = none_some n (sym is)

  step : IsStep (whole_of c) (Some r) (Some r) (did_by (Some r) s) (did_by (Some r) t) j (whole_of e)
  step = record { now = now; same = λ k out in_s in_t. refl; rest = rest }
    where
      now : (k : Key) (f : Found) → whole_of e k ≡ Some f → IsThere (did_by (Some r) t) k → (found (did_by (Some r) t) j k ≡ f) ⊎ ((whole_of c k ≡ Some f) × (puts r k ≡ None))
      now (Name n) f is there = elim (cases_Bool (is_touched n r.effects.events)) [
        | inl touched ↦ none_some f (sym (ap (option_map Bound) (less.names n ∙ ap (λ x. cond x None (c.names n)) touched)) ∙ is)
        | inr not ↦ inr (sym (ap (option_map Bound) (less.names n ∙ ap (λ x. cond x None (c.names n)) not)) ∙ is, rw not refl)
      ]
      now (Input n) f is there = inr (sym (ap (option_map Given) (less.inputs n)) ∙ is, refl)
      now OfRule f is there = inr (sym (ap (option_map Ruled) less.rule) ∙ is, refl)
      now (Length b) f is there =
          let has : (bytes : List ℕ) × (e.blocks b ≡ Some bytes) × (Number (length bytes) ≡ f) = some_of (λ bs. Number (length bs)) (e.blocks b) f is in
          elim (cases_Bool (nat_eq b.label r.label)) [
            | inl own ↦ own_out b has.0 own has.1 there
            | inr other ↦ inl (ap (λ bs. Number (length bs)) (bytes_there b has.0 other has.1 there) ∙ has.2)
          ]
      now (Byte b p) f is there = elim (byte_some (e.blocks b) (e.bytes b p) p f is) [
        | inl by ↦ elim (cases_Bool (nat_eq b.label r.label)) [
          | inl own ↦ own_out b by.bytes own by.block there
          | inr other ↦ inl (ap (λ bs. Number (slice_index bs p)) (bytes_there b by.bytes other by.block there) ∙ by.is)
        ]
        | inr by ↦ elim (cases_Bool (nat_eq b.label r.label)) [
          | inl own ↦ none_some by.number (sym (less.own_bytes b p (same_label b r.label own) (own_bound r t b new.none (same_label b r.label own) there)) ∙ by.byte)
          | inr other ↦ single b p f other by there
        ]
      ]

      rest : (k : Key) → whole_of e k ≡ None → IsThere (did_by (Some r) s) k → IsThere (did_by (Some r) t) k → puts r k ≡ None → whole_of c k ≡ None
      rest (Name n) out in_s in_t none = elim (cases_Bool (is_touched n r.effects.events)) [
        | inl touched ↦ let put : Some (Bound (lookup n (replayed r.effects.events []))) ≡ None = rw touched at none in none_some _ (sym put)
        | inr not ↦ sym (ap (option_map Bound) (less.names n ∙ ap (λ x. cond x None (c.names n)) not)) ∙ out
      ]
      rest (Input n) out in_s in_t none = sym (ap (option_map Given) (less.inputs n)) ∙ out
      rest OfRule out in_s in_t none = sym (ap (option_map Ruled) less.rule) ∙ out
      rest (Length b) out in_s in_t none = elim (cases_Bool (nat_eq b.label r.label)) [
        | inl own ↦ let put : Some (Number (length (r.effects.bases b))) ≡ None = rw own at none in none_some _ (sym put)
        | inr other ↦ ap (option_map (λ bs. Number (length bs))) (gone b other (none_of (λ bs. Number (length bs)) (e.blocks b) out))
      ]
      rest (Byte b p) out in_s in_t none = elim (cases_Bool (nat_eq b.label r.label)) [
        | inl own ↦ let put : Some (Number (slice_index (r.effects.bases b) p)) ≡ None = rw own at none in none_some _ (sym put)
        | inr other ↦
            let outs : (e.blocks b ≡ None) × (e.bytes b p ≡ None) = byte_none (e.blocks b) (e.bytes b p) p out in
            byte_same (c.blocks b) None (c.bytes b p) None p (gone b other outs.0) (single_gone b p other outs.1 none)
      ]

pub keeps_whole : KeepsWhole
keeps_whole r c e less s t i j over old new = goes_on (whole_of c) (whole_of e) (Some r) (Some r) s t i j over old new (step r c e less s t i j over old new)

-- ---- behind runs that are in one

-- a name that a run leaves is none of its doings
name_left : (o : Option Record) (n : List ℕ) → LeavesName o n → puts_by o (Name n) ≡ None
name_left None n h = refl
name_left (Some r) n h = rw h refl

-- nor is the rule
no_rule : (o : Option Record) → puts_by o OfRule ≡ None
no_rule None = refl
no_rule (Some r) = refl

-- nor is a base, where it is there behind it
base_left : (o : Option Record) (s : Session) (i : World) (b : Base) → IfSome o (λ r. IsRunOver r s i) → LeavesBase o b → is_held b (did_by o s).names ≡ true
    → (puts_by o (Length b) ≡ None) × ((p : ℕ) → puts_by o (Byte b p) ≡ None)
base_left None s i b run h there = (refl, λ p. refl)
base_left (Some r) s i b run h there = elim (cases_Bool (nat_eq b.label r.label)) [
  | inl own ↦ let is : b.label ≡ r.label = same_label b r.label own in absurd (not_both _ (h.0 is) (own_bound r s b run.none is there))
  | inr other ↦ (rw other refl, λ p. rw (other, h.1 p) refl)
]

-- ---- what is in it as it is in the session

-- the length or a byte of a whole base
block_here : {A : Type 0} (t : Session) (e : Whole) (f : List ℕ → A) (b : Base) (a : A) → HasBase e t b → option_map f (e.blocks b) ≡ Some a → is_held b t.names ≡ true → f (held_bytes t b) ≡ a
block_here t e f b a here is there = same_some _ _ (sym (ap (option_map f) (here.1 ∙ ap (λ bs. Some bs) (here.2 there))) ∙ is)

byte_here : (t : Session) (e : Whole) (b : Base) (p : ℕ) (f : Found) → HasBase e t b → option_map Number (byte_in (e.blocks b) (e.bytes b p) p) ≡ Some f → is_held b t.names ≡ true
    → Number (slice_index (held_bytes t b) p) ≡ f
byte_here t e b p f here is there = same_some _ _ (sym (byte_same (e.blocks b) (Some (held_bytes t b)) (e.bytes b p) (e.bytes b p) p (here.1 ∙ ap (λ bs. Some bs) (here.2 there)) refl) ∙ is)

-- a single byte
single_here : (t : Session) (e : Whole) (b : Base) (p : ℕ) (f : Found) → e.blocks b ≡ None → HasByte e t b p → option_map Number (byte_in (e.blocks b) (e.bytes b p) p) ≡ Some f → is_held b t.names ≡ true
    → Number (slice_index (held_bytes t b) p) ≡ f
single_here t e b p f out byte is there =
    same_some _ _ (sym (byte_same (e.blocks b) None (e.bytes b p) (Some (slice_index (held_bytes t b) p)) p out (byte.1 ∙ ap (λ n. Some n) (byte.2 there))) ∙ is)

-- a byte of a base that is in it as it was is there now, or was in it, where the run leaves it
byte_was : {P : Type 0} (t : Session) (c e : Whole) (b : Base) (p : ℕ) (f : Found) → IsAsItWas t c e b → option_map Number (byte_in (e.blocks b) (e.bytes b p) p) ≡ Some f → is_held b t.names ≡ true → P
    → (Number (slice_index (held_bytes t b) p) ≡ f) ⊎ ((option_map Number (byte_in (c.blocks b) (c.bytes b p) p) ≡ Some f) × P)
byte_was t c e b p f was is there leaves = elim (byte_some (e.blocks b) (e.bytes b p) p f is) [
  | inl by ↦ inr (byte_same (c.blocks b) (Some by.bytes) (c.bytes b p) (c.bytes b p) p (sym was.block ∙ by.block) refl ∙ ap Some by.is, leaves)
  | inr by ↦ elim (was.bytes p) [
    | inl byte ↦ inl (single_here t e b p f by.block byte is there)
    | inr same ↦ inr (byte_same (c.blocks b) (e.blocks b) (c.bytes b p) (e.bytes b p) p (sym was.block) (sym same) ∙ is, leaves)
  ]
]

-- one that is out of it was not in it
byte_gone : (t : Session) (c e : Whole) (b : Base) (p : ℕ) → IsAsItWas t c e b → (e.blocks b ≡ None) × (e.bytes b p ≡ None) → option_map Number (byte_in (c.blocks b) (c.bytes b p) p) ≡ None
byte_gone t c e b p was outs = elim (was.bytes p) [
  | inl byte ↦ none_some byte.0 (sym outs.1 ∙ byte.1)
  | inr same ↦ byte_same (c.blocks b) None (c.bytes b p) None p (sym was.block ∙ outs.0) (sym same ∙ outs.1)
]

module _ (r q : Option Record) (s t : Session) (i j : World) (c e : Whole) (old : IfSome r (λ r. IsRunOver r s i)) (new : IfSome q (λ q. IsRunOver q t j)) (has : IsWith r q (did_by q t) c e) where
  with_step : IsStep (whole_of c) r q (did_by r s) (did_by q t) j (whole_of e)
  with_step = record { now = now; same = same; rest = rest }
    where
      now : (k : Key) (f : Found) → whole_of e k ≡ Some f → IsThere (did_by q t) k → (found (did_by q t) j k ≡ f) ⊎ ((whole_of c k ≡ Some f) × (puts_by q k ≡ None))
      now (Name n) f is there = elim (has.names n) [
        | inl here ↦ inl (same_some _ _ (sym (ap (option_map Bound) here) ∙ is))
        | inr left ↦ inr (sym (ap (option_map Bound) left.0) ∙ is, name_left q n left.2)
      ]
      now (Input n) f is there = inr (sym (ap (option_map Given) (has.inputs n)) ∙ is, input q)
        where
          input : (o : Option Record) → puts_by o (Input n) ≡ None
          input None = refl
          input (Some r) = refl
      now OfRule f is there = inr (sym (ap (option_map Ruled) has.rule) ∙ is, no_rule q)
      now (Length b) f is there = elim (has.blocks b) [
        | inl here ↦ inl (block_here (did_by q t) e (λ bs. Number (length bs)) b f here is there)
        | inr other ↦ elim other [
          | inl left ↦ inr (sym (ap (option_map (λ bs. Number (length bs))) left.0.block) ∙ is, (base_left q t j b new left.2 there).0)
          | inr part ↦ none_some f (sym (ap (option_map (λ bs. Number (length bs))) part.out) ∙ is)
        ]
      ]
      now (Byte b p) f is there = elim (has.blocks b) [
        | inl here ↦ inl (byte_here (did_by q t) e b p f here is there)
        | inr other ↦ elim other [
          | inl left ↦ byte_was (did_by q t) c e b p f left.0 is there ((base_left q t j b new left.2 there).1 p)
          | inr part ↦ elim (part.bytes p) [
            | inl byte ↦ inl (single_here (did_by q t) e b p f part.out byte is there)
            | inr left ↦ inr (byte_same (c.blocks b) (e.blocks b) (c.bytes b p) (e.bytes b p) p (part.was ∙ sym part.out) (sym left.0) ∙ is, left.2)
          ]
        ]
      ]

      -- what is outside of the change is as it was, and both runs leave it
      out_name : (n : List ℕ) → option_map Bound (e.names n) ≡ None → (e.names n ≡ c.names n) × LeavesName r n × LeavesName q n
      out_name n out = elim (has.names n) [ inl here ↦ none_some (Bound (lookup n (did_by q t).names)) (sym out ∙ ap (option_map Bound) here) | inr left ↦ left ]

      -- so it is with the length of a base
      out_length : (b : Base) → e.blocks b ≡ None → is_held b (did_by r s).names ≡ true → is_held b (did_by q t).names ≡ true
          → (puts_by r (Length b) ≡ puts_by q (Length b)) × (whole_of c (Length b) ≡ None)
      out_length b out in_s in_t = elim (has.blocks b) [
        | inl here ↦ none_some here.0 (sym out ∙ here.1)
        | inr other ↦ elim other [
          | inl left ↦ ((base_left r s i b old left.1 in_s).0 ∙ sym (base_left q t j b new left.2 in_t).0, ap (option_map (λ bs. Number (length bs))) (sym left.0.block ∙ out))
          | inr part ↦ (part.old ∙ sym part.new, ap (option_map (λ bs. Number (length bs))) part.was)
        ]
      ]

      -- and with a byte
      out_byte : (b : Base) (p : ℕ) → (e.blocks b ≡ None) × (e.bytes b p ≡ None) → is_held b (did_by r s).names ≡ true → is_held b (did_by q t).names ≡ true
          → (puts_by r (Byte b p) ≡ puts_by q (Byte b p)) × (whole_of c (Byte b p) ≡ None)
      out_byte b p outs in_s in_t = elim (has.blocks b) [
        | inl here ↦ none_some here.0 (sym outs.0 ∙ here.1)
        | inr other ↦ elim other [
          | inl left ↦ (
            (base_left r s i b old left.1 in_s).1 p ∙ sym ((base_left q t j b new left.2 in_t).1 p),
            byte_gone (did_by q t) c e b p left.0 outs,
          )
          | inr part ↦ elim (part.bytes p) [
            | inl byte ↦ none_some byte.0 (sym outs.1 ∙ byte.1)
            | inr left ↦ (left.1 ∙ sym left.2, byte_same (c.blocks b) None (c.bytes b p) None p part.was (sym left.0 ∙ outs.1))
          ]
        ]
      ]

      same : (k : Key) → whole_of e k ≡ None → IsThere (did_by r s) k → IsThere (did_by q t) k → puts_by r k ≡ puts_by q k
      same (Name n) out in_s in_t = let left : (e.names n ≡ c.names n) × LeavesName r n × LeavesName q n = out_name n out in name_left r n left.1 ∙ sym (name_left q n left.2)
      same (Input n) out in_s in_t = input r ∙ sym (input q)
        where
          input : (o : Option Record) → puts_by o (Input n) ≡ None
          input None = refl
          input (Some r) = refl
      same OfRule out in_s in_t = no_rule r ∙ sym (no_rule q)
      same (Length b) out in_s in_t = (out_length b (none_of (λ bs. Number (length bs)) (e.blocks b) out) in_s in_t).0
      same (Byte b p) out in_s in_t = (out_byte b p (byte_none (e.blocks b) (e.bytes b p) p out) in_s in_t).0

      rest : (k : Key) → whole_of e k ≡ None → IsThere (did_by r s) k → IsThere (did_by q t) k → puts_by r k ≡ None → whole_of c k ≡ None
      rest (Name n) out in_s in_t none = sym (ap (option_map Bound) (out_name n out).0) ∙ out
      rest (Input n) out in_s in_t none = sym (ap (option_map Given) (has.inputs n)) ∙ out
      rest OfRule out in_s in_t none = sym (ap (option_map Ruled) has.rule) ∙ out
      rest (Length b) out in_s in_t none = (out_length b (none_of (λ bs. Number (length bs)) (e.blocks b) out) in_s in_t).1
      rest (Byte b p) out in_s in_t none = (out_byte b p (byte_none (e.blocks b) (e.bytes b p) p out) in_s in_t).1

-- ---- behind two runs of a cell

module _ (r q : Record) (s t : Session) (i j : World) (c e : Whole) (old : IsRunOver r s i) (new : IsRunOver q t j) (has : IsWithBoth r q (did_by (Some q) t) c e) where
  abbrev after : Session
  after = did_by (Some q) t

  gone_there : {P : Type 0} (b : Base) → IsGone q b → is_held b after.names ≡ true → P
  gone_there b gone there = absurd (not_both _ gone.1 (own_bound q t b new.none gone.0 there))

  -- a base that is in it by single bytes is out of it as a whole
  part_loses : (b : Base) → HasPart (Some r) (Some q) after c e b → is_held b after.names ≡ true → (p : ℕ) (f : Found) → whole_of e (Byte b p) ≡ Some f
      → (found after j (Byte b p) ≡ f) ⊎ ((whole_of c (Byte b p) ≡ Some f) × (puts q (Byte b p) ≡ None))
  part_loses b part there p f is = elim (part.bytes p) [
    | inl byte ↦ inl (single_here after e b p f part.out byte is there)
    | inr left ↦ inr (byte_same (c.blocks b) (e.blocks b) (c.bytes b p) (e.bytes b p) p (part.was ∙ sym part.out) (sym left.0) ∙ is, left.2)
  ]

  base_lost : {X P : Type 0} (f : List ℕ → X) (b : Base) (x : X) → e.blocks b ≡ None → option_map f (e.blocks b) ≡ Some x → P
  base_lost f b x out is = none_some x (sym (ap (option_map f) out) ∙ is)

  out_name : (n : List ℕ) → whole_of e (Name n) ≡ None → (puts r (Name n) ≡ puts q (Name n)) × (puts r (Name n) ≡ None → whole_of c (Name n) ≡ None)
  out_name n out = elim (has.names n) [
    | inl here ↦ none_some (Bound (lookup n (did_by (Some q) t).names)) (sym out ∙ ap (option_map Bound) here)
    | inr other ↦ elim other [
      | inl left ↦ (name_left (Some r) n left.1 ∙ sym (name_left (Some q) n left.2), λ none. sym (ap (option_map Bound) left.0) ∙ out)
      | inr lost ↦ (lost.1.same, lost.1.rest)
    ]
  ]

  out_length : (b : Base) → e.blocks b ≡ None → is_held b (did_by (Some r) s).names ≡ true → is_held b after.names ≡ true
      → (puts r (Length b) ≡ puts q (Length b)) × (puts r (Length b) ≡ None → whole_of c (Length b) ≡ None)
  out_length b out in_s in_t = elim (has.blocks b) [
    | inl here ↦ none_some here.0 (sym out ∙ here.1)
    | inr other ↦ elim other [
      | inl left ↦ ((base_left (Some r) s i b old left.1 in_s).0 ∙ sym (base_left (Some q) t j b new left.2 in_t).0, λ none. ap (option_map (λ bs. Number (length bs))) (sym left.0.block ∙ out))
      | inr more ↦ elim more [
        | inl part ↦ (part.old ∙ sym part.new, λ none. ap (option_map (λ bs. Number (length bs))) part.was)
        | inr last ↦ elim last [ inl lost ↦ (lost.length.same, lost.length.rest) | inr gone ↦ gone_there b gone in_t ]
      ]
    ]
  ]

  out_byte : (b : Base) (p : ℕ) → (e.blocks b ≡ None) × (e.bytes b p ≡ None) → is_held b (did_by (Some r) s).names ≡ true → is_held b after.names ≡ true
      → (puts r (Byte b p) ≡ puts q (Byte b p)) × (puts r (Byte b p) ≡ None → whole_of c (Byte b p) ≡ None)
  out_byte b p outs in_s in_t = elim (has.blocks b) [
    | inl here ↦ none_some here.0 (sym outs.0 ∙ here.1)
    | inr other ↦ elim other [
      | inl left ↦ (
        (base_left (Some r) s i b old left.1 in_s).1 p ∙ sym ((base_left (Some q) t j b new left.2 in_t).1 p),
        λ none. byte_gone after c e b p left.0 outs,
      )
      | inr more ↦ elim more [
        | inl part ↦ elim (part.bytes p) [
          | inl byte ↦ none_some byte.0 (sym outs.1 ∙ byte.1)
          | inr left ↦ (left.1 ∙ sym left.2, λ none. byte_same (c.blocks b) None (c.bytes b p) None p part.was (sym left.0 ∙ outs.1))
        ]
        | inr last ↦ elim last [
          | inl lost ↦ elim (lost.bytes p) [
            | inl byte ↦ none_some byte.0 (sym outs.1 ∙ byte.1)
            | inr none ↦ (none.1.same, none.1.rest)
          ]
          | inr gone ↦ gone_there b gone in_t
        ]
      ]
    ]
  ]

  both_step : IsStep (whole_of c) (Some r) (Some q) (did_by (Some r) s) (did_by (Some q) t) j (whole_of e)
  both_step = record { now = now; same = same; rest = rest }
    where
      now : (k : Key) (f : Found) → whole_of e k ≡ Some f → IsThere (did_by (Some q) t) k → (found (did_by (Some q) t) j k ≡ f) ⊎ ((whole_of c k ≡ Some f) × (puts q k ≡ None))
      now (Name n) f is there = elim (has.names n) [
        | inl here ↦ inl (same_some _ _ (sym (ap (option_map Bound) here) ∙ is))
        | inr other ↦ elim other [
          | inl left ↦ inr (sym (ap (option_map Bound) left.0) ∙ is, name_left (Some q) n left.2)
          | inr lost ↦ none_some f (sym (ap (option_map Bound) lost.0) ∙ is)
        ]
      ]
      now (Input n) f is there = inr (sym (ap (option_map Given) (has.inputs n)) ∙ is, refl)
      now OfRule f is there = inr (sym (ap (option_map Ruled) has.rule) ∙ is, refl)
      now (Length b) f is there = elim (has.blocks b) [
        | inl here ↦ inl (block_here after e (λ bs. Number (length bs)) b f here is there)
        | inr other ↦ elim other [
          | inl left ↦ inr (sym (ap (option_map (λ bs. Number (length bs))) left.0.block) ∙ is, (base_left (Some q) t j b new left.2 there).0)
          | inr more ↦ elim more [
            | inl part ↦ base_lost (λ bs. Number (length bs)) b f part.out is
            | inr last ↦ elim last [ inl lost ↦ base_lost (λ bs. Number (length bs)) b f lost.out is | inr gone ↦ gone_there b gone there ]
          ]
        ]
      ]
      now (Byte b p) f is there = elim (has.blocks b) [
        | inl here ↦ inl (byte_here after e b p f here is there)
        | inr other ↦ elim other [
          | inl left ↦ byte_was after c e b p f left.0 is there ((base_left (Some q) t j b new left.2 there).1 p)
          | inr more ↦ elim more [
            | inl part ↦ part_loses b part there p f is
            | inr last ↦ elim last [
              | inl lost ↦ elim (lost.bytes p) [
                | inl byte ↦ inl (single_here after e b p f lost.out byte is there)
                | inr none ↦ none_some f (sym (byte_same (e.blocks b) None (e.bytes b p) None p lost.out none.0) ∙ is)
              ]
              | inr gone ↦ gone_there b gone there
            ]
          ]
        ]
      ]

      same : (k : Key) → whole_of e k ≡ None → IsThere (did_by (Some r) s) k → IsThere (did_by (Some q) t) k → puts r k ≡ puts q k
      same (Name n) out in_s in_t = (out_name n out).0
      same (Input n) out in_s in_t = refl
      same OfRule out in_s in_t = refl
      same (Length b) out in_s in_t = (out_length b (none_of (λ bs. Number (length bs)) (e.blocks b) out) in_s in_t).0
      same (Byte b p) out in_s in_t = (out_byte b p (byte_none (e.blocks b) (e.bytes b p) p out) in_s in_t).0

      rest : (k : Key) → whole_of e k ≡ None → IsThere (did_by (Some r) s) k → IsThere (did_by (Some q) t) k → puts r k ≡ None → whole_of c k ≡ None
      rest (Name n) out in_s in_t none = (out_name n out).1 none
      rest (Input n) out in_s in_t none = sym (ap (option_map Given) (has.inputs n)) ∙ out
      rest OfRule out in_s in_t none = sym (ap (option_map Ruled) has.rule) ∙ out
      rest (Length b) out in_s in_t none = (out_length b (none_of (λ bs. Number (length bs)) (e.blocks b) out) in_s in_t).1 none
      rest (Byte b p) out in_s in_t none = (out_byte b p (byte_none (e.blocks b) (e.bytes b p) p out) in_s in_t).1 none

pub follows_whole : FollowsWhole
follows_whole r q after j c e has s t i over old new is =
    subst (λ u. IsOver (whole_of e) (did_by (Some r) s) i u j) (sym is)
    (goes_on (whole_of c) (whole_of e) (Some r) (Some q) s t i j over old new (both_step r q s t i j c e old new (subst (λ u. IsWithBoth r q u c e) is has)))

pub leaves_whole : LeavesWhole
leaves_whole r t c e has s i j over old = goes_on (whole_of c) (whole_of e) (Some r) None s t i j over old tt (with_step (Some r) None s t i j c e old tt has)

pub comes_whole : ComesWhole
comes_whole q after c e has s t i j over new is =
    subst (λ u. IsOver (whole_of e) s i u j) (sym is)
    (goes_on (whole_of c) (whole_of e) None (Some q) s t i j over tt new (with_step None (Some q) s t i j c e tt new (subst (λ u. IsWith None (Some q) u c e) is has)))

-- ---- over a session

length-patched : (w : ℕ → Option ℕ) (xs : List ℕ) → length (patched w xs) ≡ length xs
length-patched w [] = refl
length-patched w (x ∷ xs) = ap suc (length-patched (λ p. w (suc p)) xs)

-- a byte that is written over bytes that are as many as those in which it stands
patched_at : (w : ℕ → Option ℕ) (xs ys : List ℕ) (p n : ℕ) → length ys ≡ length xs → w p ≡ Some n → slice_index ys p ≡ n → slice_index (patched w xs) p ≡ n
patched_at w [] [] p n long is there = there
patched_at w [] (y ∷ ys) p n long is there = absurd (omega arith)
patched_at w (x ∷ xs) [] p n long is there = absurd (omega arith)
patched_at w (x ∷ xs) (y ∷ ys) zero n long is there = ap (λ o. unwrap_or o x) is
patched_at w (x ∷ xs) (y ∷ ys) (suc p) n long is there = patched_at (λ p. w (suc p)) xs ys p n (omega arith) is there

unpatched_at : (w : ℕ → Option ℕ) (xs : List ℕ) (p : ℕ) → w p ≡ None → slice_index (patched w xs) p ≡ slice_index xs p
unpatched_at w [] p none = refl
unpatched_at w (x ∷ xs) zero none = ap (λ o. unwrap_or o x) none
unpatched_at w (x ∷ xs) (suc p) none = unpatched_at (λ p. w (suc p)) xs p none

pub puts_whole : PutsWhole
puts_whole c s u put t i j over once = patches (whole_of c) s t u i j over once (record { now = now; same = same; known = known; once = put.once })
  where
    number : (m n : ℕ) → Number m ≡ Number n → m ≡ n
    number m n e = cc

    bound : (x y : Option Value) → Bound x ≡ Bound y → x ≡ y
    bound x y e = cc

    -- the bytes that were there, with the single ones written to them
    w : Base → List ℕ
    w b = patched (c.bytes b) (held_bytes s b)

    left : (b : Base) → c.blocks b ≡ None → is_held b u.names ≡ true → held_bytes u b ≡ w b
    left b out there = put.blocks b there ∙ ap (λ o. unwrap_or o (w b)) out

    -- the names are those that are bound now, and so are the bases
    either : (o : Option (Option Value)) → (o ≡ None) ⊎ ((v : Option Value) × (o ≡ Some v))
    either None = inl refl
    either (Some v) = inr (v, refl)

    names_now : (n : List ℕ) → lookup n u.names ≡ lookup n t.names
    names_now n = elim (either (c.names n)) [
      | inl out ↦ put.names n ∙ ap (λ o. unwrap_or o (lookup n s.names)) out ∙ bound _ _ (over.same (Name n) (ap (option_map Bound) out) tt tt)
      | inr is ↦ put.names n ∙ ap (λ o. unwrap_or o (lookup n s.names)) is.1 ∙ sym (bound _ _ (over.now (Name n) (Bound is.0) (ap (option_map Bound) is.1) tt))
    ]

    held_now : (b : Base) → is_held b u.names ≡ true → is_held b t.names ≡ true
    held_now b there = held_more b u.names t.names put.once names_now there

    none_some_at : (o : Option (List ℕ)) → o ≡ None → IsSome o → ⊥
    none_some_at None e h = absurd (let g : false ≡ true = h in cc)
    none_some_at (Some x) e h = absurd (let g : Some x ≡ None = e in cc)

    held_before : (b : Base) → c.blocks b ≡ None → is_held b u.names ≡ true → is_held b s.names ≡ true
    held_before b out there = elim (put.known b there) [ inl held ↦ held | inr has ↦ absurd (none_some_at (c.blocks b) out has) ]

    -- a base that is in it by single bytes is as long now as it was
    long : (b : Base) → c.blocks b ≡ None → is_held b u.names ≡ true → length (held_bytes t b) ≡ length (held_bytes s b)
    long b out there = sym (number _ _ (over.same (Length b) (ap (option_map (λ bs. Number (length bs))) out) (held_before b out there) (held_now b there)))

    now : (k : Key) (f : Found) → whole_of c k ≡ Some f → IsThere u k → found u j k ≡ f
    now (Name n) f is there = let has : (v : Option Value) × (c.names n ≡ Some v) × (Bound v ≡ f) = some_of Bound (c.names n) f is in
        ap Bound (put.names n ∙ ap (λ o. unwrap_or o (lookup n s.names)) has.1) ∙ has.2
    now (Input n) f is there = over.now (Input n) f is tt
    now OfRule f is there = over.now OfRule f is tt
    now (Length b) f is there = let has : (bytes : List ℕ) × (c.blocks b ≡ Some bytes) × (Number (length bytes) ≡ f) = some_of (λ bs. Number (length bs)) (c.blocks b) f is in
        ap (λ bs. Number (length bs)) (put.blocks b there ∙ ap (λ o. unwrap_or o (w b)) has.1) ∙ has.2
    now (Byte b p) f is there = elim (byte_some (c.blocks b) (c.bytes b p) p f is) [
      | inl by ↦ ap (λ bs. Number (slice_index bs p)) (put.blocks b there ∙ ap (λ o. unwrap_or o (w b)) by.block) ∙ by.is
      | inr by ↦ ap (λ bs. Number (slice_index bs p)) (left b by.block there)
          ∙ ap Number (patched_at (c.bytes b) (held_bytes s b) (held_bytes t b) p by.number (long b by.block there) by.byte (number _ _ (over.now (Byte b p) f is (held_now b there) ∙ sym by.is))) ∙ by.is
    ]

    same : (k : Key) → whole_of c k ≡ None → IsThere u k → found u j k ≡ found s i k
    same (Name n) out there = ap Bound (put.names n ∙ ap (λ o. unwrap_or o (lookup n s.names)) (none_of Bound (c.names n) out))
    same (Input n) out there = sym (over.same (Input n) out tt tt)
    same OfRule out there = sym (over.same OfRule out tt tt)
    same (Length b) out there = ap (λ bs. Number (length bs)) (left b (none_of (λ bs. Number (length bs)) (c.blocks b) out) there) ∙ ap Number (length-patched (c.bytes b) (held_bytes s b))
    same (Byte b p) out there =
        let outs : (c.blocks b ≡ None) × (c.bytes b p ≡ None) = byte_none (c.blocks b) (c.bytes b p) p out in
        ap (λ bs. Number (slice_index bs p)) (left b outs.0 there) ∙ ap Number (unpatched_at (c.bytes b) (held_bytes s b) p outs.1)

    byte_known : (o : Option (List ℕ)) (x : Option ℕ) (p : ℕ) → IsSome o → IsSome (option_map Number (byte_in o x p))
    byte_known None x p h = absurd (let g : false ≡ true = h in cc)
    byte_known (Some bytes) x p h = refl

    is_some_map : {X Y : Type 0} (f : X → Y) (o : Option X) → IsSome o → IsSome (option_map f o)
    is_some_map f None h = h
    is_some_map f (Some x) h = refl

    known : (b : Base) → IsTrue (is_held b u.names) → IsTrue (is_held b s.names) ⊎ Rattle.nd_change.specs.Snapshots.IsWhole (whole_of c) b
    known b there = elim (put.known b there) [
      | inl held ↦ inl held
      | inr has ↦ inr (record { length = is_some_map (λ bs. Number (length bs)) (c.blocks b) has; bytes = λ p. byte_known (c.blocks b) (c.bytes b p) p has })
    ]
