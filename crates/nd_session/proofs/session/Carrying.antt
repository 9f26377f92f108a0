-- What a change becomes behind runs of a cell.
use Rattle.std.proofs.Common.{◌≡◌, ◌⊎◌, ℕ, true, false, cond, ◌||◌, nat_eq, bytes_eq, List, [], ◌∷◌, map, slice_index, Option, Some, None, option_map, eqb-true, refl, sym, ap, subst, ◌∙◌, inl, inr, arith}
use Rattle.std.specs.Prelude.{IsTrue}
use Rattle.std.specs.List.{All, AllByRecursion}
use Rattle.std.proofs.lemmas.Bool.{cases_Bool}
use Rattle.std.proofs.lemmas.Bool.Decides.{nat_tests}
use Rattle.std.proofs.lemmas.List.Elements.{recursion_from_All}
use Rattle.nd_change.specs.Change.{puts}
use Rattle.nd_change.specs.Whole.{Whole, HasBase, HasByte, HasPart, IsAsItWas, IsGone, IsWith, IsWithBoth, LeavesBase, LeavesName, LosesBase, binds_in}
use Rattle.nd_heap.specs.declared.value.Base.{Base}
use Rattle.nd_heap.specs.declared.value.Value.{Value}
use Rattle.nd_heap.specs.declared.value.Value.TheVariants.{Number}
use Rattle.nd_heap.specs.Values.{base_of, number_of, value_of}
use Rattle.nd_heap.proofs.Same.{base_same, bytes_same, same_bases, same_bytes}
use Rattle.nd_model.specs.Arrays.Value as model
use Rattle.nd_model.specs.Arrays.Value.{lies_in}
use Rattle.nd_model.specs.Book.Records.{Record}
use Rattle.nd_model.specs.Cells.Footprint.{Number as OfNumber}
use Rattle.nd_model.specs.Cells.Running.{Binds, Byte, Length, Unbinds, is_event_of, is_touched}
use Rattle.nd_model.specs.Cells.Running as running
use Rattle.nd_model.specs.Cells.Session.{Session, collected, held_bytes, is_held, lookup}
use Rattle.nd_types.specs.declared.num.Num.{Num}
use Rattle.nd_types.specs.declared.num.Num.TheVariants as numbers
use Rattle.nd_types.specs.declared.num.Num.TheVariants.{Int, Scalar}
use Rattle.nd_session.specs.declared.session.found.FoundBytes.{FoundBytes}
use Rattle.nd_session.specs.Session.Change.{AreBytesNoted, HasDone, IsCarriedPast, IsNoted, IsWrittenNow, LeavesBlock, is_bound_in}
use Rattle.nd_session.specs.Session.Changes.{ChangesData, writes_in}
use Rattle.nd_session.specs.Session.Found as places
use Rattle.nd_session.specs.Session.Found.{by_base, byte_at, bytes_of, found_at, lookup_base}
use Rattle.nd_session.proofs.session.Agreeing.{false_true}
use Rattle.nd_session.proofs.session.Gathering.{event_name}
use Rattle.nd_session.proofs.session.Reading.{base_all}
use Rattle.nd_session.proofs.session.Standing.{none_before, none_some, noted_on, stays_noted}
use Rattle.nd_trace.specs.declared.trace.Event.{Event}
use Rattle.nd_trace.specs.Events.{event_of, name_of_event}

-- ---- names

-- the name of an event has the value that it has now
abbrev pub IsNameNow : {A : Type 0} → (now : List ℕ → A) (new : List ℕ → Option A) → Event → Type 0
IsNameNow now new e = new (name_of_event (event_of e)) ≡ Some (now (name_of_event (event_of e)))

-- a name has the value that it has now, or that it had before and no event is of it
abbrev pub IsNameWith : {A : Type 0} → (now : List ℕ → A) (old new : List ℕ → Option A) → List running.Event → List ℕ → Type 0
IsNameWith now old new es n = (new n ≡ Some (now n)) ⊎ ((new n ≡ old n) × (is_touched n es ≡ false))

module _ {A : Type 0} (now : List ℕ → A) where
  touched_now : (new : List ℕ → Option A) (es : List Event) → AllByRecursion (IsNameNow now new) es → (n : List ℕ) → is_touched n (map event_of es) ≡ true → new n ≡ Some (now n)
  touched_now new [] h n touched = absurd (cc)
  touched_now new (e ∷ es) h n touched = elim (cases_Bool (is_event_of n (event_of e))) [
    | inl is ↦ let same : name_of_event (event_of e) ≡ n = sym (same_bytes n (name_of_event (event_of e)) (sym (event_name n (event_of e)) ∙ is)) in
        subst (λ (m : List ℕ). new m ≡ Some (now m)) same h.0
    | inr other ↦ touched_now new es h.1 n (sym (ap (λ t. t || is_touched n (map event_of es)) other) ∙ touched)
  ]

  pub names_with : (old new : List ℕ → Option A) (es : List Event) → IsNoted now old new → AllByRecursion (IsNameNow now new) es → (n : List ℕ) → IsNameWith now old new (map event_of es) n
  names_with old new es noted all n = elim (cases_Bool (is_touched n (map event_of es))) [
    | inl touched ↦ inl (touched_now new es all n touched)
    | inr not ↦ elim (noted n) [ inl here ↦ inl here | inr same ↦ inr (same, not) ]
  ]

-- the same, where the events are lent
pub names_behind : {A : Type 0} (now : List ℕ → A) (old new : List ℕ → Option A) (events lent : List Event) (es : List running.Event) → lent ≡ events → map event_of events ≡ es
    → IsNoted now old new → All (IsNameNow now new) lent → (n : List ℕ) → IsNameWith now old new es n
names_behind now old new events lent es is same noted all n =
    subst (λ (es : List running.Event). IsNameWith now old new es n) (ap (map event_of) is ∙ same) (names_with now old new lent noted (recursion_from_All (IsNameNow now new) lent all) n)

-- one name more
pub set_now : {A : Type 0} (now : List ℕ → A) (old new : List ℕ → Option A) (m n : List ℕ) → m ≡ n → ((k : List ℕ) → new k ≡ cond (bytes_eq k m) (Some (now m)) (old k)) → new n ≡ Some (now n)
set_now now old new m n is set = subst (λ (k : List ℕ). new k ≡ Some (now k)) is (set m ∙ ap (λ t. cond t (Some (now m)) (old m)) (bytes_same m))

-- ---- bases

-- one base more
pub set_base : (now : model.Base → List ℕ) (old new : model.Base → Option (List ℕ)) (c : model.Base) → ((b : model.Base) → new b ≡ cond (model.same_base b c) (Some (now c)) (old b)) → new c ≡ Some (now c)
set_base now old new c set = set c ∙ ap (λ t. cond t (Some (now c)) (old c)) (base_same c)

-- the bases of the label in which the event binds a value have the bytes that they have now
abbrev pub IsOwnNow : ℕ → (now : model.Base → List ℕ) (new : model.Base → Option (List ℕ)) → Event → Type 0
IsOwnNow label now new e = (b : model.Base) → b.label ≡ label → IsTrue (is_bound_in b (event_of e)) → new b ≡ Some (now b)

-- so it is with an entry of what a cell wrote
abbrev pub IsEntryNow : (now : model.Base → List ℕ) (label beside : ℕ) (new : model.Base → Option (List ℕ)) (is : model.Base → ℕ → Option ℕ) → Base × FoundBytes → Type 0
IsEntryNow now label beside new is e = IsWrittenNow now label beside new is (base_of e.0) (found_at (bytes_of e.1))

-- it stays so, where more is noted
pub entry_stays : (now : model.Base → List ℕ) (label beside : ℕ) (mid new : model.Base → Option (List ℕ)) (there is : model.Base → ℕ → Option ℕ) → IsNoted now mid new → AreBytesNoted now there is
    → (e : Base × FoundBytes) → IsEntryNow now label beside mid there e → IsEntryNow now label beside new is e
entry_stays now label beside mid new there is step bytes e h = elim h [
  | inl here ↦ inl (stays_noted now mid new step b here)
  | inr part ↦ elim (step b) [
    | inl here ↦ inl here
    | inr same ↦ inr (
      same ∙ part.0,
      part.1,
      part.2,
      λ p. elim (part.3 p) [
        | inl here ↦ inl (stays_noted (λ p. slice_index (now b) p) (there b) (is b) (bytes b) p here)
        | inr not ↦ inr not
      ],
    )
  ]
]
  where
    b : model.Base
    b = base_of e.0

-- no number lies in a base
pub number_lies : (b : model.Base) (n : Num) → lies_in b (number_of n) ≡ false
number_lies b (Int z) = refl
number_lies b (numbers.Bool t) = refl
number_lies b (Scalar k z) = refl

pub no_lies : {P : Type 0} (b : model.Base) (v : Value) (n : Num) → v ≡ Number n → IsTrue (lies_in b (value_of v)) → P
no_lies b v n is lies = false_true (sym (ap (λ v. lies_in b (value_of v)) is ∙ number_lies b n) ∙ lies)

-- the base of a value, if it is of the label
pub own_now : (label : ℕ) (now : model.Base → List ℕ) (new : model.Base → Option (List ℕ)) (base : model.Base) (v : model.Value) → ((b : model.Base) → lies_in b v ≡ model.same_base b base)
    → (base.label ≡ label → new base ≡ Some (now base)) → (b : model.Base) → b.label ≡ label → IsTrue (lies_in b v) → new b ≡ Some (now b)
own_now label now new base v at h b own lies =
    let is : b ≡ base = same_bases b base (sym (at b) ∙ lies) in
    subst (λ (c : model.Base). new c ≡ Some (now c)) (sym is) (h (sym (ap (λ (c : model.Base). c.label) is) ∙ own))

module _ (now : model.Base → List ℕ) where
  one_bound : (b : model.Base) (e : running.Event) (es : List running.Event) → binds_in b (e ∷ es) ≡ (is_bound_in b e || binds_in b es)
  one_bound b (Binds n v) es = refl
  one_bound b (Unbinds n) es = refl

  pub bound_now : (label : ℕ) (new : model.Base → Option (List ℕ)) (es : List Event) → AllByRecursion (IsOwnNow label now new) es
      → (b : model.Base) → b.label ≡ label → binds_in b (map event_of es) ≡ true → new b ≡ Some (now b)
  bound_now label new [] h b own bound = absurd (cc)
  bound_now label new (e ∷ es) h b own bound = elim (cases_Bool (is_bound_in b (event_of e))) [
    | inl is ↦ h.0 b own is
    | inr other ↦ bound_now label new es h.1 b own (sym (one_bound b (event_of e) (map event_of es) ∙ ap (λ t. t || binds_in b (map event_of es)) other) ∙ bound)
  ]

  no_writes : (es : List (Base × FoundBytes)) (b : model.Base) → lookup_base b (by_base bytes_of es) ≡ None → (p : ℕ) → byte_at (lookup_base b (by_base bytes_of es)) p ≡ None
  no_writes es b none p = ap (λ o. byte_at o p) none

  module _ (d : ChangesData) (beside : ℕ) (events : List Event) (written : List (Base × FoundBytes)) (old mid new : model.Base → Option (List ℕ)) (was is : model.Base → ℕ → Option ℕ)
      (same_events : map event_of events ≡ d.events) (same_written : by_base bytes_of written ≡ d.written)
      (one : IsNoted now old mid) (own : AllByRecursion (IsOwnNow d.label now mid) events) (two : IsNoted now mid new) (bytes : AreBytesNoted now was is)
      (all : AllByRecursion (IsEntryNow now d.label beside new is) written) where
    left_in : (b : model.Base) → ((p : ℕ) → writes_in d b p ≡ None) → (b.label ≡ d.label → binds_in b d.events ≡ false) → IsCarriedPast now d beside old new was is b
    left_in b none leaves = elim (noted_on now old mid new one two b) [ inl here ↦ inl here | inr same ↦ inr (inl (same, (leaves, none), bytes b)) ]

    unwritten : (b : model.Base) → ((p : ℕ) → writes_in d b p ≡ None) → IsCarriedPast now d beside old new was is b
    unwritten b none = elim (cases_Bool (binds_in b (map event_of events))) [
      | inl bound ↦ elim (cases_Bool (nat_eq b.label d.label)) [
        | inl mine ↦ inl (stays_noted now mid new two b (bound_now d.label mid events own b (eqb-true b.label d.label mine) bound))
        | inr away ↦ left_in b none (λ is. absurd (let mine : nat_eq b.label d.label ≡ true = grind (arith, nat_tests) in cc))
      ]
      | inr not ↦ left_in b none (λ is. ap (binds_in b) (sym same_events) ∙ not)
    ]

    parted : (b : model.Base) (e : places.Found) → lookup_base b (by_base bytes_of written) ≡ Some e → IsWrittenNow now d.label beside new is b (found_at e) → IsCarriedPast now d beside old new was is b
    parted b e at h = elim h [
      | inl here ↦ inl here
      | inr part ↦ inr (inr (
        none_before now old new (noted_on now old mid new one two) b part.0,
        part.0,
        part.1,
        part.2,
        λ p. elim (bytes b p) [
          | inl here ↦ inl here
          | inr same ↦ elim (part.3 p) [
            | inl here ↦ inl here
            | inr not ↦ inr (same, ap (λ es. byte_at (lookup_base b es) p) (sym same_written) ∙ ap (λ o. byte_at o p) at ∙ not)
          ]
        ],
      ))
    ]

    pub blocks_with : (b : model.Base) → IsCarriedPast now d beside old new was is b
    blocks_with b = by (lookup_base b (by_base bytes_of written)) refl
      where
        by : (o : Option places.Found) → lookup_base b (by_base bytes_of written) ≡ o → IsCarriedPast now d beside old new was is b
        by None none = unwritten b (λ p. ap (λ es. byte_at (lookup_base b es) p) (sym same_written) ∙ no_writes written b none p)
        by (Some e) at = parted b e at (base_all bytes_of (λ c m. IsWrittenNow now d.label beside new is c (found_at m)) written all b e at)

-- ---- behind runs

pub leaves_name : (d : ChangesData) (r : Record) (n : List ℕ) → HasDone d r → is_touched n d.events ≡ false → LeavesName (Some r) n
leaves_name d r n done not = ap (is_touched n) done.events ∙ not

pub leaves_base : (d : ChangesData) (r : Record) (b : model.Base) → HasDone d r → LeavesBlock d b → LeavesBase (Some r) b
leaves_base d r b done left = (λ own. ap (binds_in b) done.events ∙ left.0 (own ∙ done.label), λ p. done.writes b p ∙ left.1 p)

pub has_base : (s : Session) (e : Whole) (b : model.Base) → e.blocks b ≡ Some (s.bytes b) → HasBase e (collected s) b
has_base s e b is = (s.bytes b, is, λ held. sym (rw held refl))

pub has_byte : (s : Session) (e : Whole) (b : model.Base) (p : ℕ) → e.bytes b p ≡ Some (slice_index (s.bytes b) p) → HasByte e (collected s) b p
has_byte s e b p is = (slice_index (s.bytes b) p, is, λ held. ap (λ bs. slice_index bs p) (there held))
  where
    there : is_held b s.names ≡ true → s.bytes b ≡ held_bytes (collected s) b
    there held = sym (rw held refl)

-- a run does nothing to the length of a base of another label, nor to a byte that it does not write
module _ (d : ChangesData) (r : Record) (b : model.Base) (done : HasDone d r) (away : nat_eq b.label d.label ≡ false) where
  other_label : nat_eq b.label r.label ≡ false
  other_label = ap (nat_eq b.label) done.label ∙ away

  pub no_length : puts r (Length b) ≡ None
  no_length = rw other_label refl

  pub no_byte : (p : ℕ) → writes_in d b p ≡ None → puts r (Byte b p) ≡ None
  no_byte p none = rw other_label (ap (option_map OfNumber) (done.writes b p ∙ none))

-- a byte is as it is now, or as it was
pub byte_as_it_was : (s : Session) (c e : Whole) (b : model.Base) (p : ℕ) → (e.bytes b p ≡ Some (slice_index (s.bytes b) p)) ⊎ (e.bytes b p ≡ c.bytes b p) → HasByte e (collected s) b p ⊎ (e.bytes b p ≡ c.bytes b p)
byte_as_it_was s c e b p h = elim h [ inl here ↦ inl (has_byte s e b p here) | inr was ↦ inr was ]

module _ (s : Session) (c m e : Whole) (r q : Record) (d k : ChangesData) (was : HasDone d r) (is : HasDone k q)
    (three : (b : model.Base) → IsCarriedPast s.bytes d k.label c.blocks m.blocks c.bytes m.bytes b) (four : (b : model.Base) → IsCarriedPast s.bytes k d.label m.blocks e.blocks m.bytes e.bytes b) where
  abbrev IsPast : model.Base → Type 0
  IsPast b = HasBase e (collected s) b ⊎ ((IsAsItWas (collected s) c e b × LeavesBase (Some r) b × LeavesBase (Some q) b)
      ⊎ (HasPart (Some r) (Some q) (collected s) c e b ⊎ (LosesBase r q (collected s) c e b ⊎ IsGone q b)))

  -- a byte is as it is now, or was left by both
  part_of_both : (b : model.Base) → c.blocks b ≡ None → e.blocks b ≡ None → nat_eq b.label d.label ≡ false → nat_eq b.label k.label ≡ false
      → ((p : ℕ) → (m.bytes b p ≡ Some (slice_index (s.bytes b) p)) ⊎ ((m.bytes b p ≡ c.bytes b p) × (writes_in d b p ≡ None)))
      → ((p : ℕ) → (e.bytes b p ≡ Some (slice_index (s.bytes b) p)) ⊎ ((e.bytes b p ≡ m.bytes b p) × (writes_in k b p ≡ None))) → IsPast b
  part_of_both b before out not_old not_new first second = inr (inr (inl (record {
    was = before;
    out = out;
    old = no_length d r b was not_old;
    new = no_length k q b is not_new;
    bytes = λ p. elim (second p) [
      | inl here ↦ inl (has_byte s e b p here)
      | inr on ↦ elim (first p) [
        | inl here ↦ inl (has_byte s e b p (on.0 ∙ here))
        | inr left ↦ inr (on.0 ∙ left.0, no_byte d r b was not_old p left.1, no_byte k q b is not_new p on.1)
      ]
    ];
  })))

  past_both : (b : model.Base) → IsPast b
  past_both b = elim (four b) [
    | inl here ↦ inl (has_base s e b here)
    | inr rest ↦ elim rest [
      | inl left ↦ elim (three b) [
        | inl here ↦ inl (has_base s e b (left.0 ∙ here))
        | inr before ↦ elim before [
          | inl old ↦ inr (inl (
            record {
              block = left.0 ∙ old.0;
              bytes = λ p. elim (left.2 p) [
                | inl here ↦ inl (has_byte s e b p here)
                | inr same ↦ elim (old.2 p) [ inl here ↦ inl (has_byte s e b p (same ∙ here)) | inr as_before ↦ inr (same ∙ as_before) ]
              ];
            },
            leaves_base d r b was old.1,
            leaves_base k q b is left.1,
          ))
          | inr part ↦ part_of_both b part.0 (left.0 ∙ part.1) part.2 part.3 part.4 (λ p. elim (left.2 p) [ inl here ↦ inl here | inr same ↦ inr (same, left.1.1 p) ])
        ]
      ]
      | inr part ↦ elim (three b) [
        | inl here ↦ none_some (s.bytes b) (sym part.0 ∙ here)
        | inr before ↦ elim before [
          | inl old ↦ part_of_both b (sym old.0 ∙ part.0) part.1 part.3 part.2 (λ p. elim (old.2 p) [ inl here ↦ inl here | inr same ↦ inr (same, old.1.1 p) ]) part.4
          | inr first ↦ part_of_both b first.0 part.1 part.3 part.2 first.4 part.4
        ]
      ]
    ]
  ]

  pub with_both : ((n : List ℕ) → IsNameWith (λ n. lookup n s.names) c.names m.names d.events n) → ((n : List ℕ) → IsNameWith (λ n. lookup n s.names) m.names e.names k.events n)
      → ((n : List ℕ) → e.inputs n ≡ c.inputs n) → e.rule ≡ c.rule → IsWithBoth r q (collected s) c e
  with_both one two inputs rule = record {
    names = λ n. elim (two n) [
      | inl here ↦ inl here
      | inr same ↦ elim (one n) [ inl here ↦ inl (same.0 ∙ here) | inr old ↦ inr (inl (same.0 ∙ old.0, leaves_name d r n was old.1, leaves_name k q n is same.1)) ]
    ];
    inputs = inputs;
    rule = rule;
    blocks = past_both;
  }

module _ (s : Session) (c e : Whole) (r : Record) (d : ChangesData) (done : HasDone d r) (one : (n : List ℕ) → IsNameWith (λ n. lookup n s.names) c.names e.names d.events n)
    (inputs : (n : List ℕ) → e.inputs n ≡ c.inputs n) (rule : e.rule ≡ c.rule) (beside : ℕ) (two : (b : model.Base) → IsCarriedPast s.bytes d beside c.blocks e.blocks c.bytes e.bytes b) where
  pub with_old : IsWith (Some r) None (collected s) c e
  with_old = record {
    names = λ n. elim (one n) [ inl here ↦ inl here | inr same ↦ inr (same.0, leaves_name d r n done same.1, tt) ];
    inputs = inputs;
    rule = rule;
    blocks = λ b. elim (two b) [
      | inl here ↦ inl (has_base s e b here)
      | inr rest ↦ elim rest [
        | inl left ↦ inr (inl (record { block = left.0; bytes = λ p. byte_as_it_was s c e b p (left.2 p) }, leaves_base d r b done left.1, tt))
        | inr part ↦ inr (inr (record {
          was = part.0;
          out = part.1;
          old = no_length d r b done part.2;
          new = refl;
          bytes = λ p. elim (part.4 p) [ inl here ↦ inl (has_byte s e b p here) | inr same ↦ inr (same.0, no_byte d r b done part.2 p same.1, refl) ];
        }))
      ]
    ];
  }

  pub with_new : IsWith None (Some r) (collected s) c e
  with_new = record {
    names = λ n. elim (one n) [ inl here ↦ inl here | inr same ↦ inr (same.0, tt, leaves_name d r n done same.1) ];
    inputs = inputs;
    rule = rule;
    blocks = λ b. elim (two b) [
      | inl here ↦ inl (has_base s e b here)
      | inr rest ↦ elim rest [
        | inl left ↦ inr (inl (record { block = left.0; bytes = λ p. byte_as_it_was s c e b p (left.2 p) }, tt, leaves_base d r b done left.1))
        | inr part ↦ inr (inr (record {
          was = part.0;
          out = part.1;
          old = refl;
          new = no_length d r b done part.2;
          bytes = λ p. elim (part.4 p) [ inl here ↦ inl (has_byte s e b p here) | inr same ↦ inr (same.0, refl, no_byte d r b done part.2 p same.1) ];
        }))
      ]
    ];
  }
