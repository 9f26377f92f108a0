-- Filters: the bits of words, and which keys they cover.
use Rattle.std.proofs.Common.{◌≡◌, ℕ, ◌/◌, ◌%◌, ◌<◌, ◌+◌, ◌*◌, ◌^◌, Bool, true, false, cond, ◌||◌, min, max, nat_eq, List, [], ◌∷◌, map, length, slice_index, slice_set, bit_and, bit_or, string_bytes, String, Global, Option, Some, None, option_map, eqb-true, refl, sym, ap, subst, ◌∙◌, inl, inr, arith, ◌≤◌}
use Rattle.std.specs.Prelude.{IsTrue, is_some, ◌⊎◌}
use Rattle.std.specs.Int.{bit_at}
use Rattle.std.specs.Int.Bits.{and_zero_l}
use Rattle.std.specs.List.{AllByRecursion}
use Rattle.std.specs.Rc.{rc_str_bytes}
use Rattle.std.specs.declared.rc.Rc.{Rc}
use Rattle.std.specs.declared.rc.RcStr.{RcStr}
use Rattle.std.proofs.lemmas.Bool.{cases_Bool, cases_lt}
use Rattle.std.proofs.lemmas.Bool.Decides.{nat_tests}
use Rattle.std.proofs.lemmas.List.{get_or-set_same, get_or-set_other, get_or_past}
use Rattle.std.proofs.lemmas.Nat.Bits.{bit_at_and, bit_at_or, bit_at-lt, bit_at-zero, bit_at-pow_same}
use Rattle.nd_change.specs.Change.{puts}
use Rattle.nd_change.specs.Whole.{byte_in}
use Rattle.nd_heap.proofs.Same.{same_bytes}
use Rattle.nd_heap.specs.Contents.{bytes_in}
use Rattle.nd_heap.specs.declared.value.Base.{Base}
use Rattle.nd_heap.specs.declared.value.Value.{Value}
use Rattle.nd_marks.specs.Kept.{KeptData, kept_at}
use Rattle.nd_model.specs.Arrays.Value as model
use Rattle.nd_model.specs.Cells.Footprint.{Bound, Given, Number, Ruled}
use Rattle.nd_model.specs.Cells.Running.{Key, Name, Input, Length, Byte, OfRule, is_event_of, is_touched}
use Rattle.nd_model.specs.Cells.Session.{lookup}
use Rattle.nd_input.specs.declared.Input as code
use Rattle.nd_session.specs.declared.inputs.rule.CellRule as code_rule
use Rattle.nd_session.specs.Inputs.Values.{rule_of}
use Rattle.nd_session.specs.declared.session.change.change.Change.TheInside as change
use Rattle.nd_session.specs.declared.session.found.FoundBytes.{FoundBytes}
use Rattle.nd_session.specs.declared.session.reads.Reads.TheInside as reads
use Rattle.nd_session.specs.Session.Change.{change_of, run_in, part_at}
use Rattle.nd_session.specs.Session.Now.{block_now, data_in, input_now, value_now, kept_in}
use Rattle.nd_session.specs.Session.Filter.{CoversFound, CoversKept, CoversLabel, CoversLength, FilterData, StaysCovered, covers, has_bit, text_bit}
use Rattle.nd_session.specs.Session.Found.{Found, by_base, byte_at, bytes_of, lookup_base}
use Rattle.nd_session.specs.Session.Reading.{by_text, length_at, reads_of, source_at, value_at}
use Rattle.nd_session.specs.Session.Reads.{ReadsData, keys_of}
use Rattle.nd_session.proofs.session.Agreeing.{false_true}
use Rattle.nd_session.proofs.session.Gathering.{event_name}
use Rattle.nd_session.proofs.session.Present.{found_inside, read_there, something}
use Rattle.nd_session.proofs.session.Reading.{base_all, text_all}
use Rattle.nd_session.proofs.session.Standing.{name_all}
use Rattle.nd_trace.specs.declared.trace.Event.{Event}
use Rattle.nd_trace.specs.Events.{event_of, name_of_event}

-- ---- bits

bit_one : (x y : ℕ) → IsTrue (nat_eq y 1) → x < 2 → IsTrue (nat_eq (max x y) 1)
bit_one x y one small = let is : y ≡ 1 = grind (arith, nat_tests) in grind (arith, nat_tests)

bit_was : (x y : ℕ) → IsTrue (nat_eq x 1) → y < 2 → IsTrue (nat_eq (max x y) 1)
bit_was x y one small = let is : x ≡ 1 = grind (arith, nat_tests) in grind (arith, nat_tests)

-- a word with one more bit
module _ (words : List ℕ) (bit : ℕ) (inside : bit / 64 < length words) where
  abbrev word : ℕ
  word = bit_or (slice_index words (bit / 64)) (2 ^ (bit % 64))

  pub bit_set : IsTrue (has_bit (slice_set words (bit / 64) word) bit)
  bit_set = ap (λ w. nat_eq (bit_at w (bit % 64)) 1) (get_or-set_same words (bit / 64) word 0 inside)
      ∙ ap (λ b. nat_eq b 1) (bit_at_or (slice_index words (bit / 64)) (2 ^ (bit % 64)) (bit % 64))
      ∙ bit_one (bit_at (slice_index words (bit / 64)) (bit % 64)) (bit_at (2 ^ (bit % 64)) (bit % 64)) (ap (λ b. nat_eq b 1) (bit_at-pow_same (bit % 64))) (bit_at-lt _ _)

  pub bits_stay : (i : ℕ) → IsTrue (has_bit words i) → IsTrue (has_bit (slice_set words (bit / 64) word) i)
  bits_stay i there = elim (cases_Bool (nat_eq (i / 64) (bit / 64))) [
    | inl same ↦ let here : i / 64 ≡ bit / 64 = grind (arith, nat_tests) in
        ap (λ q. nat_eq (bit_at (slice_index (slice_set words (bit / 64) word) q) (i % 64)) 1) here
        ∙ ap (λ w. nat_eq (bit_at w (i % 64)) 1) (get_or-set_same words (bit / 64) word 0 inside)
        ∙ ap (λ b. nat_eq b 1) (bit_at_or (slice_index words (bit / 64)) (2 ^ (bit % 64)) (i % 64))
        ∙ bit_was (bit_at (slice_index words (bit / 64)) (i % 64)) (bit_at (2 ^ (bit % 64)) (i % 64))
        (sym (ap (λ q. nat_eq (bit_at (slice_index words q) (i % 64)) 1) here) ∙ there) (bit_at-lt _ _)
    | inr apart ↦ ap (λ w. nat_eq (bit_at w (i % 64)) 1) (get_or-set_other words (bit / 64) (i / 64) word 0 (λ h. grind (arith, nat_tests))) ∙ there
  ]

both : (x y : ℕ) → IsTrue (nat_eq x 1) → IsTrue (nat_eq y 1) → min x y ≡ 0 → ⊥
both x y one other none = grind (arith, nat_tests)

-- words without a bit in common
pub no_bit : (v w i : ℕ) → bit_and v w ≡ 0 → IsTrue (nat_eq (bit_at v i) 1) → ¬ IsTrue (nat_eq (bit_at w i) 1)
no_bit v w i none one other = both (bit_at v i) (bit_at w i) one other (sym (bit_at_and v w i) ∙ ap (λ n. bit_at n i) none ∙ bit_at-zero i)

-- words without a bit in common at any index
pub apart_all : (n : ℕ) (ws us : List ℕ) → length ws ≡ n → ((q : ℕ) → q < n → bit_and (slice_index ws q) (slice_index us q) ≡ 0) → (i : ℕ) → IsTrue (has_bit ws i) → ¬ IsTrue (has_bit us i)
apart_all n ws us long none i one other = no_bit (slice_index ws (i / 64)) (slice_index us (i / 64)) (i % 64) (each (i / 64)) one other
  where
    each : (q : ℕ) → bit_and (slice_index ws q) (slice_index us q) ≡ 0
    each q = elim (cases_lt q n) [
      | inl lt ↦ none q lt
      | inr ge ↦ ap (λ w. bit_and w (slice_index us q)) (get_or_past ws q 0 (omega arith)) ∙ and_zero_l (slice_index us q)
    ]

-- ---- keys

pub text_less : (xs : List ℕ) (h : ℕ) → h < 256 → text_bit xs h < 256
text_less [] h less = less
text_less (x ∷ xs) h less = text_less xs ((h * 31 + x) % 256) (omega arith)

pub stays_on : (a b c : FilterData) → StaysCovered a b → StaysCovered b c → StaysCovered a c
stays_on a b c one two k there = two k (one k there)

pub label_stays : (a b : FilterData) (label : ℕ) → StaysCovered a b → CoversLabel a label → CoversLabel b label
label_stays a b label stays h c own = (stays (Length c) (h c own).0, λ p. stays (Byte c p) ((h c own).1 p))

pub length_stays : (a b : FilterData) (label : ℕ) → StaysCovered a b → CoversLength a label → CoversLength b label
length_stays a b label stays h c own = stays (Length c) (h c own)

pub found_stays : (a b : FilterData) (label : ℕ) (found : Found) → StaysCovered a b → CoversFound a label found → CoversFound b label found
found_stays a b label found stays h c own p there = stays (Byte c p) (h c own p there)

pub kept_stays : (a b : FilterData) (label : ℕ) (kept : KeptData) → StaysCovered a b → CoversKept a label kept → CoversKept b label kept
kept_stays a b label kept stays h c own p there = stays (Byte c p) (h c own p there)

-- a byte that was found is covered, where the bytes of each entry are
byte_covered : (es : List (Base × FoundBytes)) (ws : FilterData) (b : model.Base) (p : ℕ) → AllByRecursion (λ (e : Base × FoundBytes). CoversFound ws e.0.label (bytes_of e.1)) es
    → IsTrue (is_some (byte_at (lookup_base b (by_base bytes_of es)) p)) → IsTrue (covers ws (Byte b p))
byte_covered es ws b p all there = something (lookup_base b (by_base bytes_of es)) (read_there (lookup_base b (by_base bytes_of es)) p there)
    (λ e at. base_all bytes_of (λ d m. CoversFound ws d.label m) es all b e at b refl p (subst (λ (o : Option Found). IsTrue (is_some (byte_at o p))) at there))

-- ---- what is true of each entry

pub rec_weaker : {E : Type 0} (P Q : E → Type 0) → ((e : E) → P e → Q e) → (es : List E) → AllByRecursion P es → AllByRecursion Q es
rec_weaker P Q w [] h = tt
rec_weaker P Q w (e ∷ es) h = (w e h.0, rec_weaker P Q w es h.1)

some_rule : (o : Option code_rule.CellRule) → is_some (option_map Ruled (option_map rule_of o)) ≡ true → is_some o ≡ true
some_rule None there = false_true there
some_rule (Some x) there = refl

-- what a cell read
pub read_covered : (i : reads.Inside) (ws : FilterData)
    → AllByRecursion (λ (e : String Global × Option (Rc Value Global)). IsTrue (covers ws (Name (string_bytes e.0)))) i.names.entries
    → AllByRecursion (λ (e : String Global × Option (Rc code.Input Global)). IsTrue (covers ws (Input (string_bytes e.0)))) i.inputs.entries
    → AllByRecursion (λ (e : Base × ℕ). CoversLength ws e.0.label) i.lengths.entries
    → AllByRecursion (λ (e : Base × FoundBytes). CoversFound ws e.0.label (bytes_of e.1)) i.bytes.entries
    → (IsTrue (is_some i.rule) → IsTrue (covers ws OfRule))
    → (k : Key) → IsTrue (keys_of (reads_of i) k) → IsTrue (covers ws k)
read_covered i ws names given lengths bytes rule (Name n) there =
    something (lookup n (by_text value_at i.names.entries)) (found_inside Bound (lookup n (by_text value_at i.names.entries)) there)
    (λ v at. text_all value_at (λ n v. IsTrue (covers ws (Name n))) i.names.entries names n v at)
read_covered i ws names given lengths bytes rule (Input n) there =
    something (lookup n (by_text source_at i.inputs.entries)) (found_inside Given (lookup n (by_text source_at i.inputs.entries)) there)
    (λ x at. text_all source_at (λ n x. IsTrue (covers ws (Input n))) i.inputs.entries given n x at)
read_covered i ws names given lengths bytes rule (Length b) there =
    something (lookup_base b (by_base length_at i.lengths.entries)) (found_inside Number (lookup_base b (by_base length_at i.lengths.entries)) there)
    (λ n at. base_all length_at (λ d m. CoversLength ws d.label) i.lengths.entries lengths b n at b refl)
read_covered i ws names given lengths bytes rule (Byte b p) there = byte_covered i.bytes.entries ws b p bytes (found_inside Number (byte_at (lookup_base b (by_base bytes_of i.bytes.entries)) p) there)
read_covered i ws names given lengths bytes rule OfRule there = rule (some_rule i.rule there)

-- what a cell did
touched_covered : (ws : FilterData) (es : List Event) → AllByRecursion (λ e. IsTrue (covers ws (Name (name_of_event (event_of e))))) es
    → (n : List ℕ) → is_touched n (map event_of es) ≡ true → IsTrue (covers ws (Name n))
touched_covered ws [] h n touched = false_true touched
touched_covered ws (e ∷ es) h n touched = elim (cases_Bool (is_event_of n (event_of e))) [
  | inl is ↦ subst (λ m. IsTrue (covers ws (Name m))) (sym (same_bytes n (name_of_event (event_of e)) (sym (event_name n (event_of e)) ∙ is))) h.0
  | inr other ↦ touched_covered ws es h.1 n (sym (ap (λ t. t || is_touched n (map event_of es)) other) ∙ touched)
]

some_if : {X P : Type 0} (t : Bool) (x : X) → IsTrue (is_some (cond t (Some x) None)) → (t ≡ true → P) → P
some_if true x there h = h refl
some_if false x there h = false_true there

pub did_covered : (r : ReadsData) (label next : ℕ) (events : List Event) (written : List (Base × FoundBytes)) (blocks : List (model.Base × List ℕ)) (ws : FilterData)
    → AllByRecursion (λ e. IsTrue (covers ws (Name (name_of_event (event_of e))))) events
    → CoversLabel ws label
    → AllByRecursion (λ (e : Base × FoundBytes). CoversFound ws e.0.label (bytes_of e.1)) written
    → (k : Key) → IsTrue (is_some (puts (run_in r (record { label = label; next = next; events = map event_of events; written = by_base bytes_of written; blocks = blocks })) k)) → IsTrue (covers ws k)
did_covered r label next events written blocks ws names own bases (Name n) there = some_if (is_touched n (map event_of events)) _ there (touched_covered ws events names n)
did_covered r label next events written blocks ws names own bases (Input n) there = false_true there
did_covered r label next events written blocks ws names own bases OfRule there = false_true there
did_covered r label next events written blocks ws names own bases (Length b) there = some_if (nat_eq b.label label) _ there (λ is. (own b (eqb-true b.label label is)).0)
did_covered r label next events written blocks ws names own bases (Byte b p) there = elim (cases_Bool (nat_eq b.label label)) [
  | inl is ↦ (own b (eqb-true b.label label is)).1 p
  | inr other ↦
      let at : IsTrue (is_some (option_map Number (byte_at (lookup_base b (by_base bytes_of written)) p))) = rw other at there in
      byte_covered written ws b p bases (found_inside Number (byte_at (lookup_base b (by_base bytes_of written)) p) at)
]

-- a change
pub changed_covered : (i : change.Inside) (ws : FilterData)
    → AllByRecursion (λ (e : RcStr Global × Option (Rc Value Global)). IsTrue (covers ws (Name (rc_str_bytes e.0)))) i.names.entries
    → AllByRecursion (λ (e : RcStr Global × Option (Rc code.Input Global)). IsTrue (covers ws (Input (rc_str_bytes e.0)))) i.inputs.entries
    → AllByRecursion (λ (e : Base × Option (Rc (List ℕ) Global)). CoversLabel ws e.0.label) i.blocks.entries
    → AllByRecursion (λ (e : Base × Rc KeptData Global). CoversKept ws e.0.label e.1.value) i.parts.entries
    → (IsTrue (is_some i.rule) → IsTrue (covers ws OfRule))
    → (k : Key) → IsTrue (is_some (change_of (data_in i) k)) → IsTrue (covers ws k)
changed_covered i ws names given blocks parts rule (Name n) there =
    something (value_now i.names.entries n) (found_inside Bound (value_now i.names.entries n) there)
    (λ v at. name_all value_at (λ n v. IsTrue (covers ws (Name n))) i.names.entries names n v at)
changed_covered i ws names given blocks parts rule (Input n) there =
    something (input_now i.inputs.entries n) (found_inside Given (input_now i.inputs.entries n) there)
    (λ x at. name_all source_at (λ n x. IsTrue (covers ws (Input n))) i.inputs.entries given n x at)
changed_covered i ws names given blocks parts rule (Length b) there =
    something (block_now i.blocks.entries b) (found_inside (λ (bytes : List ℕ). Number (length bytes)) (block_now i.blocks.entries b) there)
    (λ bytes at. (base_all bytes_in (λ d m. CoversLabel ws d.label) i.blocks.entries blocks b bytes at b refl).0)
changed_covered i ws names given blocks parts rule (Byte b p) there =
    elim (byte_from (block_now i.blocks.entries b) (lookup_base b (by_base kept_in i.parts.entries)) there) [
      | inl whole ↦ (base_all bytes_in (λ d m. CoversLabel ws d.label) i.blocks.entries blocks b whole.0 whole.1 b refl).1 p
      | inr part ↦ base_all kept_in (λ d m. CoversKept ws d.label m) i.parts.entries parts b part.0 part.1 b refl p part.2
    ]
  where
    kept_there : (o : Option ℕ) → IsTrue (is_some (option_map Number o)) → IsTrue (is_some o)
    kept_there None there = there
    kept_there (Some n) there = refl

    byte_from : (o : Option (List ℕ)) (q : Option KeptData) → IsTrue (is_some (option_map Number (byte_in o (part_at q p) p)))
        → ((bytes : List ℕ) × (o ≡ Some bytes)) ⊎ ((kept : KeptData) × (q ≡ Some kept) × IsTrue (is_some (kept_at kept p)))
    byte_from None None there = false_true there
    byte_from None (Some kept) there = inr (kept, refl, kept_there (kept_at kept p) there)
    byte_from (Some bytes) q there = inl (bytes, refl)
changed_covered i ws names given blocks parts rule OfRule there = rule (some_rule i.rule there)
