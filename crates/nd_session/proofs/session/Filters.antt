-- Filters as data: what stays in them, and what two of them do not have in common.
use Rattle.std.proofs.Common.{◌≡◌, ℕ, zero, suc, ◌/◌, ◌%◌, ◌<◌, Bool, true, false, ◌||◌, ◌&&◌, nat_eq, List, [], ◌∷◌, slice_index, bit_and, bit_or, refl, ap, subst, ◌∙◌, arith}
use Rattle.std.specs.Prelude.{IsTrue}
use Rattle.std.proofs.lemmas.Nat.Bits.{bit_at_ones}
use Rattle.nd_marks.specs.Marks.{in_word}
use Rattle.nd_marks.proofs.Spans.{bit_comes, bit_stays}
use Rattle.nd_model.specs.Cells.Running.{Key, Name, Input, Length, Byte, OfRule}
use Rattle.nd_session.specs.Session.Filter.{FilterData, StaysCovered, covers, covers_byte, has_bit, text_bit}
use Rattle.nd_session.proofs.session.Agreeing.{false_true}
use Rattle.nd_session.proofs.session.Covering.{no_bit, text_less}

-- ---- tests

or_left : (a b : Bool) → a ≡ true → (a || b) ≡ true
or_left true b h = refl
or_left false b h = false_true h

or_right : (a b : Bool) → b ≡ true → (a || b) ≡ true
or_right true b h = refl
or_right false b h = h

either : {A : Type 0} (a b : Bool) → (a || b) ≡ true → (a ≡ true → A) → (b ≡ true → A) → A
either true b h one other = one refl
either false b h one other = other h

and_both : (a b : Bool) → a ≡ true → b ≡ true → (a && b) ≡ true
and_both true b h i = i
and_both false b h i = false_true h

and_first : (a b : Bool) → (a && b) ≡ true → a ≡ true
and_first true b h = refl
and_first false b h = false_true h

and_second : (a b : Bool) → (a && b) ≡ true → b ≡ true
and_second true b h = h
and_second false b h = false_true h

-- ---- what stays

pub keys_stay : (f : FilterData) (keys : List ℕ) → ((i : ℕ) → IsTrue (has_bit f.keys i) → IsTrue (has_bit keys i))
    → StaysCovered f (record { keys = keys; whole = f.whole; part = f.part; granules = f.granules })
keys_stay f keys h (Name n) there = h (text_bit n 0) there
keys_stay f keys h (Input n) there = h (text_bit n 1) there
keys_stay f keys h (Length b) there = h (b.label % 256) there
keys_stay f keys h (Byte b p) there = there
keys_stay f keys h OfRule there = h 2 there

pub whole_stay : (f : FilterData) (whole : List ℕ) → ((i : ℕ) → IsTrue (has_bit f.whole i) → IsTrue (has_bit whole i))
    → StaysCovered f (record { keys = f.keys; whole = whole; part = f.part; granules = f.granules })
whole_stay f whole h (Name n) there = there
whole_stay f whole h (Input n) there = there
whole_stay f whole h (Length b) there = there
whole_stay f whole h (Byte b p) there =
    let part : Bool = in_word f.part (b.label % 64) && in_word f.granules (p / 64 % 64) in
    either (has_bit f.whole (b.label % 128)) part there (λ t. or_left (has_bit whole (b.label % 128)) part (h (b.label % 128) t)) (λ t. or_right (has_bit whole (b.label % 128)) part t)
whole_stay f whole h OfRule there = there

pub whole_set : (f : FilterData) (label : ℕ) → IsTrue (has_bit f.whole (label % 128)) → (p : ℕ) → IsTrue (covers_byte f label p)
whole_set f label set p = or_left (has_bit f.whole (label % 128)) (in_word f.part (label % 64) && in_word f.granules (p / 64 % 64)) set

pub part_stay : (f : FilterData) (m n : ℕ) → StaysCovered f (record { keys = f.keys; whole = f.whole; part = bit_or f.part m; granules = bit_or f.granules n })
part_stay f m n (Name k) there = there
part_stay f m n (Input k) there = there
part_stay f m n (Length b) there = there
part_stay f m n (Byte b p) there =
    let old : Bool = in_word f.part (b.label % 64) && in_word f.granules (p / 64 % 64) in
    let new : Bool = in_word (bit_or f.part m) (b.label % 64) && in_word (bit_or f.granules n) (p / 64 % 64) in
    either (has_bit f.whole (b.label % 128)) old there (λ t. or_left (has_bit f.whole (b.label % 128)) new t)
    (λ t. or_right (has_bit f.whole (b.label % 128)) new (and_both (in_word (bit_or f.part m) (b.label % 64)) (in_word (bit_or f.granules n) (p / 64 % 64))
    (bit_stays f.part m (b.label % 64) (and_first (in_word f.part (b.label % 64)) (in_word f.granules (p / 64 % 64)) t))
    (bit_stays f.granules n (p / 64 % 64) (and_second (in_word f.part (b.label % 64)) (in_word f.granules (p / 64 % 64)) t))))
part_stay f m n OfRule there = there

pub part_set : (f : FilterData) (label p : ℕ) → IsTrue (in_word f.part (label % 64)) → IsTrue (in_word f.granules (p / 64 % 64)) → IsTrue (covers_byte f label p)
part_set f label p one other = or_right (has_bit f.whole (label % 128)) (in_word f.part (label % 64) && in_word f.granules (p / 64 % 64)) (and_both (in_word f.part (label % 64)) (in_word f.granules (p / 64 % 64)) one other)

-- ---- all keys

full : (ws : List ℕ) (i : ℕ) → slice_index ws (i / 64) ≡ 18446744073709551615 → IsTrue (has_bit ws i)
full ws i is = ap (λ w. in_word w (i % 64)) is ∙ ap (λ b. nat_eq b 1) (bit_at_ones 64 (i % 64) (omega arith))

four : (q : ℕ) → q < 4 → slice_index (18446744073709551615 ∷ 18446744073709551615 ∷ 18446744073709551615 ∷ 18446744073709551615 ∷ []) q ≡ 18446744073709551615
four zero lt = refl
four (suc zero) lt = refl
four (suc (suc zero)) lt = refl
four (suc (suc (suc zero))) lt = refl
four (suc (suc (suc (suc q)))) lt = absurd (omega arith)

two : (q : ℕ) → q < 2 → slice_index (18446744073709551615 ∷ 18446744073709551615 ∷ []) q ≡ 18446744073709551615
two zero lt = refl
two (suc zero) lt = refl
two (suc (suc q)) lt = absurd (omega arith)

abbrev pub all_keys : FilterData
all_keys = record {
  keys = 18446744073709551615 ∷ 18446744073709551615 ∷ 18446744073709551615 ∷ 18446744073709551615 ∷ [];
  whole = 18446744073709551615 ∷ 18446744073709551615 ∷ [];
  part = 0;
  granules = 0;
}

key_there : (i : ℕ) → i < 256 → IsTrue (has_bit all_keys.keys i)
key_there i lt = full all_keys.keys i (four (i / 64) (omega arith))

pub all_covered : (k : Key) → IsTrue (covers all_keys k)
all_covered (Name n) = key_there (text_bit n 0) (text_less n 0 (omega arith))
all_covered (Input n) = key_there (text_bit n 1) (text_less n 1 (omega arith))
all_covered (Length b) = key_there (b.label % 256) (omega arith)
all_covered (Byte b p) = whole_set all_keys b.label (full all_keys.whole (b.label % 128) (two (b.label % 128 / 64) (omega arith))) p
all_covered OfRule = key_there 2 (omega arith)

-- ---- filters without a key in common

folded : (ws : List ℕ) (q r : ℕ) → q < 2 → IsTrue (in_word (slice_index ws q) r) → IsTrue (in_word (bit_or (slice_index ws 0) (slice_index ws 1)) r)
folded ws zero r lt h = bit_stays (slice_index ws 0) (slice_index ws 1) r h
folded ws (suc zero) r lt h = bit_comes (slice_index ws 0) (slice_index ws 1) r h
folded ws (suc (suc q)) r lt h = absurd (omega arith)

pub part_apart : (part : ℕ) (ws : List ℕ) → bit_and part (bit_or (slice_index ws 0) (slice_index ws 1)) ≡ 0 → (label : ℕ) → IsTrue (in_word part (label % 64)) → ¬ IsTrue (has_bit ws (label % 128))
part_apart part ws none label one other =
    let low : label % 128 % 64 ≡ label % 64 = omega arith in
    no_bit part (bit_or (slice_index ws 0) (slice_index ws 1)) (label % 64) none one
    (subst (λ (r : ℕ). IsTrue (in_word (bit_or (slice_index ws 0) (slice_index ws 1)) r)) low (folded ws (label % 128 / 64) (label % 128 % 64) (omega arith) other))

module _ (f g : FilterData) (keys : (i : ℕ) → IsTrue (has_bit f.keys i) → ¬ IsTrue (has_bit g.keys i)) (wholes : (i : ℕ) → IsTrue (has_bit f.whole i) → ¬ IsTrue (has_bit g.whole i))
    (part : (label : ℕ) → IsTrue (in_word f.part (label % 64)) → ¬ IsTrue (has_bit g.whole (label % 128))) (other_part : (label : ℕ) → IsTrue (in_word g.part (label % 64)) → ¬ IsTrue (has_bit f.whole (label % 128)))
    (granules : (i j : ℕ) → IsTrue (in_word f.part i) → IsTrue (in_word f.granules j) → IsTrue (in_word g.part i) → ¬ IsTrue (in_word g.granules j)) where
  byte_apart : (label p : ℕ) → IsTrue (covers_byte f label p) → ¬ IsTrue (covers_byte g label p)
  byte_apart label p one other =
      let i : ℕ = label % 64 in let j : ℕ = p / 64 % 64 in let w : ℕ = label % 128 in
      either (has_bit f.whole w) (in_word f.part i && in_word f.granules j) one
      (λ a. either (has_bit g.whole w) (in_word g.part i && in_word g.granules j) other (wholes w a) (λ b. other_part label (and_first (in_word g.part i) (in_word g.granules j) b) a))
      (λ a. either (has_bit g.whole w) (in_word g.part i && in_word g.granules j) other (part label (and_first (in_word f.part i) (in_word f.granules j) a))
      (λ b. granules i j (and_first (in_word f.part i) (in_word f.granules j) a) (and_second (in_word f.part i) (in_word f.granules j) a) (and_first (in_word g.part i) (in_word g.granules j) b) (and_second (in_word g.part i) (in_word g.granules j) b)))

  pub all_apart : (k : Key) → IsTrue (covers f k) → ¬ IsTrue (covers g k)
  all_apart (Name n) = keys (text_bit n 0)
  all_apart (Input n) = keys (text_bit n 1)
  all_apart (Length b) = keys (b.label % 256)
  all_apart (Byte b p) = byte_apart b.label p
  all_apart OfRule = keys 2
