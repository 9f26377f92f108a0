-- Filters of keys: sets of bits, and the bits of each key.
use Rattle.std.specs.Prelude.{◌≡◌, ℕ, ◌+◌, ◌*◌, ◌/◌, ◌%◌, Bool, ◌||◌, ◌&&◌, IsTrue, is_some, List, [], ◌∷◌, slice_index}
use Rattle.nd_marks.specs.Kept.{KeptData, kept_at}
use Rattle.nd_marks.specs.Marks.{in_word}
use Rattle.nd_model.specs.Arrays.Value.{Base}
use Rattle.nd_model.specs.Cells.Running.{Key, Name, Input, Length, Byte, OfRule}
use Rattle.nd_session.specs.Session.Found.{Found, found_at}

-- the bits of names, inputs, lengths and the rule, those of labels of which any byte may be meant, and those of labels of
-- which only bytes in the granules are
pub record FilterData : Type 0 where
  pub keys : List ℕ
  pub whole : List ℕ
  pub part : ℕ
  pub granules : ℕ

-- the bit of this number is set in the words
abbrev pub has_bit : List ℕ → ℕ → Bool
has_bit ws i = in_word (slice_index ws (i / 64)) (i % 64)

-- a number below 256 for the bytes of a text
abbrev pub text_bit : List ℕ → ℕ → ℕ
text_bit [] h = h
text_bit (x ∷ xs) h = text_bit xs ((h * 31 + x) % 256)

-- the byte at a place of a base of the label is in the filter
abbrev pub covers_byte : FilterData → ℕ → ℕ → Bool
covers_byte f label p = has_bit f.whole (label % 128) || (in_word f.part (label % 64) && in_word f.granules (p / 64 % 64))

-- The filter holds the key. Names and inputs have a bit by their bytes, lengths one by the cell that made the base, and the
-- rule has one.
abbrev pub covers : FilterData → Key → Bool
covers f (Name n) = has_bit f.keys (text_bit n 0)
covers f (Input n) = has_bit f.keys (text_bit n 1)
covers f (Length b) = has_bit f.keys (b.label % 256)
covers f (Byte b p) = covers_byte f b.label p
covers f OfRule = has_bit f.keys 2

-- what is covered is covered still
abbrev pub StaysCovered : FilterData → FilterData → Type 0
StaysCovered old new = (k : Key) → IsTrue (covers old k) → IsTrue (covers new k)

-- the lengths and the bytes of all bases of a label are covered
abbrev pub CoversLabel : FilterData → ℕ → Type 0
CoversLabel f label = (b : Base) → b.label ≡ label → IsTrue (covers f (Length b)) × ((p : ℕ) → IsTrue (covers f (Byte b p)))

-- the lengths of all bases of a label are covered
abbrev pub CoversLength : FilterData → ℕ → Type 0
CoversLength f label = (b : Base) → b.label ≡ label → IsTrue (covers f (Length b))

-- the bytes in these granules of all bases of a label are covered
abbrev pub CoversGranules : FilterData → ℕ → ℕ → Type 0
CoversGranules f label granules = (b : Base) → b.label ≡ label → (p : ℕ) → IsTrue (in_word granules (p / 64 % 64)) → IsTrue (covers f (Byte b p))

-- the bytes that were found are covered, in all bases of a label
abbrev pub CoversFound : FilterData → ℕ → Found → Type 0
CoversFound f label found = (b : Base) → b.label ≡ label → (p : ℕ) → IsTrue (is_some (found_at found p)) → IsTrue (covers f (Byte b p))

-- the bytes that are kept are covered, in all bases of a label
abbrev pub CoversKept : FilterData → ℕ → KeptData → Type 0
CoversKept f label kept = (b : Base) → b.label ≡ label → (p : ℕ) → IsTrue (is_some (kept_at kept p)) → IsTrue (covers f (Byte b p))
