-- Elements: what a kind of number is, and what the bytes of an element are worth. From PEP 3118 and NumPy's data types:
-- a kind is a range and a number of bytes, and an element has its bytes in one of two orders.
use Rattle.std.specs.Prelude.{◌≡◌, ◌≢◌, ◌↔◌, ◌==◌, ℕ, ◌<◌, ◌+◌, ◌-◌, ◌*◌, ℤ, pos, neg_ℤ, ◌≤ℤ◌, int_le, unsigned_abs, ◌^◌, nat_lt, Bool, not, ◌&&◌, ◌||◌, if◌then◌else◌, List, ◌++◌, take, drop, length}
use Rattle.std.specs.List.{All}
use Rattle.std.specs.Int.{Width, w8, w16, w32, w64, byte_len, to_le_bytes, to_be_bytes, from_le_bytes, from_be_bytes, cast_signed, int_rem_euclid}

pub data Kind : Type 0 where
  Boolean : Kind
  Int8 : Kind
  Int16 : Kind
  Int32 : Kind
  Int64 : Kind
  UInt8 : Kind
  UInt16 : Kind
  UInt32 : Kind
  UInt64 : Kind

-- a kind, and whether the highest byte comes first
pub record Element : Type 0 where
  pub kind : Kind
  pub big : Bool

-- how many bytes hold a number of the kind
abbrev pub width_of : Kind → Width
width_of Boolean = w8
width_of Int8 = w8
width_of Int16 = w16
width_of Int32 = w32
width_of Int64 = w64
width_of UInt8 = w8
width_of UInt16 = w16
width_of UInt32 = w32
width_of UInt64 = w64

-- how many bytes an element has
abbrev pub size_of : Kind → ℕ
size_of k = byte_len (width_of k)

-- a single byte has no order, so it is never called big
abbrev pub is_canonical : Kind → Bool → Bool
is_canonical k big = not big || nat_lt 1 (size_of k)

-- the range of a kind
abbrev pub lowest : Kind → ℤ
lowest Boolean = pos 0
lowest Int8 = neg_ℤ (pos (2 ^ 7))
lowest Int16 = neg_ℤ (pos (2 ^ 15))
lowest Int32 = neg_ℤ (pos (2 ^ 31))
lowest Int64 = neg_ℤ (pos (2 ^ 63))
lowest UInt8 = pos 0
lowest UInt16 = pos 0
lowest UInt32 = pos 0
lowest UInt64 = pos 0

abbrev pub highest : Kind → ℤ
highest Boolean = pos 1
highest Int8 = pos (2 ^ 7 - 1)
highest Int16 = pos (2 ^ 15 - 1)
highest Int32 = pos (2 ^ 31 - 1)
highest Int64 = pos (2 ^ 63 - 1)
highest UInt8 = pos (2 ^ 8 - 1)
highest UInt16 = pos (2 ^ 16 - 1)
highest UInt32 = pos (2 ^ 32 - 1)
highest UInt64 = pos (2 ^ 64 - 1)

-- z is a value of the kind
pub record IsValue (k : Kind) (z : ℤ) : Type 0 where
  pub low : lowest k ≤ℤ z
  pub high : z ≤ℤ highest k

-- the same as a test
abbrev pub fits : Kind → ℤ → Bool
fits k z = int_le (lowest k) z && int_le z (highest k)

-- the number in the bytes, by powers of 256
abbrev pub number_in : Width → Bool → List ℕ → ℕ
number_in w big bs = if big then from_be_bytes w bs else from_le_bytes w bs

-- what the kind makes of that number: two's complement where it is signed, `not zero` where it is Boolean
abbrev pub value_in : Kind → ℕ → ℤ
value_in Boolean n = if n == 0 then pos 0 else pos 1
value_in Int8 n = cast_signed w8 n
value_in Int16 n = cast_signed w16 n
value_in Int32 n = cast_signed w32 n
value_in Int64 n = cast_signed w64 n
value_in UInt8 n = pos n
value_in UInt16 n = pos n
value_in UInt32 n = pos n
value_in UInt64 n = pos n

-- the value of an element's bytes
abbrev pub value_of : Element → List ℕ → ℤ
value_of e bs = value_in e.kind (number_in (width_of e.kind) e.big bs)

abbrev pub bytes_in : Width → Bool → ℕ → List ℕ
bytes_in w big n = if big then to_be_bytes w n else to_le_bytes w n

-- the number below 2 to the power of the width that is equal to z modulo that
abbrev pub residue : Width → ℤ → ℕ
residue w z = unsigned_abs (int_rem_euclid z (pos (2 ^ (8 * byte_len w))))

-- the bytes of a value; of a number that the kind does not hold, those of its residue
abbrev pub bytes_of : Element → ℤ → List ℕ
bytes_of e z = let w = width_of e.kind in bytes_in w e.big (residue w z)

-- ROUND TRIP: a value is read back from its bytes
abbrev pub RoundTrip : Type 0
RoundTrip = (e : Element) (z : ℤ) → IsValue e.kind z → value_of e (bytes_of e z) ≡ z

-- BYTES AGAIN: the bytes of an element are those of its value. A Boolean may have other bytes than 0 and 1, so it is left out.
abbrev pub BytesRoundTrip : Type 0
BytesRoundTrip = (e : Element) (bs : List ℕ) → e.kind ≢ Boolean → length bs ≡ size_of e.kind → All (λ b. b < 256) bs → bytes_of e (value_of e bs) ≡ bs

-- the number of the kind that is equal to z modulo 2 to the power of the width; for Booleans 0 for 0, and else 1
abbrev pub wrap : Kind → ℤ → ℤ
wrap Boolean z = if unsigned_abs z == 0 then pos 0 else pos 1
wrap k z = value_in k (residue (width_of k) z)

-- ONE WRAP: what a number wraps to is the one number of the kind that is equal to it modulo 2 to the power of the width
abbrev pub OneWrap : Type 0
OneWrap = (k : Kind) (z w : ℤ) → k ≢ Boolean → (w ≡ wrap k z) ↔ (IsValue k w × (residue (width_of k) w ≡ residue (width_of k) z))

-- the n bytes from place p on
abbrev pub bytes_at : List ℕ → ℕ → ℕ → List ℕ
bytes_at xs p n = take n (drop p xs)

-- xs with ys from place p on
abbrev pub with_bytes : List ℕ → ℕ → List ℕ → List ℕ
with_bytes xs p ys = take p xs ++ ys ++ drop (p + length ys) xs
