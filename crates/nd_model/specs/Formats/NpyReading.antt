-- NPY files: magic bytes, a version, the length of the header, the header, and the elements. From NumPy's description of the format.
use Rattle.std.specs.Prelude.{ℕ, ◌*◌, ◌==◌, nat_le, nat_eq, Bool, is_none, if◌then◌else◌, List, [], ◌∷◌, length, map, take, drop, reverse, codes, Result, Ok, Err}
use Rattle.std.specs.Int.{Width, w16, w32, byte_len, from_le_bytes}
use Rattle.std.specs.List.{starts_with}
use Rattle.std.specs.Str.{is_utf8}
use Rattle.std.specs.Str.Lossy.{utf8_valid_len}
use Rattle.nd_model.specs.Arrays.Tuple.{elements_of}
use Rattle.nd_model.specs.Arrays.View.{ElementType, Geo, item_size, contiguous}
use Rattle.nd_model.specs.Arrays.Strides.{limit_fault}
use Rattle.nd_model.specs.Arrays.Content.{Content, content_at}
use Rattle.nd_model.specs.Indexing.Transposing.{reversed_view}
use Rattle.nd_model.specs.Grammar.Predict.{◌>>=◌}
use Rattle.nd_model.specs.Formats.NpyFault.{NpyFault, BadMagic, BadVersion, Truncated, NotText, TooLarge}
use Rattle.nd_model.specs.Formats.NpyHeader.{Encoding, Latin1, Utf8, Header, header_in}

-- the array of a file, its elements in C order
pub record NpyArray : Type 0 where
  pub element : ElementType
  pub shape : List ℕ
  pub contents : List Content

-- goes on where the test holds
abbrev pub when : {A : Type 0} → Bool → NpyFault → Result A NpyFault → Result A NpyFault
when test fault then_this = if test then then_this else Err fault

-- the next n bytes and those behind them
abbrev pub split : ℕ → List ℕ → Result (List ℕ × List ℕ) NpyFault
split n bytes = when (nat_le n (length bytes)) Truncated (Ok (take n bytes, drop n bytes))

-- ---- magic bytes and version

abbrev pub magic : List ℕ
magic = 147 ∷ codes "NUMPY"

abbrev pub behind_magic : List ℕ → Result (List ℕ) NpyFault
behind_magic bytes = when (starts_with nat_eq bytes magic) BadMagic (Ok (drop (length magic) bytes))

-- the versions 1.0, 2.0 and 3.0
pub data Version : Type 0 where
  First : Version
  Second : Version
  Third : Version

-- by its major and minor number
abbrev pub version_of : (major minor : ℕ) → Result Version NpyFault
version_of major minor =
    when (minor == 0) BadVersion (if major == 1 then Ok First else (if major == 2 then Ok Second else when (major == 3) BadVersion (Ok Third)))

abbrev pub version_in : List ℕ → Result Version NpyFault
version_in (major ∷ minor ∷ []) = version_of major minor
version_in bytes = Err BadVersion

-- ---- the header

-- its length has two bytes in version 1.0, and four in the others, the lowest first
abbrev pub length_width : Version → Width
length_width First = w16
length_width Second = w32
length_width Third = w32

-- it is Latin-1 up to version 2.0, and then UTF-8
abbrev pub encoding_of : Version → Encoding
encoding_of First = Latin1
encoding_of Second = Latin1
encoding_of Third = Utf8

-- bytes that are no text have their fault where the first invalid sequence begins; in Latin-1 all bytes are characters
abbrev pub text_in : Encoding → List ℕ → Result (List ℕ) NpyFault
text_in Latin1 bytes = Ok bytes
text_in Utf8 bytes = when (is_utf8 bytes) (NotText (utf8_valid_len bytes)) (Ok bytes)

-- the bytes of the header, and those behind it
abbrev pub header_bytes : Version → List ℕ → Result (List ℕ × List ℕ) NpyFault
header_bytes v bytes = do
  count ← split (byte_len (length_width v)) bytes
  split (from_le_bytes (length_width v) count.0) count.1

abbrev pub in_limits : Header → Result Header NpyFault
in_limits h = when (is_none (limit_fault (item_size h.element) h.shape)) TooLarge (Ok h)

-- what the bytes of a header say
unfoldable pub header_of : Version → List ℕ → Result Header NpyFault
header_of v bytes = do
  text ← text_in (encoding_of v) bytes
  h ← header_in (encoding_of v) text
  in_limits h

-- ---- the elements

-- Where they lie: without gaps in C order; or in Fortran order, which is C order with the axes the other way round.
abbrev pub layout : Header → Geo
layout h = if h.fortran then reversed_view (contiguous h.element (reverse h.shape)) else contiguous h.element h.shape

abbrev pub array_of : Header → List ℕ → NpyArray
array_of h bytes = record { element = h.element; shape = h.shape; contents = map (content_at h.element bytes) (layout h).places }

-- the array whose elements come first in these bytes; those behind them are ignored
unfoldable pub elements_in : Header → List ℕ → Result NpyArray NpyFault
elements_in h bytes = do
  elements ← split (elements_of h.shape * item_size h.element) bytes
  Ok (array_of h elements.0)

-- ---- files

-- behind the magic bytes
abbrev pub read_version : List ℕ → Result NpyArray NpyFault
read_version bytes = do
  front ← split 2 bytes
  v ← version_in front.0
  header ← header_bytes v front.1
  h ← header_of v header.0
  elements_in h header.1

-- THE ARRAY OF A FILE, or the first fault
unfoldable pub read_npy : List ℕ → Result NpyArray NpyFault
read_npy bytes = do
  rest ← behind_magic bytes
  read_version rest
