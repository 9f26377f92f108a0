-- What the values of the code stand for, and what is given of what a file comes to.
use Rattle.std.specs.Prelude.{◌≡◌, ℕ, Bool, true, false, List, Result, Ok, Err}
use Rattle.std.specs.Borrow.{Bor}
use Rattle.nd_model.specs.Arrays.Content.{array_bytes, content_in_order}
use Rattle.nd_model.specs.Arrays.Element as element
use Rattle.nd_model.specs.Arrays.View.{ElementType, One, Structure, contiguous}
use Rattle.nd_model.specs.Formats.NpyFault as model
use Rattle.nd_model.specs.Formats.NpyHeader.{Encoding, Latin1, Utf8, State, Header}
use Rattle.nd_model.specs.Formats.NpyReading as npy
use Rattle.nd_types.specs.Fields.{fields_of}
use Rattle.nd_types.specs.Types.{type_of}
use Rattle.nd_npy.specs.declared.header.fault.NpyFault.{NpyFault}
use Rattle.nd_npy.specs.declared.header.fault.NpyFault.TheVariants as fault
use Rattle.nd_npy.specs.declared.header.fault.NpyError.{NpyError}
use Rattle.nd_npy.specs.declared.header.fault.NpyError.TheVariants.{Memory, Fault}
use Rattle.nd_npy.specs.declared.header.header.Encoding.TheVariants as encoding
use Rattle.nd_npy.specs.declared.header.header.Encoding as code_encoding
use Rattle.nd_npy.specs.declared.header.header.Header as header
use Rattle.nd_npy.specs.declared.header.state.State as state
use Rattle.nd_npy.specs.declared.header.file.NpyVersion.{NpyVersion}
use Rattle.nd_npy.specs.declared.header.file.NpyVersion.TheVariants.{First, Second, Third}
use Rattle.nd_npy.specs.declared.header.file.NpyArray.{NpyArray}

abbrev pub fault_of : NpyFault → model.NpyFault
fault_of fault.BadMagic = model.BadMagic
fault_of fault.BadVersion = model.BadVersion
fault_of fault.Truncated = model.Truncated
fault_of (fault.NotText at) = model.NotText at
fault_of (fault.BadHeader at) = model.BadHeader at
fault_of fault.BadKeys = model.BadKeys
fault_of fault.BadDescr = model.BadDescr
fault_of fault.TooLarge = model.TooLarge

abbrev pub encoding_of : code_encoding.Encoding → Encoding
encoding_of encoding.Latin1 = Latin1
encoding_of encoding.Utf8 = Utf8

abbrev pub version_from : NpyVersion → npy.Version
version_from First = npy.First
version_from Second = npy.Second
version_from Third = npy.Third

abbrev pub header_from : header.Header → Header
header_from h = record { element = type_of h.elem; fortran = h.fortran; shape = h.shape.items }

abbrev pub state_of : state.State → State
state_of s = record {
  descrs = s.descrs;
  orders = s.orders;
  shapes = s.shapes;
  other = s.other;
  bad = s.bad;
  is_list = s.is_list;
  single = s.single;
  fields = fields_of s.fields.items;
  size = s.size;
  name = s.name.items;
  type_text = s.type_text.items;
  fortran = s.fortran;
  shape = s.shape.items;
  last = s.last;
}

-- an element whose bytes are those of its content: a number that is no Boolean
abbrev pub is_plain_kind : element.Kind → Bool
is_plain_kind element.Boolean = false
is_plain_kind k = true

abbrev pub is_plain : ElementType → Bool
is_plain (One e) = is_plain_kind e.kind
is_plain (Structure fields size) = false

-- the block of a file's elements, which lie in these bytes
abbrev pub elements_block : ElementType → (fortran : Bool) → (shape bytes : List ℕ) → List ℕ
elements_block t fortran shape bytes =
    let a = npy.array_of (record { element = t; fortran = fortran; shape = shape }) bytes in
    array_bytes t shape (content_in_order shape a.contents)

-- ---- what needs no memory

abbrev pub result_of : {A B : Type 0} → (A → B) → Result A NpyFault → Result B model.NpyFault
result_of f (Ok x) = Ok (f x)
result_of f (Err e) = Err (fault_of e)

abbrev pub bytes_given : Result (Bor (List ℕ)) NpyFault → Result (List ℕ) model.NpyFault
bytes_given r = result_of (λ b. b.now) r

abbrev pub parts_given : Result (Bor (List ℕ) × Bor (List ℕ)) NpyFault → Result (List ℕ × List ℕ) model.NpyFault
parts_given r = result_of (λ p. (p.0.now, p.1.now)) r

abbrev pub version_given : Result NpyVersion NpyFault → Result npy.Version model.NpyFault
version_given r = result_of version_from r

-- bytes are passed on where they are a text
abbrev pub text_given : List ℕ → Result (Unit {0}) NpyFault → Result (List ℕ) model.NpyFault
text_given bytes r = result_of (λ u. bytes) r

-- ---- what may want memory

-- the header, or the fault, unless memory ran out
abbrev pub GivesHeader : Result header.Header NpyError → Result Header model.NpyFault → Type 0
GivesHeader (Ok h) r = r ≡ Ok (header_from h)
GivesHeader (Err (Memory m)) r = Unit {0}
GivesHeader (Err (Fault f)) r = r ≡ Err (fault_of f)

-- the array is this one, alone in its block, in C order
pub record IsArray (a : NpyArray) (m : npy.NpyArray) : Type 0 where
  pub view : a.view ≡ contiguous m.element m.shape
  pub block : a.block ≡ array_bytes m.element m.shape (content_in_order m.shape m.contents)

-- the array of the file, or its fault, unless memory ran out
abbrev pub GivesArray : Result NpyArray NpyError → Result npy.NpyArray model.NpyFault → Type 0
GivesArray (Ok a) (Ok m) = IsArray a m
GivesArray (Ok a) (Err f) = ⊥
GivesArray (Err (Memory m)) r = Unit {0}
GivesArray (Err (Fault f)) r = r ≡ Err (fault_of f)
