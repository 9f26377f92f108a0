-- Element types as a cell writes them: NumPy's names of kinds, array-protocol type strings, and lists of fields.
use Rattle.std.specs.Prelude.{ℕ, ◌+◌, ◌==◌, nat_lt, Bool, true, false, ◌&&◌, ◌||◌, if◌then◌else◌, List, [], ◌∷◌, codes, Option, Some, None, Result, Ok, Err}
use Rattle.nd_model.specs.Arrays.Element.{Kind, Boolean, Int8, Int16, Int32, Int64, UInt8, UInt16, UInt32, UInt64, Element, size_of}
use Rattle.nd_model.specs.Arrays.View.{Field, ElementType, One, Structure}
use Rattle.nd_model.specs.Arrays.Structure.{is_structure}
use Rattle.nd_model.specs.Cells.Session.{lookup}
use Rattle.nd_model.specs.Arrays.Content.{fields_size}
use Rattle.nd_model.specs.Grammar.Calls.{TypeName, KindName, TypeText, FieldType, DType, Simple, Packed}
use Rattle.nd_model.specs.Cells.Fault.{Fault, Stmt, BadType}

-- a kind by its name
abbrev pub kind_names : List (List ℕ × Kind)
kind_names = (codes "bool", Boolean) ∷ (codes "int8", Int8) ∷ (codes "int16", Int16) ∷ (codes "int32", Int32) ∷ (codes "int64", Int64)
    ∷ (codes "uint8", UInt8) ∷ (codes "uint16", UInt16) ∷ (codes "uint32", UInt32) ∷ (codes "uint64", UInt64) ∷ []

-- and by its letter and size, as in NPY files
abbrev pub kind_codes : List (List ℕ × Kind)
kind_codes = (codes "b1", Boolean) ∷ (codes "i1", Int8) ∷ (codes "i2", Int16) ∷ (codes "i4", Int32) ∷ (codes "i8", Int64)
    ∷ (codes "u1", UInt8) ∷ (codes "u2", UInt16) ∷ (codes "u4", UInt32) ∷ (codes "u8", UInt64) ∷ []

abbrev pub with_order : (big : Bool) → Option Kind → Option Element
with_order big None = None
with_order big (Some k) = Some (record { kind = k; big = big && nat_lt 1 (size_of k) })

-- one byte has no order
abbrev pub without_order : Option Kind → Option Element
without_order None = None
without_order (Some k) = if size_of k == 1 then Some (record { kind = k; big = false }) else None

-- an element text: the order `<`, `=`, `>` or `|`, or none, and then the letter and the size
abbrev pub element_coded : ℕ → List ℕ → Option Element
element_coded b bs =
    if b == 60 || b == 61 then with_order false (lookup bs kind_codes)
    else (if b == 62 then with_order true (lookup bs kind_codes)
    else (if b == 124 then without_order (lookup bs kind_codes)
    else with_order false (lookup (b ∷ bs) kind_codes)))

abbrev pub or_coded : Option Kind → List ℕ → Option Element
or_coded (Some k) text = with_order false (Some k)
or_coded None [] = None
or_coded None (b ∷ bs) = element_coded b bs

-- a text is a kind's name or an element text
abbrev pub element_named : TypeName → Option Element
element_named (KindName k) = with_order false (Some k)
element_named (TypeText text) = or_coded (lookup text kind_names) text

-- the fields one behind the other
abbrev pub and_field : List ℕ → ℕ → Option Element → Option (List Field) → Option (List Field)
and_field n at (Some e) (Some fs) = Some (record { name = n; at = at; element = e } ∷ fs)
and_field n at _ _ = None

abbrev pub size_or : Option Element → ℕ
size_or None = 0
size_or (Some e) = size_of e.kind

abbrev pub fields_from : ℕ → List FieldType → Option (List Field)
fields_from at [] = Some []
fields_from at (f ∷ fs) = and_field f.name at (element_named f.type_name) (fields_from (at + size_or (element_named f.type_name)) fs)

abbrev pub one_type : Option Element → Result ElementType Fault
one_type None = Err (Stmt BadType)
one_type (Some e) = Ok (One e)

abbrev pub structure_type : Option (List Field) → Result ElementType Fault
structure_type None = Err (Stmt BadType)
structure_type (Some fs) = if is_structure fs (fields_size fs) then Ok (Structure fs (fields_size fs)) else Err (Stmt BadType)

-- THE TYPE that is written
abbrev pub element_type : DType → Result ElementType Fault
element_type (Simple n) = one_type (element_named n)
element_type (Packed fs) = structure_type (fields_from 0 fs)
