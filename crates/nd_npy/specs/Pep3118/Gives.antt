-- What the values of the code stand for.
use Rattle.std.specs.Prelude.{◌≡◌, ℕ, Result, Ok, Err}
use Rattle.nd_types.specs.Fields.{fields_of}
use Rattle.nd_types.specs.Types.{type_of}
use Rattle.nd_types.specs.declared.types.ElemType.{ElemType}
use Rattle.nd_npy.specs.declared.pep3118.fault.FormatFault.{FormatFault}
use Rattle.nd_npy.specs.declared.pep3118.fault.FormatFault.TheVariants as code
use Rattle.nd_npy.specs.declared.pep3118.fault.FormatError.{FormatError}
use Rattle.nd_npy.specs.declared.pep3118.fault.FormatError.TheVariants as error
use Rattle.nd_npy.specs.declared.pep3118.grammar.ByteKind.{ByteKind}
use Rattle.nd_npy.specs.declared.pep3118.grammar.ByteKind.TheVariants as kind
use Rattle.nd_npy.specs.declared.pep3118.progress.Progress as progress
use Rattle.nd_model.specs.Formats.FormatFault as model
use Rattle.nd_model.specs.Formats.FormatGrammar.{ORDER_KIND, CODE_KIND, CROSS_KIND, DIGIT_KIND, TEE_KIND, OPEN_KIND, CLOSE_KIND, COLON_KIND, SPACE_KIND, LEAD_KIND, PLAIN_KIND, TAIL_KIND, BARRED_KIND}
use Rattle.nd_model.specs.Formats.FormatReading.{Progress}
use Rattle.nd_model.specs.Arrays.View.{ElementType}

abbrev pub fault_of : FormatFault → model.FormatFault
fault_of (code.UnknownCode at) = model.UnknownCode at
fault_of (code.Unclosed at) = model.Unclosed at
fault_of (code.NoName at) = model.NoName at
fault_of (code.DoubleName at) = model.DoubleName at
fault_of (code.CountNotHere at) = model.CountNotHere at
fault_of code.LargerThanItem = model.LargerThanItem
fault_of code.TooManyFields = model.TooManyFields
fault_of code.BadItemSize = model.BadItemSize

abbrev pub kind_number : ByteKind → ℕ
kind_number kind.Order = ORDER_KIND
kind_number kind.Code = CODE_KIND
kind_number kind.Cross = CROSS_KIND
kind_number kind.Digit = DIGIT_KIND
kind_number kind.Tee = TEE_KIND
kind_number kind.Open = OPEN_KIND
kind_number kind.Close = CLOSE_KIND
kind_number kind.Colon = COLON_KIND
kind_number kind.Space = SPACE_KIND
kind_number kind.Lead = LEAD_KIND
kind_number kind.Plain = PLAIN_KIND
kind_number kind.Tail = TAIL_KIND
kind_number kind.Barred = BARRED_KIND

abbrev pub progress_of : progress.Progress → Progress
progress_of s = record {
  order = s.order;
  fields = fields_of s.fields.items;
  behind = s.behind;
  count = s.count;
  place = s.place;
  code = s.code;
  name = s.name.items;
  inside = s.inside;
  last = s.last;
}

-- what a step gives, or its fault, unless memory ran out
abbrev pub GoesOn : Result Unit FormatError → Result Progress model.FormatFault → Progress → Type 0
GoesOn (Ok u) r s = r ≡ Ok s
GoesOn (Err (error.Memory m)) r s = Unit {0}
GoesOn (Err (error.Fault f)) r s = r ≡ Err (fault_of f)

-- the type, or the fault, unless memory ran out
abbrev pub Gives : Result ElemType FormatError → Result ElementType model.FormatFault → Type 0
Gives (Ok t) r = r ≡ Ok (type_of t)
Gives (Err (error.Memory m)) r = Unit {0}
Gives (Err (error.Fault f)) r = r ≡ Err (fault_of f)
