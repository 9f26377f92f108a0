-- Inputs as arrays, and arrays as files: `np.load`, `buffer` and `np.save`.
use Rattle.std.specs.Prelude.{ℕ, ℤ, List, Option, Some, Result, Ok, Err}
use Rattle.nd_model.specs.Arrays.View.{ElementType}
use Rattle.nd_model.specs.Arrays.Content.{content_in_order}
use Rattle.nd_model.specs.Cells.Running.{Source, Npy, Buffer}
use Rattle.nd_model.specs.Cells.InputName.{is_input_name}
use Rattle.nd_model.specs.Formats.FormatFault.{FormatFault}
use Rattle.nd_model.specs.Formats.FormatReading.{read_format}
use Rattle.nd_model.specs.Formats.NpyFault.{NpyFault}
use Rattle.nd_model.specs.Formats.NpyReading.{NpyArray, read_npy}
use Rattle.nd_model.specs.Formats.NpyWriting.{npy_bytes}
use Rattle.nd_model.specs.Cells.Fault.{Fault, Format, Npy, Stmt, NoInput, BadArgument}
use Rattle.nd_model.specs.Cells.Fault as fault
use Rattle.nd_model.specs.Cells.Refusing.{◌>>=◌, when}
use Rattle.nd_model.specs.Making.Operand.{Operand, Loaded, AFile, ABuffer, Deed, SavesFile, shape_of, contents_of}
use Rattle.nd_model.specs.Making.Creation.{array_type}

-- the array of a file
abbrev pub file_array : Result NpyArray NpyFault → Result Loaded Fault
file_array (Ok a) = Ok (AFile a.element a.shape (content_in_order a.shape a.contents))
file_array (Err f) = Err (fault.Npy f)

-- `np.load(n)`: the array of the input's file
abbrev pub load : List ℕ → Option Source → Result Loaded Fault
load n (Some (Npy bytes)) = file_array (read_npy bytes)
load n _ = Err (Stmt (NoInput n))

-- the array of a buffer, by the type that its format means
abbrev pub buffer_array : (shape : List ℕ) → (strides : List ℤ) → (offset : ℕ) → (bytes : List ℕ) → Result ElementType FormatFault → Result Loaded Fault
buffer_array shape strides offset bytes (Ok t) = Ok (ABuffer t shape strides offset bytes)
buffer_array shape strides offset bytes (Err f) = Err (Format f)

-- `buffer(n)`: the array of the input's buffer
abbrev pub buffer : List ℕ → Option Source → Result Loaded Fault
buffer n (Some (Buffer format itemsize shape strides offset bytes)) = buffer_array shape strides offset bytes (read_format format itemsize)
buffer n _ = Err (Stmt (NoInput n))

-- the file of `np.array(e)`
abbrev pub operand_file : Operand → Result (List ℕ) Fault
operand_file o = do
  t ← array_type o
  Ok (npy_bytes t (shape_of o) (contents_of o))

-- `np.save(n, e)`: that file by this name. It may be named as an input may
abbrev pub save : List ℕ → Operand → Result Deed Fault
save n o = when (is_input_name n) (Stmt BadArgument) (do
  file ← operand_file o
  Ok (SavesFile n file))
