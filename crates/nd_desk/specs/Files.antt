-- Why a file is not to be had, as the program has it.
use Rattle.std.specs.Prelude.{ℕ, List, ◌++◌}
use Rattle.std.specs.declared.io.ErrorKind.{ErrorKind}
use Rattle.std.specs.declared.io.ErrorKind.TheVariants as kind
use Rattle.nd_model.specs.Book.Script.{refused_line}
use Rattle.nd_desk.specs.Answers as model
use Rattle.nd_desk.specs.Answers.{cause_text, out_of_memory}
use Rattle.nd_desk.specs.declared.file.FileCause.{FileCause}
use Rattle.nd_desk.specs.declared.file.FileCause.TheVariants.{NotFound, PermissionDenied, AlreadyExists, NotADirectory, IsADirectory, ReadOnlyFilesystem, StorageFull, InvalidFilename, Failed}

abbrev pub cause_of : FileCause → model.FileCause
cause_of NotFound = model.NotFound
cause_of PermissionDenied = model.PermissionDenied
cause_of AlreadyExists = model.AlreadyExists
cause_of NotADirectory = model.NotADirectory
cause_of IsADirectory = model.IsADirectory
cause_of ReadOnlyFilesystem = model.ReadOnlyFilesystem
cause_of StorageFull = model.StorageFull
cause_of InvalidFilename = model.InvalidFilename
cause_of Failed = model.Failed

-- the cause that the kind of an error is, which is no want of memory
abbrev pub cause_of_kind : ErrorKind → model.FileCause
cause_of_kind kind.NotFound = model.NotFound
cause_of_kind kind.PermissionDenied = model.PermissionDenied
cause_of_kind kind.AlreadyExists = model.AlreadyExists
cause_of_kind kind.NotADirectory = model.NotADirectory
cause_of_kind kind.IsADirectory = model.IsADirectory
cause_of_kind kind.ReadOnlyFilesystem = model.ReadOnlyFilesystem
cause_of_kind kind.StorageFull = model.StorageFull
cause_of_kind kind.InvalidFilename = model.InvalidFilename
cause_of_kind _ = model.Failed

-- why a file is not to be had, by the kind of the error: want of memory, or the word for what was tried and the cause
abbrev pub unhad_text : (tried : List ℕ) → ErrorKind → List ℕ
unhad_text tried kind.OutOfMemory = out_of_memory
unhad_text tried k = refused_line (tried ++ cause_text (cause_of_kind k))
