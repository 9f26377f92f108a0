-- Which commands open a source.
use Rattle.std.proofs.Common.{◌≡◌, ℕ, refl}
use Rattle.nd_model.specs.Book.Script.{Opening, Opens}
use Rattle.nd_script.specs.declared.words.command.LineCommand.{LineCommand}
use Rattle.nd_script.specs.declared.words.command.LineCommand.TheVariants.{Insert, Edit, Remove, Move, Show, Source, Names, Value, Saved, SetInput, DropInput, PythonRule, AtomicRule, Count, Silent, Bad}
use Rattle.nd_script.specs.Words.Command.{line_of}

pub not_opening : (x : LineCommand) → ((at : ℕ) → x ≡ Insert at → ⊥) → ((at : ℕ) → x ≡ Edit at → ⊥) → (o : Opening) → line_of x ≡ Opens o → ⊥
not_opening (Insert at) insert edit o e = insert at refl
not_opening (Edit at) insert edit o e = edit at refl
not_opening (Remove at) insert edit o e = cc
not_opening (Move from to) insert edit o e = cc
not_opening (Show at) insert edit o e = cc
not_opening (Source at) insert edit o e = cc
not_opening (Names at) insert edit o e = cc
not_opening (Value at name) insert edit o e = cc
not_opening (Saved at name) insert edit o e = cc
not_opening (SetInput name input) insert edit o e = cc
not_opening (DropInput name) insert edit o e = cc
not_opening PythonRule insert edit o e = cc
not_opening AtomicRule insert edit o e = cc
not_opening Count insert edit o e = cc
not_opening Silent insert edit o e = cc
not_opening Bad insert edit o e = cc
