use Rattle.std.proofs.Common.{◌≡◌, ◌++◌, map}
use Rattle.nd_model.specs.Grammar.Cells.{OfMethod}
use Rattle.nd_syntax.specs.Trees.Syntax.{method_of}
use Rattle.nd_parse.specs.Reader.Gives.{methods_of, suffixes_of}
use Rattle.nd_parse.proofs.cells.stmt.add_methods.Given as goal

-- what was put, and what is left
abbrev pub invariant-loop-method : goal.invariant-loop-method
invariant-loop-method l =
    suffixes_of l.suffixes ++ map OfMethod (map method_of l.method-iterator.rest.items) ≡ suffixes_of l.initial.suffixes ++ map OfMethod (methods_of l.fn.methods)
