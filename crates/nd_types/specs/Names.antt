-- The tables of kinds.
use Rattle.std.specs.Prelude.{ℕ, List}
use Rattle.std.specs.Borrow.{Bor}
use Rattle.nd_model.specs.Arrays.Element as element
use Rattle.nd_model.specs.Formats.Format.{kind_text}
use Rattle.nd_types.specs.declared.kind.Kind.{Kind}
use Rattle.nd_types.specs.Kinds.{kind_of}

-- a table's word with its kind
abbrev pub named_kind : Bor (List ℕ) × Kind → List ℕ × element.Kind
named_kind e = (e.0.now, kind_of e.1)

-- a kind with its name
abbrev pub with_name : Kind → List ℕ × element.Kind
with_name k = (kind_text (kind_of k), kind_of k)
