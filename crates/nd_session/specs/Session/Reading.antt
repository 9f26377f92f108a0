-- What contracts see of what a cell read.
use Rattle.std.specs.Prelude.{ℕ, List, [], ◌∷◌, Option, option_map, String, string_bytes}
use Rattle.std.proofs.Common.{Global}
use Rattle.std.specs.declared.rc.Rc.{Rc}
use Rattle.nd_model.specs.Arrays.Value as model
use Rattle.nd_model.specs.Cells.Running.{Source}
use Rattle.nd_input.specs.declared.Input.{Input}
use Rattle.nd_heap.specs.declared.value.Value.{Value}
use Rattle.nd_session.specs.declared.session.reads.Reads.TheInside.{Inside}
use Rattle.nd_session.specs.Session.Found.{by_base, bytes_of}
use Rattle.nd_heap.specs.Values.{value_of}
use Rattle.nd_input.specs.Sources.{source_of}
use Rattle.nd_session.specs.Inputs.Values.{rule_of}
use Rattle.nd_session.specs.Session.Reads.{ReadsData}

-- entries by their texts
abbrev pub by_text : {V A : Type 0} → (V → A) → List (String Global × V) → List (List ℕ × A)
by_text f [] = []
by_text f (e ∷ es) = (string_bytes e.0, f e.1) ∷ by_text f es

abbrev pub value_at : Option (Rc Value Global) → Option model.Value
value_at o = option_map (λ v. value_of v.value) o

abbrev pub source_at : Option (Rc Input Global) → Option Source
source_at o = option_map (λ x. source_of x.value) o

abbrev pub length_at : ℕ → ℕ
length_at n = n

abbrev pub reads_of : Inside → ReadsData
reads_of r = record {
  names = by_text value_at r.names.entries;
  inputs = by_text source_at r.inputs.entries;
  lengths = by_base length_at r.lengths.entries;
  bytes = by_base bytes_of r.bytes.entries;
  rule = option_map rule_of r.rule;
}
