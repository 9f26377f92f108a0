-- What stands at the keys of a change, entry by entry.
use Rattle.std.specs.Prelude.{ℕ, List, Option, option_map}
use Rattle.std.proofs.Common.{Global}
use Rattle.std.specs.declared.rc.Rc.{Rc}
use Rattle.std.specs.declared.rc.RcStr.{RcStr}
use Rattle.nd_model.specs.Arrays.Value as model
use Rattle.nd_model.specs.Cells.Session.{lookup}
use Rattle.nd_model.specs.Cells.Running.{Source}
use Rattle.nd_heap.specs.Contents.{bytes_in}
use Rattle.nd_heap.specs.Values.{entries_of}
use Rattle.nd_heap.specs.declared.value.Base.{Base}
use Rattle.nd_heap.specs.declared.value.Value.{Value}
use Rattle.nd_marks.specs.Kept.{KeptData}
use Rattle.nd_input.specs.declared.Input.{Input}
use Rattle.nd_session.specs.declared.session.change.change.Change.TheInside.{Inside}
use Rattle.nd_session.specs.Inputs.Values.{rule_of}
use Rattle.nd_session.specs.Session.Change.{ChangeData, part_at}
use Rattle.nd_session.specs.Session.Found.{by_base, lookup_base}
use Rattle.nd_session.specs.Session.Reading.{source_at, value_at}

-- the value of a name, if the name is in the change
abbrev pub value_now : List (RcStr Global × Option (Rc Value Global)) → List ℕ → Option (Option model.Value)
value_now es n = lookup n (entries_of value_at es)

abbrev pub input_now : List (RcStr Global × Option (Rc Input Global)) → List ℕ → Option (Option Source)
input_now es n = lookup n (entries_of source_at es)

-- the bytes of a base, if it is in the change
abbrev pub block_now : List (Base × Option (Rc (List ℕ) Global)) → model.Base → Option (List ℕ)
block_now es b = lookup_base b (by_base bytes_in es)

-- what stands by a base, entry for entry
abbrev pub entry_now : {V : Type 0} → List (Base × V) → model.Base → Option V
entry_now es b = lookup_base b (by_base (λ v. v) es)

-- the single bytes of a base
abbrev pub kept_in : Rc KeptData Global → KeptData
kept_in kept = kept.value

abbrev pub part_now : List (Base × Rc KeptData Global) → model.Base → ℕ → Option ℕ
part_now es b p = part_at (lookup_base b (by_base kept_in es)) p

abbrev pub data_in : Inside → ChangeData
data_in c = record {
  names = entries_of value_at c.names.entries;
  inputs = entries_of source_at c.inputs.entries;
  blocks = by_base bytes_in c.blocks.entries;
  parts = by_base kept_in c.parts.entries;
  rule = option_map rule_of c.rule;
}
