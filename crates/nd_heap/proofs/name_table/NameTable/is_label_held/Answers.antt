use Rattle.std.proofs.Common.{◌∙◌, ◌||◌, sym, ap, arith}
use Rattle.std.proofs.lemmas.List.{take_all}
use Rattle.std.specs.Rc.{rc_str_bytes}
use Rattle.nd_model.specs.Cells.Session as model
use Rattle.nd_model.specs.Arrays.Value as values
use Rattle.nd_heap.specs.Values.{value_of}
use Rattle.nd_heap.proofs.Layering.{held_next, unheld_there}
use Rattle.nd_heap.proofs.Plain.{false_true}
use Rattle.nd_heap.proofs.name_table.NameTable.is_label_held.Goals as goal

pub returns-then-lies_in_label : goal.returns-then-lies_in_label
returns-then-lies_in_label c = (
  λ e. cc,
  λ all. false_true (sym (c.lies_in_label.ensures.1 (λ b own.
      ap (λ v. values.lies_in b (value_of v)) c.as_ref.ensures ∙ unheld_there b c.args.self.now c.loop-i.i (rc_str_bytes c.entry.result.0.now) (value_of c.entry.result.1.now.value) c.entry.ensures (all b own)))
      ∙ c.if-lies_in_label.true),
)

pub loop-i-preserved : goal.loop-i-preserved
loop-i-preserved c = λ b own.
    held_next b c.args.self.now c.loop-i.i (rc_str_bytes c.entry.result.0.now) (value_of c.entry.result.1.now.value) c.entry.ensures
    ∙ ap (λ t. t || values.lies_in b (value_of c.entry.result.1.now.value)) (c.loop-i.invariant b own)
    ∙ sym (ap (λ v. values.lies_in b (value_of v)) c.as_ref.ensures) ∙ c.lies_in_label.ensures.0 c.if-lies_in_label.false b own

pub returns : goal.returns
returns c = (
  λ e b own. ap (model.is_held b) (sym (take_all c.loop-i.i c.args.self.now (omega (arith, c.loop-i-test.false, c.len-i-end.ensures)))) ∙ c.loop-i.invariant b own,
  λ all. cc,
)
