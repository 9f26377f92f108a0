use Rattle.std.proofs.Common.{◌∙◌, ◌||◌, sym, ap, arith}
use Rattle.std.proofs.lemmas.List.{take_all}
use Rattle.std.specs.Rc.{rc_str_bytes}
use Rattle.nd_model.specs.Cells.Session as model
use Rattle.nd_model.specs.Arrays.Value as values
use Rattle.nd_heap.specs.Values.{base_of, value_of}
use Rattle.nd_heap.proofs.Layering.{held_next, held_there}
use Rattle.nd_heap.proofs.name_table.NameTable.has_holder.Goals as goal

pub returns-then-lies_in : goal.returns-then-lies_in
returns-then-lies_in c =
    let b = base_of c.args.base in
    sym (held_there b c.args.self.now c.loop-i.i (rc_str_bytes c.entry.result.0.now) (value_of c.entry.result.1.now.value) c.entry.ensures
    (sym (ap (λ v. values.lies_in b (value_of v)) c.as_ref.ensures) ∙ sym c.lies_in.ensures ∙ c.if-lies_in.true))

pub loop-i-preserved : goal.loop-i-preserved
loop-i-preserved c =
    let b = base_of c.args.base in
    held_next b c.args.self.now c.loop-i.i (rc_str_bytes c.entry.result.0.now) (value_of c.entry.result.1.now.value) c.entry.ensures
    ∙ ap (λ t. t || values.lies_in b (value_of c.entry.result.1.now.value)) c.loop-i.invariant
    ∙ sym (ap (λ v. values.lies_in b (value_of v)) c.as_ref.ensures) ∙ sym c.lies_in.ensures ∙ c.if-lies_in.false

pub returns : goal.returns
returns c = sym (ap (model.is_held (base_of c.args.base)) (sym (take_all c.loop-i.i c.args.self.now (omega (arith, c.loop-i-test.false, c.len-i-end.ensures)))) ∙ c.loop-i.invariant)
