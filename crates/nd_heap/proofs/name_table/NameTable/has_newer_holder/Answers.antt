use Rattle.std.proofs.Common.{◌∙◌, sym, ap}
use Rattle.nd_model.specs.Arrays.Value as values
use Rattle.nd_heap.specs.Values.{base_of, value_of}
use Rattle.nd_heap.proofs.Below.{held_found}
use Rattle.nd_heap.proofs.name_table.NameTable.has_newer_holder.Goals as goal

pub returns-then-lies_in : goal.returns-then-lies_in
returns-then-lies_in c = λ yes.
    held_found (base_of c.args.base) _ _ c.args.self.now (sym c.in-Some-find.ensures)
    (sym (ap (λ v. values.lies_in (base_of c.args.base) (value_of v)) c.as_ref-in-Some-find.ensures) ∙ sym c.lies_in-in-Some-find.ensures ∙ c.if-lies_in.true)
