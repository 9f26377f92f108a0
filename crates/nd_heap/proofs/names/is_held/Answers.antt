use Rattle.std.proofs.Common.{◌≡◌, ◌-◌, ◌+◌, sym, ◌∙◌, ap, ◌||◌, drop, arith}
use Rattle.nd_model.specs.Cells.Session as model
use Rattle.nd_model.specs.Arrays.Value as values
use Rattle.nd_heap.specs.Values.{base_of, names_of, value_of}
use Rattle.nd_heap.proofs.Loosening.{held_behind}
use Rattle.nd_heap.proofs.NameLists.{held_from}
use Rattle.nd_heap.proofs.names.is_held.Goals as goal

pub returns-then-lies_in : goal.returns-then-lies_in
returns-then-lies_in c =
    let lies = sym (ap (λ v. values.lies_in (base_of c.args.base) (value_of v)) c.as_ref.ensures) ∙ sym c.lies_in.ensures ∙ c.if-lies_in.true in
    sym (held_behind (base_of c.args.base) c.args.names.now.entries (c.loop-i.i - 1) (held_from (base_of c.args.base) c.args.names.now.entries (c.loop-i.i - 1) _ (sym c.in-Some.ensures.entry)
    ∙ ap (λ l. l || model.is_held (base_of c.args.base) (names_of (drop (c.loop-i.i - 1 + 1) c.args.names.now.entries))) lies))

pub loop-i-preserved : goal.loop-i-preserved
loop-i-preserved c =
    let lies = sym (ap (λ v. values.lies_in (base_of c.args.base) (value_of v)) c.as_ref.ensures) ∙ sym c.lies_in.ensures ∙ c.if-lies_in.false in
    let next : c.loop-i.i - 1 + 1 ≡ c.loop-i.i = omega (arith, c.loop-i-test.true) in
    held_from (base_of c.args.base) c.args.names.now.entries (c.loop-i.i - 1) _ (sym c.in-Some.ensures.entry)
    ∙ ap (λ l. l || model.is_held (base_of c.args.base) (names_of (drop (c.loop-i.i - 1 + 1) c.args.names.now.entries))) lies
    ∙ ap (λ j. model.is_held (base_of c.args.base) (names_of (drop j c.args.names.now.entries))) next ∙ c.loop-i.invariant
