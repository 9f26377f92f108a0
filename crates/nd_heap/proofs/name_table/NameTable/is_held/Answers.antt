use Rattle.std.proofs.Common.{◌∙◌, sym, ap}
use Rattle.nd_model.specs.Cells.Session as model
use Rattle.nd_model.specs.Cells.Session.{Names}
use Rattle.nd_heap.specs.Layers.{overridden}
use Rattle.nd_heap.specs.Values.{base_of, names_of}
use Rattle.nd_heap.specs.Sharing.{held_in}
use Rattle.nd_heap.proofs.Layering.{held_added, unheld_added}
use Rattle.nd_heap.proofs.name_table.NameTable.is_held.Goals as goal

pub returns-then-is_held : goal.returns-then-is_held
returns-then-is_held c =
    let i = c.self.inside in
    let b = base_of c.args.base in
    sym (sym (ap (λ (ns : Names). model.is_held b ns) c.self.view_is) ∙ held_added b (names_of i.newer.entries) (names_of (held_in i.shared).entries) (names_of i.added.entries) (sym c.is_held.ensures ∙ c.if-is_held.true))

pub returns : goal.returns
returns c =
    let i = c.self.inside in
    let b = base_of c.args.base in
    c.is_held_below.ensures ∙ ap (λ m. model.is_held b (overridden (names_of i.newer.entries) (names_of m.entries))) c.as_ref-2.ensures
    ∙ sym (sym (ap (λ (ns : Names). model.is_held b ns) c.self.view_is) ∙ unheld_added b (names_of i.newer.entries) (names_of (held_in i.shared).entries) (names_of i.added.entries) (sym c.is_held.ensures ∙ c.if-is_held.false))
