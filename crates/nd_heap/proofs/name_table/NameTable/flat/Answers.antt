use Rattle.std.proofs.Common.{◌≡◌, ◌∙◌, sym, ap, ap₂, subst, slice_get, Some}
use Rattle.std.specs.Rc.{rc_str_bytes}
use Rattle.nd_heap.specs.Layers.{AreDistinctNames}
use Rattle.nd_heap.specs.Values.{names_of, value_of}
use Rattle.nd_heap.proofs.Layering.{bind_next}
use Rattle.nd_heap.proofs.name_table.NameTable.flat.Goals as goal

pub loop-i-preserved : goal.loop-i-preserved
loop-i-preserved c =
    let n = rc_str_bytes c.in_ok-clone.field-0 in
    let v = value_of c.in_ok-clone-2.field-0.value in
    let there : slice_get c.args.self.now c.loop-i.i ≡ Some (n, v) = c.entry.ensures ∙ ap₂ (λ n v. Some (n, v)) (sym c.in_ok-clone.ensures.cases) (ap value_of (sym c.in_ok-clone-2.ensures.cases)) in
    c.in_ok-insert.ensures.ok ∙ bind_next c.args.self.now (names_of c.loop-i.flat.entries) c.loop-i.i n v (subst AreDistinctNames c.self.view_is c.self.invariant.0) there c.loop-i.invariant
