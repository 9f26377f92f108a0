use Rattle.std.proofs.Common.{◌∙◌, ◌+◌, sym, ap, ap₂, length}
use Rattle.nd_model.specs.Cells.Session.{Names}
use Rattle.nd_heap.specs.Values.{names_of}
use Rattle.nd_heap.specs.Sharing.{held_in}
use Rattle.nd_heap.proofs.Layering.{length-layers}
use Rattle.nd_heap.proofs.NameLists.{names-length}
use Rattle.nd_heap.proofs.name_table.NameTable.len.Goals as goal

pub returns : goal.returns
returns c =
    let i = c.self.inside in
    ap₂ (λ m n. m + n) (c.len.ensures.len ∙ ap (λ m. length m.entries) c.as_ref.ensures ∙ sym (names-length (held_in i.shared).entries)) (c.len-2.ensures.len ∙ sym (names-length i.added.entries))
    ∙ sym (length-layers (names_of i.newer.entries) (names_of (held_in i.shared).entries) (names_of i.added.entries)) ∙ ap (λ (ns : Names). length ns) c.self.view_is
