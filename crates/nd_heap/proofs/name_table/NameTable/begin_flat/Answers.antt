use Rattle.std.proofs.Common.{◌≡◌, ◌∙◌, ◌++◌, length, take, sym, ap}
use Rattle.nd_model.specs.Cells.Session.{Names}
use Rattle.nd_heap.specs.Layers.{overridden}
use Rattle.nd_heap.specs.Values.{names_of}
use Rattle.nd_heap.specs.Sharing.{held_in}
use Rattle.nd_heap.proofs.Layering.{length-overridden, newer_front}
use Rattle.nd_heap.proofs.NameLists.{cloned_names, names-length}
use Rattle.nd_heap.proofs.name_table.NameTable.begin_flat.Goals as goal

pub returns : goal.returns
returns c =
    let i = c.self.inside in let old : Names = names_of (held_in i.shared).entries in let newer : Names = names_of i.newer.entries in let flat = c.reserve.new.self.entries in
    let copied : names_of c.in_ok-flat.flat.entries ≡ old = cloned_names _ _ c.in_ok-flat.ensures.cases ∙ ap (λ m. names_of m.entries) c.as_ref.ensures in
    let put : names_of flat ≡ overridden newer old = ap names_of c.reserve.ensures.entries ∙ c.in_ok-put_newer.ensures ∙ ap (overridden newer) copied in
    put ∙ sym (newer_front newer old (names_of i.added.entries)) ∙ ap (λ k. take k (overridden newer old ++ names_of i.added.entries)) (sym (length-overridden newer old) ∙ sym (ap (λ (ns : Names). length ns) put) ∙ names-length flat)
    ∙ ap (take (length flat)) c.self.view_is
