use Rattle.std.proofs.Common.{◌∙◌, sym, subst}
use Rattle.nd_heap.specs.Layers.{AreDistinctNames, AreMarked}
use Rattle.nd_heap.specs.Values.{names_of}
use Rattle.nd_heap.specs.Sharing.{held_in}
use Rattle.nd_heap.proofs.Layering.{same_layers}
use Rattle.nd_heap.proofs.NameLists.{cloned_names}
use Rattle.nd_heap.proofs.name_table.NameTable.try_clone.Goals as goal

pub invariant_of-result : goal.invariant_of-result
invariant_of-result c =
    let i = c.self.inside in (
      subst AreDistinctNames (sym (same_layers (names_of i.newer.entries) (names_of c.in_ok-newer.newer.entries) (names_of (held_in i.shared).entries) (names_of (held_in c.in-Ok-share_old.shared).entries) (names_of i.added.entries) (names_of c.in-Ok.added.entries)
          (cloned_names _ _ c.in_ok-newer.ensures.cases) c.in-Ok-share_old.ensures.names (cloned_names _ _ c.in-Ok.ensures.cases))) c.self.invariant.0,
      subst (AreMarked (names_of (held_in c.in-Ok-share_old.shared).entries)) (sym c.in-Ok-share_old.ensures.marks) (subst (λ ns. AreMarked ns (held_in i.marks).items) (sym c.in-Ok-share_old.ensures.names) c.self.invariant.1),
    )

pub returns-in-Ok-share_old : goal.returns-in-Ok-share_old
returns-in-Ok-share_old c =
    let i = c.self.inside in
    same_layers (names_of i.newer.entries) (names_of c.in_ok-newer.newer.entries) (names_of (held_in i.shared).entries) (names_of (held_in c.in-Ok-share_old.shared).entries) (names_of i.added.entries) (names_of c.in-Ok.added.entries)
    (cloned_names _ _ c.in_ok-newer.ensures.cases) c.in-Ok-share_old.ensures.names (cloned_names _ _ c.in-Ok.ensures.cases) ∙ c.self.view_is
