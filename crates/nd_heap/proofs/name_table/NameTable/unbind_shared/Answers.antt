use Rattle.std.proofs.Common.{◌≡◌, ◌∙◌, ◌++◌, [], refl, sym, ap, subst, arith}
use Rattle.nd_model.specs.Cells.Session as model
use Rattle.nd_model.specs.Cells.Session.{Names}
use Rattle.nd_heap.specs.Layers.{overridden, AreDistinctNames, AreMarked}
use Rattle.nd_heap.specs.Values.{names_of}
use Rattle.nd_heap.specs.Sharing.{held_in}
use Rattle.nd_heap.proofs.Bases.{at_err}
use Rattle.nd_heap.proofs.Layering.{distinct_unbind, only_layer}
use Rattle.nd_heap.proofs.Marks.{none_marked}
use Rattle.nd_heap.proofs.Plain.{no_entries}
use Rattle.nd_heap.proofs.name_table.NameTable.unbind_shared.Goals as goal

pub hold-requires : goal.hold-requires
hold-requires c = subst AreDistinctNames (sym (c.remove.ensures ∙ ap (model.unbind c.args.name.now) c.in_ok-flat.ensures)) (distinct_unbind c.args.name.now c.args.self.now (subst AreDistinctNames c.self.view_is c.self.invariant.0))

pub returns-then-len-gt0-clause-ok : goal.returns-then-len-gt0-clause-ok
returns-then-len-gt0-clause-ok c = c.in_ok-hold.ensures.ok ∙ c.remove.ensures ∙ ap (model.unbind c.args.name.now) c.in_ok-flat.ensures

pub invariant_of-self-2 : goal.invariant_of-self-2
invariant_of-self-2 c =
    let i = c.self.inside in
    let newer : i.newer.entries ≡ [] = no_entries i.newer.entries (omega (arith, c.if-len-gt0.false, c.len.ensures.len, c.len-2.ensures.len)) in
    let added : i.added.entries ≡ [] = no_entries i.added.entries (omega (arith, c.if-len-gt0.false, c.len.ensures.len, c.len-2.ensures.len)) in
    let was = only_layer (names_of i.newer.entries) (names_of (held_in i.shared).entries) (names_of i.added.entries) _ (ap names_of newer) refl (ap names_of added) in (
      subst AreDistinctNames (sym (only_layer (names_of i.newer.entries) (names_of (held_in c.unbind.new.names).entries) (names_of i.added.entries) _ (ap names_of newer) c.in_ok-unbind.ensures.ok (ap names_of added)))
          (distinct_unbind c.args.name.now _ (subst AreDistinctNames was c.self.invariant.0)),
      subst (AreMarked (names_of (held_in c.unbind.new.names).entries)) (sym c.new.ensures.items) (none_marked (names_of (held_in c.unbind.new.names).entries)),
    )

pub returns-clause-ok : goal.returns-clause-ok
returns-clause-ok c =
    let i = c.self.inside in
    let newer : i.newer.entries ≡ [] = no_entries i.newer.entries (omega (arith, c.if-len-gt0.false, c.len.ensures.len, c.len-2.ensures.len)) in
    let added : i.added.entries ≡ [] = no_entries i.added.entries (omega (arith, c.if-len-gt0.false, c.len.ensures.len, c.len-2.ensures.len)) in
    let was = only_layer (names_of i.newer.entries) (names_of (held_in i.shared).entries) (names_of i.added.entries) _ (ap names_of newer) refl (ap names_of added) in
    only_layer (names_of i.newer.entries) (names_of (held_in c.unbind.new.names).entries) (names_of i.added.entries) _ (ap names_of newer) c.in_ok-unbind.ensures.ok (ap names_of added)
    ∙ ap (model.unbind c.args.name.now) (sym was ∙ c.self.view_is)

pub invariant_of-self : goal.invariant_of-self
invariant_of-self c = (subst (λ ns. AreDistinctNames (overridden (names_of c.self.inside.newer.entries) ns ++ names_of c.self.inside.added.entries)) (sym (at_err _ _ c.in_err-unbind.was c.unbind.ensures.err)) c.self.invariant.0, subst (λ ns. AreMarked ns (held_in c.self.inside.marks).items) (sym (at_err _ _ c.in_err-unbind.was c.unbind.ensures.err)) c.self.invariant.1)
