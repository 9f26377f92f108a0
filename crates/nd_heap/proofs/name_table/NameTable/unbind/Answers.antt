use Rattle.std.proofs.Common.{◌≡◌, ◌∙◌, ◌++◌, sym, ap, subst, Bor, None}
use Rattle.nd_model.specs.Cells.Session as model
use Rattle.nd_model.specs.Cells.Session.{Names}
use Rattle.nd_heap.specs.Layers.{overridden, AreDistinctNames}
use Rattle.nd_heap.specs.Values.{names_of, value_of}
use Rattle.nd_heap.specs.Sharing.{held_in}
use Rattle.nd_heap.proofs.Layering.{unbind_added, distinct_unbind, lacks_is, loses}
use Rattle.nd_heap.proofs.NameLists.{SharedValue}
use Rattle.nd_heap.proofs.name_table.NameTable.unbind.Goals as goal

pub returns-then-is_some-clause-holders : goal.returns-then-is_some-clause-holders
returns-then-is_some-clause-holders c = loses c.args.name.now c.args.self.now _ (subst AreDistinctNames c.self.view_is c.self.invariant.0) c.in_ok-unbind_shared.ensures.ok

pub invariant_of-self : goal.invariant_of-self
invariant_of-self c =
    let i = c.self.inside in
    let n = c.args.name.now in
    let lacks : model.lookup n (names_of (held_in i.shared).entries) ≡ None = ap (λ m. model.lookup n (names_of m.entries)) (sym c.as_ref.ensures) ∙ lacks_is (λ (v : Bor SharedValue). value_of v.now.value) c.find.result _ c.is_some.result c.find.ensures c.is_some.ensures c.if-is_some.false in
    let is = ap (λ t. overridden (names_of i.newer.entries) (names_of (held_in i.shared).entries) ++ t) c.remove.ensures ∙ unbind_added n (names_of i.newer.entries) (names_of (held_in i.shared).entries) (names_of i.added.entries) lacks in
    (subst AreDistinctNames (sym is) (distinct_unbind n _ c.self.invariant.0), c.self.invariant.1)

pub returns-clause-ok : goal.returns-clause-ok
returns-clause-ok c =
    let i = c.self.inside in
    let n = c.args.name.now in
    let lacks : model.lookup n (names_of (held_in i.shared).entries) ≡ None = ap (λ m. model.lookup n (names_of m.entries)) (sym c.as_ref.ensures) ∙ lacks_is (λ (v : Bor SharedValue). value_of v.now.value) c.find.result _ c.is_some.result c.find.ensures c.is_some.ensures c.if-is_some.false in
    ap (λ t. overridden (names_of i.newer.entries) (names_of (held_in i.shared).entries) ++ t) c.remove.ensures ∙ unbind_added n (names_of i.newer.entries) (names_of (held_in i.shared).entries) (names_of i.added.entries) lacks
    ∙ ap (λ (ns : Names). model.unbind n ns) c.self.view_is

pub returns-clause-holders : goal.returns-clause-holders
returns-clause-holders c =
    let i = c.self.inside in
    let n = c.args.name.now in
    let lacks : model.lookup n (names_of (held_in i.shared).entries) ≡ None = ap (λ m. model.lookup n (names_of m.entries)) (sym c.as_ref.ensures) ∙ lacks_is (λ (v : Bor SharedValue). value_of v.now.value) c.find.result _ c.is_some.result c.find.ensures c.is_some.ensures c.if-is_some.false in
    loses n c.args.self.now _ (subst AreDistinctNames c.self.view_is c.self.invariant.0)
    (ap (λ t. overridden (names_of i.newer.entries) (names_of (held_in i.shared).entries) ++ t) c.remove.ensures ∙ unbind_added n (names_of i.newer.entries) (names_of (held_in i.shared).entries) (names_of i.added.entries) lacks
    ∙ ap (λ (ns : Names). model.unbind n ns) c.self.view_is)
