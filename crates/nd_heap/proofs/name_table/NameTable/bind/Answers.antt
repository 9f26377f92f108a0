use Rattle.std.proofs.Common.{◌∙◌, sym, ap, subst, Bor}
use Rattle.std.specs.Rc.{rc_str_bytes}
use Rattle.nd_model.specs.Cells.Session as model
use Rattle.nd_model.specs.Cells.Session.{Names}
use Rattle.nd_heap.specs.Layers.{AreDistinctNames}
use Rattle.nd_heap.specs.Values.{names_of, value_of}
use Rattle.nd_heap.specs.Sharing.{held_in}
use Rattle.nd_heap.proofs.Layering.{bind_newer, bind_more, distinct_bind, found_is, lacks_is}
use Rattle.nd_heap.proofs.NameLists.{SharedValue}
use Rattle.nd_heap.proofs.name_table.NameTable.bind.Goals as goal

pub returns-then-is_some-clause-ok : goal.returns-then-is_some-clause-ok
returns-then-is_some-clause-ok c =
    let i = c.self.inside in
    bind_newer (rc_str_bytes c.args.name) _ (value_of c.args.value.value) (names_of i.newer.entries) (names_of c.insert.new.names.entries) (names_of (held_in i.shared).entries) _ (names_of i.added.entries)
    c.as_str.ensures.value (ap (λ m. names_of m.entries) c.as_ref.ensures) c.in_ok-insert.ensures.ok c.self.invariant.0 (found_is (λ (v : Bor SharedValue). value_of v.now.value) c.find.result _ c.is_some.result c.find.ensures c.is_some.ensures c.if-is_some.true)
    ∙ ap (λ (ns : Names). model.bind (rc_str_bytes c.args.name) (value_of c.args.value.value) ns) c.self.view_is

pub invariant_of-self-then-is_some : goal.invariant_of-self-then-is_some
invariant_of-self-then-is_some c =
    let i = c.self.inside in (
      subst AreDistinctNames (sym (bind_newer (rc_str_bytes c.args.name) _ (value_of c.args.value.value) (names_of i.newer.entries) (names_of c.insert.new.names.entries) (names_of (held_in i.shared).entries) _ (names_of i.added.entries)
          c.as_str.ensures.value (ap (λ m. names_of m.entries) c.as_ref.ensures) c.in_ok-insert.ensures.ok c.self.invariant.0 (found_is (λ (v : Bor SharedValue). value_of v.now.value) c.find.result _ c.is_some.result c.find.ensures c.is_some.ensures c.if-is_some.true)))
          (distinct_bind (rc_str_bytes c.args.name) (value_of c.args.value.value) _ c.self.invariant.0),
      c.self.invariant.1,
    )

pub returns-clause-ok : goal.returns-clause-ok
returns-clause-ok c =
    let i = c.self.inside in
    bind_more (rc_str_bytes c.args.name) _ (value_of c.args.value.value) (names_of i.newer.entries) (names_of (held_in i.shared).entries) _ (names_of i.added.entries) (names_of c.insert-2.new.names.entries)
    c.as_str.ensures.value (ap (λ m. names_of m.entries) c.as_ref.ensures) c.in_ok-insert-2.ensures.ok (lacks_is (λ (v : Bor SharedValue). value_of v.now.value) c.find.result _ c.is_some.result c.find.ensures c.is_some.ensures c.if-is_some.false)
    ∙ ap (λ (ns : Names). model.bind (rc_str_bytes c.args.name) (value_of c.args.value.value) ns) c.self.view_is

pub invariant_of-self-2 : goal.invariant_of-self-2
invariant_of-self-2 c =
    let i = c.self.inside in (
      subst AreDistinctNames (sym (bind_more (rc_str_bytes c.args.name) _ (value_of c.args.value.value) (names_of i.newer.entries) (names_of (held_in i.shared).entries) _ (names_of i.added.entries) (names_of c.insert-2.new.names.entries)
          c.as_str.ensures.value (ap (λ m. names_of m.entries) c.as_ref.ensures) c.in_ok-insert-2.ensures.ok (lacks_is (λ (v : Bor SharedValue). value_of v.now.value) c.find.result _ c.is_some.result c.find.ensures c.is_some.ensures c.if-is_some.false)))
          (distinct_bind (rc_str_bytes c.args.name) (value_of c.args.value.value) _ c.self.invariant.0),
      c.self.invariant.1,
    )
