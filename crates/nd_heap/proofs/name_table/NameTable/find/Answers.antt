use Rattle.std.proofs.Common.{◌≡◌, ◌∙◌, sym, ap, unwrap_or, Some, None}
use Rattle.nd_model.specs.Cells.Session.{Names, lookup}
use Rattle.nd_heap.specs.Values.{names_of, value_of}
use Rattle.nd_heap.specs.Sharing.{held_in}
use Rattle.nd_heap.proofs.Layering.{found_old, found_added}
use Rattle.nd_heap.proofs.name_table.NameTable.find.Goals as goal

pub returns-in_default : goal.returns-in_default
returns-in_default c =
    let i = c.self.inside in
    let n = c.args.name.now in
    let lacks : lookup n (names_of (held_in i.shared).entries) ≡ None = ap (λ m. lookup n (names_of m.entries)) (sym c.as_ref.ensures) ∙ sym c.in_default.ensures in
    c.find-in_default.ensures ∙ sym (found_added n (names_of i.newer.entries) (names_of (held_in i.shared).entries) (names_of i.added.entries) lacks) ∙ ap (λ (ns : Names). lookup n ns) c.self.view_is

pub returns-in-Some-find : goal.returns-in-Some-find
returns-in-Some-find c =
    let i = c.self.inside in
    let n = c.args.name.now in
    let v = value_of c.in-Some.value.now.value in
    let there : lookup n (names_of (held_in i.shared).entries) ≡ Some v = ap (λ m. lookup n (names_of m.entries)) (sym c.as_ref.ensures) ∙ sym c.in-Some.ensures in
    sym (found_old n (names_of i.newer.entries) (names_of (held_in i.shared).entries) (names_of i.added.entries) v there ∙ ap (λ o. Some (unwrap_or o v)) (sym c.in-Some-find.ensures)) ∙ ap (λ (ns : Names). lookup n ns) c.self.view_is

pub returns-in-None : goal.returns-in-None
returns-in-None c =
    let i = c.self.inside in
    let n = c.args.name.now in
    let v = value_of c.in-Some.value.now.value in
    let there : lookup n (names_of (held_in i.shared).entries) ≡ Some v = ap (λ m. lookup n (names_of m.entries)) (sym c.as_ref.ensures) ∙ sym c.in-Some.ensures in
    sym (found_old n (names_of i.newer.entries) (names_of (held_in i.shared).entries) (names_of i.added.entries) v there ∙ ap (λ o. Some (unwrap_or o v)) (sym c.in-None.ensures)) ∙ ap (λ (ns : Names). lookup n ns) c.self.view_is
