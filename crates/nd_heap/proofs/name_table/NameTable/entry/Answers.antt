use Rattle.std.proofs.Common.{◌≡◌, ◌∙◌, ◌-◌, ◌+◌, ◌≤◌, sym, ap, subst, length, slice_get, option_map, unwrap_or, Some, ℕ, List, Global, arith}
use Rattle.std.specs.Rc.{rc_str_bytes}
use Rattle.std.specs.declared.rc.RcStr.{RcStr}
use Rattle.nd_model.specs.Cells.Session.{Names, lookup}
use Rattle.nd_model.specs.Arrays.Value as model
use Rattle.nd_heap.specs.Values.{names_of, value_of}
use Rattle.nd_heap.specs.Sharing.{held_in}
use Rattle.nd_heap.proofs.Layering.{added_there, length-layers, old_there}
use Rattle.nd_heap.proofs.Plain.{false_true}
use Rattle.nd_heap.proofs.NameLists.{SharedValue, names-length, names-get}
use Rattle.nd_heap.proofs.name_table.NameTable.entry.Goals as goal

abbrev pair : RcStr Global × SharedValue → List ℕ × model.Value
pair e = (rc_str_bytes e.0, value_of e.1.value)

pub unreachable-requires : goal.unreachable-requires
unreachable-requires c =
    let i = c.self.inside in
    let many : c.len-many.result ≡ length (names_of (held_in i.shared).entries) = c.len-many.ensures.len ∙ ap (λ m. length m.entries) c.as_ref.ensures ∙ sym (names-length (held_in i.shared).entries) in
    let added : length (names_of i.added.entries) ≡ length i.added.entries = names-length i.added.entries in
    let all : length c.args.self.now ≡ length (names_of (held_in i.shared).entries) + length (names_of i.added.entries) = sym (ap (λ (ns : Names). length ns) c.self.view_is) ∙ length-layers (names_of i.newer.entries) (names_of (held_in i.shared).entries) (names_of i.added.entries) in
    false_true (c.in_default.ensures.found.1 (omega (arith, c.requires, c.if-place-many.true)))

pub returns-then-place-many : goal.returns-then-place-many
returns-then-place-many c =
    let i = c.self.inside in
    let old = names_of (held_in i.shared).entries in
    let many : c.len-many.result ≡ length old = c.len-many.ensures.len ∙ ap (λ m. length m.entries) c.as_ref.ensures ∙ sym (names-length (held_in i.shared).entries) in
    sym (ap (λ (ns : Names). slice_get ns c.args.place) c.self.view_is) ∙ added_there (names_of i.newer.entries) old (names_of i.added.entries) c.args.place (subst (λ k. k ≤ c.args.place) many c.if-place-many.true)
    ∙ ap (λ k. slice_get (names_of i.added.entries) (c.args.place - k)) (sym many) ∙ names-get i.added.entries (c.args.place - c.len-many.result)
    ∙ ap (option_map pair) (sym c.in-Some.ensures.entry)

pub returns-in-Some-find : goal.returns-in-Some-find
returns-in-Some-find c =
    let i = c.self.inside in
    let old = names_of (held_in i.shared).entries in
    let newer = names_of i.newer.entries in
    let n = rc_str_bytes c.in-Some-get_index.name.now in
    let v = value_of c.in-Some-get_index.value.now.value in
    let there : slice_get old c.args.place ≡ Some (n, v) = names-get (held_in i.shared).entries c.args.place ∙ ap (λ m. option_map pair (slice_get m.entries c.args.place)) (sym c.as_ref-2.ensures) ∙ ap (option_map pair) (sym c.in-Some-get_index.ensures.entry) in
    let found : lookup n newer ≡ Some (value_of c.in-Some-find.newer.now.value) = ap (λ n. lookup n newer) (sym c.as_str.ensures.value) ∙ sym c.in-Some-find.ensures in
    sym (ap (λ (ns : Names). slice_get ns c.args.place) c.self.view_is) ∙ old_there newer old (names_of i.added.entries) c.args.place (n, v) there ∙ ap (λ o. Some (n, unwrap_or o v)) found

pub returns-in-None : goal.returns-in-None
returns-in-None c =
    let i = c.self.inside in
    let old = names_of (held_in i.shared).entries in
    let newer = names_of i.newer.entries in
    let n = rc_str_bytes c.in-Some-get_index.name.now in
    let v = value_of c.in-Some-get_index.value.now.value in
    let there : slice_get old c.args.place ≡ Some (n, v) = names-get (held_in i.shared).entries c.args.place ∙ ap (λ m. option_map pair (slice_get m.entries c.args.place)) (sym c.as_ref-2.ensures) ∙ ap (option_map pair) (sym c.in-Some-get_index.ensures.entry) in
    sym (ap (λ (ns : Names). slice_get ns c.args.place) c.self.view_is) ∙ old_there newer old (names_of i.added.entries) c.args.place (n, v) there
    ∙ ap (λ o. Some (n, unwrap_or o v)) (ap (λ n. lookup n newer) (sym c.as_str.ensures.value) ∙ sym c.in-None.ensures)
