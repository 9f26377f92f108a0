use Rattle.std.proofs.Common.{◌≡◌, ◌≤◌, ◌∙◌, sym, ap, ap₂, length, slice_get, option_map, Some, Bor, List, ℕ, Global, arith}
use Rattle.std.proofs.lemmas.List.{take_all}
use Rattle.std.specs.Rc.{rc_str_bytes}
use Rattle.std.specs.declared.rc.RcStr.{RcStr}
use Rattle.nd_model.specs.Arrays.Value as model
use Rattle.nd_model.specs.Cells.Session.{Names, bind, lookup}
use Rattle.nd_heap.specs.Layers.{overridden}
use Rattle.nd_heap.specs.Values.{names_of, value_of}
use Rattle.nd_heap.proofs.Below.{has_none, has_some}
use Rattle.nd_heap.proofs.Layering.{is_none, is_there, none_newer, pass_next, put_next}
use Rattle.nd_heap.proofs.NameLists.{SharedValue, distinct_names, names-get, names-length}
use Rattle.nd_heap.proofs.names.put_newer.Goals as goal

abbrev pair : RcStr Global × SharedValue → List ℕ × model.Value
pair e = (rc_str_bytes e.0, value_of e.1.value)

pub loop-i-init : goal.loop-i-init
loop-i-init c = none_newer (names_of c.args.names.now.entries)

pub loop-i-preserved-then-is_none : goal.loop-i-preserved-then-is_none
loop-i-preserved-then-is_none c =
    let newer = c.args.newer.now.entries in
    let n = rc_str_bytes c.in-Some.name.now in
    let v = value_of c.in-Some.value.now.value in
    let there : slice_get (names_of newer) c.loop-i.i ≡ Some (n, v) = names-get newer c.loop-i.i ∙ ap (option_map pair) (sym c.in-Some.ensures.entry) in
    let found = c.find.ensures ∙ ap (λ n. lookup n (names_of c.loop-i.names.entries)) c.as_str.ensures.value in
    pass_next (names_of newer) (names_of c.args.names.now.entries) (names_of c.loop-i.names.entries) c.loop-i.i n v (distinct_names newer c.get_index_of-2.ensures.unique) there c.loop-i.invariant
    (is_none _ (has_none (λ (v : Bor SharedValue). value_of v.now.value) c.find.result _ c.is_none.result found c.is_none.ensures c.if-is_none.true))

pub loop-i-preserved : goal.loop-i-preserved
loop-i-preserved c =
    let newer = c.args.newer.now.entries in
    let n = rc_str_bytes c.in-Some.name.now in
    let v = value_of c.in-Some.value.now.value in
    let there : slice_get (names_of newer) c.loop-i.i ≡ Some (n, v) = names-get newer c.loop-i.i ∙ ap (option_map pair) (sym c.in-Some.ensures.entry) in
    let found = c.find.ensures ∙ ap (λ n. lookup n (names_of c.loop-i.names.entries)) c.as_str.ensures.value in
    let has = is_there _ (has_some (λ (v : Bor SharedValue). value_of v.now.value) c.find.result _ c.is_none.result found c.is_none.ensures c.if-is_none.false) in
    c.in_ok-insert.ensures.ok ∙ ap₂ (λ n v. bind n v (names_of c.loop-i.names.entries)) c.in_ok-clone.ensures.cases (ap value_of c.in_ok-clone-2.ensures.cases)
    ∙ put_next (names_of newer) (names_of c.args.names.now.entries) (names_of c.loop-i.names.entries) c.loop-i.i n v has.0 (distinct_names newer c.get_index_of-2.ensures.unique)
    (distinct_names c.args.names.now.entries c.get_index_of.ensures.unique) there c.loop-i.invariant has.1

pub returns : goal.returns
returns c =
    let newer = c.args.newer.now.entries in
    let all : length (names_of newer) ≤ c.loop-i.i = omega (arith, c.loop-i-test.false, c.len-i-end.ensures.len, names-length newer) in
    c.loop-i.invariant ∙ ap (λ (ns : Names). overridden ns (names_of c.args.names.now.entries)) (take_all c.loop-i.i (names_of newer) all)
