use Rattle.std.proofs.Common.{rules, ◌≡◌, ◌∙◌, sym, ap, subst, length, slice_get, option_map, Some, List, ℕ, Global}
use Rattle.std.specs.Rc.{rc_str_bytes}
use Rattle.std.specs.declared.rc.RcStr.{RcStr}
use Rattle.nd_model.specs.Arrays.Value as model
use Rattle.nd_heap.specs.Layers.{AreMarked}
use Rattle.nd_heap.specs.Values.{names_of, value_of}
use Rattle.nd_heap.proofs.Marks.{more, none_marked}
use Rattle.nd_heap.proofs.NameLists.{SharedValue, names-get}
use Rattle.nd_heap.proofs.names.marks_of.Goals as goal

abbrev pair : RcStr Global × SharedValue → List ℕ × model.Value
pair e = (rc_str_bytes e.0, value_of e.1.value)

pub loop-i-init : goal.loop-i-init
loop-i-init c = (ap length c.in_ok-marks.ensures.items, subst (AreMarked (names_of c.args.names.now.entries)) (sym c.in_ok-marks.ensures.items) (none_marked (names_of c.args.names.now.entries)))

pub loop-i-preserved : goal.loop-i-preserved
loop-i-preserved c =
    let names = c.args.names.now.entries in
    let there : slice_get (names_of names) c.loop-i.i ≡ Some (pair (c.in-Some.field-0-0.now, c.in-Some.value.now)) = names-get names c.loop-i.i ∙ ap (option_map pair) (sym c.in-Some.ensures.entry) in
    (search rules, subst (AreMarked (names_of names)) (sym c.in_ok-push.ensures.items) (more (names_of names) c.loop-i.marks.items c.loop-i.i _ c.value_mark.result c.loop-i.invariant.0 there (λ b lies. c.value_mark.ensures b (ap (λ v. model.lies_in b (value_of v)) c.as_ref.ensures ∙ lies)) c.loop-i.invariant.1))
