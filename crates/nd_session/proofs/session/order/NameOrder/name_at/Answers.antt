use Rattle.std.proofs.Common.{◌≡◌, ◌∙◌, ℕ, List, Some, length, slice_get, sym, ap, arith}
use Rattle.nd_heap.proofs.Plain.{false_true}
use Rattle.nd_session.proofs.session.Ordering.{length-order, order_at}
use Rattle.nd_session.proofs.session.order.NameOrder.name_at.Goals as goal

pub unreachable-requires : goal.unreachable-requires
unreachable-requires c =
    let es = c.self.inside.names.entries in
    let all : length c.args.self.now ≡ length es = sym (ap (λ (ns : List (List ℕ)). length ns) c.self.view_is) ∙ length-order es in
    false_true (c.in_default.ensures.found.1 (omega (arith, c.requires, all)))

pub returns : goal.returns
returns c =
    let es = c.self.inside.names.entries in
    ap (λ (ns : List (List ℕ)). slice_get ns c.args.place) (sym c.self.view_is) ∙ order_at es c.args.place (c.in-Some.name.now, c.in-Some.field-0-1.now) (sym c.in-Some.ensures.entry) ∙ ap Some (sym c.as_str.ensures.value)
