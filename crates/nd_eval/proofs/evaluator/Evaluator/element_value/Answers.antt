use Rattle.std.proofs.Common.{refl, rules, ◌≡◌, ◌∙◌, ℤ, Ok, get_or, sym, ap, ap₂, to_z, of_z}
use Rattle.std.specs.Int.{w128}
use Rattle.std.specs.Int.RustNames.{FitsSigned}
use Rattle.std.proofs.lemmas.Int.{to_z-of_z}
use Rattle.nd_model.specs.Arrays.Element.{Kind}
use Rattle.nd_model.specs.Arrays.Value.{Scalar}
use Rattle.nd_model.specs.Cells.Running.{Running, Use, after}
use Rattle.nd_model.specs.Arrays.View.{One, element_places}
use Rattle.nd_model.specs.Cells.Evaluation.{run}
use Rattle.nd_model.specs.Arrays.Content.{number_at}
use Rattle.nd_model.specs.Cells.Operation as operation
use Rattle.nd_types.specs.Types.{type_of}
use Rattle.nd_heap.specs.Values.{base_of}
use Rattle.nd_session.specs.Inputs.Values.{inputs_of}
use Rattle.nd_session.specs.Session.Live.{live}
use Rattle.nd_operation.proofs.operators.Decoding.{used_alone}
use Rattle.nd_eval.proofs.evaluator.Evaluator.element_value.Goals as goal

pub returns-in_ok-mark_element-in-One : goal.returns-in_ok-mark_element-in-One
returns-in_ok-mark_element-in-One c =
    let i = inputs_of c.args.self.now.inputs.now.entries in
    let r = live c.args.self.now.session.now in
    let g = c.args.view in
    let b = base_of c.args.base in
    let e = c.in-One.elem in
    let p = c.place_of-place.result in
    let z : ℤ = c.number_in-number.result in
    let fits : FitsSigned w128 z = search rules in
    let typed : g.element ≡ One e = sym c.elem.ensures ∙ ap type_of c.in-One.is in
    let place : get_or g.places 0 0 ≡ p = sym c.place_of-place.ensures.value in
    let block : c.bytes.result.now ≡ r.bytes b = c.bytes.ensures ∙ ap (λ (q : Running). q.bytes b) c.in_ok-mark_element-in-One.ensures.after in
    let number : to_z w128 (of_z w128 z) ≡ number_at e (r.bytes b) p = to_z-of_z w128 z fits ∙ c.number_in-number.ensures ∙ ap (λ l. number_at e l p) block in (
      (λ j. run i (operation.element_of b g.writable (typed j) (place j)) r)
          ∙ ap (λ z. (Ok (Scalar e.kind z), after (Use b (element_places (One e) p)) r)) (used_alone e (r.bytes b) p ∙ sym number)
          ∙ ap₂ (λ (k : Kind) (s : Running). (Ok (Scalar k (to_z w128 (of_z w128 z))), s)) (sym c.kind.ensures) (sym c.in_ok-mark_element-in-One.ensures.after),
      (refl, refl),
    )
