use Rattle.std.proofs.Common.{rules, ◌≡◌, ℕ, List, [], ◌∷◌, map, ap, ◌∙◌}
use Rattle.std.specs.Prelude.{slice_index}
use Rattle.std.specs.Int.{w128}
use Rattle.std.specs.Int.RustNames.{FitsSigned}
use Rattle.std.proofs.lemmas.Int.{to_z-of_z}
use Rattle.nd_model.specs.Arrays.Tuple.{count_up}
use Rattle.nd_element.proofs.Structures.{of_rest}
use Rattle.nd_element.proofs.canonical.number_past.Goals as goal

pub returns-clause-value : goal.returns-clause-value
returns-clause-value c =
    let fits : FitsSigned w128 c.value_at.result = search rules in
    let rest : List ℕ = c.bytes_from-rest.result.now in
    let run : (c.byte_at.result ∷ c.byte_at-2.result ∷ c.byte_at-3.result ∷ c.byte_at-4.result ∷ c.byte_at-5.result ∷ c.byte_at-6.result ∷ c.byte_at-7.result ∷ c.byte_at-8.result ∷ []) ≡ map (λ q. slice_index rest q) (count_up 0 8)
    = λ i. c.byte_at.ensures i ∷ c.byte_at-2.ensures i ∷ c.byte_at-3.ensures i ∷ c.byte_at-4.ensures i ∷ c.byte_at-5.ensures i ∷ c.byte_at-6.ensures i ∷ c.byte_at-7.ensures i ∷ c.byte_at-8.ensures i ∷ [] in
    to_z-of_z w128 c.value_at.result fits ∙ c.value_at.ensures.value
    ∙ of_rest c.args.elem c.args.bytes.now c.args.place _ (run ∙ ap (λ l. map (λ q. slice_index l q) (count_up 0 8)) c.bytes_from-rest.ensures)
