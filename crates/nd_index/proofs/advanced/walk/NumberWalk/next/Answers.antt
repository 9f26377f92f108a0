use Rattle.std.proofs.Common.{◌+◌, ◌<◌, ℕ, ℤ, ◌∷◌, ◌++◌, map, length, drop, sym, ap, ◌∙◌, arith, rules}
use Rattle.std.specs.Int.{w128}
use Rattle.std.specs.Int.RustNames.{FitsSigned}
use Rattle.std.specs.List.{concat}
use Rattle.std.proofs.lemmas.Int.{to_z-of_z}
use Rattle.nd_model.specs.Arrays.Content.{number_at}
use Rattle.nd_index.specs.Advanced.Walks.{places_in}
use Rattle.nd_index.proofs.advanced.Walks.{in_run, behind_run}
use Rattle.nd_index.proofs.advanced.walk.NumberWalk.next.Goals as goal

pub returns-in-Some : goal.returns-in-Some
returns-in-Some c =
    let w = c.self.inside in
    let f : ℕ → ℤ = number_at w.elem w.bytes.now in
    let fits : FitsSigned w128 c.number_in.result = search rules in
    let here = to_z-of_z w128 c.number_in.result fits ∙ c.number_in.ensures ∙ ap f c.in-Some.ensures.1 in
    sym c.self.view_is ∙ in_run f (places_in w.run) (concat w.runs) w.done c.in-Some.ensures.0
    ∙ ap (λ z. z ∷ map f (drop (w.done + 1) (places_in w.run) ++ concat w.runs)) (sym here)

pub returns : goal.returns
returns c =
    let w = c.self.inside in
    let f : ℕ → ℤ = number_at w.elem w.bytes.now in
    let run = c.in-Some-next.run' in let rest = concat c.next.new.self in
    let some : 0 < length run = omega (arith, c.count-count.ensures.value, c.count-count.ensures.some) in
    let fits : FitsSigned w128 c.number_in-number.result = search rules in
    let here = to_z-of_z w128 c.number_in-number.result fits ∙ c.number_in-number.ensures ∙ ap f c.start.ensures in
    sym c.self.view_is ∙ behind_run f (places_in w.run) (concat w.runs) w.done c.in_default.ensures ∙ ap (λ rs. map f (concat rs)) c.in-Some-next.ensures
    ∙ in_run f run rest 0 some ∙ ap (λ z. z ∷ map f (drop 1 run ++ rest)) (sym here)
