use Rattle.std.proofs.Common.{◌≡◌, ℕ, ◌*◌, ℤ, pos, ◌+ℤ◌, ◌*ℤ◌, FitsSigned, List, [], ◌∷◌, ap, ap₂, subst, ◌∙◌, arith, rules}
use Rattle.std.specs.Int.{w128}
use mir.Facts.{to_z-of_z}
use Rattle.nd_model.specs.Arrays.View.{Geo, One}
use Rattle.nd_model.specs.Arrays.Tuple.{elements_of, first_index}
use Rattle.nd_model.specs.Arrays.Content.{Content, Num, array_bytes}
use Rattle.nd_model.specs.Cells.Operation.{fresh_array}
use Rattle.nd_operation.specs.declared.operators.operand.New.TheVariants.{Array}
use Rattle.nd_operation.specs.Operators.New.{given}
use Rattle.nd_operation.proofs.operators.Creating.{gives_array}
use Rattle.nd_operation.proofs.operators.ranges.new_range.Goals as goal

abbrev numbers : ℤ → ℤ → List ℕ → Content
numbers start step i = Num (start +ℤ (pos (first_index i) *ℤ step))

pub returns : goal.returns
returns c =
    let t = One c.args.elem in
    let n = c.args.count in
    let r = c.args.bounds in
    let start : FitsSigned w128 r.start = search rules in
    let step : FitsSigned w128 r.step = search rules in
    let once : n * 1 ≡ n = omega arith in
    let all = c.count.ensures.elements ∙ ap (λ (g : Geo). elements_of g.shape) c.in_ok-view.ensures ∙ once in
    let bytes = c.in_ok-block.ensures
    ∙ ap₂ (λ a b. array_bytes t (c.count.result ∷ []) (numbers a b)) (to_z-of_z start) (to_z-of_z step)
    ∙ ap (λ k. array_bytes t (k ∷ []) (numbers r.start r.step)) all in
    subst (λ k. fresh_array t (k ∷ []) (numbers r.start r.step) ≡ given (Array c.in_ok-view.view c.in_ok-block.block)) c.requires.count
    (gives_array t (n ∷ []) (numbers r.start r.step) c.in_ok-view.view c.in_ok-block.block c.requires.limits c.in_ok-view.ensures bytes)
