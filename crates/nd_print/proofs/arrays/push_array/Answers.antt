use Rattle.std.proofs.Common.{◌≡◌, length, ap, ◌∙◌, subst, sym}
use Rattle.std.specs.List.{All}
use Rattle.nd_model.specs.Arrays.Runs.{last_length}
use Rattle.nd_print.proofs.Nested.{even_rows}
use Rattle.nd_print.proofs.arrays.push_array.Goals as goal

pub push_nested-requires-clause-rows : goal.push_nested-requires-clause-rows
push_nested-requires-clause-rows c =
    let all : All (λ row. length row ≡ last_length c.args.view.now.shape) c.rows-rows.result
    = subst (All (λ row. length row ≡ last_length c.args.view.now.shape)) (sym c.rows-rows.ensures.value) (even_rows c.args.view.now.shape c.args.view.now.places) in
    λ k d lt. all k d lt ∙ ap last_length (sym c.shape-2.ensures.value)
