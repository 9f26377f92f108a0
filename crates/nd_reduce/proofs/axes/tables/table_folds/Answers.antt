use Rattle.std.proofs.lemmas.Grind.{common_steps}
use Rattle.std.proofs.Common.{◌≡◌, ℕ, ℤ, ◌*◌, List, sym, ap, ◌∙◌, subst, arith}
use Rattle.std.specs.Prelude.{slice_index_or}
use Rattle.std.specs.List.{All}
use Rattle.std.proofs.lemmas.List.Elements.{All-map}
use Rattle.nd_model.specs.Arrays.Content.{number_at}
use Rattle.nd_model.specs.Arrays.Element.{Kind, IsValue, size_of}
use Rattle.nd_types.specs.Kinds.{kind_of}
use Rattle.nd_element.specs.Elements.{numbers_at}
use Rattle.nd_ufunc.proofs.loops.Ranges.{in_range}
use Rattle.nd_reduce.specs.Axes.Tables.{rows_kept}
use Rattle.nd_reduce.proofs.axes.tables.table_folds.Goals as goal

pub fold_tables-requires-clause-values : goal.fold_tables-requires-clause-values
fold_tables-requires-clause-values g c =
    let e = c.args.elem in let bytes = c.args.bytes.now in let places : List ℕ = c.args.view.now.places in
    let valid : All (λ z. IsValue e.kind z) (numbers_at e bytes places)
    = All-map (λ z. IsValue e.kind z) (number_at e bytes) places (λ k d lt. in_range e bytes (λ i. omega (arith, c.type_inv.bytes i)) (slice_index_or places k d)) in
    subst (λ (k : Kind). All (λ z. IsValue k z) c.new-numbers.result.numbers) (sym c.kind-kind.ensures)
    (subst (λ (l : List ℤ). All (λ z. IsValue e.kind z) l) (sym c.new-numbers.ensures.numbers) valid)

pub fold_tables-requires-clause-room : goal.fold_tables-requires-clause-room
fold_tables-requires-clause-room g c =
    let s = size_of (kind_of c.args.to) in let kept : ℕ = rows_kept c.args.each c.args.rows in
    let turned : c.args.tables * (kept * (c.args.width * s)) ≡ c.args.tables * (kept * c.args.width) * s = omega arith in
    turned ∙ ap (λ m. m * s) (sym c.requires.count) ∙ ap (λ m. c.args.count * m) (sym c.size-size.ensures.value) ∙ sym c.in_ok-out.ensures.1

pub overflow_mul-count : goal.overflow_mul-count
overflow_mul-count g c = grind (arith, common_steps)

pub fold_tables-requires-clause-folds : goal.fold_tables-requires-clause-folds
fold_tables-requires-clause-folds g c = grind (arith, common_steps)

pub fold_tables-requires-clause-bests : goal.fold_tables-requires-clause-bests
fold_tables-requires-clause-bests g c = grind (arith, common_steps)
