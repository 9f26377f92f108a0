use Rattle.std.proofs.Common.{◌≡◌, ℕ, ◌<◌, List, length, get_or, ap, ap₂, ◌∙◌}
use Rattle.std.proofs.Math.ListN.{set}
use Rattle.nd_print.specs.declared.columns.Column.{Column}
use Rattle.nd_print.specs.Columns.{wider_column}
use Rattle.nd_print.proofs.InPlace.{changed_at, changed_more}
use Rattle.nd_print.proofs.columns.widen_columns.Goals as goal

pub loop-index-preserved : goal.loop-index-preserved
loop-index-preserved c =
    let cs : List Column = c.args.columns.now in
    let i : ℕ = c.loop-index.index in
    let d : Column = c.index-columns-index.result in
    let f : Column → Column = wider_column c.args.element.now in
    let lt : i < length cs = c.loop-index-test.true in
    let value : c.widen_to.result ≡ f (get_or cs i d) = c.widen_to.ensures ∙ ap (λ l. f (get_or l i d)) c.loop-index.invariant ∙ ap f (changed_at f cs i d lt) in
    ap₂ (λ l v. set l i v) c.loop-index.invariant value ∙ changed_more f cs i d lt
