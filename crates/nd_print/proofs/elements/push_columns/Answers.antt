use Rattle.std.proofs.Common.{◌≡◌, ℕ, ◌<◌, [], ◌∷◌, ◌++◌, List, map, length, string_bytes, get_or, take, sym, ap, ◌∙◌, arith, append_assoc}
use Rattle.nd_model.specs.Text.Text.{joined}
use Rattle.nd_print.specs.declared.columns.Column.{Column}
use Rattle.nd_print.specs.Texts.{column_text}
use Rattle.nd_print.proofs.Joining.{joined_first, joined_next, regroup}
use Rattle.nd_print.proofs.elements.push_columns.Goals as goal
use Rattle.nd_print.proofs.elements.push_columns.Goals.{then-index-gt0+in_ok-push_str, else-index-gt0}

pub loop-index-preserved : goal.loop-index-preserved
loop-index-preserved c =
    let cs : List Column = c.args.columns.now in
    let i : ℕ = c.loop-index.index in
    let d : Column = c.index-columns-index.result in
    let f : Column → List ℕ = column_text c.args.element.now in
    let comma : List ℕ = 44 ∷ 32 ∷ [] in
    let number : List ℕ = f (get_or cs i d) in
    let before : List ℕ = string_bytes c.args.line.now in
    let front : List ℕ = joined comma (map f (take i cs)) in
    let lt : i < length cs = c.loop-index-test.true in
    let added : string_bytes c.push_column.new.line ≡ string_bytes c.if-index-gt0.line ++ number = c.in_ok-push_column.ensures ∙ ap (λ x. string_bytes c.if-index-gt0.line ++ f x) c.index-columns-index.is in
    elim c.if-index-gt0.branch [
      | then-index-gt0+in_ok-push_str w ↦
          added ∙ ap (λ s. string_bytes s ++ number) w.line-is
          ∙ ap (λ s. s ++ number) (w.in_ok-push_str.ensures.bytes ∙ ap (λ s. s ++ comma) c.loop-index.invariant)
          ∙ regroup before front comma number
          ∙ ap (λ s. before ++ s) (sym (joined_next comma f cs i d (omega arith) lt))
      | else-index-gt0 w ↦
          added ∙ ap (λ s. string_bytes s ++ number) w.line-is ∙ ap (λ s. s ++ number) c.loop-index.invariant
          ∙ append_assoc before front number
          ∙ ap (λ s. before ++ s) (sym (joined_first comma f cs i d (omega arith) lt))
    ]
