use Rattle.std.proofs.Common.{◌≡◌, ℕ, ◌<◌, [], ◌∷◌, ◌++◌, List, map, length, string_bytes, get_or, take, sym, ap, ◌∙◌, arith, append_assoc}
use Rattle.nd_model.specs.Text.Text.{joined}
use Rattle.nd_print.specs.Texts.{element_text, text_at}
use Rattle.nd_print.proofs.Joining.{joined_first, joined_next, regroup}
use Rattle.nd_print.proofs.arrays.push_row.Goals as goal
use Rattle.nd_print.proofs.arrays.push_row.Goals.{then-number-gt0+in_ok-push-2, else-number-gt0}

pub loop-number-preserved : goal.loop-number-preserved
loop-number-preserved c =
    let ps : List ℕ = c.args.run.now in
    let i : ℕ = c.loop-number.number in
    let f : ℕ → List ℕ = text_at c.args.layout.now.is_structure c.args.layout.now.columns.items c.args.bytes.now in
    let blank : List ℕ = 32 ∷ [] in
    let element : List ℕ = f (get_or ps i 0) in
    let before : List ℕ = string_bytes c.push.new.self in
    let front : List ℕ = joined blank (map f (take i ps)) in
    let lt : i < length ps = omega (arith, c.loop-number-test.true, c.count-number-end.ensures.value) in
    let added : string_bytes c.push_element.new.line ≡ string_bytes c.if-number-gt0.line ++ element
    = c.in_ok-push_element.ensures
    ∙ ap (λ l. string_bytes c.if-number-gt0.line ++ element_text c.args.layout.now.is_structure c.args.layout.now.columns.items l) c.bytes_from.ensures
    ∙ ap (λ p. string_bytes c.if-number-gt0.line ++ f p) c.place.ensures in
    elim c.if-number-gt0.branch [
      | then-number-gt0+in_ok-push-2 w ↦
          added ∙ ap (λ s. string_bytes s ++ element) w.line-is
          ∙ ap (λ s. s ++ element) (w.in_ok-push-2.ensures.bytes ∙ ap (λ s. string_bytes c.loop-number.line ++ s) (w.in_ok-push-2.ensures.ascii (omega arith)) ∙ ap (λ s. s ++ blank) c.loop-number.invariant)
          ∙ regroup before front blank element
          ∙ ap (λ s. before ++ s) (sym (joined_next blank f ps i 0 (omega arith) lt))
      | else-number-gt0 w ↦
          added ∙ ap (λ s. string_bytes s ++ element) w.line-is ∙ ap (λ s. s ++ element) c.loop-number.invariant
          ∙ append_assoc before front element
          ∙ ap (λ s. before ++ s) (sym (joined_first blank f ps i 0 (omega arith) lt))
    ]
