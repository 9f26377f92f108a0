use Rattle.std.proofs.Common.{arith, ◌≡◌, ◌+◌, ◌-◌, List, [], ◌∷◌, length, map, string_bytes, take, drop, subst, sym, ap, ◌∙◌}
use Rattle.nd_operation.specs.declared.operators.operand.Operand.{Operand}
use Rattle.nd_operation.specs.Operators.Contents.{operand_of}
use Rattle.nd_model.specs.Text.Printing.{printed_line}
use Rattle.nd_operation.specs.Operators.Lines.{limit_line, line_with}
use Rattle.nd_operation.proofs.operators.InTurn.{first_and_rest, next_item}
use Rattle.nd_operation.proofs.operators.Lines.{GoesOn, line_begun, line_not_begun, line_more, line_not_more, stops_line}
use Rattle.nd_operation.proofs.refusals.Refusals.{makes_memory}
use Rattle.std.proofs.lemmas.Grind.{common_steps}
use Rattle.nd_operation.proofs.operators.printing.print_line.Goals as goal

pub returns-in_err-push_text : goal.returns-in_err-push_text
returns-in_err-push_text c =
    let xs : List Operand = c.args.operands.now in
    let x : Operand = c.first-item.result in
    let rest : List Operand = take (length xs - 1) (drop 1 xs) in
    let same : xs ≡ x ∷ rest = first_and_rest xs x c.in-len1-up.len_at_least c.first-item.is in
    let empty : string_bytes c.new-line.result ≡ [] = c.new-line.ensures.bytes in
    stops_line (λ (u : Unit {0}). string_bytes c.push_text.new.line) string_bytes (line_with (string_bytes c.new-line.result) (operand_of x)) (printed_line (map operand_of xs))
    c.in_err-push_text.field-0.0 c.from_residual.result
    (λ f h. ap (λ l. limit_line (printed_line (map operand_of l))) same
    ∙ line_not_begun (operand_of x) (map operand_of rest) f (ap (λ l. limit_line (line_with l (operand_of x))) (sym empty) ∙ h))
    c.from_residual.ensures.1 c.in_err-push_text.ensures

pub loop-operand-init : goal.loop-operand-init
loop-operand-init c =
    let xs : List Operand = c.args.operands.now in
    let x : Operand = c.first-item.result in
    let rest : List Operand = take (length xs - 1) (drop 1 xs) in
    let same : xs ≡ x ∷ rest = first_and_rest xs x c.in-len1-up.len_at_least c.first-item.is in
    let empty : string_bytes c.new-line.result ≡ [] = c.new-line.ensures.bytes in
    let line : List _ = string_bytes c.push_text.new.line in
    subst (λ (l : List Operand). GoesOn (printed_line (map operand_of l)) line (map operand_of rest)) (sym same)
    (line_begun (operand_of x) (map operand_of rest) line (ap (λ l. limit_line (line_with l (operand_of x))) (sym empty) ∙ c.in_ok-push_text.ensures))

pub returns-in_err-push_text-2 : goal.returns-in_err-push_text-2
returns-in_err-push_text-2 c =
    let xs : List Operand = c.args.operands.now in
    let x : Operand = c.operand-item.result in
    let rest : List Operand = take (length xs - 1) (drop 1 xs) in
    let after : List Operand = drop (c.loop-operand.operand-index + 1) rest in
    let line = string_bytes c.loop-operand.line in
    let spaced = string_bytes c.push_str.new.self in
    let next : drop c.loop-operand.operand-index rest ≡ x ∷ after = next_item rest c.loop-operand.operand-index x c.loop-operand-test.true c.operand-item.is in
    let all = printed_line (map operand_of xs) in
    let so_far : GoesOn all line (map operand_of (x ∷ after)) = subst (λ (l : List Operand). GoesOn all line (map operand_of l)) next c.loop-operand.invariant in
    stops_line (λ (u : Unit {0}). string_bytes c.push_text-in-loop-operand.new.line) string_bytes (line_with spaced (operand_of x)) all
    c.in_err-push_text-2.field-0.0 c.from_residual-in_err-push_text-2.result
    (λ f h. line_not_more all line spaced (operand_of x) (map operand_of after) f so_far c.in_ok-push_str.ensures.bytes h)
    c.from_residual-in_err-push_text-2.ensures.1 c.in_err-push_text-2.ensures

pub loop-operand-preserved : goal.loop-operand-preserved
loop-operand-preserved c =
    let xs : List Operand = c.args.operands.now in
    let x : Operand = c.operand-item.result in
    let rest : List Operand = take (length xs - 1) (drop 1 xs) in
    let after : List Operand = drop (c.loop-operand.operand-index + 1) rest in
    let line = string_bytes c.loop-operand.line in
    let next : drop c.loop-operand.operand-index rest ≡ x ∷ after = next_item rest c.loop-operand.operand-index x c.loop-operand-test.true c.operand-item.is in
    let all = printed_line (map operand_of xs) in
    line_more all line (string_bytes c.push_str.new.self) (string_bytes c.push_text-in-loop-operand.new.line) (operand_of x) (map operand_of after)
    (subst (λ (l : List Operand). GoesOn all line (map operand_of l)) next c.loop-operand.invariant) c.in_ok-push_str.ensures.bytes c.in_ok-push_text-2.ensures

pub returns-in_err-push_str : goal.returns-in_err-push_str
returns-in_err-push_str c = makes_memory string_bytes _ _ c.from_residual-in_err-push_str.ensures.1

pub returns-in_err-push_str-2 : goal.returns-in_err-push_str-2
returns-in_err-push_str-2 c = makes_memory string_bytes _ _ c.from_residual-in_err-push_str-2.ensures.1

pub returns : goal.returns
returns c = grind (arith, common_steps)

pub returns-in_err-check_length : goal.returns-in_err-check_length
returns-in_err-check_length c = grind (arith, common_steps)
