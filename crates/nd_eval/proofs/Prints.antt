-- What `print` comes to.
use Rattle.std.proofs.Common.{◌≡◌, List, map, Ok, sym, ap, ◌∙◌}
use Rattle.nd_model.specs.Cells.Running.{Running, Inputs, Prints}
use Rattle.nd_model.specs.Grammar.Syntax.{Expr}
use Rattle.nd_model.specs.Cells.Evaluation.{Gives, run, ◌>>=◌, decide}
use Rattle.nd_model.specs.Making.Operand as model
use Rattle.nd_model.specs.Text.Printing.{print_deed, printed_line}
use Rattle.nd_model.specs.Cells.Operation.{act_on, do_deed, evaluate_all}
use Rattle.nd_model.specs.Cells.Meaning.{whole_plans}
use Rattle.nd_model.proofs.Steps.{goes_on, run_bind}
use Rattle.nd_heap.specs.declared.value.Value.{Value}
use Rattle.nd_heap.specs.Values.{value_of}
use Rattle.nd_operation.specs.Operators.Lines.{limit_line}
use Rattle.nd_eval.specs.Lines.{limit_effect}
use Rattle.nd_eval.specs.Parts.{values, wholes}
use Rattle.nd_eval.specs.Uses.{all_marked, operands_over}
use Rattle.nd_eval.proofs.Parts.{values_first}
use Rattle.nd_eval.proofs.Uses.{all_used, all_marked_bytes}
use Rattle.nd_eval.proofs.Lines.{limit_printed}

-- the expressions, then the uses of their values, then the line
pub print_parts : (i : Inputs) (es : List Expr) (r s u : Running) (vs : List Value) (os : List model.Operand) → run i (values es) r ≡ (Ok (map value_of vs), s) → u ≡ all_marked vs s → os ≡ operands_over u.bytes vs
    → limit_effect (run i (evaluate_all (whole_plans es) (act_on print_deed)) r) ≡ run i (decide (limit_line (printed_line os)) >>= λ t. Gives (Prints t)) u
print_parts i es r s u vs os found mark lent =
    let ws : List (model.Usage × _) = wholes (map value_of vs) in
    let kept : os ≡ operands_over s.bytes vs = lent ∙ ap (λ (q : Running). operands_over q.bytes vs) mark ∙ ap (λ b. operands_over b vs) (all_marked_bytes vs s) in
    ap limit_effect (values_first i es (act_on print_deed) r
    ∙ run_bind i (values es) (λ vs. act_on print_deed (wholes vs)) r ∙ ap (λ m. goes_on i m (λ vs. act_on print_deed (wholes vs))) found
    ∙ all_used i vs (λ os. decide (print_deed os) >>= do_deed ws) s
    ∙ ap (λ os. run i (decide (print_deed os) >>= do_deed ws) (all_marked vs s)) (sym kept)
    ∙ ap (run i (decide (print_deed os) >>= do_deed ws)) (sym mark))
    ∙ limit_printed i os ws u
