use Rattle.std.proofs.Common.{◌≡◌, ap, ◌∙◌, map, string_bytes, String, Global}
use Rattle.nd_model.specs.Cells.Running.{Prints}
use Rattle.nd_model.specs.Cells.Evaluation.{Gives}
use Rattle.nd_model.specs.Cells.Operation.{act_on}
use Rattle.nd_model.specs.Text.Printing.{print_deed, printed_line}
use Rattle.nd_syntax.specs.Trees.Syntax.{expr_of}
use Rattle.nd_session.specs.Inputs.Values.{inputs_of}
use Rattle.nd_session.specs.Session.Live.{live}
use Rattle.nd_operation.specs.Operators.Contents.{operand_of}
use Rattle.nd_eval.specs.Contents.{values_of}
use Rattle.nd_operation.specs.Operators.Lines.{limit_line}
use Rattle.nd_eval.specs.Parts.{values}
use Rattle.nd_eval.specs.Uses.{AreHeld, all_marked, operands_over}
use Rattle.nd_eval.proofs.Chains.{exits, ends_alike, exits_making, goes_making}
use Rattle.nd_eval.proofs.Parts.{values_first}
use Rattle.nd_eval.proofs.Held.{values_held, held_all_marked}
use Rattle.nd_eval.proofs.Lines.{limit_exits}
use Rattle.nd_eval.proofs.Prints.{print_parts}
use Rattle.nd_eval.proofs.evaluator.Evaluator.print_effect.Goals as goal

pub returns-in_err-shown-clause-effect : goal.returns-in_err-shown-clause-effect
returns-in_err-shown-clause-effect c =
    let i = inputs_of c.args.self.now.inputs.now.entries in
    let es = map expr_of c.args.exprs.now in (
      limit_exits _ _ _ _ _ c.from_residual.ensures.1
          (ends_alike _ _ _ (values_first i es (act_on print_deed) (live c.args.self.now.session.now))
          (exits values_of _ i (values es) _ _ _ _ _ c.from_residual.ensures.1 c.in_err-shown.ensures.0)),
      c.in_err-shown.ensures.1,
    )

pub operands_in-requires : goal.operands_in-requires
operands_in-requires c =
    let s = live c.values.new.self.session.now in
    let vs = c.in_ok-shown.shown.items in
    let held : AreHeld s vs = values_held (inputs_of c.args.self.now.inputs.now.entries) (map expr_of c.args.exprs.now) _ s vs c.in_ok-shown.ensures.0 c.soundness.ensures in
    rw c.deref-2.ensures.value
    (held_all_marked vs vs s (live c.mark_operands.new.session) (c.in_ok-mark_operands.ensures ∙ ap (λ vs. all_marked vs s) c.deref.ensures.value) held)

pub returns-in_err-line-clause-effect : goal.returns-in_err-line-clause-effect
returns-in_err-line-clause-effect c =
    let i = inputs_of c.args.self.now.inputs.now.entries in
    let s = live c.values.new.self.session.now in
    let u = live c.mark_operands.new.session in
    let vs = c.in_ok-shown.shown.items in
    let os = map operand_of c.in_ok-operands.operands.items in
    let lent : os ≡ operands_over u.bytes vs = c.in_ok-operands.ensures ∙ ap (operands_over u.bytes) c.deref-2.ensures.value in (
      ends_alike _ _ _
          (print_parts i (map expr_of c.args.exprs.now) _ s u vs os c.in_ok-shown.ensures.0 (c.in_ok-mark_operands.ensures ∙ ap (λ vs. all_marked vs s) c.deref.ensures.value) lent)
          (exits_making (λ (line : String Global). string_bytes line) _ i (limit_line (printed_line os)) (λ t. Gives (Prints t)) _ _ _ c.from_residual-in_err-line.ensures.1
          (rw c.deref-3.ensures.value at c.in_err-line.ensures)),
      c.in_ok-shown.ensures.1,
    )

pub returns-clause-effect : goal.returns-clause-effect
returns-clause-effect c =
    let i = inputs_of c.args.self.now.inputs.now.entries in
    let s = live c.values.new.self.session.now in
    let u = live c.mark_operands.new.session in
    let vs = c.in_ok-shown.shown.items in
    let os = map operand_of c.in_ok-operands.operands.items in
    let lent : os ≡ operands_over u.bytes vs = c.in_ok-operands.ensures ∙ ap (operands_over u.bytes) c.deref-2.ensures.value in (
      print_parts i (map expr_of c.args.exprs.now) _ s u vs os c.in_ok-shown.ensures.0 (c.in_ok-mark_operands.ensures ∙ ap (λ vs. all_marked vs s) c.deref.ensures.value) lent
          ∙ goes_making (λ (line : String Global). string_bytes line) i (limit_line (printed_line os)) (λ t. Gives (Prints t)) _ c.in_ok-line.line (rw c.deref-3.ensures.value at c.in_ok-line.ensures),
      c.in_ok-shown.ensures.1,
    )
