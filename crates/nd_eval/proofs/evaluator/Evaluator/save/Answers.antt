use Rattle.std.proofs.Common.{refl, sym, ap, ◌∙◌, [], ◌∷◌, Ok, Vec, Global, ℕ}
use Rattle.nd_model.specs.Cells.Running as running
use Rattle.nd_model.specs.Cells.Evaluation.{◌>>=◌, decide}
use Rattle.nd_model.specs.Formats.Files.{save}
use Rattle.nd_model.specs.Making.Operand.{Whole, SavesFile}
use Rattle.nd_model.specs.Cells.Operation.{do_deed}
use Rattle.nd_heap.specs.Values.{value_of}
use Rattle.nd_session.specs.Inputs.Values.{inputs_of}
use Rattle.nd_session.specs.Session.Live.{live}
use Rattle.nd_operation.specs.Operators.Contents.{operand_of}
use Rattle.nd_eval.specs.Effects.{effect_of}
use Rattle.nd_eval.proofs.Chains.{exits_making, goes_making}
use Rattle.nd_eval.proofs.Uses.{kept_bytes, follows_use, goes_used}
use Rattle.nd_eval.proofs.evaluator.Evaluator.save.Goals as goal

pub returns-in_err-file-clause-effect : goal.returns-in_err-file-clause-effect
returns-in_err-file-clause-effect c =
    let i = inputs_of c.args.self.now.inputs.now.entries in
    let v = c.args.value.now in
    let n = c.args.name.now in
    let deed = do_deed ((Whole, value_of v) ∷ []) in
    let s = live c.mark_operand.new.session in (
      follows_use (effect_of s.bytes) i v (λ o. decide (save n o) >>= deed) _ s s _ c.operand_in-operand.result _ c.in_ok-mark_operand.ensures
          (kept_bytes v _ _ c.in_ok-mark_operand.ensures) c.operand_in-operand.ensures
          (exits_making (λ (f : Vec ℕ Global). SavesFile n f.items) (effect_of s.bytes) i (save n (operand_of c.operand_in-operand.result)) deed s _ _ c.from_residual-in_err-file.ensures.1 c.in_err-file.ensures),
      (refl, refl),
    )

pub returns-clause-effect : goal.returns-clause-effect
returns-clause-effect c =
    let i = inputs_of c.args.self.now.inputs.now.entries in
    let v = c.args.value.now in
    let n = c.args.name.now in
    let deed = do_deed ((Whole, value_of v) ∷ []) in
    let s = live c.mark_operand.new.session in
    let file = c.in_ok-file.file in (
      goes_used i v (λ o. decide (save n o) >>= deed) (live c.args.self.now.session.now) s s.bytes c.operand_in-operand.result c.in_ok-mark_operand.ensures
          (kept_bytes v _ _ c.in_ok-mark_operand.ensures) c.operand_in-operand.ensures
          ∙ goes_making (λ (f : Vec ℕ Global). SavesFile n f.items) i (save n (operand_of c.operand_in-operand.result)) deed s file c.in_ok-file.ensures
          ∙ ap (λ m. (Ok (running.Saves m file.items), s)) (sym c.in_ok-name.ensures.ok),
      (refl, refl),
    )
