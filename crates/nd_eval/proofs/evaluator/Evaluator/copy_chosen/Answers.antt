use Rattle.std.proofs.Common.{sym, ap, ◌∙◌, subst, length}
use Rattle.std.specs.List.{flat_map}
use Rattle.nd_model.specs.Cells.Evaluation.{run}
use Rattle.nd_model.specs.Cells.Operation.{give}
use Rattle.nd_model.specs.Cells.Running.{Running, Use, after}
use Rattle.nd_model.specs.Cells.Sound.{LiesIn}
use Rattle.nd_model.specs.Arrays.View.{element_places}
use Rattle.nd_heap.specs.Values.{base_of, value_of}
use Rattle.nd_session.specs.Inputs.Values.{inputs_of}
use Rattle.nd_session.specs.Session.Live.{live}
use Rattle.nd_eval.specs.Choosing.Selections.{copy_of, selected}
use Rattle.nd_eval.proofs.Chains.{ends_alike}
use Rattle.nd_eval.proofs.Copying.{copied_type}
use Rattle.nd_eval.proofs.evaluator.Evaluator.copy_chosen.Goals as goal

pub returns-clause-value : goal.returns-clause-value
returns-clause-value c = λ g.
    let i = inputs_of c.args.self.now.inputs.now.entries in
    let r = live c.args.self.now.session.now in
    let s = live c.mark_used_elements.new.self in
    let b = base_of c.args.base in
    let h = selected c.args.selection.now in
    let marks = c.in_ok-mark_used_elements.ensures.after ∙ ap (λ t. after (Use b (flat_map (element_places t) h.places)) r) c.elem.ensures in
    let same = c.bytes.ensures ∙ ap (λ (q : Running). q.bytes b) marks in (
      ends_alike value_of _ _
          ((λ j. run i (give (copy_of h (sym same j))) (sym marks j))
          ∙ ap (λ e. run i e s) c.in_ok-copy.ensures)
          c.give.ensures.0,
      c.give.ensures.1,
    )

pub returns-clause-types : goal.returns-clause-types
returns-clause-types c =
    let i = inputs_of c.args.self.now.inputs.now.entries in
    let s = live c.mark_used_elements.new.self in
    let h = selected c.args.selection.now in
    let block = c.bytes.result.now in
    copied_type i h block c.args.selection.now.chosen.limits c.give.result _ s
    (ends_alike value_of _ _ (ap (λ e. run i e s) c.in_ok-copy.ensures) c.give.ensures.0)

pub copy_selection-requires : goal.copy_selection-requires
copy_selection-requires c =
    let r = live c.args.self.now.session.now in
    let b = base_of c.args.base in
    let h = selected c.args.selection.now in
    let same = c.bytes.ensures ∙ ap (λ (q : Running). q.bytes b) c.in_ok-mark_used_elements.ensures.after in
    subst (λ bytes. LiesIn (length bytes) h) (sym same) c.requires.lies

pub give-requires : goal.give-requires
give-requires c = rw (ap (λ (q : Running). q.next) c.in_ok-mark_used_elements.ensures.after) c.requires.room
