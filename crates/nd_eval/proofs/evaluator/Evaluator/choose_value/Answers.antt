use Rattle.std.proofs.Common.{◌∷◌, length, refl, sym, ap, ◌∙◌, subst}
use Rattle.nd_model.specs.Cells.Evaluation.{run, ◌>>=◌, decide}
use Rattle.nd_model.specs.Making.Operand.{Unused}
use Rattle.nd_model.specs.Cells.Operation.{choose_of, with_value}
use Rattle.nd_model.specs.Indexing.Viewing.{choose_of_first}
use Rattle.nd_heap.specs.Values.{base_of, value_of}
use Rattle.nd_session.specs.Inputs.Values.{inputs_of}
use Rattle.nd_session.specs.Session.Live.{live}
use Rattle.nd_operation.specs.Operators.Contents.{unused_of}
use Rattle.nd_eval.specs.Choosing.Indexing.{chosen_of, index_operands, viewing_of}
use Rattle.nd_eval.specs.Choosing.Targets.{Lies}
use Rattle.nd_eval.specs.Contents as contents
use Rattle.nd_eval.specs.Uses.{IsHeld}
use Rattle.nd_eval.proofs.Held.{held_index_marked}
use Rattle.nd_eval.proofs.Chains.{ends_alike, exits_making, goes_making}
use Rattle.nd_eval.proofs.Uses.{index_next, index_used_in, nothing_chosen}
use Rattle.nd_eval.proofs.evaluator.Evaluator.choose_value.Goals as goal

pub returns-in_err-chosen-clause-value : goal.returns-in_err-chosen-clause-value
returns-in_err-chosen-clause-value c =
    let i = inputs_of c.args.self.now.inputs.now.entries in
    let t = c.args.target.now in
    let x = c.args.index.now in
    let s = live c.mark_index.new.session in
    let us = (Unused, value_of t) ∷ (contents.index_of x).1 in
    let m = choose_of_first (viewing_of x) (unused_of t) (index_operands s.bytes x) in (
      ends_alike value_of _ _
          (index_used_in i t x (λ w o os. decide (choose_of_first w o os) >>= λ y. with_value us 0 (λ v. choose_of v y)) (live c.args.self.now.session.now) s c.in_ok-mark_index.ensures)
          (exits_making chosen_of value_of i m (choose_of (value_of t)) _ _ _ c.from_residual-in_err-chosen.ensures.1 c.in_err-chosen.ensures.choice),
      (refl, refl),
    )

pub returns-in-Array-clause-value : goal.returns-in-Array-clause-value
returns-in-Array-clause-value c =
    let i = inputs_of c.args.self.now.inputs.now.entries in
    let t = c.args.target.now in
    let x = c.args.index.now in
    let s = live c.mark_index.new.session in
    let us = (Unused, value_of t) ∷ (contents.index_of x).1 in
    let m = choose_of_first (viewing_of x) (unused_of t) (index_operands s.bytes x) in (
      ends_alike value_of _ _
          (index_used_in i t x (λ w o os. decide (choose_of_first w o os) >>= λ y. with_value us 0 (λ v. choose_of v y)) (live c.args.self.now.session.now) s c.in_ok-mark_index.ensures
          ∙ goes_making chosen_of i m (choose_of (value_of t)) s c.in_ok-chosen.chosen c.in_ok-chosen.ensures.choice
          ∙ ap (λ v. run i (choose_of (value_of v) (chosen_of c.in_ok-chosen.chosen)) s) c.in-Array.is)
          c.chosen_value.ensures.value.0,
      c.chosen_value.ensures.value.1,
    )

pub returns-in-Row-clause-value : goal.returns-in-Row-clause-value
returns-in-Row-clause-value c =
    let i = inputs_of c.args.self.now.inputs.now.entries in
    let t = c.args.target.now in
    let x = c.args.index.now in
    let s = live c.mark_index.new.session in
    let us = (Unused, value_of t) ∷ (contents.index_of x).1 in
    let m = choose_of_first (viewing_of x) (unused_of t) (index_operands s.bytes x) in (
      ends_alike value_of _ _
          (index_used_in i t x (λ w o os. decide (choose_of_first w o os) >>= λ y. with_value us 0 (λ v. choose_of v y)) (live c.args.self.now.session.now) s c.in_ok-mark_index.ensures
          ∙ goes_making chosen_of i m (choose_of (value_of t)) s c.in_ok-chosen.chosen c.in_ok-chosen.ensures.choice
          ∙ ap (λ v. run i (choose_of (value_of v) (chosen_of c.in_ok-chosen.chosen)) s) c.in-Row.is)
          c.chosen_value-in-Row.ensures.value.0,
      c.chosen_value-in-Row.ensures.value.1,
    )

pub returns-in-Number : goal.returns-in-Number
returns-in-Number c =
    let x = c.args.index.now in
    absurd (nothing_chosen c.in-Number.field-0 x (index_operands (live c.mark_index.new.session).bytes x) _ (rw c.in-Number.is at c.in_ok-chosen.ensures.choice))

pub chosen_value-requires-clause-room : goal.chosen_value-requires-clause-room
chosen_value-requires-clause-room c = rw (index_next c.args.index.now _ _ c.in_ok-mark_index.ensures) c.requires.room

pub returns-in-Array-clause-types : goal.returns-in-Array-clause-types
returns-in-Array-clause-types c = c.chosen_value.ensures.types _ _ c.in_ok-chosen.ensures.copies

pub returns-in-Row-clause-types : goal.returns-in-Row-clause-types
returns-in-Row-clause-types c = c.chosen_value-in-Row.ensures.types _ _ c.in_ok-chosen.ensures.copies

pub chosen_value-requires-clause-lies : goal.chosen_value-requires-clause-lies
chosen_value-requires-clause-lies c =
    let t = c.args.target.now in
    let s = live c.mark_index.new.session in
    let len = length (s.bytes (base_of c.in-Array.array.base)) in
    let held = subst (IsHeld s) c.in-Array.is (held_index_marked c.args.index.now t (live c.args.self.now.session.now) s c.in_ok-mark_index.ensures c.requires.held) in
    c.in_ok-chosen.ensures.lies len (subst (λ t. Lies len (unused_of t)) (sym c.in-Array.is) held.lies)

pub chosen_value-requires-in-Row-clause-lies : goal.chosen_value-requires-in-Row-clause-lies
chosen_value-requires-in-Row-clause-lies c =
    let t = c.args.target.now in
    let s = live c.mark_index.new.session in
    let len = length (s.bytes (base_of c.in-Row.row.base)) in
    let held = subst (IsHeld s) c.in-Row.is (held_index_marked c.args.index.now t (live c.args.self.now.session.now) s c.in_ok-mark_index.ensures c.requires.held) in
    c.in_ok-chosen.ensures.lies len (subst (λ t. Lies len (unused_of t)) (sym c.in-Row.is) held.lies)
