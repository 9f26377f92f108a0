use Rattle.nd_operation.specs.Operators.OfTwo.{made_of_two}
use Rattle.std.specs.Prelude.{is_some}
use Rattle.std.proofs.Common.{Ok, None, append-nil, ◌+◌, List, [], ◌∷◌, ◌++◌, refl, map, option_map, take, drop, ap, sym, ◌∙◌, arith, Err}
use Rattle.std.proofs.lemmas.List.{drop_all, length-map}
use Rattle.nd_model.specs.Indexing.Index.{AtForm, SliceForm}
use Rattle.nd_model.specs.Making.Operand.{ArraysOnly}
use Rattle.nd_model.specs.Cells.Evaluation.{Gives, run, ◌>>=◌, decide}
use Rattle.nd_model.specs.Cells.Meaning as meaning
use Rattle.nd_model.specs.Indexing.Viewing as viewing
use Rattle.nd_model.specs.Grammar.Cells.{chained, elements_of, items_of}
use Rattle.nd_model.specs.Making.Elementwise.{binary}
use Rattle.nd_model.specs.Cells.Meaning.{is_given}
use Rattle.nd_eval.proofs.Ranging.{range_first, range_is}
use Rattle.nd_model.specs.Cells.Operation.{give, Computes, perform}
use Rattle.nd_model.specs.Grammar.Tokens.{tokens_of, tokens_of_call, tokens_of_fold, tokens_of_method}
use Rattle.nd_syntax.specs.Trees.Lists.{operation_of}
use Rattle.nd_syntax.specs.Trees.Syntax.{axis_of, bound_of, element_of, expr_of, call_of, fold_of, suffix_of, index_of, item_of, method_of}
use Rattle.nd_syntax.specs.declared.trees.tree.Suffix.{Suffix}
use Rattle.nd_syntax.specs.declared.trees.tree.Element.{Element}
use Rattle.nd_syntax.specs.declared.trees.tree.IndexItem.{IndexItem}
use Rattle.nd_heap.specs.Values.{value_of}
use Rattle.nd_session.specs.Inputs.Values.{inputs_of}
use Rattle.nd_session.specs.Session.Live.{live}
use Rattle.nd_eval.proofs.Bounds.{accumulated_tokens, axis_behind, bound_behind, few_of_items, step_more, list_others, next_behind, next_index, next_item_parts, next_list, next_bound, next_value, next_values, next_at_suffix}
use Rattle.nd_eval.proofs.Calls.{filled_first, filled_parts, full_first, list_first, list_parts, stretched_first}
use Rattle.nd_syntax.specs.Trees.Calls.{accumulation_of, dtype_of, fill_of, ufunc_of}
use Rattle.nd_model.specs.Making.Creation.{array_of_list, filled}
use Rattle.nd_operation.specs.Operators.Contents.{unused_of}
use Rattle.nd_eval.specs.Contents as contents
use Rattle.nd_eval.specs.Contents.{option_values, values_of}
use Rattle.nd_eval.specs.Parts.{list_parts as as_item, operate, slice_to}
use Rattle.nd_eval.specs.Parts.{bound_exprs, fold_call, exprs_in, exprs_of_element, index_parts, item_parts, items_parts, items_then, parts_of_items, unused, ItemParts, suffix_value, list_value, binary_value, values_behind, values_then, values, method_value, viewed_value}
use Rattle.nd_model.specs.Arrays.Value as model
use Rattle.nd_syntax.specs.declared.trees.tree.Expr.{Expr}
use Rattle.nd_eval.proofs.Creating.{exits_new, follows_new}
use Rattle.nd_eval.proofs.Chains.{exits, follows, goes, ends_as, ends_alike, stops}
use Rattle.nd_model.specs.Grammar.Syntax.{Called, Nested, NewArray}
use Rattle.nd_syntax.proofs.trees.Nodes.{filled_is, full_is, broadcast_is, reshape_is, transpose_is}
use Rattle.nd_eval.proofs.Operating.{chain_step, chain_rest, exits_chain, exits_later, fewer_tokens}
use Rattle.nd_eval.proofs.Turns.{stays_on}
use Rattle.nd_model.specs.Cells.Running.{Running}
use Rattle.nd_eval.specs.Uses.{all_marked}
use Rattle.nd_eval.proofs.Uses.{slice_seen, all_marked_next}
use Rattle.nd_eval.proofs.Held.{held_after, sound_after, suffix_held, value_held}
use Rattle.nd_operation.proofs.operators.InTurn.{next_item, pushed}
use Rattle.nd_eval.proofs.InTurn.{as_many, behind_others, many_in, onto, onto_more}
use Rattle.nd_eval.proofs.Indexing.{accumulate_is, accumulated_is, chain, fold_first, nodes_of_accumulate, nodes_of_accumulated, nodes_of_fold, elements_in_list, nodes_of_its_elements, run_postfix, tokens_of_postfix, nodes_of_postfix, nodes_of_filled, nodes_of_full, list_in_items, nodes_of_list, nodes_of_item, nodes_of_slice, slice_is, shape_tokens, items_in_index, nodes_of_its_items, is_chain, nodes_of_chain, listed_is, nodes_of_reshaped, nodes_of_stretched, nodes_of_transposed, reshaped_tokens, transposed_tokens}
use Rattle.nd_eval.proofs.evaluator.Evaluator.+value.Goals as goal

pub value-value_of_one-requires : goal.value-value_of_one-requires
value-value_of_one-requires t c =
    let room = rw c.in-Unary.is at c.requires in
    let below = rw c.in-Unary.is at c.decreases in
    rw c.deref.ensures (omega arith, omega arith)

pub value_of_one-returns-in_err-operand : goal.value_of_one-returns-in_err-operand
value_of_one-returns-in_err-operand t c = (
  exits value_of value_of (inputs_of c.args.self.now.inputs.now.entries) (meaning.value (expr_of c.args.operand.now)) _ _ _ _ _
      c.from_residual.ensures.1 c.in_err-operand.ensures.0,
  c.in_err-operand.ensures.1,
)

pub value_of_one-make_value-made-requires-clause-held : goal.value_of_one-make_value-made-requires-clause-held
value_of_one-make_value-made-requires-clause-held t c =
    value_held (inputs_of c.args.self.now.inputs.now.entries) (expr_of c.args.operand.now) _ _ c.in_ok-operand.operand c.in_ok-operand.ensures.0 c.soundness.ensures

pub value_of_one-make_value-made-requires-clause-room : goal.value_of_one-make_value-made-requires-clause-room
value_of_one-make_value-made-requires-clause-room t c =
    let made = next_value (inputs_of c.args.self.now.inputs.now.entries) (expr_of c.args.operand.now) _ _ _ c.in_ok-operand.ensures.0 in
    omega arith

pub value_of_one-returns : goal.value_of_one-returns
value_of_one-returns t c = (
  follows value_of value_of (inputs_of c.args.self.now.inputs.now.entries) (meaning.value (expr_of c.args.operand.now)) _ _ _ _
      c.in_ok-operand.operand _ c.in_ok-operand.ensures.0 (rw c.in_ok-operand.ensures.1.1 at c.make_value-made.ensures.0),
  stays_on c.in_ok-operand.ensures.1 c.make_value-made.ensures.1,
)

pub value-value-requires : goal.value-value-requires
value-value-requires t c =
    let size = tokens_of_postfix c.args.expr.now c.in-Postfix.operand c.in-Postfix.suffixes c.in-Postfix.is in
    let more = nodes_of_postfix c.args.expr.now c.in-Postfix.operand c.in-Postfix.suffixes c.in-Postfix.is in
    let below = c.decreases in
    rw c.deref-in-Postfix.ensures (omega arith, omega arith)

pub value-returns-in_err-found-in-Postfix : goal.value-returns-in_err-found-in-Postfix
value-returns-in_err-found-in-Postfix t c =
    let i = inputs_of c.args.self.now.inputs.now.entries in (
      rw (run_postfix i c.args.expr.now c.in-Postfix.operand c.in-Postfix.suffixes (live c.args.self.now.session.now) c.in-Postfix.is)
          (exits value_of value_of i (meaning.value (expr_of c.in-Postfix.operand.value)) _ _ _ _ _
          c.from_residual.ensures.1 (rw c.deref-in-Postfix.ensures at c.in_err-found-in-Postfix.ensures.0)),
      c.in_err-found-in-Postfix.ensures.1,
    )

pub value-loop-suffix-init : goal.value-loop-suffix-init
value-loop-suffix-init t c =
    let i = inputs_of c.args.self.now.inputs.now.entries in
    let e = expr_of c.in-Postfix.operand.value in
    let found = rw c.deref-in-Postfix.ensures at c.in_ok-found-in-Postfix.ensures.0 in
    let size = tokens_of_postfix c.args.expr.now c.in-Postfix.operand c.in-Postfix.suffixes c.in-Postfix.is in
    let made = next_value i e _ _ _ found in
    let more = nodes_of_postfix c.args.expr.now c.in-Postfix.operand c.in-Postfix.suffixes c.in-Postfix.is in
    record {
      stays = c.in_ok-found-in-Postfix.ensures.1;
      same = run_postfix i c.args.expr.now c.in-Postfix.operand c.in-Postfix.suffixes (live c.args.self.now.session.now) c.in-Postfix.is
          ∙ goes value_of i (meaning.value e) (λ v. chain v (map suffix_of c.in-Postfix.suffixes.items)) _ _ c.in_ok-found-in-Postfix.found found
          ∙ ap (λ (es : List Suffix). run i (chain (value_of c.in_ok-found-in-Postfix.found) (map suffix_of es)) (live c.value.new.self.session.now)) (sym c.deref-suffix-items.ensures.value);
      room = rw c.deref-suffix-items.ensures.value (omega arith);
      below = rw c.deref-suffix-items.ensures.value (omega arith);
      sound = sound_after i (meaning.value e) _ _ _ found c.soundness.ensures;
      held = value_held i e _ _ c.in_ok-found-in-Postfix.found found c.soundness.ensures;
    }

pub value-suffix_value-requires : goal.value-suffix_value-requires
value-suffix_value-requires t c =
    let next = next_item c.deref-suffix-items.result.now c.loop-suffix.suffix-index c.suffix-item.result c.loop-suffix-test.true c.suffix-item.is in
    let room = rw next at c.loop-suffix.invariant.room in
    let below = c.decreases in
    let few = rw next at c.loop-suffix.invariant.below in
    (omega arith, (c.loop-suffix.invariant.held, omega arith))

pub value-returns-in_err-found-in-Postfix-2 : goal.value-returns-in_err-found-in-Postfix-2
value-returns-in_err-found-in-Postfix-2 t c =
    let next = next_item c.deref-suffix-items.result.now c.loop-suffix.suffix-index c.suffix-item.result c.loop-suffix-test.true c.suffix-item.is in (
      rw (c.loop-suffix.invariant.same, next)
          (exits value_of value_of (inputs_of c.args.self.now.inputs.now.entries)
          (suffix_value (suffix_of c.suffix-item.result) (value_of c.loop-suffix.found)) _ _ _ _ _
          c.from_residual-in_err-found-in-Postfix-2.ensures.1 (rw c.loop-suffix.invariant.stays.1 at c.in_err-found-in-Postfix-2.ensures.0)),
      stays_on c.loop-suffix.invariant.stays c.in_err-found-in-Postfix-2.ensures.1,
    )

pub value-loop-suffix-preserved : goal.value-loop-suffix-preserved
value-loop-suffix-preserved t c =
    let i = inputs_of c.args.self.now.inputs.now.entries in
    let x = suffix_of c.suffix-item.result in
    let v = c.loop-suffix.found in
    let rest = map suffix_of (drop (c.loop-suffix.suffix-index + 1) c.deref-suffix-items.result.now) in
    let next = next_item c.deref-suffix-items.result.now c.loop-suffix.suffix-index c.suffix-item.result c.loop-suffix-test.true c.suffix-item.is in
    let room = rw next at c.loop-suffix.invariant.room in
    let found = rw c.loop-suffix.invariant.stays.1 at c.in_ok-found-in-Postfix-2.ensures.0 in
    let made = next_at_suffix i x (value_of v) _ _ _ found in
    let few = rw next at c.loop-suffix.invariant.below in
    record {
      stays = stays_on c.loop-suffix.invariant.stays c.in_ok-found-in-Postfix-2.ensures.1;
      same = c.loop-suffix.invariant.same
          ∙ ap (λ (es : List Suffix). run i (chain (value_of v) (map suffix_of es)) (live c.loop-suffix.self.session.now)) next
          ∙ goes value_of i (suffix_value x (value_of v)) (λ w. chain w rest) _ _ c.in_ok-found-in-Postfix-2.found found;
      room = omega arith;
      below = omega arith;
      sound = sound_after i (suffix_value x (value_of v)) _ _ _ found c.loop-suffix.invariant.sound;
      held = suffix_held i x v _ _ c.in_ok-found-in-Postfix-2.found found c.loop-suffix.invariant.sound c.loop-suffix.invariant.held;
    }

pub value-returns-after-loop-suffix : goal.value-returns-after-loop-suffix
value-returns-after-loop-suffix t c =
    (rw (drop_all _ _ c.loop-suffix-test.false) at c.loop-suffix.invariant.same, c.loop-suffix.invariant.stays)

-- ---- lists

pub push_values-returns-in_err-found-in-Single : goal.push_values-returns-in_err-found-in-Single
push_values-returns-in_err-found-in-Single t c =
    let bs = values_of c.args.values.now in (
      rw c.in-Single.is (exits value_of (λ (u : Unit {0}). bs) (inputs_of c.args.self.now.inputs.now.entries) (meaning.value (expr_of c.in-Single.expr)) (λ v. Gives (bs ++ v ∷ [])) _ _ _ _
          c.from_residual.ensures.1 c.in_err-found-in-Single.ensures.0),
      c.in_err-found-in-Single.ensures.1,
    )

pub push_values-push_all-requires : goal.push_values-push_all-requires
push_values-push_all-requires t c =
    let same = elements_in_list c.args.element.now c.in-Nested.elements c.in-Nested.is in
    let size = nodes_of_its_elements c.args.element.now c.in-Nested.elements c.in-Nested.is in
    let room = rw same at c.requires in
    let below = c.decreases in
    rw c.deref.ensures.value (omega arith, omega arith)

pub push_values-returns-in-Nested : goal.push_values-returns-in-Nested
push_values-returns-in-Nested t c =
    let i = inputs_of c.args.self.now.inputs.now.entries in
    let r = live c.args.self.now.session.now in
    let same = elements_in_list c.args.element.now c.in-Nested.elements c.in-Nested.is in (
      ends_alike (λ (u : Unit {0}). values_of c.push_all.new.values) _ _
          (ap (λ x. run i (values_behind (values_of c.args.values.now) (exprs_of_element x)) r) same) (rw c.deref.ensures.value at c.push_all.ensures.0),
      c.push_all.ensures.1,
    )

pub push_values-returns-in_ok-push-in-Single : goal.push_values-returns-in_ok-push-in-Single
push_values-returns-in_ok-push-in-Single t c =
    let bs = values_of c.args.values.now in (
      rw c.in-Single.is (goes value_of (inputs_of c.args.self.now.inputs.now.entries) (meaning.value (expr_of c.in-Single.expr)) (λ v. Gives (bs ++ v ∷ [])) _ _ c.in_ok-found-in-Single.found c.in_ok-found-in-Single.ensures.0
          ∙ ap (λ (l : List model.Value). (Ok l, live c.value.new.self.session.now)) (sym (pushed value_of _ _ _ c.in_ok-push-in-Single.ensures.items))),
      c.in_ok-found-in-Single.ensures.1,
    )

pub push_all-loop-element-init : goal.push_all-loop-element-init
push_all-loop-element-init t c =
    let few = list_others (elements_of (map element_of c.args.elements.now)) in
    record { same = refl; stays = (refl, refl); room = omega (arith, few, c.requires); below = omega arith }

pub push_all-push_values-requires : goal.push_all-push_values-requires
push_all-push_values-requires t c =
    let next = next_item c.args.elements.now c.loop-element.element-index c.element-item.result c.loop-element-test.true c.element-item.is in
    let room = rw next at c.loop-element.invariant.room in
    let below = c.decreases in
    let few = rw next at c.loop-element.invariant.below in
    (omega arith, omega arith)

pub push_all-loop-element-preserved : goal.push_all-loop-element-preserved
push_all-loop-element-preserved t c =
    let i = inputs_of c.args.self.now.inputs.now.entries in
    let x = element_of c.element-item.result in
    let bs = values_of c.loop-element.values in
    let rest = elements_of (map element_of (drop (c.loop-element.element-index + 1) c.args.elements.now)) in
    let next = next_item c.args.elements.now c.loop-element.element-index c.element-item.result c.loop-element-test.true c.element-item.is in
    let room = rw next at c.loop-element.invariant.room in
    let few = rw next at c.loop-element.invariant.below in
    let found = rw c.loop-element.invariant.stays.1 at c.in_ok-push_values.ensures.0 in
    let made = next_behind i bs x _ _ _ found in
    record {
      stays = stays_on c.loop-element.invariant.stays c.in_ok-push_values.ensures.1;
      same = c.loop-element.invariant.same
          ∙ ap (λ (es : List Element). run i (values_behind bs (exprs_in (elements_of (map element_of es)))) (live c.loop-element.self.session.now)) next
          ∙ behind_others i bs (exprs_of_element x) (exprs_in rest) (live c.loop-element.self.session.now)
          ∙ goes (λ (u : Unit {0}). values_of c.push_values.new.values) i (values_behind bs (exprs_of_element x)) (λ found. values_behind found (exprs_in rest)) _ _ _ found;
      room = omega arith;
      below = omega arith;
    }

pub push_all-returns-in_err-push_values : goal.push_all-returns-in_err-push_values
push_all-returns-in_err-push_values t c =
    let i = inputs_of c.args.self.now.inputs.now.entries in
    let x = element_of c.element-item.result in
    let bs = values_of c.loop-element.values in
    let rest = elements_of (map element_of (drop (c.loop-element.element-index + 1) c.args.elements.now)) in
    let next = next_item c.args.elements.now c.loop-element.element-index c.element-item.result c.loop-element-test.true c.element-item.is in (
      ends_alike (λ (u : Unit {0}). values_of c.push_values.new.values) _ _
          (c.loop-element.invariant.same
          ∙ ap (λ (es : List Element). run i (values_behind bs (exprs_in (elements_of (map element_of es)))) (live c.loop-element.self.session.now)) next
          ∙ behind_others i bs (exprs_of_element x) (exprs_in rest) (live c.loop-element.self.session.now))
          (exits (λ (u : Unit {0}). values_of c.push_values.new.values) (λ (u : Unit {0}). values_of c.push_values.new.values) i (values_behind bs (exprs_of_element x)) (λ found. values_behind found (exprs_in rest)) _ _ _ _
          c.from_residual.ensures.1 (rw c.loop-element.invariant.stays.1 at c.in_err-push_values.ensures.0)),
      stays_on c.loop-element.invariant.stays c.in_err-push_values.ensures.1,
    )

pub push_all-returns : goal.push_all-returns
push_all-returns t c =
    let none = drop_all _ _ c.loop-element-test.false in
    let all = rw none at c.loop-element.invariant.same in
    (all ∙ ap (λ (l : List model.Value). (Ok l, live c.loop-element.self.session.now)) (append-nil (values_of c.loop-element.values)), c.loop-element.invariant.stays)

pub list_value-returns-in_err-push_all : goal.list_value-returns-in_err-push_all
list_value-returns-in_err-push_all t c =
    let es = elements_of (map element_of c.args.elements.now) in (
      exits (λ (u : Unit {0}). values_of c.push_all.new.values) value_of (inputs_of c.args.self.now.inputs.now.entries) (values (exprs_in es)) _ _ _ _ _
          c.from_residual.ensures.1 (rw c.new-values.ensures.items at c.in_err-push_all.ensures.0),
      c.in_err-push_all.ensures.1,
    )

pub list_value-make_list-requires : goal.list_value-make_list-requires
list_value-make_list-requires t c =
    let i = inputs_of c.args.self.now.inputs.now.entries in
    let es = elements_of (map element_of c.args.elements.now) in
    let vs = c.push_all.new.values.items in
    let many = as_many i [] (exprs_in es) _ _ _ (rw c.new-values.ensures.items at c.in_ok-push_all.ensures.0) in
    rw c.deref-2.ensures.value (omega (arith, many, many_in es, length-map vs value_of))

pub list_value-returns-in_err-new : goal.list_value-returns-in_err-new
list_value-returns-in_err-new t c =
    let i = inputs_of c.args.self.now.inputs.now.entries in
    let x = Nested (elements_of (map element_of c.args.elements.now)) in
    let d = option_map dtype_of c.args.dtype.now in
    let vs = c.push_all.new.values.items in
    let s = live c.push_all.new.self.session.now in
    let found = rw c.new-values.ensures.items at c.in_ok-push_all.ensures.0 in
    let marks = c.in_ok-mark_operands.ensures ∙ ap (λ vs. all_marked vs s) c.deref.ensures.value in (
      follows (λ (u : Unit {0}). values_of c.push_all.new.values) value_of i (values (exprs_of_element x)) _ _ _ _ c.in_ok-push_all.field-0 _ found
          (ends_alike value_of _ _ (list_parts i x d vs s ∙ ap (run i (decide (array_of_list x d (map unused_of vs)) >>= give)) (sym marks))
          (exits_new i (array_of_list x d (map unused_of vs)) _ _ _ c.from_residual-in_err-new.ensures.1 (rw c.deref-2.ensures.value at c.in_err-new.ensures))),
      c.in_ok-push_all.ensures.1,
    )

pub list_value-give-requires : goal.list_value-give-requires
list_value-give-requires t c =
    let i = inputs_of c.args.self.now.inputs.now.entries in
    let es = elements_of (map element_of c.args.elements.now) in
    let vs = c.push_all.new.values.items in
    let s = live c.push_all.new.self.session.now in
    let room = c.requires in
    let made = next_list i [] es _ _ _ (rw c.new-values.ensures.items at c.in_ok-push_all.ensures.0) in
    let marks = ap (λ (q : Running). q.next) (c.in_ok-mark_operands.ensures ∙ ap (λ vs. all_marked vs s) c.deref.ensures.value) ∙ all_marked_next vs s in
    omega arith

pub list_value-returns : goal.list_value-returns
list_value-returns t c =
    let i = inputs_of c.args.self.now.inputs.now.entries in
    let x = Nested (elements_of (map element_of c.args.elements.now)) in
    let d = option_map dtype_of c.args.dtype.now in
    let vs = c.push_all.new.values.items in
    let s = live c.push_all.new.self.session.now in
    let found = rw c.new-values.ensures.items at c.in_ok-push_all.ensures.0 in
    let marks = c.in_ok-mark_operands.ensures ∙ ap (λ vs. all_marked vs s) c.deref.ensures.value in (
      follows (λ (u : Unit {0}). values_of c.push_all.new.values) value_of i (values (exprs_of_element x)) _ _ _ _ c.in_ok-push_all.field-0 _ found
          (ends_alike value_of _ _ (list_parts i x d vs s ∙ ap (run i (decide (array_of_list x d (map unused_of vs)) >>= give)) (sym marks))
          (follows_new i (array_of_list x d (map unused_of vs)) _ _ c.in_ok-new.new _ (rw c.deref-2.ensures.value at c.in_ok-new.ensures) (rw c.in_ok-push_all.ensures.1.1 at c.give.ensures.0))),
      stays_on c.in_ok-push_all.ensures.1 c.give.ensures.1,
    )

pub array_value-list_value-requires : goal.array_value-list_value-requires
array_value-list_value-requires t c =
    let same = elements_in_list c.args.element.now c.in-Nested.elements c.in-Nested.is in
    let size = nodes_of_its_elements c.args.element.now c.in-Nested.elements c.in-Nested.is in
    let room = rw same at c.requires in
    let below = c.decreases in
    rw c.deref.ensures.value (omega arith, omega arith)

pub array_value-returns-in-Nested : goal.array_value-returns-in-Nested
array_value-returns-in-Nested t c =
    let i = inputs_of c.args.self.now.inputs.now.entries in
    let r = live c.args.self.now.session.now in
    let d = option_map dtype_of c.args.dtype.now in
    let same = elements_in_list c.args.element.now c.in-Nested.elements c.in-Nested.is in
    let es = elements_of (map element_of c.in-Nested.elements.items) in (
      ends_alike value_of _ _ (ap (λ x. run i (meaning.value (Called (NewArray x d))) r) same ∙ list_first i es d r) (rw c.deref.ensures.value at c.list_value.ensures.0),
      c.list_value.ensures.1,
    )

-- ---- calls

pub call_value-filled_value-requires : goal.call_value-filled_value-requires
call_value-filled_value-requires t c =
    let a = c.in-Filled in
    let room = c.requires in
    let whole = ap tokens_of_call (ap call_of a.is ∙ filled_is a.fill a.shape a.dtype) in
    let few = shape_tokens (map expr_of a.shape.items) in
    let size = nodes_of_filled c.args.call.now a.fill a.shape a.dtype a.is in
    let below = c.decreases in
    rw c.deref.ensures.value (omega arith, omega arith)

pub call_value-full_value-requires : goal.call_value-full_value-requires
call_value-full_value-requires t c =
    let a = c.in-Full in
    let room = c.requires in
    let whole = ap tokens_of_call (ap call_of a.is ∙ full_is a.shape a.value a.dtype) in
    let few = shape_tokens (map expr_of a.shape.items) in
    let size = nodes_of_full c.args.call.now a.shape a.value a.dtype a.is in
    let below = c.decreases in
    rw c.deref-in-Full.ensures.value (omega arith, omega arith)

pub call_value-returns-in-Filled : goal.call_value-returns-in-Filled
call_value-returns-in-Filled t c =
    let a = c.in-Filled in
    let i = inputs_of c.args.self.now.inputs.now.entries in
    let r = live c.args.self.now.session.now in
    let same = ap (λ x. run i (meaning.value (Called x)) r) (ap call_of a.is ∙ filled_is a.fill a.shape a.dtype) in (
      ends_alike value_of _ _ (same ∙ filled_first i (fill_of a.fill) (map expr_of a.shape.items) (option_map dtype_of a.dtype) r) (rw c.deref.ensures.value at c.filled_value.ensures.0),
      c.filled_value.ensures.1,
    )

pub call_value-returns-in-Full : goal.call_value-returns-in-Full
call_value-returns-in-Full t c =
    let a = c.in-Full in
    let i = inputs_of c.args.self.now.inputs.now.entries in
    let r = live c.args.self.now.session.now in
    let same = ap (λ x. run i (meaning.value (Called x)) r) (ap call_of a.is ∙ full_is a.shape a.value a.dtype) in (
      ends_alike value_of _ _ (same ∙ full_first i (map expr_of a.shape.items) (expr_of a.value) (option_map dtype_of a.dtype) r) (rw c.deref-in-Full.ensures.value at c.full_value.ensures.0),
      c.full_value.ensures.1,
    )

pub call_value-returns-in-Array : goal.call_value-returns-in-Array
call_value-returns-in-Array t c = rw c.in-Array.is c.array_value.ensures

pub array_value-returns-in-Single : goal.array_value-returns-in-Single
array_value-returns-in-Single t c = rw c.in-Single.is c.value_of_one.ensures

pub call_value-returns-in-Convert : goal.call_value-returns-in-Convert
call_value-returns-in-Convert t c = rw c.in-Convert.is c.value_of_one.ensures

pub call_value-returns-in-Minimum : goal.call_value-returns-in-Minimum
call_value-returns-in-Minimum t c = rw c.in-Minimum.is c.value_of_two.ensures

pub call_value-returns-in-Maximum : goal.call_value-returns-in-Maximum
call_value-returns-in-Maximum t c = rw c.in-Maximum.is c.value_of_two-in-Maximum.ensures

pub call_value-returns-in-Arange : goal.call_value-returns-in-Arange
call_value-returns-in-Arange t c =
    let a = c.in-Arange in
    let i = inputs_of c.args.self.now.inputs.now.entries in
    let r = live c.args.self.now.session.now in
    let same = ap (λ x. run i (meaning.value (Called x)) r) (ap call_of a.is ∙ range_is a.start a.stop a.step a.dtype) in (
      ends_alike value_of _ _ (same ∙ range_first i (bound_of a.start) (expr_of a.stop) (bound_of a.step) (option_map dtype_of a.dtype) r) c.range_value.ensures.0,
      c.range_value.ensures.1,
    )

pub bound_value-returns-in_err-value-in-Some-clause-value : goal.bound_value-returns-in_err-value-in-Some-clause-value
bound_value-returns-in_err-value-in-Some-clause-value t c =
    let e = expr_of c.in-Some.expr in (
      rw c.in-Some.is (exits value_of option_values (inputs_of c.args.self.now.inputs.now.entries) (meaning.value e) (λ v. Gives (v ∷ [])) _ _ _ _
          c.from_residual.ensures.1 c.in_err-value-in-Some.ensures.0),
      c.in_err-value-in-Some.ensures.1,
    )

pub bound_value-returns-in_ok-value-in-Some-clause-value : goal.bound_value-returns-in_ok-value-in-Some-clause-value
bound_value-returns-in_ok-value-in-Some-clause-value t c =
    let e = expr_of c.in-Some.expr in (
      rw c.in-Some.is (goes value_of (inputs_of c.args.self.now.inputs.now.entries) (meaning.value e) (λ v. Gives (v ∷ [])) _ _
          c.in_ok-value-in-Some.field-0 c.in_ok-value-in-Some.ensures.0),
      c.in_ok-value-in-Some.ensures.1,
    )

pub range_value-returns-in_err-start : goal.range_value-returns-in_err-start
range_value-returns-in_err-start t c = (
  exits option_values value_of (inputs_of c.args.self.now.inputs.now.entries) (values (bound_exprs (bound_of c.args.start.now))) _ _ _ _ _
      c.from_residual.ensures.1 c.in_err-start.ensures.value.0,
  c.in_err-start.ensures.value.1,
)

pub range_value-range_from-made-requires : goal.range_value-range_from-made-requires
range_value-range_from-made-requires t c =
    let below = c.decreases in
    let room = c.requires in
    let made = next_bound (inputs_of c.args.self.now.inputs.now.entries) (bound_of c.args.start.now) _ _ _ c.in_ok-start.ensures.value.0 in
    (omega arith, omega arith)

pub range_value-returns : goal.range_value-returns
range_value-returns t c = (
  follows option_values value_of (inputs_of c.args.self.now.inputs.now.entries) (values (bound_exprs (bound_of c.args.start.now))) _ _ _ _ c.in_ok-start.start _ c.in_ok-start.ensures.value.0
      (rw (c.in_ok-start.ensures.value.1.1, c.in_ok-start.ensures.given) at c.range_from-made.ensures.0),
  stays_on c.in_ok-start.ensures.value.1 c.range_from-made.ensures.1,
)

pub range_from-returns-in_err-stop : goal.range_from-returns-in_err-stop
range_from-returns-in_err-stop t c = (
  exits value_of value_of (inputs_of c.args.self.now.inputs.now.entries) (meaning.value (expr_of c.args.stop.now)) _ _ _ _ _
      c.from_residual.ensures.1 c.in_err-stop.ensures.0,
  c.in_err-stop.ensures.1,
)

pub range_from-range_to-made-requires : goal.range_from-range_to-made-requires
range_from-range_to-made-requires t c =
    let below = c.decreases in
    let room = c.requires in
    let made = next_value (inputs_of c.args.self.now.inputs.now.entries) (expr_of c.args.stop.now) _ _ _ c.in_ok-stop.ensures.0 in
    (omega arith, omega arith)

pub range_from-returns : goal.range_from-returns
range_from-returns t c = (
  follows value_of value_of (inputs_of c.args.self.now.inputs.now.entries) (meaning.value (expr_of c.args.stop.now)) _ _ _ _ c.in_ok-stop.stop _ c.in_ok-stop.ensures.0
      (rw c.in_ok-stop.ensures.1.1 at c.range_to-made.ensures.0),
  stays_on c.in_ok-stop.ensures.1 c.range_to-made.ensures.1,
)

pub range_to-returns-in_err-step : goal.range_to-returns-in_err-step
range_to-returns-in_err-step t c = (
  exits option_values value_of (inputs_of c.args.self.now.inputs.now.entries) (values (bound_exprs (bound_of c.args.step.now))) _ _ _ _ _
      c.from_residual.ensures.1 c.in_err-step.ensures.value.0,
  c.in_err-step.ensures.value.1,
)

pub range_to-range_array-made-requires : goal.range_to-range_array-made-requires
range_to-range_array-made-requires t c =
    let room = c.requires in
    let made = next_bound (inputs_of c.args.self.now.inputs.now.entries) (bound_of c.args.step.now) _ _ _ c.in_ok-step.ensures.value.0 in
    omega arith

pub range_to-returns : goal.range_to-returns
range_to-returns t c = (
  follows option_values value_of (inputs_of c.args.self.now.inputs.now.entries) (values (bound_exprs (bound_of c.args.step.now))) _ _ _ _ c.in_ok-step.step _ c.in_ok-step.ensures.value.0
      (rw (c.in_ok-step.ensures.value.1.1, c.in_ok-step.ensures.given) at c.range_array-made.ensures.0),
  stays_on c.in_ok-step.ensures.value.1 c.range_array-made.ensures.1,
)

pub filled_value-values-requires : goal.filled_value-values-requires
filled_value-values-requires t c =
    let below = c.decreases in
    let room = c.requires in
    (omega arith, omega arith)

pub filled_value-returns-in_err-shape : goal.filled_value-returns-in_err-shape
filled_value-returns-in_err-shape t c = (
  exits values_of value_of (inputs_of c.args.self.now.inputs.now.entries) (values (map expr_of c.args.shape.now)) _ _ _ _ _
      c.from_residual.ensures.1 c.in_err-shape.ensures.0,
  c.in_err-shape.ensures.1,
)

pub filled_value-returns-in-Err : goal.filled_value-returns-in-Err
filled_value-returns-in-Err t c =
    let i = inputs_of c.args.self.now.inputs.now.entries in
    let f = fill_of c.args.fill in
    let d = option_map dtype_of c.args.dtype.now in
    let s = live c.values.new.self.session.now in
    let vs = c.in_ok-shape.shape.items in (
      follows values_of value_of i (values (map expr_of c.args.shape.now)) (λ vs. perform (Computes (filled f d)) (unused vs)) (live c.args.self.now.session.now) s s c.in_ok-shape.shape (Err c.in-Err.stop) c.in_ok-shape.ensures.0
          (ends_as value_of i s s (Err c.in-Err.stop) (filled_parts f d vs) (exits_new i (filled f d (map unused_of vs)) s c.in-Err.stop (Err c.in-Err.stop) refl (rw c.deref.ensures.value at c.in-Err.ensures))),
      c.in_ok-shape.ensures.1,
    )

pub filled_value-give-requires : goal.filled_value-give-requires
filled_value-give-requires t c =
    let made = next_values (inputs_of c.args.self.now.inputs.now.entries) (map expr_of c.args.shape.now) _ _ _ c.in_ok-shape.ensures.0 in
    let room = c.requires in
    omega arith

pub filled_value-returns-in-Ok : goal.filled_value-returns-in-Ok
filled_value-returns-in-Ok t c =
    let i = inputs_of c.args.self.now.inputs.now.entries in
    let f = fill_of c.args.fill in
    let d = option_map dtype_of c.args.dtype.now in
    let vs = c.in_ok-shape.shape.items in (
      follows values_of value_of i (values (map expr_of c.args.shape.now)) _ _ _ _ c.in_ok-shape.shape _ c.in_ok-shape.ensures.0
          (ends_as value_of i _ _ _ (filled_parts f d vs)
          (follows_new i (filled f d (map unused_of vs)) _ _ c.in-Ok.new _ (rw c.deref.ensures.value at c.in-Ok.ensures) (rw c.in_ok-shape.ensures.1.1 at c.give.ensures.0))),
      stays_on c.in_ok-shape.ensures.1 c.give.ensures.1,
    )

pub full_value-values-requires : goal.full_value-values-requires
full_value-values-requires t c =
    let below = c.decreases in
    let room = c.requires in
    (omega arith, omega arith)

pub full_value-returns-in_err-shape : goal.full_value-returns-in_err-shape
full_value-returns-in_err-shape t c = (
  exits values_of value_of (inputs_of c.args.self.now.inputs.now.entries) (values (map expr_of c.args.shape.now)) _ _ _ _ _
      c.from_residual.ensures.1 c.in_err-shape.ensures.0,
  c.in_err-shape.ensures.1,
)

pub full_value-full_of_shape-made-requires : goal.full_value-full_of_shape-made-requires
full_value-full_of_shape-made-requires t c =
    let below = c.decreases in
    let room = c.requires in
    let made = next_values (inputs_of c.args.self.now.inputs.now.entries) (map expr_of c.args.shape.now) _ _ _ c.in_ok-shape.ensures.0 in
    (omega arith, omega arith)

pub full_value-returns : goal.full_value-returns
full_value-returns t c = (
  follows values_of value_of (inputs_of c.args.self.now.inputs.now.entries) (values (map expr_of c.args.shape.now)) _ _ _ _ c.in_ok-shape.shape _ c.in_ok-shape.ensures.0
      (rw (c.in_ok-shape.ensures.1.1, c.deref.ensures.value) at c.full_of_shape-made.ensures.0),
  stays_on c.in_ok-shape.ensures.1 c.full_of_shape-made.ensures.1,
)

pub full_of_shape-returns-in_err-value : goal.full_of_shape-returns-in_err-value
full_of_shape-returns-in_err-value t c = (
  exits value_of value_of (inputs_of c.args.self.now.inputs.now.entries) (meaning.value (expr_of c.args.value.now)) _ _ _ _ _
      c.from_residual.ensures.1 c.in_err-value.ensures.0,
  c.in_err-value.ensures.1,
)

pub full_of_shape-full_array-made-requires-clause-held : goal.full_of_shape-full_array-made-requires-clause-held
full_of_shape-full_array-made-requires-clause-held t c =
    value_held (inputs_of c.args.self.now.inputs.now.entries) (expr_of c.args.value.now) _ _ c.in_ok-value.value c.in_ok-value.ensures.0 c.soundness.ensures

pub full_of_shape-full_array-made-requires-clause-room : goal.full_of_shape-full_array-made-requires-clause-room
full_of_shape-full_array-made-requires-clause-room t c =
    let made = next_value (inputs_of c.args.self.now.inputs.now.entries) (expr_of c.args.value.now) _ _ _ c.in_ok-value.ensures.0 in
    omega arith

pub full_of_shape-returns : goal.full_of_shape-returns
full_of_shape-returns t c = (
  follows value_of value_of (inputs_of c.args.self.now.inputs.now.entries) (meaning.value (expr_of c.args.value.now)) _ _ _ _
      c.in_ok-value.value _ c.in_ok-value.ensures.0 (rw c.in_ok-value.ensures.1.1 at c.full_array-made.ensures.0),
  stays_on c.in_ok-value.ensures.1 c.full_array-made.ensures.1,
)

-- ---- expressions from left to right

pub values-loop-expr-init : goal.values-loop-expr-init
values-loop-expr-init t c = record { same = rw c.new-values.ensures.items refl; stays = (refl, refl); room = c.requires; below = omega arith }

pub values-value-requires : goal.values-value-requires
values-value-requires t c =
    let next = next_item c.args.exprs.now c.loop-expr.expr-index c.expr-item.result c.loop-expr-test.true c.expr-item.is in
    let room = rw next at c.loop-expr.invariant.room in
    let left = rw next at c.loop-expr.invariant.below in
    let below = c.decreases in
    (omega arith, omega arith)

pub values-returns-in_err-found : goal.values-returns-in_err-found
values-returns-in_err-found t c =
    let next = next_item c.args.exprs.now c.loop-expr.expr-index c.expr-item.result c.loop-expr-test.true c.expr-item.is in (
      rw (c.loop-expr.invariant.same, next)
          (exits value_of values_of (inputs_of c.args.self.now.inputs.now.entries) (meaning.value (expr_of c.expr-item.result)) _ _ _ _ _ c.from_residual.ensures.1 (rw c.loop-expr.invariant.stays.1 at c.in_err-found.ensures.0)),
      stays_on c.loop-expr.invariant.stays c.in_err-found.ensures.1,
    )

pub values-loop-expr-preserved : goal.values-loop-expr-preserved
values-loop-expr-preserved t c =
    let i = inputs_of c.args.self.now.inputs.now.entries in
    let e = expr_of c.expr-item.result in
    let rest = map expr_of (drop (c.loop-expr.expr-index + 1) c.args.exprs.now) in
    let next = next_item c.args.exprs.now c.loop-expr.expr-index c.expr-item.result c.loop-expr-test.true c.expr-item.is in
    let room = rw next at c.loop-expr.invariant.room in
    let left = rw next at c.loop-expr.invariant.below in
    let found = rw c.loop-expr.invariant.stays.1 at c.in_ok-found.ensures.0 in
    let made = next_value i e _ _ _ found in
    record {
      stays = stays_on c.loop-expr.invariant.stays c.in_ok-found.ensures.1;
      same = c.loop-expr.invariant.same
          ∙ ap (λ (es : List Expr). run i (values_then (map expr_of es) (onto (map value_of c.loop-expr.values.items))) (live c.loop-expr.self.session.now)) next
          ∙ onto_more value_of i (meaning.value e) (values_then rest) (map value_of c.loop-expr.values.items) _ _ c.in_ok-found.found found
          ∙ ap (λ (done : List model.Value). run i (values_then rest (onto done)) (live c.value.new.self.session.now)) (sym (pushed value_of _ _ _ c.in_ok-push.ensures.items));
      room = omega arith;
      below = omega arith;
    }

pub value-chain_value-requires : goal.value-chain_value-requires
value-chain_value-requires t c =
    let same = is_chain c.args.expr.now c.in-Chain.operand c.in-Chain.others c.in-Chain.is in
    let room = rw same at c.requires in
    let size = nodes_of_chain c.args.expr.now c.in-Chain.operand c.in-Chain.others c.in-Chain.is in
    let below = c.decreases in
    rw (c.deref-in-Chain.ensures, c.deref-in-Chain-2.ensures.value) (omega arith, omega arith)

pub value-returns-in-Chain : goal.value-returns-in-Chain
value-returns-in-Chain t c =
    rw (is_chain c.args.expr.now c.in-Chain.operand c.in-Chain.others c.in-Chain.is, ← c.deref-in-Chain.ensures, ← c.deref-in-Chain-2.ensures.value) c.chain_value.ensures

pub value-returns-in-Unary : goal.value-returns-in-Unary
value-returns-in-Unary t c = rw (c.in-Unary.is, ← c.deref.ensures) c.value_of_one.ensures

-- ---- operators

pub binary_value-returns-in-Err : goal.binary_value-returns-in-Err
binary_value-returns-in-Err t c = (
  stops value_of value_of (inputs_of c.args.self.now.inputs.now.entries) (meaning.value (expr_of c.args.right.now)) (operate (made_of_two c.args.call) (value_of c.args.left))
      (live c.args.self.now.session.now) (live c.value.new.self.session.now) c.in-Err.stop c.in-Err.ensures.0,
  c.in-Err.ensures.1,
)

pub binary_value-operate-made-requires-clause-left : goal.binary_value-operate-made-requires-clause-left
binary_value-operate-made-requires-clause-left t c =
    held_after (inputs_of c.args.self.now.inputs.now.entries) (meaning.value (expr_of c.args.right.now)) _ _ _ c.args.left c.in-Ok.ensures.0 c.requires.held

pub binary_value-operate-made-requires-clause-right : goal.binary_value-operate-made-requires-clause-right
binary_value-operate-made-requires-clause-right t c =
    value_held (inputs_of c.args.self.now.inputs.now.entries) (expr_of c.args.right.now) _ _ c.in-Ok.right c.in-Ok.ensures.0 c.soundness.ensures

pub binary_value-operate-made-requires-clause-room : goal.binary_value-operate-made-requires-clause-room
binary_value-operate-made-requires-clause-room t c =
    let made = next_value (inputs_of c.args.self.now.inputs.now.entries) (expr_of c.args.right.now) _ _ _ c.in-Ok.ensures.0 in
    omega arith

pub binary_value-returns-in-Ok : goal.binary_value-returns-in-Ok
binary_value-returns-in-Ok t c = (
  follows value_of value_of (inputs_of c.args.self.now.inputs.now.entries) (meaning.value (expr_of c.args.right.now)) _ _ _ _
      c.in-Ok.right _ c.in-Ok.ensures.0 (rw c.in-Ok.ensures.1.1 at c.operate-made.ensures.0),
  stays_on c.in-Ok.ensures.1 c.operate-made.ensures.1,
)

pub value_of_two-returns-in_err-left : goal.value_of_two-returns-in_err-left
value_of_two-returns-in_err-left t c = (
  exits value_of value_of (inputs_of c.args.self.now.inputs.now.entries) (meaning.value (expr_of c.args.left.now)) _ _ _ _ _
      c.from_residual.ensures.1 c.in_err-left.ensures.0,
  c.in_err-left.ensures.1,
)

pub value_of_two-binary_value-requires : goal.value_of_two-binary_value-requires
value_of_two-binary_value-requires t c =
    let i = inputs_of c.args.self.now.inputs.now.entries in
    let e = expr_of c.args.left.now in
    let below = c.decreases in
    let room = c.requires in
    let made = next_value i e _ _ _ c.in_ok-left.ensures.0 in
    (omega arith, (value_held i e _ _ c.in_ok-left.left c.in_ok-left.ensures.0 c.soundness.ensures, omega arith))

pub value_of_two-returns : goal.value_of_two-returns
value_of_two-returns t c = (
  follows value_of value_of (inputs_of c.args.self.now.inputs.now.entries) (meaning.value (expr_of c.args.left.now)) _ _ _ _
      c.in_ok-left.left _ c.in_ok-left.ensures.0 (rw c.in_ok-left.ensures.1.1 at c.binary_value.ensures.0),
  stays_on c.in_ok-left.ensures.1 c.binary_value.ensures.1,
)

pub chain_value-value-requires : goal.chain_value-value-requires
chain_value-value-requires t c =
    let few = fewer_tokens (expr_of c.args.operand.now) (map operation_of c.args.others.now) in
    let room = c.requires in
    let below = c.decreases in
    (omega arith, omega arith)

pub chain_value-returns-in_err-found : goal.chain_value-returns-in_err-found
chain_value-returns-in_err-found t c = (
  exits_chain (inputs_of c.args.self.now.inputs.now.entries) (expr_of c.args.operand.now) (map operation_of c.args.others.now) _ _ _ _
      c.from_residual.ensures.1 c.in_err-found.ensures.0,
  c.in_err-found.ensures.1,
)

pub chain_value-binary_value-requires : goal.chain_value-binary_value-requires
chain_value-binary_value-requires t c =
    let i = inputs_of c.args.self.now.inputs.now.entries in
    let e = expr_of c.args.operand.now in
    let ops = c.args.others.now in
    let k = c.loop-other.other-index in
    let x = c.other-item.result in
    let so_far = chained e (map operation_of (take k ops)) in
    let next = next_item ops k x c.loop-other-test.true c.other-item.is in
    let left = rw next at c.loop-other.invariant.below in
    let below = c.decreases in
    let made = next_value i so_far _ _ _ c.loop-other.invariant.same in
    let size = ap tokens_of (chain_step ops k x c.loop-other-test.true c.other-item.is e) in
    let few = fewer_tokens (chained e (map operation_of (take (k + 1) ops))) (map operation_of (drop (k + 1) ops)) in
    let whole = ap tokens_of (chain_rest ops k x c.loop-other-test.true c.other-item.is e) in
    let room = c.requires in (
      omega arith,
      (value_held i so_far _ _ c.loop-other.found c.loop-other.invariant.same c.soundness.ensures, omega arith),
    )

pub chain_value-returns-in_err-found-2 : goal.chain_value-returns-in_err-found-2
chain_value-returns-in_err-found-2 t c = (
  exits_later (inputs_of c.args.self.now.inputs.now.entries) (expr_of c.args.operand.now) c.args.others.now c.loop-other.other-index c.other-item.result
      c.loop-other-test.true c.other-item.is c.loop-other.found _ _ (live c.binary_value.new.self.session.now) c.in_err-found-2.field-0.0 _
      c.loop-other.invariant.same c.from_residual-in_err-found-2.ensures.1 (rw c.loop-other.invariant.stays.1 at c.in_err-found-2.ensures.0),
  stays_on c.loop-other.invariant.stays c.in_err-found-2.ensures.1,
)

pub chain_value-loop-other-preserved : goal.chain_value-loop-other-preserved
chain_value-loop-other-preserved t c =
    let i = inputs_of c.args.self.now.inputs.now.entries in
    let e = expr_of c.args.operand.now in
    let ops = c.args.others.now in
    let k = c.loop-other.other-index in
    let x = c.other-item.result in
    let so_far = chained e (map operation_of (take k ops)) in
    let next = next_item ops k x c.loop-other-test.true c.other-item.is in
    let left = rw next at c.loop-other.invariant.below in
    record {
      same = ap (λ f. run i (meaning.value f) (live c.args.self.now.session.now)) (chain_step ops k x c.loop-other-test.true c.other-item.is e)
          ∙ goes value_of i (meaning.value so_far) (λ v. binary_value (binary (operation_of x).0) v (operation_of x).1) _ _ c.loop-other.found c.loop-other.invariant.same
          ∙ rw c.loop-other.invariant.stays.1 at c.in_ok-found-2.ensures.0;
      stays = stays_on c.loop-other.invariant.stays c.in_ok-found-2.ensures.1;
      below = omega arith;
    }

pub index_into-returns-in_err-index : goal.index_into-returns-in_err-index
index_into-returns-in_err-index t c = (
  exits contents.index_of value_of (inputs_of c.args.self.now.inputs.now.entries) (index_parts (index_of c.args.index.now)) _ _ _ _ _
      c.from_residual.ensures.1 c.in_err-index.ensures.0,
  c.in_err-index.ensures.1,
)

pub index_into-choose_value-made-requires-clause-held : goal.index_into-choose_value-made-requires-clause-held
index_into-choose_value-made-requires-clause-held t c =
    held_after (inputs_of c.args.self.now.inputs.now.entries) (index_parts (index_of c.args.index.now)) _ _ _ c.args.found.now c.in_ok-index.ensures.0 c.requires.held

pub index_into-choose_value-made-requires-clause-room : goal.index_into-choose_value-made-requires-clause-room
index_into-choose_value-made-requires-clause-room t c =
    let room = c.requires.room in
    let made = next_index (inputs_of c.args.self.now.inputs.now.entries) (index_of c.args.index.now) _ _ _ c.in_ok-index.ensures.0 in
    omega arith

pub index_into-returns : goal.index_into-returns
index_into-returns t c = (
  follows contents.index_of value_of (inputs_of c.args.self.now.inputs.now.entries) (index_parts (index_of c.args.index.now)) _ _ _ _
      c.in_ok-index.index _ c.in_ok-index.ensures.0 (rw c.in_ok-index.ensures.1.1 at c.choose_value-made.ensures.value.0),
  stays_on c.in_ok-index.ensures.1 c.choose_value-made.ensures.value.1,
)

-- ---- the items of an index

pub index_value-item_values-requires : goal.index_value-item_values-requires
index_value-item_values-requires t c =
    let same = items_in_index c.args.index.now c.in-Items.items c.in-Items.is in
    let room = rw same at c.requires in
    let size = nodes_of_its_items c.args.index.now c.in-Items.items c.in-Items.is in
    let below = c.decreases in
    rw c.deref.ensures.value (omega arith, omega arith)

pub item_values-loop-item-init : goal.item_values-loop-item-init
item_values-loop-item-init t c = record { same = rw c.new-values.ensures.items refl; stays = (refl, refl); room = omega (arith, few_of_items (items_of (map item_of c.args.items.now)), c.requires); below = omega arith }

pub item_values-item_value-requires : goal.item_values-item_value-requires
item_values-item_value-requires t c =
    let next = next_item c.args.items.now c.loop-item.item-index c.item-item.result c.loop-item-test.true c.item-item.is in
    let room = rw next at c.loop-item.invariant.room in
    let left = rw next at c.loop-item.invariant.below in
    let below = c.decreases in
    (omega arith, omega arith)

pub item_values-returns-in_err-found : goal.item_values-returns-in_err-found
item_values-returns-in_err-found t c =
    let next = next_item c.args.items.now c.loop-item.item-index c.item-item.result c.loop-item-test.true c.item-item.is in (
      rw (c.loop-item.invariant.same, next)
          (exits contents.item_of contents.items_of (inputs_of c.args.self.now.inputs.now.entries) (item_parts (item_of c.item-item.result)) _ _ _ _ _ c.from_residual.ensures.1 (rw c.loop-item.invariant.stays.1 at c.in_err-found.ensures.0)),
      stays_on c.loop-item.invariant.stays c.in_err-found.ensures.1,
    )

pub item_values-loop-item-preserved : goal.item_values-loop-item-preserved
item_values-loop-item-preserved t c =
    let i = inputs_of c.args.self.now.inputs.now.entries in
    let e = item_of c.item-item.result in
    let rest = items_of (map item_of (drop (c.loop-item.item-index + 1) c.args.items.now)) in
    let next = next_item c.args.items.now c.loop-item.item-index c.item-item.result c.loop-item-test.true c.item-item.is in
    let room = rw next at c.loop-item.invariant.room in
    let left = rw next at c.loop-item.invariant.below in
    let found = rw c.loop-item.invariant.stays.1 at c.in_ok-found.ensures.0 in
    let made = next_item_parts i e _ _ _ found in
    record {
      stays = stays_on c.loop-item.invariant.stays c.in_ok-found.ensures.1;
      same = c.loop-item.invariant.same
          ∙ ap (λ (xs : List IndexItem). run i (items_then (items_of (map item_of xs)) (onto (map contents.item_of c.loop-item.values.items))) (live c.loop-item.self.session.now)) next
          ∙ onto_more contents.item_of i (item_parts e) (items_then rest) (map contents.item_of c.loop-item.values.items) _ _ c.in_ok-found.found found
          ∙ ap (λ (done : List ItemParts). run i (items_then rest (onto done)) (live c.item_value.new.self.session.now)) (sym (pushed contents.item_of _ _ _ c.in_ok-push.ensures.items));
      room = omega arith;
      below = omega arith;
    }

pub index_value-returns-in_err-items-in-Items : goal.index_value-returns-in_err-items-in-Items
index_value-returns-in_err-items-in-Items t c =
    let i = inputs_of c.args.self.now.inputs.now.entries in
    let same = items_in_index c.args.index.now c.in-Items.items c.in-Items.is in (
      rw same (exits contents.items_of contents.index_of i (items_parts (items_of (map item_of c.in-Items.items.items))) (λ xs. Gives (parts_of_items xs)) _ _ _ _
          c.from_residual.ensures.1 (rw c.deref.ensures.value at c.in_err-items-in-Items.ensures.0)),
      c.in_err-items-in-Items.ensures.1,
    )

pub index_value-returns-in_ok-items-in-Items : goal.index_value-returns-in_ok-items-in-Items
index_value-returns-in_ok-items-in-Items t c =
    let i = inputs_of c.args.self.now.inputs.now.entries in
    let same = items_in_index c.args.index.now c.in-Items.items c.in-Items.is in (
      rw same (goes contents.items_of i (items_parts (items_of (map item_of c.in-Items.items.items))) (λ xs. Gives (parts_of_items xs)) _ _
          c.in_ok-items-in-Items.items (rw c.deref.ensures.value at c.in_ok-items-in-Items.ensures.0)),
      c.in_ok-items-in-Items.ensures.1,
    )

pub list_item-returns-then-is_empty_list : goal.list_item-returns-then-is_empty_list
list_item-returns-then-is_empty_list t c =
    let i = inputs_of c.args.self.now.inputs.now.entries in
    let es = elements_of (map element_of c.args.elements.now) in
    (ap (λ t. run i (as_item t es) (live c.args.self.now.session.now)) (sym c.is_empty_list.ensures ∙ c.if-is_empty_list.true), (refl, refl))

pub list_item-returns-in_err-value : goal.list_item-returns-in_err-value
list_item-returns-in_err-value t c =
    let i = inputs_of c.args.self.now.inputs.now.entries in
    let es = elements_of (map element_of c.args.elements.now) in (
      ends_alike contents.item_of _ _ (ap (λ t. run i (as_item t es) (live c.args.self.now.session.now)) (sym c.is_empty_list.ensures ∙ c.if-is_empty_list.false))
          (exits value_of contents.item_of i (list_value (Nested es) None) (λ v. Gives (AtForm, (ArraysOnly, v) ∷ [])) _ _ _ _ c.from_residual.ensures.1 c.in_err-value.ensures.0),
      c.in_err-value.ensures.1,
    )

pub list_item-returns : goal.list_item-returns
list_item-returns t c =
    let i = inputs_of c.args.self.now.inputs.now.entries in
    let es = elements_of (map element_of c.args.elements.now) in (
      ap (λ t. run i (as_item t es) (live c.args.self.now.session.now)) (sym c.is_empty_list.ensures ∙ c.if-is_empty_list.false)
          ∙ goes value_of i (list_value (Nested es) None) (λ v. Gives (AtForm, (ArraysOnly, v) ∷ [])) _ _ c.in_ok-value.value c.in_ok-value.ensures.0,
      c.in_ok-value.ensures.1,
    )

pub item_value-list_item-requires : goal.item_value-list_item-requires
item_value-list_item-requires t c =
    let same = list_in_items c.args.item.now c.in-List.elements c.in-List.is in
    let size = nodes_of_list c.args.item.now c.in-List.elements c.in-List.is in
    let room = rw same at c.requires in
    let below = c.decreases in
    rw c.deref.ensures.value (omega arith, omega arith)

pub item_value-returns-in-List : goal.item_value-returns-in-List
item_value-returns-in-List t c =
    let same = list_in_items c.args.item.now c.in-List.elements c.in-List.is in
    (rw same (rw c.deref.ensures.value at c.list_item.ensures.0), c.list_item.ensures.1)

pub item_value-returns-in_err-value-in-At : goal.item_value-returns-in_err-value-in-At
item_value-returns-in_err-value-in-At t c = (
  rw c.in-At.is (exits value_of contents.item_of (inputs_of c.args.self.now.inputs.now.entries) (meaning.value (expr_of c.in-At.expr)) (λ v. Gives (AtForm, (ArraysOnly, v) ∷ [])) _ _ _ _
      c.from_residual.ensures.1 c.in_err-value-in-At.ensures.0),
  c.in_err-value-in-At.ensures.1,
)

pub item_value-returns-in_ok-value-in-At : goal.item_value-returns-in_ok-value-in-At
item_value-returns-in_ok-value-in-At t c = (
  rw c.in-At.is (goes value_of (inputs_of c.args.self.now.inputs.now.entries) (meaning.value (expr_of c.in-At.expr)) (λ v. Gives (AtForm, (ArraysOnly, v) ∷ [])) _ _
      c.in_ok-value-in-At.value c.in_ok-value-in-At.ensures.0),
  c.in_ok-value-in-At.ensures.1,
)

pub item_value-returns-in_err-start-in-Slice : goal.item_value-returns-in_err-start-in-Slice
item_value-returns-in_err-start-in-Slice t c =
    let i = inputs_of c.args.self.now.inputs.now.entries in
    let s = c.in-Slice in
    let same = ap item_of s.is ∙ slice_is s.start s.stop s.step in (
      ends_alike contents.item_of _ _ (ap (λ x. run i (item_parts x) (live c.args.self.now.session.now)) same)
          (exits option_values contents.item_of i (values (bound_exprs (bound_of s.start))) _ _ _ _ _ c.from_residual-in_err-start-in-Slice.ensures.1 c.in_err-start-in-Slice.ensures.value.0),
      c.in_err-start-in-Slice.ensures.value.1,
    )

pub item_value-slice_from-requires : goal.item_value-slice_from-requires
item_value-slice_from-requires t c =
    let i = inputs_of c.args.self.now.inputs.now.entries in
    let s = c.in-Slice in
    let same = ap item_of s.is ∙ slice_is s.start s.stop s.step in
    let size = ap nodes_of_item s.is ∙ nodes_of_slice s.start s.stop s.step in
    let room = rw same at c.requires in
    let below = c.decreases in
    let more = step_more (bound_of s.step) in
    let first = next_bound i (bound_of s.start) _ _ _ c.in_ok-start-in-Slice.ensures.value.0 in
    (omega arith, omega arith)

pub item_value-returns-in_ok-start-in-Slice : goal.item_value-returns-in_ok-start-in-Slice
item_value-returns-in_ok-start-in-Slice t c =
    let i = inputs_of c.args.self.now.inputs.now.entries in
    let s = c.in-Slice in
    let same = ap item_of s.is ∙ slice_is s.start s.stop s.step in
    let first = c.in_ok-start-in-Slice in (
      ends_alike contents.item_of _ _ (ap (λ x. run i (item_parts x) (live c.args.self.now.session.now)) same)
          (follows option_values contents.item_of i (values (bound_exprs (bound_of s.start))) _ _ _ _ first.start _ first.ensures.value.0
          (rw (first.ensures.value.1.1, first.ensures.given) at c.slice_from.ensures.0)),
      stays_on first.ensures.value.1 c.slice_from.ensures.1,
    )

pub slice_from-returns-in-Err : goal.slice_from-returns-in-Err
slice_from-returns-in-Err t c =
    let a = c.args.start in
    let b = bound_of c.args.stop.now in (
      stops option_values contents.item_of (inputs_of c.args.self.now.inputs.now.entries) (values (bound_exprs b)) (λ ys. slice_to (is_some a) (is_given b) (option_values a) ys (bound_of c.args.step.now))
          (live c.args.self.now.session.now) (live c.bound_value.new.self.session.now) c.in-Err.fault c.in-Err.ensures.value.0,
      c.in-Err.ensures.value.1,
    )

pub slice_from-slice_to-requires : goal.slice_from-slice_to-requires
slice_from-slice_to-requires t c =
    let below = c.decreases in
    let room = c.requires in
    let made = next_bound (inputs_of c.args.self.now.inputs.now.entries) (bound_of c.args.stop.now) _ _ _ c.in-Ok.ensures.value.0 in
    (omega arith, omega arith)

pub slice_from-returns-in-Ok : goal.slice_from-returns-in-Ok
slice_from-returns-in-Ok t c = (
  follows option_values contents.item_of (inputs_of c.args.self.now.inputs.now.entries) (values (bound_exprs (bound_of c.args.stop.now))) _ _ _ _ c.in-Ok.stop _ c.in-Ok.ensures.value.0
      (rw (c.in-Ok.ensures.value.1.1, c.in-Ok.ensures.given) at c.slice_to.ensures.0),
  stays_on c.in-Ok.ensures.value.1 c.slice_to.ensures.1,
)

pub slice_to-returns-in-Err : goal.slice_to-returns-in-Err
slice_to-returns-in-Err t c =
    let a = c.args.start in
    let b = c.args.stop in
    let e = bound_of c.args.step.now in (
      stops option_values contents.item_of (inputs_of c.args.self.now.inputs.now.entries) (values (bound_exprs e)) (λ zs. Gives (SliceForm (is_some a) (is_some b) (is_given e), unused (option_values a ++ option_values b ++ zs)))
          (live c.args.self.now.session.now) (live c.bound_value.new.self.session.now) c.in-Err.fault c.in-Err.ensures.value.0,
      c.in-Err.ensures.value.1,
    )

pub slice_to-returns-in-Ok : goal.slice_to-returns-in-Ok
slice_to-returns-in-Ok t c =
    let a = c.args.start in
    let b = c.args.stop in
    let e = bound_of c.args.step.now in (
      goes option_values (inputs_of c.args.self.now.inputs.now.entries) (values (bound_exprs e)) (λ zs. Gives (SliceForm (is_some a) (is_some b) (is_given e), unused (option_values a ++ option_values b ++ zs))) _ _
          c.in-Ok.step c.in-Ok.ensures.value.0
          ∙ slice_seen _ _ _ _ a b c.in-Ok.step refl refl c.in-Ok.ensures.given,
      c.in-Ok.ensures.value.1,
    )

-- ---- methods that give a view, and `np.broadcast_to`

pub call_value-stretched_value-requires : goal.call_value-stretched_value-requires
call_value-stretched_value-requires t c =
    let a = c.in-BroadcastTo in
    let room = c.requires in
    let whole = ap tokens_of_call (ap call_of a.is ∙ broadcast_is a.operand a.shape) in
    let few = shape_tokens (map expr_of a.shape.items) in
    let size = nodes_of_stretched c.args.call.now a.operand a.shape a.is in
    let below = c.decreases in
    rw c.deref-in-BroadcastTo.ensures.value (omega arith, omega arith)

pub call_value-returns-in-BroadcastTo : goal.call_value-returns-in-BroadcastTo
call_value-returns-in-BroadcastTo t c =
    let a = c.in-BroadcastTo in
    let i = inputs_of c.args.self.now.inputs.now.entries in
    let r = live c.args.self.now.session.now in
    let same = ap (λ x. run i (meaning.value (Called x)) r) (ap call_of a.is ∙ broadcast_is a.operand a.shape) in (
      ends_alike value_of _ _ (same ∙ stretched_first i (expr_of a.operand) (map expr_of a.shape.items) r) (rw c.deref-in-BroadcastTo.ensures.value at c.stretched_value.ensures.0),
      c.stretched_value.ensures.1,
    )

pub stretched_value-value-requires : goal.stretched_value-value-requires
stretched_value-value-requires t c =
    let below = c.decreases in
    let room = c.requires in
    (omega arith, omega arith)

pub stretched_value-returns-in_err-found : goal.stretched_value-returns-in_err-found
stretched_value-returns-in_err-found t c = (
  exits value_of value_of (inputs_of c.args.self.now.inputs.now.entries) (meaning.value (expr_of c.args.operand.now)) _ _ _ _ _
      c.from_residual.ensures.1 c.in_err-found.ensures.0,
  c.in_err-found.ensures.1,
)

pub stretched_value-stretch_by-made-requires : goal.stretched_value-stretch_by-made-requires
stretched_value-stretch_by-made-requires t c =
    let i = inputs_of c.args.self.now.inputs.now.entries in
    let e = expr_of c.args.operand.now in
    let below = c.decreases in
    let room = c.requires in
    let made = next_value i e _ _ _ c.in_ok-found.ensures.0 in
    (omega arith, (value_held i e _ _ c.in_ok-found.found c.in_ok-found.ensures.0 c.soundness.ensures, omega arith))

pub stretched_value-returns : goal.stretched_value-returns
stretched_value-returns t c = (
  follows value_of value_of (inputs_of c.args.self.now.inputs.now.entries) (meaning.value (expr_of c.args.operand.now)) _ _ _ _ c.in_ok-found.found _ c.in_ok-found.ensures.0
      (rw c.in_ok-found.ensures.1.1 at c.stretch_by-made.ensures.0),
  stays_on c.in_ok-found.ensures.1 c.stretch_by-made.ensures.1,
)

pub stretch_by-values-requires : goal.stretch_by-values-requires
stretch_by-values-requires t c =
    let below = c.decreases in
    let room = c.requires.room in
    (omega arith, omega arith)

pub stretch_by-returns-in_err-shape : goal.stretch_by-returns-in_err-shape
stretch_by-returns-in_err-shape t c = (
  exits values_of value_of (inputs_of c.args.self.now.inputs.now.entries) (values (map expr_of c.args.shape.now)) _ _ _ _ _
      c.from_residual.ensures.1 c.in_err-shape.ensures.0,
  c.in_err-shape.ensures.1,
)

pub stretch_by-stretch_value-made-requires-clause-held : goal.stretch_by-stretch_value-made-requires-clause-held
stretch_by-stretch_value-made-requires-clause-held t c =
    held_after (inputs_of c.args.self.now.inputs.now.entries) (values (map expr_of c.args.shape.now)) _ _ _ c.args.found.now c.in_ok-shape.ensures.0 c.requires.held

pub stretch_by-stretch_value-made-requires-clause-room : goal.stretch_by-stretch_value-made-requires-clause-room
stretch_by-stretch_value-made-requires-clause-room t c =
    let room = c.requires.room in
    let made = next_values (inputs_of c.args.self.now.inputs.now.entries) (map expr_of c.args.shape.now) _ _ _ c.in_ok-shape.ensures.0 in
    omega arith

pub stretch_by-returns : goal.stretch_by-returns
stretch_by-returns t c = (
  follows values_of value_of (inputs_of c.args.self.now.inputs.now.entries) (values (map expr_of c.args.shape.now)) _ _ _ _ c.in_ok-shape.shape _ c.in_ok-shape.ensures.0
      (rw (c.in_ok-shape.ensures.1.1, c.deref.ensures.value) at c.stretch_value-made.ensures.0),
  stays_on c.in_ok-shape.ensures.1 c.stretch_value-made.ensures.1,
)

pub suffix_value-method_value-made-requires : goal.suffix_value-method_value-made-requires
suffix_value-method_value-made-requires t c =
    let held = c.requires.held in
    let room = rw c.in-Method.is at c.requires.room in
    let below = rw c.in-Method.is at c.decreases in
    (omega arith, (held, omega arith))

pub method_value-viewed_value-requires : goal.method_value-viewed_value-requires
method_value-viewed_value-requires t c =
    let a = c.in-Transpose in
    let room = c.requires.room in
    let whole = ap tokens_of_method (ap method_of a.is ∙ transpose_is a.axes) in
    let few = transposed_tokens (map expr_of a.axes.items) in
    let size = nodes_of_transposed c.args.method.now a.axes a.is in
    let below = c.decreases in
    rw c.deref.ensures.value (omega arith, (c.requires.held, omega arith))

pub method_value-viewed_value-requires-in-Reshape : goal.method_value-viewed_value-requires-in-Reshape
method_value-viewed_value-requires-in-Reshape t c =
    let a = c.in-Reshape in
    let room = c.requires.room in
    let whole = ap tokens_of_method (ap method_of a.is ∙ reshape_is a.shape) in
    let few = reshaped_tokens (map expr_of a.shape.items) in
    let size = nodes_of_reshaped c.args.method.now a.shape a.is in
    let below = c.decreases in
    rw c.deref-in-Reshape.ensures.value (omega arith, (c.requires.held, omega arith))

pub method_value-returns-in-Transpose : goal.method_value-returns-in-Transpose
method_value-returns-in-Transpose t c =
    let a = c.in-Transpose in
    let i = inputs_of c.args.self.now.inputs.now.entries in
    let r = live c.args.self.now.session.now in
    let v = value_of c.args.found.now in
    let same = ap (λ m. run i (method_value m v) r) (ap method_of a.is ∙ transpose_is a.axes)
    ∙ ap (λ es. run i (viewed_value viewing.Transposed es v) r) (listed_is (map expr_of a.axes.items)) in (
      ends_alike value_of _ _ same (rw c.deref.ensures.value at c.viewed_value.ensures.0),
      c.viewed_value.ensures.1,
    )

pub method_value-returns-in-Reshape : goal.method_value-returns-in-Reshape
method_value-returns-in-Reshape t c =
    let a = c.in-Reshape in
    let i = inputs_of c.args.self.now.inputs.now.entries in
    let r = live c.args.self.now.session.now in
    let v = value_of c.args.found.now in
    let same = ap (λ m. run i (method_value m v) r) (ap method_of a.is ∙ reshape_is a.shape)
    ∙ ap (λ es. run i (viewed_value viewing.Reshaped es v) r) (listed_is (map expr_of a.shape.items)) in (
      ends_alike value_of _ _ same (rw c.deref-in-Reshape.ensures.value at c.viewed_value-in-Reshape.ensures.0),
      c.viewed_value-in-Reshape.ensures.1,
    )

pub viewed_value-values-requires : goal.viewed_value-values-requires
viewed_value-values-requires t c =
    let below = c.decreases in
    let room = c.requires.room in
    (omega arith, omega arith)

pub viewed_value-returns-in_err-others : goal.viewed_value-returns-in_err-others
viewed_value-returns-in_err-others t c = (
  exits values_of value_of (inputs_of c.args.self.now.inputs.now.entries) (values (map expr_of c.args.exprs.now)) _ _ _ _ _
      c.from_residual.ensures.1 c.in_err-others.ensures.0,
  c.in_err-others.ensures.1,
)

pub viewed_value-view_value-made-requires-clause-held : goal.viewed_value-view_value-made-requires-clause-held
viewed_value-view_value-made-requires-clause-held t c =
    held_after (inputs_of c.args.self.now.inputs.now.entries) (values (map expr_of c.args.exprs.now)) _ _ _ c.args.found.now c.in_ok-others.ensures.0 c.requires.held

pub viewed_value-view_value-made-requires-clause-room : goal.viewed_value-view_value-made-requires-clause-room
viewed_value-view_value-made-requires-clause-room t c =
    let room = c.requires.room in
    let made = next_values (inputs_of c.args.self.now.inputs.now.entries) (map expr_of c.args.exprs.now) _ _ _ c.in_ok-others.ensures.0 in
    omega arith

pub viewed_value-returns : goal.viewed_value-returns
viewed_value-returns t c = (
  follows values_of value_of (inputs_of c.args.self.now.inputs.now.entries) (values (map expr_of c.args.exprs.now)) _ _ _ _ c.in_ok-others.others _ c.in_ok-others.ensures.0
      (rw (c.in_ok-others.ensures.1.1, c.deref.ensures.value) at c.view_value-made.ensures.0),
  stays_on c.in_ok-others.ensures.1 c.view_value-made.ensures.1,
)

-- ---- folds

pub fold_at-returns-in_err-axis : goal.fold_at-returns-in_err-axis
fold_at-returns-in_err-axis t c = (
  exits value_of value_of (inputs_of c.args.self.now.inputs.now.entries) (meaning.value (expr_of c.args.axis.now)) _ _ _ _ _
      c.from_residual.ensures.1 c.in_err-axis.ensures.0,
  c.in_err-axis.ensures.1,
)

pub fold_at-fold_along-made-requires-clause-found : goal.fold_at-fold_along-made-requires-clause-found
fold_at-fold_along-made-requires-clause-found t c =
    held_after (inputs_of c.args.self.now.inputs.now.entries) (meaning.value (expr_of c.args.axis.now)) _ _ _ c.args.found.now c.in_ok-axis.ensures.0 c.requires.held

pub fold_at-fold_along-made-requires-clause-axis : goal.fold_at-fold_along-made-requires-clause-axis
fold_at-fold_along-made-requires-clause-axis t c =
    value_held (inputs_of c.args.self.now.inputs.now.entries) (expr_of c.args.axis.now) _ _ c.in_ok-axis.axis c.in_ok-axis.ensures.0 c.soundness.ensures

pub fold_at-fold_along-made-requires-clause-room : goal.fold_at-fold_along-made-requires-clause-room
fold_at-fold_along-made-requires-clause-room t c =
    let made = next_value (inputs_of c.args.self.now.inputs.now.entries) (expr_of c.args.axis.now) _ _ _ c.in_ok-axis.ensures.0 in
    omega arith

pub fold_at-returns : goal.fold_at-returns
fold_at-returns t c = (
  follows value_of value_of (inputs_of c.args.self.now.inputs.now.entries) (meaning.value (expr_of c.args.axis.now)) _ _ _ _
      c.in_ok-axis.axis _ c.in_ok-axis.ensures.0 (rw c.in_ok-axis.ensures.1.1 at c.fold_along-made.ensures.0),
  stays_on c.in_ok-axis.ensures.1 c.fold_along-made.ensures.1,
)

pub call_value-returns-in-Fold : goal.call_value-returns-in-Fold
call_value-returns-in-Fold t c =
    let a = c.in-Fold in
    let i = inputs_of c.args.self.now.inputs.now.entries in
    let r = live c.args.self.now.session.now in
    let same = ap (λ x. run i (meaning.value (Called (call_of x))) r) a.is in (
      ends_alike value_of _ _ (same ∙ fold_first i (ufunc_of a.ufunc) (fold_of a.call) r) c.fold_call.ensures.0,
      c.fold_call.ensures.1,
    )

pub fold_call-returns-in_err-found-in-Reduce : goal.fold_call-returns-in_err-found-in-Reduce
fold_call-returns-in_err-found-in-Reduce t c =
    let i = inputs_of c.args.self.now.inputs.now.entries in
    let same = ap (λ x. run i (fold_call (ufunc_of c.args.ufunc) (fold_of x)) (live c.args.self.now.session.now)) c.in-Reduce.is in (
      ends_alike value_of _ _ same (exits value_of value_of i (meaning.value (expr_of c.in-Reduce.operand)) _ _ _ _ _
          c.from_residual.ensures.1 c.in_err-found-in-Reduce.ensures.0),
      c.in_err-found-in-Reduce.ensures.1,
    )

pub fold_call-reduction_value-made-requires : goal.fold_call-reduction_value-made-requires
fold_call-reduction_value-made-requires t c =
    let a = c.in-Reduce in
    let i = inputs_of c.args.self.now.inputs.now.entries in
    let e = expr_of a.operand in
    let room = rw a.is at c.requires in
    let size = ap nodes_of_fold a.is in
    let below = c.decreases in
    let few = axis_behind (axis_of a.axis) in
    let made = next_value i e _ _ _ c.in_ok-found-in-Reduce.ensures.0 in
    (omega arith, (value_held i e _ _ c.in_ok-found-in-Reduce.found c.in_ok-found-in-Reduce.ensures.0 c.soundness.ensures, omega arith))

pub fold_call-returns-in_ok-found-in-Reduce : goal.fold_call-returns-in_ok-found-in-Reduce
fold_call-returns-in_ok-found-in-Reduce t c =
    let i = inputs_of c.args.self.now.inputs.now.entries in
    let found = c.in_ok-found-in-Reduce in
    let same = ap (λ x. run i (fold_call (ufunc_of c.args.ufunc) (fold_of x)) (live c.args.self.now.session.now)) c.in-Reduce.is in (
      ends_alike value_of _ _ same (follows value_of value_of i (meaning.value (expr_of c.in-Reduce.operand)) _ _ _ _
          found.found _ found.ensures.0 (rw found.ensures.1.1 at c.reduction_value-made.ensures.0)),
      stays_on found.ensures.1 c.reduction_value-made.ensures.1,
    )

pub fold_call-returns-in_err-found-in-Accumulate : goal.fold_call-returns-in_err-found-in-Accumulate
fold_call-returns-in_err-found-in-Accumulate t c =
    let a = c.in-Accumulate in
    let i = inputs_of c.args.self.now.inputs.now.entries in
    let same = ap (λ x. run i (fold_call (ufunc_of c.args.ufunc) x) (live c.args.self.now.session.now)) (ap fold_of a.is ∙ accumulate_is a.operand a.axis) in (
      ends_alike value_of _ _ same (exits value_of value_of i (meaning.value (expr_of a.operand)) _ _ _ _ _
          c.from_residual-in_err-found-in-Accumulate.ensures.1 c.in_err-found-in-Accumulate.ensures.0),
      c.in_err-found-in-Accumulate.ensures.1,
    )

pub fold_call-accumulation_value-made-requires : goal.fold_call-accumulation_value-made-requires
fold_call-accumulation_value-made-requires t c =
    let a = c.in-Accumulate in
    let i = inputs_of c.args.self.now.inputs.now.entries in
    let e = expr_of a.operand in
    let whole = ap tokens_of_fold (ap fold_of a.is ∙ accumulate_is a.operand a.axis) in
    let room = c.requires in
    let size = nodes_of_accumulate c.args.call.now a.operand a.axis a.is in
    let below = c.decreases in
    let few = bound_behind (bound_of a.axis) in
    let made = next_value i e _ _ _ c.in_ok-found-in-Accumulate.ensures.0 in
    (omega arith, (value_held i e _ _ c.in_ok-found-in-Accumulate.found c.in_ok-found-in-Accumulate.ensures.0 c.soundness.ensures, omega arith))

pub fold_call-returns-in_ok-found-in-Accumulate : goal.fold_call-returns-in_ok-found-in-Accumulate
fold_call-returns-in_ok-found-in-Accumulate t c =
    let a = c.in-Accumulate in
    let i = inputs_of c.args.self.now.inputs.now.entries in
    let found = c.in_ok-found-in-Accumulate in
    let same = ap (λ x. run i (fold_call (ufunc_of c.args.ufunc) x) (live c.args.self.now.session.now)) (ap fold_of a.is ∙ accumulate_is a.operand a.axis) in (
      ends_alike value_of _ _ same (follows value_of value_of i (meaning.value (expr_of a.operand)) _ _ _ _
          found.found _ found.ensures.0 (rw found.ensures.1.1 at c.accumulation_value-made.ensures.0)),
      stays_on found.ensures.1 c.accumulation_value-made.ensures.1,
    )

pub method_value-accumulation_value-requires : goal.method_value-accumulation_value-requires
method_value-accumulation_value-requires t c =
    let a = c.in-Accumulate in
    let room = c.requires.room in
    let whole = ap tokens_of_method (ap method_of a.is ∙ accumulated_is a.accumulation a.axis) in
    let few = accumulated_tokens (accumulation_of a.accumulation) (bound_of a.axis) in
    let size = nodes_of_accumulated c.args.method.now a.accumulation a.axis a.is in
    let below = c.decreases in
    (omega arith, (c.requires.held, omega arith))
