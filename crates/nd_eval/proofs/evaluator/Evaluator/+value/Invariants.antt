use Rattle.std.proofs.Common.{◌≡◌, ◌+◌, ◌<◌, ◌≤◌, ◌^◌, Ok, map, take, drop}
use Rattle.nd_model.specs.Grammar.Cells.{chained, elements_of, items_of}
use Rattle.nd_model.specs.Cells.Sound.{IsSound}
use Rattle.nd_model.specs.Cells.Evaluation.{run}
use Rattle.nd_model.specs.Cells.Meaning as meaning
use Rattle.nd_model.specs.Grammar.Tokens.{tokens_of_all, tokens_of_items, tokens_of_others}
use Rattle.nd_syntax.specs.Trees.Lists.{operation_of}
use Rattle.nd_syntax.specs.Trees.Syntax.{element_of, expr_of, item_of, suffix_of}
use Rattle.nd_heap.specs.Values.{value_of}
use Rattle.nd_session.specs.Inputs.Values.{inputs_of}
use Rattle.nd_session.specs.Session.Live.{live}
use Rattle.nd_eval.specs.Ends.{Stays}
use Rattle.nd_eval.specs.Parts.{exprs_in, items_parts, items_then, values, values_behind, values_then}
use Rattle.nd_eval.specs.Contents as contents
use Rattle.nd_eval.specs.Contents.{values_of}
use Rattle.nd_eval.specs.Uses.{IsHeld}
use Rattle.nd_eval.proofs.InTurn.{onto}
use Rattle.nd_eval.proofs.Indexing.{chain, chain_tokens, nodes, nodes_of_axis, nodes_of_fold, nodes_of_bound, nodes_of_call, nodes_of_element, nodes_of_elements, nodes_of_method, nodes_of_suffix, nodes_of_exprs, nodes_of_index, nodes_of_items, nodes_of_item, nodes_of_all, nodes_of_operations}
use Rattle.nd_eval.proofs.evaluator.Evaluator.+value.Given as goal

abbrev pub decreases-value : goal.decreases-value
decreases-value l = nodes l.expr.now

abbrev pub decreases-value_of_one : goal.decreases-value_of_one
decreases-value_of_one l = 1 + nodes l.operand.now

abbrev pub decreases-value_of_two : goal.decreases-value_of_two
decreases-value_of_two l = 2 + nodes l.left.now + nodes l.right.now

abbrev pub decreases-bound_value : goal.decreases-bound_value
decreases-bound_value l = nodes_of_bound l.bound.now

abbrev pub decreases-range_value : goal.decreases-range_value
decreases-range_value l = 3 + nodes_of_bound l.start.now + nodes l.stop.now + nodes_of_bound l.step.now

abbrev pub decreases-range_from : goal.decreases-range_from
decreases-range_from l = 2 + nodes l.stop.now + nodes_of_bound l.step.now

abbrev pub decreases-range_to : goal.decreases-range_to
decreases-range_to l = 1 + nodes_of_bound l.step.now

abbrev pub decreases-filled_value : goal.decreases-filled_value
decreases-filled_value l = 2 + nodes_of_exprs l.shape.now

abbrev pub decreases-full_value : goal.decreases-full_value
decreases-full_value l = 2 + nodes_of_exprs l.shape.now + nodes l.value.now

abbrev pub decreases-full_of_shape : goal.decreases-full_of_shape
decreases-full_of_shape l = 1 + nodes l.value.now

abbrev pub decreases-array_value : goal.decreases-array_value
decreases-array_value l = 2 + nodes_of_element l.element.now

abbrev pub decreases-list_value : goal.decreases-list_value
decreases-list_value l = 1 + nodes_of_elements l.elements.now

abbrev pub decreases-push_all : goal.decreases-push_all
decreases-push_all l = nodes_of_elements l.elements.now

abbrev pub decreases-list_item : goal.decreases-list_item
decreases-list_item l = 2 + nodes_of_elements l.elements.now

abbrev pub decreases-push_values : goal.decreases-push_values
decreases-push_values l = nodes_of_element l.element.now

abbrev pub decreases-suffix_value : goal.decreases-suffix_value
decreases-suffix_value l = nodes_of_suffix l.suffix.now

abbrev pub decreases-method_value : goal.decreases-method_value
decreases-method_value l = nodes_of_method l.method.now

abbrev pub decreases-fold_at : goal.decreases-fold_at
decreases-fold_at l = 1 + nodes l.axis.now

abbrev pub decreases-reduction_value : goal.decreases-reduction_value
decreases-reduction_value l = 1 + nodes_of_axis l.axis.now

abbrev pub decreases-accumulation_value : goal.decreases-accumulation_value
decreases-accumulation_value l = 2 + nodes_of_bound l.axis.now

abbrev pub decreases-fold_call : goal.decreases-fold_call
decreases-fold_call l = nodes_of_fold l.call.now

abbrev pub decreases-viewed_value : goal.decreases-viewed_value
decreases-viewed_value l = 2 + nodes_of_exprs l.exprs.now

abbrev pub decreases-stretched_value : goal.decreases-stretched_value
decreases-stretched_value l = 3 + nodes l.operand.now + nodes_of_exprs l.shape.now

abbrev pub decreases-stretch_by : goal.decreases-stretch_by
decreases-stretch_by l = 2 + nodes_of_exprs l.shape.now

abbrev pub decreases-values : goal.decreases-values
decreases-values l = 1 + nodes_of_exprs l.exprs.now

abbrev pub decreases-chain_value : goal.decreases-chain_value
decreases-chain_value l = 1 + nodes l.operand.now + nodes_of_operations l.others.now

abbrev pub decreases-binary_value : goal.decreases-binary_value
decreases-binary_value l = 1 + nodes l.right.now

abbrev pub decreases-index_into : goal.decreases-index_into
decreases-index_into l = 1 + nodes_of_index l.index.now

abbrev pub decreases-call_value : goal.decreases-call_value
decreases-call_value l = nodes_of_call l.call.now

abbrev pub decreases-index_value : goal.decreases-index_value
decreases-index_value l = nodes_of_index l.index.now

abbrev pub decreases-item_values : goal.decreases-item_values
decreases-item_values l = 1 + nodes_of_items l.items.now

abbrev pub decreases-slice_from : goal.decreases-slice_from
decreases-slice_from l = 2 + nodes_of_bound l.stop.now + nodes_of_bound l.step.now

abbrev pub decreases-slice_to : goal.decreases-slice_to
decreases-slice_to l = 1 + nodes_of_bound l.step.now

abbrev pub decreases-item_value : goal.decreases-item_value
decreases-item_value l = nodes_of_item l.item.now

abbrev pub invariant-value-loop-suffix : goal.invariant-value-loop-suffix
invariant-value-loop-suffix l =
    let left = map suffix_of (drop l.suffix-index l.suffix-items) in
    record {
      same : run (inputs_of l.fn.self.inputs.now.entries) (meaning.value (expr_of l.expr)) (live l.fn.self.session.now)
          ≡ run (inputs_of l.fn.self.inputs.now.entries) (chain (value_of l.found) left) (live l.self.session.now);
      stays : Stays l.fn.self l.self;
      room : (live l.self.session.now).next + chain_tokens left < 2 ^ 64;
      below : nodes_of_all (drop l.suffix-index l.suffix-items) < nodes l.expr;
      sound : IsSound (live l.self.session.now);
      held : IsHeld (live l.self.session.now) l.found;
    }

-- the values so far, and those of the elements that are left
abbrev pub invariant-push_all-loop-element : goal.invariant-push_all-loop-element
invariant-push_all-loop-element l =
    let left = elements_of (map element_of (drop l.element-index l.elements)) in
    record {
      same : run (inputs_of l.fn.self.inputs.now.entries) (values_behind (values_of l.fn.values) (exprs_in (elements_of (map element_of l.elements)))) (live l.fn.self.session.now)
          ≡ run (inputs_of l.fn.self.inputs.now.entries) (values_behind (values_of l.values) (exprs_in left)) (live l.self.session.now);
      stays : Stays l.fn.self l.self;
      room : (live l.self.session.now).next + tokens_of_others left ≤ 2 ^ 64;
      below : nodes_of_elements (drop l.element-index l.elements) ≤ nodes_of_elements l.elements;
    }

-- the value of the operand with the operators so far
abbrev pub invariant-chain_value-loop-other : goal.invariant-chain_value-loop-other
invariant-chain_value-loop-other l = record {
  same : run (inputs_of l.fn.self.inputs.now.entries) (meaning.value (chained (expr_of l.operand) (map operation_of (take l.other-index l.others)))) (live l.fn.self.session.now)
      ≡ (Ok (value_of l.found), live l.self.session.now);
  stays : Stays l.fn.self l.self;
  below : nodes_of_operations (drop l.other-index l.others) ≤ nodes_of_operations l.others;
}

abbrev pub invariant-values-loop-expr : goal.invariant-values-loop-expr
invariant-values-loop-expr l = record {
  same : run (inputs_of l.fn.self.inputs.now.entries) (values (map expr_of l.exprs)) (live l.fn.self.session.now)
      ≡ run (inputs_of l.fn.self.inputs.now.entries) (values_then (map expr_of (drop l.expr-index l.exprs)) (onto (map value_of l.values.items))) (live l.self.session.now);
  stays : Stays l.fn.self l.self;
  room : (live l.self.session.now).next + tokens_of_all (map expr_of (drop l.expr-index l.exprs)) < 2 ^ 64;
  below : nodes_of_exprs (drop l.expr-index l.exprs) ≤ nodes_of_exprs l.exprs;
}

-- the items so far stand before the others
abbrev pub invariant-item_values-loop-item : goal.invariant-item_values-loop-item
invariant-item_values-loop-item l = record {
  same : run (inputs_of l.fn.self.inputs.now.entries) (items_parts (items_of (map item_of l.items))) (live l.fn.self.session.now)
      ≡ run (inputs_of l.fn.self.inputs.now.entries) (items_then (items_of (map item_of (drop l.item-index l.items))) (onto (map contents.item_of l.values.items))) (live l.self.session.now);
  stays : Stays l.fn.self l.self;
  room : (live l.self.session.now).next + tokens_of_items (items_of (map item_of (drop l.item-index l.items))) ≤ 2 ^ 64;
  below : nodes_of_items (drop l.item-index l.items) ≤ nodes_of_items l.items;
}
