use Rattle.std.proofs.Common.{◌+◌, ◌++◌, [], ◌∷◌, append_assoc, map, slice_index, ap, ap₂, sym, ◌∙◌}
use Rattle.nd_model.specs.Arrays.Tuple.{count_up}
use Rattle.nd_marks.proofs.Walks.{map_range_more}
use Rattle.nd_marks.proofs.kept.append_outside.Goals as goal

pub loop-at-preserved : goal.loop-at-preserved
loop-at-preserved c = let f = slice_index c.args.block.now in
    c.in_ok-push.ensures.items
    ∙ ap₂ (λ xs x. xs ++ x ∷ []) c.loop-at.invariant (c.byte_at.ensures ∙ ap (λ k. f (c.args.from + k)) c.from.ensures)
    ∙ append_assoc c.args.bytes.now.items (map f (count_up c.args.from c.loop-at.at)) (f (c.args.from + c.loop-at.at) ∷ [])
    ∙ ap (λ xs. c.args.bytes.now.items ++ xs) (sym (map_range_more f c.args.from c.loop-at.at))
