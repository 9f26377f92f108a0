use Rattle.std.proofs.Common.{◌∙◌, ◌||◌, sym, ap}
use Rattle.std.specs.Rc.{rc_str_bytes}
use Rattle.nd_model.specs.Arrays.Value as values
use Rattle.nd_heap.specs.Contents.{bases_of}
use Rattle.nd_heap.specs.Live.{is_base_among}
use Rattle.nd_heap.specs.Values.{value_of}
use Rattle.nd_heap.proofs.Layering.{held_next}
use Rattle.nd_heap.proofs.name_table.NameTable.held_bases.Goals as goal

pub loop-i-preserved : goal.loop-i-preserved
loop-i-preserved c = λ b. c.in_ok-note_base.ensures.ok b ∙ ap (λ v. is_base_among (bases_of c.loop-i.held.entries) b || values.lies_in b (value_of v)) c.as_ref.ensures
    ∙ ap (λ t. t || values.lies_in b (value_of c.entry.result.1.now.value)) (c.loop-i.invariant b)
    ∙ sym (held_next b c.args.self.now c.loop-i.i (rc_str_bytes c.entry.result.0.now) (value_of c.entry.result.1.now.value) c.entry.ensures)
