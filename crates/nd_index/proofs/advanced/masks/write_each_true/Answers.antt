use Rattle.std.proofs.Common.{◌≡◌, ◌+◌, ◌<◌, ◌≤◌, length, get_or, to_z, of_z, ap, ◌∙◌, arith, rules}
use Rattle.std.specs.Prelude.{if◌then◌else◌}
use Rattle.std.specs.Int.{w128}
use Rattle.std.specs.Int.RustNames.{FitsSigned}
use Rattle.std.proofs.lemmas.Int.{to_z-of_z}
use Rattle.std.proofs.lemmas.List.{length-set}
use Rattle.nd_model.specs.Indexing.Advanced.{is_nonzero}
use Rattle.nd_model.specs.Arrays.Content.{number_at}
use Rattle.nd_index.proofs.advanced.Trues.{one_at_most, written_next}
use Rattle.nd_index.proofs.advanced.masks.write_each_true.Goals as goal

pub loop-at-preserved : goal.loop-at-preserved
loop-at-preserved c =
    let e = c.args.elem in let bytes = c.args.bytes.now in let run = c.args.run.now in let k = c.loop-at.at in
    let numbers = c.loop-at.numbers in let count = c.loop-at.count in
    let lt : k < length run = omega (arith, c.loop-at-test.true, c.count-at-end.ensures.value) in
    let room : count < length numbers = omega (arith, lt, c.loop-at.invariant.few, c.loop-at.invariant.room, c.requires.room) in
    let fits : FitsSigned w128 c.read_at.result = search rules in
    let number : to_z w128 (of_z w128 c.read_at.result) ≡ number_at e bytes (get_or run k 0) = to_z-of_z w128 c.read_at.result fits ∙ c.read_at.ensures in
    let more : c.count_of_element-count.result ≡ (if is_nonzero (number_at e bytes (get_or run k 0)) then 1 else 0)
    = c.count_of_element-count.ensures ∙ ap (λ z. if is_nonzero z then 1 else 0) number in
    let few_more : c.count_of_element-count.result ≤ 1 = one_at_most (is_nonzero (number_at e bytes (get_or run k 0))) _ more in
    record {
      room = length-set numbers count (c.args.first + k) ∙ c.loop-at.invariant.room;
      few = omega (arith, c.loop-at.invariant.few, few_more);
      done = written_next e bytes c.args.first run numbers k count c.count_of_element-count.result _ lt room more c.loop-at.invariant.done;
    }
