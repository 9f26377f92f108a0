use Rattle.std.proofs.Common.{◌+◌, ◌≤◌, ◌^◌, ℕ, List, ap, ◌∙◌, rules}
use Rattle.std.specs.List.{flat_map}
use Rattle.std.proofs.lemmas.Grind.{flat_map-append}
use Rattle.nd_model.specs.Arrays.View.{element_places, item_size}
use Rattle.nd_types.specs.Types.{type_of}
use Rattle.nd_view.proofs.ByRuns.{in_run, behind_run}
use Rattle.nd_marks.specs.Marks.{holds}
use Rattle.nd_marks.proofs.Ranges.{marked_more}
use Rattle.nd_trace.proofs.marking.marks_of_parts.Goals as goal

pub with_part-requires : goal.with_part-requires
with_part-requires c = in_run (λ p. p + item_size (type_of c.args.elem.now) ≤ 2 ^ 64) c.in-Some.part.now c.next.new.self c.loop-part.walk c.in-Some.ensures.split c.loop-part.invariant.ends

pub loop-part-preserved : goal.loop-part-preserved
loop-part-preserved c =
    let part : List ℕ = c.in-Some.part.now in let rest : List ℕ = c.next.new.self in
    let F : List ℕ → List ℕ = flat_map (element_places (type_of c.args.elem.now)) in
    record {
      many = search rules;
      marked = λ p.
          marked_more (holds c.in_ok-marks.marks p) (holds c.loop-part.marks p) (holds c.args.except.now p) _ p (F part) (F rest) (F c.loop-part.walk)
          (c.in_ok-marks.ensures p) (ap F c.in-Some.ensures.split ∙ flat_map-append (element_places (type_of c.args.elem.now)) part rest) (c.loop-part.invariant.marked p);
      ends = behind_run (λ p. p + item_size (type_of c.args.elem.now) ≤ 2 ^ 64) part rest c.loop-part.walk c.in-Some.ensures.split c.loop-part.invariant.ends;
    }
