use Rattle.std.proofs.Common.{◌+◌, ◌≤◌, ◌++◌, length, append_assoc, sym, ap, ◌∙◌}
use Rattle.std.specs.List.{concat}
use Rattle.nd_model.specs.Arrays.Element.{size_of}
use Rattle.nd_element.specs.Elements.{numbers_at}
use Rattle.nd_element.proofs.Pushed.{run_more}
use Rattle.nd_view.proofs.ByRuns.{in_run, behind_run}
use Rattle.nd_element.proofs.numbers.numbers_of.Goals as goal

pub push_numbers-requires : goal.push_numbers-requires
push_numbers-requires c =
    in_run (λ p. p + size_of c.args.elem.kind ≤ length c.args.bytes.now) c.in-Some.run' (concat c.next.new.self) (concat c.loop-run.runs) (ap concat c.in-Some.ensures) c.loop-run.invariant.inside

pub loop-run-preserved : goal.loop-run-preserved
loop-run-preserved c =
    let here = numbers_at c.args.elem c.args.bytes.now c.in-Some.run' in let rest = numbers_at c.args.elem c.args.bytes.now (concat c.next.new.self) in
    record {
      all = ap (λ l. l ++ rest) c.in_ok-push_numbers.ensures ∙ append_assoc c.loop-run.numbers.items here rest
          ∙ ap (λ l. c.loop-run.numbers.items ++ l) (sym (run_more c.args.elem c.args.bytes.now (concat c.loop-run.runs) c.in-Some.run' (concat c.next.new.self) (ap concat c.in-Some.ensures)))
          ∙ c.loop-run.invariant.all;
      inside = behind_run (λ p. p + size_of c.args.elem.kind ≤ length c.args.bytes.now) c.in-Some.run' (concat c.next.new.self) (concat c.loop-run.runs) (ap concat c.in-Some.ensures) c.loop-run.invariant.inside;
    }
