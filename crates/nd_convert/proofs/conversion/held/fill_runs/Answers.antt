use Rattle.std.proofs.Common.{◌≡◌, ℕ, ◌+◌, ◌*◌, ◌≤◌, ◌++◌, List, length, take, sym, ap, ◌∙◌, arith, append_assoc, length-append}
use Rattle.std.specs.List.{concat, flat_map}
use Rattle.std.proofs.lemmas.Grind.{flat_map-append}
use Rattle.nd_model.specs.Arrays.Element.{size_of}
use Rattle.nd_view.proofs.ByRuns.{in_run, behind_run}
use Rattle.nd_convert.specs.Conversion.Converted.{converted_at}
use Rattle.nd_convert.proofs.conversion.held.fill_runs.Goals as goal

pub add_run-filled-requires-clause-held : goal.add_run-filled-requires-clause-held
add_run-filled-requires-clause-held c =
    in_run (λ p. p + size_of c.args.from.kind ≤ length c.args.bytes.now) c.in-Some.run' (concat c.next.new.self) (concat c.loop-run.runs) (ap concat c.in-Some.ensures) c.loop-run.invariant.held

pub loop-run-preserved : goal.loop-run-preserved
loop-run-preserved c =
    let a = c.args in let is = c.loop-run.invariant in let added = c.add_run-filled in let s = size_of a.to.kind in
    let run = c.in-Some.run' in let rest : List ℕ = concat c.next.new.self in
    let F : ℕ → List ℕ = converted_at a.to a.from a.bytes.now in let before : List ℕ = c.loop-run.out.0 ++ take c.loop-run.filled c.loop-run.buffer in
    let split : concat c.loop-run.runs ≡ run ++ rest = ap concat c.in-Some.ensures in
    let product : length (concat c.loop-run.runs) * s ≡ length run * s + length rest * s = ap (λ m. m * s) (ap length split ∙ length-append run rest) ∙ omega arith in
    record {
      buffer = added.ensures.buffer ∙ is.buffer;
      filled = omega (arith, added.ensures.filled, added.ensures.buffer, is.buffer);
      held = behind_run (λ p. p + size_of a.from.kind ≤ length a.bytes.now) run rest (concat c.loop-run.runs) split is.held;
      left = omega (arith, added.ensures.left, is.left, product);
      written = ap (λ l. l ++ flat_map F rest) added.ensures.written ∙ append_assoc before (flat_map F run) (flat_map F rest)
          ∙ ap (λ l. before ++ l) (sym (flat_map-append F run rest) ∙ ap (flat_map F) (sym split)) ∙ is.written;
    }
