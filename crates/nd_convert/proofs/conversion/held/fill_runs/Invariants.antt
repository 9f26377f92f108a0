use Rattle.std.proofs.Common.{◌≡◌, ◌+◌, ◌*◌, ◌≤◌, ◌++◌, length, take}
use Rattle.std.specs.List.{concat}
use Rattle.nd_model.specs.Arrays.Element.{size_of}
use Rattle.nd_element.specs.Elements.{AreHeld}
use Rattle.nd_convert.specs.Conversion.Converted.{converted_bytes}
use Rattle.nd_convert.proofs.conversion.held.fill_runs.Given as goal

abbrev pub invariant-loop-run : goal.invariant-loop-run
invariant-loop-run l = record {
  buffer : length l.buffer ≡ 8192;
  filled : l.filled ≤ 8192;
  held : AreHeld l.from l.bytes (concat l.runs);
  left : l.filled + length (concat l.runs) * size_of l.to.kind ≡ l.out.1;
  written : (l.out.0 ++ take l.filled l.buffer) ++ converted_bytes l.to l.from l.bytes (concat l.runs)
      ≡ l.fn.out.0 ++ converted_bytes l.to l.from l.bytes l.view.places;
}

abbrev pub decreases-loop-run : goal.decreases-loop-run
decreases-loop-run l = length l.runs
