use Rattle.std.proofs.Common.{◌≡◌, ◌+◌, ◌-◌, ◌≤◌, ◌++◌, length, drop}
use Rattle.std.specs.List.{flat_map}
use Rattle.nd_model.specs.Arrays.View.{One}
use Rattle.nd_element.specs.Elements.{canonical_at}
use Rattle.nd_places.specs.Forms.{trues_on}
use Rattle.nd_scatter.proofs.masked.append_each.Given as goal

abbrev pub invariant-loop-done : goal.invariant-loop-done
invariant-loop-done l = record {
  many : length l.some ≡ 4096;
  within : l.done ≤ length l.mask;
  room : length l.out.0 + l.out.1 ≡ length l.fn.filling.0 + l.fn.filling.1;
  written : l.out.0 ++ flat_map (canonical_at (One l.elem) l.bytes) (trues_on l.line l.done (drop l.done l.mask))
      ≡ l.fn.filling.0 ++ flat_map (canonical_at (One l.elem) l.bytes) (trues_on l.line 0 l.mask);
}

abbrev pub decreases-loop-done : goal.decreases-loop-done
decreases-loop-done l = length l.mask - l.done
