use Rattle.std.proofs.Common.{◌≡◌, ◌+◌, ◌*◌, ◌≤◌, length, map, drop}
use Rattle.nd_model.specs.Arrays.View.{One}
use Rattle.nd_places.specs.Forms.{trues_on}
use Rattle.nd_places.specs.Near.{place_on_line, trues_in}
use Rattle.nd_scatter.specs.Scattered.{scattered}
use Rattle.nd_scatter.proofs.Chosen.{Wrote}
use Rattle.nd_scatter.proofs.masked.write_each.Given as goal

abbrev pub invariant-loop-index : goal.invariant-loop-index
invariant-loop-index l = record {
  len : length l.out ≡ length l.fn.out;
  few : l.used ≤ l.index;
  wrote : Wrote l.fn.elem l.values l.step (l.used * l.step) (map (place_on_line l.line.start l.line.step) (trues_in (0 + l.index) (drop l.index l.mask))) l.out
      (scattered (One l.fn.elem) l.values l.step 0 (trues_on l.line 0 l.mask) l.fn.out);
}
