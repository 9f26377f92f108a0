use Rattle.std.proofs.Common.{◌≡◌, ℕ, true, false, length, map, slice_index}
use Rattle.nd_model.specs.Cells.Session.{is_in}
use Rattle.nd_marks.specs.Kept.{byte_of, places_in}
use Rattle.nd_marks.specs.Marks.{holds}
use Rattle.nd_marks.proofs.kept.KeptBytes.agrees_with.Given as goal

abbrev pub invariant-loop-range : goal.invariant-loop-range
invariant-loop-range l = record {
  bytes : l.rest ≡ map (byte_of l.self) l.walk;
  among : (p : ℕ) → is_in p l.walk ≡ true → is_in p (places_in l.self.marks) ≡ true;
  same : (p : ℕ) → is_in p (places_in l.self.marks) ≡ true → is_in p l.walk ≡ false → holds l.marks p ≡ true → slice_index l.block p ≡ byte_of l.self p;
}

abbrev pub decreases-loop-range : goal.decreases-loop-range
decreases-loop-range l = length l.walk
