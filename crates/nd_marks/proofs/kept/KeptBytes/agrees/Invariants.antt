use Rattle.std.proofs.Common.{◌≡◌, ℕ, true, false, Some, length, map}
use Rattle.nd_model.specs.Cells.Session.{is_in}
use Rattle.nd_marks.specs.Kept.{byte_of, kept_at, places_in}
use Rattle.nd_marks.proofs.kept.KeptBytes.agrees.Given as goal

abbrev pub invariant-loop-range : goal.invariant-loop-range
invariant-loop-range l = record {
  bytes : l.rest ≡ map (byte_of l.self) l.walk;
  among : (p : ℕ) → is_in p l.walk ≡ true → is_in p (places_in l.self.marks) ≡ true;
  same : (p : ℕ) → is_in p (places_in l.self.marks) ≡ true → is_in p l.walk ≡ false → (b : ℕ) → kept_at l.other p ≡ Some b → byte_of l.self p ≡ b;
}

abbrev pub decreases-loop-range : goal.decreases-loop-range
decreases-loop-range l = length l.walk
