use Rattle.std.proofs.Common.{◌≡◌, ℕ, ◌||◌, drop}
use Rattle.std.specs.List.{flat_map}
use Rattle.nd_model.specs.Cells.Session.{is_in}
use Rattle.nd_model.specs.Arrays.Tuple.{count_up}
use Rattle.nd_marks.specs.Marks.{has_bit, pages_of}
use Rattle.nd_marks.proofs.words.set_each.Given as goal

abbrev pub invariant-loop-place : goal.invariant-loop-place
invariant-loop-place l = (p : ℕ) → (has_bit (pages_of l.pages.items) p || is_in p (flat_map (λ q. count_up q l.size) (drop l.place-index l.places))) ≡ (has_bit (pages_of l.fn.pages.items) p || is_in p (flat_map (λ q. count_up q l.size) l.places))
