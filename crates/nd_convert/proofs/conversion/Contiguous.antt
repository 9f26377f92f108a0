-- Runs of contiguous elements, by the start and the step that the code has.
use Rattle.std.proofs.Common.{◌≡◌, ℕ, ℤ, pos, ◌+◌, ◌<◌, ◌≤◌, List, length, get_or, sym, ap, ◌∙◌, subst}
use Rattle.std.specs.List.{All}
use Rattle.nd_model.specs.Arrays.Runs.{place_at, run_places, AreWithin}
use Rattle.nd_view.specs.SideBySide.{side_by_side}
use Rattle.nd_view.proofs.SideBySide.{steps_of_side}
use Rattle.nd_convert.proofs.conversion.Pieces.{run_is, within}

module _ (ps : List ℕ) (start count size itemsize : ℕ) (step : ℤ) (many : count ≡ length ps) (first : start ≡ get_or ps 0 0) (is : step ≡ pos size) (same : itemsize ≡ size)
    (are : ps ≡ side_by_side itemsize (get_or ps 0 0) (length ps)) where
  steps : (k : ℕ) → k < length ps → place_at start (pos size) k ≡ pos (get_or ps k 0)
  steps k lt =
      ap (λ f. place_at f (pos size) k) first ∙ steps_of_side ps size (are ∙ ap (λ z. side_by_side z (get_or ps 0 0) (length ps)) same) k lt

  -- they are the run
  pub contiguous_is : run_places start step count ≡ ps
  contiguous_is = (λ i. run_places start (is i) (many i)) ∙ run_is ps start (pos size) steps

  -- and lie within len bytes where its byte offsets do
  pub contiguous_within : (len : ℕ) → All (λ p. p + size ≤ len) ps → AreWithin start step size count len
  contiguous_within len all =
      subst (λ z. AreWithin start z size count len) (sym is) (subst (λ n. AreWithin start (pos size) size n len) (sym many) (within ps start (pos size) steps size len all))
