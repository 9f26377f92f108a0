-- A write leaves as many bytes as there were.
use Rattle.std.specs.Prelude.{◌≡◌, ℕ, ◌+◌, ◌==◌, refl, true, false, if◌then◌else◌, List, [], ◌∷◌, length}
use Rattle.std.proofs.Common.{◌∙◌}
use Rattle.nd_model.proofs.Lists as lists
use Rattle.nd_model.specs.Cells.Session.{put}
use Rattle.nd_model.specs.Arrays.View.{ElementType}
use Rattle.nd_scatter.specs.Scattered.{Prepared, byte_copies, scattered, written_by}

pub length-scattered : (t : ElementType) (values : List ℕ) (step from : ℕ) (places old : List ℕ) → length (scattered t values step from places old) ≡ length old
length-scattered t values step from [] old = refl
length-scattered t values step from (p ∷ ps) old =
    let new : List ℕ = put (byte_copies t values p from) old in
    length-scattered t values step (from + step) ps new ∙ lists.length-put (byte_copies t values p from) old

pub length-written_by : (a : Prepared) (block : List ℕ) → length (written_by a block) ≡ length block
length-written_by a block =
    let whole = scattered a.target.element a.values a.step 0 a.target.places block in
    elim (length block == a.len) as (λ b. length (if b then whole else block) ≡ length block) [
      | true ↦ length-scattered a.target.element a.values a.step 0 a.target.places block
      | false ↦ refl
    ]
