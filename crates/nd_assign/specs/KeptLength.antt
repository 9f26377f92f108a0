-- A write leaves as many bytes as there were.
use Rattle.std.specs.Prelude.{◌≡◌, ℕ, ◌==◌, refl, true, false, if◌then◌else◌, List, length, map}
use Rattle.nd_model.proofs.Lists as lists
use Rattle.nd_model.specs.Arrays.Content.{all_writes}
use Rattle.nd_assign.specs.Copies.{copied_content, with_copies}
use Rattle.nd_assign.specs.Prepared.{Prepared, bytes_or, written_by}

pub length-written_by : (a : Prepared) (block : List ℕ) → length (written_by a block) ≡ length block
length-written_by a block =
    let bytes = bytes_or a.bytes block in
    let contents = map (copied_content a.target.element a.source.element bytes) a.source.places in
    let whole = with_copies a.target.element a.source.element bytes a.target.places a.source.places block in
    elim (length block == a.len) as (λ b. length (if b then whole else block) ≡ length block) [
      | true ↦ lists.length-put (all_writes a.target.element a.target.places contents) block
      | false ↦ refl
    ]
