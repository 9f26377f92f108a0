-- A write in place leaves as many bytes as there were.
use Rattle.std.specs.Prelude.{◌≡◌, ℕ, ◌==◌, refl, true, false, if◌then◌else◌, List, length}
use Rattle.nd_model.proofs.Lists as lists
use Rattle.nd_model.specs.Making.Augmenting.{results_in_place}
use Rattle.nd_assign.specs.KeptLength.{length-written_by}
use Rattle.nd_ufunc.specs.Elementwise.Arguments.{contents_over}
use Rattle.nd_ufunc.specs.Elementwise.Prepared.{PreparedInPlace, Found, Directly, right_operand, with_results, written_in_place}

pub length-written_in_place : (p : PreparedInPlace) (block : List ℕ) → length (written_in_place p block) ≡ length block
length-written_in_place (Found a) block = length-written_by a block
length-written_in_place (Directly d) block =
    let whole = with_results d.kind d.op d.target d.right block in
    elim (length block == d.len) as (λ b. length (if b then whole else block) ≡ length block) [
      | true ↦ lists.length-put (results_in_place d.kind d.op d.target (contents_over d.target block) (right_operand d.right block)) block
      | false ↦ refl
    ]
