-- What a write leaves of a block of the length that it is made ready for.
use Rattle.std.proofs.Common.{◌≡◌, ℕ, ◌==◌, true, List, length, sym, ap, arith}
use Rattle.std.specs.Prelude.{if◌then◌else◌}
use Rattle.std.proofs.lemmas.Bool.Decides.{nat_tests}
use Rattle.nd_assign.specs.Copies.{with_copies}
use Rattle.nd_assign.specs.Prepared.{Prepared, bytes_or, written_by}

pub copies_written : (a : Prepared) (block : List ℕ) → length block ≡ a.len
    → with_copies a.target.element a.source.element (bytes_or a.bytes block) a.target.places a.source.places block ≡ written_by a block
copies_written a block same =
    let test : (length block == a.len) ≡ true = grind (arith, nat_tests) in
    sym (ap (λ b. if b then with_copies a.target.element a.source.element (bytes_or a.bytes block) a.target.places a.source.places block else block) test)
