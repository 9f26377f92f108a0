use Rattle.std.proofs.Common.{◌≡◌, ◌+◌, ◌-◌, ◌*◌, ◌++◌, ◌<◌, ◌≤◌, ℕ, List, length, take, drop, get_or, sym, ap, ◌∙◌, arith}
use Rattle.std.specs.List.{All}
use Rattle.nd_model.specs.Arrays.Element.{size_of, bytes_at, with_bytes}
use Rattle.nd_block.proofs.Copied.{length-bytes_at}
use Rattle.nd_assign.proofs.Bytewise.{bytewise}
use Rattle.nd_assign.proofs.gapless.move_gapless.Goals as goal

pub returns-clause-bytes : goal.returns-clause-bytes
returns-clause-bytes c =
    let a = c.args in let ps : List ℕ = a.run.now in let qs : List ℕ = a.from_run.now in let xs : List ℕ = a.bytes.now in
    let n = length ps * size_of a.elem.kind in let to = c.start.result in let from = c.start-2.result in
    let begin : get_or ps 0 0 ≡ to = sym c.start.ensures in let other : get_or qs 0 0 ≡ from = sym c.start-2.ensures in
    let count : length qs * size_of a.elem.kind ≡ n = ap (λ k. k * size_of a.elem.kind) c.requires.counts in
    let room : get_or ps 0 0 + n ≤ length xs = omega (arith, c.end_of-end.ensures.value, c.end_of-end.ensures.inside) in
    let held : get_or qs 0 0 + n ≤ length xs = omega (arith, c.end_of-from_end.ensures.value, c.end_of-from_end.ensures.inside, count) in
    let k : c.end_of-from_end.result - from ≡ n = omega (arith, c.end_of-from_end.ensures.value, other, count) in
    let small : All (λ b. b < 256) xs = c.end_of-from_end.ensures.small in
    let b = bytes_at xs from n in
    let long : length b ≡ n = length-bytes_at xs from n (omega (arith, held, other)) in
    c.copy_within.ensures.after
    ∙ ap (λ j. take to xs ++ take j (drop from xs) ++ drop (to + j) xs) k
    ∙ ap (λ j. take to xs ++ b ++ drop (to + j) xs) (sym long)
    ∙ (λ i. with_bytes xs (sym begin i) (bytes_at xs (sym other i) n))
    ∙ sym (bytewise a.elem c.requires.kind xs small ps qs (get_or ps 0 0) (get_or qs 0 0) xs c.requires.counts c.requires.gapless c.requires.from_gapless room held)
