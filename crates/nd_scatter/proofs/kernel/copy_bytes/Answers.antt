use Rattle.std.proofs.Common.{◌≡◌, ◌+◌, ◌-◌, ℕ, List, length, drop, take, ap, ◌∙◌, arith}
use borrow.Rule.Slice.PartMut.{put_mid}
use Rattle.nd_model.specs.Arrays.Element.{bytes_at}
use Rattle.nd_block.proofs.Copied.{length-bytes_at}
use Rattle.nd_assign.proofs.Bytewise.{put_bytes}
use Rattle.nd_scatter.proofs.kernel.copy_bytes.Goals as goal

pub returns-clause-bytes : goal.returns-clause-bytes
returns-clause-bytes c =
    let a = c.args in let out : List ℕ = a.out.now in let xs : List ℕ = a.values.now in let n = a.size in
    let m : a.to + n - a.to ≡ n = omega arith in
    let k : a.from + n - a.from ≡ n = omega arith in
    let b = bytes_at xs a.from n in
    let long : length b ≡ n = length-bytes_at xs a.from n c.requires.held in
    let new : c.copy_from_slice.new.self ≡ b = c.copy_from_slice.ensures.after ∙ ap (λ j. take j (drop a.from xs)) k in
    (λ i. put_mid a.to (m i) out (new i)) ∙ put_bytes a.to n out b long
