use Rattle.std.proofs.Common.{◌≡◌, ◌+◌, ◌-◌, ◌*◌, ◌++◌, take, drop, refl, sym, ap, ◌∙◌, arith}
use Rattle.nd_model.specs.Arrays.Element.{bytes_at}
use Rattle.nd_block.proofs.Copied.{length-bytes_at}
use Rattle.nd_block.proofs.Together.{together, whole}
use Rattle.nd_block.proofs.runs.copy_block.Goals as goal

pub copy_within-requires-clause-in_bounds : goal.copy_within-requires-clause-in_bounds
copy_within-requires-clause-in_bounds c =
    let a = c.args in (whole a.dst a.src a.size a.n a.bytes.now c.requires.dst c.requires.src (a.n * a.size) c.requires.some refl).1

pub copy_within-requires-clause-dest_in_bounds : goal.copy_within-requires-clause-dest_in_bounds
copy_within-requires-clause-dest_in_bounds c =
    let a = c.args in (whole a.dst a.src a.size a.n a.bytes.now c.requires.dst c.requires.src (a.src + a.n * a.size - a.src) c.requires.some (omega arith)).0

pub returns : goal.returns
returns c =
    let a = c.args in let xs = a.bytes.now in let count = a.n * a.size in
    let inside = whole a.dst a.src a.size a.n xs c.requires.dst c.requires.src count c.requires.some refl in
    let same : a.src + count - a.src ≡ count = omega arith in
    let long = length-bytes_at xs a.src count inside.1 in
    c.copy_within.ensures.after
    ∙ ap (λ k. take a.dst xs ++ take k (drop a.src xs) ++ drop (a.dst + k) xs) same
    ∙ ap (λ k. take a.dst xs ++ bytes_at xs a.src count ++ drop (a.dst + k) xs) (sym long)
    ∙ sym (together a.dst a.src a.size a.n xs c.requires.dst c.requires.src a.n (omega arith))
