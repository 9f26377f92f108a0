use Rattle.std.proofs.Common.{◌≡◌, ℕ, ◌*◌, ◌≤◌, ◌++◌, List, map, length, take, drop, sym, ap, ◌∙◌, arith}
use Rattle.std.proofs.Math.Seq.{take-append_seam}
use Rattle.std.proofs.lemmas.List.{length-take-le}
use Rattle.nd_model.specs.Arrays.Content.{number_at}
use Rattle.nd_model.specs.Arrays.Element.{size_of}
use Rattle.nd_model.specs.Making.Elementwise.{little}
use Rattle.nd_model.specs.Arrays.Tuple.{count_up}
use Rattle.nd_types.specs.Kinds.{kind_of}
use Rattle.nd_ufunc.proofs.loops.SideBySide.{converted_back}
use Rattle.nd_ufunc.proofs.loops.elements.take_numbers.Goals as goal

pub returns-clause-numbers : goal.returns-clause-numbers
returns-clause-numbers c =
    let a = c.args in let n = a.count in let all : List ℕ = c.next-run.result ++ c.next-run.new.self in
    let part = c.gather.new.out in let buffer = a.buffer.now in let end = n * c.size.result in
    let whole : length a.walk.now ≡ length all = ap length c.next-run.ensures.split in
    let enough : n ≤ length all = omega (arith, c.requires.enough, whole) in
    let some : length (take n all) ≡ n = length-take-le n all enough in
    let long : length part ≡ end = c.gather.auto.out ∙ length-take-le end buffer (let most : end ≡ n * size_of (kind_of a.kind) = ap (λ m. n * m) c.size.ensures.value in omega (arith, most, c.requires.buffer)) in
    let is : take end (part ++ drop end buffer) ≡ part = ap (λ m. take m (part ++ drop end buffer)) (sym long) ∙ take-append_seam part (drop end buffer) in
    let back = converted_back (little (kind_of a.kind)) a.elem a.bytes.now (take n all) (take end (part ++ drop end buffer)) c.numbers_are_valid.ensures c.requires.keeps (is ∙ c.gather.ensures.bytes) in
    ap (λ m. map (λ j. number_at (little (kind_of a.kind)) (take end (part ++ drop end buffer)) (j * size_of (kind_of a.kind))) (count_up 0 m)) (sym some) ∙ back
    ∙ ap (λ ps. map (number_at a.elem a.bytes.now) (take n ps)) (sym c.next-run.ensures.split)
