use Rattle.std.proofs.Common.{◌≡◌, ◌*◌, ◌++◌, map, length, take, drop, sym, ap, ◌∙◌, arith}
use Rattle.std.proofs.Math.Seq.{take-append_seam}
use Rattle.std.proofs.lemmas.List.{length-take-le}
use Rattle.nd_model.specs.Arrays.Content.{number_at}
use Rattle.nd_model.specs.Arrays.Element.{size_of}
use Rattle.nd_model.specs.Making.Elementwise.{little}
use Rattle.nd_model.specs.Arrays.Tuple.{count_up}
use Rattle.nd_types.specs.Kinds.{kind_of}
use Rattle.nd_convert.specs.Conversion.Converted.{converted_bytes}
use Rattle.nd_ufunc.proofs.loops.SideBySide.{converted_back}
use Rattle.nd_ufunc.proofs.elementwise.spread.SpreadElements.take.Goals as goal

pub returns-clause-numbers : goal.returns-clause-numbers
returns-clause-numbers c =
    let a = c.args in let o = a.self.now in let n = a.count in let k = kind_of o.kind in
    let part = c.gather_spread.new.out in let buffer = a.buffer.now in let end = n * c.size.result in
    let some : length (take n o.walk) ≡ n = length-take-le n o.walk c.requires.enough in
    let long : length part ≡ end = c.gather_spread.auto.out ∙ length-take-le end buffer (let most : end ≡ n * size_of k = ap (λ m. n * m) c.size.ensures.value in omega (arith, most, c.requires.buffer)) in
    let is : take end (part ++ drop end buffer) ≡ part = ap (λ m. take m (part ++ drop end buffer)) (sym long) ∙ take-append_seam part (drop end buffer) in
    let made : take end (part ++ drop end buffer) ≡ converted_bytes (little k) o.elem a.bytes.now (take n o.walk)
    = is ∙ c.gather_spread.ensures.bytes ∙ (λ i. converted_bytes (c.little-to.ensures i) o.elem a.bytes.now (take n o.walk)) in
    let back = converted_back (little k) o.elem a.bytes.now (take n o.walk) (take end (part ++ drop end buffer)) c.numbers_are_valid.ensures o.keeps made in
    ap (λ m. map (λ j. number_at (little k) (take end (part ++ drop end buffer)) (j * size_of k)) (count_up 0 m)) (sym some) ∙ back
