use Rattle.std.proofs.Common.{◌≡◌, ◌++◌, ◌+◌, ◌*◌, ◌≤◌, List, ℕ, length, take, drop, sym, ap, ◌∙◌, arith, append_assoc, length-append, length-take, length-drop}
use Rattle.std.proofs.Math.Nat.{mul-le-mul_right}
use Rattle.std.proofs.Math.Seq.{take-add, take-append_seam}
use Rattle.std.proofs.lemmas.Grind.{flat_map-append}
use Rattle.nd_model.specs.Arrays.Element.{size_of}
use Rattle.nd_convert.specs.Conversion.Converted.{converted_at, converted_bytes}
use Rattle.nd_convert.proofs.conversion.numbers.fill_run.Goals as goal

pub loop-at-preserved : goal.loop-at-preserved
loop-at-preserved c =
    let a = c.args in let is = c.loop-at.invariant in let at = c.loop-at.at in let ps = a.run.now in let buffer = c.loop-at.buffer in let part = c.convert.new.out in
    let some = c.min-some.result in let size = c.size-size.result in let s = size_of a.to.kind in
    let f : List ℕ → List ℕ = converted_bytes a.to a.from a.bytes.now in
    let few : some ≤ 1024 = omega (arith, c.min-some.ensures) in
    let inside : at + some ≤ length ps = omega (arith, c.min-some.ensures, c.count-count.ensures.value, is.inside) in
    let most : some * size ≤ 1024 * size = mul-le-mul_right size few in
    let room : some * size ≤ length buffer = omega (arith, most, c.size-size.ensures.range, is.buffer, c.requires.buffer) in
    let long : length part ≡ some * size = c.convert.auto.out ∙ omega (arith, length-take (some * size) buffer, room) in
    let pushed : take (some * size) (part ++ drop (some * size) buffer) ≡ part = ap (λ n. take n (part ++ drop (some * size) buffer)) (sym long) ∙ take-append_seam part (drop (some * size) buffer) in
    let bytes : some * size ≡ some * s = ap (λ n. some * n) c.size-size.ensures.value in
    let split : (at + some) * s ≡ at * s + some * s = omega arith in
    record {
      inside = inside;
      buffer = length-append part (drop (some * size) buffer) ∙ omega (arith, long, length-drop (some * size) buffer, room, is.buffer);
      left = omega (arith, is.left, c.push.ensures.left, ap length pushed, long, bytes, split);
      written = c.push.ensures.written ∙ (λ i. is.written i ++ (pushed ∙ c.convert.ensures ∙ ap f c.part-part.ensures) i)
          ∙ append_assoc a.out.now.0 (f (take at ps)) (f (take some (drop at ps)))
          ∙ ap (λ l. a.out.now.0 ++ l) (sym (flat_map-append (converted_at a.to a.from a.bytes.now) (take at ps) (take some (drop at ps))) ∙ ap f (sym (take-add at some ps)));
    }
