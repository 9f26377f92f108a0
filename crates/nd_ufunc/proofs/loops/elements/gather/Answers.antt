use Rattle.std.proofs.Common.{◌≡◌, ℕ, ◌+◌, ◌-◌, ◌*◌, ◌≤◌, ◌++◌, List, length, take, drop, sym, ap, ◌∙◌, arith, length-take, length-drop}
use Rattle.std.proofs.Math.Nat.{mul-le-mul_right}
use Rattle.std.proofs.Math.Seq.{take-add, take-append_seam, drop-append_seam}
use Rattle.std.proofs.lemmas.List.{drop-drop}
use Rattle.std.proofs.lemmas.Slice.{take-put_mid}
use Rattle.std.proofs.lemmas.Grind.{flat_map-append}
use Rattle.nd_model.specs.Arrays.Element.{Element, size_of}
use Rattle.nd_model.specs.Making.Elementwise.{little}
use Rattle.nd_types.specs.Kinds.{kind_of}
use Rattle.nd_convert.specs.Conversion.Converted.{converted_at, converted_bytes}
use Rattle.nd_convert.proofs.conversion.Pieces.{length-put_mid}
use Rattle.nd_ufunc.proofs.loops.elements.gather.Goals as goal

pub loop-at-preserved : goal.loop-at-preserved
loop-at-preserved c =
    let a = c.args in let is = c.loop-at.invariant in let at = c.loop-at.at in let out = c.loop-at.out in let part = c.convert-in-loop-at.new.out in
    let to : Element = little (kind_of a.kind) in let s = size_of (kind_of a.kind) in let size = c.size-size.result in
    let all : List ℕ = a.first.now ++ a.walk.now in let run : List ℕ = c.next-run.result in let rest : List ℕ = c.next-run.new.self in let n = c.count.result in
    let long : n ≡ length run = c.count.ensures.value in
    let inside : at + n ≤ a.count = omega (arith, long, c.next-run.ensures.few, c.loop-at-test.true) in
    let split : drop at all ≡ run ++ rest = sym is.walk ∙ c.next-run.ensures.split in
    let here : run ≡ take n (drop at all) = sym (ap (take n) split ∙ ap (λ m. take m (run ++ rest)) long ∙ take-append_seam run rest) in
    let behind : rest ≡ drop (at + n) all = sym (ap (drop n) split ∙ ap (λ m. drop m (run ++ rest)) long ∙ drop-append_seam run rest) ∙ drop-drop n at all in
    let front : at * size ≡ at * s = ap (λ m. at * m) c.size-size.ensures.value in
    let end : (at + n) * size ≡ (at + n) * s = ap (λ m. (at + n) * m) c.size-size.ensures.value in
    let more : (at + n) * s ≡ at * s + n * s = omega arith in
    let most : (at + n) * s ≤ a.count * s = mul-le-mul_right s inside in
    let room : (at + n) * size ≤ length out = omega (arith, most, end, is.len, c.requires.out) in
    let k : ℕ = (at + n) * size - at * size in
    let written : length part ≡ k = c.convert-in-loop-at.auto.out ∙ omega (arith, length-take k (drop (at * size) out), length-drop (at * size) out, room, front, end, more) in
    let next : (at + n) * s ≡ at * size + length part = omega (arith, written, front, end, more) in
    let done : take (at * size) out ≡ converted_bytes to a.elem a.bytes.now (take at all) = ap (λ m. take m out) front ∙ is.done in
    let bytes : part ≡ converted_bytes to a.elem a.bytes.now (take n (drop at all)) = c.convert-in-loop-at.ensures ∙ (λ i. converted_bytes (c.little-in-loop-at.ensures i) a.elem a.bytes.now (here i)) in
    record {
      within = inside;
      len = length-put_mid (at * size) k out part (omega (arith, room, front, end, more)) written ∙ is.len;
      walk = behind;
      done = take-put_mid (at * size) k out part ((at + n) * s) next (omega (arith, room, front, end, more)) ∙ (λ i. done i ++ bytes i)
          ∙ sym (flat_map-append (converted_at to a.elem a.bytes.now) (take at all) (take n (drop at all)))
          ∙ ap (converted_bytes to a.elem a.bytes.now) (sym (take-add at n all));
    }
