use Rattle.std.proofs.Common.{◌≡◌, ◌+◌, ◌≤◌, ◌++◌, List, ℕ, length, take, drop, sym, ap, ◌∙◌, arith, length-take}
use Rattle.std.proofs.Math.Seq.{take-add, take-append_seam, drop-append_seam}
use Rattle.std.proofs.lemmas.List.{drop-drop}
use Rattle.nd_model.specs.Arrays.View.{ElementType}
use Rattle.nd_types.specs.Types.{type_of}
use Rattle.nd_assign.specs.Copies.{with_copies}
use Rattle.nd_assign.proofs.Copied.{copies-append}
use Rattle.nd_assign.proofs.views.copy_next.Goals as goal

pub loop-at-preserved : goal.loop-at-preserved
loop-at-preserved c =
    let a = c.args in let is = c.loop-at.invariant in let at = c.loop-at.at in let some = c.count-some.result in
    let run : List ℕ = a.run.now in let all : List ℕ = a.walk.now in let next : List ℕ = c.next-next.result in let rest : List ℕ = c.next-next.new.self in
    let t : ElementType = type_of a.to.now in let f : ElementType = type_of a.from.now in
    let long : some ≡ length next = c.count-some.ensures.value in
    let inside : at + some ≤ length run = omega (arith, long, c.next-next.ensures.few, c.count-count.ensures.value, c.loop-at-test.true) in
    let split : drop at all ≡ next ++ rest = sym is.walk ∙ c.next-next.ensures.split in
    let here : next ≡ take some (drop at all) = sym (ap (take some) split ∙ ap (λ n. take n (next ++ rest)) long ∙ take-append_seam next rest) in
    let behind : rest ≡ drop (at + some) all = sym (ap (drop some) split ∙ ap (λ n. drop n (next ++ rest)) long ∙ drop-append_seam next rest) ∙ drop-drop some at all in
    let same : length (take at run) ≡ length (take at all) = omega (arith, length-take at run, length-take at all, is.inside, c.requires.enough) in
    record {
      inside = inside;
      len = c.copy_part.ensures.len ∙ is.len;
      walk = behind;
      done = c.copy_part.ensures.bytes ∙ (λ i. with_copies t f a.bytes.now (c.part.ensures i) (here i) (is.done i))
          ∙ sym (copies-append t f a.bytes.now (take at run) (take some (drop at run)) (take at all) (take some (drop at all)) a.out.now same)
          ∙ sym (λ i. with_copies t f a.bytes.now (take-add at some run i) (take-add at some all i) a.out.now);
    }
