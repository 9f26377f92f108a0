use Rattle.std.proofs.Common.{◌≡◌, ◌+◌, ◌≤◌, ◌++◌, ℕ, List, length, take, drop, sym, ap, ◌∙◌, subst, arith, length-take, length-drop, length-append}
use Rattle.std.specs.List.{All, concat}
use Rattle.std.proofs.lemmas.List.{drop-drop, take-append-drop}
use Rattle.nd_model.specs.Arrays.Element.{size_of}
use Rattle.nd_model.specs.Arrays.View.{ElementType, One}
use Rattle.nd_element.specs.Elements.{AreHeld}
use Rattle.nd_view.proofs.ByRuns.{in_run, behind_run}
use Rattle.nd_assign.specs.Copies.{with_copies}
use Rattle.nd_assign.proofs.Copied.{copies-append}
use Rattle.nd_assign.proofs.whole_run.copy_to_view.Goals as goal

pub copy_in_line-requires-clause-out : goal.copy_in_line-requires-clause-out
copy_in_line-requires-clause-out c =
    let a = c.args in let is = c.loop-run.invariant in let run : List ℕ = c.in-Some.run' in
    subst (λ n. All (λ p. p + size_of a.to.kind ≤ n) run) (sym is.len)
    (in_run (λ p. p + size_of a.to.kind ≤ length a.out.now) run (concat c.next.new.self) (concat c.loop-run.runs) (ap concat c.in-Some.ensures) is.out)

pub loop-run-preserved : goal.loop-run-preserved
loop-run-preserved c =
    let a = c.args in let is = c.loop-run.invariant in let out = c.loop-run.out in let at = c.loop-run.at in let n = c.count-count-in-Some.result in
    let run : List ℕ = c.in-Some.run' in let rest : List ℕ = concat c.next.new.self in let runs : List ℕ = concat c.loop-run.runs in
    let source : List ℕ = a.source.now in let left : List ℕ = drop at source in
    let t : ElementType = One a.to in let f : ElementType = One a.from in
    let e : runs ≡ run ++ rest = ap concat c.in-Some.ensures in
    let long : length runs ≡ length run + length rest = ap length e ∙ length-append run rest in
    let many : n ≡ length run = c.count-count-in-Some.ensures.value in
    let split : left ≡ take n left ++ drop n left = sym (take-append-drop n left) in
    let further : drop n left ≡ drop (at + n) source = drop-drop n at source in
    let front : length (take n left) ≡ length run = omega (arith, length-take n left, length-drop at source, is.counts, long, many) in
    record {
      len = c.copy_in_line.ensures.len ∙ is.len;
      counts = omega (arith, is.counts, long, many);
      out = behind_run (λ p. p + size_of a.to.kind ≤ length a.out.now) run rest runs e is.out;
      held = subst (AreHeld a.from a.bytes.now) further (behind_run (λ p. p + size_of a.from.kind ≤ length a.bytes.now) (take n left) (drop n left) left split is.held);
      rest = (λ i. with_copies t f a.bytes.now rest (sym further i) (c.copy_in_line.ensures.bytes i))
          ∙ ap (with_copies t f a.bytes.now rest (drop n left)) (λ i. with_copies t f a.bytes.now run (c.part-part.ensures i) out)
          ∙ sym (copies-append t f a.bytes.now run rest (take n left) (drop n left) out (sym front))
          ∙ sym (λ i. with_copies t f a.bytes.now (e i) (split i) out)
          ∙ is.rest;
    }
