use Rattle.std.proofs.Common.{◌≡◌, ◌+◌, ◌≤◌, ◌++◌, List, ℕ, length, take, sym, ap, ◌∙◌, subst, arith, length-take, length-append}
use Rattle.std.specs.List.{All, concat}
use Rattle.nd_model.specs.Arrays.View.{ElementType, item_size}
use Rattle.nd_view.proofs.ByRuns.{in_run, behind_run}
use Rattle.nd_assign.specs.Copies.{with_copies}
use Rattle.nd_assign.proofs.Copied.{copies-append}
use Rattle.nd_assign.proofs.views.copy_by_runs.Goals as goal

pub copy_next-requires-clause-out : goal.copy_next-requires-clause-out
copy_next-requires-clause-out c =
    let a = c.args in let is = c.loop-run.invariant in let run : List ℕ = c.in-Some.run' in let rest : List ℕ = concat c.next.new.self in
    let here : All (λ p. p + item_size a.target.now.element ≤ length a.out.now) run
    = in_run (λ p. p + item_size a.target.now.element ≤ length a.out.now) run rest (concat c.loop-run.runs) (ap concat c.in-Some.ensures) is.out in
    subst (λ (t : ElementType). All (λ p. p + item_size t ≤ length c.loop-run.out) run) (sym c.elem.ensures) (subst (λ n. All (λ p. p + item_size a.target.now.element ≤ n) run) (sym is.len) here)

pub loop-run-preserved : goal.loop-run-preserved
loop-run-preserved c =
    let a = c.args in let is = c.loop-run.invariant in let out = c.loop-run.out in
    let run : List ℕ = c.in-Some.run' in let rest : List ℕ = concat c.next.new.self in let runs : List ℕ = concat c.loop-run.runs in
    let walk : List ℕ = c.loop-run.walk in let left : List ℕ = c.copy_next.new.walk in
    let t : ElementType = a.target.now.element in let f : ElementType = a.source.now.element in
    let e : runs ≡ run ++ rest = ap concat c.in-Some.ensures in
    let split : walk ≡ take (length run) walk ++ left = c.copy_next.ensures.walk in
    let long : length runs ≡ length run + length rest = ap length e ∙ length-append run rest in
    let front : length (take (length run) walk) ≡ length run = omega (arith, length-take (length run) walk, is.counts, long) in
    let all : length walk ≡ length (take (length run) walk) + length left = ap length split ∙ length-append (take (length run) walk) left in
    record {
      len = c.copy_next.ensures.len ∙ is.len;
      counts = omega (arith, all, front, long, is.counts);
      out = behind_run (λ p. p + item_size t ≤ length a.out.now) run rest runs e is.out;
      held = behind_run (λ p. p + item_size f ≤ length a.bytes.now) (take (length run) walk) left walk split is.held;
      rest = ap (with_copies t f a.bytes.now rest left) (c.copy_next.ensures.bytes ∙ (λ i. with_copies (c.elem.ensures i) (c.elem-in-Some.ensures i) a.bytes.now run (take (length run) walk) out))
          ∙ sym (copies-append t f a.bytes.now run rest (take (length run) walk) left out (sym front))
          ∙ sym (λ i. with_copies t f a.bytes.now (e i) (split i) out)
          ∙ is.rest;
    }
