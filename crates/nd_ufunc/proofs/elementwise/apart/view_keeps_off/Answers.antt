use Rattle.std.proofs.Common.{◌≡◌, ℕ, ◌+◌, ◌++◌, List, length, sym, ap, subst, arith, length-append}
use Rattle.std.specs.List.{concat}
use Rattle.nd_ufunc.specs.Elementwise.KeptOff.{KeepsOff}
use Rattle.nd_ufunc.proofs.elementwise.KeptOff.{keeps_append, keeps_front, keeps_further}
use Rattle.nd_ufunc.proofs.elementwise.apart.view_keeps_off.Goals as goal

pub loop-run-preserved : goal.loop-run-preserved
loop-run-preserved c =
    let a = c.args in let at = c.loop-run.at in let run : List ℕ = c.in-Some.run' in let rest : List ℕ = concat c.next.new.self in
    let split : concat c.loop-run.runs ≡ run ++ rest = ap concat c.in-Some.ensures in
    let here : KeepsOff a.size a.first a.step at run = c.run_keeps_off.ensures.0 c.if-not-run_keeps_off.false in
    record {
      many = omega (arith, c.loop-run.invariant.many, ap length split, length-append run rest, c.count-at.ensures.value);
      left = λ off. c.loop-run.invariant.left
          (subst (KeepsOff a.size a.first a.step at) (sym split)
          (keeps_append a.size a.first a.step at run rest here (subst (λ n. KeepsOff a.size a.first a.step (at + n) rest) c.count-at.ensures.value off)));
      part = λ off. subst (λ n. KeepsOff a.size a.first a.step (at + n) rest) (sym c.count-at.ensures.value)
          (keeps_further a.size a.first a.step at run rest (subst (KeepsOff a.size a.first a.step at) split (c.loop-run.invariant.part off)));
    }

pub returns-then-not-run_keeps_off : goal.returns-then-not-run_keeps_off
returns-then-not-run_keeps_off c =
    let a = c.args in let at = c.loop-run.at in let run : List ℕ = c.in-Some.run' in let rest : List ℕ = concat c.next.new.self in
    let split : concat c.loop-run.runs ≡ run ++ rest = ap concat c.in-Some.ensures in (
      λ test. absurd (cc),
      λ off.
          let here : KeepsOff a.size a.first a.step at run = keeps_front a.size a.first a.step at run rest (subst (KeepsOff a.size a.first a.step at) split (c.loop-run.invariant.part off)) in
          let kept = c.run_keeps_off.ensures.1 here in
          absurd (cc),
    )
