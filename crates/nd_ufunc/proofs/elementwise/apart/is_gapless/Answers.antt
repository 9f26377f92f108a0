use Rattle.std.proofs.Common.{◌≡◌, ℕ, ◌+◌, ◌*◌, ◌++◌, List, [], length, refl, sym, ap, ◌∙◌, subst, arith, length-append}
use Rattle.std.specs.List.{concat}
use Rattle.nd_view.specs.SideBySide.{side_by_side}
use Rattle.nd_ufunc.proofs.elementwise.Gapless.{AreStepped, due, from_first, stepped_append, stepped_front, stepped_further, to_first, was_due}
use Rattle.nd_ufunc.proofs.elementwise.apart.is_gapless.Goals as goal

pub loop-run-preserved : goal.loop-run-preserved
loop-run-preserved c =
    let size = c.args.size in let first = c.offset-first.result in let at = c.loop-run.at in
    let run : List ℕ = c.in-Some.run' in let rest : List ℕ = concat c.next.new.self in
    let split : concat c.loop-run.runs ≡ run ++ rest = ap concat c.in-Some.ensures in
    let is : run ≡ side_by_side size (first + at * size) (length run)
    = c.is_next.ensures.0 c.if-not-is_next.false ∙ ap (λ p. side_by_side size p (length run)) c.place_at.ensures in
    let here : AreStepped size first at run = due size first at run is in
    record {
      many = omega (arith, c.loop-run.invariant.many, ap length split, length-append run rest, c.count-at.ensures.value);
      left = λ off. c.loop-run.invariant.left
          (subst (AreStepped size first at) (sym split)
          (stepped_append size first at run rest here (subst (λ n. AreStepped size first (at + n) rest) c.count-at.ensures.value off)));
      part = λ off. subst (λ n. AreStepped size first (at + n) rest) (sym c.count-at.ensures.value)
          (stepped_further size first at run rest (subst (AreStepped size first at) split (c.loop-run.invariant.part off)));
    }

pub returns-then-not-is_next : goal.returns-then-not-is_next
returns-then-not-is_next c =
    let size = c.args.size in let first = c.offset-first.result in let at = c.loop-run.at in let places : List ℕ = c.args.view.now.places in
    let run : List ℕ = c.in-Some.run' in let rest : List ℕ = concat c.next.new.self in
    let split : concat c.loop-run.runs ≡ run ++ rest = ap concat c.in-Some.ensures in (
      λ test. absurd (cc),
      λ gapless.
          let whole : AreStepped size first 0 places = from_first size first places (gapless ∙ ap (λ p. side_by_side size p (length places)) (sym c.offset-first.ensures)) in
          let here : AreStepped size first at run = stepped_front size first at run rest (subst (AreStepped size first at) split (c.loop-run.invariant.part whole)) in
          let next = c.is_next.ensures.1 (was_due size first at run here ∙ ap (λ p. side_by_side size p (length run)) (sym c.place_at.ensures)) in
          absurd (cc),
    )

pub returns : goal.returns
returns c =
    let size = c.args.size in let first = c.offset-first.result in let at = c.loop-run.at in let places : List ℕ = c.args.view.now.places in
    let none : concat c.loop-run.runs ≡ [] = ap concat c.in_default.ensures.0 in
    let whole : AreStepped size first 0 places = c.loop-run.invariant.left (subst (AreStepped size first at) (sym none) tt) in
    (λ test. to_first size first places whole ∙ ap (λ p. side_by_side size p (length places)) c.offset-first.ensures, λ gapless. refl)
