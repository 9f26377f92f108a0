use Rattle.std.proofs.Common.{◌≡◌, ℤ, ◌+◌, ◌-◌, ◌*◌, ◌≤◌, ◌++◌, length, replicate, sym, ap, ◌∙◌, arith}
use Rattle.std.proofs.Math.Nat.{mul-le-mul_right}
use Rattle.std.proofs.lemmas.List.{replicate-append-replicate, length-replicate}
use Rattle.nd_model.specs.Arrays.Content.{number_at}
use Rattle.nd_model.specs.Arrays.Element.{Kind, size_of}
use Rattle.nd_model.specs.Making.Elementwise.{little}
use Rattle.nd_types.specs.Kinds.{kind_of}
use Rattle.nd_ufunc.specs.Loops.ElementsLeft.{ElementsLeft}
use Rattle.nd_ufunc.proofs.loops.SideBySide.{same_counted}
use Rattle.nd_ufunc.proofs.loops.Zipped.{repeated}
use Rattle.nd_ufunc.proofs.loops.laid_out.LaidOut.take.Goals as goal

pub returns-clause-split : goal.returns-clause-split
returns-clause-split c =
    let r = c.self.inside in let n = c.args.count in let k : Kind = kind_of r.kind in let s = size_of k in let z : ℤ = r.number in
    let all : length c.args.self.now.numbers ≡ r.count = ap length (sym (ap (λ (l : ElementsLeft). l.numbers) c.self.view_is)) ∙ length-replicate r.count z in
    let inside : n ≤ r.count = omega (arith, all, c.requires.enough) in
    let whole : r.count ≡ n + (r.count - n) = omega (arith, inside) in
    let own : size_of c.args.self.now.kind ≡ s = ap (λ (l : ElementsLeft). size_of l.kind) (sym c.self.view_is) in
    let most : n * s ≤ 8192 = omega (arith, ap (λ w. n * w) own, c.requires.room) in
    let there : n * s ≤ length r.numbers.now = c.self.invariant.many n inside most in
    sym (ap (λ (l : ElementsLeft). l.numbers) c.self.view_is) ∙ ap (λ m. replicate m z) whole ∙ sym (replicate-append-replicate n (r.count - n) z)
    ∙ ap (λ l. l ++ replicate (r.count - n) z)
    (sym (same_counted (λ j. number_at (little k) r.numbers.now (j * s)) (λ j. z) 0 n
    (λ j le lt. let end : (j + 1) * s ≤ n * s = mul-le-mul_right s (omega (arith, lt)) in c.self.invariant.each j (omega (arith, end, there))) ∙ repeated z 0 n))
