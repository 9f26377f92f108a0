use Rattle.std.proofs.Common.{◌≡◌, ◌-◌, ◌*◌, ap₂, ◌∙◌, arith}
use Rattle.nd_marks.proofs.grid.Grid.of_lines.Goals as goal

pub invariant_of-result : goal.invariant_of-result
invariant_of-result c =
    let s = c.args.strip.now in
    let last : c.from-3.result * c.from-4.result ≡ (c.args.lines - 1) * c.args.jump = ap₂ (λ a b. a * b) c.from-3.ensures c.from-4.ensures in
    let rows : c.from-6.result * c.from-7.result ≡ s.count * s.step = ap₂ (λ a b. a * b) (c.from-6.ensures ∙ c.count.ensures) (c.from-7.ensures ∙ c.step.ensures) in
    record {
      some = omega (arith, c.if-lines-eq0.false);
      near = omega (arith, last, c.if-last-from.false, c.from-2.ensures, c.first.ensures);
      room = omega (arith, last, rows, c.if-last-from-gt-NEAR.false, c.from-2.ensures, c.first.ensures);
      wide = c.reach.ensures.wide;
      apart = λ _. (omega (arith, c.if-jump-eq0.false), omega (arith, c.if-reach-from.false, c.reach.ensures.value, c.from.ensures));
    }
