use Rattle.std.proofs.Common.{◌≡◌, suc, ◌+◌, ◌-◌, ◌*◌, ◌<◌, ◌^◌, ◌∙◌, length, slice_index, refl, ap, arith}
use Rattle.nd_marks.specs.Marks.{in_rows}
use Rattle.nd_view.proofs.SideBySide.{each_of_side}
use Rattle.nd_marks.proofs.Strips.{forwards, backwards}
use Rattle.nd_marks.proofs.strip.strip_of.Goals as goal

pub invariant_of-collapse : goal.invariant_of-collapse
invariant_of-collapse c =
    let run = c.args.run.now in
    let s = c.unsigned_abs-step.result in
    let n = c.count-count.result in
    let end : slice_index run (n - 1) ≡ slice_index run 0 + (n - 1) * s = each_of_side run s (c.if-is_contiguous.ensures.0 refl) (n - 1) (omega (arith, c.count-count.ensures.value, c.count-count.ensures.some)) in
    let m : n * s ≡ (n - 1) * s + s = (let one : n ≡ (n - 1) + 1 = omega (arith, c.count-count.ensures.some) in ap (λ k. k * s) one ∙ omega arith) in
    let top : c.place-last.result < 2 ^ 64 = omega (arith, c.place-last.auto) in (
      omega (arith, c.if-step-eq0.false),
      (
        omega (arith, c.if-from-step.false, c.from-else-step-from.ensures),
        omega (arith, end, m, top, c.place-last.ensures, c.start-first.ensures, c.if-step-from.false, c.from.ensures),
      ),
    )

pub returns-then-is_contiguous : goal.returns-then-is_contiguous
returns-then-is_contiguous c = let run = c.args.run.now in let s = c.unsigned_abs-step.result in λ p.
    c.collapse.ensures p
    ∙ (λ i. in_rows (c.start-first.ensures i) c.args.size s (c.count-count.ensures.value i) p)
    ∙ forwards (slice_index run 0) s c.args.size run p (each_of_side run s (c.if-is_contiguous.ensures.0 refl))

pub invariant_of-collapse-then-are_backwards : goal.invariant_of-collapse-then-are_backwards
invariant_of-collapse-then-are_backwards c =
    let run = c.args.run.now in
    let s = c.unsigned_abs-step.result in
    let n = c.count-count.result in
    let end : slice_index run (n - 1) + (n - 1) * s ≡ slice_index run 0 = c.if-are_backwards.ensures refl (n - 1) (omega (arith, c.count-count.ensures.value, c.count-count.ensures.some)) in
    let m : n * s ≡ (n - 1) * s + s = (let one : n ≡ (n - 1) + 1 = omega (arith, c.count-count.ensures.some) in ap (λ k. k * s) one ∙ omega arith) in
    let top : c.start-first.result < 2 ^ 64 = omega (arith, c.start-first.auto) in (
      omega (arith, c.if-step-eq0.false),
      (
        omega (arith, c.if-from-step.false, c.from-else-step-from.ensures),
        omega (arith, end, m, top, c.place-last.ensures, c.start-first.ensures, c.if-step-from.false, c.from.ensures),
      ),
    )

pub returns-then-are_backwards : goal.returns-then-are_backwards
returns-then-are_backwards c = let run = c.args.run.now in let s = c.unsigned_abs-step.result in let n = length run in λ p.
    let last : c.place-last.result ≡ slice_index run (n - 1) = c.place-last.ensures ∙ (λ i. slice_index run (c.count-count.ensures.value i - 1)) in
    let some : 0 < n = omega (arith, c.count-count.ensures.value, c.count-count.ensures.some) in
    let end : slice_index run (n - 1) + (n - 1) * s ≡ slice_index run 0 = c.if-are_backwards.ensures refl (n - 1) (omega (arith, some)) in
    let m : n * s ≡ (n - 1) * s + s = (let one : n ≡ (n - 1) + 1 = omega (arith, some) in ap (λ k. k * s) one ∙ omega arith) in
    c.collapse-then-are_backwards.ensures p
    ∙ (λ i. in_rows (last i) c.args.size s (c.count-count.ensures.value i) p)
    ∙ backwards (slice_index run (n - 1)) s c.args.size run p (λ k lt.
    let here : slice_index run k + k * s ≡ slice_index run 0 = c.if-are_backwards.ensures refl k lt in
    let more : suc k * s ≡ k * s + s = omega arith in
    omega (arith, here, end, m, more))
