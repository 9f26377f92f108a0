use Rattle.std.proofs.Common.{◌≡◌, ◌+◌, ◌-◌, ◌^◌, ◌<◌, nat_eq, sym, ap, ◌∙◌, arith}
use Rattle.std.specs.Int.{bit_at}
use Rattle.std.proofs.lemmas.Nat.Bits.{bit_at-zero}
use Rattle.nd_marks.proofs.Walks.{shifted, zeros_before, ones_from, low_word}
use Rattle.nd_marks.proofs.walk.next_set.Goals as goal

pub returns-then-rest-eq0-clause-unset : goal.returns-then-rest-eq0-clause-unset
returns-then-rest-eq0-clause-unset c = λ i from to.
    let k = c.args.bit in
    let back : k + (i - k) ≡ i = omega arith in
    ap (λ b. nat_eq b 1) (ap (bit_at c.args.word) (sym back) ∙ sym (shifted c.args.word k (i - k)) ∙ ap (λ n. bit_at n (i - k)) c.if-rest-eq0.true ∙ bit_at-zero (i - k))

pub overflow_shr-word : goal.overflow_shr-word
overflow_shr-word c = let fits : c.args.word < 2 ^ 64 = omega (arith, c.ranges.word.fits) in
    low_word c.args.word (c.args.bit + c.from.result) fits (zeros_before c.args.word c.args.bit c.from.result fits c.requires c.if-rest-eq0.false c.from.ensures).0

pub returns-clause-order : goal.returns-clause-order
returns-clause-order c = let fits : c.args.word < 2 ^ 64 = omega (arith, c.ranges.word.fits) in
    let from = c.args.bit + c.from.result in
    let before = zeros_before c.args.word c.args.bit c.from.result fits c.requires c.if-rest-eq0.false c.from.ensures in
    let set = ones_from c.args.word from c.from-2.result fits before.0 (c.from-2.ensures ∙ c.trailing_ones-ones.ensures) in
    let some : 0 < c.from-2.result = set.0 in
    (omega arith, (omega arith, (set.1.0, omega arith)))

pub returns-clause-unset : goal.returns-clause-unset
returns-clause-unset c = let fits : c.args.word < 2 ^ 64 = omega (arith, c.ranges.word.fits) in
    (zeros_before c.args.word c.args.bit c.from.result fits c.requires c.if-rest-eq0.false c.from.ensures).1

pub returns-clause-set : goal.returns-clause-set
returns-clause-set c = let fits : c.args.word < 2 ^ 64 = omega (arith, c.ranges.word.fits) in
    let from = c.args.bit + c.from.result in
    let before = zeros_before c.args.word c.args.bit c.from.result fits c.requires c.if-rest-eq0.false c.from.ensures in
    (ones_from c.args.word from c.from-2.result fits before.0 (c.from-2.ensures ∙ c.trailing_ones-ones.ensures)).1.1

pub returns-clause-end : goal.returns-clause-end
returns-clause-end c = λ le. let fits : c.args.word < 2 ^ 64 = omega (arith, c.ranges.word.fits) in
    let from = c.args.bit + c.from.result in
    let before = zeros_before c.args.word c.args.bit c.from.result fits c.requires c.if-rest-eq0.false c.from.ensures in
    let set = ones_from c.args.word from c.from-2.result fits before.0 (c.from-2.ensures ∙ c.trailing_ones-ones.ensures) in
    absurd (omega (arith, set.0, le))
