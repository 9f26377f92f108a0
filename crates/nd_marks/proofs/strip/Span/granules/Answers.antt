use Rattle.std.proofs.Common.{◌≡◌, ℕ, ◌*◌, ◌/◌, ◌%◌, ◌^◌, true, bit_or, inl, inr, sym, subst, arith}
use Rattle.std.proofs.lemmas.Bool.{cases_lt}
use Rattle.nd_marks.specs.Marks.{in_word}
use Rattle.nd_marks.proofs.Spans.{all_bits, bit_here, bit_stays}
use Rattle.nd_marks.proofs.strip.Span.granules.Goals as goal

pub returns-then-self-ge-MOST_GRANULAR : goal.returns-then-self-ge-MOST_GRANULAR
returns-then-self-ge-MOST_GRANULAR c = λ p lo hi. all_bits (p / 64 % 64) (omega arith)

pub loop-granule-init : goal.loop-granule-init
loop-granule-init c = λ g lo hi. absurd (omega (arith, lo, hi))

pub loop-granule-preserved : goal.loop-granule-preserved
loop-granule-preserved c = λ g lo hi. elim (cases_lt g c.loop-granule.granule) [
  | inl lt ↦ bit_stays c.loop-granule.word _ (g % 64) (c.loop-granule.invariant g lo lt)
  | inr ge ↦ let here : g ≡ c.loop-granule.granule = omega arith in
      subst (λ (q : ℕ). in_word (bit_or c.loop-granule.word (1 * 2 ^ (c.loop-granule.granule % 64) % 18446744073709551616)) (q % 64) ≡ true) (sym here) (bit_here c.loop-granule.word (c.loop-granule.granule % 64) (omega arith))
]

pub returns : goal.returns
returns c = λ p lo hi. c.loop-granule.invariant (p / 64) (omega (arith, lo)) (omega (arith, hi, c.loop-granule-test.false))
