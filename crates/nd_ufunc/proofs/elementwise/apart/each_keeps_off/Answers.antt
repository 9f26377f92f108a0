use Rattle.std.proofs.Common.{ℕ, ◌+◌, refl, inl, inr, arith}
use Rattle.std.proofs.lemmas.Bool.{cases_lt}
use Rattle.nd_ufunc.proofs.elementwise.KeptOff.{keeps_at, keeps_each}
use Rattle.nd_ufunc.proofs.elementwise.apart.each_keeps_off.Goals as goal

pub returns-then-from-place_at : goal.returns-then-from-place_at
returns-then-from-place_at c =
    let a = c.args in let k = c.loop-number.number in let place : ℕ = c.place-place.result in (
      λ test. absurd (cc),
      λ off. elim (cases_lt a.first (place + a.size)) [
        | inl over ↦
            let least = keeps_at a.size a.first a.step a.at a.run.now off k (omega (arith, c.loop-number-test.true, c.count-number-end.ensures.value)) (omega (arith, over, c.place-place.ensures)) in
            absurd (omega (arith, least, c.if-from-place_at.true, c.from.ensures, c.place-place.ensures, c.place_at.ensures))
        | inr under ↦ let before = c.ends_before.ensures.1 under in absurd (cc)
      ],
    )

pub returns : goal.returns
returns c =
    let a = c.args in (
      λ test. keeps_each a.size a.first a.step a.at a.run.now (λ k lt over. c.loop-number.invariant k (omega (arith, lt, c.loop-number-test.false, c.count-number-end.ensures.value)) over),
      λ off. refl,
    )
