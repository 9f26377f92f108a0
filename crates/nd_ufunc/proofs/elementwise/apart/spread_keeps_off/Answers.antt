use Rattle.std.proofs.Common.{◌≡◌, ℕ, ◌+◌, ◌*◌, ◌<◌, ◌≤◌, List, length, get_or, refl, ap, ◌∙◌, inl, inr, arith, length-drop}
use Rattle.std.proofs.lemmas.Bool.{cases_lt}
use Rattle.nd_ufunc.proofs.elementwise.KeptOff.{keeps_at, keeps_each}
use Rattle.nd_ufunc.proofs.elementwise.Spreads.{next_of}
use Rattle.nd_ufunc.proofs.elementwise.apart.spread_keeps_off.Goals as goal
use Rattle.nd_ufunc.proofs.elementwise.apart.spread_keeps_off.Goals.{else-not-ends_before-via-then-not-ends_before+else-from-place_at, else-not-ends_before-via-else-not-ends_before}

pub next-place-requires : goal.next-place-requires
next-place-requires c = omega (arith, ap length c.loop-at.invariant.walk, length-drop c.loop-at.at c.args.places.now, c.loop-at-test.true, c.requires.count)

pub returns-then-from-place_at : goal.returns-then-from-place_at
returns-then-from-place_at c =
    let a = c.args in let k = c.loop-at.at in let place : ℕ = c.next-place.result in let places : List ℕ = a.places.now in
    let is = next_of places c.loop-at.places c.next-place.new.self k place c.loop-at.invariant.walk c.next-place.ensures in (
      λ test. absurd (cc),
      λ off. elim (cases_lt a.first (place + a.size)) [
        | inl over ↦
            let least = keeps_at a.size a.first a.step 0 places off k (omega (arith, c.loop-at-test.true, c.requires.count)) (omega (arith, over, is.0)) in
            let same : (0 + k) * a.step ≡ k * a.step = omega arith in
            absurd (omega (arith, least, same, is.0, c.if-from-place_at.true, c.from.ensures, c.place_at.ensures))
        | inr under ↦ let before = c.ends_before.ensures.1 under in absurd (cc)
      ],
    )

pub loop-at-preserved : goal.loop-at-preserved
loop-at-preserved c =
    let a = c.args in let at = c.loop-at.at in
    let is = next_of a.places.now c.loop-at.places c.next-place.new.self at c.next-place.result c.loop-at.invariant.walk c.next-place.ensures in
    let here : a.first < c.next-place.result + a.size → a.first + at * a.step ≤ c.next-place.result = λ over. elim c.else-not-ends_before.branch [
      | else-not-ends_before-via-then-not-ends_before+else-from-place_at w ↦ let same : (0 + at) * a.step ≡ at * a.step = omega arith in omega (arith, same, w.if-from-place_at.false, w.from.ensures, w.place_at.ensures)
      | else-not-ends_before-via-else-not-ends_before w ↦ let before = c.ends_before.ensures.0 w.if-not-ends_before.false in absurd (omega (arith, over, before))
    ] in
    record {
      walk = is.1;
      done = λ k lt over. elim (cases_lt k at) [
        | inl below ↦ c.loop-at.invariant.done k below over
        | inr last ↦
            let same : k ≡ at = omega (arith, lt, last) in
            let place : get_or a.places.now k 0 ≡ c.next-place.result = ap (λ j. get_or a.places.now j 0) same ∙ is.0 in
            let wide : k * a.step ≡ at * a.step = ap (λ j. j * a.step) same in
            omega (arith, place, wide, here (omega (arith, over, place)))
      ];
    }

pub returns : goal.returns
returns c =
    let a = c.args in (
      λ test. keeps_each a.size a.first a.step 0 a.places.now (λ k lt over.
          let same : k * a.step ≡ (0 + k) * a.step = omega arith in
          let least = c.loop-at.invariant.done k (omega (arith, lt, c.loop-at-test.false, c.requires.count)) over in
          omega (arith, least, same)),
      λ off. refl,
    )
