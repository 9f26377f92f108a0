use Rattle.std.proofs.Common.{◌≡◌, ◌+◌, ◌*◌, ◌≤◌, length, slice_index, leb-true, refl, sym, subst, ◌∙◌, arith}
use Rattle.std.proofs.lemmas.Bool.{le-leb}
use Rattle.nd_view.proofs.SideBySide.{each_of_side, side_of_each}
use Rattle.nd_index.proofs.items.Counted.{packed_end, packed_is}
use Rattle.nd_index.proofs.items.reading.is_packed.Goals as goal

pub returns-then-not-is_contiguous : goal.returns-then-not-is_contiguous
returns-then-not-is_contiguous c = (
  λ no. absurd cc,
  λ packed. let yes = c.is_contiguous.ensures.1 (side_of_each c.args.run.now c.args.size packed.places) in absurd (cc yes),
)

pub returns : goal.returns
returns c =
    let run = c.args.run.now in let size = c.args.size in let len = c.args.len in
    let sums : c.from.result + c.from-2.result * c.from-3.result ≡ slice_index run 0 + length run * size
    = (λ i. (c.from.ensures ∙ c.start.ensures) i + (c.from-2.ensures ∙ c.count.ensures.value) i * c.from-3.ensures i) in (
      λ yes.
          let total : slice_index run 0 + length run * size ≤ len = subst (λ n. n ≤ len) sums (leb-true (c.from.result + c.from-2.result * c.from-3.result) len yes) in
          packed_is size len run (each_of_side run size (c.if-not-is_contiguous.ensures.0 refl)) total,
      λ packed.
          le-leb (c.from.result + c.from-2.result * c.from-3.result) len
          (subst (λ n. n ≤ len) (sym sums) (packed_end size len run (omega (arith, c.count.ensures.value, c.count.ensures.some)) packed)),
    )
