use Rattle.std.proofs.Common.{◌≡◌, ℕ, ℤ, List, ◌+◌, ◌*◌, ◌/◌, ◌<◌, ◌≤◌, ◌++◌, length, take, drop, to_z, of_z, subst, sym, ap, ◌∙◌, arith}
use Rattle.std.specs.Int.{w128}
use mir.Facts.{to_z-of_z}
use Rattle.std.proofs.Math.Nat.{mul-div_left, mul-le-mul_right, div-mul-le_self}
use Rattle.std.proofs.Math.Seq.{take-append_seam}
use Rattle.std.proofs.lemmas.List.{length-take-le}
use Rattle.std.proofs.lemmas.Nat.{le-div}
use Rattle.nd_model.specs.Arrays.Content.{number_at}
use Rattle.nd_model.specs.Arrays.Element.{Kind, IsValue, size_of}
use Rattle.nd_model.specs.Making.Elementwise.{little}
use Rattle.nd_types.specs.Kinds.{kind_of}
use Rattle.nd_ufunc.proofs.loops.Laid.{laid}
use Rattle.nd_ufunc.proofs.loops.laid_out.LaidOut.new.Goals as goal

-- a number of times is one that the room has
below : (j m s : ℕ) → (j + 1) * s ≤ m * s → 0 < s → j < m
below j m s le some = by_cases (le-div (j + 1) (m * s) s some le)
  where
    by_cases : j + 1 ≤ m * s / s → j < m
    by_cases h = omega (arith, h, mul-div_left m some)

pub invariant_of-result : goal.invariant_of-result
invariant_of-result c =
    let a = c.args in let size = c.size-size.result in let m = c.min-some.result in let k : Kind = kind_of a.kind in let s = size_of k in
    let z : ℤ = to_z w128 (of_z w128 a.number) in
    let part : List ℕ = c.lay_out_kind.new.out in let rest : List ℕ = drop (m * size) a.room.now in
    let width : size ≡ s = c.size-size.ensures.value in
    let some : 0 < size = omega (arith, c.size-size.ensures.range) in
    let some_bytes : 0 < s = omega (arith, some, width) in
    let few : m ≤ 8192 / size = omega (arith, c.min-some.ensures) in
    let most : m * size ≤ 8192 / size * size = mul-le-mul_right size few in
    let inside : m * size ≤ 8704 = omega (arith, most, div-mul-le_self 8192 size) in
    let long : length part ≡ m * size = c.lay_out_kind.auto.out ∙ length-take-le (m * size) a.room.now (omega (arith, inside)) in
    let front : take (m * size) (part ++ rest) ≡ part = ap (λ n. take n (part ++ rest)) (sym long) ∙ take-append_seam part rest in
    let longs : length (take (m * size) (part ++ rest)) ≡ m * s = ap length front ∙ long ∙ ap (λ w. m * w) width in
    let held : IsValue k z = subst (IsValue k) (sym (to_z-of_z c.ranges.number)) c.requires in
    record {
      many = λ n le small.
          let narrow : n * size ≤ 8192 = omega (arith, ap (λ w. n * w) width, small) in
          let fits : n ≤ 8192 / size = le-div n 8192 size some narrow in
          let no_more : n ≤ m = omega (arith, le, fits, c.min-some.ensures) in
          let bytes : n * s ≤ m * s = mul-le-mul_right s no_more in
          omega (arith, bytes, longs);
      each = λ j le.
          ap (λ l. number_at (little k) l (j * s)) front ∙ laid k z m part held c.lay_out_kind.ensures j (below j m s (omega (arith, le, longs)) some_bytes);
    }
