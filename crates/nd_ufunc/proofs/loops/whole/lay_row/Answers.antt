use Rattle.std.proofs.Common.{◌≡◌, ℕ, ℤ, List, ◌*◌, ◌≤◌, ◌++◌, length, take, drop, to_z, of_z, subst, sym, ap, ◌∙◌, arith}
use Rattle.std.specs.Int.{w128}
use mir.Facts.{to_z-of_z}
use Rattle.std.proofs.Math.Seq.{take-append_seam}
use Rattle.std.proofs.lemmas.List.{length-take-le}
use Rattle.nd_model.specs.Arrays.Content.{number_at}
use Rattle.nd_model.specs.Arrays.Element.{Kind, IsValue, size_of}
use Rattle.nd_model.specs.Making.Elementwise.{little}
use Rattle.nd_types.specs.Kinds.{kind_of}
use Rattle.nd_ufunc.proofs.loops.Laid.{laid}
use Rattle.nd_ufunc.proofs.loops.whole.lay_row.Goals as goal

pub returns-clause-each : goal.returns-clause-each
returns-clause-each c = λ j lt.
    let a = c.args in let n = a.count in let m = n * c.size.result in let k : Kind = kind_of a.kind in let s = size_of k in
    let z : ℤ = to_z w128 (of_z w128 a.number) in
    let part : List ℕ = c.lay_out_kind.new.out in let rest : List ℕ = drop m a.row.now in
    let same : z ≡ a.number = to_z-of_z c.ranges.number in
    let inside : m ≤ 4096 = omega (arith, ap (λ w. n * w) c.size.ensures.value, c.requires.row) in
    let long : length part ≡ m = c.lay_out_kind.auto.out ∙ length-take-le m a.row.now (omega (arith, inside)) in
    let front : take m (part ++ rest) ≡ part = ap (λ i. take i (part ++ rest)) (sym long) ∙ take-append_seam part rest in
    let held : IsValue k z = subst (IsValue k) (sym same) c.requires.number in
    ap (λ l. number_at (little k) l (j * s)) front ∙ laid k z n part held c.lay_out_kind.ensures j lt ∙ same
