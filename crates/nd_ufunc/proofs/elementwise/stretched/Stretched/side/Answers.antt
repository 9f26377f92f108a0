use Rattle.std.proofs.Common.{rules, ◌≡◌, ◌∙◌, ℤ, replicate, to_z, of_z, sym, ap}
use Rattle.std.specs.Int.{w128}
use Rattle.nd_ufunc.specs.Elementwise.Stretched.{stretched_numbers}
use Rattle.nd_ufunc.specs.declared.elementwise.stretched.Stretched.{Stretched}
use Rattle.nd_ufunc.proofs.loops.Zipped.{repeated}
use Rattle.nd_ufunc.proofs.elementwise.stretched.Stretched.side.Goals as goal

pub returns-in-Number-clause-numbers : goal.returns-in-Number-clause-numbers
returns-in-Number-clause-numbers c = λ count has.
    let same : to_z w128 (of_z w128 c.in-Number.number) ≡ c.in-Number.number = search rules in
    repeated (to_z w128 (of_z w128 c.in-Number.number)) 0 count ∙ ap (λ (z : ℤ). replicate count z) same
    ∙ ap (λ (s : Stretched). stretched_numbers s count) (sym c.in-Number.is)
