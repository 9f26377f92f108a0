use Rattle.std.proofs.Common.{rules, ◌≡◌, ℤ, ◌+◌, ◌-◌, ◌++◌, length, replicate, sym, ap, ◌∙◌, arith, FitsSigned}
use Rattle.std.specs.Int.{w128}
use Rattle.std.proofs.lemmas.List.{replicate-append-replicate, length-replicate}
use mir.Facts.{to_z-of_z}
use Rattle.nd_ufunc.proofs.loops.repeated.Repeated.take.Goals as goal

pub returns : goal.returns
returns c =
    let r = c.self.inside in let n = c.args.count in
    let fits : FitsSigned w128 r.number = search rules in
    let all : length c.args.self.now ≡ r.count = ap length (sym c.self.view_is) ∙ length-replicate r.count r.number in
    let whole : r.count ≡ n + (r.count - n) = omega (arith, c.requires, all) in
    sym c.self.view_is ∙ ap (λ m. replicate m r.number) whole ∙ sym (replicate-append-replicate n (r.count - n) r.number)
    ∙ ap (λ (z : ℤ). replicate n z ++ replicate (r.count - n) r.number) (sym (to_z-of_z fits))
