use Rattle.std.proofs.Common.{◌≡◌, ◌-◌, ◌++◌, List, ℕ, length, take, drop, sym, ap, ◌∙◌, arith, append_assoc, length-drop}
use Rattle.std.proofs.lemmas.List.{take-append-drop}
use Rattle.std.proofs.Math.Seq.{take-length}
use Rattle.std.specs.List.{concat}
use Rattle.nd_assign.proofs.walk.Walk.next.Goals as goal

pub returns-clause-split : goal.returns-clause-split
returns-clause-split c =
    let run : List ℕ = c.take_run-run.result in let n = c.args.most in let rest : List ℕ = concat c.take_run-run.new.runs in
    let left : c.count-count.result - n ≡ length (drop n run) = omega (arith, c.count-count.ensures.value, length-drop n run) in
    let behind : c.part.result ≡ drop n run = c.part.ensures ∙ ap (λ k. take k (drop n run)) left ∙ take-length (drop n run) in
    let front : c.part-2.result ≡ take n run = c.part-2.ensures in
    sym c.self.view_is ∙ c.take_run-run.ensures.split ∙ (λ i. sym (take-append-drop n run) i ++ rest) ∙ append_assoc (take n run) (drop n run) rest ∙ sym (λ i. front i ++ (behind i ++ rest))
