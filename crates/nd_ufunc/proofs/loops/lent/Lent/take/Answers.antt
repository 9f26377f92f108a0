use Rattle.std.proofs.Common.{◌≡◌, ℕ, ◌+◌, ◌-◌, ◌≤◌, ◌++◌, List, ℤ, length, sym, ap, ◌∙◌, arith}
use Rattle.nd_ufunc.specs.Loops.Sides.{numbers_on}
use Rattle.nd_ufunc.specs.declared.loops.kernel.Side.{Side}
use Rattle.nd_ufunc.proofs.loops.Joined.{fewer, length-numbers, on_behind}
use Rattle.nd_ufunc.proofs.loops.lent.Lent.take.Goals as goal

few : (l : List ℤ) (s : Side) (m n : ℕ) → l ≡ numbers_on s n → m ≤ length l → m ≤ n
few l s m n is le = let long : length l ≡ n = ap length is ∙ length-numbers s n in omega (arith, le, long)

pub side_behind-self-inside-requires : goal.side_behind-self-inside-requires
side_behind-self-inside-requires c =
    let l = c.self.inside in fewer l.side c.args.count l.count (few c.args.self.now l.side c.args.count l.count (sym c.self.view_is) c.requires) c.self.invariant

pub overflow_sub-self : goal.overflow_sub-self
overflow_sub-self c = let l = c.self.inside in few c.args.self.now l.side c.args.count l.count (sym c.self.view_is) c.requires

pub returns-clause-enough : goal.returns-clause-enough
returns-clause-enough c =
    let l = c.self.inside in fewer l.side c.args.count l.count (few c.args.self.now l.side c.args.count l.count (sym c.self.view_is) c.requires) c.self.invariant

pub returns-clause-split : goal.returns-clause-split
returns-clause-split c =
    let l = c.self.inside in let m = c.args.count in
    let le : m ≤ l.count = few c.args.self.now l.side m l.count (sym c.self.view_is) c.requires in
    let whole : l.count ≡ m + (l.count - m) = omega (arith, le) in
    sym c.self.view_is ∙ ap (numbers_on l.side) whole ∙ on_behind l.side c.side_behind-self-inside.result m (l.count - m) c.side_behind-self-inside.ensures.numbers
