use Rattle.std.proofs.Common.{◌≡◌, ℕ, ◌+◌, ◌-◌, ◌*◌, ◌%◌, ◌<◌, ◌≤◌, ◌++◌, map, length, take, drop, sym, ap, ◌∙◌, arith}
use Rattle.std.proofs.Math.Nat.{mod-lt, mul-le-mul_right}
use Rattle.std.proofs.lemmas.List.{length-map}
use Rattle.nd_model.specs.Arrays.Content.{number_at}
use Rattle.nd_model.specs.Arrays.Element.{Element, Kind, size_of}
use Rattle.nd_model.specs.Making.Elementwise.{little}
use Rattle.nd_model.specs.Arrays.Tuple.{count_up}
use Rattle.nd_model.proofs.Values.{few_bytes}
use Rattle.nd_types.specs.Kinds.{kind_of}
use Rattle.nd_view.proofs.Tuples.{length-count_up}
use Rattle.nd_ufunc.specs.Loops.Cycles.{first_number}
use Rattle.nd_ufunc.specs.Loops.ElementsLeft.{ElementsLeft}
use Rattle.nd_ufunc.proofs.loops.Cycles.{taken}
use Rattle.nd_ufunc.proofs.loops.cycle.Cycle.take.Goals as goal

pub overflow_add-self : goal.overflow_add-self
overflow_add-self c =
    let r = c.self.inside in
    let counted : length c.args.self.now.numbers ≡ r.count - r.at
    = ap length (sym (ap (λ (l : ElementsLeft). l.numbers) c.self.view_is)) ∙ length-map (count_up r.at (r.count - r.at)) (λ k. first_number r (k % r.period)) ∙ length-count_up r.at (r.count - r.at) in
    let inside : r.at + c.args.count ≤ r.count = omega (arith, counted, c.requires.enough, c.self.invariant.within) in
    omega (arith, inside)

pub invariant_of-self : goal.invariant_of-self
invariant_of-self c =
    let r = c.self.inside in let is = c.self.invariant in
    let counted : length c.args.self.now.numbers ≡ r.count - r.at
    = ap length (sym (ap (λ (l : ElementsLeft). l.numbers) c.self.view_is)) ∙ length-map (count_up r.at (r.count - r.at)) (λ k. first_number r (k % r.period)) ∙ length-count_up r.at (r.count - r.at) in
    record {
      some = is.some;
      few = is.few;
      within = omega (arith, counted, c.requires.enough, is.within);
      room = is.room;
      again = is.again;
    }

-- what is taken from a place before the numbers begin again is within the room
in_room : (at period n k s : ℕ) → 0 < period → period ≤ 64 → s ≤ 8 → n * s ≤ 8192 → k < at % period + n → (k + 1) * s ≤ 8704
in_room at period n k s some few small most lt =
    let far : at % period ≤ 63 = omega (arith, mod-lt at some) in
    let most_far : at % period * s ≤ 63 * s = mul-le-mul_right s far in
    let end : (k + 1) * s ≤ (at % period + n) * s = mul-le-mul_right s (omega arith) in
    let parts : (at % period + n) * s ≡ at % period * s + n * s = omega arith in
    omega (arith, most_far, end, parts)

pub returns-clause-split : goal.returns-clause-split
returns-clause-split c =
    let r = c.self.inside in let is = c.self.invariant in let n = c.args.count in let size = c.size-size.result in
    let k : Kind = kind_of r.kind in let e : Element = little k in let s = size_of k in let p = r.at % r.period in
    let counted : length c.args.self.now.numbers ≡ r.count - r.at
    = ap length (sym (ap (λ (l : ElementsLeft). l.numbers) c.self.view_is)) ∙ length-map (count_up r.at (r.count - r.at)) (λ k. first_number r (k % r.period)) ∙ length-count_up r.at (r.count - r.at) in
    let inside : r.at + n ≤ r.count = omega (arith, counted, c.requires.enough, is.within) in
    let own : size_of c.args.self.now.kind ≡ s = ap (λ (l : ElementsLeft). size_of l.kind) (sym c.self.view_is) in
    let most : n * s ≤ 8192 = omega (arith, ap (λ w. n * w) own, c.requires.room) in
    let width : size ≡ s = c.size-size.ensures.value in
    let start : p * size ≡ p * s = ap (λ w. p * w) width in
    let many : p * size + n * size - p * size ≡ n * s = omega (arith, ap (λ w. n * w) width) in
    sym (ap (λ (l : ElementsLeft). l.numbers) c.self.view_is)
    ∙ taken e r.first.now r.period (p + n) r.at r.count n is.some inside (omega arith) (λ k lt. is.again k (in_room r.at r.period n k s is.some is.few (few_bytes (kind_of r.kind)) most lt))
    ∙ (λ i. map (λ j. number_at e (take (sym many i) (drop (sym start i) r.first.now)) (j * s)) (count_up 0 n)
    ++ map (λ k. number_at e r.first.now (k % r.period * s)) (count_up (r.at + n) (r.count - (r.at + n))))
