use Rattle.std.proofs.Common.{◌≡◌, ℕ, ℤ, ◌+◌, ◌≤◌, ◌++◌, List, map, length, take, drop, sym, ap, ◌∙◌, subst, arith}
use Rattle.std.specs.List.{All}
use Rattle.std.proofs.lemmas.List.{drop_at, drop-map, length-map, length-take-le}
use Rattle.nd_model.specs.Arrays.Content.{number_at}
use Rattle.nd_model.specs.Arrays.Element.{Element, size_of}
use Rattle.nd_model.specs.Arrays.Tuple.{count_up}
use Rattle.nd_view.proofs.ByRuns.{behind_run}
use Rattle.nd_view.proofs.Tuples.{length-count_up}
use Rattle.nd_ufunc.specs.Elementwise.KeptOff.{KeepsOff}
use Rattle.nd_ufunc.specs.Elementwise.Beside.{HeldBeside, StaysBeside, left_beside}
use Rattle.nd_ufunc.specs.Loops.Feeds.{numbers_left}
use Rattle.nd_ufunc.specs.Loops.Sides.{number_on, numbers_on}
use Rattle.nd_ufunc.proofs.elementwise.KeptOff.{keeps_further}
use Rattle.nd_ufunc.proofs.elementwise.beside.LeftBeside.take.Goals as goal

pub returns-in-Fixed-clause-further : goal.returns-in-Fixed-clause-further
returns-in-Fixed-clause-further c = λ bytes.
    let n = c.args.count in let front : List ℤ = numbers_on c.take.result n in
    let long : length front ≡ n = length-map (count_up 0 n) (number_on c.take.result) ∙ length-count_up 0 n in
    sym (ap (λ s. drop n (left_beside s bytes)) c.in-Fixed.is ∙ ap (drop n) c.take.ensures.split ∙ drop_at front (numbers_left c.take.new.self) n long)

pub returns-in-Own-clause-held : goal.returns-in-Own-clause-held
returns-in-Own-clause-held c = λ len held.
    let o = c.in-Own.elements in let new : List ℕ = c.take-in-Own.new.self.walk in
    let all : All (λ p. p + size_of o.elem.kind ≤ len) o.walk = subst (λ s. HeldBeside s len) c.in-Own.is held in
    subst (λ (e : Element). All (λ p. p + size_of e.kind ≤ len) new) (sym c.take-in-Own.ensures.elem)
    (behind_run (λ p. p + size_of o.elem.kind ≤ len) (take c.args.count o.walk) new o.walk c.take-in-Own.ensures.walk all)

pub returns-in-Own-clause-stays : goal.returns-in-Own-clause-stays
returns-in-Own-clause-stays c = λ first step at stays.
    let o = c.in-Own.elements in let new : List ℕ = c.take-in-Own.new.self.walk in let n = c.args.count in
    let off : KeepsOff (size_of o.elem.kind) first step at o.walk = subst (λ s. StaysBeside s first step at) c.in-Own.is stays in
    let counted : length (left_beside c.args.self.now c.args.block.now) ≡ length o.walk
    = ap (λ s. length (left_beside s c.args.block.now)) c.in-Own.is ∙ length-map o.walk (number_at o.elem c.args.block.now) in
    let some : length (take n o.walk) ≡ n = length-take-le n o.walk (omega (arith, c.requires.enough, counted)) in
    let split : KeepsOff (size_of o.elem.kind) first step at (take n o.walk ++ new) = subst (KeepsOff (size_of o.elem.kind) first step at) c.take-in-Own.ensures.walk off in
    subst (λ (e : Element). KeepsOff (size_of e.kind) first step (at + n) new) (sym c.take-in-Own.ensures.elem)
    (subst (λ m. KeepsOff (size_of o.elem.kind) first step (at + m) new) some (keeps_further (size_of o.elem.kind) first step at (take n o.walk) new split))

pub returns-in-OwnSpread-clause-held : goal.returns-in-OwnSpread-clause-held
returns-in-OwnSpread-clause-held c = λ len held.
    let o = c.in-OwnSpread.elements in let new : List ℕ = c.take-in-OwnSpread.new.self.walk in
    let all : All (λ p. p + size_of o.elem.kind ≤ len) o.walk = subst (λ s. HeldBeside s len) c.in-OwnSpread.is held in
    subst (λ (e : Element). All (λ p. p + size_of e.kind ≤ len) new) (sym c.take-in-OwnSpread.ensures.elem)
    (behind_run (λ p. p + size_of o.elem.kind ≤ len) (take c.args.count o.walk) new o.walk c.take-in-OwnSpread.ensures.walk all)

pub returns-in-OwnSpread-clause-stays : goal.returns-in-OwnSpread-clause-stays
returns-in-OwnSpread-clause-stays c = λ first step at stays.
    let o = c.in-OwnSpread.elements in let new : List ℕ = c.take-in-OwnSpread.new.self.walk in let n = c.args.count in
    let off : KeepsOff (size_of o.elem.kind) first step at o.walk = subst (λ s. StaysBeside s first step at) c.in-OwnSpread.is stays in
    let counted : length (left_beside c.args.self.now c.args.block.now) ≡ length o.walk
    = ap (λ s. length (left_beside s c.args.block.now)) c.in-OwnSpread.is ∙ length-map o.walk (number_at o.elem c.args.block.now) in
    let some : length (take n o.walk) ≡ n = length-take-le n o.walk (omega (arith, c.requires.enough, counted)) in
    let split : KeepsOff (size_of o.elem.kind) first step at (take n o.walk ++ new) = subst (KeepsOff (size_of o.elem.kind) first step at) c.take-in-OwnSpread.ensures.walk off in
    subst (λ (e : Element). KeepsOff (size_of e.kind) first step (at + n) new) (sym c.take-in-OwnSpread.ensures.elem)
    (subst (λ m. KeepsOff (size_of o.elem.kind) first step (at + m) new) some (keeps_further (size_of o.elem.kind) first step at (take n o.walk) new split))

pub returns-in-FixedSpread-clause-further : goal.returns-in-FixedSpread-clause-further
returns-in-FixedSpread-clause-further c = λ bytes.
    let o = c.in-FixedSpread.elements in let e : Element = o.elements.elem in let own : List ℕ = o.bytes.now in let n = c.args.count in
    let walk : List ℕ = o.elements.walk in let front : List ℕ = take n walk in let after = c.take-in-FixedSpread.new.self in let new : List ℕ = after.elements.walk in
    let counted : length (left_beside c.args.self.now c.args.block.now) ≡ length walk
    = ap (λ s. length (left_beside s c.args.block.now)) c.in-FixedSpread.is ∙ length-map walk (number_at e own) in
    let long : length front ≡ n = length-take-le n walk (omega (arith, c.requires.enough, counted)) in
    (λ i. map (number_at (c.take-in-FixedSpread.ensures.elem i) (c.take-in-FixedSpread.ensures.bytes i)) new)
    ∙ ap (map (number_at e own)) (sym (drop_at front new n long) ∙ ap (drop n) (sym c.take-in-FixedSpread.ensures.walk))
    ∙ sym (drop-map (number_at e own) n walk) ∙ ap (λ s. drop n (left_beside s bytes)) (sym c.in-FixedSpread.is)

pub returns-in-FixedSpread-clause-held : goal.returns-in-FixedSpread-clause-held
returns-in-FixedSpread-clause-held c = λ len held.
    let o = c.in-FixedSpread.elements in let e : Element = o.elements.elem in let own : List ℕ = o.bytes.now in let new : List ℕ = c.take-in-FixedSpread.new.self.elements.walk in
    let all : All (λ p. p + size_of e.kind ≤ length own) o.elements.walk = subst (λ s. HeldBeside s len) c.in-FixedSpread.is held in
    subst (λ (bs : List ℕ). All (λ p. p + size_of c.take-in-FixedSpread.new.self.elements.elem.kind ≤ length bs) new) (sym c.take-in-FixedSpread.ensures.bytes)
    (subst (λ (h : Element). All (λ p. p + size_of h.kind ≤ length own) new) (sym c.take-in-FixedSpread.ensures.elem)
    (behind_run (λ p. p + size_of e.kind ≤ length own) (take c.args.count o.elements.walk) new o.elements.walk c.take-in-FixedSpread.ensures.walk all))
