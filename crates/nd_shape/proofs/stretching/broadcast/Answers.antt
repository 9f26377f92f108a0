use Rattle.std.proofs.Common.{◌≡◌, ◌<◌, ◌-◌, List, ℕ, true, false, length, reverse, sym, ap, ◌∙◌, arith}
use Rattle.std.specs.Prelude.{Some, option_map, if◌then◌else◌, nat_lt}
use Rattle.std.proofs.lemmas.List.{length-reverse}
use Rattle.nd_shape.specs.Stretches.{are_common, joined_shape, joined_length}
use Rattle.nd_shape.proofs.Stretches.{all_common, none_common, length-joined, joined_at, front_first, front_next, front_last}
use Rattle.nd_shape.proofs.stretching.broadcast.Goals as goal

pub returns-then-not-are_common : goal.returns-then-not-are_common
returns-then-not-are_common c =
    let none : are_common (reverse c.args.left.now) (reverse c.args.right.now) ≡ false = sym c.are_common.ensures ∙ c.if-not-are_common.true in
    sym (ap (option_map reverse) (none_common (reverse c.args.left.now) (reverse c.args.right.now) none))

long : (s t : List ℕ) (n : ℕ) → n ≡ (if nat_lt (length s) (length t) then length t else length s) → n ≡ length (joined_shape (reverse s) (reverse t))
long s t n e =
    e ∙ (λ i. if nat_lt (sym (length-reverse s) i) (sym (length-reverse t) i) then sym (length-reverse t) i else sym (length-reverse s) i)
    ∙ sym (length-joined (reverse s) (reverse t))

pub loop-at-init : goal.loop-at-init
loop-at-init c =
    let whole = joined_shape (reverse c.args.left.now) (reverse c.args.right.now) in
    let e = long c.args.left.now c.args.right.now c.most_axes-at.result c.most_axes-at.ensures.value in
    record { within = omega (arith, e); shape = front_first whole c.new-shape.result.items c.most_axes-at.result e c.new-shape.ensures.items }

pub loop-at-preserved : goal.loop-at-preserved
loop-at-preserved c =
    let s = reverse c.args.left.now in
    let t = reverse c.args.right.now in
    let at = c.loop-at.at in
    let some : 0 < at = omega arith in
    let within : at - 1 < length (joined_shape s t) = omega (arith, some, c.loop-at.invariant.within) in
    let value = c.joined_length.ensures ∙ (λ i. joined_length (c.length_from_last.ensures i) (c.length_from_last-in-loop-at.ensures i)) ∙ sym (joined_at s t (at - 1) within) in
    record {
      within = omega (arith, within);
      shape = front_next (joined_shape s t) c.loop-at.shape.items c.push.new.self.items at _ some c.loop-at.invariant.within value c.in_ok-push.ensures.ok c.loop-at.invariant.shape;
    }

pub returns : goal.returns
returns c =
    let s = reverse c.args.left.now in
    let t = reverse c.args.right.now in
    let all : are_common s t ≡ true = sym c.are_common.ensures ∙ c.if-not-are_common.false in
    let none : c.loop-at.at ≡ 0 = omega arith in
    let same = front_last (joined_shape s t) c.loop-at.shape.items c.loop-at.at none c.loop-at.invariant.shape in
    rw (all_common s t all) (λ i. Some (same i))
