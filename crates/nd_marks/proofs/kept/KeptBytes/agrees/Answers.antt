use Rattle.std.proofs.Common.{◌≡◌, ℕ, ◌+◌, ◌-◌, ◌<◌, Some, length, refl, sym, ap, subst, inl, inr, ◌∙◌, arith}
use Rattle.std.proofs.lemmas.Bool.{false≢true}
use Rattle.nd_model.specs.Cells.Session.{is_in}
use Rattle.nd_marks.specs.Kept.{byte_of, kept_at}
use Rattle.nd_marks.proofs.Walks.{enough_bytes, bytes_behind, among_here, among_rest, fewer_left, kept_is, found_is}
use Rattle.nd_marks.proofs.Windows.{behind_split, part_at, part_byte, part_len}
use Rattle.nd_marks.proofs.kept.KeptBytes.agrees.Goals as goal

pub split_at-requires : goal.split_at-requires
split_at-requires c = enough_bytes (byte_of c.args.self.now) c.loop-range.rest.now c.in-Some.range.from c.in-Some.range.width c.loop-range.walk c.next.new.self c.loop-range.invariant.bytes c.in-Some.ensures.split

pub loop-range-smaller : goal.loop-range-smaller
loop-range-smaller c = fewer_left c.in-Some.range.from c.in-Some.range.width c.loop-range.walk c.next.new.self c.in-Some.ensures.split c.in-Some.ensures.some

pub returns-then-not-agrees_at : goal.returns-then-not-agrees_at
returns-then-not-agrees_at c =
    let k = c.args.self.now in let f = byte_of k in let from = c.in-Some.range.from in let w = c.in-Some.range.width in let left = c.loop-range.walk in let new = c.next.new.self in
    let bs = c.loop-range.rest.now in let is = c.loop-range.invariant.bytes in let split = c.in-Some.ensures.split in
    let part = c.split_at.result.0.now in let front = c.split_at.ensures.front in
    let long = part_len f bs part from w left new is split front in (
      λ h. absurd (false≢true h),
      λ all. c.if-not-agrees_at.ensures.1 (λ i b lt kept.
          let less : i < w = omega (arith, lt, long) in
          let among = c.loop-range.invariant.among (from + i) (among_here (from + i) from w left new split (omega arith) (omega arith)) in
          part_at f bs part from w left new i is split front less ∙ all (from + i) (f (from + i)) b (kept_is k (from + i) among) kept),
    )

pub loop-range-preserved : goal.loop-range-preserved
loop-range-preserved c =
    let k = c.args.self.now in let f = byte_of k in let from = c.in-Some.range.from in let w = c.in-Some.range.width in let left = c.loop-range.walk in let new = c.next.new.self in
    let bs = c.loop-range.rest.now in let is = c.loop-range.invariant.bytes in let split = c.in-Some.ensures.split in
    let part = c.split_at.result.0.now in let front = c.split_at.ensures.front in
    let long = part_len f bs part from w left new is split front in record {
      bytes = c.split_at.ensures.back ∙ bytes_behind f bs from w left new is split;
      among = λ p h. c.loop-range.invariant.among p (among_rest p from w left new split h);
      same = λ p in_all out b kept. elim (behind_split p from w left new split out) [
        | inl earlier ↦ c.loop-range.invariant.same p in_all earlier b kept
        | inr here ↦
            let back : p ≡ from + (p - from) = omega (arith, here.0) in
            let less : p - from < length part = omega (arith, here.0, here.1, long) in
            sym (part_byte f bs part from w left new p is split front here.0 here.1)
            ∙ c.if-not-agrees_at.ensures.0 refl (p - from) b less (subst (λ (q : ℕ). kept_at c.args.other.now q ≡ Some b) back kept)
      ];
    }

pub returns : goal.returns
returns c = (
  λ h p a b one two. let found = found_is c.args.self.now p a one in sym found.1 ∙ c.loop-range.invariant.same p found.0 (ap (is_in p) c.in_default.ensures) b two,
  λ all. refl,
)
