use Rattle.std.proofs.Common.{◌≡◌, ◌+◌, ◌-◌, ◌<◌, length, slice_index, refl, sym, ap, inl, inr, ◌∙◌, arith}
use Rattle.std.proofs.lemmas.Bool.{false≢true}
use Rattle.nd_model.specs.Cells.Session.{is_in}
use Rattle.nd_marks.specs.Kept.{byte_of}
use Rattle.nd_marks.specs.Marks.{holds}
use Rattle.nd_marks.proofs.Walks.{enough_bytes, bytes_behind, among_here, among_rest, kept_is, found_is}
use Rattle.nd_marks.proofs.Windows.{behind_split, part_at, part_byte, part_len}
use Rattle.nd_marks.proofs.kept.KeptBytes.agrees_with.Goals as goal

pub split_at-requires : goal.split_at-requires
split_at-requires c = enough_bytes (byte_of c.args.self.now) c.loop-range.rest.now c.in-Some.range.from c.in-Some.range.width c.loop-range.walk c.next.new.self c.loop-range.invariant.bytes c.in-Some.ensures.split

pub returns-then-not-has_marked : goal.returns-then-not-has_marked
returns-then-not-has_marked c =
    let k = c.args.self.now in let f = byte_of k in let from = c.in-Some.range.from in let w = c.in-Some.range.width in let left = c.loop-range.walk in let new = c.next.new.self in
    let bs = c.loop-range.rest.now in let is = c.loop-range.invariant.bytes in let split = c.in-Some.ensures.split in
    let part = c.split_at.result.0.now in let front = c.split_at.ensures.front in
    let long = part_len f bs part from w left new is split front in (
      λ h. absurd (false≢true h),
      λ all. c.if-not-has_marked.ensures.1 (λ i lt held.
          let less : i < w = omega (arith, lt, long) in
          let among = c.loop-range.invariant.among (from + i) (among_here (from + i) from w left new split (omega arith) (omega arith)) in
          all (from + i) (f (from + i)) (kept_is k (from + i) among) held ∙ sym (part_at f bs part from w left new i is split front less)),
    )

pub loop-range-preserved : goal.loop-range-preserved
loop-range-preserved c =
    let k = c.args.self.now in let f = byte_of k in let from = c.in-Some.range.from in let w = c.in-Some.range.width in let left = c.loop-range.walk in let new = c.next.new.self in
    let bs = c.loop-range.rest.now in let is = c.loop-range.invariant.bytes in let split = c.in-Some.ensures.split in
    let part = c.split_at.result.0.now in let front = c.split_at.ensures.front in
    let long = part_len f bs part from w left new is split front in record {
      bytes = c.split_at.ensures.back ∙ bytes_behind f bs from w left new is split;
      among = λ p h. c.loop-range.invariant.among p (among_rest p from w left new split h);
      same = λ p in_all out held. elim (behind_split p from w left new split out) [
        | inl earlier ↦ c.loop-range.invariant.same p in_all earlier held
        | inr here ↦
            let back : p ≡ from + (p - from) = omega (arith, here.0) in
            let less : p - from < length part = omega (arith, here.0, here.1, long) in
            ap (slice_index c.args.block.now) back
            ∙ c.if-not-has_marked.ensures.0 refl (p - from) less (ap (holds c.args.marks.now) (sym back) ∙ held)
            ∙ part_byte f bs part from w left new p is split front here.0 here.1
      ];
    }

pub returns : goal.returns
returns c = (
  λ h p a kept held. let found = found_is c.args.self.now p a kept in c.loop-range.invariant.same p found.0 (ap (is_in p) c.in_default.ensures) held ∙ found.1,
  λ all. refl,
)
