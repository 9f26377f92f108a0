use Rattle.std.proofs.Common.{◌+◌, ◌<◌, length, refl, sym, ap, inl, inr, ◌∙◌, arith}
use Rattle.std.proofs.lemmas.Bool.{false≢true}
use Rattle.nd_model.specs.Cells.Session.{is_in}
use Rattle.nd_marks.specs.Kept.{byte_of}
use Rattle.nd_marks.proofs.Walks.{enough_bytes, bytes_behind, among_here, among_rest, kept_is, found_is}
use Rattle.nd_marks.proofs.Windows.{behind_split, part_byte, part_len}
use Rattle.nd_marks.proofs.kept.KeptBytes.agrees_at.Goals as goal

pub split_at-requires : goal.split_at-requires
split_at-requires c = enough_bytes (byte_of c.args.self.now) c.loop-range.rest.now c.in-Some.range.from c.in-Some.range.width c.loop-range.walk c.next.new.self c.loop-range.invariant.bytes c.in-Some.ensures.split

pub returns-then-not-is_same_overlap : goal.returns-then-not-is_same_overlap
returns-then-not-is_same_overlap c =
    let k = c.args.self.now in let f = byte_of k in let from = c.in-Some.range.from in let w = c.in-Some.range.width in let left = c.loop-range.walk in let new = c.next.new.self in
    let bs = c.loop-range.rest.now in let is = c.loop-range.invariant.bytes in let split = c.in-Some.ensures.split in
    let part = c.split_at.result.0.now in let front = c.split_at.ensures.front in
    let base = c.args.base in let long = part_len f bs part from w left new is split front in (
      λ h. absurd (false≢true h),
      λ all. c.if-not-is_same_overlap.ensures.1 (λ i lt lo hi.
          let less : base + i < from + w = omega (arith, hi, long) in
          let among = c.loop-range.invariant.among (base + i) (among_here (base + i) from w left new split lo less) in
          all i (f (base + i)) lt (kept_is k (base + i) among) ∙ sym (part_byte f bs part from w left new (base + i) is split front lo less)),
    )

pub loop-range-preserved : goal.loop-range-preserved
loop-range-preserved c =
    let k = c.args.self.now in let f = byte_of k in let from = c.in-Some.range.from in let w = c.in-Some.range.width in let left = c.loop-range.walk in let new = c.next.new.self in
    let bs = c.loop-range.rest.now in let is = c.loop-range.invariant.bytes in let split = c.in-Some.ensures.split in
    let part = c.split_at.result.0.now in let front = c.split_at.ensures.front in
    let base = c.args.base in let long = part_len f bs part from w left new is split front in record {
      bytes = c.split_at.ensures.back ∙ bytes_behind f bs from w left new is split;
      among = λ p h. c.loop-range.invariant.among p (among_rest p from w left new split h);
      same = λ i lt in_all out. elim (behind_split (base + i) from w left new split out) [
        | inl earlier ↦ c.loop-range.invariant.same i lt in_all earlier
        | inr here ↦ let less : base + i < from + length part = omega (arith, here.1, long) in
            c.if-not-is_same_overlap.ensures.0 refl i lt here.0 less ∙ part_byte f bs part from w left new (base + i) is split front here.0 here.1
      ];
    }

pub returns : goal.returns
returns c = let k = c.args.self.now in let base = c.args.base in (
  λ h i b lt kept. let found = found_is k (base + i) b kept in c.loop-range.invariant.same i lt found.0 (ap (is_in (base + i)) c.in_default.ensures) ∙ found.1,
  λ all. refl,
)
