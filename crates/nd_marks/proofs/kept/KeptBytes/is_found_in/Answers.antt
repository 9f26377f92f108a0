use Rattle.std.proofs.Common.{◌+◌, ◌<◌, length, slice_index, refl, sym, ap, ◌∙◌, arith}
use Rattle.std.proofs.lemmas.Bool.{false≢true}
use Rattle.nd_model.specs.Cells.Session.{is_in}
use Rattle.nd_marks.specs.Kept.{byte_of}
use Rattle.nd_marks.proofs.Walks.{enough_bytes, bytes_behind, byte_here, length_here, among_here, among_rest, kept_is, found_is, same_rest}
use Rattle.nd_marks.proofs.kept.KeptBytes.is_found_in.Goals as goal

pub split_at-requires : goal.split_at-requires
split_at-requires c = enough_bytes (byte_of c.args.self.now) c.loop-range.rest.now c.in-Some.range.from c.in-Some.range.width c.loop-range.walk c.next.new.self c.loop-range.invariant.bytes c.in-Some.ensures.split

pub returns-then-not-has_range : goal.returns-then-not-has_range
returns-then-not-has_range c =
    let k = c.args.self.now in let f = byte_of k in let from = c.in-Some.range.from in let w = c.in-Some.range.width in let new = c.next.new.self in
    let is = c.loop-range.invariant.bytes in let split = c.in-Some.ensures.split in
    let front = c.split_at.ensures.front in (
      λ h. absurd (false≢true h),
      λ all. c.if-not-has_range.ensures.1 (λ i lt.
          let less : i < w = (let e = ap length front ∙ length_here f c.loop-range.rest.now from w c.loop-range.walk new is split in omega arith) in
          let among = c.loop-range.invariant.among (from + i) (among_here (from + i) from w c.loop-range.walk new split (omega arith) (omega arith)) in
          all (from + i) (f (from + i)) (kept_is k (from + i) among)
          ∙ sym (ap (λ xs. slice_index xs i) front ∙ byte_here f c.loop-range.rest.now from w c.loop-range.walk new i is split less)),
    )

pub loop-range-preserved : goal.loop-range-preserved
loop-range-preserved c =
    let k = c.args.self.now in let f = byte_of k in let from = c.in-Some.range.from in let w = c.in-Some.range.width in let new = c.next.new.self in
    let is = c.loop-range.invariant.bytes in let split = c.in-Some.ensures.split in
    let front = c.split_at.ensures.front in record {
      bytes = c.split_at.ensures.back ∙ bytes_behind f c.loop-range.rest.now from w c.loop-range.walk new is split;
      among = λ p h. c.loop-range.invariant.among p (among_rest p from w c.loop-range.walk new split h);
      same = λ p in_all out. same_rest f (slice_index c.args.block.now) from w c.loop-range.walk new split p out
          (c.loop-range.invariant.same p in_all)
          (λ i less. let e = ap length front ∙ length_here f c.loop-range.rest.now from w c.loop-range.walk new is split in
          c.if-not-has_range.ensures.0 refl i (omega arith) ∙ ap (λ xs. slice_index xs i) front ∙ byte_here f c.loop-range.rest.now from w c.loop-range.walk new i is split less);
    }

pub returns : goal.returns
returns c =
    let k = c.args.self.now in (
      λ h p b kept. let found = found_is k p b kept in c.loop-range.invariant.same p found.0 (ap (is_in p) c.in_default.ensures) ∙ found.1,
      λ all. refl,
    )
