use Rattle.std.proofs.Common.{sym, inr, refl, slice_index, arith}
use Rattle.std.proofs.lemmas.List.Elements.{All-from_recursion}
use Rattle.nd_heap.proofs.Entries.{all_more, all_of}
use Rattle.nd_model.specs.Arrays.Value as values
use Rattle.nd_session.specs.Session.Found.{byte_found}
use Rattle.nd_session.specs.Session.Live.{live}
use Rattle.nd_session.specs.Session.Now.{block_now, part_now}
use Rattle.nd_session.proofs.session.Gathering.{before_weaker}
use Rattle.nd_session.proofs.session.Matching.{IsEntryUnlike, more_unlike, still_unlike}
use Rattle.nd_session.proofs.session.Standing.{noted_on, noted_same}
use Rattle.nd_session.proofs.session.change.matching.note_unlike.Goals as goal

pub loop-i-init : goal.loop-i-init
loop-i-init c = (noted_same (live c.args.session.now).bytes (block_now c.args.blocks.now.entries), λ b p. inr refl, tt)

pub loop-i-preserved : goal.loop-i-preserved
loop-i-preserved c =
    let now = (live c.args.session.now).bytes in
    let label = c.args.label in
    let others = byte_found c.args.others.now.entries in
    let first = block_now c.args.blocks.now.entries in
    let mid = block_now c.loop-i.blocks.entries in
    let new = block_now c.note_entry.new.blocks.entries in
    let was = part_now c.args.parts.now.entries in
    let there = part_now c.loop-i.parts.entries in
    let is = part_now c.note_entry.new.parts.entries in
    let es = c.args.written.now.entries in
    let noted = c.in_ok-note_entry.ensures.noted in
    let bytes = c.in_ok-note_entry.ensures.bytes in (
      noted_on now first mid new c.loop-i.invariant.0 noted,
      λ b. noted_on (λ p. slice_index (now b) p) (was b) (there b) (is b) (c.loop-i.invariant.1 b) (bytes b),
      all_more (IsEntryUnlike now label others first new was is) es c.loop-i.i (c.in-Some.base.now, c.in-Some.found.now) (sym c.in-Some.ensures.entry)
          (more_unlike now label others first mid new was there is c.loop-i.invariant.0 c.loop-i.invariant.1 (c.in-Some.base.now, c.in-Some.found.now) c.in_ok-note_entry.ensures.here)
          (before_weaker (IsEntryUnlike now label others first mid was there) (IsEntryUnlike now label others first new was is)
          (still_unlike now label others first mid new was there is noted bytes) es c.loop-i.i c.loop-i.invariant.2),
    )

pub returns-clause-all : goal.returns-clause-all
returns-clause-all c =
    let all = IsEntryUnlike (live c.args.session.now).bytes c.args.label (byte_found c.args.others.now.entries) (block_now c.args.blocks.now.entries) (block_now c.loop-i.blocks.entries)
    (part_now c.args.parts.now.entries) (part_now c.loop-i.parts.entries) in
    let es = c.args.written.now.entries in
    All-from_recursion all es (all_of all es c.loop-i.i (omega (arith, c.loop-i-test.false, c.len-i-end.ensures.len)) c.loop-i.invariant.2)
