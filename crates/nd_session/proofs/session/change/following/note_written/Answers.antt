use Rattle.std.proofs.Common.{sym, inr, refl, slice_index, arith}
use Rattle.std.proofs.lemmas.List.Elements.{All-from_recursion}
use Rattle.nd_heap.proofs.Entries.{all_more, all_of}
use Rattle.nd_session.specs.Session.Live.{live}
use Rattle.nd_session.specs.Session.Now.{block_now, part_now}
use Rattle.nd_session.proofs.session.Carrying.{IsEntryNow, entry_stays}
use Rattle.nd_session.proofs.session.Gathering.{before_weaker}
use Rattle.nd_session.proofs.session.Standing.{noted_on, noted_same}
use Rattle.nd_session.proofs.session.change.following.note_written.Goals as goal

pub loop-i-init : goal.loop-i-init
loop-i-init c = (noted_same (live c.args.session.now).bytes (block_now c.args.blocks.now.entries), λ b p. inr refl, tt)

pub loop-i-preserved : goal.loop-i-preserved
loop-i-preserved c =
    let now = (live c.args.session.now).bytes in
    let label = c.args.label in
    let beside = c.args.beside in
    let mid = block_now c.loop-i.blocks.entries in
    let new = block_now c.note_written_base.new.blocks.entries in
    let was = part_now c.args.parts.now.entries in
    let there = part_now c.loop-i.parts.entries in
    let is = part_now c.note_written_base.new.parts.entries in
    let es = c.args.written.now.entries in
    let noted = c.in_ok-note_written_base.ensures.noted in
    let bytes = c.in_ok-note_written_base.ensures.bytes in (
      noted_on now (block_now c.args.blocks.now.entries) mid new c.loop-i.invariant.0 noted,
      λ b. noted_on (λ p. slice_index (now b) p) (was b) (there b) (is b) (c.loop-i.invariant.1 b) (bytes b),
      all_more (IsEntryNow now label beside new is) es c.loop-i.i (c.in-Some.base.now, c.in-Some.found.now) (sym c.in-Some.ensures.entry)
          c.in_ok-note_written_base.ensures.here
          (before_weaker (IsEntryNow now label beside mid there) (IsEntryNow now label beside new is)
          (entry_stays now label beside mid new there is noted bytes) es c.loop-i.i c.loop-i.invariant.2),
    )

pub returns-clause-all : goal.returns-clause-all
returns-clause-all c =
    let all = IsEntryNow (live c.args.session.now).bytes c.args.label c.args.beside (block_now c.loop-i.blocks.entries) (part_now c.loop-i.parts.entries) in
    let es = c.args.written.now.entries in
    All-from_recursion all es (all_of all es c.loop-i.i (omega (arith, c.loop-i-test.false, c.len-i-end.ensures.len)) c.loop-i.invariant.2)
