use Rattle.std.proofs.Common.{◌≡◌, ◌≤◌, length, sym, ap, arith}
use Rattle.std.proofs.lemmas.Bool.Decides.{nat_tests}
use Rattle.nd_heap.proofs.Entries.{all_more, all_of}
use Rattle.nd_heap.specs.Contents.{bytes_in}
use Rattle.nd_heap.specs.Loose.{session_in}
use Rattle.nd_heap.specs.Values.{base_of}
use Rattle.nd_model.specs.Cells.Session.{held_bytes}
use Rattle.nd_session.proofs.session.Putting.{KeepsLength, all_keep}
use Rattle.nd_session.proofs.session.change.patching.keep_lengths.Goals as goal

pub loop-i-preserved : goal.loop-i-preserved
loop-i-preserved c =
    let held = held_bytes (session_in c.args.heap.now) in
    let now : length c.shared_bytes-len.result.now ≡ length (bytes_in c.in-Some.block.now) = ap length c.shared_bytes-len.ensures in
    let le : length (held (base_of c.in-Some.base.now)) ≤ length (bytes_in c.in-Some.block.now) = grind (arith, nat_tests, now, c.gets_shorter.ensures, c.if-gets_shorter.false) in
    all_more (KeepsLength held) c.args.blocks.now.entries c.loop-i.i (c.in-Some.base.now, c.in-Some.block.now) (sym c.in-Some.ensures.entry) le c.loop-i.invariant

pub returns : goal.returns
returns c =
    let held = held_bytes (session_in c.args.heap.now) in
    λ _. all_keep held c.args.blocks.now.entries (all_of (KeepsLength held) c.args.blocks.now.entries c.loop-i.i (omega (arith, c.loop-i-test.false, c.len-i-end.ensures.len)) c.loop-i.invariant)
