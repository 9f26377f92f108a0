use Rattle.std.proofs.Common.{◌≡◌, ◌∙◌, None, false, nat_eq, ap, sym, inr, arith}
use Rattle.std.proofs.lemmas.Bool.Decides.{nat_tests}
use Rattle.nd_heap.specs.Contents.{bytes_in}
use Rattle.nd_heap.specs.Values.{base_of}
use Rattle.nd_session.specs.Session.Now.{block_now}
use Rattle.nd_session.proofs.session.Reading.{base_lacks}
use Rattle.nd_session.proofs.session.change.following.note_written_base.Goals as goal

pub returns-then-branch-clause-here : goal.returns-then-branch-clause-here
returns-then-branch-clause-here c =
    let out : block_now c.args.blocks.now.entries (base_of c.args.base) ≡ None = base_lacks bytes_in c.args.base c.args.blocks.now.entries (sym c.contains_key.ensures ∙ c.if-contains_key.false) in
    let other : nat_eq c.args.base.label c.args.label ≡ false = grind (arith, nat_tests) in
    let away : nat_eq c.args.base.label c.args.beside ≡ false = grind (arith, nat_tests) in
    inr (out, other, away, c.in_ok-note_single.ensures.here c.if-branch.true)
