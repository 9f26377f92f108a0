use Rattle.std.proofs.Common.{◌≡◌, ◌∙◌, None, false, nat_eq, ap, sym, inr, arith}
use Rattle.std.proofs.lemmas.Bool.Decides.{nat_tests}
use Rattle.nd_heap.specs.Contents.{bytes_in}
use Rattle.nd_heap.specs.Values.{base_of}
use Rattle.nd_session.specs.Session.Change.{part_at}
use Rattle.nd_session.specs.Session.Now.{block_now, kept_in}
use Rattle.nd_session.proofs.session.Reading.{base_lacks}
use Rattle.nd_session.proofs.session.change.matching.note_entry.Goals as goal

pub returns-then-is_found_among-clause-here : goal.returns-then-is_found_among-clause-here
returns-then-is_found_among-clause-here c =
    let out : block_now c.args.blocks.now.entries (base_of c.args.base) ≡ None = base_lacks bytes_in c.args.base c.args.blocks.now.entries (sym c.contains_key.ensures ∙ c.if-contains_key.false) in
    let other : nat_eq c.args.base.label c.args.label ≡ false = grind (arith, nat_tests) in
    let none = base_lacks kept_in c.args.base c.args.parts.now.entries (sym c.contains_key-2.ensures ∙ c.if-not-contains_key.true) in
    inr (out, other, λ p. inr (ap (λ o. part_at o p) none, ap (λ o. part_at o p) none, c.is_found_among.ensures c.if-is_found_among.true p))

pub returns-then-branch-clause-here : goal.returns-then-branch-clause-here
returns-then-branch-clause-here c =
    let out : block_now c.args.blocks.now.entries (base_of c.args.base) ≡ None = base_lacks bytes_in c.args.base c.args.blocks.now.entries (sym c.contains_key.ensures ∙ c.if-contains_key.false) in
    let other : nat_eq c.args.base.label c.args.label ≡ false = grind (arith, nat_tests) in
    inr (out, other, c.in_ok-note_few.ensures.here c.if-branch.true)
