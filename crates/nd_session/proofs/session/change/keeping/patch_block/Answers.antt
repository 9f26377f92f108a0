use Rattle.std.proofs.Common.{◌≡◌, ◌∙◌, None, Some, ap, refl, rules, sym}
use Rattle.nd_model.specs.Cells.Footprint.{patched}
use Rattle.nd_session.specs.Session.Found.{bytes_of, found_at}
use Rattle.nd_session.proofs.session.Dropping.{block_absent, block_empty, block_put, nothing_found}
use Rattle.nd_session.proofs.session.change.keeping.patch_block.Goals as goal

pub returns-then-not-contains_key : goal.returns-then-not-contains_key
returns-then-not-contains_key c = block_absent (patched (found_at (bytes_of c.args.found.now))) c.args.base c.args.blocks.now.entries
    (nothing_found _ (sym c.contains_key.ensures ∙ c.if-not-contains_key.true))

pub returns-in_default-taken : goal.returns-in_default-taken
returns-in_default-taken c =
    let none : c.in-Some.taken ≡ None = first_of (assumption (c.in_default-taken), search rules) in
    block_empty (patched (found_at (bytes_of c.args.found.now))) c.args.base c.args.blocks.now.entries c.insert.new.self.entries c.in_ok-taken.ensures.entries
    (ap Some (sym none) ∙ sym c.in-Some.is ∙ c.in_ok-taken.ensures.old) refl

pub returns : goal.returns
returns c = block_put (patched (found_at (bytes_of c.args.found.now))) c.args.base c.args.blocks.now.entries c.insert.new.self.entries c.in_ok-taken.ensures.entries
    c.insert-2.new.self.entries c.in-Some-taken.block c.patch_shared.new.block
    (ap Some (sym c.in-Some-taken.is) ∙ sym c.in-Some.is ∙ c.in_ok-taken.ensures.old) c.in_ok-insert.ensures.entries c.in_ok-patch_shared.ensures
