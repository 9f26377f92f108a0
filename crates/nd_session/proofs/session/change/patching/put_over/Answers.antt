use Rattle.std.proofs.Common.{◌≡◌, ◌∙◌, ℕ, List, unwrap_or, sym, ap, subst}
use Rattle.nd_change.specs.Whole.{IsPut}
use Rattle.nd_heap.specs.Live.{bytes_at}
use Rattle.nd_heap.specs.Loose.{session_in}
use Rattle.nd_model.specs.Arrays.Value as values
use Rattle.nd_model.specs.Cells.Footprint.{patched}
use Rattle.nd_model.specs.Cells.Session.{Session, collected, held_bytes, lookup}
use Rattle.nd_session.specs.Session.Change.{ChangeData, whole_in}
use Rattle.nd_session.specs.Session.Now.{block_now, data_in, part_now, value_now}
use Rattle.nd_session.specs.Session.Patch.{KeepLengths}
use Rattle.nd_session.proofs.session.Putting.{is_put, still_lie}
use Rattle.nd_session.proofs.session.change.patching.put_over.Goals as goal

pub returns-then-kept-clause-put : goal.returns-then-kept-clause-put
returns-then-kept-clause-put c = λ _.
    let olds = c.args.heap.now.names in
    let news = c.put_blocks.new.heap.names in
    let old = bytes_at c.args.heap.now.blocks in
    let new = bytes_at c.put_blocks.new.heap.blocks in
    let i = c.change.inside in
    let named : (n : List ℕ) → lookup n news ≡ unwrap_or (value_now i.names.entries n) (lookup n olds) = λ n. ap (lookup n) (c.put_blocks.ensures.names ∙ c.put_parts.ensures.names) ∙ c.in_ok-put_names.ensures.names n in
    let filled : (b : values.Base) → new b ≡ unwrap_or (block_now i.blocks.entries b) (patched (part_now i.parts.entries b) (old b))
    = λ b. c.in_ok-put_blocks.ensures.blocks b ∙ ap (unwrap_or (block_now i.blocks.entries b)) (c.in_ok-put_parts.ensures.blocks b ∙ ap (λ bs. patched (part_now i.parts.entries b) (bytes_at bs b)) c.put_names.ensures.blocks) in
    subst (λ (d : ChangeData). IsPut (whole_in d) (collected (session_in c.args.heap.now)) (collected (session_in c.put_blocks.new.heap))) c.change.view_is
    (is_put (whole_in (data_in i)) olds news old new c.distinctness.ensures named filled (c.are_known.ensures c.if-not-are_known.false))

pub returns-else-kept-clause-put : goal.returns-else-kept-clause-put
returns-else-kept-clause-put c = λ _.
    let olds = c.args.heap.now.names in
    let news = c.put_blocks.new.heap.names in
    let old = bytes_at c.args.heap.now.blocks in
    let new = bytes_at c.put_blocks.new.heap.blocks in
    let i = c.change.inside in
    let named : (n : List ℕ) → lookup n news ≡ unwrap_or (value_now i.names.entries n) (lookup n olds) = λ n. ap (lookup n) (c.put_blocks.ensures.names ∙ c.put_parts.ensures.names) ∙ c.in_ok-put_names.ensures.names n in
    let filled : (b : values.Base) → new b ≡ unwrap_or (block_now i.blocks.entries b) (patched (part_now i.parts.entries b) (old b))
    = λ b. c.in_ok-put_blocks.ensures.blocks b ∙ ap (unwrap_or (block_now i.blocks.entries b)) (c.in_ok-put_parts.ensures.blocks b ∙ ap (λ bs. patched (part_now i.parts.entries b) (bytes_at bs b)) c.put_names.ensures.blocks) in
    subst (λ (d : ChangeData). IsPut (whole_in d) (collected (session_in c.args.heap.now)) (collected (session_in c.put_blocks.new.heap))) c.change.view_is
    (is_put (whole_in (data_in i)) olds news old new c.distinctness.ensures named filled (c.are_known.ensures c.if-not-are_known.false))

pub returns-then-kept-clause-lie : goal.returns-then-kept-clause-lie
returns-then-kept-clause-lie c = λ yes.
    let olds = c.args.heap.now.names in
    let news = c.put_blocks.new.heap.names in
    let old = bytes_at c.args.heap.now.blocks in
    let new = bytes_at c.put_blocks.new.heap.blocks in
    let i = c.change.inside in
    let named : (n : List ℕ) → lookup n news ≡ unwrap_or (value_now i.names.entries n) (lookup n olds) = λ n. ap (lookup n) (c.put_blocks.ensures.names ∙ c.put_parts.ensures.names) ∙ c.in_ok-put_names.ensures.names n in
    let filled : (b : values.Base) → new b ≡ unwrap_or (block_now i.blocks.entries b) (patched (part_now i.parts.entries b) (old b))
    = λ b. c.in_ok-put_blocks.ensures.blocks b ∙ ap (unwrap_or (block_now i.blocks.entries b)) (c.in_ok-put_parts.ensures.blocks b ∙ ap (λ bs. patched (part_now i.parts.entries b) (bytes_at bs b)) c.put_names.ensures.blocks) in
    let same : session_in c.put_names.new.heap ≡ record { names = news; bytes = old } = λ k. record { names = sym (c.put_blocks.ensures.names ∙ c.put_parts.ensures.names) k; bytes = bytes_at (c.put_names.ensures.blocks k) } in
    let kept : KeepLengths (held_bytes (record { names = news; bytes = old })) (block_now i.blocks.entries)
    = subst (λ (s : Session). KeepLengths (held_bytes s) (block_now i.blocks.entries)) same (c.keep_lengths-kept.ensures c.if-kept.true) in
    still_lie (whole_in (data_in i)) olds news old new c.distinctness.ensures named filled c.args.label c.args.next c.args.later c.requires.later c.requires.lie kept (c.changed_lie.ensures yes)
