use Rattle.std.proofs.Common.{◌∙◌, ap, cond, length, slice_index, Some, None}
use Rattle.nd_model.specs.Cells.Session as model
use Rattle.nd_session.specs.Session.Kept.{version_of}
use Rattle.nd_heap.specs.Live.{is_base_among}
use Rattle.nd_trace.specs.Marked.{is_among, is_marked}
use Rattle.nd_session.specs.Session.Reading.{reads_of}
use Rattle.nd_session.specs.Inputs.Values.{inputs_of, world_of}
use Rattle.nd_session.proofs.session.Keeping.{kept_keys, kept_found}
use Rattle.nd_session.proofs.session.reads.Reads.new.Goals as goal

pub returns-in-Ok-find_names-clause-keys : goal.returns-in-Ok-find_names-clause-keys
returns-in-Ok-find_names-clause-keys c =
    let s = version_of c.args.before.now in
    let i = inputs_of c.args.inputs.now.entries in
    let w = world_of i c.args.rule in
    kept_keys (reads_of (record { names = c.in-Ok-find_names.names; inputs = c.in-Ok-find_inputs.inputs; lengths = c.in_ok-lengths.lengths; bytes = c.in-Ok.bytes; rule = c.read_rule.result })) c.args.trace.now s w c.args.is_refused
    (λ n. c.in-Ok-find_names.ensures n ∙ ap (λ ns. cond (is_among ns n) (Some (model.lookup n s.names)) None) c.names.ensures)
    (λ n. c.in-Ok-find_inputs.ensures n ∙ ap (λ ns. cond (is_among ns n) (Some (i n)) None) c.inputs.ensures)
    (λ b. c.in_ok-lengths.ensures b ∙ ap (λ bs. cond (is_base_among bs b) (Some (length (s.bytes b))) None) c.bases.ensures)
    (λ b p. c.in-Ok.ensures b p ∙ ap (λ ms. cond (is_marked ms b p) (Some (slice_index (s.bytes b) p)) None) c.used_bytes.ensures)
    c.read_rule.ensures

pub returns-in-Ok-find_names-clause-found : goal.returns-in-Ok-find_names-clause-found
returns-in-Ok-find_names-clause-found c =
    let s = version_of c.args.before.now in
    let i = inputs_of c.args.inputs.now.entries in
    let w = world_of i c.args.rule in
    kept_found (reads_of (record { names = c.in-Ok-find_names.names; inputs = c.in-Ok-find_inputs.inputs; lengths = c.in_ok-lengths.lengths; bytes = c.in-Ok.bytes; rule = c.read_rule.result })) c.args.trace.now s w c.args.is_refused
    (λ n. c.in-Ok-find_names.ensures n ∙ ap (λ ns. cond (is_among ns n) (Some (model.lookup n s.names)) None) c.names.ensures)
    (λ n. c.in-Ok-find_inputs.ensures n ∙ ap (λ ns. cond (is_among ns n) (Some (i n)) None) c.inputs.ensures)
    (λ b. c.in_ok-lengths.ensures b ∙ ap (λ bs. cond (is_base_among bs b) (Some (length (s.bytes b))) None) c.bases.ensures)
    (λ b p. c.in-Ok.ensures b p ∙ ap (λ ms. cond (is_marked ms b p) (Some (slice_index (s.bytes b) p)) None) c.used_bytes.ensures)
    c.read_rule.ensures
