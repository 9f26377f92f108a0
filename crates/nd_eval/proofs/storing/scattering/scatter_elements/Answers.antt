use Rattle.std.proofs.Common.{◌≡◌, ◌∙◌, List, ℕ, ap, subst}
use Rattle.std.specs.Prelude.{OnOk}
use Rattle.nd_model.specs.Cells.Running.{Running}
use Rattle.nd_assign.specs.Assigned.{with_elements}
use Rattle.nd_scatter.specs.Scattered.{written_by}
use Rattle.nd_heap.specs.Values.{base_of, geo_of}
use Rattle.nd_session.specs.Session.Live.{live}
use Rattle.nd_eval.specs.Choosing.Selections.{selected}
use Rattle.nd_eval.proofs.storing.Stored.{lent_contents, stored_elements}
use Rattle.nd_eval.proofs.storing.scattering.scatter_elements.Goals as goal

pub returns : goal.returns
returns c =
    let r = live c.args.session.now in
    let b = base_of c.args.base in
    let g = selected c.args.selection.now in
    let s = geo_of c.args.source.now in
    let bytes = r.bytes (base_of c.args.source.now.base) in
    let a = c.in_ok-scatter.scatter in
    let lent : List ℕ = c.bytes.result.now in
    let written : written_by a (r.bytes b) ≡ with_elements g s bytes (r.bytes b) =
    subst (λ (block : List ℕ). written_by a block ≡ with_elements g s lent block) c.bytes-block.ensures c.in_ok-scatter.ensures.written
    ∙ ap (λ bytes. with_elements g s bytes (r.bytes b)) c.bytes.ensures in
    subst (λ (t : Running). OnOk c.write_scattered.result (live c.write_scattered.new.session ≡ t))
    (stored_elements r b g (written_by a (r.bytes b)) c.requires.target s bytes c.requires.source (lent_contents s lent bytes c.bytes.ensures c.soundness.ensures) written) c.write_scattered.ensures
