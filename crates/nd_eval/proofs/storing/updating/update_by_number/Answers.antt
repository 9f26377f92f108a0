use Rattle.std.proofs.Common.{◌≡◌, List, ℕ, subst}
use Rattle.std.specs.Prelude.{OnOk}
use Rattle.nd_model.specs.Making.Augmenting.{results_in_place}
use Rattle.nd_model.specs.Making.Operand.{Plain}
use Rattle.nd_model.specs.Cells.Running.{Running}
use Rattle.nd_model.specs.Cells.Session.{put}
use Rattle.nd_ufunc.specs.Elementwise.Prepared.{written_in_place}
use Rattle.nd_heap.specs.Values.{base_of, geo_of}
use Rattle.nd_session.specs.Session.Live.{live}
use Rattle.nd_syntax.specs.Trees.Syntax.{binary_op}
use Rattle.nd_types.specs.Kinds.{kind_of}
use Rattle.nd_operation.specs.Operators.Contents.{contents_over, num_of}
use Rattle.nd_eval.proofs.storing.Updated.{updated_in_parts}
use Rattle.nd_eval.proofs.storing.updating.update_by_number.Goals as goal

pub returns : goal.returns
returns c =
    let r = live c.args.session.now in
    let b = base_of c.args.target.now.base in
    let g = geo_of c.args.target.now in
    let k = kind_of c.args.kind in
    let op = binary_op c.args.op in
    let y = Plain (num_of c.args.number) in
    let p = c.in_ok-results.results in
    let written : written_in_place p (r.bytes b) ≡ put (results_in_place k op g (contents_over g (r.bytes b)) y) (r.bytes b) =
    subst (λ (block : List ℕ). written_in_place p block ≡ put (results_in_place k op g (contents_over g block) y) block) c.bytes-block.ensures c.in_ok-results.ensures.results in
    subst (λ (s : Running). OnOk c.write_results.result (live c.write_results.new.session ≡ s))
    (updated_in_parts r b g (written_in_place p (r.bytes b)) k op y c.requires.target.count c.requires.kind written) c.write_results.ensures
