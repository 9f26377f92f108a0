use Rattle.std.proofs.Common.{◌≡◌, ◌∙◌, List, ℕ, Bor, ap, sym, subst}
use Rattle.std.specs.Prelude.{OnOk, false}
use Rattle.nd_model.specs.Making.Augmenting.{in_place_kind, results_in_place}
use Rattle.nd_model.specs.Cells.Running.{Running}
use Rattle.nd_model.specs.Cells.Session.{put}
use Rattle.nd_model.proofs.Storing.{equal_bases}
use Rattle.nd_ufunc.specs.Elementwise.Prepared.{written_in_place}
use Rattle.nd_heap.specs.Contents.{bytes_in}
use Rattle.nd_heap.specs.Values.{base_of, geo_of}
use Rattle.nd_session.specs.Session.Live.{live}
use Rattle.nd_syntax.specs.Trees.Syntax.{binary_op}
use Rattle.nd_types.specs.Kinds.{kind_of}
use Rattle.nd_operation.specs.Operators.Contents.{contents_over, elements_over}
use Rattle.nd_eval.proofs.storing.Updated.{updated_in_parts}
use Rattle.nd_eval.proofs.storing.updating.update_by_elements.Goals as goal
use Rattle.nd_eval.proofs.storing.updating.update_by_elements.Goals.{in-Some, in-None}

pub prepare_in_place-requires-clause-kind : goal.prepare_in_place-requires-clause-kind
prepare_in_place-requires-clause-kind c =
    let r = live c.args.session.now in
    let b = base_of c.args.target.now.base in
    let own = ap r.bytes (sym (equal_bases (base_of c.args.source.now.base) b (sym c.eq.ensures ∙ c.if-eq.true))) in
    ap (λ (bytes : List ℕ). in_place_kind (binary_op c.args.op) (geo_of c.args.target.now) (elements_over false (geo_of c.args.source.now) bytes)) (c.bytes-block.ensures ∙ own) ∙ c.requires.kind

pub prepare_in_place-requires-2-clause-kind : goal.prepare_in_place-requires-2-clause-kind
prepare_in_place-requires-2-clause-kind c =
    let r = live c.args.session.now in
    let bytes = r.bytes (base_of c.args.source.now.base) in
    let lent : c.match-shared.bytes.now ≡ bytes = elim c.match-shared.branch [
      | in-Some w ↦ ap (λ (x : Bor (List ℕ)). x.now) w.bytes-is ∙ w.as_slice-bytes.ensures ∙ w.as_ref.ensures ∙ ap bytes_in (sym w.in-Some.is) ∙ c.in_ok-shared.ensures
      | in-None w ↦ ap (λ (x : Bor (List ℕ)). x.now) w.bytes-is ∙ ap bytes_in (sym w.in-None.is) ∙ c.in_ok-shared.ensures
    ] in
    ap (λ (bytes : List ℕ). in_place_kind (binary_op c.args.op) (geo_of c.args.target.now) (elements_over false (geo_of c.args.source.now) bytes)) lent ∙ c.requires.kind

pub returns-then-eq : goal.returns-then-eq
returns-then-eq c =
    let r = live c.args.session.now in
    let b = base_of c.args.target.now.base in
    let g = geo_of c.args.target.now in
    let s = geo_of c.args.source.now in
    let k = kind_of c.args.kind in
    let op = binary_op c.args.op in
    let bytes = r.bytes (base_of c.args.source.now.base) in
    let y = elements_over false s bytes in
    let p = c.in_ok-results.results in
    let own : r.bytes b ≡ bytes = ap r.bytes (sym (equal_bases (base_of c.args.source.now.base) b (sym c.eq.ensures ∙ c.if-eq.true))) in
    let written : written_in_place p (r.bytes b) ≡ put (results_in_place k op g (contents_over g (r.bytes b)) (elements_over false s (r.bytes b))) (r.bytes b) =
    subst (λ (block : List ℕ). written_in_place p block ≡ put (results_in_place k op g (contents_over g block) (elements_over false s block)) block) c.bytes-block.ensures c.in_ok-results.ensures.results in
    subst (λ (t : Running). OnOk c.write_results.result (live c.write_results.new.session ≡ t))
    (updated_in_parts r b g (written_in_place p (r.bytes b)) k op y c.requires.target.count c.requires.kind
    (written ∙ ap (λ bytes. put (results_in_place k op g (contents_over g (r.bytes b)) (elements_over false s bytes)) (r.bytes b)) own)) c.write_results.ensures

pub returns : goal.returns
returns c =
    let r = live c.args.session.now in
    let b = base_of c.args.target.now.base in
    let g = geo_of c.args.target.now in
    let s = geo_of c.args.source.now in
    let k = kind_of c.args.kind in
    let op = binary_op c.args.op in
    let bytes = r.bytes (base_of c.args.source.now.base) in
    let y = elements_over false s bytes in
    let p = c.in_ok-results-2.results in
    let lent : c.match-shared.bytes.now ≡ bytes = elim c.match-shared.branch [
      | in-Some w ↦ ap (λ (x : Bor (List ℕ)). x.now) w.bytes-is ∙ w.as_slice-bytes.ensures ∙ w.as_ref.ensures ∙ ap bytes_in (sym w.in-Some.is) ∙ c.in_ok-shared.ensures
      | in-None w ↦ ap (λ (x : Bor (List ℕ)). x.now) w.bytes-is ∙ ap bytes_in (sym w.in-None.is) ∙ c.in_ok-shared.ensures
    ] in
    let written : written_in_place p (r.bytes b) ≡ put (results_in_place k op g (contents_over g (r.bytes b)) (elements_over false s c.match-shared.bytes.now)) (r.bytes b) =
    subst (λ (block : List ℕ). written_in_place p block ≡ put (results_in_place k op g (contents_over g block) (elements_over false s c.match-shared.bytes.now)) block) c.bytes-block.ensures c.in_ok-results-2.ensures.results in
    subst (λ (t : Running). OnOk c.write_results-2.result (live c.write_results-2.new.session ≡ t))
    (updated_in_parts r b g (written_in_place p (r.bytes b)) k op y c.requires.target.count c.requires.kind
    (written ∙ ap (λ bytes. put (results_in_place k op g (contents_over g (r.bytes b)) (elements_over false s bytes)) (r.bytes b)) lent)) c.write_results-2.ensures
