use Rattle.std.proofs.Common.{◌≡◌, ◌∙◌, List, ℕ, Bor, ap, sym, subst}
use Rattle.std.specs.Prelude.{OnOk}
use Rattle.nd_model.specs.Cells.Running.{Running}
use Rattle.nd_model.proofs.Storing.{equal_bases}
use Rattle.nd_assign.specs.Assigned.{with_elements}
use Rattle.nd_assign.specs.Prepared.{written_by}
use Rattle.nd_heap.specs.Contents.{bytes_in}
use Rattle.nd_heap.specs.Values.{base_of, geo_of}
use Rattle.nd_session.specs.Session.Live.{live}
use Rattle.nd_eval.proofs.storing.Stored.{lent_contents, stored_elements}
use Rattle.nd_eval.proofs.storing.storing.store_elements.Goals as goal
use Rattle.nd_eval.proofs.storing.storing.store_elements.Goals.{in-Some, in-None}

pub returns-then-eq : goal.returns-then-eq
returns-then-eq c =
    let r = live c.args.session.now in
    let b = base_of c.args.target.now.base in
    let g = geo_of c.args.target.now in
    let s = geo_of c.args.source.now in
    let bytes = r.bytes (base_of c.args.source.now.base) in
    let w = written_by c.in_ok-assignment.assignment (r.bytes b) in
    let own : r.bytes b ≡ bytes = ap r.bytes (sym (equal_bases (base_of c.args.source.now.base) b (sym c.eq.ensures ∙ c.if-eq.true))) in
    let written : w ≡ with_elements g s (r.bytes b) (r.bytes b) =
    subst (λ (block : List ℕ). written_by c.in_ok-assignment.assignment block ≡ with_elements g s block block) c.bytes-block.ensures c.in_ok-assignment.ensures.written in
    subst (λ (t : Running). OnOk c.write_elements.result (live c.write_elements.new.session ≡ t))
    (stored_elements r b g w c.requires.target s bytes c.requires.source (lent_contents s c.bytes-block.result.now bytes (c.bytes-block.ensures ∙ own) c.soundness.ensures)
    (written ∙ ap (λ bytes. with_elements g s bytes (r.bytes b)) own)) c.write_elements.ensures

pub returns : goal.returns
returns c =
    let r = live c.args.session.now in
    let b = base_of c.args.target.now.base in
    let g = geo_of c.args.target.now in
    let s = geo_of c.args.source.now in
    let bytes = r.bytes (base_of c.args.source.now.base) in
    let w = written_by c.in_ok-assignment-2.assignment (r.bytes b) in
    let lent : c.match-shared.bytes.now ≡ bytes = elim c.match-shared.branch [
      | in-Some w ↦ ap (λ (x : Bor (List ℕ)). x.now) w.bytes-is ∙ w.as_slice-bytes.ensures ∙ w.as_ref.ensures ∙ ap bytes_in (sym w.in-Some.is) ∙ c.in_ok-shared.ensures
      | in-None w ↦ ap (λ (x : Bor (List ℕ)). x.now) w.bytes-is ∙ ap bytes_in (sym w.in-None.is) ∙ c.in_ok-shared.ensures
    ] in
    let written : w ≡ with_elements g s c.match-shared.bytes.now (r.bytes b) =
    subst (λ (block : List ℕ). written_by c.in_ok-assignment-2.assignment block ≡ with_elements g s c.match-shared.bytes.now block) c.bytes-block.ensures c.in_ok-assignment-2.ensures.written in
    subst (λ (t : Running). OnOk c.write_elements-2.result (live c.write_elements-2.new.session ≡ t))
    (stored_elements r b g w c.requires.target s bytes c.requires.source (lent_contents s c.match-shared.bytes.now bytes lent c.soundness-2.ensures)
    (written ∙ ap (λ bytes. with_elements g s bytes (r.bytes b)) lent)) c.write_elements-2.ensures
