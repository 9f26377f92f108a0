use Rattle.std.proofs.Common.{rules, ◌≡◌, ◌∙◌, List, ℕ, ap, subst}
use Rattle.std.specs.Prelude.{OnOk}
use Rattle.std.specs.Int.{w128}
use Rattle.std.specs.Int.RustNames.{FitsSigned}
use mir.Facts.{to_z-of_z}
use Rattle.nd_model.specs.Making.Operand as operand
use Rattle.nd_model.specs.Cells.Running.{Running}
use Rattle.nd_assign.specs.Assigned.{with_number}
use Rattle.nd_assign.specs.Prepared.{written_by}
use Rattle.nd_heap.specs.Values.{base_of, geo_of}
use Rattle.nd_session.specs.Session.Live.{live}
use Rattle.nd_operation.specs.Operators.Contents.{num_of}
use Rattle.nd_eval.proofs.storing.Stored.{stored_number}
use Rattle.nd_eval.proofs.storing.storing.store_number.Goals as goal

pub returns : goal.returns
returns c =
    let r = live c.args.session.now in
    let b = base_of c.args.target.now.base in
    let g = geo_of c.args.target.now in
    let n = num_of c.args.number in
    let a = c.in_ok-assignment.assignment in
    let fits : FitsSigned w128 c.whole_number.result = search rules in
    let block = c.bytes-block.result.now in
    let written : written_by a (r.bytes b) ≡ with_number g (operand.number_of n) (r.bytes b) =
    subst (λ (block : List ℕ). written_by a block ≡ with_number g (operand.number_of n) block) c.bytes-block.ensures
    (c.in_ok-assignment.ensures.written ∙ ap (λ z. with_number g z block) (to_z-of_z fits ∙ c.whole_number.ensures)) in
    subst (λ (s : Running). OnOk c.write_elements.result (live c.write_elements.new.session ≡ s))
    (stored_number r b g (written_by a (r.bytes b)) c.requires.target n c.requires.types written) c.write_elements.ensures
