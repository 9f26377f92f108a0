use Rattle.std.proofs.Common.{◌≡◌, ◌∙◌, ℕ, sym, ap}
use Rattle.std.specs.Prelude.{is_some}
use Rattle.nd_heap.specs.Values.{base_of}
use Rattle.nd_model.specs.Cells.Footprint.{Number}
use Rattle.nd_model.specs.Cells.Running.{Byte}
use Rattle.nd_session.specs.Session.Found.{byte_found}
use Rattle.nd_session.specs.Session.Reads.{ReadsData, keys_of}
use Rattle.nd_session.proofs.session.Reading.{is_some-map}
use Rattle.nd_session.proofs.session.reads.Reads.reads_bytes.Goals as goal

pub returns : goal.returns
returns c =
    let es = c.self.inside.bytes.entries in
    let b = base_of c.args.base in
    let is : (p : ℕ) → keys_of c.args.self.now (Byte b p) ≡ is_some (byte_found es b p) = λ p. ap (λ (d : ReadsData). keys_of d (Byte b p)) (sym c.self.view_is) ∙ is_some-map Number (byte_found es b p) in (
      λ h. let found = c.meets_at.ensures.0 h in (found.0, is found.0 ∙ found.1),
      λ found. let there = sym (is found.0) ∙ found.1 in c.meets_at.ensures.1 (found.0, there, there),
    )
