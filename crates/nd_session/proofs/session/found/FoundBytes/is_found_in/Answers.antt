use Rattle.std.proofs.Common.{◌≡◌, ◌∙◌, ℕ, Bool, List, Some, None, cond, slice_index, sym, subst, ap}
use Rattle.std.specs.Prelude.{◌↔◌, IsTrue}
use Rattle.std.proofs.lemmas.Option.{cond_some}
use Rattle.nd_heap.specs.Contents.{bytes_in}
use Rattle.nd_marks.specs.Marks.{holds}
use Rattle.nd_session.specs.declared.session.found.FoundBytes as code
use Rattle.nd_session.specs.Session.Found.{bytes_of, found_at}
use Rattle.nd_session.proofs.session.found.FoundBytes.is_found_in.Goals as goal

abbrev IsFound : Bool → List ℕ → code.FoundBytes → Type 0
IsFound is block f = IsTrue is ↔ ((p b : ℕ) → found_at (bytes_of f) p ≡ Some b → slice_index block p ≡ b)

pub returns-in-Kept : goal.returns-in-Kept
returns-in-Kept c = subst (IsFound c.is_found_in.result c.args.block.now) (sym c.in-Kept.is) c.is_found_in.ensures

pub returns-in-Shared : goal.returns-in-Shared
returns-in-Shared c =
    let bytes = bytes_in c.in-Shared.found in
    subst (IsFound c.are_same.result c.args.block.now) (sym c.in-Shared.is) (
      λ h p b at. let found = cond_some (holds c.in-Shared.marks p) (slice_index bytes p) b at in
          c.are_same.ensures.0 h p found.0 ∙ ap (λ bs. slice_index bs p) c.shared_bytes.ensures ∙ found.1,
      λ all. c.are_same.ensures.1 (λ p there. all p (slice_index bytes p) (ap (λ h. cond h (Some (slice_index bytes p)) None) there)
          ∙ sym (ap (λ bs. slice_index bs p) c.shared_bytes.ensures)),
    )
