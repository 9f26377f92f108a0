use Rattle.std.proofs.Common.{◌≡◌, ◌∙◌, ℕ, Bool, Some, None, cond, slice_index, sym, subst, ap}
use Rattle.std.specs.Prelude.{◌↔◌, IsTrue}
use Rattle.std.proofs.lemmas.Option.{cond_some}
use Rattle.nd_heap.specs.Contents.{bytes_in}
use Rattle.nd_marks.specs.Kept.{KeptData, kept_at}
use Rattle.nd_marks.specs.Marks.{holds}
use Rattle.nd_session.specs.declared.session.found.FoundBytes as code
use Rattle.nd_session.specs.Session.Found.{bytes_of, found_at}
use Rattle.nd_session.proofs.session.found.FoundBytes.agrees.Goals as goal

abbrev AreAgreed : Bool → KeptData → code.FoundBytes → Type 0
AreAgreed is k f = IsTrue is ↔ ((p a n : ℕ) → kept_at k p ≡ Some a → found_at (bytes_of f) p ≡ Some n → a ≡ n)

pub returns-in-Kept : goal.returns-in-Kept
returns-in-Kept c = subst (AreAgreed c.agrees.result c.args.part.now) (sym c.in-Kept.is) c.agrees.ensures

pub returns-in-Shared : goal.returns-in-Shared
returns-in-Shared c =
    let bytes = bytes_in c.in-Shared.found in
    subst (AreAgreed c.agrees_with.result c.args.part.now) (sym c.in-Shared.is) (
      λ h p a n kept at. let found = cond_some (holds c.in-Shared.marks p) (slice_index bytes p) n at in
          sym (c.agrees_with.ensures.0 h p a kept found.0) ∙ ap (λ bs. slice_index bs p) c.shared_bytes.ensures ∙ found.1,
      λ all. c.agrees_with.ensures.1 (λ p a kept there. ap (λ bs. slice_index bs p) c.shared_bytes.ensures
          ∙ sym (all p a (slice_index bytes p) kept (ap (λ h. cond h (Some (slice_index bytes p)) None) there))),
    )
