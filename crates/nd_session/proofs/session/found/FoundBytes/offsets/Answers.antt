use Rattle.std.proofs.Common.{◌≡◌, ◌∙◌, ℕ, Bool, true, false, Some, None, cond, slice_index, refl, sym, ap}
use Rattle.std.specs.Prelude.{is_some}
use Rattle.nd_heap.specs.Contents.{bytes_in}
use Rattle.nd_marks.specs.Kept.{byte_of}
use Rattle.nd_marks.specs.Marks.{holds}
use Rattle.nd_session.specs.Session.Found.{bytes_of, found_at}
use Rattle.nd_session.proofs.session.found.FoundBytes.offsets.Goals as goal

-- a byte is there where its place is marked
marked : (t : Bool) (x : ℕ) → t ≡ is_some (cond t (Some x) None)
marked true x = refl
marked false x = refl

pub returns-in-Kept : goal.returns-in-Kept
returns-in-Kept c = λ p. let kept = c.in-Kept.kept in
    ap (λ m. holds m p) c.offsets.ensures ∙ marked (holds kept.marks p) (byte_of kept p) ∙ sym (ap (λ f. is_some (found_at (bytes_of f) p)) c.in-Kept.is)

pub returns-in-Shared : goal.returns-in-Shared
returns-in-Shared c = λ p. marked (holds c.in-Shared.marks p) (slice_index (bytes_in c.in-Shared.field-1) p) ∙ sym (ap (λ f. is_some (found_at (bytes_of f) p)) c.in-Shared.is)
