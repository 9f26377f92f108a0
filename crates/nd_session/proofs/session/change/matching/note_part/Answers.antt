use Rattle.std.proofs.Common.{◌≡◌, ◌∙◌, ℕ, Bool, true, false, Option, Some, None, refl, ap, cond}
use Rattle.std.specs.Prelude.{is_some, slice_index}
use Rattle.nd_heap.specs.Values.{base_of}
use Rattle.nd_marks.specs.Kept.{KeptData, kept_at}
use Rattle.nd_model.specs.Arrays.Value as values
use Rattle.nd_session.specs.Session.Change.{part_at}
use Rattle.nd_session.specs.Session.Now.{kept_in, part_now}
use Rattle.nd_session.proofs.session.Reading.{base_insert}
use Rattle.nd_session.proofs.session.change.matching.note_part.Goals as goal

either : (t : Bool) (k : KeptData) (o : Option KeptData) (p : ℕ) → part_at (cond t (Some k) o) p ≡ cond t (kept_at k p) (part_at o p)
either true k o p = refl
either false k o p = refl

pub returns : goal.returns
returns c = λ b p.
    let es = c.args.parts.now.entries in
    let same = values.same_base b (base_of c.args.base) in
    let kept = c.args.kept.now in
    ap (λ fs. part_now fs b p) c.in_ok-insert.ensures.entries
    ∙ ap (λ o. part_at o p) (base_insert kept_in c.args.base c.in_ok-shared.shared es b)
    ∙ either same (kept_in c.in_ok-shared.shared) _ p
    ∙ ap (λ o. cond same o (part_now es b p)) (ap (λ k. kept_at k p) c.in_ok-shared.ensures.ok ∙ c.in_ok-now.ensures p
    ∙ ap (λ bs. cond (is_some (kept_at kept p)) (Some (slice_index bs p)) None) (c.shared_bytes.ensures ∙ c.in_ok-block.ensures))
