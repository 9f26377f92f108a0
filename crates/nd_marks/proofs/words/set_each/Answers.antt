use Rattle.std.proofs.Common.{◌≡◌, ◌∙◌, ◌+◌, ◌||◌, ℕ, List, ◌∷◌, drop, slice_index, sym, ap, add-one, drop-cons}
use Rattle.std.specs.List.{flat_map}
use Rattle.nd_model.specs.Arrays.Tuple.{count_up}
use Rattle.nd_marks.specs.Marks.{has_bit, pages_of}
use Rattle.nd_marks.proofs.Ranges.{set_more, is_in-count_up}
use Rattle.nd_marks.proofs.words.set_each.Goals as goal

pub loop-place-preserved : goal.loop-place-preserved
loop-place-preserved c = λ p.
    let places = c.args.places.now in
    let i = c.loop-place.place-index in
    let size = c.args.size in
    let F : List ℕ → List ℕ = flat_map (λ q. count_up q size) in
    let here : drop i places ≡ slice_index places i ∷ drop (i + 1) places = rw add-one (drop-cons places i 0 c.loop-place-test.true) in
    set_more (has_bit (pages_of c.set_run.new.pages.items) p) (has_bit (pages_of c.loop-place.pages.items) p) _ p (count_up (slice_index places i) size) (F (drop (i + 1) places)) (F (drop i places))
    (c.in_ok-set_run.ensures p ∙ ap (λ t. has_bit (pages_of c.loop-place.pages.items) p || t) (sym (is_in-count_up p (slice_index places i) size)))
    (ap F here) (c.loop-place.invariant p)
