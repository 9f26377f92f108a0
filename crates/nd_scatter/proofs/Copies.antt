-- The loops that copy: one run of bytes, one field and one element more.
use Rattle.std.proofs.Common.{◌≡◌, ℕ, ◌+◌, ◌*◌, ◌<◌, ◌≤◌, List, [], ◌∷◌, ◌++◌, map, length, drop, get_or, sym, ap, ◌∙◌, subst, arith, add-one, drop-cons}
use Rattle.std.specs.Prelude.{slice_index}
use Rattle.std.specs.List.{All, zip}
use Rattle.std.proofs.lemmas.List.{map-append, length-map, get_or-map}
use Rattle.nd_model.specs.Arrays.Element.{size_of, bytes_at, with_bytes}
use Rattle.nd_model.specs.Cells.Session.{put}
use Rattle.nd_model.specs.Arrays.Tuple.{count_up}
use Rattle.nd_model.specs.Arrays.View as view
use Rattle.nd_model.specs.Arrays.View.{ElementType, field_places}
use Rattle.nd_model.proofs.Puts.{put-append, with_bytes-put}
use Rattle.nd_model.proofs.Uses.{gathered}
use Rattle.nd_view.proofs.Tuples.{length-count_up}
use Rattle.nd_types.specs.Fields.{field_of, fields_of}
use Rattle.nd_types.specs.declared.field.Field.{Field}
use Rattle.nd_block.proofs.Copied.{length-bytes_at}
use Rattle.nd_scatter.specs.Scattered.{byte_copies, scattered}
use Rattle.nd_scatter.proofs.ByteWrites.{zip_parts}

-- the bytes of a run, each with its place
abbrev pub run_copies : List ℕ → (to from size : ℕ) → List (ℕ × ℕ)
run_copies values to from size = zip (count_up to size) (map (slice_index values) (count_up from size))

pub run_put : (values out : List ℕ) (to from size : ℕ) → to + size ≤ length out → from + size ≤ length values → with_bytes out to (bytes_at values from size) ≡ put (run_copies values to from size) out
run_put values out to from size room held =
    let b = bytes_at values from size in
    let long : length b ≡ size = length-bytes_at values from size held in
    with_bytes-put b to out (omega (arith, room, long))
    ∙ (λ i. put (zip (count_up to (long i)) (sym (gathered values from size held) i)) out)

-- ---- fields

-- the field at an index: it comes next, and lies in the structure
pub field_next : (items : List Field) (fields : List view.Field) (size i : ℕ) (item : Field) → fields_of items ≡ fields → All (λ (f : view.Field). f.at + size_of f.element.kind ≤ size) fields
    → i < length items → item ≡ get_or items i item
    → (drop i (fields_of items) ≡ field_of item ∷ drop (i + 1) (fields_of items)) × (item.at + size_of item.elem.kind ≤ size)
field_next items fields size i item same inside lt is =
    let many : i < length (fields_of items) = omega (arith, lt, length-map items field_of) in
    let named : get_or (fields_of items) i (field_of item) ≡ field_of item = get_or-map field_of items i item (field_of item) lt ∙ ap field_of (sym is) in
    let all : All (λ (f : view.Field). f.at + size_of f.element.kind ≤ size) (fields_of items) = subst (All (λ (f : view.Field). f.at + size_of f.element.kind ≤ size)) (sym same) inside in (
      rw add-one (drop-cons (fields_of items) i (field_of item) many) ∙ ap (λ f. f ∷ drop (i + 1) (fields_of items)) named,
      subst (λ (f : view.Field). f.at + size_of f.element.kind ≤ size) named (all i (field_of item) many),
    )

abbrev pub field_copies : List ℕ → (to from : ℕ) → List view.Field → List (ℕ × ℕ)
field_copies values to from fs = zip (field_places to fs) (map (slice_index values) (field_places from fs))

pub field_more : (values out new whole : List ℕ) (to from : ℕ) (f : view.Field) (fs gs : List view.Field) → gs ≡ f ∷ fs → to + f.at + size_of f.element.kind ≤ length out → from + f.at + size_of f.element.kind ≤ length values
    → new ≡ with_bytes out (to + f.at) (bytes_at values (from + f.at) (size_of f.element.kind))
    → put (field_copies values to from gs) out ≡ whole → put (field_copies values to from fs) new ≡ whole
field_more values out new whole to from f fs gs e room held is all =
    let n = size_of f.element.kind in
    let mine : List ℕ = count_up (to + f.at) n in let theirs : List ℕ = count_up (from + f.at) n in
    let parts : field_copies values to from (f ∷ fs) ≡ run_copies values (to + f.at) (from + f.at) n ++ field_copies values to from fs
    = ap (zip (mine ++ field_places to fs)) (map-append (slice_index values) theirs (field_places from fs))
    ∙ zip_parts mine (field_places to fs) (map (slice_index values) theirs) (map (slice_index values) (field_places from fs))
    (length-count_up (to + f.at) n ∙ sym (length-map theirs (slice_index values) ∙ length-count_up (from + f.at) n)) in
    ap (put (field_copies values to from fs)) (is ∙ run_put values out (to + f.at) (from + f.at) n room held)
    ∙ sym (put-append (run_copies values (to + f.at) (from + f.at) n) (field_copies values to from fs) out)
    ∙ ap (λ ws. put ws out) (sym parts) ∙ ap (λ l. put (field_copies values to from l) out) (sym e) ∙ all

-- ---- elements

pub element_more : (t : ElementType) (values out new whole ps : List ℕ) (step from k : ℕ) → k < length ps → new ≡ put (byte_copies t values (get_or ps k 0) (from + k * step)) out
    → scattered t values step (from + k * step) (drop k ps) out ≡ whole → scattered t values step (from + (k + 1) * step) (drop (k + 1) ps) new ≡ whole
element_more t values out new whole ps step from k lt is all =
    let here : drop k ps ≡ get_or ps k 0 ∷ drop (k + 1) ps = rw add-one (drop-cons ps k 0 lt) in
    let more : (k + 1) * step ≡ k * step + step = omega arith in
    let next : from + (k + 1) * step ≡ from + k * step + step = omega (arith, more) in
    (λ i. scattered t values step (next i) (drop (k + 1) ps) (is i)) ∙ ap (λ l. scattered t values step (from + k * step) l out) (sym here) ∙ all

-- ---- parts of the elements

pub scattered_parts : (t : ElementType) (values : List ℕ) (step from : ℕ) (ps qs old : List ℕ)
    → scattered t values step from (ps ++ qs) old ≡ scattered t values step (from + length ps * step) qs (scattered t values step from ps old)
scattered_parts t values step from [] qs old = ap (λ n. scattered t values step n qs old) (omega arith)
scattered_parts t values step from (p ∷ ps) qs old =
    let new : List ℕ = put (byte_copies t values p from) old in
    let more : (length ps + 1) * step ≡ length ps * step + step = omega arith in
    let next : from + step + length ps * step ≡ from + length (p ∷ ps) * step = omega (arith, more) in
    scattered_parts t values step (from + step) ps qs new ∙ ap (λ n. scattered t values step n qs (scattered t values step (from + step) ps new)) next
