use Rattle.std.proofs.Common.{◌≡◌, ◌*◌, ◌/◌, ◌%◌, ◌-◌, ◌<◌, ℕ, Bool, true, false, not, length, get_or, refl, sym, ap, ◌∙◌, arith}
use Rattle.std.specs.Prelude.{◌==◌}
use Rattle.std.proofs.lemmas.Bool.Decides.{nat_tests}
use Rattle.nd_model.specs.Arrays.Element.{size_of}
use Rattle.nd_model.specs.Indexing.Recasting.{has_whole_rows, row_bytes}
use Rattle.nd_model.specs.Arrays.View.{item_size}
use Rattle.nd_shape.proofs.Recasts.{last_at}
use Rattle.nd_shape.proofs.recasting.recast_length.Goals as goal

nonempty : (n : ℕ) → 0 < n → not (n == 0) ≡ true
nonempty n some = grind (arith, nat_tests)

is_zero : (n : ℕ) → n ≡ 0 → (n == 0) ≡ true
is_zero n e = grind (arith, nat_tests)

not_zero : (n : ℕ) → 0 < n → (n == 0) ≡ false
not_zero n some = grind (arith, nat_tests)

filled : (n : ℕ) (b : Bool) → b ≡ (n == 0) → b ≡ false → 0 < n
filled n b e f = grind (arith, nat_tests)

pub returns-then-bytes-size-eq0 : goal.returns-then-bytes-size-eq0
returns-then-bytes-size-eq0 c =
    let g = c.args.view.now in
    let some : 0 < length g.shape = filled (length g.shape) c.is_empty.result (c.is_empty.ensures ∙ ap (λ s. length s == 0) c.shape-shape.ensures.value) c.if-is_empty.false in
    let rows : has_whole_rows g ≡ true = sym c.has_whole_rows.ensures ∙ c.if-not-has_whole_rows.false in
    let bytes : get_or c.shape-shape.result.now (length c.shape-shape.result.now - 1) 0 * c.size.result ≡ row_bytes g
    = (λ i. get_or (c.shape-shape.ensures.value i) (length (c.shape-shape.ensures.value i) - 1) 0 * (c.size.ensures.value ∙ ap item_size c.elem.ensures) i) ∙ ap (λ n. n * item_size g.element) (sym (last_at g.shape)) in
    let whole : (row_bytes g % size_of c.args.elem.kind == 0) ≡ true = is_zero _ ((λ i. sym bytes i % sym c.size-size.ensures.value i) ∙ c.if-bytes-size-eq0.true) in
    (rw (nonempty (length g.shape) some, rows, whole) refl, (λ i. bytes i / c.size-size.ensures.value i))

pub returns-else-bytes-size-eq0 : goal.returns-else-bytes-size-eq0
returns-else-bytes-size-eq0 c =
    let g = c.args.view.now in
    let some : 0 < length g.shape = filled (length g.shape) c.is_empty.result (c.is_empty.ensures ∙ ap (λ s. length s == 0) c.shape-shape.ensures.value) c.if-is_empty.false in
    let rows : has_whole_rows g ≡ true = sym c.has_whole_rows.ensures ∙ c.if-not-has_whole_rows.false in
    let bytes : get_or c.shape-shape.result.now (length c.shape-shape.result.now - 1) 0 * c.size.result ≡ row_bytes g
    = (λ i. get_or (c.shape-shape.ensures.value i) (length (c.shape-shape.ensures.value i) - 1) 0 * (c.size.ensures.value ∙ ap item_size c.elem.ensures) i) ∙ ap (λ n. n * item_size g.element) (sym (last_at g.shape)) in
    let same : get_or c.shape-shape.result.now (length c.shape-shape.result.now - 1) 0 * c.size.result % c.size-size.result ≡ row_bytes g % size_of c.args.elem.kind
    = λ i. bytes i % c.size-size.ensures.value i in
    let left : 0 < row_bytes g % size_of c.args.elem.kind = omega (arith, same, c.if-bytes-size-eq0.false) in
    rw (nonempty (length g.shape) some, rows, not_zero (row_bytes g % size_of c.args.elem.kind) left) refl
