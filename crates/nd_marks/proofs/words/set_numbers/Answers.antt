use Rattle.std.proofs.Common.{◌≡◌, ◌∙◌, ◌+◌, ◌-◌, ◌*◌, ◌<◌, ◌≤◌, ◌^◌, ◌||◌, ◌&&◌, nat_le, nat_lt, length, slice_index, refl, sym, ap, arith}
use Rattle.std.specs.List.{flat_map}
use Rattle.std.proofs.lemmas.List.Elements.{All-get_or}
use Rattle.std.proofs.lemmas.Bool.Decides.{nat_tests}
use Rattle.nd_model.specs.Cells.Session.{is_in}
use Rattle.nd_model.specs.Arrays.Tuple.{count_up}
use Rattle.nd_marks.specs.Marks.{has_bit, pages_of}
use Rattle.nd_marks.proofs.Ranges.{run_together, is_in-count_up}
use Rattle.nd_marks.proofs.Listed.{nothing_excepted}
use Rattle.nd_marks.proofs.words.set_numbers.Goals as goal

pub set_bits-requires : goal.set_bits-requires
set_bits-requires c =
    let places = c.args.places.now in
    let size = c.args.size in
    let n = length places in
    let some : 0 < n = grind (arith, nat_tests, c.in-Some.ensures.item.0) in
    let last : slice_index places (n - 1) ≡ slice_index places 0 + (n - 1) * size = c.if-are_adjacent.ensures refl (n - 1) (omega arith) in
    let end : slice_index places (n - 1) + size ≤ 2 ^ 64 = All-get_or (λ p. p + size ≤ 2 ^ 64) places (n - 1) 0 (omega arith) c.requires.near in
    let many : n * size ≡ (n - 1) * size + size = (let one : n ≡ (n - 1) + 1 = omega arith in ap (λ k. k * size) one ∙ omega arith) in
    let first : c.from-from.result ≡ slice_index places 0 = c.from-from.ensures ∙ c.in-Some.ensures.item.3.1 0 in
    let product : n * c.from.result ≡ n * size = ap (λ k. n * k) c.from.ensures in
    omega (arith, last, end, many, first, product)

pub returns-then-are_adjacent : goal.returns-then-are_adjacent
returns-then-are_adjacent c = λ p.
    let places = c.args.places.now in
    let size = c.args.size in
    let s = slice_index places 0 in
    let old = has_bit (pages_of c.args.pages.now.items) p in
    let first : c.from-from.result ≡ s = c.from-from.ensures ∙ c.in-Some.ensures.item.3.1 0 in
    let each : c.from.result ≡ size = c.from.ensures in
    let together : flat_map (λ q. count_up q size) places ≡ count_up s (length places * size) = run_together s size places (c.if-are_adjacent.ensures refl) in
    c.in_ok-set_bits.ensures p
    ∙ nothing_excepted old (nat_le c.from-from.result p && nat_lt p (c.from-from.result + length places * c.from.result)) p
    ∙ (λ i. old || (nat_le (first i) p && nat_lt p (first i + length places * each i)))
    ∙ ap (λ t. old || t) (sym (is_in-count_up p s (length places * size)) ∙ ap (is_in p) (sym together))
