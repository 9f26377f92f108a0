-- Numbers that are read one after another.
use Rattle.std.proofs.Common.{◌≡◌, ℕ, ◌+◌, ◌*◌, ◌<◌, ◌≤◌, Bool, true, false, List, [], ◌∷◌, ◌++◌, map, length, drop, get_or, Option, Some, None, refl, sym, ap, ◌∙◌, inl, inr, eqb-true, arith, length-append}
use Rattle.std.specs.Prelude.{ℤ, pos, nat_eq, slice_index, unsigned_abs}
use Rattle.std.proofs.Math.Nat.{mul-le-mul_right}
use Rattle.std.proofs.lemmas.Bool.{cases_Bool}
use Rattle.std.proofs.lemmas.Int.{ints}
use Rattle.std.proofs.lemmas.List.{length-map, map-append}
use Rattle.nd_model.specs.Indexing.Advanced.{is_nonzero, number_fault, or_next, outside_fault, true_numbers}
use Rattle.nd_model.specs.Arrays.Content.{number_at}
use Rattle.nd_model.specs.Arrays.Element.{Element}
use Rattle.nd_model.specs.Cells.Fault.{IndexFault}
use Rattle.nd_element.specs.Elements.{numbers_at}
use Rattle.nd_index.specs.Items.Counts.{true_count}
use Rattle.nd_index.specs.Items.Packed.{IsPacked}
use Rattle.nd_index.proofs.items.Items.{count_from}
use Rattle.nd_places.proofs.Found.{count_any, true_append, trues_few}
use Rattle.nd_places.proofs.Fronts.{drop_one}

pub nonzero : (z : ℤ) → (z ≡ pos 0 → ⊥) → is_nonzero z ≡ true
nonzero z h = elim (cases_Bool (nat_eq (unsigned_abs z) 0)) [
  | inl e ↦ let none : unsigned_abs z ≡ 0 = eqb-true (unsigned_abs z) 0 e in absurd (h (omega (arith, ints, none)))
  | inr e ↦ rw e refl
]

-- ---- numbers outside an axis

pub outside_next : (axis size : ℕ) (e : Element) (bytes run : List ℕ) (k : ℕ) → k < length run
    → outside_fault axis size (numbers_at e bytes (drop k run)) ≡ or_next (number_fault axis size (number_at e bytes (get_or run k 0))) (outside_fault axis size (numbers_at e bytes (drop (k + 1) run)))
outside_next axis size e bytes run k lt = ap (λ ps. outside_fault axis size (numbers_at e bytes ps)) (drop_one run k 0 lt)

next_assoc : (a b c : Option IndexFault) → or_next a (or_next b c) ≡ or_next (or_next a b) c
next_assoc None b c = refl
next_assoc (Some f) b c = refl

outside_append : (axis size : ℕ) (xs ys : List ℤ) → outside_fault axis size (xs ++ ys) ≡ or_next (outside_fault axis size xs) (outside_fault axis size ys)
outside_append axis size [] ys = refl
outside_append axis size (z ∷ xs) ys =
    ap (or_next (number_fault axis size z)) (outside_append axis size xs ys) ∙ next_assoc (number_fault axis size z) (outside_fault axis size xs) (outside_fault axis size ys)

pub outside_run : (axis size : ℕ) (e : Element) (bytes runs run rest : List ℕ) → runs ≡ run ++ rest
    → outside_fault axis size (numbers_at e bytes runs) ≡ or_next (outside_fault axis size (numbers_at e bytes run)) (outside_fault axis size (numbers_at e bytes rest))
outside_run axis size e bytes runs run rest is =
    ap (λ ps. outside_fault axis size (numbers_at e bytes ps)) is ∙ ap (outside_fault axis size) (map-append (number_at e bytes) run rest)
    ∙ outside_append axis size (numbers_at e bytes run) (numbers_at e bytes rest)

-- ---- true elements

counted_as : (b : Bool) (bs : List Bool) (n : ℕ) → length (true_numbers 0 (b ∷ bs)) ≡ n → (b ≡ true → n ≡ 1 + length (true_numbers 0 bs)) × (b ≡ false → n ≡ length (true_numbers 0 bs))
counted_as true bs n e = (λ t. omega (arith, e, count_from bs), λ f. absurd cc)
counted_as false bs n e = (λ t. absurd cc, λ f. sym e ∙ count_from bs)

-- one number more
pub count_next : (e : Element) (bytes run : List ℕ) (k : ℕ) → k < length run
    → (is_nonzero (number_at e bytes (get_or run k 0)) ≡ true → true_count e bytes (drop k run) ≡ 1 + true_count e bytes (drop (k + 1) run))
    × (is_nonzero (number_at e bytes (get_or run k 0)) ≡ false → true_count e bytes (drop k run) ≡ true_count e bytes (drop (k + 1) run))
count_next e bytes run k lt =
    counted_as (is_nonzero (number_at e bytes (get_or run k 0))) (map is_nonzero (numbers_at e bytes (drop (k + 1) run))) (true_count e bytes (drop k run))
    (sym (ap (true_count e bytes) (drop_one run k 0 lt)))

pub count_few : (e : Element) (bytes run : List ℕ) → true_count e bytes run ≤ length run
count_few e bytes run =
    omega (arith, trues_few 0 (map is_nonzero (numbers_at e bytes run)), length-map (numbers_at e bytes run) is_nonzero, length-map run (number_at e bytes))

pub count_run : (e : Element) (bytes runs run rest : List ℕ) → runs ≡ run ++ rest → true_count e bytes runs ≡ true_count e bytes run + true_count e bytes rest
count_run e bytes runs run rest is =
    let bs : List Bool = map is_nonzero (numbers_at e bytes run) in let cs : List Bool = map is_nonzero (numbers_at e bytes rest) in
    let split : map is_nonzero (numbers_at e bytes (run ++ rest)) ≡ bs ++ cs = ap (map is_nonzero) (map-append (number_at e bytes) run rest) ∙ map-append is_nonzero (numbers_at e bytes run) (numbers_at e bytes rest) in
    ap (true_count e bytes) is ∙ ap (λ ds. length (true_numbers 0 ds)) split ∙ ap length (true_append 0 bs cs)
    ∙ omega (arith, length-append (true_numbers 0 bs) (true_numbers (0 + length bs) cs), count_any (0 + length bs) 0 cs)

-- ---- elements side by side

pub packed_is : (size len : ℕ) (run : List ℕ) → ((k : ℕ) → k < length run → slice_index run k ≡ slice_index run 0 + k * size) → slice_index run 0 + length run * size ≤ len → IsPacked size len run
packed_is size len run places total = record {
  places = places;
  inside = λ k lt. within k (mul-le-mul_right size (omega (arith, lt)));
}
  where
    within : (k : ℕ) → (k + 1) * size ≤ length run * size → slice_index run 0 + k * size + size ≤ len
    within k le = let next : (k + 1) * size ≡ k * size + size = omega arith in omega (arith, le, next, total)

-- they end with the last one
pub packed_end : (size len : ℕ) (run : List ℕ) → 0 < length run → IsPacked size len run → slice_index run 0 + length run * size ≤ len
packed_end size len [] some packed = absurd (omega (arith, some))
packed_end size len (p ∷ run) some packed =
    let last = packed.inside (length run) (omega arith) in let more : (length run + 1) * size ≡ length run * size + size = omega arith in
    omega (arith, last, more)
