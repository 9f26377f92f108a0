-- The true bytes of masks, found one after another.
use Rattle.std.proofs.Common.{◌≡◌, ℕ, ◌+◌, ◌*◌, ◌^◌, ◌<◌, ◌≤◌, Bool, true, false, List, [], ◌∷◌, ◌++◌, map, length, take, drop, get_or, set, refl, sym, ap, ◌∙◌, arith, append_assoc, length-append}
use Rattle.std.specs.Prelude.{ℤ, pos, ◌*ℤ◌, unsigned_abs, if◌then◌else◌}
use Rattle.std.proofs.Math.Nat.{mul-le-mul}
use Rattle.std.proofs.lemmas.Int.{unsigned_abs-mul}
use Rattle.std.proofs.lemmas.List.{take-append-drop, drop-drop, take-set, take_more_set, length-map, map-append}
use Rattle.nd_model.specs.Indexing.Advanced.{true_numbers}
use Rattle.nd_places.specs.Forms.{trues_on}
use Rattle.nd_places.specs.Near.{is_true, place_on_line, trues_in}
use Rattle.nd_places.specs.declared.line.StridedLine.{StridedLine}
use Rattle.nd_places.proofs.Fronts.{drop_one}

pub one_at_most : (b : Bool) (n : ℕ) → n ≡ (if b then 1 else 0) → n ≤ 1
one_at_most true n e = omega (arith, e)
one_at_most false n e = omega (arith, e)

-- how far an element of a line is
pub near_product : (k : ℕ) (step : ℤ) → k ≤ 2 ^ 32 → unsigned_abs step ≤ 2 ^ 29 → unsigned_abs (pos k *ℤ step) ≤ 2 ^ 61
near_product k step few near =
    let product : k * unsigned_abs step ≤ 2 ^ 32 * 2 ^ 29 = mul-le-mul few near in
    rw (unsigned_abs-mul (pos k) step) product

-- what is left from a byte on
pub next_of : (first : ℕ) (mask : List ℕ) (k : ℕ) (b : Bool) → k < length mask → is_true (get_or mask k 0) ≡ b
    → trues_in (first + k) (drop k mask) ≡ true_numbers (first + k) (b ∷ map is_true (drop (k + 1) mask))
next_of first mask k b lt is =
    ap (trues_in (first + k)) (drop_one mask k 0 lt) ∙ ap (λ c. true_numbers (first + k) (c ∷ map is_true (drop (k + 1) mask))) is

pub further : (first k : ℕ) → first + k + 1 ≡ first + (k + 1)
further first k = omega arith

-- ---- how many there are

pub count_any : (n m : ℕ) (bs : List Bool) → length (true_numbers n bs) ≡ length (true_numbers m bs)
count_any n m [] = refl
count_any n m (true ∷ bs) = omega (arith, count_any (n + 1) (m + 1) bs)
count_any n m (false ∷ bs) = count_any (n + 1) (m + 1) bs

pub true_append : (n : ℕ) (bs cs : List Bool) → true_numbers n (bs ++ cs) ≡ true_numbers n bs ++ true_numbers (n + length bs) cs
true_append n [] cs = ap (λ m. true_numbers m cs) (omega arith)
true_append n (true ∷ bs) cs = ap (λ l. n ∷ l) (true_append (n + 1) bs cs ∙ ap (λ m. true_numbers (n + 1) bs ++ true_numbers m cs) (omega arith))
true_append n (false ∷ bs) cs = true_append (n + 1) bs cs ∙ ap (λ m. true_numbers (n + 1) bs ++ true_numbers m cs) (omega arith)

pub trues_few : (n : ℕ) (bs : List Bool) → length (true_numbers n bs) ≤ length bs
trues_few n [] = omega arith
trues_few n (true ∷ bs) = omega (arith, trues_few (n + 1) bs)
trues_few n (false ∷ bs) = omega (arith, trues_few (n + 1) bs)

pub count_few : (n : ℕ) (mask : List ℕ) → length (trues_in n mask) ≤ length mask
count_few n mask = omega (arith, trues_few n (map is_true mask), length-map mask is_true)

counted_as : (b : Bool) (n m : ℕ) (bs : List Bool) → n ≡ (if b then 1 else 0) → length (true_numbers m (b ∷ bs)) ≡ n + length (true_numbers 0 bs)
counted_as true n m bs e = omega (arith, e, count_any (m + 1) 0 bs)
counted_as false n m bs e = omega (arith, e, count_any (m + 1) 0 bs)

-- one byte more
pub count_next : (mask : List ℕ) (k n : ℕ) → k < length mask → n ≡ (if is_true (get_or mask k 0) then 1 else 0)
    → length (trues_in 0 (drop k mask)) ≡ n + length (trues_in 0 (drop (k + 1) mask))
count_next mask k n lt e =
    count_any 0 (0 + k) (map is_true (drop k mask)) ∙ ap length (next_of 0 mask k (is_true (get_or mask k 0)) lt refl)
    ∙ counted_as (is_true (get_or mask k 0)) n (0 + k) (map is_true (drop (k + 1) mask)) e

-- the first ones of those that are left, and the rest
pub parts_of : (k n : ℕ) (mask : List ℕ) → drop k mask ≡ take n (drop k mask) ++ drop (k + n) mask
parts_of k n mask = sym (take-append-drop n (drop k mask)) ∙ ap (λ l. take n (drop k mask) ++ l) (drop-drop n k mask)

pub count_split : (k n : ℕ) (mask : List ℕ) → length (trues_in 0 (drop k mask)) ≡ length (trues_in 0 (take n (drop k mask))) + length (trues_in 0 (drop (k + n) mask))
count_split k n mask =
    let part : List ℕ = take n (drop k mask) in let rest : List ℕ = drop (k + n) mask in
    ap (λ ms. length (trues_in 0 ms)) (parts_of k n mask) ∙ ap (λ bs. length (true_numbers 0 bs)) (map-append is_true part rest) ∙ ap length (true_append 0 (map is_true part) (map is_true rest))
    ∙ length-append (trues_in 0 part) (true_numbers (0 + length (map is_true part)) (map is_true rest))
    ∙ ap (λ n. length (trues_in 0 part) + n) (count_any (0 + length (map is_true part)) 0 (map is_true rest))

-- ---- where they lie

pub trues_split : (line : StridedLine) (first : ℕ) (part rest : List ℕ) → trues_on line first (part ++ rest) ≡ trues_on line first part ++ trues_on line (first + length part) rest
trues_split line first part rest =
    let place : ℕ → ℕ = place_on_line line.start line.step in
    ap (λ bs. map place (true_numbers first bs)) (map-append is_true part rest) ∙ ap (map place) (true_append first (map is_true part) (map is_true rest))
    ∙ map-append place (trues_in first part) (true_numbers (first + length (map is_true part)) (map is_true rest))
    ∙ ap (λ n. map place (trues_in first part) ++ map place (true_numbers (first + n) (map is_true rest))) (length-map part is_true)

module _ (place : ℕ → ℕ) where
  -- one byte more, which is true
  true_written : (first : ℕ) (mask out : List ℕ) (k count value : ℕ) (whole : List ℕ) → k < length mask → count < length out → value ≡ place (first + k)
      → is_true (get_or mask k 0) ≡ true → take count out ++ map place (trues_in (first + k) (drop k mask)) ≡ whole
      → take (count + 1) (set out count value) ++ map place (trues_in (first + (k + 1)) (drop (k + 1) mask)) ≡ whole
  true_written first mask out k count value whole lt room is here so_far =
      let rest : List ℕ = map place (trues_in (first + (k + 1)) (drop (k + 1) mask)) in
      ap (λ l. l ++ rest) (take_more_set out count value room) ∙ append_assoc (take count out) (value ∷ []) rest
      ∙ ap (λ v. take count out ++ v ∷ rest) is
      ∙ ap (λ n. take count out ++ place (first + k) ∷ map place (trues_in n (drop (k + 1) mask))) (sym (further first k))
      ∙ ap (λ l. take count out ++ map place l) (sym (next_of first mask k true lt here)) ∙ so_far

  -- one byte more, which is false
  false_written : (first : ℕ) (mask out : List ℕ) (k count value : ℕ) (whole : List ℕ) → k < length mask → is_true (get_or mask k 0) ≡ false
      → take count out ++ map place (trues_in (first + k) (drop k mask)) ≡ whole
      → take count (set out count value) ++ map place (trues_in (first + (k + 1)) (drop (k + 1) mask)) ≡ whole
  false_written first mask out k count value whole lt here so_far =
      ap (λ l. l ++ map place (trues_in (first + (k + 1)) (drop (k + 1) mask))) (take-set out count value)
      ∙ ap (λ n. take count out ++ map place (trues_in n (drop (k + 1) mask))) (sym (further first k))
      ∙ ap (λ l. take count out ++ map place l) (sym (next_of first mask k false lt here)) ∙ so_far

  -- one byte more, true or false
  pub written_next : (first : ℕ) (mask out : List ℕ) (k count more value : ℕ) (whole : List ℕ) → k < length mask → count < length out → value ≡ place (first + k)
      → more ≡ (if is_true (get_or mask k 0) then 1 else 0) → take count out ++ map place (trues_in (first + k) (drop k mask)) ≡ whole
      → take (count + more) (set out count value) ++ map place (trues_in (first + (k + 1)) (drop (k + 1) mask)) ≡ whole
  written_next first mask out k count more value whole lt room at is so_far = by (is_true (get_or mask k 0)) refl is
    where
      by : (b : Bool) → is_true (get_or mask k 0) ≡ b → more ≡ (if b then 1 else 0)
          → take (count + more) (set out count value) ++ map place (trues_in (first + (k + 1)) (drop (k + 1) mask)) ≡ whole
      by true here one =
          ap (λ n. take n (set out count value) ++ map place (trues_in (first + (k + 1)) (drop (k + 1) mask))) (ap (λ n. count + n) one)
          ∙ true_written first mask out k count value whole lt room at here so_far
      by false here none =
          let same : count + more ≡ count = omega (arith, none) in
          ap (λ n. take n (set out count value) ++ map place (trues_in (first + (k + 1)) (drop (k + 1) mask))) same ∙ false_written first mask out k count value whole lt here so_far
