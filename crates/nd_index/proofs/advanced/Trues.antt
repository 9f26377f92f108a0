-- The numbers of the true elements of a run, found one after another.
use Rattle.std.proofs.Common.{◌≡◌, ℕ, ◌+◌, ◌<◌, ◌≤◌, Bool, true, false, List, [], ◌∷◌, ◌++◌, map, length, take, drop, get_or, set, refl, sym, ap, ◌∙◌, arith, append_assoc}
use Rattle.std.specs.Prelude.{if◌then◌else◌}
use Rattle.std.proofs.lemmas.List.{take-set, take_more_set}
use Rattle.nd_model.specs.Indexing.Advanced.{is_nonzero, true_numbers}
use Rattle.nd_model.specs.Arrays.Content.{number_at}
use Rattle.nd_model.specs.Arrays.Element.{Element}
use Rattle.nd_element.specs.Elements.{numbers_at}
use Rattle.nd_places.proofs.Fronts.{drop_one}

pub one_at_most : (b : Bool) (n : ℕ) → n ≡ (if b then 1 else 0) → n ≤ 1
one_at_most true n e = omega (arith, e)
one_at_most false n e = omega (arith, e)

module _ (e : Element) (bytes : List ℕ) where
  abbrev pub trues_of : ℕ → List ℕ → List ℕ
  trues_of first run = true_numbers first (map is_nonzero (numbers_at e bytes run))

  next_of : (first : ℕ) (run : List ℕ) (k : ℕ) (b : Bool) → k < length run → is_nonzero (number_at e bytes (get_or run k 0)) ≡ b
      → trues_of (first + k) (drop k run) ≡ true_numbers (first + k) (b ∷ map is_nonzero (numbers_at e bytes (drop (k + 1) run)))
  next_of first run k b lt is =
      ap (trues_of (first + k)) (drop_one run k 0 lt) ∙ ap (λ c. true_numbers (first + k) (c ∷ map is_nonzero (numbers_at e bytes (drop (k + 1) run)))) is

  further : (first k : ℕ) → first + k + 1 ≡ first + (k + 1)
  further first k = omega arith

  -- one element more, which is true
  pub true_written : (first : ℕ) (run numbers : List ℕ) (k count : ℕ) (whole : List ℕ) → k < length run → count < length numbers → is_nonzero (number_at e bytes (get_or run k 0)) ≡ true
      → take count numbers ++ trues_of (first + k) (drop k run) ≡ whole
      → take (count + 1) (set numbers count (first + k)) ++ trues_of (first + (k + 1)) (drop (k + 1) run) ≡ whole
  true_written first run numbers k count whole lt room here so_far =
      let rest : List ℕ = trues_of (first + (k + 1)) (drop (k + 1) run) in
      ap (λ l. l ++ rest) (take_more_set numbers count (first + k) room) ∙ append_assoc (take count numbers) ((first + k) ∷ []) rest
      ∙ ap (λ n. take count numbers ++ (first + k) ∷ trues_of n (drop (k + 1) run)) (sym (further first k))
      ∙ ap (λ l. take count numbers ++ l) (sym (next_of first run k true lt here)) ∙ so_far

  -- and one that is not
  pub false_written : (first : ℕ) (run numbers : List ℕ) (k count : ℕ) (whole : List ℕ) → k < length run → is_nonzero (number_at e bytes (get_or run k 0)) ≡ false
      → take count numbers ++ trues_of (first + k) (drop k run) ≡ whole
      → take count (set numbers count (first + k)) ++ trues_of (first + (k + 1)) (drop (k + 1) run) ≡ whole
  false_written first run numbers k count whole lt here so_far =
      ap (λ l. l ++ trues_of (first + (k + 1)) (drop (k + 1) run)) (take-set numbers count (first + k))
      ∙ ap (λ n. take count numbers ++ trues_of n (drop (k + 1) run)) (sym (further first k)) ∙ ap (λ l. take count numbers ++ l) (sym (next_of first run k false lt here)) ∙ so_far

  -- and any one
  pub written_next : (first : ℕ) (run numbers : List ℕ) (k count more : ℕ) (whole : List ℕ) → k < length run → count < length numbers
      → more ≡ (if is_nonzero (number_at e bytes (get_or run k 0)) then 1 else 0) → take count numbers ++ trues_of (first + k) (drop k run) ≡ whole
      → take (count + more) (set numbers count (first + k)) ++ trues_of (first + (k + 1)) (drop (k + 1) run) ≡ whole
  written_next first run numbers k count more whole lt room is so_far = by (is_nonzero (number_at e bytes (get_or run k 0))) refl is
    where
      by : (b : Bool) → is_nonzero (number_at e bytes (get_or run k 0)) ≡ b → more ≡ (if b then 1 else 0)
          → take (count + more) (set numbers count (first + k)) ++ trues_of (first + (k + 1)) (drop (k + 1) run) ≡ whole
      by true here one =
          ap (λ n. take n (set numbers count (first + k)) ++ trues_of (first + (k + 1)) (drop (k + 1) run)) (ap (λ n. count + n) one) ∙ true_written first run numbers k count whole lt room here so_far
      by false here none =
          let same : count + more ≡ count = omega (arith, none) in
          ap (λ n. take n (set numbers count (first + k)) ++ trues_of (first + (k + 1)) (drop (k + 1) run)) same ∙ false_written first run numbers k count whole lt here so_far
