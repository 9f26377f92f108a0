-- The best numbers of blocks, and where they stand.
use Rattle.std.proofs.Common.{◌≡◌, ℕ, suc, ◌+◌, ◌*◌, ◌<◌, Bool, true, false, List, [], ◌∷◌, ◌++◌, map, length, take, drop, get_or, refl, sym, ap, ◌∙◌, ◌⊎◌, inl, inr, arith}
use Rattle.std.specs.Prelude.{ℤ}
use Rattle.std.specs.List.{list_any, position_or_len}
use Rattle.std.specs.Ordering.{int_eq}
use Rattle.std.proofs.lemmas.Bool.{cases_Bool}
use Rattle.std.proofs.lemmas.Bool.Decides.{Decides-int_eq}
use Rattle.std.proofs.lemmas.List.{drop-drop, get_or-map, length-map, map-append}
use Rattle.std.proofs.lemmas.List.Folds.{list_any-append}
use Rattle.std.proofs.lemmas.List.Sums.{position_or_len_is}
use Rattle.nd_model.specs.Arrays.Content.{number_at}
use Rattle.nd_model.specs.Arrays.Element.{Kind, size_of, value_of}
use Rattle.nd_model.specs.Arrays.Tuple.{count_up}
use Rattle.nd_model.specs.Making.Elementwise.{little}
use Rattle.nd_model.specs.Making.Reductions.{best, best_place}
use Rattle.nd_view.proofs.Tuples.{count_up-append, get_or-count_up, length-count_up, map-map, map_same, shifted}
use Rattle.nd_reduce.specs.Folds.Blocks.{IsFirstBlock, block_in, first_index}
use Rattle.nd_reduce.specs.Folds.Lanes.{numbers_in}
use Rattle.nd_reduce.specs.Folds.States.{has_any}
use Rattle.nd_reduce.proofs.folds.Folded.{beats, best_behind, best_taken, stays_first}
use Rattle.nd_reduce.proofs.folds.Joined.{any_better, best_before, best_joined, place_before}
use Rattle.nd_reduce.proofs.folds.Taken.{has_numbers}

-- ---- numbers side by side

number_behind : (k : Kind) (bytes : List ℕ) (from j : ℕ) → number_at (little k) bytes ((from + j) * size_of k) ≡ number_at (little k) (drop (from * size_of k) bytes) (j * size_of k)
number_behind k bytes from j =
    let s = size_of k in let place : (from + j) * s ≡ from * s + j * s = omega arith in
    ap (number_at (little k) bytes) place ∙ ap (λ l. value_of (little k) (take s l)) (sym (drop-drop (j * s) (from * s) bytes))

pub length-numbers_in : (k : Kind) (bytes : List ℕ) (n : ℕ) → length (numbers_in k bytes n) ≡ n
length-numbers_in k bytes n = length-map (count_up 0 n) (λ j. number_at (little k) bytes (j * size_of k)) ∙ length-count_up 0 n

-- the first numbers, and those of the block behind them
pub numbers_more : (k : Kind) (bytes : List ℕ) (done n : ℕ) → numbers_in k bytes (done + n) ≡ numbers_in k bytes done ++ block_in k bytes done n
numbers_more k bytes done n =
    let f : ℕ → ℤ = λ j. number_at (little k) bytes (j * size_of k) in
    let g : ℕ → ℤ = λ j. number_at (little k) (drop (done * size_of k) bytes) (j * size_of k) in
    let behind : map f (count_up done n) ≡ map g (count_up 0 n)
    = ap (map f) (ap (λ m. count_up m n) (omega arith) ∙ sym (shifted done 0 n)) ∙ map-map f (λ j. done + j) (count_up 0 n) ∙ map_same (λ j. f (done + j)) g (number_behind k bytes done) (count_up 0 n) in
    ap (map f) (count_up-append 0 done n) ∙ map-append f (count_up 0 done) (count_up (0 + done) n)
    ∙ ap (λ m. map f (count_up 0 done) ++ map f (count_up m n)) (omega arith) ∙ ap (λ l. map f (count_up 0 done) ++ l) behind

-- ---- the first index of a number

module _ (f : ℕ → ℤ) (n : ℕ) (b : ℤ) where
  at_index : (k : ℕ) (d : ℤ) → k < n → get_or (map f (count_up 0 n)) k d ≡ f k
  at_index k d lt = get_or-map f (count_up 0 n) k 0 d (omega (arith, length-count_up 0 n)) ∙ ap f (get_or-count_up 0 n k 0 lt ∙ omega arith)

  long : length (map f (count_up 0 n)) ≡ n
  long = length-map (count_up 0 n) f ∙ length-count_up 0 n

  pub index_found : (i : ℕ) → i < n → ((k : ℕ) → k < i → int_eq (f k) b ≡ false) → f i ≡ b → i ≡ first_index b (map f (count_up 0 n))
  unfolding first_index
  index_found i lt before here =
      sym (position_or_len_is (λ z. int_eq z b) (map f (count_up 0 n)) i b (omega (arith, long))
      (λ k less. ap (λ z. int_eq z b) (at_index k b (omega arith)) ∙ before k less) (λ _. ap (λ z. int_eq z b) (at_index i b lt) ∙ (Decides-int_eq (f i) b).1 here))

  pub index_none : ((k : ℕ) → k < n → int_eq (f k) b ≡ false) → n ≡ first_index b (map f (count_up 0 n))
  unfolding first_index
  index_none none =
      sym (position_or_len_is (λ z. int_eq z b) (map f (count_up 0 n)) n b (omega (arith, long))
      (λ k less. ap (λ z. int_eq z b) (at_index k b less) ∙ none k less) (λ less. absurd (omega (arith, long))))

-- ---- the best of two lists is in the second one

module _ (better : ℤ → ℤ → Bool) (between : (a b c : ℤ) → better a c ≡ true → better b c ≡ false → better a b ≡ true) (apart : (a b : ℤ) → better a b ≡ true → better b a ≡ false) where
  pub best_ahead : (zs xs : List ℤ) → has_any xs ≡ true → (has_any zs ≡ false) ⊎ (better (best better xs) (best better zs) ≡ true) → best better (zs ++ xs) ≡ best better xs
  best_ahead zs xs some is = sym (best_joined better between apart zs xs some) ∙ best_taken better zs (best better xs) is

  pub place_ahead : (zs xs : List ℤ) → has_any xs ≡ true → (has_any zs ≡ false) ⊎ (better (best better xs) (best better zs) ≡ true) → best_place better (zs ++ xs) ≡ length zs + best_place better xs
  place_ahead [] xs some is = omega arith
  place_ahead (z ∷ zs) xs some (inl none) = absurd (cc)
  place_ahead (z ∷ zs) xs some (inr is) = elim (cases_Bool (list_any (λ y. better y z) zs)) [
    | inl front ↦
        let all : list_any (λ y. better y z) (zs ++ xs) ≡ true = list_any-append (λ y. better y z) zs xs ∙ rw front refl in
        let own : better (best better xs) (best better zs) ≡ true = ap (better (best better xs)) (sym (best_behind better between z zs front)) ∙ is in
        rw all (omega (arith, place_ahead zs xs some (inr own)))
    | inr none ↦
        let own : better (best better xs) z ≡ true = ap (better (best better xs)) (sym (stays_first better z zs none)) ∙ is in
        let behind : list_any (λ y. better y z) xs ≡ true = any_better better between apart z xs some ∙ own in
        let all : list_any (λ y. better y z) (zs ++ xs) ≡ true = list_any-append (λ y. better y z) zs xs ∙ rw (none, behind) refl in
        rw all (omega (arith, place_ahead zs xs some (beats better between (best better xs) z zs none own)))
  ]

  -- the place of the best number is the first one with a number that is equal
  other_than : (z b : ℤ) → better b z ≡ true → int_eq z b ≡ false
  other_than z b is = elim (cases_Bool (int_eq z b)) [
    | inl same ↦
        let e : z ≡ b = (Decides-int_eq z b).0 same in let worse : better z b ≡ false = apart b z is in
        let own : better b b ≡ true = ap (better b) (sym e) ∙ is in let not_own : better b b ≡ false = ap (λ x. better x b) (sym e) ∙ worse in absurd (cc)
    | inr other ↦ other
  ]

  pub place_found : (zs : List ℤ) → has_any zs ≡ true → best_place better zs ≡ first_index (best better zs) zs
  unfolding first_index
  place_found [] some = absurd (cc)
  place_found (z ∷ zs) some = elim (cases_Bool (list_any (λ y. better y z) zs)) [
    | inl is ↦
        let any : has_any zs ≡ true = any_of zs is in
        let b : best better (z ∷ zs) ≡ best better zs = best_behind better between z zs is in
        let own : better (best better zs) z ≡ true = sym (any_better better between apart z zs any) ∙ is in
        let other : int_eq z (best better zs) ≡ false = other_than z (best better zs) own in
        let rest : position_or_len (λ y. int_eq y (best better zs)) (z ∷ zs) ≡ suc (position_or_len (λ y. int_eq y (best better zs)) zs) = rw other (omega arith) in
        rw is (ap suc (place_found zs any) ∙ sym rest ∙ ap (λ x. position_or_len (λ y. int_eq y x) (z ∷ zs)) (sym b))
    | inr none ↦
        let b : best better (z ∷ zs) ≡ z = stays_first better z zs none in
        let same : int_eq z z ≡ true = (Decides-int_eq z z).1 refl in
        let here : position_or_len (λ y. int_eq y z) (z ∷ zs) ≡ 0 = rw same refl in
        rw none (sym here ∙ ap (λ x. position_or_len (λ y. int_eq y x) (z ∷ zs)) (sym b))
  ]
    where
      any_of : (zs : List ℤ) → list_any (λ y. better y z) zs ≡ true → has_any zs ≡ true
      any_of [] is = absurd (cc)
      any_of (y ∷ ys) is = refl

  -- ---- one block more

  module _ (k : Kind) (bytes : List ℕ) where
    pub first_block : (n : ℕ) (z : ℤ) → 0 < n → z ≡ best better (numbers_in k bytes n) → IsFirstBlock better k bytes n 0 n z
    first_block n z some is =
        let front : 0 ≡ 0 * size_of k = omega arith in
        let same : numbers_in k bytes n ≡ block_in k bytes 0 n = ap (λ m. numbers_in k (drop m bytes) n) front in record {
          some = some;
          inside = omega arith;
          whole = is;
          own = is ∙ ap (best better) same;
          at = ap (best_place better) same ∙ omega arith;
        }

    module _ (n m from size : ℕ) (z x : ℤ) (found : IsFirstBlock better k bytes n from size z) (some : 0 < m) (is : x ≡ best better (block_in k bytes n m)) where
      here : has_any (numbers_in k bytes n) ≡ true
      here = has_numbers (λ j. number_at (little k) bytes (j * size_of k)) n (omega (arith, found.some, found.inside))

      next : has_any (block_in k bytes n m) ≡ true
      next = has_numbers (λ j. number_at (little k) (drop (n * size_of k) bytes) (j * size_of k)) m some

      pub block_stays : better x z ≡ false → IsFirstBlock better k bytes (n + m) from size z
      block_stays worse =
          let other : better (best better (block_in k bytes n m)) (best better (numbers_in k bytes n)) ≡ false = (λ i. better (sym is i) (sym found.whole i)) ∙ worse in record {
            some = found.some;
            inside = omega (arith, found.inside);
            whole = found.whole ∙ sym (ap (best better) (numbers_more k bytes n m) ∙ best_before better between apart (numbers_in k bytes n) (block_in k bytes n m) here other);
            own = found.own;
            at = ap (best_place better) (numbers_more k bytes n m) ∙ place_before better between apart (numbers_in k bytes n) (block_in k bytes n m) here other ∙ found.at;
          }

      pub block_changes : better x z ≡ true → IsFirstBlock better k bytes (n + m) n m x
      block_changes better_one =
          let other : better (best better (block_in k bytes n m)) (best better (numbers_in k bytes n)) ≡ true = (λ i. better (sym is i) (sym found.whole i)) ∙ better_one in record {
            some = some;
            inside = omega arith;
            whole = is ∙ sym (ap (best better) (numbers_more k bytes n m) ∙ best_ahead (numbers_in k bytes n) (block_in k bytes n m) next (inr other));
            own = is;
            at = ap (best_place better) (numbers_more k bytes n m) ∙ place_ahead (numbers_in k bytes n) (block_in k bytes n m) next (inr other)
                ∙ ap (λ l. l + best_place better (block_in k bytes n m)) (length-numbers_in k bytes n);
          }
