-- Elements that keep off what is written: they are read as they stood there.
use Rattle.std.proofs.Common.{◌≡◌, ℕ, ℤ, pos, zero, suc, ◌+◌, ◌-◌, ◌*◌, ◌<◌, ◌≤◌, ◌+ℤ◌, neg_ℤ, negsuc, List, [], ◌∷◌, ◌++◌, map, length, take, drop, get_or, refl, sym, ap, ap₂, ◌∙◌, subst, inl, inr, arith, ◌⊎◌}
use Rattle.std.specs.List.{All}
use Rattle.std.proofs.lemmas.Bool.{cases_lt}
use Rattle.std.proofs.lemmas.Int.{ints}
use Rattle.std.proofs.lemmas.List.{drop-drop, drop-take, drop_all, take-append-drop, length-take-le}
use Rattle.std.proofs.Math.Nat.{mul-le-mul_right}
use Rattle.nd_model.specs.Arrays.Content.{number_at}
use Rattle.nd_model.specs.Arrays.Element.{Element, size_of, value_of, bytes_at}
use Rattle.nd_model.specs.Arrays.Runs.{place_at}
use Rattle.nd_model.specs.Arrays.Tuple.{count_up}
use Rattle.nd_view.specs.SideBySide.{side_by_side}
use Rattle.nd_ufunc.specs.Elementwise.KeptOff.{KeepsOff}
use Rattle.nd_ufunc.specs.Elementwise.Beside.{StaysBeside, left_beside}
use Rattle.nd_ufunc.specs.declared.elementwise.beside.LeftBeside.{LeftBeside}
use Rattle.nd_ufunc.specs.declared.elementwise.beside.LeftBeside.TheVariants as left

-- ---- parts of a list of places

module _ (size first step : ℕ) where
  pub keeps_append : (at : ℕ) (ps qs : List ℕ) → KeepsOff size first step at ps → KeepsOff size first step (at + length ps) qs → KeepsOff size first step at (ps ++ qs)
  keeps_append at [] qs a b = let same : at + 0 ≡ at = omega arith in subst (λ n. KeepsOff size first step n qs) same b
  keeps_append at (p ∷ ps) qs a b =
      let same : at + suc (length ps) ≡ at + 1 + length ps = omega arith in
      (a.0, keeps_append (at + 1) ps qs a.1 (subst (λ n. KeepsOff size first step n qs) same b))

  pub keeps_further : (at : ℕ) (ps qs : List ℕ) → KeepsOff size first step at (ps ++ qs) → KeepsOff size first step (at + length ps) qs
  keeps_further at [] qs a = let same : at ≡ at + 0 = omega arith in subst (λ n. KeepsOff size first step n qs) same a
  keeps_further at (p ∷ ps) qs a =
      let same : at + 1 + length ps ≡ at + suc (length ps) = omega arith in
      subst (λ n. KeepsOff size first step n qs) same (keeps_further (at + 1) ps qs a.1)

  pub keeps_each : (at : ℕ) (qs : List ℕ) → ((k : ℕ) → k < length qs → first < get_or qs k 0 + size → first + (at + k) * step ≤ get_or qs k 0) → KeepsOff size first step at qs
  keeps_each at [] each = tt
  keeps_each at (q ∷ qs) each =
      let here : at + 0 ≡ at = omega arith in (
        λ lt. subst (λ n. first + n * step ≤ q) here (each 0 (omega arith) lt),
        keeps_each (at + 1) qs (λ k less lt. let same : at + suc k ≡ at + 1 + k = omega arith in subst (λ n. first + n * step ≤ get_or qs k 0) same (each (suc k) (omega arith) lt)),
      )

  pub keeps_front : (at : ℕ) (ps qs : List ℕ) → KeepsOff size first step at (ps ++ qs) → KeepsOff size first step at ps
  keeps_front at [] qs a = tt
  keeps_front at (p ∷ ps) qs a = (a.0, keeps_front (at + 1) ps qs a.1)

  pub keeps_at : (at : ℕ) (qs : List ℕ) → KeepsOff size first step at qs → (k : ℕ) → k < length qs → first < get_or qs k 0 + size → first + (at + k) * step ≤ get_or qs k 0
  keeps_at at [] a k lt over = absurd (omega arith)
  keeps_at at (q ∷ qs) a zero lt over = let here : at + 0 ≡ at = omega arith in subst (λ n. first + n * step ≤ q) (sym here) (a.0 over)
  keeps_at at (q ∷ qs) a (suc k) lt over =
      let same : at + 1 + k ≡ at + suc k = omega arith in subst (λ n. first + n * step ≤ get_or qs k 0) same (keeps_at (at + 1) qs a.1 k (omega arith) over)

  -- elements that lie outside the target keep off it
  pub keeps_outside : (at : ℕ) (qs : List ℕ) → All (λ q. (q + size ≤ first) ⊎ (first + (at + length qs) * step ≤ q)) qs → KeepsOff size first step at qs
  keeps_outside at qs outside = keeps_each at qs (λ k lt over. elim (outside k 0 lt) [
    | inl before ↦ absurd (omega (arith, before, over))
    | inr behind ↦ let far : (at + k) * step ≤ (at + length qs) * step = mul-le-mul_right step (omega (arith, lt)) in omega (arith, far, behind)
  ])

-- ---- what is read

bytes_in_front : (xs : List ℕ) (m q n : ℕ) → q + n ≤ m → bytes_at (take m xs) q n ≡ bytes_at xs q n
bytes_in_front xs m q n le =
    let split : m ≡ q + (m - q) = omega arith in
    ap (λ k. take n (drop q (take k xs))) split ∙ ap (take n) (drop-take q (m - q) xs) ∙ front n (m - q) (drop q xs) (omega arith)
  where
    front : (n m : ℕ) (xs : List ℕ) → n ≤ m → take n (take m xs) ≡ take n xs
    front zero m xs le = refl
    front (suc n) zero xs le = absurd (omega arith)
    front (suc n) (suc m) [] le = refl
    front (suc n) (suc m) (x ∷ xs) le = ap (λ l. x ∷ l) (front n m xs (omega arith))

bytes_from : (xs : List ℕ) (m q n : ℕ) → m ≤ q → bytes_at (drop m xs) (q - m) n ≡ bytes_at xs q n
bytes_from xs m q n le =
    let split : m + (q - m) ≡ q = omega arith in
    ap (take n) (drop-drop (q - m) m xs ∙ ap (λ k. drop k xs) split)

module _ (e : Element) (old new : List ℕ) (first step at : ℕ) (before : take first new ≡ take first old) (behind : drop (first + at * step) new ≡ drop (first + at * step) old) where
  same_number : (j q : ℕ) → at ≤ j → (first < q + size_of e.kind → first + j * step ≤ q) → number_at e new q ≡ number_at e old q
  same_number j q le off = elim (cases_lt first (q + size_of e.kind)) [
    | inl over ↦
        let far : at * step ≤ j * step = mul-le-mul_right step le in
        let there : first + at * step ≤ q = omega (arith, far, off over) in
        ap (value_of e) (sym (bytes_from new (first + at * step) q (size_of e.kind) there) ∙ ap (λ l. bytes_at l (q - (first + at * step)) (size_of e.kind)) behind
        ∙ bytes_from old (first + at * step) q (size_of e.kind) there)
    | inr under ↦
        ap (value_of e) (sym (bytes_in_front new first q (size_of e.kind) under) ∙ ap (λ l. bytes_at l q (size_of e.kind)) before
        ∙ bytes_in_front old first q (size_of e.kind) under)
  ]

  pub same_numbers : (j : ℕ) (qs : List ℕ) → at ≤ j → KeepsOff (size_of e.kind) first step j qs → map (number_at e new) qs ≡ map (number_at e old) qs
  same_numbers j [] le off = refl
  same_numbers j (q ∷ qs) le off = ap₂ (λ a b. a ∷ b) (same_number j q le off.0) (same_numbers (j + 1) qs (omega arith) off.1)

-- ---- runs

between : (first : ℕ) (step : ℤ) (k j p q : ℕ) → k ≤ j → place_at first step k ≡ pos p → place_at first step j ≡ pos q
    → ((low : ℕ) → low ≤ first → low ≤ q → low ≤ p) × ((high : ℕ) → first ≤ high → q ≤ high → p ≤ high)
between first (pos s) k j p q le here last =
    let at : first + k * s ≡ p = omega (arith, ints, here) in let end : first + j * s ≡ q = omega (arith, ints, last) in
    let far : k * s ≤ j * s = mul-le-mul_right s le in
    ((λ low l m. omega (arith, at, l)), (λ high l m. omega (arith, at, end, far, m)))
between first (negsuc s) k j p q le here last =
    let far : k * suc s ≤ j * suc s = mul-le-mul_right (suc s) le in
    let at : p + k * suc s ≡ first = back first (k * suc s) p here in let end : q + j * suc s ≡ first = back first (j * suc s) q last in
    ((λ low l m. omega (arith, at, end, far, m)), (λ high l m. omega (arith, at, l)))
  where
    back : (x m y : ℕ) → pos x +ℤ neg_ℤ (pos m) ≡ pos y → y + m ≡ x
    back x m y e = omega (arith, ints, e)

module _ (size first step at : ℕ) (ps : List ℕ) (own : ℤ) (places : (k : ℕ) → k < length ps → place_at (get_or ps 0 0) own k ≡ pos (get_or ps k 0)) where
  -- all end before the target
  pub keeps_before : get_or ps 0 0 + size ≤ first → get_or ps (length ps - 1) 0 + size ≤ first → KeepsOff size first step at ps
  keeps_before low high = keeps_each size first step at ps (λ k lt over.
      let le : k ≤ length ps - 1 = omega (arith, lt) in
      let b = between (get_or ps 0 0) own k (length ps - 1) (get_or ps k 0) (get_or ps (length ps - 1) 0) le (places k lt) (places (length ps - 1) (omega (arith, lt))) in
      let most : get_or ps k 0 ≤ first - size = b.1 (first - size) (omega (arith, low)) (omega (arith, high)) in
      absurd (omega (arith, most, over, low)))

  -- none begins before the last element that one of them stands beside
  pub keeps_behind : first + (at + length ps) * step ≤ get_or ps 0 0 → first + (at + length ps) * step ≤ get_or ps (length ps - 1) 0 → KeepsOff size first step at ps
  keeps_behind low high = keeps_each size first step at ps (λ k lt over.
      let le : k ≤ length ps - 1 = omega (arith, lt) in
      let b = between (get_or ps 0 0) own k (length ps - 1) (get_or ps k 0) (get_or ps (length ps - 1) 0) le (places k lt) (places (length ps - 1) (omega (arith, lt))) in
      let least : first + (at + length ps) * step ≤ get_or ps k 0 = b.0 (first + (at + length ps) * step) low high in
      let far : (at + k) * step ≤ (at + length ps) * step = mul-le-mul_right step (omega (arith, lt)) in
      omega (arith, least, far))

  -- they go along with the target
  pub keeps_along : own ≡ pos step → first + at * step ≤ get_or ps 0 0 → KeepsOff size first step at ps
  keeps_along same low = keeps_each size first step at ps (λ k lt over.
      let here : get_or ps 0 0 + k * step ≡ get_or ps k 0 = goes (get_or ps 0 0) k (get_or ps k 0) (ap (λ s. place_at (get_or ps 0 0) s k) (sym same) ∙ places k lt) in
      let far : (at + k) * step ≡ at * step + k * step = omega arith in
      omega (arith, here, low, far))
    where
      goes : (start k p : ℕ) → place_at start (pos step) k ≡ pos p → start + k * step ≡ p
      goes start k p e = omega (arith, ints, e)

-- ---- a target, and what stands beside it

-- elements that lie side by side keep off themselves
keeps_itself : (size first at n : ℕ) → KeepsOff size first size at (map (λ k. first + k * size) (count_up at n))
keeps_itself size first at zero = tt
keeps_itself size first at (suc n) = ((λ lt. omega arith), keeps_itself size first (at + 1) n)

pub same_target : (e : Element) (old new run : List ℕ) (first at : ℕ) → run ≡ side_by_side (size_of e.kind) first (length run) → take first new ≡ take first old
    → drop (first + at * size_of e.kind) new ≡ drop (first + at * size_of e.kind) old → map (number_at e new) (drop at run) ≡ map (number_at e old) (drop at run)
same_target e old new run first at gapless before behind =
    let size = size_of e.kind in
    let whole : KeepsOff size first size 0 (take at run ++ drop at run)
    = subst (KeepsOff size first size 0) (sym gapless ∙ sym (take-append-drop at run)) (keeps_itself size first 0 (length run)) in
    elim (cases_lt at (length run)) [
      | inl lt ↦
          let front : length (take at run) ≡ at = length-take-le at run (omega (arith, lt)) in
          same_numbers e old new first size at before behind at (drop at run) (omega arith)
          (subst (λ n. KeepsOff size first size n (drop at run)) (let same : 0 + length (take at run) ≡ at = omega (arith, front) in same) (keeps_further size first size 0 (take at run) (drop at run) whole))
      | inr le ↦ (λ i. map (number_at e new) (drop_all at run le i)) ∙ sym (λ i. map (number_at e old) (drop_all at run le i))
    ]

pub same_beside : (w : LeftBeside) (old new : List ℕ) (first step at : ℕ) → take first new ≡ take first old → drop (first + at * step) new ≡ drop (first + at * step) old
    → StaysBeside w first step at → left_beside w new ≡ left_beside w old
same_beside (left.Fixed f) old new first step at before behind stays = refl
same_beside (left.FixedSpread o) old new first step at before behind stays = refl
same_beside (left.Own o) old new first step at before behind stays = same_numbers o.elem old new first step at before behind at o.walk (omega arith) stays
same_beside (left.OwnSpread o) old new first step at before behind stays = same_numbers o.elem old new first step at before behind at o.walk (omega arith) stays
