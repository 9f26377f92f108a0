-- Loops over the runs of a view, which make a list of what each place gives.
use Rattle.std.proofs.Common.{◌≡◌, ℕ, ◌+◌, ◌-◌, ◌<◌, ◌≤◌, List, [], ◌∷◌, ◌++◌, length, get_or, drop, refl, sym, ap, subst, ◌∙◌, arith, add-one, drop-cons, append_assoc, length-append}
use Rattle.std.specs.List.{All}
use Rattle.std.proofs.lemmas.List.{drop_all, get_or_append_left, get_or-append_right}

-- F gives a list for each list of places, part by part
module _ {X : Type 0} (F : List ℕ → List X) (none : F [] ≡ []) (parts : (xs ys : List ℕ) → F (xs ++ ys) ≡ F xs ++ F ys) (whole : List X) where
  -- the next run is at hand
  pub begun : (done : List X) (runs run rest : List ℕ) → runs ≡ run ++ rest → done ++ F runs ≡ whole → done ++ (F run ++ F rest) ≡ whole
  begun done runs run rest e all = ap (λ l. done ++ l) (sym (parts run rest)) ∙ ap (λ l. done ++ F l) (sym e) ∙ all

  -- a place of it has been taken
  pub taken : (done more tail : List X) (run : List ℕ) (k : ℕ) → k < length run → more ≡ done ++ F (get_or run k 0 ∷ []) → done ++ (F (drop k run) ++ tail) ≡ whole
      → more ++ (F (drop (k + 1) run) ++ tail) ≡ whole
  taken done more tail run k lt e all =
      let here : drop k run ≡ get_or run k 0 ∷ drop (k + 1) run = rw add-one (drop-cons run k 0 lt) in
      let one : List X = F (get_or run k 0 ∷ []) in
      ap (λ l. l ++ (F (drop (k + 1) run) ++ tail)) e
      ∙ append_assoc done one (F (drop (k + 1) run) ++ tail)
      ∙ ap (λ l. done ++ l) (sym (append_assoc one (F (drop (k + 1) run)) tail))
      ∙ ap (λ l. done ++ (l ++ tail)) (sym (ap F here ∙ parts (get_or run k 0 ∷ []) (drop (k + 1) run))) ∙ all

  -- no place of it is left
  pub ended : (done tail : List X) (run : List ℕ) (k : ℕ) → length run ≤ k → done ++ (F (drop k run) ++ tail) ≡ whole → done ++ tail ≡ whole
  ended done tail run k le all = ap (λ l. done ++ (l ++ tail)) (sym (ap F (drop_all k run le) ∙ none)) ∙ all

module _ {X : Type 0} (P : X → Type 0) where
  -- what is so of all places is so of those of a run, and of those behind it
  pub in_run : (run rest runs : List X) → runs ≡ run ++ rest → All P runs → All P run
  in_run run rest runs e all = λ k d lt.
      subst P (get_or_append_left run rest d k lt) (subst (All P) e all k d (simp length-append (omega arith)))

  pub behind_run : (run rest runs : List X) → runs ≡ run ++ rest → All P runs → All P rest
  behind_run run rest runs e all = λ k d lt.
      let back : (length run + k) - length run ≡ k = omega arith in
      subst P (get_or-append_right run rest (length run) (length run + k) d refl (omega arith) ∙ ap (λ m. get_or rest m d) back)
      (subst (All P) e all (length run + k) d (simp length-append (omega arith)))
