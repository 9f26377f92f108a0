-- Booleans that lie side by side, by their bytes.
use Rattle.std.proofs.Common.{◌≡◌, ℕ, zero, suc, ◌+◌, ◌<◌, ◌≤◌, false, List, [], ◌∷◌, map, length, take, drop, get_or, refl, sym, ap, ◌∙◌, arith}
use Rattle.std.specs.Prelude.{pos, ◌==◌, if◌then◌else◌, not, nat_eq}
use Rattle.std.proofs.lemmas.Bool.Decides.{nat_tests}
use Rattle.nd_model.specs.Indexing.Advanced.{is_nonzero}
use Rattle.nd_model.specs.Arrays.Content.{number_at}
use Rattle.nd_model.specs.Arrays.Element.{Boolean}
use Rattle.nd_model.specs.Making.Elementwise.{little}
use Rattle.nd_element.specs.Elements.{numbers_at}
use Rattle.nd_index.specs.Items.Packed.{IsPacked}
use Rattle.nd_places.specs.Near.{is_true}
use Rattle.nd_places.proofs.Fronts.{drop_one}

truth : (n : ℕ) → is_nonzero (if n == 0 then pos 0 else pos 1) ≡ not (nat_eq n 0)
truth zero = refl
truth (suc n) = let other : (suc n == 0) ≡ false = grind (arith, nat_tests) in rw other refl

first_of : (bytes : List ℕ) (p : ℕ) → get_or (take 1 (drop p bytes)) 0 0 ≡ get_or bytes p 0
first_of [] zero = refl
first_of [] (suc p) = refl
first_of (b ∷ bytes) zero = refl
first_of (b ∷ bytes) (suc p) = first_of bytes p

true_at : (bytes : List ℕ) (p : ℕ) → is_nonzero (number_at (little Boolean) bytes p) ≡ is_true (get_or bytes p 0)
true_at bytes p = truth (get_or (take 1 (drop p bytes)) 0 0) ∙ ap is_true (first_of bytes p)

trues_from : (bytes run : List ℕ) (p : ℕ) → ((k : ℕ) → k < length run → get_or run k 0 ≡ p + k) → p + length run ≤ length bytes
    → map is_nonzero (numbers_at (little Boolean) bytes run) ≡ map is_true (take (length run) (drop p bytes))
trues_from bytes [] p each le = refl
trues_from bytes (q ∷ run) p each le =
    let here : q ≡ p + 0 = each 0 (omega arith) in
    let first : q ≡ p = omega (arith, here) in
    let rest = trues_from bytes run (p + 1) (λ k lt. each (suc k) (omega (arith, lt)) ∙ omega arith) (omega (arith, le)) in
    (λ i. (ap (λ r. is_nonzero (number_at (little Boolean) bytes r)) first ∙ true_at bytes p) i ∷ rest i)
    ∙ ap (λ bs. map is_true (take (suc (length run)) bs)) (sym (drop_one bytes p 0 (omega (arith, le))))

-- they are true where their bytes are
pub packed_trues : (bytes run : List ℕ) → 0 < length run → IsPacked 1 (length bytes) run → map is_nonzero (numbers_at (little Boolean) bytes run) ≡ map is_true (take (length run) (drop (get_or run 0 0) bytes))
packed_trues bytes run some packed =
    trues_from bytes run (get_or run 0 0) (λ k lt. let at = packed.places k lt in omega (arith, at)) (packed_end run some packed)
  where
    packed_end : (run : List ℕ) → 0 < length run → IsPacked 1 (length bytes) run → get_or run 0 0 + length run ≤ length bytes
    packed_end [] some packed = absurd (omega (arith, some))
    packed_end (q ∷ run) some packed = let last = packed.inside (length run) (omega arith) in omega (arith, last)
