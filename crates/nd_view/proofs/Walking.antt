-- One run further on a walk over a view.
use Rattle.std.proofs.Common.{◌≡◌, ℕ, zero, suc, ◌+◌, ◌*◌, ◌<◌, ◌≤◌, ◌^◌, List, [], ◌∷◌, ◌++◌, length, take, drop, get_or, refl, sym, ap, subst, ◌∙◌, inl, inr, arith, length-take, length-drop}
use Rattle.std.specs.Prelude.{pos, ◌≤ℤ◌}
use Rattle.std.proofs.Math.Nat.{mul-le-mul_right}
use Rattle.std.proofs.lemmas.Bool.{cases_lt}
use Rattle.std.proofs.lemmas.List.{drop-drop}
use Rattle.nd_model.specs.Arrays.Runs.{place_at, spot_at, run_places, in_pieces}
use Rattle.nd_model.specs.Arrays.Tuple.{elements_of, number}
use Rattle.nd_model.proofs.Pieces.{first_piece}
use Rattle.nd_view.specs.Indexes.{IsIndex}
use Rattle.nd_view.specs.Walks.{AreSteps, IsWalk}
use Rattle.nd_view.specs.declared.runs.Runs.TheInside.{Inside}
use Rattle.nd_view.proofs.Evened.{run_is, run_spots}
use Rattle.nd_view.proofs.Split.{elements, behind, number_outer, parts_inside}
use Rattle.nd_view.proofs.Steps.{length-index}

-- less by the same factor
less : (a b n : ℕ) → a * n + n < b * n → a + 1 < b
less a b n lt = elim (cases_lt (a + 1) b) [
  | inl below ↦ below
  | inr above ↦ let more : b * n ≤ (a + 1) * n = mul-le-mul_right n above in absurd (omega (arith, more))
]

pub front_of : (u rest : List ℕ) (m : ℕ) → length u ≡ m → take m (u ++ rest) ≡ u
front_of [] rest zero e = refl
front_of [] rest (suc m) e = absurd (omega arith)
front_of (x ∷ u) rest zero e = absurd (omega arith)
front_of (x ∷ u) rest (suc m) e = ap (λ l. x ∷ l) (front_of u rest m (omega arith))

pub length-front : (shape t : List ℕ) (m : ℕ) → m ≤ length shape → IsIndex (take m shape) t → length t ≡ m
length-front shape t m le is = length-index (take m shape) t is ∙ simp length-take (omega arith)

-- the run that the walk is at is the first one that is left
pub next_run : (ps run : List ℕ) (at n : ℕ) → 0 < n → at + n ≤ length ps → run ≡ take n (drop at ps) → in_pieces n (drop at ps) ≡ run ∷ in_pieces n (drop (at + n) ps)
next_run ps run at n some le e =
    let long : n ≤ length (drop at ps) = simp length-drop (omega arith) in
    first_piece n (drop at ps) some long ∙ (λ i. sym e i ∷ in_pieces n (drop-drop n at ps i))

-- the next index of the outer axes is that of the next run
pub next_index : (shape t u : List ℕ) → length t ≤ length shape → length u ≡ length t → number shape t + elements_of (drop (length t) shape) < elements_of shape
    → (number (take (length t) shape) t + 1 < elements_of (take (length t) shape) → number (take (length t) shape) u ≡ number (take (length t) shape) t + 1)
    → number shape u ≡ number shape t + elements_of (drop (length t) shape)
next_index shape t u le same lt next =
    let outer : List ℕ = take (length t) shape in let count : ℕ = elements_of (drop (length t) shape) in
    let more : number outer t + 1 < elements_of outer = less (number outer t) (elements_of outer) count (omega (arith, lt, number_outer shape t le, elements shape (length t))) in
    let here : number shape u ≡ number (take (length u) shape) u * elements_of (drop (length u) shape) = number_outer shape u (omega (arith, le, same)) in
    here ∙ ap (λ m. number (take m shape) u * elements_of (drop m shape)) same ∙ ap (λ k. k * count) (next more)
    ∙ omega (arith, number_outer shape t le)

-- a walk that is not at its end
module _ (r : Inside) (is : IsWalk r) (left : r.at < r.count) where
  abbrev shape : List ℕ
  shape = r.view.now.shape

  abbrev places : List ℕ
  places = r.view.now.places

  abbrev here : List ℕ
  here = take r.inner.outer r.index

  long : length here ≡ r.inner.outer
  long = length-front shape here r.inner.outer is.inner.outer (is.index left)

  behind_here : elements_of (drop (length here) shape) ≡ r.inner.count
  behind_here = ap (λ m. elements_of (drop m shape)) long ∙ sym is.inner.count

  pub start_is : get_or places (number shape here) 0 ≡ get_or places r.at 0
  start_is = ap (λ n. get_or places n 0) (is.at left)

  pub count_some : 0 < r.inner.count
  count_some = rw is.inner.count (behind shape r.inner.outer (omega (arith, left, is.count, is.elements))).0

  pub count_within : r.at + r.inner.count ≤ length places
  count_within =
      let le : length here ≤ length shape = omega (arith, long, is.inner.outer) in
      let inside = parts_inside shape here le (rw long (is.index left)) in
      omega (arith, inside, behind_here, is.at left, is.elements)

  steps_here : AreSteps places r.at r.inner.count r.inner.step
  steps_here = subst (λ n. AreSteps places n r.inner.count r.inner.step) (is.at left) (is.inner.steps here (is.index left))

  pub spots_here : (k : ℕ) → k < r.inner.count → (pos 0 ≤ℤ place_at (get_or places r.at 0) r.inner.step k) × (spot_at (get_or places r.at 0) r.inner.step k < 2 ^ 64)
  spots_here = run_spots places r.at r.inner.count r.inner.step steps_here

  module _ (u rest : List ℕ) (index : IsIndex (take r.inner.outer shape) u) (next : number (take r.inner.outer shape) here + 1 < elements_of (take r.inner.outer shape) → number (take r.inner.outer shape) u ≡ number (take r.inner.outer shape) here + 1) where
    abbrev behind_run : Inside
    behind_run = record { view = r.view; inner = r.inner; index = u ++ rest; at = r.at + r.inner.count; count = r.count }

    longer : length u ≡ r.inner.outer
    longer = length-front shape u r.inner.outer is.inner.outer index

    front : take r.inner.outer (u ++ rest) ≡ u
    front = front_of u rest r.inner.outer longer

    further : r.at + r.inner.count < r.count → number shape u ≡ r.at + r.inner.count
    further lt =
        let le : length here ≤ length shape = omega (arith, long, is.inner.outer) in
        let more : number shape here + elements_of (drop (length here) shape) < elements_of shape = omega (arith, lt, behind_here, is.at left, is.elements, is.count) in
        next_index shape here u le (longer ∙ sym long) more (rw long next) ∙ omega (arith, behind_here, is.at left)

    pub walk_is : IsWalk behind_run
    walk_is = record {
      inner = is.inner;
      count = is.count;
      elements = is.elements;
      within = omega (arith, count_within, is.count);
      index = λ lt. rw front index;
      at = λ lt. rw front (further lt);
    }

  pub run_left : (run : List ℕ) → run ≡ run_places (get_or places r.at 0) r.inner.step r.inner.count
      → in_pieces r.inner.count (drop r.at places) ≡ run ∷ in_pieces r.inner.count (drop (r.at + r.inner.count) places)
  run_left run made =
      next_run places run r.at r.inner.count count_some count_within (made ∙ run_is places r.at r.inner.count r.inner.step steps_here count_within)
