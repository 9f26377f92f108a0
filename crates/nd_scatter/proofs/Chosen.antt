-- The numbers on a line that a mask chooses, one after another.
use Rattle.std.proofs.Common.{◌≡◌, ◌≢◌, ℕ, ℤ, ◌+◌, ◌*◌, ◌<◌, ◌≤◌, suc, Bool, true, false, List, [], ◌∷◌, ◌++◌, inr, map, length, take, drop, get_or, refl, sym, ap, ◌∙◌, subst, arith, append_assoc, length-append, length-take, take-take}
use Rattle.std.specs.Prelude.{if◌then◌else◌}
use Rattle.std.specs.List.{All, flat_map}
use Rattle.std.proofs.Math.Seq.{drop-append_seam}
use Rattle.std.proofs.lemmas.List.{drop-take, take-append-le, take-append-drop, drop-drop}
use Rattle.nd_model.specs.Arrays.Element.{Boolean, Element, size_of, bytes_at, bytes_of, with_bytes}
use Rattle.nd_model.specs.Cells.Session.{put}
use Rattle.nd_model.specs.Arrays.View.{One}
use Rattle.nd_model.proofs.Values.{length-bytes_of}
use Rattle.nd_model.specs.Arrays.Content.{number_at}
use Rattle.nd_model.proofs.Contents.{number_bytes}
use Rattle.nd_places.specs.Near.{is_true, trues_in}
use Rattle.nd_places.proofs.Found.{next_of, further}
use Rattle.nd_block.proofs.Copied.{beside, length-bytes_at, length-with_bytes}
use Rattle.nd_convert.proofs.conversion.Written.{place_more}
use Rattle.nd_element.specs.Elements.{canonical_at}
use Rattle.nd_scatter.specs.Ready.{AreValues}
use Rattle.nd_scatter.specs.Scattered.{byte_copies, scattered}
use Rattle.nd_scatter.proofs.Copies.{run_put}
use Rattle.nd_scatter.proofs.OwnBytes.{own_bytes}

-- ---- one byte of the mask more

next_true : (first k : ℕ) (mask : List ℕ) → k < length mask → is_true (get_or mask k 0) ≡ true → trues_in (first + k) (drop k mask) ≡ (first + k) ∷ trues_in (first + (k + 1)) (drop (k + 1) mask)
next_true first k mask lt is = next_of first mask k true lt is ∙ ap (λ n. (first + k) ∷ trues_in n (drop (k + 1) mask)) (further first k)

next_false : (first k : ℕ) (mask : List ℕ) → k < length mask → is_true (get_or mask k 0) ≡ false → trues_in (first + k) (drop k mask) ≡ trues_in (first + (k + 1)) (drop (k + 1) mask)
next_false first k mask lt is = next_of first mask k false lt is ∙ ap (λ n. trues_in n (drop (k + 1) mask)) (further first k)

pub step_few : (b : Bool) (n size : ℕ) → n ≡ (if b then size else 0) → n ≤ size
step_few true n size e = omega (arith, e)
step_few false n size e = omega (arith, e)

-- one element or none, `step` bytes each
pub times : (b : Bool) (n step : ℕ) → n ≡ (if b then 1 else 0) → n * step ≡ (if b then step else 0)
times true n step e = let one : 1 * step ≡ step = omega arith in ap (λ m. m * step) e ∙ one
times false n step e = let none : 0 * step ≡ 0 = omega arith in ap (λ m. m * step) e ∙ none

-- ---- bytes that are written

-- the bytes before a place stay
take_before : (xs : List ℕ) (p : ℕ) (ys : List ℕ) → p ≤ length xs → take p (with_bytes xs p ys) ≡ take p xs
take_before xs p ys le =
    let front : List ℕ = take p xs in let rest : List ℕ = drop (p + length ys) xs in
    let fits : p ≤ length front = omega (arith, length-take p xs, le) in
    ap (take p) (append_assoc front ys rest) ∙ take-append-le p front (ys ++ rest) fits ∙ take-take p p xs (omega arith)

-- the own bytes once more
pub own_again : (xs : List ℕ) (p n : ℕ) → p + n ≤ length xs → with_bytes xs p (bytes_at xs p n) ≡ xs
own_again xs p n le =
    let rest : List ℕ = drop p xs in
    ap (λ j. take p xs ++ bytes_at xs p n ++ drop (p + j) xs) (length-bytes_at xs p n le)
    ∙ append_assoc (take p xs) (bytes_at xs p n) (drop (p + n) xs)
    ∙ ap (λ l. take p xs ++ (take n rest ++ l)) (sym (drop-drop n p xs))
    ∙ ap (λ l. take p xs ++ l) (take-append-drop n rest) ∙ take-append-drop p xs

-- a number of the own bytes, or of others
pub number_written : (b : Bool) (e : Element) (values out : List ℕ) (to from : ℕ) (z : ℤ) → e.kind ≢ Boolean → All (λ x. x < 256) values → All (λ x. x < 256) out
    → to + size_of e.kind ≤ length out → from + size_of e.kind ≤ length values → z ≡ (if b then number_at e values from else number_at e out to)
    → with_bytes out to (bytes_of e z) ≡ (if b then with_bytes out to (bytes_at values from (size_of e.kind)) else out)
number_written true e values out to from z number small own room held is =
    ap (with_bytes out to) (ap (bytes_of e) is ∙ sym (number_bytes e (number_at e values from)) ∙ sym (own_bytes e values number small from held))
number_written false e values out to from z number small own room held is =
    ap (with_bytes out to) (ap (bytes_of e) is ∙ sym (number_bytes e (number_at e out to)) ∙ sym (own_bytes e out number own to room))
    ∙ own_again out to (size_of e.kind) room

-- ---- elements that are read

pub length-canonical : (e : Element) (xs : List ℕ) (p : ℕ) → length (canonical_at (One e) xs p) ≡ size_of e.kind
length-canonical e xs p = ap length (number_bytes e (number_at e xs p)) ∙ length-bytes_of e (number_at e xs p)

pub length-numbers : (e : Element) (xs ps : List ℕ) → length (flat_map (canonical_at (One e) xs) ps) ≡ length ps * size_of e.kind
length-numbers e xs [] = omega arith
length-numbers e xs (p ∷ ps) =
    let size = size_of e.kind in
    let more : (length ps + 1) * size ≡ length ps * size + size = omega arith in
    omega (arith, length-append (canonical_at (One e) xs p) (flat_map (canonical_at (One e) xs) ps), length-canonical e xs p, length-numbers e xs ps, more)

module _ (F : ℕ → List ℕ) (place : ℕ → ℕ) where
  abbrev left : ℕ → List ℕ → List ℕ
  left n mask = flat_map F (map place (trues_in n mask))

  -- a number is copied behind those that are kept, and kept where its byte is true
  pub kept_next : (first k kept more size : ℕ) (mask out ys whole : List ℕ) → k < length mask → kept ≤ length out → ys ≡ F (place (first + k)) → length ys ≡ size
      → more ≡ (if is_true (get_or mask k 0) then size else 0) → take kept out ++ left (first + k) (drop k mask) ≡ whole
      → take (kept + more) (with_bytes out kept ys) ++ left (first + (k + 1)) (drop (k + 1) mask) ≡ whole
  kept_next first k kept more size mask out ys whole lt room is long step so_far = by (is_true (get_or mask k 0)) refl step
    where
      by : (b : Bool) → is_true (get_or mask k 0) ≡ b → more ≡ (if b then size else 0) → take (kept + more) (with_bytes out kept ys) ++ left (first + (k + 1)) (drop (k + 1) mask) ≡ whole
      by true here one =
          let rest : List ℕ = left (first + (k + 1)) (drop (k + 1) mask) in
          ap (λ l. l ++ rest) (place_more out ys (take kept out) (kept + more) kept room (omega (arith, one, long)) refl)
          ∙ append_assoc (take kept out) ys rest ∙ ap (λ l. take kept out ++ (l ++ rest)) is
          ∙ ap (λ l. take kept out ++ flat_map F (map place l)) (sym (next_true first k mask lt here)) ∙ so_far
      by false here none =
          let rest : List ℕ = left (first + (k + 1)) (drop (k + 1) mask) in
          let same : kept + more ≡ kept = omega (arith, none) in
          ap (λ n. take n (with_bytes out kept ys) ++ rest) same ∙ ap (λ l. l ++ rest) (take_before out kept ys room)
          ∙ ap (λ l. take kept out ++ flat_map F (map place l)) (sym (next_false first k mask lt here)) ∙ so_far

-- ---- elements that are written

-- what is left once a value is written where the byte is true
pub record Wrote (e : Element) (values : List ℕ) (step at : ℕ) (left out whole : List ℕ) : Type 0 where
  pub inside : at ≤ length values
  pub held : AreValues (size_of e.kind) at step (length left) (length values)
  pub rest : scattered (One e) values step at left out ≡ whole

module _ (e : Element) (values : List ℕ) (step : ℕ) (place : ℕ → ℕ) where
  next_value : (at p : ℕ) (ps : List ℕ) → AreValues (size_of e.kind) at step (length (p ∷ ps)) (length values) → AreValues (size_of e.kind) (at + step) step (length ps) (length values)
  next_value at p ps held j lt =
      let next = held (j + 1) (omega (arith, lt)) in
      let more : (j + 1) * step ≡ j * step + step = omega arith in
      omega (arith, next, more)

  pub inside_next : (k at more : ℕ) (mask : List ℕ) → k < length mask → step ≤ size_of e.kind → at ≤ length values
      → AreValues (size_of e.kind) at step (length (map place (trues_in (0 + k) (drop k mask)))) (length values) → more ≡ (if is_true (get_or mask k 0) then step else 0) → at + more ≤ length values
  inside_next k at more mask lt near inside held one = by (is_true (get_or mask k 0)) refl one
    where
      by : (b : Bool) → is_true (get_or mask k 0) ≡ b → more ≡ (if b then step else 0) → at + more ≤ length values
      by true here one =
          let count : length (map place (trues_in (0 + k) (drop k mask))) ≡ suc (length (map place (trues_in (0 + (k + 1)) (drop (k + 1) mask)))) = ap (λ l. length (map place l)) (next_true 0 k mask lt here) in
          let first = held 0 (omega (arith, count)) in let none : 0 * step ≡ 0 = omega arith in
          omega (arith, first, none, near, one)
      by false here none = omega (arith, inside, none)

  pub wrote_next : (k at from more : ℕ) (mask out new whole : List ℕ) → k < length mask → step ≤ size_of e.kind → place (0 + k) + size_of e.kind ≤ length out
      → (at + size_of e.kind ≤ length values → from ≡ at) → more ≡ (if is_true (get_or mask k 0) then step else 0)
      → new ≡ (if is_true (get_or mask k 0) then with_bytes out (place (0 + k)) (bytes_at values from (size_of e.kind)) else out)
      → Wrote e values step at (map place (trues_in (0 + k) (drop k mask))) out whole
      → Wrote e values step (at + more) (map place (trues_in (0 + (k + 1)) (drop (k + 1) mask))) new whole
  wrote_next k at from more mask out new whole lt near room value step_is is so_far = by (is_true (get_or mask k 0)) refl step_is is
    where
      by : (b : Bool) → is_true (get_or mask k 0) ≡ b → more ≡ (if b then step else 0) → new ≡ (if b then with_bytes out (place (0 + k)) (bytes_at values from (size_of e.kind)) else out)
          → Wrote e values step (at + more) (map place (trues_in (0 + (k + 1)) (drop (k + 1) mask))) new whole
      by true here one is =
          let size = size_of e.kind in let p = place (0 + k) in let rest : List ℕ = map place (trues_in (0 + (k + 1)) (drop (k + 1) mask)) in
          let parts : map place (trues_in (0 + k) (drop k mask)) ≡ p ∷ rest = ap (map place) (next_true 0 k mask lt here) in
          let held : AreValues size at step (length (p ∷ rest)) (length values) = subst (λ ps. AreValues size at step (length ps) (length values)) parts so_far.held in
          let end : at + size ≤ length values = (let first = held 0 (omega arith) in let none : 0 * step ≡ 0 = omega arith in omega (arith, first, none)) in
          let further : at + more ≡ at + step = omega (arith, one) in
          let written : new ≡ put (byte_copies (One e) values p at) out
          = is ∙ ap (λ q. with_bytes out p (bytes_at values q size)) (value end) ∙ run_put values out p at size room end in
          record {
            inside = inside_next k at more mask lt near so_far.inside so_far.held step_is;
            held = subst (λ q. AreValues size q step (length rest) (length values)) (sym further) (next_value at p rest held);
            rest = (λ i. scattered (One e) values step (further i) rest (written i)) ∙ ap (λ ps. scattered (One e) values step at ps out) (sym parts) ∙ so_far.rest;
          }
      by false here none is =
          let size = size_of e.kind in let rest : List ℕ = map place (trues_in (0 + (k + 1)) (drop (k + 1) mask)) in
          let same : at + more ≡ at = omega (arith, none) in
          let parts : map place (trues_in (0 + k) (drop k mask)) ≡ rest = ap (map place) (next_false 0 k mask lt here) in
          record {
            inside = inside_next k at more mask lt near so_far.inside so_far.held step_is;
            held = subst (λ q. AreValues size q step (length rest) (length values)) (sym same) (subst (λ ps. AreValues size at step (length ps) (length values)) parts so_far.held);
            rest = (λ i. scattered (One e) values step (same i) rest (is i)) ∙ ap (λ ps. scattered (One e) values step at ps out) (sym parts) ∙ so_far.rest;
          }

-- where no value is held, nothing is chosen
pub none_chosen : (e : Element) (values : List ℕ) (step : ℕ) (ps out : List ℕ) → AreValues (size_of e.kind) 0 step (length ps) (length values) → length values < size_of e.kind
    → out ≡ scattered (One e) values step 0 ps out
none_chosen e values step [] out held few = refl
none_chosen e values step (p ∷ ps) out held few =
    let first = held 0 (omega arith) in let none : 0 * step ≡ 0 = omega arith in absurd (omega (arith, first, none, few))
