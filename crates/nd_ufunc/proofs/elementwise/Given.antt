-- Results as they are written over the numbers that they are found from.
use Rattle.std.proofs.Common.{◌≡◌, ℕ, ℤ, suc, ◌+◌, ◌*◌, List, [], ◌∷◌, ◌++◌, map, length, take, drop, refl, sym, ap, ap₂, ◌∙◌, arith, append_assoc, length-append}
use Rattle.std.specs.List.{flat_map}
use Rattle.std.proofs.lemmas.List.{take_at, drop_at}
use Rattle.std.proofs.lemmas.List.Folds.{flat_map-map}
use Rattle.nd_model.specs.Arrays.Content.{number_at}
use Rattle.nd_model.specs.Arrays.Element.{Element, Kind, size_of, bytes_at, bytes_of, value_of, wrap}
use Rattle.nd_model.specs.Arrays.Tuple.{count_up}
use Rattle.nd_model.proofs.Values.{round_trip, wrap_value, length-bytes_of}
use Rattle.nd_view.specs.SideBySide.{side_by_side}
use Rattle.nd_convert.specs.Conversion.Converted.{converted_bytes}
use Rattle.nd_ufunc.specs.Elementwise.Replaced.{AreValues, Wraps, written_numbers, replaced}
use Rattle.nd_ufunc.specs.Loops.Results.{result_bytes}
use Rattle.nd_ufunc.proofs.loops.SideBySide.{same_counted}

-- numbers of a kind that stand one after another are read back
numbers_back : (e : Element) (zs : List ℤ) (bytes : List ℕ) → AreValues e.kind zs → bytes ≡ flat_map (bytes_of e) zs
    → map (λ j. number_at e bytes (0 + j * size_of e.kind)) (count_up 0 (length zs)) ≡ zs
numbers_back e zs bytes are is =
    ap (λ l. map (λ j. number_at e l (0 + j * size_of e.kind)) (count_up 0 (length zs))) is
    ∙ same_counted (λ j. number_at e (flat_map (bytes_of e) zs) (0 + j * size_of e.kind)) (λ j. number_at e (flat_map (bytes_of e) zs) (j * size_of e.kind)) 0 (length zs)
    (λ j le lt. ap (number_at e (flat_map (bytes_of e) zs)) (let same : 0 + j * size_of e.kind ≡ j * size_of e.kind = omega arith in same))
    ∙ each [] zs 0 are (omega arith)
  where
    each : (front : List ℕ) (xs : List ℤ) (k : ℕ) → AreValues e.kind xs → length front ≡ k * size_of e.kind
        → map (λ j. number_at e (front ++ flat_map (bytes_of e) xs) (j * size_of e.kind)) (count_up k (length xs)) ≡ xs
    each front [] k valid long = refl
    each front (x ∷ xs) k valid long =
        let b : List ℕ = bytes_of e x in let rest : List ℕ = flat_map (bytes_of e) xs in
        let size : length b ≡ size_of e.kind = length-bytes_of e x in
        let here : bytes_at (front ++ (b ++ rest)) (k * size_of e.kind) (size_of e.kind) ≡ b
        = ap (take (size_of e.kind)) (drop_at front (b ++ rest) (k * size_of e.kind) long) ∙ take_at b rest (size_of e.kind) size in
        let next : length (front ++ b) ≡ (k + 1) * size_of e.kind = omega (arith, length-append front b, long, size) in
        (λ i. (ap (value_of e) here ∙ round_trip e x valid.0) i ∷ map (λ j. number_at e (sym (append_assoc front b rest) i) (j * size_of e.kind)) (count_up (k + 1) (length xs)))
        ∙ ap (λ l. x ∷ l) (each (front ++ b) xs (k + 1) valid.1 next)

-- values of a kind keep their bytes in it
pub kept_values : (e : Element) (zs : List ℤ) → AreValues e.kind zs → flat_map (bytes_of e) zs ≡ written_numbers e zs
kept_values e [] are = refl
kept_values e (z ∷ zs) are = ap₂ (λ a b. a ++ b) (ap (bytes_of e) (sym (wrap_value e.kind z are.0))) (kept_values e zs are.1)

-- they are converted number by number
pub converted_values : (to from : Element) (zs : List ℤ) (results : List ℕ) → AreValues from.kind zs → results ≡ flat_map (bytes_of from) zs
    → converted_bytes to from results (side_by_side (size_of from.kind) 0 (length zs)) ≡ written_numbers to zs
converted_values to from zs results are is =
    flat_map-map (λ p. bytes_of to (wrap to.kind (number_at from results p))) (λ j. 0 + j * size_of from.kind) (count_up 0 (length zs))
    ∙ sym (flat_map-map (λ z. bytes_of to (wrap to.kind z)) (λ j. number_at from results (0 + j * size_of from.kind)) (count_up 0 (length zs)))
    ∙ ap (written_numbers to) (numbers_back from zs results are is)

-- the numbers that a function gives
abbrev pub given : (ℤ → ℤ → ℤ) → List ℤ → List ℤ → List ℤ
given f (x ∷ xs) (y ∷ ys) = f x y ∷ given f xs ys
given f _ _ = []

module _ (f : ℤ → ℤ → ℤ) where
  pub given_bytes : (e : Element) (xs ys : List ℤ) → result_bytes e f xs ys ≡ flat_map (bytes_of e) (given f xs ys)
  given_bytes e [] ys = refl
  given_bytes e (x ∷ xs) [] = refl
  given_bytes e (x ∷ xs) (y ∷ ys) = ap (λ l. bytes_of e (f x y) ++ l) (given_bytes e xs ys)

  pub given_written : (e : Element) (xs ys : List ℤ) → written_numbers e (given f xs ys) ≡ replaced e f xs ys
  given_written e [] ys = refl
  given_written e (x ∷ xs) [] = refl
  given_written e (x ∷ xs) (y ∷ ys) = ap (λ l. bytes_of e (wrap e.kind (f x y)) ++ l) (given_written e xs ys)

  pub given_values : (k : Kind) (xs ys : List ℤ) → Wraps k f → AreValues k (given f xs ys)
  given_values k [] ys w = tt
  given_values k (x ∷ xs) [] w = tt
  given_values k (x ∷ xs) (y ∷ ys) w = (w x y, given_values k xs ys w)

  pub length-given : (xs ys : List ℤ) → length xs ≡ length ys → length (given f xs ys) ≡ length xs
  length-given [] ys same = refl
  length-given (x ∷ xs) [] same = absurd (omega arith)
  length-given (x ∷ xs) (y ∷ ys) same = ap suc (length-given xs ys (omega arith))
