-- What is shown of a number, and of a structure field by field.
use Rattle.std.proofs.Common.{◌≡◌, ℕ, zero, suc, ◌+◌, ◌-◌, ◌<◌, ◌≤◌, ℤ, Bool, true, false, ap₂, List, [], ◌∷◌, ◌++◌, length, take, drop, map, get_or, refl, sym, ap, ◌∙◌, arith, append-nil}
use Rattle.std.specs.Prelude.{slice_index}
use Rattle.std.specs.List.{zip, flat_map}
use Rattle.std.specs.Int.{byte_len, byte_worth, sum_through}
use Rattle.std.proofs.lemmas.List.{take_more}
use Rattle.nd_types.proofs.Sized.{some_bytes}
use Rattle.std.proofs.lemmas.Grind.{flat_map-append}
use Rattle.nd_model.specs.Arrays.Element.{Element, width_of, size_of, value_in, number_in, value_of, bytes_at, bytes_of, with_bytes}
use Rattle.nd_model.specs.Arrays.Tuple.{count_up}
use Rattle.nd_model.specs.Arrays.View.{Field}
use Rattle.nd_model.specs.Cells.Session.{put}
use Rattle.nd_model.specs.Arrays.Content.{number_at, field_writes}
use Rattle.nd_model.proofs.Values.{few_bytes, length-bytes_of}
use Rattle.nd_model.proofs.Puts.{put-append, with_bytes-put}

none_before : (n : ℕ) → 0 + n ≡ n
none_before n = omega arith

-- the first bytes of a list
in_front : (n : ℕ) (xs : List ℕ) (i : ℕ) → i < n → slice_index (take n xs) i ≡ slice_index xs i
in_front zero xs i lt = absurd (omega arith)
in_front (suc n) [] i lt = refl
in_front (suc n) (x ∷ xs) zero lt = refl
in_front (suc n) (x ∷ xs) (suc i) lt = in_front n xs i (omega arith)

counted_up : (f : ℕ → ℕ) (from n i : ℕ) → i < n → slice_index (map f (count_up from n)) i ≡ f (from + i)
counted_up f from zero i lt = absurd (omega arith)
counted_up f from (suc n) zero lt = ap f (omega arith)
counted_up f from (suc n) (suc i) lt = counted_up f (from + 1) n i (omega arith) ∙ ap f (omega arith)

-- a number is told by its bytes, those past the end being 0
same_sum : (f g : ℕ → ℕ) (n : ℕ) → ((i : ℕ) → i ≤ n → f i ≡ g i) → sum_through f n ≡ sum_through g n
same_sum f g zero h = h 0 (omega arith)
same_sum f g (suc n) h = ap₂ (λ a b. a + b) (same_sum f g n (λ i le. h i (omega arith))) (h (suc n) (omega arith))

module _ (e : Element) (xs ys : List ℕ) (same : (i : ℕ) → i < size_of e.kind → slice_index xs i ≡ slice_index ys i) where
  byte : (i : ℕ) → i ≤ byte_len (width_of e.kind) - 1 → slice_index xs i ≡ slice_index ys i
  byte i le = same i (omega (arith, some_bytes e.kind))

  same_number : (big : Bool) → number_in (width_of e.kind) big xs ≡ number_in (width_of e.kind) big ys
  same_number true = same_sum _ _ (byte_len (width_of e.kind) - 1) (λ i le. ap (byte_worth (byte_len (width_of e.kind) - 1 - i)) (byte i le))
  same_number false = same_sum _ _ (byte_len (width_of e.kind) - 1) (λ i le. ap (byte_worth i) (byte i le))

  same_value : value_of e xs ≡ value_of e ys
  same_value = ap (value_in e.kind) (same_number e.big)

-- the number in the first of eight bytes that were read from the place on
pub of_rest : (e : Element) (bytes : List ℕ) (p : ℕ) (run : List ℕ) → run ≡ map (λ q. slice_index (drop p bytes) q) (count_up 0 8)
    → value_of e (bytes_at run 0 (size_of e.kind)) ≡ number_at e bytes p
of_rest e bytes p run is = same_value e (bytes_at run 0 (size_of e.kind)) (bytes_at bytes p (size_of e.kind)) (λ i lt.
    in_front (size_of e.kind) run i lt ∙ ap (λ l. slice_index l i) is ∙ counted_up (λ q. slice_index (drop p bytes) q) 0 8 i (omega (arith, few_bytes e.kind)) ∙ ap (λ k. slice_index (drop p bytes) k) (none_before i)
    ∙ sym (in_front (size_of e.kind) (drop p bytes) i lt))

-- what a field writes
abbrev pub writes : List ℕ → ℕ → Field → List (ℕ × ℕ)
writes bytes p f = zip (count_up f.at (size_of f.element.kind)) (bytes_of f.element (number_at f.element bytes (p + f.at)))

module _ (bytes : List ℕ) (p : ℕ) where
  -- one field more
  pub field_more : (fs : List Field) (i : ℕ) (d f : Field) (z : ℤ) (zeros old new : List ℕ) → i < length fs
      → get_or fs i d ≡ f → z ≡ number_at f.element bytes (p + f.at) → f.at + size_of f.element.kind ≤ length old
      → old ≡ put (flat_map (writes bytes p) (take i fs)) zeros → new ≡ with_bytes old f.at (bytes_of f.element z)
      → new ≡ put (flat_map (writes bytes p) (take (i + 1) fs)) zeros
  field_more fs i d f z zeros old new lt is number inside so_far stored =
      let e : Element = f.element in
      let all : length (bytes_of e z) ≡ size_of e.kind = length-bytes_of e z in
      let one : with_bytes old f.at (bytes_of e z) ≡ put (zip (count_up f.at (size_of e.kind)) (bytes_of e z)) old
      = with_bytes-put (bytes_of e z) f.at old (omega arith) ∙ ap (λ n. put (zip (count_up f.at n) (bytes_of e z)) old) all in
      let its : writes bytes p f ≡ zip (count_up f.at (size_of e.kind)) (bytes_of e z) = ap (λ z. zip (count_up f.at (size_of e.kind)) (bytes_of e z)) (sym number) in
      let list : flat_map (writes bytes p) (take (i + 1) fs) ≡ flat_map (writes bytes p) (take i fs) ++ writes bytes p f
      = ap (flat_map (writes bytes p)) (take_more fs i d lt ∙ ap (λ f. take i fs ++ f ∷ []) is) ∙ flat_map-append (writes bytes p) (take i fs) (f ∷ [])
      ∙ ap (λ l. flat_map (writes bytes p) (take i fs) ++ l) (append-nil (writes bytes p f)) in
      stored ∙ one ∙ ap (λ ws. put ws old) (sym its) ∙ ap (put (writes bytes p f)) so_far
      ∙ sym (put-append (flat_map (writes bytes p) (take i fs)) (writes bytes p f) zeros) ∙ ap (λ ws. put ws zeros) (sym list)

  -- what is written of a structure's numbers, field by field
  pub fields_written : (fs : List Field) → field_writes 0 fs (map (λ (f : Field). number_at f.element bytes (p + f.at)) fs) ≡ flat_map (writes bytes p) fs
  fields_written [] = refl
  fields_written (f ∷ fs) =
      ap₂ (λ n ws. zip (count_up n (size_of f.element.kind)) (bytes_of f.element (number_at f.element bytes (p + f.at))) ++ ws) (none_before f.at) (fields_written fs)
