-- What a use of structures gives is what the reader finds in the base: their fields, one behind the other.
use Rattle.std.proofs.Common.{◌≡◌, ℕ, ◌+◌, ◌*◌, ◌≤◌, List, [], ◌∷◌, ◌++◌, map, length, take, drop, get_or, refl, sym, ap, ap₂, ◌∙◌, arith, length-append}
use Rattle.std.specs.List.{flat_map, All}
use Rattle.std.proofs.Math.Seq.{drop-append_seam, take-append_seam}
use Rattle.std.proofs.lemmas.List.{length-map, append_assoc}
use Rattle.std.proofs.lemmas.List.Elements.{All-head, All-tail}
use Rattle.nd_model.specs.Arrays.Element.{size_of, value_of, bytes_at}
use Rattle.nd_model.specs.Arrays.Tuple.{count_up}
use Rattle.nd_model.specs.Arrays.View.{Field, Structure, element_places, field_places}
use Rattle.nd_model.specs.Arrays.Content.{Rec, number_at, content_at, contents_in, packed_fields, fields_size}
use Rattle.nd_model.proofs.Tuples.{length-count_up}
use Rattle.nd_model.proofs.Uses.{gathered, map-append'}

-- bytes behind others and before the rest
bytes_between : (pre c rest : List ℕ) (q n : ℕ) → length pre ≡ q → length c ≡ n → bytes_at (pre ++ (c ++ rest)) q n ≡ c
bytes_between pre c rest q n long size =
    ap₂ (λ k m. take m (drop k (pre ++ (c ++ rest)))) (sym long) (sym size) ∙ ap (take (length c)) (drop-append_seam pre (c ++ rest)) ∙ take-append_seam c rest

module _ (bytes : List ℕ) where
  -- the bytes of a field, and of all fields
  abbrev field : ℕ → Field → List ℕ
  field p f = map (λ q. get_or bytes q 0) (count_up (p + f.at) (size_of f.element.kind))

  abbrev packed : ℕ → List Field → List ℕ
  packed p fs = map (λ q. get_or bytes q 0) (field_places p fs)

  length-field : (p : ℕ) (f : Field) → length (field p f) ≡ size_of f.element.kind
  length-field p f = length-map (count_up (p + f.at) (size_of f.element.kind)) (λ q. get_or bytes q 0) ∙ length-count_up (p + f.at) (size_of f.element.kind)

  next_field : (p : ℕ) (f : Field) (fs : List Field) → packed p (f ∷ fs) ≡ field p f ++ packed p fs
  next_field p f fs = map-append' (λ q. get_or bytes q 0) (count_up (p + f.at) (size_of f.element.kind)) (field_places p fs)

  length-packed : (p : ℕ) (fs : List Field) → length (packed p fs) ≡ fields_size fs
  length-packed p [] = refl
  length-packed p (f ∷ fs) = ap (λ l. length l) (next_field p f fs) ∙ length-append (field p f) (packed p fs) ∙ ap₂ (λ a b. a + b) (length-field p f) (length-packed p fs)

  -- the numbers of one element
  numbers : (p q at : ℕ) (fs : List Field) (pre rest : List ℕ) → length pre ≡ q + at → All (λ (f : Field). (p + f.at) + size_of f.element.kind ≤ length bytes) fs
      → map (λ (f : Field). number_at f.element (pre ++ (packed p fs ++ rest)) (q + f.at)) (packed_fields at fs) ≡ map (λ (f : Field). number_at f.element bytes (p + f.at)) fs
  numbers p q at [] pre rest long held = refl
  numbers p q at (f ∷ fs) pre rest long held =
      let size : ℕ = size_of f.element.kind in
      let behind : List ℕ = packed p fs ++ rest in
      let split : packed p (f ∷ fs) ++ rest ≡ field p f ++ behind = ap (λ l. l ++ rest) (next_field p f fs) ∙ append_assoc (field p f) (packed p fs) rest in
      let here : bytes_at (pre ++ (field p f ++ behind)) (q + at) size ≡ bytes_at bytes (p + f.at) size =
      bytes_between pre (field p f) behind (q + at) size long (length-field p f)
      ∙ gathered bytes (p + f.at) size (All-head (λ (g : Field). (p + g.at) + size_of g.element.kind ≤ length bytes) f fs held) in
      ap (λ l. map (λ (g : Field). number_at g.element (pre ++ l) (q + g.at)) (packed_fields at (f ∷ fs))) split
      ∙ ap₂ (λ (v : List ℕ) l. value_of f.element v ∷ l) here
      (ap (λ l. map (λ (g : Field). number_at g.element l (q + g.at)) (packed_fields (at + size) fs)) (sym (append_assoc pre (field p f) behind))
      ∙ numbers p q (at + size) fs (pre ++ field p f) rest (length-append pre (field p f) ∙ further (length pre) (length (field p f)) size long (length-field p f))
      (All-tail (λ (g : Field). (p + g.at) + size_of g.element.kind ≤ length bytes) f fs held))
    where
      further : (a b size : ℕ) → a ≡ q + at → b ≡ size → a + b ≡ q + (at + size)
      further a b size e h = omega arith

  module _ (fields : List Field) (size : ℕ) (inside : All (λ (f : Field). f.at + size_of f.element.kind ≤ size) fields) where
    abbrev taken : List ℕ → List ℕ
    taken places = map (λ q. get_or bytes q 0) (flat_map (element_places (Structure fields size)) places)

    held : (p : ℕ) → p + size ≤ length bytes → All (λ (f : Field). (p + f.at) + size_of f.element.kind ≤ length bytes) fields
    held p le = λ k d lt. let end = inside k d lt in omega arith

    all_taken : (places pre : List ℕ) (k : ℕ) → length pre ≡ k * fields_size fields → All (λ p. p + size ≤ length bytes) places
        → map (λ j. content_at (Structure (packed_fields 0 fields) (fields_size fields)) (pre ++ taken places) (j * fields_size fields)) (count_up k (length places))
        ≡ map (content_at (Structure fields size) bytes) places
    all_taken [] pre k long h = refl
    all_taken (p ∷ ps) pre k long h =
        let each : ℕ = fields_size fields in
        let split : taken (p ∷ ps) ≡ packed p fields ++ taken ps = map-append' (λ q. get_or bytes q 0) (field_places p fields) (flat_map (element_places (Structure fields size)) ps) in
        ap (λ l. map (λ j. content_at (Structure (packed_fields 0 fields) each) (pre ++ l) (j * each)) (k ∷ count_up (k + 1) (length ps))) split
        ∙ ap₂ (λ zs l. Rec zs ∷ l)
        (numbers p (k * each) 0 fields pre (taken ps) (long ∙ none (k * each)) (held p (All-head (λ p. p + size ≤ length bytes) p ps h)))
        (ap (λ l. map (λ j. content_at (Structure (packed_fields 0 fields) each) l (j * each)) (count_up (k + 1) (length ps))) (sym (append_assoc pre (packed p fields) (taken ps)))
        ∙ all_taken ps (pre ++ packed p fields) (k + 1) (length-append pre (packed p fields) ∙ next (length pre) (length (packed p fields)) each k long (length-packed p fields))
        (All-tail (λ p. p + size ≤ length bytes) p ps h))
      where
        none : (n : ℕ) → n ≡ n + 0
        none n = omega arith

        next : (a b each k : ℕ) → a ≡ k * each → b ≡ each → a + b ≡ (k + 1) * each
        next a b each k e f = omega arith

-- the contents that a use of structures gives are those at their places
pub used_structures : (fields : List Field) (size : ℕ) (bytes places : List ℕ) → All (λ (f : Field). f.at + size_of f.element.kind ≤ size) fields → All (λ p. p + size ≤ length bytes) places
    → contents_in (Structure fields size) (length places) (map (λ q. get_or bytes q 0) (flat_map (element_places (Structure fields size)) places))
    ≡ map (content_at (Structure fields size) bytes) places
used_structures fields size bytes places inside h = all_taken bytes fields size inside places [] 0 (omega arith) h
