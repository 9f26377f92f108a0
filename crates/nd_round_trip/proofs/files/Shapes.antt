-- Written shapes are read.
use Rattle.std.proofs.Common.{◌≡◌, ℕ, ◌+◌, ◌-◌, ◌*◌, ◌<◌, ◌≤◌, ◌==◌, ◌^◌, Bool, true, false, List, [], ◌∷◌, ◌++◌, map, length, get_or, option_to_list, codes, decimal, Some, None, refl, sym, ap, ap₂, ◌⊎◌, inl, inr, ◌∙◌, arith, if◌then◌else◌, append_assoc}
use Rattle.std.specs.List.{flat_map}
use Rattle.std.specs.Int.Digits.{digits_of, number_from_digits_after, AllBelowBase}
use Rattle.std.proofs.lemmas.Int.Digits.{number_digits_of, first_digits_of, all_below_base_digits_of}
use Rattle.std.proofs.lemmas.Fmt.{decimal-digits_of}
use Rattle.std.proofs.lemmas.Bool.{eqb-true, eqb-false, ne_eqb}
use Rattle.std.proofs.Math.Nat.{min-eq_left}
use Rattle.nd_model.specs.Grammar.Grammar.{has}
use Rattle.nd_model.specs.Formats.Rules.{Rule}
use Rattle.nd_model.specs.Formats.Rules as rules
use Rattle.nd_model.specs.Formats.RuleReading.{Taken, Refused}
use Rattle.nd_model.specs.Formats.RuleReading as reading
use Rattle.nd_model.specs.Formats.NpyHeader as h
use Rattle.nd_model.specs.Formats.NpyHeader.{Encoding, State, kind_of, kinds_of, with_digit, capped_length}
use Rattle.nd_model.specs.Formats.NpyWriting.{tuple_text}
use Rattle.nd_round_trip.proofs.files.At.{At, taken, alike, more_digits, more_lengths, second_length, shape_end, in_shape, before_shape, behind_next}
use Rattle.nd_round_trip.proofs.files.ByteKinds.{first_kind, digit_kind, comma_kind}
use Rattle.nd_round_trip.proofs.files.Letters.{decimal_zero}
use Rattle.nd_round_trip.proofs.files.Pads.{glyphs, grows}

-- the lengths before the last one, and that one
abbrev pub measured : State → (before : List ℕ) → (last : ℕ) → State
measured s before last = record s { shape = before; last = Some last }

abbrev pub AreShort : List ℕ → Type 0
AreShort [] = Unit {0}
AreShort (n ∷ ns) = (n ≤ 2 ^ 32) × AreShort ns

abbrev fronts : (before : List ℕ) (last : ℕ) → List ℕ → List ℕ
fronts before last [] = before
fronts before last (m ∷ ms) = fronts (before ++ last ∷ []) m ms

abbrev lasts : (last : ℕ) → List ℕ → ℕ
lasts last [] = last
lasts last (m ∷ ms) = lasts m ms

all_there : (before : List ℕ) (last : ℕ) (ms : List ℕ) → fronts before last ms ++ lasts last ms ∷ [] ≡ before ++ last ∷ ms
all_there before last [] = refl
all_there before last (m ∷ ms) = all_there (before ++ last ∷ []) m ms ∙ append_assoc before (last ∷ []) (m ∷ ms)

-- the state behind a shape
abbrev pub sized : State → List ℕ → State
sized s [] = s
sized s (n ∷ ns) = measured s (fronts [] n ns) (lasts n ns)

-- what the state says then
pub sized_is : (s : State) (shape : List ℕ) → s.shape ≡ [] → s.last ≡ None → (sized s shape).shape ++ option_to_list (sized s shape).last ≡ shape
sized_is s [] empty none = ap₂ (λ xs o. xs ++ option_to_list o) empty none
sized_is s (n ∷ ns) empty none = all_there [] n ns

module _ (encoding : Encoding) where
  -- ---- a length

  digits_go : (s : State) (before : List ℕ) (n : ℕ) (k : List Rule) (ds after : List ℕ) → AllBelowBase 10 ds → number_from_digits_after 10 n ds ≤ 2 ^ 32
      → At encoding (measured s before n) (more_digits ∷ k) (glyphs ds ++ after) ≡ At encoding (measured s before (number_from_digits_after 10 n ds)) (more_digits ∷ k) after
  digits_go s before n k [] after all small = refl
  digits_go s before n k (d ∷ ds) after all small =
      let bs = glyphs ds ++ after in
      let skipped = reading.step k (kinds_of ((48 + d) ∷ bs)) in
      let more = grows (n * 10 + d) ds in
      let value : 10 * n + (48 + d - 48) ≡ n * 10 + d = omega arith in
      let low : n * 10 + d ≤ 18446744073709551615 = omega (arith, more, small) in
      taken encoding (measured s before n) (more_digits ∷ k) (more_digits ∷ k) h.further_digit (48 + d) bs
      (ap (λ c. if c then (if c then Taken h.further_digit (more_digits ∷ k) else Refused) else skipped) (digit_kind d bs all.0))
      ∙ ap (λ m. At encoding (measured s before m) (more_digits ∷ k) bs) (ap capped_length value ∙ min-eq_left low)
      ∙ digits_go s before (n * 10 + d) k ds after all.1 small

  -- where a length may stand, with these rules behind it, and the byte that stands there
  record Stands (here behind : List Rule) (end : List ℕ) : Type 0 where
    pub zero_here : (ts : List ℕ) → reading.step here (h.zero_digit ∷ ts) ≡ Taken h.first_digit (h.spaces ∷ behind)
    pub other_here : (ts : List ℕ) → reading.step here (h.other_digit ∷ ts) ≡ Taken h.first_digit (more_digits ∷ h.spaces ∷ behind)
    pub skips : (s : State) → At encoding s (more_digits ∷ h.spaces ∷ behind) end ≡ At encoding s (h.spaces ∷ behind) end

  abbrev pub with_next : State → ℕ → State
  with_next s n = record s { shape = s.shape ++ option_to_list s.last; last = Some n }

  length_go : (s : State) (n : ℕ) (here behind : List Rule) (end : List ℕ) → Stands here behind end → n ≤ 2 ^ 32
      → At encoding s here (decimal n ++ end) ≡ At encoding (with_next s n) (h.spaces ∷ behind) end
  length_go s n here behind end st small = by (n == 0) refl
    where
      none : At encoding s here (codes "0" ++ end) ≡ At encoding (with_next s 0) (h.spaces ∷ behind) end
      none = taken encoding s here (h.spaces ∷ behind) h.first_digit 48 end (st.zero_here (kinds_of end))

      some : (ds : List ℕ) → 0 < get_or ds 0 0 → AllBelowBase 10 ds → number_from_digits_after 10 0 ds ≤ 2 ^ 32
          → At encoding s here (glyphs ds ++ end) ≡ At encoding (with_next s (number_from_digits_after 10 0 ds)) (h.spaces ∷ behind) end
      some [] lt all le = absurd (omega (arith, lt))
      some (d ∷ ds) lt all le =
          let bs = glyphs ds ++ end in
          let value : 48 + d - 48 ≡ 0 * 10 + d = omega arith in
          let more = grows (0 * 10 + d) ds in
          let low : 0 * 10 + d ≤ 18446744073709551615 = omega (arith, more, le) in
          let before = s.shape ++ option_to_list s.last in
          taken encoding s here (more_digits ∷ h.spaces ∷ behind) h.first_digit (48 + d) bs
          (ap (λ t. reading.step here (t ∷ kinds_of bs)) (first_kind d bs lt all.0) ∙ st.other_here (kinds_of bs))
          ∙ ap (λ m. At encoding (measured s before m) (more_digits ∷ h.spaces ∷ behind) bs) value
          ∙ digits_go s before (0 * 10 + d) (h.spaces ∷ behind) ds end all.1 le
          ∙ st.skips (measured s before (number_from_digits_after 10 0 (d ∷ ds)))

      by : (b : Bool) → (n == 0) ≡ b → At encoding s here (decimal n ++ end) ≡ At encoding (with_next s n) (h.spaces ∷ behind) end
      by true e =
          let is : n ≡ 0 = eqb-true n 0 e in
          ap (λ k. At encoding s here (decimal k ++ end)) is ∙ ap (λ l. At encoding s here (l ++ end)) decimal_zero ∙ none
          ∙ ap (λ k. At encoding (with_next s k) (h.spaces ∷ behind) end) (sym is)
      by false e =
          let lt : 0 < n = omega (arith, eqb-false n 0 e) in
          let ds = digits_of 10 n in
          let value = number_digits_of 10 n (omega arith) in
          ap (λ l. At encoding s here (l ++ end)) (decimal-digits_of n lt (omega (arith, small)))
          ∙ some ds (first_digits_of 10 n (omega arith) lt) (all_below_base_digits_of 10 n (omega arith)) (omega (arith, value, small))
          ∙ ap (λ k. At encoding (with_next s k) (h.spaces ∷ behind) end) value

  -- ---- lengths

  comma_skips : (s : State) (k : List Rule) (bs : List ℕ) → At encoding s (more_digits ∷ h.spaces ∷ k) (44 ∷ bs) ≡ At encoding s (h.spaces ∷ k) (44 ∷ bs)
  unfolding has
  comma_skips s k bs =
      alike encoding s (more_digits ∷ h.spaces ∷ k) (h.spaces ∷ k) 44 bs
      (comma_kind (λ t. reading.step (more_digits ∷ h.spaces ∷ k) (t ∷ kinds_of bs) ≡ reading.step (h.spaces ∷ k) (t ∷ kinds_of bs)) refl refl bs)

  -- further lengths, each behind a comma
  abbrev more_text : List ℕ → List ℕ
  more_text ms = flat_map (λ q. codes ", " ++ q) (map decimal ms)

  tail_skips : (s : State) (k : List Rule) (ms after : List ℕ)
      → At encoding s (more_digits ∷ h.spaces ∷ k) (more_text ms ++ 41 ∷ after) ≡ At encoding s (h.spaces ∷ k) (more_text ms ++ 41 ∷ after)
  unfolding has
  tail_skips s k [] after = refl
  tail_skips s k (m ∷ ms) after = comma_skips s k ((32 ∷ decimal m) ++ more_text ms ++ 41 ∷ after)

  comma_go : (s : State) (here next : List Rule) (bs : List ℕ)
      → ((t : ℕ) → (t ≡ h.comma_before_quote) ⊎ (t ≡ h.other_comma) → reading.step here (t ∷ kinds_of (32 ∷ bs)) ≡ Taken h.mark (h.spaces ∷ next))
      → At encoding s here (44 ∷ 32 ∷ bs) ≡ At encoding s (h.spaces ∷ next) bs
  unfolding has
  comma_go s here next bs takes =
      taken encoding s here (h.spaces ∷ next) h.mark 44 (32 ∷ bs)
      (comma_kind (λ t. reading.step here (t ∷ kinds_of (32 ∷ bs)) ≡ Taken h.mark (h.spaces ∷ next)) (takes h.comma_before_quote (inl refl)) (takes h.other_comma (inr refl)) (32 ∷ bs))

  abbrev further : List Rule
  further = more_lengths ∷ shape_end

  further_stands : (ms after : List ℕ) → Stands (h.spaces ∷ h.number ∷ further) further (more_text ms ++ 41 ∷ after)
  unfolding has
  further_stands ms after = record { zero_here = λ ts. refl; other_here = λ ts. refl; skips = λ s. tail_skips s further ms after }

  second_stands : (ms after : List ℕ) → Stands (h.spaces ∷ second_length ∷ shape_end) further (more_text ms ++ 41 ∷ after)
  unfolding has
  second_stands ms after = record { zero_here = λ ts. refl; other_here = λ ts. refl; skips = λ s. tail_skips s further ms after }

  abbrev behind_one : List Rule
  behind_one = rules.Then h.comma second_length ∷ shape_end

  first_stands : (m : ℕ) (ms after : List ℕ) → Stands in_shape behind_one (more_text (m ∷ ms) ++ 41 ∷ after)
  unfolding has
  first_stands m ms after = record { zero_here = λ ts. refl; other_here = λ ts. refl; skips = λ s. tail_skips s behind_one (m ∷ ms) after }

  only_stands : (after : List ℕ) → Stands in_shape behind_one (44 ∷ 41 ∷ after)
  unfolding has
  only_stands after = record { zero_here = λ ts. refl; other_here = λ ts. refl; skips = λ s. refl }

  tail_go : (s : State) (before : List ℕ) (last : ℕ) (ms after : List ℕ) → AreShort ms
      → At encoding (measured s before last) (h.spaces ∷ further) (more_text ms ++ 41 ∷ after) ≡ At encoding (measured s (fronts before last ms) (lasts last ms)) behind_next after
  unfolding has
  tail_go s before last [] after small = refl
  tail_go s before last (m ∷ ms) after small =
      ap (λ l. At encoding (measured s before last) (h.spaces ∷ further) (44 ∷ 32 ∷ l)) (append_assoc (decimal m) (more_text ms) (41 ∷ after))
      ∙ comma_go (measured s before last) (h.spaces ∷ further) (h.number ∷ further) (decimal m ++ (more_text ms ++ 41 ∷ after)) (λ t w. elim w [
        | inl e ↦ ap (λ k. reading.step (h.spaces ∷ further) (k ∷ kinds_of (32 ∷ (decimal m ++ (more_text ms ++ 41 ∷ after))))) e
        | inr e ↦ ap (λ k. reading.step (h.spaces ∷ further) (k ∷ kinds_of (32 ∷ (decimal m ++ (more_text ms ++ 41 ∷ after))))) e
      ])
      ∙ length_go (measured s before last) m (h.spaces ∷ h.number ∷ further) further (more_text ms ++ 41 ∷ after) (further_stands ms after) small.0
      ∙ tail_go s (before ++ last ∷ []) m ms after small.1

  -- ---- shapes

  apart : (a b c after : List ℕ) → a ++ b ++ c ++ 41 ∷ [] ++ after ≡ a ++ (b ++ (c ++ 41 ∷ after))
  apart a b c after = append_assoc (a ++ b ++ c) (41 ∷ []) after ∙ append_assoc (a ++ b) c (41 ∷ after) ∙ append_assoc a b (c ++ 41 ∷ after)

  opens : (s : State) (bs : List ℕ) → At encoding s before_shape (40 ∷ bs) ≡ At encoding s in_shape bs
  unfolding has
  opens s bs = refl

  pub shape_go : (s : State) (shape after : List ℕ) → s.shape ≡ [] → s.last ≡ None → AreShort shape
      → At encoding s before_shape (tuple_text shape ++ after) ≡ At encoding (sized s shape) behind_next after
  unfolding has
  shape_go s [] after empty none small = refl
  shape_go s (n ∷ []) after empty none small =
      ap (λ l. At encoding s before_shape (40 ∷ l)) (apart (decimal n) [] (44 ∷ []) after)
      ∙ opens s (decimal n ++ 44 ∷ 41 ∷ after)
      ∙ length_go s n in_shape behind_one (44 ∷ 41 ∷ after) (only_stands after) small.0
      ∙ ap (λ l. At encoding (measured s l n) behind_next after) (ap₂ (λ xs o. xs ++ option_to_list o) empty none)
  shape_go s (n ∷ m ∷ ms) after empty none small =
      let rest = more_text ms ++ 41 ∷ after in
      ap (λ b. At encoding s before_shape (40 ∷ (decimal n ++ more_text (m ∷ ms) ++ (if b then codes "," else []) ++ 41 ∷ [] ++ after))) (ne_eqb (length (n ∷ m ∷ ms)) 1 (λ e. omega (arith, e)))
      ∙ ap (λ l. At encoding s before_shape (40 ∷ l)) (apart (decimal n) (more_text (m ∷ ms)) [] after)
      ∙ opens s (decimal n ++ (more_text (m ∷ ms) ++ 41 ∷ after))
      ∙ length_go s n in_shape behind_one (more_text (m ∷ ms) ++ 41 ∷ after) (first_stands m ms after) small.0
      ∙ ap (λ l. At encoding (measured s l n) (h.spaces ∷ behind_one) (more_text (m ∷ ms) ++ 41 ∷ after)) (ap₂ (λ xs o. xs ++ option_to_list o) empty none)
      ∙ ap (λ l. At encoding (measured s [] n) (h.spaces ∷ behind_one) (44 ∷ 32 ∷ l)) (append_assoc (decimal m) (more_text ms) (41 ∷ after))
      ∙ comma_go (measured s [] n) (h.spaces ∷ behind_one) (second_length ∷ shape_end) (decimal m ++ rest) (λ t w. elim w [
        | inl e ↦ ap (λ k. reading.step (h.spaces ∷ behind_one) (k ∷ kinds_of (32 ∷ (decimal m ++ rest)))) e
        | inr e ↦ ap (λ k. reading.step (h.spaces ∷ behind_one) (k ∷ kinds_of (32 ∷ (decimal m ++ rest)))) e
      ])
      ∙ length_go (measured s [] n) m (h.spaces ∷ second_length ∷ shape_end) further rest (second_stands ms after) small.1.0
      ∙ tail_go s (n ∷ []) m ms after small.1.1
