-- Columns that are as wide as the numbers of the elements.
use Rattle.std.proofs.Common.{◌≡◌, ℕ, suc, ◌+◌, ◌-◌, ◌≤◌, max, Bool, true, false, List, [], ◌∷◌, ◌++◌, map, length, get_or, drop, replicate, refl, sym, ap, ap₂, ◌∙◌, arith, length-append}
use Rattle.std.specs.Prelude.{sum_by}
use Rattle.std.specs.List.{All, flat_map}
use Rattle.std.proofs.lemmas.List.Sums.{sum_by-cons}
use Rattle.std.proofs.lemmas.List.{length-replicate}
use Rattle.std.proofs.lemmas.List.Elements.{All-map, All-cons}
use Rattle.nd_print.specs.declared.columns.Column.{Column}
use Rattle.nd_print.specs.Columns.{plain_text, wider_column, wider_columns}
use Rattle.nd_print.specs.Texts.{column_text, columns_text, element_text, text_at}
use Rattle.nd_print.specs.Lengths.{columns_len, element_len}

-- each number of the element is at most as wide as its column
abbrev pub AreWide : List ℕ → List Column → Type 0
AreWide element [] = Unit {0}
AreWide element (c ∷ cs) = (length (plain_text element c) ≤ c.width) × AreWide element cs

wide_now : (element : List ℕ) (cs : List Column) → AreWide element (map (wider_column element) cs)
wide_now element [] = tt
wide_now element (c ∷ cs) = (second c.width (length (plain_text element c)), wide_now element cs)
  where
    second : (a b : ℕ) → b ≤ max a b
    second a b = omega arith

wide_still : (element other : List ℕ) (cs : List Column) → AreWide element cs → AreWide element (map (wider_column other) cs)
wide_still element other [] h = tt
wide_still element other (c ∷ cs) h = (more (length (plain_text element c)) c.width (length (plain_text other c)) h.0, wide_still element other cs h.1)
  where
    more : (a b c : ℕ) → a ≤ b → a ≤ max b c
    more a b c le = omega arith

wide_by : (element bytes places : List ℕ) (cs : List Column) → AreWide element cs → AreWide element (wider_columns bytes places cs)
wide_by element bytes [] cs h = h
wide_by element bytes (p ∷ ps) cs h = wide_by element bytes ps (map (wider_column (drop p bytes)) cs) (wide_still element (drop p bytes) cs h)

pub wide_all : (bytes places : List ℕ) (cs : List Column) → All (λ p. AreWide (drop p bytes) (wider_columns bytes places cs)) places
wide_all bytes [] cs = λ k d lt. absurd (omega arith)
wide_all bytes (p ∷ ps) cs =
    let more : List Column = map (wider_column (drop p bytes)) cs in
    All-cons (λ q. AreWide (drop q bytes) (wider_columns bytes ps more)) p ps (wide_by (drop p bytes) bytes ps more (wide_now (drop p bytes) cs)) (wide_all bytes ps more)

-- ---- lengths

length-column : (element : List ℕ) (c : Column) → length (plain_text element c) ≤ c.width → length (column_text element c) ≡ c.width
length-column element c le =
    length-append (replicate (c.width - length (plain_text element c)) 32) (plain_text element c)
    ∙ ap (λ n. n + length (plain_text element c)) (length-replicate (c.width - length (plain_text element c)) 32)
    ∙ back c.width (length (plain_text element c)) le
  where
    back : (a b : ℕ) → b ≤ a → (a - b) + b ≡ a
    back a b le = omega arith

length-further : (element : List ℕ) (cs : List Column) → AreWide element cs
    → length (flat_map (λ q. (44 ∷ 32 ∷ []) ++ q) (map (column_text element) cs)) ≡ sum_by (λ (d : Column). d.width + 2) cs
length-further element [] h = refl
length-further element (c ∷ cs) h =
    length-append ((44 ∷ 32 ∷ []) ++ column_text element c) (flat_map (λ q. (44 ∷ 32 ∷ []) ++ q) (map (column_text element) cs))
    ∙ ap₂ (λ a b. a + b) (two (length (column_text element c)) c.width (length-column element c h.0)) (length-further element cs h.1)
    ∙ sym (sum_by-cons (λ (d : Column). d.width + 2) c cs)
  where
    two : (a b : ℕ) → a ≡ b → suc (suc a) ≡ b + 2
    two a b e = omega arith

length-columns : (element : List ℕ) (cs : List Column) → AreWide element cs → length (columns_text cs element) ≡ columns_len cs
length-columns element [] h = refl
length-columns element (c ∷ cs) h =
    length-append (column_text element c) (flat_map (λ q. (44 ∷ 32 ∷ []) ++ q) (map (column_text element) cs))
    ∙ ap₂ (λ a b. a + b) (length-column element c h.0) (length-further element cs h.1)

closed : (t : List ℕ) (n : ℕ) → length t ≡ n → length (40 ∷ t ++ 41 ∷ []) ≡ n + 2
closed t n e = ap (λ m. suc m) (length-append t (41 ∷ [])) ∙ two (length t) n e
  where
    two : (a n : ℕ) → a ≡ n → suc (a + 1) ≡ n + 2
    two a n e = omega arith

closed_alone : (t : List ℕ) (n : ℕ) → length t ≡ n → length (40 ∷ t ++ 44 ∷ 41 ∷ []) ≡ n + 3
closed_alone t n e = ap (λ m. suc m) (length-append t (44 ∷ 41 ∷ [])) ∙ three (length t) n e
  where
    three : (a n : ℕ) → a ≡ n → suc (a + 2) ≡ n + 3
    three a n e = omega arith

pub length-element : (structure : Bool) (element : List ℕ) (cs : List Column) → AreWide element cs → length (element_text structure cs element) ≡ element_len structure cs
length-element false element cs h = length-columns element cs h
length-element true element [] h = refl
length-element true element (c ∷ []) h = closed_alone (column_text element c) c.width (length-column element c h.0)
length-element true element (c ∷ d ∷ cs) h = closed (columns_text (c ∷ d ∷ cs) element) (columns_len (c ∷ d ∷ cs)) (length-columns element (c ∷ d ∷ cs) h)

-- every element has that length
pub length-elements : (structure : Bool) (bytes places : List ℕ) (cs : List Column)
    → All (λ t. length t ≡ element_len structure (wider_columns bytes places cs)) (map (text_at structure (wider_columns bytes places cs) bytes) places)
length-elements structure bytes places cs =
    All-map (λ t. length t ≡ element_len structure (wider_columns bytes places cs)) (text_at structure (wider_columns bytes places cs) bytes) places
    (λ k d lt. length-element structure (drop (get_or places k d) bytes) (wider_columns bytes places cs) (wide_all bytes places cs k d lt))

-- ---- wider columns, longer elements

module _ (element : List ℕ) where
  more_sum : (cs : List Column) → sum_by (λ (d : Column). d.width + 2) cs ≤ sum_by (λ (d : Column). d.width + 2) (map (wider_column element) cs)
  more_sum [] = omega arith
  more_sum (c ∷ cs) =
      rw (sum_by-cons (λ (d : Column). d.width + 2) c cs, sum_by-cons (λ (d : Column). d.width + 2) (wider_column element c) (map (wider_column element) cs))
      (both c.width (length (plain_text element c)) (sum_by (λ (d : Column). d.width + 2) cs) (sum_by (λ (d : Column). d.width + 2) (map (wider_column element) cs)) (more_sum cs))
    where
      both : (a b m n : ℕ) → m ≤ n → a + 2 + m ≤ max a b + 2 + n
      both a b m n le = omega arith

  more_columns : (cs : List Column) → columns_len cs ≤ columns_len (map (wider_column element) cs)
  more_columns [] = omega arith
  more_columns (c ∷ cs) = both c.width (length (plain_text element c)) (sum_by (λ (d : Column). d.width + 2) cs) (sum_by (λ (d : Column). d.width + 2) (map (wider_column element) cs)) (more_sum cs)
    where
      both : (a b m n : ℕ) → m ≤ n → a + m ≤ max a b + n
      both a b m n le = omega arith

  more_element : (structure : Bool) (cs : List Column) → element_len structure cs ≤ element_len structure (map (wider_column element) cs)
  more_element false cs = more_columns cs
  more_element true [] = omega arith
  more_element true (c ∷ []) = one c.width (length (plain_text element c))
    where
      one : (a b : ℕ) → a + 3 ≤ max a b + 3
      one a b = omega arith
  more_element true (c ∷ d ∷ cs) = more (columns_len (c ∷ d ∷ cs)) (columns_len (map (wider_column element) (c ∷ d ∷ cs))) (more_columns (c ∷ d ∷ cs))
    where
      more : (a b : ℕ) → a ≤ b → a + 2 ≤ b + 2
      more a b le = omega arith

pub more_elements : (structure : Bool) (bytes places : List ℕ) (cs : List Column) → element_len structure cs ≤ element_len structure (wider_columns bytes places cs)
more_elements structure bytes [] cs = omega arith
more_elements structure bytes (p ∷ ps) cs = through (more_element (drop p bytes) structure cs) (more_elements structure bytes ps (map (wider_column (drop p bytes)) cs))
  where
    through : {a b c : ℕ} → a ≤ b → b ≤ c → a ≤ c
    through x y = omega arith
