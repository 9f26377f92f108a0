-- Kinds of bytes in written headers.
use Rattle.std.proofs.Common.{◌≡◌, ℕ, zero, suc, ◌+◌, ◌-◌, ◌<◌, ◌==◌, nat_le, Bool, true, false, ◌&&◌, ◌||◌, List, refl, ap, ◌∙◌, arith, codes, if◌then◌else◌}
use Rattle.nd_model.specs.Grammar.Grammar.{has}
use Rattle.nd_model.specs.Formats.NpyHeader as h
use Rattle.nd_model.specs.Formats.NpyHeader.{kind_of}

-- what may stand inside a text in single quotes
abbrev pub inner : ℕ
inner = h.all_kinds - h.single_quotes

other_kind : (sp li ze di t r u e f a l s : Bool) → has inner (if sp then h.space else (if li then h.line_space else (if ze then h.zero_digit else (if di then h.other_digit else (if t then h.capital_t else (if r then h.letter_r else (if u then h.letter_u else (if e then h.letter_e else (if f then h.capital_f else (if a then h.letter_a else (if l then h.letter_l else (if s then h.letter_s else (h.other_byte))))))))))))) ≡ true
unfolding has
other_kind true li ze di t r u e f a l s = refl
other_kind false true ze di t r u e f a l s = refl
other_kind false false true di t r u e f a l s = refl
other_kind false false false true t r u e f a l s = refl
other_kind false false false false true r u e f a l s = refl
other_kind false false false false false true u e f a l s = refl
other_kind false false false false false false true e f a l s = refl
other_kind false false false false false false false true f a l s = refl
other_kind false false false false false false false false true a l s = refl
other_kind false false false false false false false false false true l s = refl
other_kind false false false false false false false false false false true s = refl
other_kind false false false false false false false false false false false true = refl
other_kind false false false false false false false false false false false false = refl

mark_kind : (c1 c2 c3 c4 c5 c6 c7 co q : Bool) (k : ℕ) → has inner k ≡ true → has inner (if c1 then h.open_brace else (if c2 then h.close_brace else (if c3 then h.open_bracket else (if c4 then h.close_bracket else (if c5 then h.open_parenthesis else (if c6 then h.close_parenthesis else (if c7 then h.colon else (if co then (if q then h.comma_before_quote else h.other_comma) else k)))))))) ≡ true
unfolding has
mark_kind true c2 c3 c4 c5 c6 c7 co q k is = refl
mark_kind false true c3 c4 c5 c6 c7 co q k is = refl
mark_kind false false true c4 c5 c6 c7 co q k is = refl
mark_kind false false false true c5 c6 c7 co q k is = refl
mark_kind false false false false true c6 c7 co q k is = refl
mark_kind false false false false false true c7 co q k is = refl
mark_kind false false false false false false true co q k is = refl
mark_kind false false false false false false false true true k is = refl
mark_kind false false false false false false false true false k is = refl
mark_kind false false false false false false false false q k is = is

double_kind : (quote d f s : Bool) (k : ℕ) → has inner k ≡ true
    → has inner (if quote then (if d then h.double_descr else (if f then h.double_fortran else (if s then h.double_shape else h.double_other))) else k) ≡ true
unfolding has
double_kind true true f s k is = refl
double_kind true false true s k is = refl
double_kind true false false true k is = refl
double_kind true false false false k is = refl
double_kind false d f s k is = is

pub inner_kind : (b : ℕ) (rest : List ℕ) → (b == 39) ≡ false → has inner (kind_of b rest) ≡ true
inner_kind b rest other =
    ap (λ c. has inner (if c then h.by_key 39 rest h.single_other h.single_descr h.single_fortran h.single_shape else no_quote)) other
    ∙ double_kind (b == 34) (h.starts rest (codes "descr") 34) (h.starts rest (codes "fortran_order") 34) (h.starts rest (codes "shape") 34) no_double
    (mark_kind (b == 123) (b == 125) (b == 91) (b == 93) (b == 40) (b == 41) (b == 58) (b == 44) (h.quote_ahead rest) no_mark
    (other_kind (b == 32) (b == 9 || b == 10) (b == 48) (nat_le 49 b && nat_le b 57) (b == 84) (b == 114) (b == 117) (b == 101) (b == 70) (b == 97) (b == 108) (b == 115)))
  where
    no_mark : ℕ
    no_mark = if b == 32 then h.space else (if b == 9 || b == 10 then h.line_space else (if b == 48 then h.zero_digit else (if nat_le 49 b && nat_le b 57 then h.other_digit else (if b == 84 then h.capital_t else (if b == 114 then h.letter_r else (if b == 117 then h.letter_u else (if b == 101 then h.letter_e else (if b == 70 then h.capital_f else (if b == 97 then h.letter_a else (if b == 108 then h.letter_l else (if b == 115 then h.letter_s else (h.other_byte))))))))))))

    no_double : ℕ
    no_double = if b == 123 then h.open_brace else (if b == 125 then h.close_brace else (if b == 91 then h.open_bracket else (if b == 93 then h.close_bracket else (if b == 40 then h.open_parenthesis else (if b == 41 then h.close_parenthesis else (if b == 58 then h.colon else (if b == 44 then (if h.quote_ahead rest then h.comma_before_quote else h.other_comma) else no_mark)))))))

    no_quote : ℕ
    no_quote = if b == 34 then h.by_key 34 rest h.double_other h.double_descr h.double_fortran h.double_shape else no_double

-- a quote is one of four
pub quote_kind : (P : ℕ → Type 0) → P h.single_other → P h.single_descr → P h.single_fortran → P h.single_shape → (rest : List ℕ) → P (kind_of 39 rest)
quote_kind P other descr fortran shape rest = by (h.starts rest (codes "descr") 39) (h.starts rest (codes "fortran_order") 39) (h.starts rest (codes "shape") 39)
  where
    by : (d f s : Bool) → P (if d then h.single_descr else (if f then h.single_fortran else (if s then h.single_shape else h.single_other)))
    by true f s = descr
    by false true s = fortran
    by false false true = shape
    by false false false = other

-- a comma is one of two
pub comma_kind : (P : ℕ → Type 0) → P h.comma_before_quote → P h.other_comma → (rest : List ℕ) → P (kind_of 44 rest)
comma_kind P before other rest = by (h.quote_ahead rest)
  where
    by : (q : Bool) → P (if q then h.comma_before_quote else h.other_comma)
    by true = before
    by false = other

pub first_kind : (d : ℕ) (rest : List ℕ) → 0 < d → d < 10 → kind_of (48 + d) rest ≡ h.other_digit
first_kind zero rest some lt = absurd (omega (arith, some))
first_kind (suc zero) rest some lt = refl
first_kind (suc (suc zero)) rest some lt = refl
first_kind (suc (suc (suc zero))) rest some lt = refl
first_kind (suc (suc (suc (suc zero)))) rest some lt = refl
first_kind (suc (suc (suc (suc (suc zero))))) rest some lt = refl
first_kind (suc (suc (suc (suc (suc (suc zero)))))) rest some lt = refl
first_kind (suc (suc (suc (suc (suc (suc (suc zero))))))) rest some lt = refl
first_kind (suc (suc (suc (suc (suc (suc (suc (suc zero)))))))) rest some lt = refl
first_kind (suc (suc (suc (suc (suc (suc (suc (suc (suc zero))))))))) rest some lt = refl
first_kind (suc (suc (suc (suc (suc (suc (suc (suc (suc (suc n)))))))))) rest some lt = absurd (omega (arith, lt))

pub digit_kind : (d : ℕ) (rest : List ℕ) → d < 10 → has h.digits (kind_of (48 + d) rest) ≡ true
unfolding has
digit_kind zero rest lt = refl
digit_kind (suc d) rest lt = ap (has h.digits) (first_kind (suc d) rest (omega arith) lt)
