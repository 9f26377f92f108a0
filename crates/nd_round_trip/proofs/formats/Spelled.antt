-- Written formats are texts of the grammar.
use Rattle.std.proofs.Common.{◌≡◌, ℕ, zero, suc, ◌+◌, ◌==◌, ◌<◌, Bool, true, false, List, [], ◌∷◌, ◌++◌, map, length, get_or, inl, inr, refl, sym, ap, ◌∙◌, arith, if◌then◌else◌, subst, append_assoc, append-nil}
use Rattle.std.proofs.lemmas.Bool.{eqb-false}
use Rattle.std.proofs.lemmas.List.{map-append}
use Rattle.std.proofs.lemmas.Int.Digits.{all_below_base_digits_of, first_digits_of}
use Rattle.std.specs.Int.Digits.{digits_of, AllBelowBase}
use Rattle.nd_model.specs.Arrays.Element.{Kind, Boolean, Int8, Int16, Int32, Int64, UInt8, UInt16, UInt32, UInt64, Element, size_of}
use Rattle.nd_model.specs.Grammar.Grammar.{has}
use Rattle.nd_model.specs.Formats.Rules as rules
use Rattle.nd_model.specs.Formats.Rules.{Rule, Part, Spans, Repeats}
use Rattle.nd_model.specs.Formats.FormatGrammar as g
use Rattle.nd_model.specs.Formats.FormatGrammar.{byte_kind}
use Rattle.nd_round_trip.proofs.formats.Marks.{Mark, code_byte, order_byte, order_marks, digit_mark, count_marks, cross_marks, pad_marks}

abbrev pub part_of : Mark → Part
part_of m = record { role = m.0; kind = byte_kind m.1 }

abbrev pub parts : List Mark → List Part
parts ms = map part_of ms

-- the marks are a text of the rule
abbrev pub Reads : Rule → List Mark → Type 0
Reads r ms = (rest : List Part) → Spans r (parts ms ++ rest) rest

pub one : (role set : ℕ) (b : ℕ) → has set (byte_kind b) ≡ true → Reads (rules.One role set) ((role, b) ∷ [])
one role set b e rest = (part_of (role, b), refl, refl, e)

apart : (ms ns : List Mark) (rest : List Part) → parts ms ++ (parts ns ++ rest) ≡ parts (ms ++ ns) ++ rest
apart ms ns rest = sym (append_assoc (parts ms) (parts ns) rest) ∙ ap (λ l. l ++ rest) (sym (map-append part_of ms ns))

pub both : (a b : Rule) (ms ns : List Mark) → Reads a ms → Reads b ns → Reads (rules.Then a b) (ms ++ ns)
both a b ms ns x y rest = subst (λ ps. Spans (rules.Then a b) ps rest) (apart ms ns rest) (parts ns ++ rest, x (parts ns ++ rest), y rest)

pub none : (set : ℕ) (a : Rule) → Reads (rules.Many set a) []
none set a rest = (0, refl)

pub more : (set : ℕ) (a : Rule) (ms ns : List Mark) → Reads a ms → Reads (rules.Many set a) ns → Reads (rules.Many set a) (ms ++ ns)
more set a ms ns x y rest =
    let all = y rest in
    subst (λ ps. Spans (rules.Many set a) ps rest) (apart ms ns rest) (suc all.0, (parts ns ++ rest, x (parts ns ++ rest), all.1))

pub single : (set : ℕ) (a : Rule) (ms : List Mark) → Reads a ms → Reads (rules.Many set a) ms
single set a ms x = subst (Reads (rules.Many set a)) (append-nil ms) (more set a ms [] x (none set a))

repeats : (R : List Part → List Part → Type 0) (n m : ℕ) (ps mid rest : List Part) → Repeats R n ps mid → Repeats R m mid rest → Repeats R (n + m) ps rest
repeats R zero m ps mid rest x y = subst (λ k. Repeats R k ps rest) (let same : m ≡ 0 + m = omega arith in same) (subst (λ l. Repeats R m l rest) x y)
repeats R (suc n) m ps mid rest x y =
    subst (λ k. Repeats R k ps rest) (let same : suc (n + m) ≡ suc n + m = omega arith in same) (x.0, x.1, repeats R n m x.0 mid rest x.2 y)

pub joined : (set : ℕ) (a : Rule) (ms ns : List Mark) → Reads (rules.Many set a) ms → Reads (rules.Many set a) ns → Reads (rules.Many set a) (ms ++ ns)
joined set a ms ns x y rest =
    let one = x (parts ns ++ rest) in
    let other = y rest in
    subst (λ ps. Spans (rules.Many set a) ps rest) (apart ms ns rest) (one.0 + other.0, repeats (Spans a) one.0 other.0 (parts ms ++ (parts ns ++ rest)) (parts ns ++ rest) rest one.1 other.1)

pub spaces : Reads g.spaces []
spaces = none g.SPACE (rules.One g.SPACE_ROLE g.SPACE)

-- ---- orders and codes

order : (big : Bool) → Reads g.order ((g.ORDER_ROLE, order_byte big) ∷ [])
unfolding has
order true = both (rules.One g.ORDER_ROLE g.ORDER) g.spaces ((g.ORDER_ROLE, 62) ∷ []) [] (one g.ORDER_ROLE g.ORDER 62 refl) spaces
order false = both (rules.One g.ORDER_ROLE g.ORDER) g.spaces ((g.ORDER_ROLE, 60) ∷ []) [] (one g.ORDER_ROLE g.ORDER 60 refl) spaces

-- where an order character may stand among others
pub orders : (set : ℕ) (a : Rule) → ((ms : List Mark) → Reads g.order ms → Reads a ms) → (e : Element) → Reads (rules.Many set a) (order_marks e)
orders set a into e = by (size_of e.kind == 1)
  where
    by : (b : Bool) → Reads (rules.Many set a) (if b then [] else (g.ORDER_ROLE, order_byte e.big) ∷ [])
    by true = none set a
    by false = single set a ((g.ORDER_ROLE, order_byte e.big) ∷ []) (into ((g.ORDER_ROLE, order_byte e.big) ∷ []) (order e.big))

pub is_code : (k : Kind) → has g.CODE (byte_kind (code_byte k)) ≡ true
unfolding has
is_code Boolean = refl
is_code Int8 = refl
is_code Int16 = refl
is_code Int32 = refl
is_code Int64 = refl
is_code UInt8 = refl
is_code UInt16 = refl
is_code UInt32 = refl
is_code UInt64 = refl

-- ---- pads

digit_kind : (d : ℕ) → d < 10 → has g.DIGIT (byte_kind (48 + d)) ≡ true
unfolding has
digit_kind zero lt = refl
digit_kind (suc zero) lt = refl
digit_kind (suc (suc zero)) lt = refl
digit_kind (suc (suc (suc zero))) lt = refl
digit_kind (suc (suc (suc (suc zero)))) lt = refl
digit_kind (suc (suc (suc (suc (suc zero))))) lt = refl
digit_kind (suc (suc (suc (suc (suc (suc zero)))))) lt = refl
digit_kind (suc (suc (suc (suc (suc (suc (suc zero))))))) lt = refl
digit_kind (suc (suc (suc (suc (suc (suc (suc (suc zero)))))))) lt = refl
digit_kind (suc (suc (suc (suc (suc (suc (suc (suc (suc zero))))))))) lt = refl
digit_kind (suc (suc (suc (suc (suc (suc (suc (suc (suc (suc n)))))))))) lt = absurd (omega (arith, lt))

digits : (ds : List ℕ) → AllBelowBase 10 ds → Reads (rules.Many g.DIGIT g.digit) (map digit_mark ds)
digits [] all = none g.DIGIT g.digit
digits (d ∷ ds) all = more g.DIGIT g.digit (digit_mark d ∷ []) (map digit_mark ds) (one g.DIGIT_ROLE g.DIGIT (48 + d) (digit_kind d all.0)) (digits ds all.1)

cross : Reads g.cross cross_marks
unfolding has
cross = one g.PAD_ROLE g.CROSS 120 refl

-- a count has a digit
count : (ds : List ℕ) → AllBelowBase 10 ds → 0 < length ds → Reads g.many_pads (map digit_mark ds ++ cross_marks)
count [] all some = absurd (omega (arith, some))
count (d ∷ ds) all some =
    both g.digit (rules.Then (rules.Many g.DIGIT g.digit) g.cross) (digit_mark d ∷ []) (map digit_mark ds ++ cross_marks)
    (one g.DIGIT_ROLE g.DIGIT (48 + d) (digit_kind d all.0))
    (both (rules.Many g.DIGIT g.digit) g.cross (map digit_mark ds) cross_marks (digits ds all.1) cross)

pub pads : (set : ℕ) (a : Rule) → ((ms : List Mark) → Reads g.pad ms → Reads a ms) → (n : ℕ) → Reads (rules.Many set a) (pad_marks n)
pads set a into n = by (n == 0) refl (n == 1)
  where
    as_pad : (ms : List Mark) → Reads (rules.Or g.DIGIT g.many_pads g.cross) ms → Reads g.pad ms
    as_pad ms x = subst (Reads g.pad) (append-nil ms) (both (rules.Or g.DIGIT g.many_pads g.cross) g.spaces ms [] x spaces)

    begins : (ds : List ℕ) → 0 < get_or ds 0 0 → 0 < length ds
    begins [] lt = lt
    begins (d ∷ ds) lt = omega arith

    counted : 0 < n → Reads g.many_pads (count_marks n ++ cross_marks)
    counted some = count (digits_of 10 n) (all_below_base_digits_of 10 n (omega arith)) (begins (digits_of 10 n) (first_digits_of 10 n (omega arith) some))

    by : (b : Bool) → (n == 0) ≡ b → (c : Bool) → Reads (rules.Many set a) (if b then [] else if c then cross_marks else count_marks n ++ cross_marks)
    by true e c = none set a
    by false e true = single set a cross_marks (into cross_marks (as_pad cross_marks (λ rest. inr (cross rest))))
    by false e false = single set a (count_marks n ++ cross_marks) (into (count_marks n ++ cross_marks) (as_pad (count_marks n ++ cross_marks) (λ rest. inl (counted (omega (arith, eqb-false n 0 e)) rest))))
