-- The name of a field is a name of the grammar.
use Rattle.std.proofs.Common.{◌≡◌, ℕ, zero, suc, ◌+◌, ◌/◌, ◌%◌, ◌==◌, ◌<◌, ◌≤◌, nat_le, nat_lt, Bool, true, false, not, ◌&&◌, ◌||◌, List, [], ◌∷◌, ◌++◌, map, length, inl, inr, refl, sym, ap, ◌∙◌, arith, if◌then◌else◌, cond, subst, length-append}
use Rattle.std.proofs.lemmas.Bool.{eqb-true, ne_eqb, leb-true, leb-false}
use Rattle.std.proofs.lemmas.List.{map-append, length-map}
use Rattle.std.proofs.lemmas.Str.{IsUtf8-from_is_utf8}
use Rattle.std.specs.Char.{encode_utf8}
use Rattle.std.specs.Str.{is_utf8, encode_utf8_all, all_scalars}
use Rattle.nd_model.specs.Grammar.Grammar.{has}
use Rattle.nd_model.specs.Arrays.Structure.{is_control, is_mark, are_name_bytes}
use Rattle.nd_model.specs.Formats.Rules as rules
use Rattle.nd_model.specs.Formats.Rules.{Part, Spans, Repeats}
use Rattle.nd_model.specs.Formats.FormatGrammar as g
use Rattle.nd_model.specs.Formats.FormatGrammar.{byte_kind}
use Rattle.nd_round_trip.proofs.formats.Marks.{Mark, name_mark}
use Rattle.nd_round_trip.proofs.formats.AllFields.{first, second}
use Rattle.nd_round_trip.proofs.formats.Spelled.{Reads, part_of, parts, one, both, none, more, joined}

turned : (b : Bool) → not b ≡ true → b ≡ false
turned true e = sym e
turned false e = refl

left : (a b : Bool) → (a || b) ≡ false → a ≡ false
left true b e = e
left false b e = refl

right : (a b : Bool) → (a || b) ≡ false → b ≡ false
right true b e = absurd (cc)
right false b e = e

-- ---- kinds of bytes

plain_byte : (o c x d t op cl co sp le ta ba : Bool) → co ≡ false → le ≡ false → ba ≡ false
    → has g.NAME_BYTE (if o then g.ORDER_KIND else (if c then g.CODE_KIND else (if x then g.CROSS_KIND else (if d then g.DIGIT_KIND else (if t then g.TEE_KIND else (if op then g.OPEN_KIND else (if cl then g.CLOSE_KIND else (if co then g.COLON_KIND else (if sp then g.SPACE_KIND else (if le then g.LEAD_KIND else (if ta then g.TAIL_KIND else (if ba then g.BARRED_KIND else g.PLAIN_KIND)))))))))))) ≡ true
unfolding has
plain_byte true c x d t op cl co sp le ta ba e f h = refl
plain_byte false true x d t op cl co sp le ta ba e f h = refl
plain_byte false false true d t op cl co sp le ta ba e f h = refl
plain_byte false false false true t op cl co sp le ta ba e f h = refl
plain_byte false false false false true op cl co sp le ta ba e f h = refl
plain_byte false false false false false true cl co sp le ta ba e f h = refl
plain_byte false false false false false false true co sp le ta ba e f h = refl
plain_byte false false false false false false false true sp le ta ba e f h = absurd (cc)
plain_byte false false false false false false false false true le ta ba e f h = refl
plain_byte false false false false false false false false false true ta ba e f h = absurd (cc)
plain_byte false false false false false false false false false false true ba e f h = refl
plain_byte false false false false false false false false false false false true e f h = absurd (cc)
plain_byte false false false false false false false false false false false false e f h = refl

-- a byte of a name that is not 194
name_kind : (b : ℕ) → (b == 194) ≡ false → (is_control 0 b || is_mark b) ≡ false → has g.NAME_BYTE (byte_kind b) ≡ true
name_kind b lead ok =
    plain_byte (g.is_order b) (g.is_code b) (b == 120) (g.is_digit b) (b == 84) (b == 123) (b == 125) (b == 58) (b == 32) (b == 194) (nat_le 128 b && nat_le b 159) (is_control 0 b || is_mark b)
    (left (b == 58) (b == 34) (left (b == 58 || b == 34) (b == 39) (left (b == 58 || b == 34 || b == 39) (b == 92) (right (is_control 0 b) (is_mark b) ok)))) lead ok

-- a byte past ASCII is no mark and no control character by itself
pub past_ascii : (b : ℕ) → 128 ≤ b → (is_control 0 b || is_mark b) ≡ false
past_ascii b le = λ i. (nat_lt_no i || no 127 (omega arith) i || false) || (no 58 (omega arith) i || no 34 (omega arith) i || no 39 (omega arith) i || no 92 (omega arith) i)
  where
    no : (k : ℕ) → k < 128 → (b == k) ≡ false
    no k lt = ne_eqb b k (λ e. omega (arith, e, lt, le))

    nat_lt_no : nat_lt b 32 ≡ false
    nat_lt_no = by (nat_lt b 32) refl
      where
        by : (c : Bool) → nat_lt b 32 ≡ c → c ≡ false
        by true e = let lt : suc b ≤ 32 = leb-true (suc b) 32 e in absurd (omega (arith, lt, le))
        by false e = refl

-- the second byte of a character from U+00A0 to U+00BF
second_kind : (b : ℕ) → 160 ≤ b → b ≤ 191 → has g.PLAIN (byte_kind b) ≡ true
unfolding has
second_kind b low high = λ i. has g.PLAIN (path i)
  where
    no : (k : ℕ) → k < 160 → (b == k) ≡ false
    no k lt = ne_eqb b k (λ e. omega (arith, e, lt, low))

    lead : (b == 194) ≡ false
    lead = ne_eqb b 194 (λ e. omega (arith, e, high))

    not_le : (k : ℕ) → k < 160 → nat_le b k ≡ false
    not_le k lt = by (nat_le b k) refl
      where
        by : (c : Bool) → nat_le b k ≡ c → c ≡ false
        by true e = let le : b ≤ k = leb-true b k e in absurd (omega (arith, le, lt, low))
        by false e = refl

    and-no : (c d : Bool) → d ≡ false → (c && d) ≡ false
    and-no true d e = e
    and-no false d e = refl

    no_order : g.is_order b ≡ false
    no_order = λ i. no 64 (omega arith) i || no 94 (omega arith) i || no 61 (omega arith) i || no 60 (omega arith) i || no 62 (omega arith) i || no 33 (omega arith) i

    no_code : g.is_code b ≡ false
    no_code = λ i. no 63 (omega arith) i || no 98 (omega arith) i || no 66 (omega arith) i || no 104 (omega arith) i || no 72 (omega arith) i || no 105 (omega arith) i || no 73 (omega arith) i || no 113 (omega arith) i || no 81 (omega arith) i || no 108 (omega arith) i || no 76 (omega arith) i

    no_digit : g.is_digit b ≡ false
    no_digit = and-no (nat_le 48 b) (nat_le b 57) (not_le 57 (omega arith))

    no_tail : (nat_le 128 b && nat_le b 159) ≡ false
    no_tail = and-no (nat_le 128 b) (nat_le b 159) (not_le 159 (omega arith))

    no_barred : (is_control 0 b || is_mark b) ≡ false
    no_barred = past_ascii b (omega (arith, low))

    path : byte_kind b ≡ g.PLAIN_KIND
    path = λ i.
        if no_order i then g.ORDER_KIND
        else (if no_code i then g.CODE_KIND
        else (if no 120 (omega arith) i then g.CROSS_KIND
        else (if no_digit i then g.DIGIT_KIND
        else (if no 84 (omega arith) i then g.TEE_KIND
        else (if no 123 (omega arith) i then g.OPEN_KIND
        else (if no 125 (omega arith) i then g.CLOSE_KIND
        else (if no 58 (omega arith) i then g.COLON_KIND
        else (if no 32 (omega arith) i then g.SPACE_KIND
        else (if lead i then g.LEAD_KIND
        else (if no_tail i then g.TAIL_KIND
        else (if no_barred i then g.BARRED_KIND else g.PLAIN_KIND)))))))))))

-- ---- characters

plain_part : (b : ℕ) → (b == 194) ≡ false → (is_control 0 b || is_mark b) ≡ false → Reads g.name_part (name_mark b ∷ [])
plain_part b lead ok rest = inr (one g.NAME_ROLE g.NAME_BYTE b (name_kind b lead ok) rest)

past_part : (b : ℕ) → 128 ≤ b → (b == 194) ≡ false → Reads g.name_part (name_mark b ∷ [])
past_part b le lead = plain_part b lead (past_ascii b le)

lead_part : (b : ℕ) → 160 ≤ b → b ≤ 191 → Reads g.name_part (name_mark 194 ∷ name_mark b ∷ [])
unfolding has
lead_part b low high rest =
    inl (both (rules.One g.NAME_ROLE g.LEAD) (rules.One g.NAME_ROLE g.PLAIN) (name_mark 194 ∷ []) (name_mark b ∷ []) (one g.NAME_ROLE g.LEAD 194 refl) (one g.NAME_ROLE g.PLAIN b (second_kind b low high)) rest)

step : (ms ns : List Mark) → Reads g.name_part ms → Reads (rules.Many g.NAME g.name_part) ns → Reads (rules.Many g.NAME g.name_part) (ms ++ ns)
step ms ns x y = more g.NAME g.name_part ms ns x y

nothing : Reads (rules.Many g.NAME g.name_part) []
nothing = none g.NAME g.name_part

-- a byte of ASCII in a name
own_mark : (before b : ℕ) (bs : List ℕ) → are_name_bytes before (b ∷ bs) ≡ true → b < 128 → (is_control 0 b || is_mark b) ≡ false
own_mark before b bs ok lt =
    let free : (is_control before b || is_mark b) ≡ false = turned (is_control before b || is_mark b) (first (not (is_control before b || is_mark b)) (are_name_bytes b bs) ok) in
    let control : is_control before b ≡ false = left (is_control before b) (is_mark b) free in
    let low : (nat_lt b 32 || b == 127) ≡ false = left (nat_lt b 32 || b == 127) (before == 194 && nat_le 128 b && nat_le b 159) control in
    λ i. (low i || false) || right (is_control before b) (is_mark b) free i

-- behind 194 there stands no second byte of a control character
behind_lead : (before b : ℕ) (bs : List ℕ) → are_name_bytes before (194 ∷ b ∷ bs) ≡ true → 128 ≤ b → 160 ≤ b
behind_lead before b bs ok le =
    let on : are_name_bytes 194 (b ∷ bs) ≡ true = second (not (is_control before 194 || is_mark 194)) (are_name_bytes 194 (b ∷ bs)) ok in
    let free : (is_control 194 b || is_mark b) ≡ false = turned (is_control 194 b || is_mark b) (first (not (is_control 194 b || is_mark b)) (are_name_bytes b bs) on) in
    let tail : (nat_le 128 b && nat_le b 159) ≡ false = right (nat_lt b 32 || b == 127) (nat_le 128 b && nat_le b 159) (left (is_control 194 b) (is_mark b) free) in
    by (nat_le 128 b) refl (nat_le b 159) refl tail
  where
    by : (c : Bool) → nat_le 128 b ≡ c → (d : Bool) → nat_le b 159 ≡ d → (c && d) ≡ false → 160 ≤ b
    by true e true f none = absurd (cc)
    by true e false f none = let above = leb-false b 159 f in omega (arith, above)
    by false e d f none = let below = leb-false 128 b e in absurd (omega (arith, below, le))

-- the bytes behind a front are name bytes too
later : (before : ℕ) (xs ys : List ℕ) → are_name_bytes before (xs ++ ys) ≡ true → (last : ℕ) × (are_name_bytes last ys ≡ true)
later before [] ys ok = (before, ok)
later before (x ∷ xs) ys ok = later x xs ys (second (not (is_control before x || is_mark x)) (are_name_bytes x (xs ++ ys)) ok)

character : (c before : ℕ) (bs : List ℕ) → are_name_bytes before (encode_utf8 c ++ bs) ≡ true → Reads (rules.Many g.NAME g.name_part) (map name_mark (encode_utf8 c))
unfolding encode_utf8
character c before bs ok = by (nat_lt c 128) refl (nat_lt c 2048) (nat_lt c 65536) ok
  where
    past : (b : ℕ) → 128 ≤ b → (b ≡ 194 → ⊥) → Reads g.name_part (name_mark b ∷ [])
    past b le other = past_part b le (ne_eqb b 194 other)

    next_low : (x : ℕ) → 128 ≤ 128 + x % 64
    next_low x = omega arith

    next_high : (x : ℕ) → 128 + x % 64 ≤ 191
    next_high x = omega arith

    next : (x : ℕ) → Reads g.name_part (name_mark (128 + x % 64) ∷ [])
    next x = let high = next_high x in past (128 + x % 64) (next_low x) (λ e. omega (arith, e, high))

    two : (a b : ℕ) → are_name_bytes before (a ∷ b ∷ bs) ≡ true → 192 ≤ a → 128 ≤ b → b ≤ 191 → (x : Bool) → (a == 194) ≡ x → Reads (rules.Many g.NAME g.name_part) (name_mark a ∷ name_mark b ∷ [])
    two a b ok high low top true e =
        let is : a ≡ 194 = eqb-true a 194 e in
        let above : 160 ≤ b = behind_lead before b bs (subst (λ k. are_name_bytes before (k ∷ b ∷ bs) ≡ true) is ok) low in
        subst (λ k. Reads (rules.Many g.NAME g.name_part) (name_mark k ∷ name_mark b ∷ [])) (sym is) (step (name_mark 194 ∷ name_mark b ∷ []) [] (lead_part b above top) nothing)
    two a b ok high low top false e =
        step (name_mark a ∷ []) (name_mark b ∷ []) (past_part a (omega (arith, high)) e) (step (name_mark b ∷ []) [] (past b low (λ f. omega (arith, f, top))) nothing)

    by : (x : Bool) → nat_lt c 128 ≡ x → (y z : Bool) → are_name_bytes before (cond x (c ∷ []) (cond y ((192 + c / 64) ∷ (128 + c % 64) ∷ []) (cond z ((224 + c / 4096) ∷ (128 + c / 64 % 64) ∷ (128 + c % 64) ∷ []) ((240 + c / 262144) ∷ (128 + c / 4096 % 64) ∷ (128 + c / 64 % 64) ∷ (128 + c % 64) ∷ []))) ++ bs) ≡ true
        → Reads (rules.Many g.NAME g.name_part) (map name_mark (cond x (c ∷ []) (cond y ((192 + c / 64) ∷ (128 + c % 64) ∷ []) (cond z ((224 + c / 4096) ∷ (128 + c / 64 % 64) ∷ (128 + c % 64) ∷ []) ((240 + c / 262144) ∷ (128 + c / 4096 % 64) ∷ (128 + c / 64 % 64) ∷ (128 + c % 64) ∷ [])))))
    by true e y z ok =
        let lt : suc c ≤ 128 = leb-true (suc c) 128 e in
        step (name_mark c ∷ []) [] (plain_part c (ne_eqb c 194 (λ f. omega (arith, f, lt))) (own_mark before c bs ok (omega (arith, lt)))) nothing
    by false e true z ok = two (192 + c / 64) (128 + c % 64) ok (omega arith) (next_low c) (next_high c) (192 + c / 64 == 194) refl
    by false e false true ok =
        step (name_mark (224 + c / 4096) ∷ []) (name_mark (128 + c / 64 % 64) ∷ name_mark (128 + c % 64) ∷ []) (past (224 + c / 4096) (omega arith) (λ f. omega (arith, f)))
        (step (name_mark (128 + c / 64 % 64) ∷ []) (name_mark (128 + c % 64) ∷ []) (next (c / 64)) (step (name_mark (128 + c % 64) ∷ []) [] (next c) nothing))
    by false e false false ok =
        step (name_mark (240 + c / 262144) ∷ []) (name_mark (128 + c / 4096 % 64) ∷ name_mark (128 + c / 64 % 64) ∷ name_mark (128 + c % 64) ∷ []) (past (240 + c / 262144) (omega arith) (λ f. omega (arith, f)))
        (step (name_mark (128 + c / 4096 % 64) ∷ []) (name_mark (128 + c / 64 % 64) ∷ name_mark (128 + c % 64) ∷ []) (next (c / 4096))
        (step (name_mark (128 + c / 64 % 64) ∷ []) (name_mark (128 + c % 64) ∷ []) (next (c / 64)) (step (name_mark (128 + c % 64) ∷ []) [] (next c) nothing)))

characters : (cs : List ℕ) (before : ℕ) → are_name_bytes before (encode_utf8_all cs) ≡ true → Reads (rules.Many g.NAME g.name_part) (map name_mark (encode_utf8_all cs))
characters [] before ok = nothing
characters (c ∷ cs) before ok =
    let rest = later before (encode_utf8 c) (encode_utf8_all cs) ok in
    subst (Reads (rules.Many g.NAME g.name_part)) (sym (map-append name_mark (encode_utf8 c) (encode_utf8_all cs)))
    (joined g.NAME g.name_part (map name_mark (encode_utf8 c)) (map name_mark (encode_utf8_all cs)) (character c before (encode_utf8_all cs) ok) (characters cs rest.0 rest.1))

-- a name has a part
pub name_read : (bs : List ℕ) → is_utf8 bs ≡ true → are_name_bytes 0 bs ≡ true → 0 < length bs → Reads g.name (map name_mark bs)
name_read bs text ok some rest = by all.0 all.1
  where
    chars : (cs : List ℕ) × ((all_scalars cs ≡ true) × (encode_utf8_all cs ≡ bs))
    chars = IsUtf8-from_is_utf8 bs text

    many : Reads (rules.Many g.NAME g.name_part) (map name_mark bs)
    many = subst (λ l. Reads (rules.Many g.NAME g.name_part) (map name_mark l)) chars.1.1 (characters chars.0 0 (subst (λ l. are_name_bytes 0 l ≡ true) (sym chars.1.1) ok))

    all : Spans (rules.Many g.NAME g.name_part) (parts (map name_mark bs) ++ rest) rest
    all = many rest

    by : (n : ℕ) → Repeats (Spans g.name_part) n (parts (map name_mark bs) ++ rest) rest → Spans g.name (parts (map name_mark bs) ++ rest) rest
    by zero same =
        let long : length rest ≡ length (parts (map name_mark bs)) + length rest = ap length same ∙ length-append (parts (map name_mark bs)) rest in
        let marks : length (parts (map name_mark bs)) ≡ length bs = length-map (map name_mark bs) part_of ∙ length-map bs name_mark in
        absurd (omega (arith, long, marks, some))
    by (suc n) x = (x.0, x.1, (n, x.2))
