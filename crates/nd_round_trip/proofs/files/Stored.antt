-- Texts as a file has them: in Latin-1 where no character stands past it, else in UTF-8.
use Rattle.std.proofs.Common.{◌≡◌, ℕ, suc, ◌+◌, ◌/◌, ◌%◌, ◌<◌, ◌≤◌, ◌==◌, nat_le, nat_lt, Bool, true, false, not, ◌||◌, List, [], ◌∷◌, ◌++◌, refl, sym, ap, ap₂, ◌∙◌, arith, if◌then◌else◌, cond, append_assoc, append-nil, subst}
use Rattle.std.specs.List.{flat_map}
use Rattle.std.specs.Char.{encode_utf8}
use Rattle.std.specs.Str.{is_utf8, encode_utf8_all, all_scalars}
use Rattle.std.proofs.lemmas.Bool.{eqb-true, eqb-false, ne_eqb, leb-true, leb-false}
use Rattle.std.proofs.lemmas.Str.{IsUtf8-from_is_utf8}
use Rattle.nd_model.specs.Formats.NpyHeader.{Encoding, Latin1, Utf8, in_utf8}
use Rattle.nd_round_trip.proofs.files.Ascii.{AreAscii}
use Rattle.nd_round_trip.proofs.files.Fields.{first, second}
use Rattle.nd_round_trip.proofs.files.Pairs.{Unquoted}
use Rattle.nd_model.specs.Arrays.Structure.{is_control, is_mark, are_name_bytes}
use Rattle.nd_model.specs.Formats.NpyWriting.{is_past_latin, is_latin_lead, latin_bytes, encode}

-- how the header of a version is read
abbrev pub encoding_of : (is_wide : Bool) → Encoding
encoding_of false = Latin1
encoding_of true = Utf8

-- the bytes are stored as these ones, whatever stands behind them
abbrev pub IsStored : (is_wide : Bool) → (bytes stored : List ℕ) → Type 0
IsStored is_wide bytes stored = (rest : List ℕ) → encode is_wide (bytes ++ rest) ≡ stored ++ encode is_wide rest

pub both : (is_wide : Bool) (xs ys us vs : List ℕ) → IsStored is_wide xs ys → IsStored is_wide us vs → IsStored is_wide (xs ++ us) (ys ++ vs)
both is_wide xs ys us vs p q rest =
    ap (encode is_wide) (append_assoc xs us rest) ∙ p (us ++ rest) ∙ ap (λ l. ys ++ l) (q rest) ∙ sym (append_assoc ys vs (encode is_wide rest))

pub whole : (is_wide : Bool) (xs ys : List ℕ) → IsStored is_wide xs ys → encode is_wide xs ≡ ys
whole true xs ys p = sym (append-nil xs) ∙ p [] ∙ append-nil ys
whole false xs ys p = ap (latin_bytes 0) (sym (append-nil xs)) ∙ p [] ∙ append-nil ys

-- ---- ASCII

-- a byte that leads no character past ASCII does not matter to the next one
after_other : (before : ℕ) (rest : List ℕ) → (before == 195) ≡ false → latin_bytes before rest ≡ latin_bytes 0 rest
after_other before [] other = refl
after_other before (b ∷ rest) other = ap (λ c. (if is_latin_lead b then [] else (if c then (b + 64) % 256 else b) ∷ []) ++ latin_bytes b rest) other

no_lead : (b : ℕ) → (b ≡ 194 → ⊥) → (b ≡ 195 → ⊥) → is_latin_lead b ≡ false
no_lead b p q = ap₂ (λ x y. x || y) (ne_eqb b 194 p) (ne_eqb b 195 q)

ascii_byte : (b : ℕ) (rest : List ℕ) → b < 128 → latin_bytes 0 (b ∷ rest) ≡ b ∷ latin_bytes 0 rest
ascii_byte b rest lt =
    ap (λ c. (if c then [] else b ∷ []) ++ latin_bytes b rest) (no_lead b (λ e. omega (arith, e, lt)) (λ e. omega (arith, e, lt)))
    ∙ ap (λ l. b ∷ l) (after_other b rest (ne_eqb b 195 (λ e. omega (arith, e, lt))))

pub ascii : (is_wide : Bool) (bs : List ℕ) → AreAscii bs → IsStored is_wide bs bs
ascii true bs all rest = refl
ascii false [] all rest = refl
ascii false (b ∷ bs) all rest = ascii_byte b (bs ++ rest) all.0 ∙ ap (λ l. b ∷ l) (ascii false bs all.1 rest)

-- ---- names

pub past-append : (xs ys : List ℕ) → is_past_latin (xs ++ ys) ≡ (is_past_latin xs || is_past_latin ys)
past-append [] ys = refl
past-append (x ∷ xs) ys = ap (λ b. nat_le 196 x || b) (past-append xs ys) ∙ three (nat_le 196 x) (is_past_latin xs) (is_past_latin ys)
  where
    three : (a b c : Bool) → (a || (b || c)) ≡ (a || b || c)
    three true b c = refl
    three false b c = refl

pub left : (a b : Bool) → (a || b) ≡ false → a ≡ false
left true b e = e
left false b e = refl

pub right : (a b : Bool) → (a || b) ≡ false → b ≡ false
right true b e = absurd (cc)
right false b e = e

-- characters below U+0100
abbrev AreLatin : List ℕ → Type 0
AreLatin [] = Unit {0}
AreLatin (c ∷ cs) = (c < 256) × AreLatin cs

-- a character past U+00FF begins with a byte of 196 or more
latin_character : (c : ℕ) → is_past_latin (encode_utf8 c) ≡ false → c < 256
unfolding encode_utf8
latin_character c ok = by (nat_lt c 128) refl (nat_lt c 2048) refl (nat_lt c 65536) ok
  where
    lead : (b : ℕ) (bs : List ℕ) → is_past_latin (b ∷ bs) ≡ false → b < 196
    lead b bs e = let not_le = leb-false 196 b (left (nat_le 196 b) (is_past_latin bs) e) in omega (arith, not_le)

    by : (x : Bool) → nat_lt c 128 ≡ x → (y : Bool) → nat_lt c 2048 ≡ y → (z : Bool)
        → is_past_latin (cond x (c ∷ []) (cond y ((192 + c / 64) ∷ (128 + c % 64) ∷ []) (cond z ((224 + c / 4096) ∷ (128 + c / 64 % 64) ∷ (128 + c % 64) ∷ []) ((240 + c / 262144) ∷ (128 + c / 4096 % 64) ∷ (128 + c / 64 % 64) ∷ (128 + c % 64) ∷ [])))) ≡ false
        → c < 256
    by true e y f z ok = let lt : suc c ≤ 128 = leb-true (suc c) 128 e in omega (arith, lt)
    by false e true f z ok = let lt = lead (192 + c / 64) ((128 + c % 64) ∷ []) ok in omega (arith, lt)
    by false e false f true ok = let lt = lead (224 + c / 4096) ((128 + c / 64 % 64) ∷ (128 + c % 64) ∷ []) ok in absurd (omega (arith, lt))
    by false e false f false ok = let lt = lead (240 + c / 262144) ((128 + c / 4096 % 64) ∷ (128 + c / 64 % 64) ∷ (128 + c % 64) ∷ []) ok in absurd (omega (arith, lt))

latin_characters : (cs : List ℕ) → is_past_latin (encode_utf8_all cs) ≡ false → AreLatin cs
latin_characters [] ok = tt
latin_characters (c ∷ cs) ok =
    let both = sym (past-append (encode_utf8 c) (encode_utf8_all cs)) ∙ ok in
    (latin_character c (left (is_past_latin (encode_utf8 c)) (is_past_latin (encode_utf8_all cs)) both), latin_characters cs (right (is_past_latin (encode_utf8 c)) (is_past_latin (encode_utf8_all cs)) both))

-- a character up to U+00FF is stored as one byte
character_stored : (c : ℕ) → c < 256 → IsStored false (encode_utf8 c) (c ∷ [])
unfolding encode_utf8
character_stored c small rest = by (nat_lt c 128) refl (nat_lt c 2048) refl (nat_lt c 65536)
  where
    next : (k : ℕ) → 128 ≤ k → k ≤ 191 → is_latin_lead k ≡ false
    next k low high = no_lead k (λ e. omega (arith, e, high)) (λ e. omega (arith, e, high))

    two : (a b : ℕ) → b ≡ 128 + c % 64 → a ≡ 192 + c / 64 → 128 ≤ c → latin_bytes 0 (a ∷ b ∷ rest) ≡ c ∷ latin_bytes 0 rest
    two a b is lead past = by_lead (a == 194) refl
      where
        low : 128 ≤ b
        low = omega (arith, is)

        high : b ≤ 191
        high = let m : c % 64 < 64 = omega arith in omega (arith, is, m)

        behind : (d : ℕ) → d ≡ c → ((if is_latin_lead b then [] else d ∷ []) ++ latin_bytes b rest) ≡ c ∷ latin_bytes 0 rest
        behind d same =
            ap (λ x. (if x then [] else d ∷ []) ++ latin_bytes b rest) (next b low high)
            ∙ ap₂ (λ k l. k ∷ l) same (after_other b rest (ne_eqb b 195 (λ e. omega (arith, e, high))))

        by_lead : (x : Bool) → (a == 194) ≡ x → latin_bytes 0 (a ∷ b ∷ rest) ≡ c ∷ latin_bytes 0 rest
        by_lead true e =
            let four : a ≡ 194 = eqb-true a 194 e in
            let same : b ≡ c = omega (arith, four, lead, is) in
            ap (λ k. latin_bytes 0 (k ∷ b ∷ rest)) four ∙ behind b same
        by_lead false e =
            let other = eqb-false a 194 e in
            let five : a ≡ 195 = omega (arith, other, lead, past, small) in
            let same : (b + 64) % 256 ≡ c = omega (arith, five, lead, is, small) in
            ap (λ k. latin_bytes 0 (k ∷ b ∷ rest)) five ∙ behind ((b + 64) % 256) same

    by : (x : Bool) → nat_lt c 128 ≡ x → (y : Bool) → nat_lt c 2048 ≡ y → (z : Bool)
        → latin_bytes 0 (cond x (c ∷ []) (cond y ((192 + c / 64) ∷ (128 + c % 64) ∷ []) (cond z ((224 + c / 4096) ∷ (128 + c / 64 % 64) ∷ (128 + c % 64) ∷ []) ((240 + c / 262144) ∷ (128 + c / 4096 % 64) ∷ (128 + c / 64 % 64) ∷ (128 + c % 64) ∷ []))) ++ rest) ≡ c ∷ latin_bytes 0 rest
    by true e y f z = let lt : suc c ≤ 128 = leb-true (suc c) 128 e in ascii_byte c rest (omega (arith, lt))
    by false e true f z = let le = leb-false (suc c) 128 e in two (192 + c / 64) (128 + c % 64) refl refl (omega (arith, le))
    by false e false f z = let le = leb-false (suc c) 2048 f in absurd (omega (arith, le, small))

characters_stored : (cs : List ℕ) → AreLatin cs → IsStored false (encode_utf8_all cs) cs
characters_stored [] all = λ rest. refl
characters_stored (c ∷ cs) all = both false (encode_utf8 c) (c ∷ []) (encode_utf8_all cs) cs (character_stored c all.0) (characters_stored cs all.1)

-- a byte of Latin-1 is read back as its character
character_back : (c : ℕ) → c < 256 → in_utf8 Latin1 c ≡ encode_utf8 c
unfolding encode_utf8
character_back c small = by (nat_lt c 128) (nat_lt c 2048) refl (nat_lt c 65536)
  where
    by : (x y : Bool) → nat_lt c 2048 ≡ y → (z : Bool)
        → (if x then c ∷ [] else ((192 + c / 64) ∷ (128 + c % 64) ∷ []))
        ≡ cond x (c ∷ []) (cond y ((192 + c / 64) ∷ (128 + c % 64) ∷ []) (cond z ((224 + c / 4096) ∷ (128 + c / 64 % 64) ∷ (128 + c % 64) ∷ []) ((240 + c / 262144) ∷ (128 + c / 4096 % 64) ∷ (128 + c / 64 % 64) ∷ (128 + c % 64) ∷ [])))
    by true y e z = refl
    by false true e z = refl
    by false false e z = let le = leb-false (suc c) 2048 e in absurd (omega (arith, le, small))

characters_back : (cs : List ℕ) → AreLatin cs → flat_map (in_utf8 Latin1) cs ≡ encode_utf8_all cs
characters_back [] all = refl
characters_back (c ∷ cs) all = ap₂ (λ xs ys. xs ++ ys) (character_back c all.0) (characters_back cs all.1)

-- no quote stands in a name

turned : (b : Bool) → not b ≡ true → b ≡ false
turned true e = sym e
turned false e = refl

unquoted : (before : ℕ) (bs : List ℕ) → are_name_bytes before bs ≡ true → Unquoted bs
unquoted before [] ok = tt
unquoted before (b ∷ bs) ok =
    let own = turned (is_control before b || is_mark b) (first (not (is_control before b || is_mark b)) (are_name_bytes b bs) ok) in
    let mark = right (is_control before b) (is_mark b) own in
    (right (b == 58 || b == 34) (b == 39) (left (b == 58 || b == 34 || b == 39) (b == 92) mark), unquoted b bs (second (not (is_control before b || is_mark b)) (are_name_bytes b bs) ok))

behind : (xs ys : List ℕ) → Unquoted (xs ++ ys) → Unquoted ys
behind [] ys all = all
behind (x ∷ xs) ys all = behind xs ys all.1

unquoted_characters : (cs : List ℕ) → Unquoted (encode_utf8_all cs) → Unquoted cs
unfolding encode_utf8
unquoted_characters [] all = tt
unquoted_characters (c ∷ cs) all = (by (c == 39) refl, unquoted_characters cs (behind (encode_utf8 c) (encode_utf8_all cs) all))
  where
    by : (x : Bool) → (c == 39) ≡ x → x ≡ false
    by true e = quoted (subst (λ k. Unquoted (encode_utf8 k ++ encode_utf8_all cs)) (eqb-true c 39 e) all)
      where
        quoted : Unquoted (encode_utf8 39 ++ encode_utf8_all cs) → true ≡ false
        quoted all = all.0
    by false e = refl

-- a name is stored so that it is read back
pub record IsName (is_wide : Bool) (name : List ℕ) : Type 0 where
  pub stored : IsStored is_wide name (encode is_wide name)
  pub plain : Unquoted (encode is_wide name)
  pub back : flat_map (in_utf8 (encoding_of is_wide)) (encode is_wide name) ≡ name

wide_back : (bs : List ℕ) → flat_map (in_utf8 Utf8) bs ≡ bs
wide_back [] = refl
wide_back (b ∷ bs) = ap (λ l. b ∷ l) (wide_back bs)

pub name_stored : (is_wide : Bool) (name : List ℕ) → is_utf8 name ≡ true → are_name_bytes 0 name ≡ true → (is_wide ≡ false → is_past_latin name ≡ false) → IsName is_wide name
name_stored true name text ok latin = record { stored = λ rest. refl; plain = unquoted 0 name ok; back = wide_back name }
name_stored false name text ok latin = record { stored = subst (IsStored false name) (sym same) stored; plain = subst Unquoted (sym same) plain; back = ap (flat_map (in_utf8 Latin1)) same ∙ characters_back cs all ∙ is }
  where
    known : (cs : List ℕ) × ((all_scalars cs ≡ true) × (encode_utf8_all cs ≡ name))
    known = IsUtf8-from_is_utf8 name text

    cs : List ℕ
    cs = known.0

    is : encode_utf8_all cs ≡ name
    is = known.1.1

    all : AreLatin cs
    all = latin_characters cs (ap is_past_latin is ∙ latin refl)

    stored : IsStored false name cs
    stored = subst (λ l. IsStored false l cs) is (characters_stored cs all)

    same : encode false name ≡ cs
    same = whole false name cs stored

    plain : Unquoted cs
    plain = unquoted_characters cs (subst Unquoted (sym is) (unquoted 0 name ok))
