-- Written pairs: the fields of a structure, and its pad bytes.
use Rattle.std.proofs.Common.{◌≡◌, ℕ, ◌==◌, Bool, true, false, List, [], ◌∷◌, ◌++◌, codes, refl, sym, ap, ◌∙◌, if◌then◌else◌, append_assoc, append-nil, subst}
use Rattle.std.specs.List.{flat_map}
use Rattle.nd_model.specs.Arrays.Element.{Kind, Boolean, Int8, Int16, Int32, Int64, UInt8, UInt16, UInt32, UInt64, Element, is_canonical}
use Rattle.nd_model.specs.Arrays.View.{Field}
use Rattle.nd_model.specs.Grammar.Grammar.{has}
use Rattle.nd_model.specs.Formats.Rules.{Rule}
use Rattle.nd_model.specs.Formats.Rules as rules
use Rattle.nd_model.specs.Formats.RuleReading.{Taken, Refused}
use Rattle.nd_model.specs.Formats.RuleReading as reading
use Rattle.nd_model.specs.Formats.NpyHeader as h
use Rattle.nd_model.specs.Formats.NpyHeader.{Encoding, State, start, in_utf8, kinds_of, with_pair}
use Rattle.nd_model.specs.Formats.NpyWriting.{element_text, quote, pair_text}
use Rattle.nd_round_trip.proofs.files.At.{At, taken, in_quotes, end_quote, behind_name, more_pairs, list_end, before_pairs, behind_pair, in_pair, in_name, in_type}
use Rattle.nd_round_trip.proofs.files.ByteKinds.{inner_kind, quote_kind}
use Rattle.nd_round_trip.proofs.files.Letters.{letters, letters_are}

-- the state between the pairs of a list and inside one
abbrev pub pairing : List Field → ℕ → (name text : List ℕ) → State
pairing fs size name text = record start { descrs = 1; is_list = true; fields = fs; size = size; name = name; type_text = text }

abbrev pub Unquoted : List ℕ → Type 0
Unquoted [] = Unit {0}
Unquoted (b ∷ bs) = ((b == 39) ≡ false) × Unquoted bs

inner_taken : (byte : ℕ) (k : List Rule) (b : ℕ) (bs : List ℕ) → (b == 39) ≡ false → reading.step (in_quotes byte ∷ k) (kinds_of (b ∷ bs)) ≡ Taken byte (in_quotes byte ∷ k)
inner_taken byte k b bs other =
    let skipped = reading.step k (kinds_of (b ∷ bs)) in
    ap (λ c. if c then (if c then Taken byte (in_quotes byte ∷ k) else Refused) else skipped) (inner_kind b bs other)

pub name_go : (encoding : Encoding) (fs : List Field) (size : ℕ) (name bytes after : List ℕ) → Unquoted bytes
    → At encoding (pairing fs size name []) in_name (bytes ++ after) ≡ At encoding (pairing fs size (name ++ flat_map (in_utf8 encoding) bytes) []) in_name after
name_go encoding fs size name [] after un = ap (λ n. At encoding (pairing fs size n []) in_name after) (sym (append-nil name))
name_go encoding fs size name (b ∷ bs) after un =
    taken encoding (pairing fs size name []) in_name in_name h.name_byte b (bs ++ after) (inner_taken h.name_byte (end_quote ∷ behind_name ∷ more_pairs ∷ list_end) b (bs ++ after) un.0)
    ∙ name_go encoding fs size (name ++ in_utf8 encoding b) bs after un.1
    ∙ ap (λ n. At encoding (pairing fs size n []) in_name after) (append_assoc name (in_utf8 encoding b) (flat_map (in_utf8 encoding) bs))

pub type_go : (encoding : Encoding) (fs : List Field) (size : ℕ) (text bytes after : List ℕ) → Unquoted bytes
    → At encoding (pairing fs size [] text) in_type (bytes ++ after) ≡ At encoding (pairing fs size [] (text ++ bytes)) in_type after
type_go encoding fs size text [] after un = ap (λ n. At encoding (pairing fs size [] n) in_type after) (sym (append-nil text))
type_go encoding fs size text (b ∷ bs) after un =
    taken encoding (pairing fs size [] text) in_type in_type h.type_byte b (bs ++ after) (inner_taken h.type_byte _ b (bs ++ after) un.0)
    ∙ type_go encoding fs size (text ++ b ∷ []) bs after un.1
    ∙ ap (λ n. At encoding (pairing fs size [] n) in_type after) (append_assoc text (b ∷ []) bs)

-- ---- fields

-- the first quote of a name, of which the kind depends on the name
pub quote_go : (encoding : Encoding) (s : State) (bs : List ℕ) → At encoding s in_pair (39 ∷ bs) ≡ At encoding s in_name bs
unfolding has
quote_go encoding s bs = first ∙ second bs
  where
    opened : List Rule
    opened = rules.Then (in_quotes h.name_byte) end_quote ∷ behind_name ∷ more_pairs ∷ list_end

    first : At encoding s in_pair (39 ∷ bs) ≡ At encoding s opened bs
    first = taken encoding s in_pair opened h.mark 39 bs (quote_kind (λ t. reading.step in_pair (t ∷ kinds_of bs) ≡ Taken h.mark opened) refl refl refl refl bs)

    second : (bs : List ℕ) → At encoding s opened bs ≡ At encoding s in_name bs
    second [] = refl
    second (b ∷ bs) = refl

element_go : (encoding : Encoding) (fs : List Field) (size : ℕ) (name after : List ℕ) (e : Element) → is_canonical e.kind e.big ≡ true
    → At encoding (pairing fs size name []) in_name (39 ∷ 44 ∷ 32 ∷ (quote (element_text e) ++ 41 ∷ after)) ≡ At encoding (with_pair (pairing fs size name (element_text e))) behind_pair after
unfolding has
element_go encoding fs size name after e ok =
    subst (λ t. At encoding (pairing fs size name []) in_name (39 ∷ 44 ∷ 32 ∷ (quote t ++ 41 ∷ after)) ≡ At encoding (with_pair (pairing fs size name t)) behind_pair after)
    (sym (letters_are e)) (by e.kind e.big ok)
  where
    Goes : Element → Type 0
    Goes e = At encoding (pairing fs size name []) in_name (39 ∷ 44 ∷ 32 ∷ (quote (letters e) ++ 41 ∷ after)) ≡ At encoding (with_pair (pairing fs size name (letters e))) behind_pair after

    by : (k : Kind) (big : Bool) → is_canonical k big ≡ true → Goes (record { kind = k; big = big })
    by Boolean false ok = refl
    by Boolean true ok = absurd (cc)
    by Int8 false ok = refl
    by Int8 true ok = absurd (cc)
    by UInt8 false ok = refl
    by UInt8 true ok = absurd (cc)
    by Int16 false ok = refl
    by Int16 true ok = refl
    by Int32 false ok = refl
    by Int32 true ok = refl
    by Int64 false ok = refl
    by Int64 true ok = refl
    by UInt16 false ok = refl
    by UInt16 true ok = refl
    by UInt32 false ok = refl
    by UInt32 true ok = refl
    by UInt64 false ok = refl
    by UInt64 true ok = refl

pub pair_is : (name text after : List ℕ) → pair_text name text ++ after ≡ 40 ∷ 39 ∷ (name ++ 39 ∷ 44 ∷ 32 ∷ (quote text ++ 41 ∷ after))
pair_is name text after =
    let n = name ++ 39 ∷ [] in let c = 44 ∷ 32 ∷ [] in let q = quote text in
    ap (λ l. 40 ∷ 39 ∷ l) (append_assoc (n ++ c ++ q) (41 ∷ []) after ∙ append_assoc (n ++ c) q (41 ∷ after) ∙ append_assoc n c (q ++ 41 ∷ after)
    ∙ append_assoc name (39 ∷ []) (44 ∷ 32 ∷ (q ++ 41 ∷ after)))

-- the rules before a pair, and what stands before it
abbrev pub leads : (is_first : Bool) → List Rule
leads true = before_pairs
leads false = behind_pair

abbrev pub comma : (is_first : Bool) → List ℕ
comma true = []
comma false = codes ", "

pub opens : (encoding : Encoding) (s : State) (is_first : Bool) (after : List ℕ) → At encoding s (leads is_first) (comma is_first ++ 40 ∷ after) ≡ At encoding s in_pair after
unfolding has
opens encoding s true after = refl
opens encoding s false after = refl

pub named_pair : (encoding : Encoding) (fs : List Field) (size : ℕ) (is_first : Bool) (bytes : List ℕ) (e : Element) (after : List ℕ) → Unquoted bytes → is_canonical e.kind e.big ≡ true
    → At encoding (pairing fs size [] []) (leads is_first) (comma is_first ++ (pair_text bytes (element_text e) ++ after))
    ≡ At encoding (with_pair (pairing fs size (flat_map (in_utf8 encoding) bytes) (element_text e))) behind_pair after
named_pair encoding fs size is_first bytes e after un ok =
    let s = pairing fs size [] [] in
    let rest = 39 ∷ 44 ∷ 32 ∷ (quote (element_text e) ++ 41 ∷ after) in
    ap (λ l. At encoding s (leads is_first) (comma is_first ++ l)) (pair_is bytes (element_text e) after)
    ∙ opens encoding s is_first (39 ∷ (bytes ++ rest))
    ∙ quote_go encoding s (bytes ++ rest)
    ∙ name_go encoding fs size [] bytes rest un
    ∙ element_go encoding fs size (flat_map (in_utf8 encoding) bytes) after e ok
