-- What written formats do, byte by byte.
use Rattle.std.proofs.Common.{◌≡◌, ℕ, suc, ◌+◌, ◌-◌, ◌*◌, ◌/◌, ◌==◌, ◌<◌, ◌≤◌, Bool, true, false, not, ◌&&◌, ◌||◌, List, [], ◌∷◌, ◌++◌, map, min, length, refl, sym, ap, ap₂, ◌∙◌, arith, if◌then◌else◌, Result, Ok, Err, append_assoc, append-nil, length-append, subst, get_or}
use Rattle.std.proofs.lemmas.Bool.{eqb-true, eqb-false, ne_eqb}
use Rattle.std.proofs.Math.Nat.{min-eq_left}
use Rattle.std.specs.Str.{is_utf8}
use Rattle.std.specs.Int.Digits.{digits_of, number_from_digits_after}
use Rattle.std.proofs.lemmas.Int.Digits.{number_digits_of, first_digits_of}
use Rattle.nd_model.specs.Arrays.Element.{Kind, Boolean, Int8, Int16, Int32, Int64, UInt8, UInt16, UInt32, UInt64, Element, size_of, is_canonical}
use Rattle.nd_model.specs.Arrays.View.{Field}
use Rattle.nd_model.specs.Arrays.Structure.{has_name}
use Rattle.nd_model.specs.Formats.FormatFault.{FormatFault, NoName, DoubleName, TooManyFields}
use Rattle.nd_model.specs.Formats.FormatGrammar.{ORDER_ROLE, CODE_ROLE, COLON_ROLE, NAME_ROLE, NAME_END_ROLE, DIGIT_ROLE}
use Rattle.nd_model.specs.Formats.FormatReading.{Progress, take_byte, and_then, take_bytes, code_element, number_start, add_field, FAR, FAR_FIELD}
use Rattle.nd_round_trip.proofs.formats.Marks.{Mark, role_of, byte_of, code_byte, order_byte, order_marks, digit_mark, name_mark, count_marks, cross_marks, pad_marks, body_marks}

abbrev pub follow : Progress → ℕ → List Mark → Result Progress FormatFault
follow s at [] = Ok s
follow s at (m ∷ ms) = and_then (take_byte s at m.0 m.1) (λ t. follow t (at + 1) ms)

pub take_is : (s : Progress) (at : ℕ) (ms : List Mark) → take_bytes s at (map role_of ms) (map byte_of ms) ≡ follow s at ms
take_is s at [] = refl
take_is s at (m ∷ ms) = ap (and_then (take_byte s at m.0 m.1)) (λ i t. take_is t (at + 1) ms i)

-- the marks lead from here to where P holds, wherever they stand in the text
abbrev pub Goes : Progress → List Mark → (Progress → Type 0) → Type 0
Goes s ms P = (at : ℕ) → (t : Progress) × (follow s at ms ≡ Ok t) × P t

follow-append : (s : Progress) (at : ℕ) (ms ns : List Mark) → follow s at (ms ++ ns) ≡ and_then (follow s at ms) (λ t. follow t (at + length ms) ns)
follow-append s at [] ns = let same : at ≡ at + 0 = omega arith in ap (λ k. follow s k ns) same
follow-append s at (m ∷ ms) ns = by (take_byte s at m.0 m.1) (λ t. follow-append t (at + 1) ms ns)
  where
    by : (r : Result Progress FormatFault) → ((t : Progress) → follow t (at + 1) (ms ++ ns) ≡ and_then (follow t (at + 1) ms) (λ u. follow u (at + 1 + length ms) ns)) → and_then r (λ t. follow t (at + 1) (ms ++ ns)) ≡ and_then (and_then r (λ t. follow t (at + 1) ms)) (λ t. follow t (at + suc (length ms)) ns)
    by (Ok t) h = let same : at + 1 + length ms ≡ at + suc (length ms) = omega arith in h t ∙ ap (λ k. and_then (follow t (at + 1) ms) (λ u. follow u k ns)) same
    by (Err e) h = refl

pub goes_on : (s : Progress) (ms ns : List Mark) (P Q : Progress → Type 0) → Goes s ms P → ((t : Progress) → P t → Goes t ns Q) → Goes s (ms ++ ns) Q
goes_on s ms ns P Q g h at =
    let a = g at in
    let b = h a.0 a.2 (at + length ms) in
    (b.0, follow-append s at ms ns ∙ ap (λ r. and_then r (λ t. follow t (at + length ms) ns)) a.1 ∙ b.1, b.2)

-- ---- at the end of an item

pub record Stands (fields : List Field) (behind : ℕ) (s : Progress) : Type 0 where
  pub fields_are : s.fields ≡ fields
  pub ends : s.behind ≡ behind
  pub no_count : (s.last == DIGIT_ROLE) ≡ false

-- behind digits
pub record Counts (fields : List Field) (behind count : ℕ) (s : Progress) : Type 0 where
  pub fields_are : s.fields ≡ fields
  pub ends : s.behind ≡ behind
  pub count_is : s.count ≡ count
  pub digit : (s.last == DIGIT_ROLE) ≡ true

near : (n : ℕ) → n ≤ 65536 → min n FAR ≡ n
near n le = min-eq_left (omega (arith, le))

grows : (c : ℕ) (ds : List ℕ) → c ≤ number_from_digits_after 10 c ds
grows c [] = omega arith
grows c (d ∷ ds) = let more = grows (c * 10 + d) ds in omega (arith, more)

digits_go : (fs : List Field) (p c : ℕ) (ds : List ℕ) (s : Progress) → Counts fs p c s → number_from_digits_after 10 c ds ≤ 65536 → Goes s (map digit_mark ds) (Counts fs p (number_from_digits_after 10 c ds))
digits_go fs p c [] s st le at = (s, refl, st)
digits_go fs p c (d ∷ ds) s st le at =
    let more = grows (c * 10 + d) ds in
    let value : 10 * c + (48 + d - 48) ≡ c * 10 + d = omega arith in
    let small : c * 10 + d ≤ 65536 = omega (arith, more, le) in
    let count : min ((if not (s.last == DIGIT_ROLE) then 0 else 10 * s.count) + (48 + d - 48)) FAR ≡ c * 10 + d
    = (λ i. min ((if not (st.digit i) then 0 else 10 * st.count_is i) + (48 + d - 48)) FAR) ∙ ap (λ k. min k FAR) value ∙ near (c * 10 + d) small in
    digits_go fs p (c * 10 + d) ds _ (record { fields_are = st.fields_are; ends = st.ends; count_is = count; digit = refl }) le (at + 1)

count_go : (fs : List Field) (p : ℕ) (ds : List ℕ) (s : Progress) → Stands fs p s → 0 < length ds → number_from_digits_after 10 0 ds ≤ 65536 → Goes s (map digit_mark ds) (Counts fs p (number_from_digits_after 10 0 ds))
count_go fs p [] s st some le at = absurd (omega (arith, some))
count_go fs p (d ∷ ds) s st some le at =
    let more = grows (0 * 10 + d) ds in
    let value : 0 + (48 + d - 48) ≡ 0 * 10 + d = omega arith in
    let small : 0 * 10 + d ≤ 65536 = omega (arith, more, le) in
    let count : min ((if not (s.last == DIGIT_ROLE) then 0 else 10 * s.count) + (48 + d - 48)) FAR ≡ 0 * 10 + d
    = (λ i. min ((if not (st.no_count i) then 0 else 10 * s.count) + (48 + d - 48)) FAR) ∙ ap (λ k. min k FAR) value ∙ near (0 * 10 + d) small in
    digits_go fs p (0 * 10 + d) ds _ (record { fields_are = st.fields_are; ends = st.ends; count_is = count; digit = refl }) le (at + 1)

begins : (ds : List ℕ) → 0 < get_or ds 0 0 → 0 < length ds
begins [] lt = lt
begins (d ∷ ds) lt = omega arith

pub pads_go : (fs : List Field) (p n : ℕ) (s : Progress) → Stands fs p s → p + n ≤ 65536 → Goes s (pad_marks n) (Stands fs (p + n))
pads_go fs p n s st le = by (n == 0) refl (n == 1) refl
  where
    none : n ≡ 0 → Goes s [] (Stands fs (p + n))
    none e at = (s, refl, record { fields_are = st.fields_are; ends = st.ends ∙ (let same : p ≡ p + n = omega (arith, e) in same); no_count = st.no_count })

    one : n ≡ 1 → Goes s cross_marks (Stands fs (p + n))
    one e at = (
      _,
      refl,
      record {
        fields_are = st.fields_are;
        ends = (λ i. min (st.ends i + (if st.no_count i then s.count else 1)) FAR) ∙ near (p + 1) (omega (arith, le, e)) ∙ ap (λ k. p + k) (sym e);
        no_count = refl;
      },
    )

    cross : (t : Progress) → Counts fs p n t → Goes t cross_marks (Stands fs (p + n))
    cross t known at = (
      _,
      refl,
      record {
        fields_are = known.fields_are;
        ends = (λ i. min (known.ends i + (if known.digit i then known.count_is i else 1)) FAR) ∙ near (p + n) le;
        no_count = refl;
      },
    )

    many : 0 < n → Goes s (count_marks n ++ cross_marks) (Stands fs (p + n))
    many some =
        let ds = digits_of 10 n in
        let value : number_from_digits_after 10 0 ds ≡ n = number_digits_of 10 n (omega arith) in
        let first : 0 < get_or ds 0 0 = first_digits_of 10 n (omega arith) some in
        let count : Goes s (count_marks n) (Counts fs p n)
        = subst (λ k. Goes s (count_marks n) (Counts fs p k)) value (count_go fs p ds s st (begins ds first) (omega (arith, value, le))) in
        goes_on s (count_marks n) cross_marks (Counts fs p n) (Stands fs (p + n)) count cross

    by : (b : Bool) → (n == 0) ≡ b → (c : Bool) → (n == 1) ≡ c → Goes s (if b then [] else if c then cross_marks else count_marks n ++ cross_marks) (Stands fs (p + n))
    by true e c f = none (eqb-true n 0 e)
    by false e true f = one (eqb-true n 1 f)
    by false e false f = many (omega (arith, eqb-false n 0 e))

-- ---- fields

-- behind the order of a number, if it has one
pub record IsReady (fields : List Field) (behind : ℕ) (e : Element) (s : Progress) : Type 0 where
  pub stands : Stands fields behind s
  pub element_is : code_element s.order (code_byte e.kind) ≡ e
  pub start : number_start s.order behind (size_of e.kind) ≡ behind

and-false : (b : Bool) → (b && false) ≡ false
and-false true = refl
and-false false = refl

single_start : (order p : ℕ) → number_start order p 1 ≡ p
single_start order p = by (order == 64)
  where
    by : (b : Bool) → (if b then (p + 1 - 1) / 1 * 1 else p) ≡ p
    by true = omega arith
    by false = refl

-- a number of one byte has no order of its own
single_ready : (fs : List Field) (p : ℕ) (k : Kind) (s : Progress) → Stands fs p s
    → code_element s.order (code_byte k) ≡ record { kind = k; big = false } → size_of k ≡ 1
    → Goes s [] (IsReady fs p (record { kind = k; big = false }))
single_ready fs p k s st is one at =
    (s, refl, record { stands = st; element_is = is; start = ap (number_start s.order p) one ∙ single_start s.order p ∙ refl })

order_ready : (fs : List Field) (p : ℕ) (e : Element) (s : Progress) → Stands fs p s
    → code_element (order_byte e.big) (code_byte e.kind) ≡ e → number_start (order_byte e.big) p (size_of e.kind) ≡ p
    → Goes s ((ORDER_ROLE, order_byte e.big) ∷ []) (IsReady fs p e)
order_ready fs p e s st is start at =
    (_, refl, record { stands = record { fields_are = st.fields_are; ends = st.ends; no_count = refl }; element_is = is; start = start })

pub order_go : (fs : List Field) (p : ℕ) (e : Element) (s : Progress) → is_canonical e.kind e.big ≡ true → Stands fs p s → Goes s (order_marks e) (IsReady fs p e)
order_go fs p e s ok st = by e.kind e.big ok
  where
    by : (k : Kind) (big : Bool) → is_canonical k big ≡ true → Goes s (order_marks (record { kind = k; big = big })) (IsReady fs p (record { kind = k; big = big }))
    by Boolean true ok = absurd (cc)
    by Boolean false ok = single_ready fs p Boolean s st (ap (λ b. record { kind = Boolean; big = b }) (and-false (s.order == 62 || s.order == 33))) refl
    by Int8 true ok = absurd (cc)
    by Int8 false ok = single_ready fs p Int8 s st (ap (λ b. record { kind = Int8; big = b }) (and-false (s.order == 62 || s.order == 33))) refl
    by UInt8 true ok = absurd (cc)
    by UInt8 false ok = single_ready fs p UInt8 s st (ap (λ b. record { kind = UInt8; big = b }) (and-false (s.order == 62 || s.order == 33))) refl
    by Int16 true ok = order_ready fs p (record { kind = Int16; big = true }) s st refl refl
    by Int16 false ok = order_ready fs p (record { kind = Int16; big = false }) s st refl refl
    by Int32 true ok = order_ready fs p (record { kind = Int32; big = true }) s st refl refl
    by Int32 false ok = order_ready fs p (record { kind = Int32; big = false }) s st refl refl
    by Int64 true ok = order_ready fs p (record { kind = Int64; big = true }) s st refl refl
    by Int64 false ok = order_ready fs p (record { kind = Int64; big = false }) s st refl refl
    by UInt16 true ok = order_ready fs p (record { kind = UInt16; big = true }) s st refl refl
    by UInt16 false ok = order_ready fs p (record { kind = UInt16; big = false }) s st refl refl
    by UInt32 true ok = order_ready fs p (record { kind = UInt32; big = true }) s st refl refl
    by UInt32 false ok = order_ready fs p (record { kind = UInt32; big = false }) s st refl refl
    by UInt64 true ok = order_ready fs p (record { kind = UInt64; big = true }) s st refl refl
    by UInt64 false ok = order_ready fs p (record { kind = UInt64; big = false }) s st refl refl

-- inside a name
pub record Names (fields : List Field) (behind : ℕ) (e : Element) (name : List ℕ) (s : Progress) : Type 0 where
  pub fields_are : s.fields ≡ fields
  pub ends : s.behind ≡ behind
  pub element_is : code_element s.order s.code ≡ e
  pub start : number_start s.order behind (size_of e.kind) ≡ behind
  pub name_is : s.name ≡ name

code_go : (fs : List Field) (p : ℕ) (e : Element) (s : Progress) → length fs < 256 → IsReady fs p e s → Goes s ((CODE_ROLE, code_byte e.kind) ∷ (COLON_ROLE, 58) ∷ []) (Names fs p e [])
code_go fs p e s few st at =
    let begun : Progress = record s { code = code_byte e.kind; name = []; place = at + 2; last = CODE_ROLE } in (
      record begun { last = COLON_ROLE },
      ap (λ b. and_then (if b then Err TooManyFields else Ok begun) (λ t. follow t (at + 1) ((COLON_ROLE, 58) ∷ []))) not_full,
      record { fields_are = st.stands.fields_are; ends = st.stands.ends; element_is = st.element_is; start = st.start; name_is = refl },
    )
  where
    not_full : (length s.fields == 256) ≡ false
    not_full = ap (λ l. length l == 256) st.stands.fields_are ∙ ne_eqb (length fs) 256 (λ e. omega (arith, e, few))

name_go : (fs : List Field) (p : ℕ) (e : Element) (before name : List ℕ) (s : Progress) → length before + length name ≤ 64 → Names fs p e before s → Goes s (map name_mark name) (Names fs p e (before ++ name))
name_go fs p e before [] s few st at = (s, refl, record { fields_are = st.fields_are; ends = st.ends; element_is = st.element_is; start = st.start; name_is = st.name_is ∙ sym (append-nil before) })
name_go fs p e before (b ∷ name) s few st at =
    let more : Progress = record s { name = s.name ++ b ∷ []; last = NAME_ROLE } in
    let long : length (before ++ b ∷ []) ≡ length before + 1 = length-append before (b ∷ []) in
    let short : (length s.name == 64) ≡ false
    = ap (λ l. length l == 64) st.name_is ∙ ne_eqb (length before) 64 (λ e. omega (arith, e, few)) in
    let known : Names fs p e (before ++ b ∷ []) more
    = record { fields_are = st.fields_are; ends = st.ends; element_is = st.element_is; start = st.start; name_is = ap (λ l. l ++ b ∷ []) st.name_is } in
    let rest = name_go fs p e (before ++ b ∷ []) name more (omega (arith, long, few)) known (at + 1) in
    let same : (before ++ b ∷ []) ++ name ≡ before ++ b ∷ name = append_assoc before (b ∷ []) name in (
      rest.0,
      ap (λ c. and_then (if c then Err (NoName s.place) else Ok more) (λ t. follow t (at + 1) (map name_mark name))) short ∙ rest.1,
      subst (λ l. Names fs p e l rest.0) same rest.2,
    )

abbrev field_from : List ℕ → ℕ → Element → Field
field_from name at e = record { name = name; at = at; element = e }

end_go : (fs : List Field) (p : ℕ) (e : Element) (name : List ℕ) (s : Progress) → is_utf8 name ≡ true → has_name name fs ≡ false → p + size_of e.kind ≤ 65536 → Names fs p e name s
    → Goes s ((NAME_END_ROLE, 58) ∷ []) (Stands (fs ++ record { name = name; at = p; element = e } ∷ []) (p + size_of e.kind))
end_go fs p e name s text fresh le st at = (
  add_field s,
  (λ i. and_then (if not (is_utf8 (st.name_is i)) then Err (NoName s.place) else (if has_name s.name s.fields then Err (DoubleName s.place) else Ok (add_field s))) (λ t. Ok t))
      ∙ (λ i. and_then (if not (text i) then Err (NoName s.place) else (if has_name s.name s.fields then Err (DoubleName s.place) else Ok (add_field s))) (λ t. Ok t))
      ∙ (λ i. and_then (if has_name (st.name_is i) (st.fields_are i) then Err (DoubleName s.place) else Ok (add_field s)) (λ t. Ok t))
      ∙ (λ i. and_then (if fresh i then Err (DoubleName s.place) else Ok (add_field s)) (λ t. Ok t)),
  record { fields_are = ap₂ (λ xs f. xs ++ f ∷ []) st.fields_are added; ends = (λ i. min (place i + size_of (st.element_is i).kind) FAR) ∙ near (p + size_of e.kind) le; no_count = refl },
)
  where
    place : number_start s.order s.behind (size_of (code_element s.order s.code).kind) ≡ p
    place = (λ i. number_start s.order (st.ends i) (size_of (st.element_is i).kind)) ∙ st.start

    at_is : min (number_start s.order s.behind (size_of (code_element s.order s.code).kind)) FAR_FIELD ≡ p
    at_is = ap (λ k. min k FAR_FIELD) place ∙ min-eq_left (omega (arith, le))

    added : field_from s.name (min (number_start s.order s.behind (size_of (code_element s.order s.code).kind)) FAR_FIELD) (code_element s.order s.code) ≡ field_from name p e
    added = λ i. field_from (st.name_is i) (at_is i) (st.element_is i)

pub body_go : (fs : List Field) (f : Field) (s : Progress) → length fs < 256 → length f.name ≤ 64 → is_utf8 f.name ≡ true → has_name f.name fs ≡ false → f.at + size_of f.element.kind ≤ 65536 → IsReady fs f.at f.element s
    → Goes s (body_marks f) (Stands (fs ++ f ∷ []) (f.at + size_of f.element.kind))
body_go fs f s few short text fresh le st =
    let p = f.at in let e = f.element in
    goes_on s ((CODE_ROLE, code_byte e.kind) ∷ (COLON_ROLE, 58) ∷ []) (map name_mark f.name ++ (NAME_END_ROLE, 58) ∷ []) (Names fs p e []) (Stands (fs ++ f ∷ []) (p + size_of e.kind))
    (code_go fs p e s few st)
    (λ t named. goes_on t (map name_mark f.name) ((NAME_END_ROLE, 58) ∷ []) (Names fs p e f.name) (Stands (fs ++ f ∷ []) (p + size_of e.kind))
    (name_go fs p e [] f.name t (omega (arith, short)) named) (λ u ended. end_go fs p e f.name u text fresh le ended))
