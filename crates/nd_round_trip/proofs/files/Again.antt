-- An array is read back from its file.
use Rattle.std.proofs.Common.{◌≡◌, ℕ, zero, suc, ◌+◌, ◌*◌, ◌<◌, ◌≤◌, ◌^◌, nat_lt, nat_le, Bool, true, false, ◌&&◌, ◌||◌, List, [], ◌∷◌, ◌++◌, map, length, replicate, codes, Option, Some, None, is_none, Result, Ok, refl, sym, ap, ap₂, ◌∙◌, arith, if◌then◌else◌, append-nil, length-append}
use Rattle.std.specs.List.{list_any, flat_map}
use Rattle.std.specs.Str.{is_utf8, IsUtf8, IsAscii}
use Rattle.std.specs.Str.Lossy.{utf8_valid_len}
use Rattle.std.proofs.lemmas.Bool.{leb-false}
use Rattle.std.proofs.lemmas.List.{length-replicate}
use Rattle.std.proofs.lemmas.Str.{IsUtf8-from_ascii, IsUtf8-from_is_utf8, IsUtf8-append, is_utf8-from_IsUtf8}
use Rattle.std.proofs.lemmas.Str.Ascii.{IsAscii-nil}
use Rattle.nd_model.specs.Arrays.Element.{is_canonical}
use Rattle.nd_model.specs.Arrays.View.{Field, ElementType, One, Structure, item_size, contiguous}
use Rattle.nd_model.specs.Arrays.Tuple.{count_up, elements_of}
use Rattle.nd_model.specs.Cells.Fault.{ViewFault, TooManyAxes, TooManyElements}
use Rattle.nd_model.specs.Arrays.Strides.{is_too_large, IsInLimits}
use Rattle.nd_model.specs.Arrays.Structure.{is_field_name, are_name_bytes, are_named, is_structure}
use Rattle.nd_model.specs.Arrays.Content.{Content, content_at, element_bytes, array_bytes, content_in_order}
use Rattle.nd_model.specs.Grammar.Predict.{◌>>=◌}
use Rattle.nd_model.specs.Formats.NpyFault.{NpyFault, NotText, TooLarge}
use Rattle.nd_model.specs.Formats.NpyHeader.{Utf8, Header, header_in}
use Rattle.nd_model.specs.Formats.NpyReading.{when, split, read_npy, elements_in, array_of, header_of, in_limits}
use Rattle.nd_model.specs.Formats.NpyWriting as writing
use Rattle.nd_model.specs.Formats.NpyWriting.{literal, is_past_latin, latin_bytes, is_latin_lead, encode, descr_text, spaces, front_size, front_of, npy_front, npy_bytes}
use Rattle.nd_view.proofs.InOrder.{in_order}
use Rattle.nd_round_trip.specs.Formats.FormatLaws.{are_fields, is_type}
use Rattle.nd_npy.specs.Header.Following.{RestIsIgnored}
use Rattle.nd_round_trip.specs.Files.FileLaws.{AreContents, FileAgain}
use Rattle.nd_round_trip.proofs.files.Ascii.{AreAscii}
use Rattle.nd_round_trip.proofs.files.Elements.{StandApart, length-element, elements_back}
use Rattle.nd_round_trip.proofs.files.Fields.{first, second, AreStored}
use Rattle.nd_round_trip.proofs.files.Files.{version_from, split_is, front_read}
use Rattle.nd_round_trip.proofs.files.Headers.{keeps, IsStoredType, header_read}
use Rattle.nd_round_trip.proofs.files.Latin.{AreLatin, names_latin}
use Rattle.nd_round_trip.proofs.files.Lengths.{descr_length, one_length, literal_length}
use Rattle.nd_round_trip.proofs.files.Shapes.{AreShort}
use Rattle.nd_round_trip.proofs.files.Stored.{encoding_of, IsStored, IsName, name_stored, both, whole, ascii, left}
use Rattle.nd_round_trip.proofs.files.Walked.{store_type, HasNames, HasParts, literal_walked}

-- ---- limits

bounded : (size : ℕ) (shape : List ℕ) → IsInLimits size shape → (nat_lt 32 (length shape) ≡ false) × (is_too_large size shape ≡ false)
bounded size shape is = by (nat_lt 32 (length shape)) (is_too_large size shape) is
  where
    by : (a b : Bool) → (if a then Some TooManyAxes else (if b then Some TooManyElements else None)) ≡ None → (a ≡ false) × (b ≡ false)
    by true b e = absurd (cc)
    by false true e = absurd (cc)
    by false false e = (refl, refl)

short_lengths : (shape : List ℕ) → list_any (nat_lt (2 ^ 32)) shape ≡ false → AreShort shape
short_lengths [] e = tt
short_lengths (n ∷ ns) e =
    let below = leb-false (2 ^ 32 + 1) n (left (nat_lt (2 ^ 32) n) (list_any (nat_lt (2 ^ 32)) ns) e) in
    (omega (arith, below), short_lengths ns (right (nat_lt (2 ^ 32) n) (list_any (nat_lt (2 ^ 32)) ns) e))
  where
    right : (a b : Bool) → (a || b) ≡ false → b ≡ false
    right true b e = absurd (cc)
    right false b e = e

-- ---- names

abbrev AreNames : (is_wide : Bool) → List Field → Type 0
AreNames is_wide [] = Unit {0}
AreNames is_wide (f ∷ fs) = IsName is_wide f.name × AreNames is_wide fs

names_are : (is_wide : Bool) (fs : List Field) → are_named fs ≡ true → are_fields fs ≡ true → (is_wide ≡ false → AreLatin fs) → AreNames is_wide fs
names_are is_wide [] named known latin = tt
names_are is_wide (f ∷ fs) named known latin =
    let own = is_canonical f.element.kind f.element.big && is_utf8 f.name in
    let bytes = second (nat_lt 0 (length f.name) && nat_le (length f.name) 64) (are_name_bytes 0 f.name) (first (is_field_name f.name) (are_named fs) named) in
    let text = second (is_canonical f.element.kind f.element.big) (is_utf8 f.name) (first own (are_fields fs) known) in
    (name_stored is_wide f.name text bytes (λ e. (latin e).0), names_are is_wide fs (second (is_field_name f.name) (are_named fs) named) (second own (are_fields fs) known) (λ e. (latin e).1))

stored_names : (is_wide : Bool) (fs : List Field) → AreNames is_wide fs → HasNames (encode is_wide) (IsStored is_wide) fs
stored_names is_wide [] names = tt
stored_names is_wide (f ∷ fs) names = (names.0.stored, stored_names is_wide fs names.1)

read_names : (is_wide : Bool) (fs : List Field) → AreNames is_wide fs → AreStored (encoding_of is_wide) (encode is_wide) fs
read_names is_wide [] names = tt
read_names is_wide (f ∷ fs) names = ((names.0.plain, names.0.back), read_names is_wide fs names.1)

text_names : (is_wide : Bool) (fs : List Field) → are_fields fs ≡ true → HasNames (encode is_wide) (λ xs ys. IsUtf8 xs) fs
text_names is_wide [] known = tt
text_names is_wide (f ∷ fs) known =
    let own = is_canonical f.element.kind f.element.big && is_utf8 f.name in
    (IsUtf8-from_is_utf8 f.name (second (is_canonical f.element.kind f.element.big) (is_utf8 f.name) (first own (are_fields fs) known)), text_names is_wide fs (second own (are_fields fs) known))

-- ---- the text of the header

utf8 : (bs : List ℕ) → AreAscii bs → IsUtf8 bs
utf8 bs all = IsUtf8-from_ascii bs (by bs all)
  where
    more : (b : ℕ) (bs : List ℕ) → b < 128 → IsAscii bs → IsAscii (b ∷ bs)
    more b bs low rest zero = low
    more b bs low rest (suc i) = rest i

    by : (bs : List ℕ) → AreAscii bs → IsAscii bs
    by [] all = IsAscii-nil
    by (b ∷ bs) all = more b bs all.0 (by bs all.1)

blank : (n : ℕ) → AreAscii (replicate n 32)
blank zero = tt
blank (suc n) = (omega arith, blank n)

latin_length : (before : ℕ) (bs : List ℕ) → length (latin_bytes before bs) ≤ length bs
latin_length before [] = omega arith
latin_length before (b ∷ bs) = by (is_latin_lead b) (latin_length b bs)
  where
    by : (c : Bool) → length (latin_bytes b bs) ≤ length bs → length ((if c then [] else writing.latin_byte before b ∷ []) ++ latin_bytes b bs) ≤ suc (length bs)
    by true le = omega (arith, le)
    by false le = omega (arith, le)

encoded_length : (is_wide : Bool) (bs : List ℕ) → length (encode is_wide bs) ≤ length bs
encoded_length true bs = omega arith
encoded_length false bs = latin_length 0 bs

descr_short : (t : ElementType) → is_type t ≡ true → length (descr_text t) ≤ 24083
descr_short (One e) ok = let le = one_length e in omega (arith, le)
descr_short (Structure fields size) ok =
    let known = keeps fields size (second (are_fields fields) (is_structure fields size) ok) in
    let le = descr_length fields size known.named known.apart known.small in
    let few = known.few in
    omega (arith, le, few)

module _ (t : ElementType) (shape : List ℕ) (ok : is_type t ≡ true) (limits : IsInLimits (item_size t) shape) where
  short : AreShort shape
  short = short_lengths shape (left (list_any (nat_lt (2 ^ 32)) shape) (nat_lt (2 ^ 24) (elements_of shape) || nat_lt (2 ^ 27) (elements_of shape * item_size t)) (bounded (item_size t) shape limits).1)

  axes : length shape ≤ 32
  axes = let lt = leb-false 33 (length shape) (bounded (item_size t) shape limits).0 in omega (arith, lt)

  module _ (is_wide : Bool) (wide : is_past_latin (literal t shape) ≡ is_wide) where
    parts : (t : ElementType) → is_type t ≡ true → is_past_latin (literal t shape) ≡ is_wide → HasParts (encode is_wide) (IsStored is_wide) t × IsStoredType (encoding_of is_wide) (encode is_wide) t
    parts (One e) ok wide = (tt, tt)
    parts (Structure fields size) ok wide =
        let known = keeps fields size (second (are_fields fields) (is_structure fields size) ok) in
        let names = names_are is_wide fields known.named (first (are_fields fields) (is_structure fields size) ok) (λ e. names_latin fields size shape (wide ∙ e)) in
        ((stored_names is_wide fields names, (known.apart, known.small)), read_names is_wide fields names)

    encoded : encode is_wide (literal t shape) ≡ literal (store_type (encode is_wide) t) shape
    encoded =
        whole is_wide (literal t shape) (literal (store_type (encode is_wide) t) shape)
        (literal_walked (encode is_wide) (IsStored is_wide) (ascii is_wide) (both is_wide) t shape (parts t ok wide).0 short)

    abbrev gaps : ℕ
    gaps = spaces (front_size is_wide + length (encode is_wide (literal t shape)))

    abbrev text : List ℕ
    text = writing.header_of is_wide (encode is_wide (literal t shape))

    text_is : text ≡ literal (store_type (encode is_wide) t) shape ++ replicate gaps 32 ++ codes "\n"
    text_is = ap (λ l. l ++ replicate gaps 32 ++ codes "\n") encoded

    text_short : length text < 65536
    text_short =
        let own = encoded_length is_wide (literal t shape) in
        let all = literal_length t shape 24083 (descr_short t ok) axes short in
        let blanks : List ℕ = replicate gaps 32 in
        let a : length text ≡ length (encode is_wide (literal t shape) ++ blanks) + 1 = length-append (encode is_wide (literal t shape) ++ blanks) (codes "\n") in
        let b = length-append (encode is_wide (literal t shape)) blanks in
        let c : length blanks ≡ gaps = length-replicate gaps 32 in
        let few : gaps < 64 = few_spaces (front_size is_wide + length (encode is_wide (literal t shape))) in
        omega (arith, own, all, a, b, c, few)
      where
        few_spaces : (n : ℕ) → spaces n < 64
        few_spaces n = omega arith

    abbrev the_header : Header
    the_header = record { element = t; fortran = false; shape = shape }

    is_read : header_in (encoding_of is_wide) text ≡ Ok the_header
    is_read = ap (header_in (encoding_of is_wide)) text_is ∙ header_read (encoding_of is_wide) (encode is_wide) t shape gaps ok (parts t ok wide).1 short

    fits : in_limits the_header ≡ Ok the_header
    fits = ap (λ (o : Option ViewFault). when (is_none o) TooLarge (Ok the_header)) limits

  utf8_type : (t : ElementType) → is_type t ≡ true → HasParts (encode true) (λ xs ys. IsUtf8 xs) t
  utf8_type (One e) ok = tt
  utf8_type (Structure fields size) ok =
      let known = keeps fields size (second (are_fields fields) (is_structure fields size) ok) in
      (text_names true fields (first (are_fields fields) (is_structure fields size) ok), (known.apart, known.small))

  is_text : (wide : is_past_latin (literal t shape) ≡ true) → is_utf8 (text true wide) ≡ true
  is_text wide =
      let own : IsUtf8 (literal t shape) = literal_walked (encode true) (λ xs ys. IsUtf8 xs) utf8 (λ xs ys us vs p q. IsUtf8-append xs us p q) t shape (utf8_type t ok) short in
      let n = gaps true wide in
      is_utf8-from_IsUtf8 (text true wide)
      (IsUtf8-append (literal t shape ++ replicate n 32) (codes "\n") (IsUtf8-append (literal t shape) (replicate n 32) own (utf8 (replicate n 32) (blank n))) (utf8 (codes "\n") (omega arith, tt)))

  says : (is_wide : Bool) (wide : is_past_latin (literal t shape) ≡ is_wide) → header_of (version_from is_wide) (text is_wide wide) ≡ Ok (the_header is_wide wide)
  unfolding header_of
  says false wide =
      ap (λ (r : Result Header NpyFault). r >>= λ x. in_limits x) (is_read false wide) ∙ fits false wide
  says true wide =
      ap (λ b. when b (NotText (utf8_valid_len (text true wide))) (Ok (text true wide)) >>= λ l. header_in Utf8 l >>= λ x. in_limits x) (is_text wide)
      ∙ ap (λ (r : Result Header NpyFault). r >>= λ x. in_limits x) (is_read true wide) ∙ fits true wide

  -- ---- the elements

  stands_apart : (t : ElementType) → is_type t ≡ true → StandApart t
  stands_apart (One e) ok = tt
  stands_apart (Structure fields size) ok = (keeps fields size (second (are_fields fields) (is_structure fields size) ok)).apart

  module _ (contents : List Content) (same : length contents ≡ elements_of shape) (all : AreContents t contents) where
    abbrev bytes : List ℕ
    bytes = array_bytes t shape (content_in_order shape contents)

    in_turn : bytes ≡ flat_map (element_bytes t) contents
    in_turn = in_order (element_bytes t) shape contents same

    turn_length : (cs : List Content) → length (flat_map (element_bytes t) cs) ≡ length cs * item_size t
    turn_length [] = omega arith
    turn_length (c ∷ cs) =
        let a = length-append (element_bytes t c) (flat_map (element_bytes t) cs) in
        let b = length-element t c in
        let rest = turn_length cs in
        let count : suc (length cs) * item_size t ≡ item_size t + length cs * item_size t = omega arith in
        omega (arith, a, b, rest, count)

    bytes_length : length bytes ≡ elements_of shape * item_size t
    bytes_length = ap length in_turn ∙ turn_length contents ∙ ap (λ n. n * item_size t) same

    places_read : map (content_at t bytes) (contiguous t shape).places ≡ contents
    places_read =
        ap₂ (λ l n. map (content_at t l) (map (λ k. k * item_size t) (count_up 0 n))) in_turn (sym same)
        ∙ elements_back t [] 0 contents (stands_apart t ok) (omega arith) all

    elements_read : elements_in (record { element = t; fortran = false; shape = shape }) bytes ≡ Ok (record { element = t; shape = shape; contents = contents })
    unfolding elements_in
    elements_read =
        let h : Header = record { element = t; fortran = false; shape = shape } in
        let n = elements_of shape * item_size t in
        ap (λ (r : Result (List ℕ × List ℕ) NpyFault). r >>= λ x. Ok (array_of h x.0)) (ap (split n) (sym (append-nil bytes)) ∙ split_is n bytes [] bytes_length)
        ∙ ap (λ cs. Ok (record { element = t; shape = shape; contents = cs })) places_read

    file_read : read_npy (npy_bytes t shape contents) ≡ Ok (record { element = t; shape = shape; contents = contents })
    unfolding npy_front
    file_read =
        let is_wide = is_past_latin (literal t shape) in
        front_read is_wide (text is_wide refl) bytes (the_header is_wide refl) (text_short is_wide refl) (says is_wide refl) ∙ elements_read

pub file_again : RestIsIgnored → FileAgain
file_again ignored t shape contents more ok limits same all =
    ignored (npy_bytes t shape contents) more (record { element = t; shape = shape; contents = contents }) (file_read t shape ok limits contents same all)
