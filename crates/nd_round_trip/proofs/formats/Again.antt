-- A type is read back from its written form.
use Rattle.std.proofs.Common.{◌≡◌, ℕ, ◌+◌, ◌-◌, ◌<◌, ◌≤◌, nat_le, nat_lt, true, ◌&&◌, List, [], ◌∷◌, ◌++◌, map, length, codes, inl, inr, Ok, refl, sym, ap, ap₂, ◌∙◌, arith, subst, append_assoc, append-nil}
use Rattle.std.proofs.lemmas.Bool.{leb-true}
use Rattle.std.proofs.lemmas.List.{map-append}
use Rattle.std.specs.Str.{is_utf8}
use Rattle.nd_model.specs.Arrays.Element.{size_of, is_canonical}
use Rattle.nd_model.specs.Arrays.View.{Field, ElementType, One, Structure, item_size}
use Rattle.nd_model.specs.Grammar.Grammar.{has}
use Rattle.nd_model.specs.Arrays.Structure.{are_name_bytes, is_field_name, are_named, are_apart, are_distinct, is_structure}
use Rattle.nd_model.specs.Formats.Rules as rules
use Rattle.nd_model.specs.Formats.Rules.{Rule, Part, Spans, kinds_of}
use Rattle.nd_model.specs.Formats.Format.{element_format, pad_format, field_format, fields_format, format_text}
use Rattle.nd_model.specs.Formats.FormatGrammar as g
use Rattle.nd_model.specs.Formats.FormatGrammar.{byte_kind, format}
use Rattle.nd_model.specs.Formats.FormatReading.{read_format, outcome, ReadingIsExact}
use Rattle.nd_round_trip.specs.Formats.FormatLaws.{are_fields, is_type, FormatAgain}
use Rattle.nd_round_trip.proofs.formats.Marks.{Mark, role_of, byte_of, code_byte, order_marks, name_mark, pad_marks, body_marks, fields_marks, type_marks, element_text, name_text, pad_text}
use Rattle.nd_round_trip.proofs.formats.AllFields.{first, second, ends_inside, outcome_is}
use Rattle.nd_round_trip.proofs.formats.Spelled.{Reads, parts, one, both, none, more, joined, spaces, orders, pads, is_code}
use Rattle.nd_round_trip.proofs.formats.Lettered.{name_read}

-- ---- the written form is a text of the grammar

abbrev leading : Rule
leading = rules.Or g.ORDER g.order g.pad

abbrev item : Rule
item = rules.Or g.ORDER g.order (rules.Or g.CODE g.field g.pad)

begun : {n : ℕ} → 1 ≤ n → 0 < n
begun le = omega (arith, le)

field_read : (f : Field) → is_field_name f.name ≡ true → is_utf8 f.name ≡ true → Reads g.field (body_marks f)
unfolding has
field_read f named text =
    let bytes : are_name_bytes 0 f.name ≡ true = second (nat_lt 0 (length f.name) && nat_le (length f.name) 64) (are_name_bytes 0 f.name) named in
    let some : 0 < length f.name = begun (leb-true 1 (length f.name) (first (nat_lt 0 (length f.name)) (nat_le (length f.name) 64) (first (nat_lt 0 (length f.name) && nat_le (length f.name) 64) (are_name_bytes 0 f.name) named))) in
    let ended = (g.NAME_END_ROLE, 58) ∷ [] in
    let end = rules.Then (rules.One g.NAME_END_ROLE g.COLON) g.spaces in
    both (rules.One g.CODE_ROLE g.CODE) (rules.Then (rules.One g.COLON_ROLE g.COLON) (rules.Then g.name end)) ((g.CODE_ROLE, code_byte f.element.kind) ∷ []) ((g.COLON_ROLE, 58) ∷ (map name_mark f.name ++ ended))
    (one g.CODE_ROLE g.CODE (code_byte f.element.kind) (is_code f.element.kind))
    (both (rules.One g.COLON_ROLE g.COLON) (rules.Then g.name end) ((g.COLON_ROLE, 58) ∷ []) (map name_mark f.name ++ ended)
    (one g.COLON_ROLE g.COLON 58 refl)
    (both g.name end (map name_mark f.name) ended (name_read f.name text bytes some)
    (both (rules.One g.NAME_END_ROLE g.COLON) g.spaces ended [] (one g.NAME_END_ROLE g.COLON 58 refl) spaces)))

utf8_name : (f : Field) (fs : List Field) → are_fields (f ∷ fs) ≡ true → is_utf8 f.name ≡ true
utf8_name f fs known = second (is_canonical f.element.kind f.element.big) (is_utf8 f.name) (first (is_canonical f.element.kind f.element.big && is_utf8 f.name) (are_fields fs) known)

other_fields : (f : Field) (fs : List Field) → are_fields (f ∷ fs) ≡ true → are_fields fs ≡ true
other_fields f fs known = second (is_canonical f.element.kind f.element.big && is_utf8 f.name) (are_fields fs) known

more_read : (place size : ℕ) (fs : List Field) → are_named fs ≡ true → are_fields fs ≡ true → Reads (rules.Many g.ITEM item) (fields_marks place size fs)
more_read place size [] named known = pads g.ITEM item (λ ms x rest. inr (inr (x rest))) (size - place)
more_read place size (f ∷ fs) named known =
    let e = f.element in
    let rest = fields_marks (f.at + size_of e.kind) size fs in
    joined g.ITEM item (pad_marks (f.at - place)) (order_marks e ++ (body_marks f ++ rest)) (pads g.ITEM item (λ ms x ps. inr (inr (x ps))) (f.at - place))
    (joined g.ITEM item (order_marks e) (body_marks f ++ rest) (orders g.ITEM item (λ ms x ps. inl (x ps)) e)
    (more g.ITEM item (body_marks f) rest (λ ps. inr (inl (field_read f (first (is_field_name f.name) (are_named fs) named) (utf8_name f fs known) ps)))
    (more_read (f.at + size_of e.kind) size fs (second (is_field_name f.name) (are_named fs) named) (other_fields f fs known))))

items_read : (size : ℕ) (f : Field) (fs : List Field) → are_named (f ∷ fs) ≡ true → are_fields (f ∷ fs) ≡ true → Reads g.items (fields_marks 0 size (f ∷ fs))
items_read size f fs named known =
    let e = f.element in
    let before = pad_marks (f.at - 0) in
    let rest = fields_marks (f.at + size_of e.kind) size fs in
    subst (Reads g.items) (append_assoc before (order_marks e) (body_marks f ++ rest))
    (both (rules.Many g.LEADING leading) (rules.Then g.field (rules.Many g.ITEM item)) (before ++ order_marks e) (body_marks f ++ rest)
    (joined g.LEADING leading before (order_marks e) (pads g.LEADING leading (λ ms x ps. inr (x ps)) (f.at - 0)) (orders g.LEADING leading (λ ms x ps. inl (x ps)) e))
    (both g.field (rules.Many g.ITEM item) (body_marks f) rest (field_read f (first (is_field_name f.name) (are_named fs) named) (utf8_name f fs known))
    (more_read (f.at + size_of e.kind) size fs (second (is_field_name f.name) (are_named fs) named) (other_fields f fs known))))

structure_read : (size : ℕ) (fields : List Field) → 0 < length fields → are_named fields ≡ true → are_fields fields ≡ true → Reads g.structure (type_marks (Structure fields size))
unfolding has
structure_read size [] some named known = absurd (omega (arith, some))
structure_read size (f ∷ fs) some named known =
    let inner = fields_marks 0 size (f ∷ fs) in
    let end = (g.CLOSE_ROLE, 125) ∷ [] in
    let close = rules.One g.CLOSE_ROLE g.CLOSE in
    both (rules.One g.TEE_ROLE g.TEE) (rules.Then (rules.One g.OPEN_ROLE g.OPEN) (rules.Then g.spaces (rules.Then g.items close))) ((g.TEE_ROLE, 84) ∷ []) ((g.OPEN_ROLE, 123) ∷ (inner ++ end))
    (one g.TEE_ROLE g.TEE 84 refl)
    (both (rules.One g.OPEN_ROLE g.OPEN) (rules.Then g.spaces (rules.Then g.items close)) ((g.OPEN_ROLE, 123) ∷ []) (inner ++ end)
    (one g.OPEN_ROLE g.OPEN 123 refl)
    (both g.spaces (rules.Then g.items close) [] (inner ++ end) spaces
    (both g.items close inner end (items_read size f fs named known) (one g.CLOSE_ROLE g.CLOSE 125 refl))))

-- what a structure keeps to
structure_named : (fields : List Field) (size : ℕ) → is_structure fields size ≡ true → (0 < length fields) × (are_named fields ≡ true) × (are_apart 0 fields size ≡ true) × (size ≤ 65536)
structure_named fields size ok =
    let a = nat_lt 0 (length fields) in let b = nat_le (length fields) 256 in let c = nat_le size 65536 in let d = are_apart 0 fields size in let e = are_named fields in
    let five = first (a && b && c && d && e) (are_distinct fields) ok in
    let four = first (a && b && c && d) e five in
    let three = first (a && b && c) d four in
    let two = first (a && b) c three in
    let some : 1 ≤ length fields = leb-true 1 (length fields) (first a b two) in
    (omega (arith, some), second (a && b && c && d) e five, second (a && b && c) d four, leb-true size 65536 (second (a && b) c three))

format_read : (t : ElementType) → is_type t ≡ true → Reads format (type_marks t)
unfolding format
format_read (One e) ok =
    both (rules.Many g.ORDER g.order) (rules.Or g.TEE g.structure (rules.One g.SINGLE_ROLE g.CODE)) (order_marks e) ((g.SINGLE_ROLE, code_byte e.kind) ∷ [])
    (orders g.ORDER g.order (λ ms x. x) e)
    (λ rest. inr (one g.SINGLE_ROLE g.CODE (code_byte e.kind) (is_code e.kind) rest))
format_read (Structure fields size) ok =
    let known = structure_named fields size (second (are_fields fields) (is_structure fields size) ok) in
    both (rules.Many g.ORDER g.order) (rules.Or g.TEE g.structure (rules.One g.SINGLE_ROLE g.CODE)) [] (type_marks (Structure fields size))
    (none g.ORDER g.order)
    (λ rest. inl (structure_read size fields known.0 known.1 (first (are_fields fields) (is_structure fields size) ok) rest))

-- ---- its bytes

around : (os : List ℕ) (c : ℕ) (ns : List ℕ) → os ++ (c ∷ 58 ∷ (ns ++ 58 ∷ [])) ≡ (os ++ c ∷ []) ++ codes ":" ++ ns ++ codes ":"
around [] c ns = refl
around (o ∷ os) c ns = ap (λ l. o ∷ l) (around os c ns)

field_text : (f : Field) → map byte_of (order_marks f.element ++ body_marks f) ≡ field_format f
field_text f =
    let e = f.element in
    let ended : map byte_of (map name_mark f.name ++ (g.NAME_END_ROLE, 58) ∷ []) ≡ f.name ++ 58 ∷ []
    = map-append byte_of (map name_mark f.name) ((g.NAME_END_ROLE, 58) ∷ []) ∙ ap (λ l. l ++ 58 ∷ []) (name_text f.name) in
    let element : map byte_of (order_marks e) ++ code_byte e.kind ∷ [] ≡ element_format e
    = sym (map-append byte_of (order_marks e) ((g.CODE_ROLE, code_byte e.kind) ∷ [])) ∙ element_text g.CODE_ROLE e in
    map-append byte_of (order_marks e) (body_marks f)
    ∙ ap (λ l. map byte_of (order_marks e) ++ (code_byte e.kind ∷ 58 ∷ l)) ended
    ∙ around (map byte_of (order_marks e)) (code_byte e.kind) f.name
    ∙ ap (λ l. l ++ codes ":" ++ f.name ++ codes ":") element

fields_text : (place size : ℕ) (fs : List Field) → size ≤ 65536 → are_apart place fs size ≡ true → map byte_of (fields_marks place size fs) ≡ fields_format place size fs
fields_text place size [] small inside = pad_text (size - place) (omega (arith, small))
fields_text place size (f ∷ fs) small inside =
    let e = f.element in
    let q = f.at + size_of e.kind in
    let on : are_apart q fs size ≡ true = second (nat_le place f.at) (are_apart q fs size) inside in
    let end : q ≤ size = ends_inside q fs size on in
    let rest = fields_marks q size fs in
    let before = pad_marks (f.at - place) in
    map-append byte_of before (order_marks e ++ (body_marks f ++ rest))
    ∙ ap₂ (λ xs ys. xs ++ ys) (pad_text (f.at - place) (omega (arith, end, small)))
    (ap (map byte_of) (sym (append_assoc (order_marks e) (body_marks f) rest)) ∙ map-append byte_of (order_marks e ++ body_marks f) rest ∙ ap₂ (λ xs ys. xs ++ ys) (field_text f) (fields_text q size fs small on))
    ∙ sym (append_assoc (pad_format (f.at - place)) (field_format f) (fields_format q size fs))

type_text : (t : ElementType) → is_type t ≡ true → map byte_of (type_marks t) ≡ format_text t
type_text (One e) ok = element_text g.SINGLE_ROLE e
type_text (Structure fields size) ok =
    let known = structure_named fields size (second (are_fields fields) (is_structure fields size) ok) in
    ap (λ l. 84 ∷ 123 ∷ l) (map-append byte_of (fields_marks 0 size fields) ((g.CLOSE_ROLE, 125) ∷ []) ∙ ap (λ l. l ++ 125 ∷ []) (fields_text 0 size fields known.3 known.2))

-- ---- the law

kinds_are : (ms : List Mark) → kinds_of (parts ms) ≡ map byte_kind (map byte_of ms)
kinds_are [] = refl
kinds_are (m ∷ ms) = ap (λ l. byte_kind m.1 ∷ l) (kinds_are ms)

roles_are : (ms : List Mark) → map (λ (p : Part). p.role) (parts ms) ≡ map role_of ms
roles_are [] = refl
roles_are (m ∷ ms) = ap (λ l. m.0 ∷ l) (roles_are ms)

pub format_again : ReadingIsExact → FormatAgain
format_again exact t ok =
    let ms = type_marks t in
    let text : Spans format (parts ms) [] = subst (λ ps. Spans format ps []) (append-nil (parts ms)) (format_read t ok []) in
    subst (λ l. read_format l (item_size t) ≡ Ok t) (type_text t ok)
    ((exact (map byte_of ms) (item_size t) (Ok t)).1 (record {
      parts = parts ms;
      whole = true;
      read = record { kinds = kinds_are ms; text = text };
      is = ap (λ rs. outcome rs true (map byte_of ms) (item_size t)) (roles_are ms) ∙ outcome_is t ok;
    }))
