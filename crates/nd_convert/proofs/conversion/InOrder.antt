-- The elements of an array in C order, from a list of their contents.
use Rattle.std.proofs.Common.{◌≡◌, ℕ, List, [], map, length, append-nil, Bool, true, false, ℤ, pos, sym, refl, ap, ◌∙◌}
use Rattle.std.specs.List.{flat_map}
use Rattle.std.proofs.lemmas.List.{length-map}
use Rattle.std.specs.Prelude.{if◌then◌else◌, ◌==◌}
use Rattle.nd_model.specs.Arrays.Element as element
use Rattle.nd_model.specs.Arrays.Element.{Kind, Boolean, Int8, Int16, Int32, Int64, UInt8, UInt16, UInt32, UInt64, Element, width_of, size_of, value_in, residue, bytes_in, bytes_at, bytes_of, wrap}
use Rattle.nd_model.specs.Arrays.View.{ElementType, One}
use Rattle.nd_model.specs.Arrays.Content.{Content, Num, number_at, content_in_order, number_in, content_at, element_bytes, array_bytes}
use Rattle.nd_model.specs.Making.Conversion.{converted_content}
use Rattle.nd_model.proofs.Contents.{numbers_bytes}
use Rattle.nd_model.proofs.Residues.{one_wrap}
use Rattle.nd_element.specs.Elements.{canonical_at}
use Rattle.nd_convert.specs.Conversion.Converted.{converted_at, converted_bytes}
use Rattle.nd_model.specs.Arrays.Tuple.{elements_of}
use Rattle.nd_view.proofs.Tuples.{flat_map_same}
use Rattle.nd_view.proofs.InOrder.{flat_map-map, in_order}

-- the bytes of numbers, converted
pub converted_block : (to from : Element) (shape bytes places : List ℕ) → length places ≡ elements_of shape
    → converted_bytes to from bytes places
    ≡ array_bytes (One to) shape (λ i. converted_content (One to) (content_in_order shape (map (content_at (One from) bytes) places) i))
converted_block to from shape bytes places same =
    let cs : List Content = map (content_at (One from) bytes) places in
    sym (numbers_bytes to shape (λ t. wrap to.kind (number_in (content_in_order shape cs t)))
    ∙ in_order (λ c. bytes_of to (wrap to.kind (number_in c))) shape cs (length-map places (content_at (One from) bytes) ∙ same)
    ∙ flat_map-map (λ c. bytes_of to (wrap to.kind (number_in c))) (content_at (One from) bytes) places)

-- the bytes of elements in their own type
pub copied_block : (t : ElementType) (shape bytes places : List ℕ) → length places ≡ elements_of shape
    → flat_map (canonical_at t bytes) places ≡ array_bytes t shape (content_in_order shape (map (content_at t bytes) places))
copied_block t shape bytes places same =
    sym (in_order (element_bytes t) shape (map (content_at t bytes) places) (length-map places (content_at t bytes) ∙ same)
    ∙ flat_map-map (element_bytes t) (content_at t bytes) places)

-- ---- numbers in their own kind

truth : (b : Bool) → wrap Boolean (if b then pos 0 else pos 1) ≡ (if b then pos 0 else pos 1)
truth true = refl
truth false = refl

own_residue : (k : Kind) (n : ℕ) → residue (width_of k) (wrap k (value_in k n)) ≡ residue (width_of k) (value_in k n)
own_residue Boolean n = ap (residue (width_of Boolean)) (truth (n == 0))
own_residue Int8 n = ((one_wrap Int8 (value_in Int8 n) (wrap Int8 (value_in Int8 n)) (λ e. cc)).0 refl).1
own_residue Int16 n = ((one_wrap Int16 (value_in Int16 n) (wrap Int16 (value_in Int16 n)) (λ e. cc)).0 refl).1
own_residue Int32 n = ((one_wrap Int32 (value_in Int32 n) (wrap Int32 (value_in Int32 n)) (λ e. cc)).0 refl).1
own_residue Int64 n = ((one_wrap Int64 (value_in Int64 n) (wrap Int64 (value_in Int64 n)) (λ e. cc)).0 refl).1
own_residue UInt8 n = ((one_wrap UInt8 (value_in UInt8 n) (wrap UInt8 (value_in UInt8 n)) (λ e. cc)).0 refl).1
own_residue UInt16 n = ((one_wrap UInt16 (value_in UInt16 n) (wrap UInt16 (value_in UInt16 n)) (λ e. cc)).0 refl).1
own_residue UInt32 n = ((one_wrap UInt32 (value_in UInt32 n) (wrap UInt32 (value_in UInt32 n)) (λ e. cc)).0 refl).1
own_residue UInt64 n = ((one_wrap UInt64 (value_in UInt64 n) (wrap UInt64 (value_in UInt64 n)) (λ e. cc)).0 refl).1

number_bytes : (e : Element) (z : ℤ) → element_bytes (One e) (Num z) ≡ bytes_of e z
number_bytes e z = sym (append-nil (element_bytes (One e) (Num z))) ∙ numbers_bytes e [] (λ t. z) ∙ append-nil (bytes_of e z)

own_at : (e : Element) (bytes : List ℕ) (p : ℕ) → converted_at e e bytes p ≡ canonical_at (One e) bytes p
own_at e bytes p =
    ap (bytes_in (width_of e.kind) e.big) (own_residue e.kind (element.number_in (width_of e.kind) e.big (bytes_at bytes p (size_of e.kind)))) ∙ sym (number_bytes e (number_at e bytes p))

-- the bytes of numbers that keep their kind
pub own_block : (e : Element) (shape bytes places : List ℕ) → length places ≡ elements_of shape
    → array_bytes (One e) shape (λ i. converted_content (One e) (content_in_order shape (map (content_at (One e) bytes) places) i))
    ≡ array_bytes (One e) shape (content_in_order shape (map (content_at (One e) bytes) places))
own_block e shape bytes places same =
    sym (converted_block e e shape bytes places same) ∙ flat_map_same (converted_at e e bytes) (canonical_at (One e) bytes) (own_at e bytes) places
    ∙ copied_block (One e) shape bytes places same
