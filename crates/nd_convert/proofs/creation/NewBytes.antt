-- The bytes of arrays whose elements are all the same.
use Rattle.std.proofs.Common.{◌≡◌, ℕ, zero, suc, ◌+◌, ◌*◌, ℤ, pos, Bool, true, false, List, [], ◌∷◌, ◌++◌, map, length, replicate, refl, sym, ap, ap₂, ◌∙◌, arith, append-nil, append_assoc, length-append, take, drop, drop_of_length-le}
use Rattle.std.specs.Prelude.{slice_set, slice_index_or}
use Rattle.std.specs.List.{flat_map, zip}
use Rattle.std.proofs.lemmas.List.{length-map, length-replicate, replicate-append-replicate}
use Rattle.std.proofs.lemmas.Grind.{flat_map-append}
use Rattle.std.proofs.Math.Seq.{take-length}
use Rattle.nd_model.specs.Arrays.Element.{Kind, Boolean, Int8, Int16, Int32, Int64, UInt8, UInt16, UInt32, UInt64, Element, size_of, bytes_of}
use Rattle.nd_model.specs.Arrays.Tuple.{count_up, elements_of, indices}
use Rattle.nd_model.specs.Arrays.View.{Field, ElementType, One, Structure, item_size}
use Rattle.nd_model.specs.Cells.Session.{put}
use Rattle.nd_model.specs.Arrays.Content.{Content, Num, content_in_order, number_writes, field_writes, element_bytes, array_bytes}
use Rattle.nd_model.specs.Making.Creation.{zero_content}
use Rattle.nd_model.proofs.Contents.{number_bytes, numbers_bytes}
use Rattle.nd_model.proofs.Values.{length-bytes_of}
use Rattle.nd_view.proofs.Tuples.{flat_map_same}
use Rattle.nd_view.proofs.InOrder.{flat_map-map, in_order}
use Rattle.nd_model.proofs.Tuples.{length-count_up, length-indices}
use Rattle.nd_convert.specs.Creation.Numbers.{bytes_below}
use Rattle.nd_convert.proofs.creation.InOrder.{one_more}

-- the same bytes for each tuple, however they are counted
pub same_each : {A B : Type 0} (l : List ℕ) (xs : List A) (ys : List B) → length xs ≡ length ys → flat_map (λ x. l) xs ≡ flat_map (λ y. l) ys
same_each l [] [] e = refl
same_each l [] (y ∷ ys) e = absurd cc
same_each l (x ∷ xs) [] e = absurd cc
same_each l (x ∷ xs) (y ∷ ys) e = ap (λ r. l ++ r) (same_each l xs ys (let h : length xs ≡ length ys = omega (arith, e) in h))

pub full_bytes : (e : Element) (shape : List ℕ) (z : ℤ) (n : ℕ) → n ≡ elements_of shape → bytes_below e (λ k. z) n ≡ array_bytes (One e) shape (λ t. Num z)
full_bytes e shape z n is =
    same_each (bytes_of e z) (count_up 0 n) (indices shape) (length-count_up 0 n ∙ is ∙ sym (length-indices shape)) ∙ sym (numbers_bytes e shape (λ t. z))

-- ---- zeros

zero_bytes : (k : Kind) (big : Bool) → bytes_of (record { kind = k; big = big }) (pos 0) ≡ replicate (size_of k) 0
zero_bytes Boolean true = refl
zero_bytes Boolean false = refl
zero_bytes Int8 true = refl
zero_bytes Int8 false = refl
zero_bytes Int16 true = refl
zero_bytes Int16 false = refl
zero_bytes Int32 true = refl
zero_bytes Int32 false = refl
zero_bytes Int64 true = refl
zero_bytes Int64 false = refl
zero_bytes UInt8 true = refl
zero_bytes UInt8 false = refl
zero_bytes UInt16 true = refl
zero_bytes UInt16 false = refl
zero_bytes UInt32 true = refl
zero_bytes UInt32 false = refl
zero_bytes UInt64 true = refl
zero_bytes UInt64 false = refl

-- a zero among zeros changes nothing
set_zero : (n p : ℕ) → slice_set {A = ℕ} (replicate n 0) p 0 ≡ replicate n 0
set_zero zero p = refl
set_zero (suc n) zero = refl
set_zero (suc n) (suc p) = ap (λ l. 0 ∷ l) (set_zero n p)

put_zeros : (ps : List ℕ) (m n : ℕ) (ws : List (ℕ × ℕ)) → put (zip ps (replicate m 0) ++ ws) (replicate n 0) ≡ put ws (replicate n 0)
put_zeros [] m n ws = refl
put_zeros (p ∷ ps) zero n ws = refl
put_zeros (p ∷ ps) (suc m) n ws = ap (put (zip ps (replicate m 0) ++ ws)) (set_zero n p) ∙ put_zeros ps m n ws

number_zeros : (e : Element) (p n : ℕ) (ws : List (ℕ × ℕ)) → put (number_writes e p (pos 0) ++ ws) (replicate n 0) ≡ put ws (replicate n 0)
number_zeros e p n ws =
    ap (λ l. put (zip (count_up p (size_of e.kind)) l ++ ws) (replicate n 0)) (zero_bytes e.kind e.big) ∙ put_zeros (count_up p (size_of e.kind)) (size_of e.kind) n ws

fields_zeros : (fields : List Field) (p n : ℕ) → put (field_writes p fields (map (λ f. pos 0) fields)) (replicate n 0) ≡ replicate n 0
fields_zeros [] p n = refl
fields_zeros (f ∷ fs) p n = number_zeros f.element (p + f.at) n (field_writes p fs (map (λ f. pos 0) fs)) ∙ fields_zeros fs p n

element_zeros : (t : ElementType) → element_bytes t (zero_content t) ≡ replicate (item_size t) 0
element_zeros (One e) = ap (λ ws. put ws (replicate (size_of e.kind) 0)) (sym (append_none (number_writes e 0 (pos 0)))) ∙ number_zeros e 0 (size_of e.kind) []
  where
    append_none : (ws : List (ℕ × ℕ)) → ws ++ [] ≡ ws
    append_none [] = refl
    append_none (w ∷ ws) = ap (λ l. w ∷ l) (append_none ws)
element_zeros (Structure fields size) = fields_zeros fields 0 size

all_zeros : {A : Type 0} (l : List ℕ) (m : ℕ) (xs : List A) → l ≡ replicate m 0 → flat_map (λ x. l) xs ≡ replicate (length xs * m) 0
all_zeros l m [] e = let none : 0 ≡ 0 * m = omega arith in ap (λ n. replicate n 0) none
all_zeros l m (x ∷ xs) e =
    let more : m + length xs * m ≡ suc (length xs) * m = omega arith in
    ap₂ (λ a b. a ++ b) e (all_zeros l m xs e) ∙ replicate-append-replicate m (length xs * m) 0 ∙ ap (λ n. replicate n 0) more

pub zeros_bytes : (t : ElementType) (shape : List ℕ) (n size : ℕ) → n ≡ elements_of shape → size ≡ item_size t → replicate (n * size) 0 ≡ array_bytes t shape (λ i. zero_content t)
zeros_bytes t shape n size is same =
    ap₂ (λ a b. replicate (a * b) 0) (is ∙ sym (length-indices shape)) same
    ∙ sym (all_zeros (element_bytes t (zero_content t)) (item_size t) (indices shape) (element_zeros t))

-- ---- elements that are given

-- k + 1 times the bytes of l are k times these bytes, and l
pub repeat_more : (l : List ℕ) (k : ℕ) → flat_map (λ j. l) (count_up 0 (k + 1)) ≡ flat_map (λ j. l) (count_up 0 k) ++ l
repeat_more l k = ap (flat_map (λ j. l)) (one_more k) ∙ flat_map-append (λ j. l) (count_up 0 k) (k ∷ []) ∙ ap (λ r. flat_map (λ j. l) (count_up 0 k) ++ r) (append-nil l)

-- the items of a list, by their numbers
item_seam : (pre : List ℤ) (z : ℤ) (zs : List ℤ) → slice_index_or (pre ++ z ∷ zs) (length pre) (pos 0) ≡ z
item_seam [] z zs = refl
item_seam (x ∷ pre) z zs = item_seam pre z zs

items_from : (g : ℤ → List ℕ) (pre zs : List ℤ) → flat_map (λ k. g (slice_index_or (pre ++ zs) k (pos 0))) (count_up (length pre) (length zs)) ≡ flat_map g zs
items_from g pre [] = refl
items_from g pre (z ∷ zs) =
    let next : length pre + 1 ≡ length (pre ++ z ∷ []) = sym (length-append pre (z ∷ [])) in
    ap₂ (λ a b. a ++ b) (ap g (item_seam pre z zs))
    ((λ i. flat_map (λ k. g (slice_index_or (sym (append_assoc pre (z ∷ []) zs) i) k (pos 0))) (count_up (next i) (length zs))) ∙ items_from g (pre ++ z ∷ []) zs)

pub items : (e : Element) (zs : List ℤ) (n : ℕ) → n ≡ length zs → bytes_below e (λ k. slice_index_or zs k (pos 0)) n ≡ flat_map (bytes_of e) zs
items e zs n is = ap (bytes_below e (λ k. slice_index_or zs k (pos 0))) is ∙ items_from (bytes_of e) [] zs

length-numbers : (e : Element) (zs : List ℤ) → length (flat_map (bytes_of e) zs) ≡ length zs * size_of e.kind
length-numbers e [] = omega arith
length-numbers e (z ∷ zs) = omega (arith, length-append (bytes_of e z) (flat_map (bytes_of e) zs), length-bytes_of e z, length-numbers e zs)

-- a block of as many bytes, with the numbers in their place
pub in_place : (e : Element) (zs : List ℤ) (size : ℕ) (block new : List ℕ) → size ≡ size_of e.kind → block ≡ replicate (length zs * size) 0 → new ≡ flat_map (bytes_of e) zs
    → take (length block) (new ++ drop (length new) block) ≡ flat_map (bytes_of e) zs
in_place e zs size block new is zeros filled =
    let long : length new ≡ length zs * size = ap length filled ∙ length-numbers e zs ∙ ap (λ s. length zs * s) (sym is) in
    let same : length block ≡ length new = ap length zeros ∙ length-replicate (length zs * size) 0 ∙ sym long in
    let none : drop (length new) block ≡ [] = drop_of_length-le block {i = length new} (omega (arith, same)) in
    ap (λ l. take (length block) (new ++ l)) none ∙ ap (take (length block)) (append-nil new) ∙ ap (λ k. take k new) same ∙ take-length new ∙ filled

-- numbers as the elements of an array
pub list_bytes : (e : Element) (shape : List ℕ) (zs : List ℤ) → length zs ≡ elements_of shape → flat_map (bytes_of e) zs ≡ array_bytes (One e) shape (content_in_order shape (map Num zs))
list_bytes e shape zs same =
    let cs : List Content = map Num zs in
    sym (in_order (element_bytes (One e)) shape cs (length-map zs Num ∙ same) ∙ flat_map-map (element_bytes (One e)) Num zs ∙ flat_map_same (λ z. element_bytes (One e) (Num z)) (bytes_of e) (number_bytes e) zs)
