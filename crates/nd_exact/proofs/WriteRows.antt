-- The cells of WriteRows, computed.
use Rattle.std.proofs.Common.{◌≡◌, ℕ, Bool, true, false, cond, eqb, eq-eqb, subst, ◌&&◌, ◌||◌, List, [], ◌∷◌, ◌++◌, Option, Some, None, refl, sym, ap, ◌∙◌, inl, inr, codes}
use Rattle.std.specs.Prelude.{is_some, zip}
use Rattle.std.specs.Fmt.{digits}
use Rattle.std.proofs.lemmas.Bool.{cases_Bool}
use Rattle.nd_model.specs.Grammar.Reading.{reading}
use Rattle.nd_model.specs.Grammar.Grammar.{has}
use Rattle.nd_model.specs.Grammar.Lexing.{tokens, tokens_from, piece_at, word_at, keywords, symbols}
use Rattle.nd_model.specs.Grammar.Kinds.{keyword_kinds, name_kinds}
use Rattle.nd_model.specs.Grammar.Cells.{name, grouped, bound_in, step_in, slice, newaxis, elements, list, part, item, nothing, contents, index, exprs, quoted, no_lengths, tuple, shape, kind_name, type_name, pair, fields, dtype, typing, only_typing, comma_typing, named_axis, numbered_axis, named_keepdims, only_keepdims, comma_keepdims, options, comma_options, first_axis, third, second, arange, filled, full, new_array, broadcast_to, two, reduce, accumulate, fold, call, function, empty, type_argument, axes, lengths, reduction_options, reduction, accumulation, attribute, method, operand, suffix, postfix, exponent, power, signed, unary, term, sum, shift, band, bxor, bor, comparison, expr, under, module_name, imports, delete, printed, print, saved, save, value, line, lines}
use Rattle.nd_model.specs.Grammar.Factored.{bind, place, group, groups, target, assign, stmt, cell}
use Rattle.nd_model.specs.Arrays.Tuple.{count_up}
use Rattle.nd_model.specs.Arrays.Value.{Base, same_base}
use Rattle.nd_model.specs.Cells.Session.{is_place}
use Rattle.nd_model.proofs.Storing.{equal_bases}
use Rattle.nd_model.proofs.Lists.{not_both}
use Rattle.nd_exact.specs.Behind.{behind, numbers, base}
use Rattle.nd_exact.specs.WriteRows.{values_of, number_at, own_base, PrintLeavesNothing, SaveLeavesNothing, ViewLeavesItsName, DeletionLeavesItsName, BaseWithoutNameIsGone, CopyLeavesItsBase, OwnStoreIsInItsBase, StoreWritesItsSlice, StoreLeavesGaps, StoreAtListWritesItsElements, StoreByMaskWritesItsElements, StoreWritesItsField, InPlaceWritesItsElement, InPlaceWritesItsArray, RefusedLeavesItsLines, AtomicLeavesNothing}

-- ---- what a single store leaves

none_of_it : (n l : ℕ) → ◌≡◌ {A = Option ℕ} (cond (eqb n l) None None) None
none_of_it n l = elim (cases_Bool (eqb n l)) [ inl is ↦ rw is refl | inr other ↦ rw other refl ]

no_bytes : (n l : ℕ) → ◌≡◌ {A = List ℕ} (cond (eqb n l) [] []) []
no_bytes n l = elim (cases_Bool (eqb n l)) [ inl is ↦ rw is refl | inr other ↦ rw other refl ]

abbrev no_byte : Option ℕ
no_byte = None

-- the bytes written are those of the store, since the base is not the cell's own
which : (b c : Base) (l : ℕ) (t : Bool) (v : ℕ) → eqb b.label l ≡ false
    → is_some (cond (eqb c.label l) None (cond (same_base b c && t) (Some v) None)) ≡ (same_base b c && t)
which b c l t v apart = elim (cases_Bool (same_base b c)) [
  | inl is ↦ let label : eqb c.label l ≡ false = ap (λ (d : Base). eqb d.label l) (sym (equal_bases b c is)) ∙ apart in rw (is, label) (only t)
  | inr other ↦ rw other (none (eqb c.label l))
]
  where
    only : (t : Bool) → is_some (cond t (Some v) None) ≡ t
    only true = refl
    only false = refl

    none : (own : Bool) → is_some (cond own no_byte no_byte) ≡ false
    none true = refl
    none false = refl

-- the one base that a name of the cell holds
kept : (f : Base → List ℕ) (n : ℕ) (bytes : List ℕ) (c : Base) → f (record { label = 7; number = n }) ≡ bytes
    → cond (eqb c.label 7) (cond (same_base c (record { label = 7; number = n }) || false) (f c) []) [] ≡ cond (same_base (record { label = 7; number = n }) c) bytes []
kept f n bytes c same = elim (cases_Bool (same_base own c)) [
  | inl is ↦ subst (λ d. cond (eqb d.label 7) (cond (same_base d own || false) (f d) []) [] ≡ cond (same_base own d) bytes []) (equal_bases own c is) here
  | inr other ↦ let apart : same_base c own ≡ false = turned other in rw (other, apart) (no_bytes c.label 7)
]
  where
    own : Base
    own = record { label = 7; number = n }

    here : cond (eqb own.label 7) (cond (same_base own own || false) (f own) []) [] ≡ cond (same_base own own) bytes []
    here = let self : eqb n n ≡ true = eq-eqb n n refl in rw self same

    turned : same_base own c ≡ false → same_base c own ≡ false
    turned apart = elim (cases_Bool (same_base c own)) [
      | inl is ↦ let e : c ≡ own = equal_bases c own is in absurd (not_both (same_base own c) apart (subst (λ (d : Base). same_base own d ≡ true) (sym e) (let self : eqb n n ≡ true = eq-eqb n n refl in rw self refl)))
      | inr other ↦ other
    ]

-- bytes that are stored in the cell's own base
own_store : (c : Base) (t : Bool) (v : ℕ) → ◌≡◌ {A = Option ℕ} (cond (eqb c.label 7) None (cond (same_base own_base c && t) (Some v) None)) None
own_store c t v = elim (cases_Bool (eqb c.label 7)) [
  | inl is ↦ rw is refl
  | inr other ↦ rw other (elim (cases_Bool (same_base own_base c)) [
    | inl same ↦ absurd (not_both (eqb c.label 7) other (ap (λ (d : Base). eqb d.label 7) (sym (equal_bases own_base c same))))
    | inr apart ↦ rw apart refl
  ])
]

-- a name of the cell that holds a value in a base of another
in_another : (f : Base → List ℕ) (b c : Base) → eqb b.label 7 ≡ false → ◌≡◌ {A = List ℕ} (cond (eqb c.label 7) (cond (same_base c b || false) (f c) []) []) []
in_another f b c apart = elim (cases_Bool (same_base c b)) [
  | inl same ↦ let other : eqb c.label 7 ≡ false = ap (λ (d : Base). eqb d.label 7) (equal_bases c b same) ∙ apart in rw other refl
  | inr other ↦ rw other (no_bytes c.label 7)
]

pub print_leaves_nothing : PrintLeavesNothing
unfolding digits reading tokens tokens_from piece_at word_at keywords symbols cell lines line stmt bind assign target groups group place imports module_name delete print printed save saved value expr comparison bor bxor band shift sum term unary signed power exponent under postfix suffix operand function call arange second third filled full new_array broadcast_to two fold reduce accumulate comma_options options first_axis named_axis numbered_axis comma_keepdims only_keepdims named_keepdims comma_typing only_typing typing dtype fields pair type_name kind_name shape tuple no_lengths quoted exprs method attribute axes lengths empty type_argument reduction reduction_options accumulation index contents nothing item part list elements newaxis slice step_in bound_in grouped name has keyword_kinds name_kinds
print_leaves_nothing = (λ c p. none_of_it c.label 7, refl, λ c. no_bytes c.label 7)

pub save_leaves_nothing : SaveLeavesNothing
unfolding digits reading tokens tokens_from piece_at word_at keywords symbols cell lines line stmt bind assign target groups group place imports module_name delete print printed save saved value expr comparison bor bxor band shift sum term unary signed power exponent under postfix suffix operand function call arange second third filled full new_array broadcast_to two fold reduce accumulate comma_options options first_axis named_axis numbered_axis comma_keepdims only_keepdims named_keepdims comma_typing only_typing typing dtype fields pair type_name kind_name shape tuple no_lengths quoted exprs method attribute axes lengths empty type_argument reduction reduction_options accumulation index contents nothing item part list elements newaxis slice step_in bound_in grouped name has keyword_kinds name_kinds
save_leaves_nothing = (λ c p. none_of_it c.label 7, refl, λ c. no_bytes c.label 7)

pub view_leaves_its_name : ViewLeavesItsName
unfolding digits reading tokens tokens_from piece_at word_at keywords symbols cell lines line stmt bind assign target groups group place imports module_name delete print printed save saved value expr comparison bor bxor band shift sum term unary signed power exponent under postfix suffix operand function call arange second third filled full new_array broadcast_to two fold reduce accumulate comma_options options first_axis named_axis numbered_axis comma_keepdims only_keepdims named_keepdims comma_typing only_typing typing dtype fields pair type_name kind_name shape tuple no_lengths quoted exprs method attribute axes lengths empty type_argument reduction reduction_options accumulation index contents nothing item part list elements newaxis slice step_in bound_in grouped name has keyword_kinds name_kinds
view_leaves_its_name = (λ c p. none_of_it c.label 7, refl, λ c. in_another (behind numbers (codes "y = x[::2]")).running.bytes base c refl)

pub deletion_leaves_its_name : DeletionLeavesItsName
unfolding digits reading tokens tokens_from piece_at word_at keywords symbols cell lines line stmt bind assign target groups group place imports module_name delete print printed save saved value expr comparison bor bxor band shift sum term unary signed power exponent under postfix suffix operand function call arange second third filled full new_array broadcast_to two fold reduce accumulate comma_options options first_axis named_axis numbered_axis comma_keepdims only_keepdims named_keepdims comma_typing only_typing typing dtype fields pair type_name kind_name shape tuple no_lengths quoted exprs method attribute axes lengths empty type_argument reduction reduction_options accumulation index contents nothing item part list elements newaxis slice step_in bound_in grouped name has keyword_kinds name_kinds
deletion_leaves_its_name = (λ c p. none_of_it c.label 7, refl, λ c. no_bytes c.label 7)

pub base_without_name_is_gone : BaseWithoutNameIsGone
unfolding digits reading tokens tokens_from piece_at word_at keywords symbols cell lines line stmt bind assign target groups group place imports module_name delete print printed save saved value expr comparison bor bxor band shift sum term unary signed power exponent under postfix suffix operand function call arange second third filled full new_array broadcast_to two fold reduce accumulate comma_options options first_axis named_axis numbered_axis comma_keepdims only_keepdims named_keepdims comma_typing only_typing typing dtype fields pair type_name kind_name shape tuple no_lengths quoted exprs method attribute axes lengths empty type_argument reduction reduction_options accumulation index contents nothing item part list elements newaxis slice step_in bound_in grouped name has keyword_kinds name_kinds
base_without_name_is_gone = (λ c p. none_of_it c.label 7, refl, λ c. no_bytes c.label 7)

pub copy_leaves_its_base : CopyLeavesItsBase
unfolding digits reading tokens tokens_from piece_at word_at keywords symbols cell lines line stmt bind assign target groups group place imports module_name delete print printed save saved value expr comparison bor bxor band shift sum term unary signed power exponent under postfix suffix operand function call arange second third filled full new_array broadcast_to two fold reduce accumulate comma_options options first_axis named_axis numbered_axis comma_keepdims only_keepdims named_keepdims comma_typing only_typing typing dtype fields pair type_name kind_name shape tuple no_lengths quoted exprs method attribute axes lengths empty type_argument reduction reduction_options accumulation index contents nothing item part list elements newaxis slice step_in bound_in grouped name has keyword_kinds name_kinds
copy_leaves_its_base = (λ c p. none_of_it c.label 7, refl, λ c. kept (behind numbers (codes "y = x[1:3].copy()")).running.bytes 0 (values_of (1 ∷ 2 ∷ [])) c refl)

pub own_store_is_in_its_base : OwnStoreIsInItsBase
unfolding digits reading tokens tokens_from piece_at word_at keywords symbols cell lines line stmt bind assign target groups group place imports module_name delete print printed save saved value expr comparison bor bxor band shift sum term unary signed power exponent under postfix suffix operand function call arange second third filled full new_array broadcast_to two fold reduce accumulate comma_options options first_axis named_axis numbered_axis comma_keepdims only_keepdims named_keepdims comma_typing only_typing typing dtype fields pair type_name kind_name shape tuple no_lengths quoted exprs method attribute axes lengths empty type_argument reduction reduction_options accumulation index contents nothing item part list elements newaxis slice step_in bound_in grouped name has keyword_kinds name_kinds
own_store_is_in_its_base = (λ c p. own_store c _ _, refl, λ c. kept (behind numbers (codes "y = np.arange(2)\ny[0] = 7")).running.bytes 0 (values_of (7 ∷ 1 ∷ [])) c refl)

pub store_writes_its_slice : StoreWritesItsSlice
unfolding digits reading tokens tokens_from piece_at word_at keywords symbols cell lines line stmt bind assign target groups group place imports module_name delete print printed save saved value expr comparison bor bxor band shift sum term unary signed power exponent under postfix suffix operand function call arange second third filled full new_array broadcast_to two fold reduce accumulate comma_options options first_axis named_axis numbered_axis comma_keepdims only_keepdims named_keepdims comma_typing only_typing typing dtype fields pair type_name kind_name shape tuple no_lengths quoted exprs method attribute axes lengths empty type_argument reduction reduction_options accumulation index contents nothing item part list elements newaxis slice step_in bound_in grouped name has keyword_kinds name_kinds
store_writes_its_slice = ((λ c p. which base c 7 (is_place p (number_at 1 5 ++ number_at 2 5)) _ refl, refl), refl, λ c. no_bytes c.label 7)

pub store_leaves_gaps : StoreLeavesGaps
unfolding digits reading tokens tokens_from piece_at word_at keywords symbols cell lines line stmt bind assign target groups group place imports module_name delete print printed save saved value expr comparison bor bxor band shift sum term unary signed power exponent under postfix suffix operand function call arange second third filled full new_array broadcast_to two fold reduce accumulate comma_options options first_axis named_axis numbered_axis comma_keepdims only_keepdims named_keepdims comma_typing only_typing typing dtype fields pair type_name kind_name shape tuple no_lengths quoted exprs method attribute axes lengths empty type_argument reduction reduction_options accumulation index contents nothing item part list elements newaxis slice step_in bound_in grouped name has keyword_kinds name_kinds
store_leaves_gaps = ((λ c p. which base c 7 (is_place p (number_at 0 7 ++ number_at 2 7)) _ refl, refl), refl, λ c. no_bytes c.label 7)

pub store_at_list_writes_its_elements : StoreAtListWritesItsElements
unfolding digits reading tokens tokens_from piece_at word_at keywords symbols cell lines line stmt bind assign target groups group place imports module_name delete print printed save saved value expr comparison bor bxor band shift sum term unary signed power exponent under postfix suffix operand function call arange second third filled full new_array broadcast_to two fold reduce accumulate comma_options options first_axis named_axis numbered_axis comma_keepdims only_keepdims named_keepdims comma_typing only_typing typing dtype fields pair type_name kind_name shape tuple no_lengths quoted exprs method attribute axes lengths empty type_argument reduction reduction_options accumulation index contents nothing item part list elements newaxis slice step_in bound_in grouped name has keyword_kinds name_kinds
store_at_list_writes_its_elements = ((λ c p. which base c 7 (is_place p (number_at 3 5 ++ number_at 0 5)) _ refl, refl), refl, λ c. no_bytes c.label 7)

pub store_by_mask_writes_its_elements : StoreByMaskWritesItsElements
unfolding digits reading tokens tokens_from piece_at word_at keywords symbols cell lines line stmt bind assign target groups group place imports module_name delete print printed save saved value expr comparison bor bxor band shift sum term unary signed power exponent under postfix suffix operand function call arange second third filled full new_array broadcast_to two fold reduce accumulate comma_options options first_axis named_axis numbered_axis comma_keepdims only_keepdims named_keepdims comma_typing only_typing typing dtype fields pair type_name kind_name shape tuple no_lengths quoted exprs method attribute axes lengths empty type_argument reduction reduction_options accumulation index contents nothing item part list elements newaxis slice step_in bound_in grouped name has keyword_kinds name_kinds
store_by_mask_writes_its_elements = ((λ c p. which base c 7 (is_place p (number_at 2 5 ++ number_at 3 5)) _ refl, refl), refl, λ c. no_bytes c.label 7)

pub store_writes_its_field : StoreWritesItsField
unfolding digits reading tokens tokens_from piece_at word_at keywords symbols cell lines line stmt bind assign target groups group place imports module_name delete print printed save saved value expr comparison bor bxor band shift sum term unary signed power exponent under postfix suffix operand function call arange second third filled full new_array broadcast_to two fold reduce accumulate comma_options options first_axis named_axis numbered_axis comma_keepdims only_keepdims named_keepdims comma_typing only_typing typing dtype fields pair type_name kind_name shape tuple no_lengths quoted exprs method attribute axes lengths empty type_argument reduction reduction_options accumulation index contents nothing item part list elements newaxis slice step_in bound_in grouped name has keyword_kinds name_kinds
store_writes_its_field = ((λ c p. which base c 7 (is_place p (zip (count_up 2 4 ++ count_up 8 4) (9 ∷ 0 ∷ 0 ∷ 0 ∷ 9 ∷ 0 ∷ 0 ∷ 0 ∷ []))) _ refl, refl), refl, λ c. no_bytes c.label 7)

pub in_place_writes_its_element : InPlaceWritesItsElement
unfolding digits reading tokens tokens_from piece_at word_at keywords symbols cell lines line stmt bind assign target groups group place imports module_name delete print printed save saved value expr comparison bor bxor band shift sum term unary signed power exponent under postfix suffix operand function call arange second third filled full new_array broadcast_to two fold reduce accumulate comma_options options first_axis named_axis numbered_axis comma_keepdims only_keepdims named_keepdims comma_typing only_typing typing dtype fields pair type_name kind_name shape tuple no_lengths quoted exprs method attribute axes lengths empty type_argument reduction reduction_options accumulation index contents nothing item part list elements newaxis slice step_in bound_in grouped name has keyword_kinds name_kinds
in_place_writes_its_element = ((λ c p. which base c 7 (is_place p (number_at 2 3)) _ refl, refl), refl, λ c. no_bytes c.label 7)

pub in_place_writes_its_array : InPlaceWritesItsArray
unfolding digits reading tokens tokens_from piece_at word_at keywords symbols cell lines line stmt bind assign target groups group place imports module_name delete print printed save saved value expr comparison bor bxor band shift sum term unary signed power exponent under postfix suffix operand function call arange second third filled full new_array broadcast_to two fold reduce accumulate comma_options options first_axis named_axis numbered_axis comma_keepdims only_keepdims named_keepdims comma_typing only_typing typing dtype fields pair type_name kind_name shape tuple no_lengths quoted exprs method attribute axes lengths empty type_argument reduction reduction_options accumulation index contents nothing item part list elements newaxis slice step_in bound_in grouped name has keyword_kinds name_kinds
in_place_writes_its_array = ((λ c p. which base c 7 (is_place p (number_at 0 3 ++ number_at 1 4 ++ number_at 2 5 ++ number_at 3 6)) _ refl, refl), refl, λ c. no_bytes c.label 7)

pub refused_leaves_its_lines : RefusedLeavesItsLines
unfolding digits reading tokens tokens_from piece_at word_at keywords symbols cell lines line stmt bind assign target groups group place imports module_name delete print printed save saved value expr comparison bor bxor band shift sum term unary signed power exponent under postfix suffix operand function call arange second third filled full new_array broadcast_to two fold reduce accumulate comma_options options first_axis named_axis numbered_axis comma_keepdims only_keepdims named_keepdims comma_typing only_typing typing dtype fields pair type_name kind_name shape tuple no_lengths quoted exprs method attribute axes lengths empty type_argument reduction reduction_options accumulation index contents nothing item part list elements newaxis slice step_in bound_in grouped name has keyword_kinds name_kinds
refused_leaves_its_lines = ((λ c p. which base c 7 (is_place p (number_at 1 5)) _ refl, refl), refl, λ c. no_bytes c.label 7)

pub atomic_leaves_nothing : AtomicLeavesNothing
unfolding digits reading tokens tokens_from piece_at word_at keywords symbols cell lines line stmt bind assign target groups group place imports module_name delete print printed save saved value expr comparison bor bxor band shift sum term unary signed power exponent under postfix suffix operand function call arange second third filled full new_array broadcast_to two fold reduce accumulate comma_options options first_axis named_axis numbered_axis comma_keepdims only_keepdims named_keepdims comma_typing only_typing typing dtype fields pair type_name kind_name shape tuple no_lengths quoted exprs method attribute axes lengths empty type_argument reduction reduction_options accumulation index contents nothing item part list elements newaxis slice step_in bound_in grouped name has keyword_kinds name_kinds
atomic_leaves_nothing = (λ c p. none_of_it c.label 7, refl, λ c. no_bytes c.label 7)
