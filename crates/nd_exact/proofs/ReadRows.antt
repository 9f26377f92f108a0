-- The cells of ReadRows, computed.
use Rattle.std.proofs.Common.{◌≡◌, ℕ, List, refl, ap, ◌∙◌, codes}
use Rattle.std.specs.Fmt.{digits}
use Rattle.nd_model.specs.Grammar.Reading.{reading}
use Rattle.nd_model.specs.Grammar.Grammar.{has}
use Rattle.nd_model.specs.Grammar.Lexing.{tokens, tokens_from, piece_at, word_at, keywords, symbols}
use Rattle.nd_model.specs.Grammar.Kinds.{keyword_kinds, name_kinds}
use Rattle.nd_model.specs.Grammar.Cells.{name, grouped, bound_in, step_in, slice, newaxis, elements, list, part, item, nothing, contents, index, exprs, quoted, no_lengths, tuple, shape, kind_name, type_name, pair, fields, dtype, typing, only_typing, comma_typing, named_axis, numbered_axis, named_keepdims, only_keepdims, comma_keepdims, options, comma_options, first_axis, third, second, arange, filled, full, new_array, broadcast_to, two, reduce, accumulate, fold, call, function, empty, type_argument, axes, lengths, reduction_options, reduction, accumulation, attribute, method, operand, suffix, postfix, exponent, power, signed, unary, term, sum, shift, band, bxor, bor, comparison, expr, under, module_name, imports, delete, printed, print, saved, save, value, line, lines}
use Rattle.nd_model.specs.Grammar.Factored.{bind, place, group, groups, target, assign, stmt, cell}
use Rattle.nd_model.specs.Cells.Running.{Key, Python}
use Rattle.nd_exact.specs.Reads.{is_among, Reads}
use Rattle.nd_exact.specs.Behind.{under_rule, session_behind, behind, numbers, numbers_and_mask, records}
use Rattle.nd_exact.specs.ReadRows.{NameIsRead, MissingNameIsRead, OneElementIsRead, GapsAreNotRead, ViewReadsNoByte, ReshapeReadsNoByte, BroadcastReadsNoByte, DeletionReadsNoByte, CopyReadsItsElements, ListReadsItsElements, MaskReadsItsElements, FieldReadsItsBytes, RecordReadsNoByte, OperatorReadsItsOperands, SumReadsItsOperand, SaveReadsItsValue, StoreReadsNoByte, StoreAtListReadsNoByte, StoreByMaskReadsTheMask, InPlaceReadsItsElement, InPlaceReadsItsSlice, InPlaceReadsItsArray, OwnDoingsAreNotRead, OwnNameIsNotRead, RefusedReadsWhatItCameTo, RefusedReadsItsLines, NoCellReadsTheRule, MissingInputIsRead}
use Rattle.nd_exact.proofs.Listing.{keys_of, listed}

by_list : (first text : List ℕ) (keys : List Key) → keys_of 7 (reading text) (under_rule Python) (session_behind first) ≡ keys → Reads (behind first text) keys
by_list first text keys same k = listed 7 (reading text) (under_rule Python) (session_behind first) k ∙ ap (λ ks. is_among ks k) same

pub name_is_read : NameIsRead
unfolding digits reading tokens tokens_from piece_at word_at keywords symbols cell lines line stmt bind assign target groups group place imports module_name delete print printed save saved value expr comparison bor bxor band shift sum term unary signed power exponent under postfix suffix operand function call arange second third filled full new_array broadcast_to two fold reduce accumulate comma_options options first_axis named_axis numbered_axis comma_keepdims only_keepdims named_keepdims comma_typing only_typing typing dtype fields pair type_name kind_name shape tuple no_lengths quoted exprs method attribute axes lengths empty type_argument reduction reduction_options accumulation index contents nothing item part list elements newaxis slice step_in bound_in grouped name has keyword_kinds name_kinds
name_is_read = by_list (codes "n = 5") (codes "print(n)") _ refl

pub missing_name_is_read : MissingNameIsRead
unfolding digits reading tokens tokens_from piece_at word_at keywords symbols cell lines line stmt bind assign target groups group place imports module_name delete print printed save saved value expr comparison bor bxor band shift sum term unary signed power exponent under postfix suffix operand function call arange second third filled full new_array broadcast_to two fold reduce accumulate comma_options options first_axis named_axis numbered_axis comma_keepdims only_keepdims named_keepdims comma_typing only_typing typing dtype fields pair type_name kind_name shape tuple no_lengths quoted exprs method attribute axes lengths empty type_argument reduction reduction_options accumulation index contents nothing item part list elements newaxis slice step_in bound_in grouped name has keyword_kinds name_kinds
missing_name_is_read = by_list numbers (codes "print(q, x)") _ refl

pub one_element_is_read : OneElementIsRead
unfolding digits reading tokens tokens_from piece_at word_at keywords symbols cell lines line stmt bind assign target groups group place imports module_name delete print printed save saved value expr comparison bor bxor band shift sum term unary signed power exponent under postfix suffix operand function call arange second third filled full new_array broadcast_to two fold reduce accumulate comma_options options first_axis named_axis numbered_axis comma_keepdims only_keepdims named_keepdims comma_typing only_typing typing dtype fields pair type_name kind_name shape tuple no_lengths quoted exprs method attribute axes lengths empty type_argument reduction reduction_options accumulation index contents nothing item part list elements newaxis slice step_in bound_in grouped name has keyword_kinds name_kinds
one_element_is_read = by_list numbers (codes "print(x[2])") _ refl

pub gaps_are_not_read : GapsAreNotRead
unfolding digits reading tokens tokens_from piece_at word_at keywords symbols cell lines line stmt bind assign target groups group place imports module_name delete print printed save saved value expr comparison bor bxor band shift sum term unary signed power exponent under postfix suffix operand function call arange second third filled full new_array broadcast_to two fold reduce accumulate comma_options options first_axis named_axis numbered_axis comma_keepdims only_keepdims named_keepdims comma_typing only_typing typing dtype fields pair type_name kind_name shape tuple no_lengths quoted exprs method attribute axes lengths empty type_argument reduction reduction_options accumulation index contents nothing item part list elements newaxis slice step_in bound_in grouped name has keyword_kinds name_kinds
gaps_are_not_read = by_list numbers (codes "print(x[::2])") _ refl

pub view_reads_no_byte : ViewReadsNoByte
unfolding digits reading tokens tokens_from piece_at word_at keywords symbols cell lines line stmt bind assign target groups group place imports module_name delete print printed save saved value expr comparison bor bxor band shift sum term unary signed power exponent under postfix suffix operand function call arange second third filled full new_array broadcast_to two fold reduce accumulate comma_options options first_axis named_axis numbered_axis comma_keepdims only_keepdims named_keepdims comma_typing only_typing typing dtype fields pair type_name kind_name shape tuple no_lengths quoted exprs method attribute axes lengths empty type_argument reduction reduction_options accumulation index contents nothing item part list elements newaxis slice step_in bound_in grouped name has keyword_kinds name_kinds
view_reads_no_byte = by_list numbers (codes "y = x[::2]") _ refl

pub reshape_reads_no_byte : ReshapeReadsNoByte
unfolding digits reading tokens tokens_from piece_at word_at keywords symbols cell lines line stmt bind assign target groups group place imports module_name delete print printed save saved value expr comparison bor bxor band shift sum term unary signed power exponent under postfix suffix operand function call arange second third filled full new_array broadcast_to two fold reduce accumulate comma_options options first_axis named_axis numbered_axis comma_keepdims only_keepdims named_keepdims comma_typing only_typing typing dtype fields pair type_name kind_name shape tuple no_lengths quoted exprs method attribute axes lengths empty type_argument reduction reduction_options accumulation index contents nothing item part list elements newaxis slice step_in bound_in grouped name has keyword_kinds name_kinds
reshape_reads_no_byte = by_list numbers (codes "y = x.reshape(2, 2).T") _ refl

pub broadcast_reads_no_byte : BroadcastReadsNoByte
unfolding digits reading tokens tokens_from piece_at word_at keywords symbols cell lines line stmt bind assign target groups group place imports module_name delete print printed save saved value expr comparison bor bxor band shift sum term unary signed power exponent under postfix suffix operand function call arange second third filled full new_array broadcast_to two fold reduce accumulate comma_options options first_axis named_axis numbered_axis comma_keepdims only_keepdims named_keepdims comma_typing only_typing typing dtype fields pair type_name kind_name shape tuple no_lengths quoted exprs method attribute axes lengths empty type_argument reduction reduction_options accumulation index contents nothing item part list elements newaxis slice step_in bound_in grouped name has keyword_kinds name_kinds
broadcast_reads_no_byte = by_list numbers (codes "y = np.broadcast_to(x, (3, 4))") _ refl

pub deletion_reads_no_byte : DeletionReadsNoByte
unfolding digits reading tokens tokens_from piece_at word_at keywords symbols cell lines line stmt bind assign target groups group place imports module_name delete print printed save saved value expr comparison bor bxor band shift sum term unary signed power exponent under postfix suffix operand function call arange second third filled full new_array broadcast_to two fold reduce accumulate comma_options options first_axis named_axis numbered_axis comma_keepdims only_keepdims named_keepdims comma_typing only_typing typing dtype fields pair type_name kind_name shape tuple no_lengths quoted exprs method attribute axes lengths empty type_argument reduction reduction_options accumulation index contents nothing item part list elements newaxis slice step_in bound_in grouped name has keyword_kinds name_kinds
deletion_reads_no_byte = by_list numbers (codes "del x") _ refl

pub copy_reads_its_elements : CopyReadsItsElements
unfolding digits reading tokens tokens_from piece_at word_at keywords symbols cell lines line stmt bind assign target groups group place imports module_name delete print printed save saved value expr comparison bor bxor band shift sum term unary signed power exponent under postfix suffix operand function call arange second third filled full new_array broadcast_to two fold reduce accumulate comma_options options first_axis named_axis numbered_axis comma_keepdims only_keepdims named_keepdims comma_typing only_typing typing dtype fields pair type_name kind_name shape tuple no_lengths quoted exprs method attribute axes lengths empty type_argument reduction reduction_options accumulation index contents nothing item part list elements newaxis slice step_in bound_in grouped name has keyword_kinds name_kinds
copy_reads_its_elements = by_list numbers (codes "y = x[1:3].copy()") _ refl

pub list_reads_its_elements : ListReadsItsElements
unfolding digits reading tokens tokens_from piece_at word_at keywords symbols cell lines line stmt bind assign target groups group place imports module_name delete print printed save saved value expr comparison bor bxor band shift sum term unary signed power exponent under postfix suffix operand function call arange second third filled full new_array broadcast_to two fold reduce accumulate comma_options options first_axis named_axis numbered_axis comma_keepdims only_keepdims named_keepdims comma_typing only_typing typing dtype fields pair type_name kind_name shape tuple no_lengths quoted exprs method attribute axes lengths empty type_argument reduction reduction_options accumulation index contents nothing item part list elements newaxis slice step_in bound_in grouped name has keyword_kinds name_kinds
list_reads_its_elements = by_list numbers (codes "y = x[[3, 0]]") _ refl

pub mask_reads_its_elements : MaskReadsItsElements
unfolding digits reading tokens tokens_from piece_at word_at keywords symbols cell lines line stmt bind assign target groups group place imports module_name delete print printed save saved value expr comparison bor bxor band shift sum term unary signed power exponent under postfix suffix operand function call arange second third filled full new_array broadcast_to two fold reduce accumulate comma_options options first_axis named_axis numbered_axis comma_keepdims only_keepdims named_keepdims comma_typing only_typing typing dtype fields pair type_name kind_name shape tuple no_lengths quoted exprs method attribute axes lengths empty type_argument reduction reduction_options accumulation index contents nothing item part list elements newaxis slice step_in bound_in grouped name has keyword_kinds name_kinds
mask_reads_its_elements = by_list numbers_and_mask (codes "y = x[m]") _ refl

pub field_reads_its_bytes : FieldReadsItsBytes
unfolding digits reading tokens tokens_from piece_at word_at keywords symbols cell lines line stmt bind assign target groups group place imports module_name delete print printed save saved value expr comparison bor bxor band shift sum term unary signed power exponent under postfix suffix operand function call arange second third filled full new_array broadcast_to two fold reduce accumulate comma_options options first_axis named_axis numbered_axis comma_keepdims only_keepdims named_keepdims comma_typing only_typing typing dtype fields pair type_name kind_name shape tuple no_lengths quoted exprs method attribute axes lengths empty type_argument reduction reduction_options accumulation index contents nothing item part list elements newaxis slice step_in bound_in grouped name has keyword_kinds name_kinds
field_reads_its_bytes = by_list records (codes "print(t['b'])") _ refl

pub record_reads_no_byte : RecordReadsNoByte
unfolding digits reading tokens tokens_from piece_at word_at keywords symbols cell lines line stmt bind assign target groups group place imports module_name delete print printed save saved value expr comparison bor bxor band shift sum term unary signed power exponent under postfix suffix operand function call arange second third filled full new_array broadcast_to two fold reduce accumulate comma_options options first_axis named_axis numbered_axis comma_keepdims only_keepdims named_keepdims comma_typing only_typing typing dtype fields pair type_name kind_name shape tuple no_lengths quoted exprs method attribute axes lengths empty type_argument reduction reduction_options accumulation index contents nothing item part list elements newaxis slice step_in bound_in grouped name has keyword_kinds name_kinds
record_reads_no_byte = by_list records (codes "r = t[1]") _ refl

pub operator_reads_its_operands : OperatorReadsItsOperands
unfolding digits reading tokens tokens_from piece_at word_at keywords symbols cell lines line stmt bind assign target groups group place imports module_name delete print printed save saved value expr comparison bor bxor band shift sum term unary signed power exponent under postfix suffix operand function call arange second third filled full new_array broadcast_to two fold reduce accumulate comma_options options first_axis named_axis numbered_axis comma_keepdims only_keepdims named_keepdims comma_typing only_typing typing dtype fields pair type_name kind_name shape tuple no_lengths quoted exprs method attribute axes lengths empty type_argument reduction reduction_options accumulation index contents nothing item part list elements newaxis slice step_in bound_in grouped name has keyword_kinds name_kinds
operator_reads_its_operands = by_list numbers (codes "y = x[1:3] + x[3]") _ refl

pub sum_reads_its_operand : SumReadsItsOperand
unfolding digits reading tokens tokens_from piece_at word_at keywords symbols cell lines line stmt bind assign target groups group place imports module_name delete print printed save saved value expr comparison bor bxor band shift sum term unary signed power exponent under postfix suffix operand function call arange second third filled full new_array broadcast_to two fold reduce accumulate comma_options options first_axis named_axis numbered_axis comma_keepdims only_keepdims named_keepdims comma_typing only_typing typing dtype fields pair type_name kind_name shape tuple no_lengths quoted exprs method attribute axes lengths empty type_argument reduction reduction_options accumulation index contents nothing item part list elements newaxis slice step_in bound_in grouped name has keyword_kinds name_kinds
sum_reads_its_operand = by_list numbers (codes "y = x[1:4:2].sum()") _ refl

pub save_reads_its_value : SaveReadsItsValue
unfolding digits reading tokens tokens_from piece_at word_at keywords symbols cell lines line stmt bind assign target groups group place imports module_name delete print printed save saved value expr comparison bor bxor band shift sum term unary signed power exponent under postfix suffix operand function call arange second third filled full new_array broadcast_to two fold reduce accumulate comma_options options first_axis named_axis numbered_axis comma_keepdims only_keepdims named_keepdims comma_typing only_typing typing dtype fields pair type_name kind_name shape tuple no_lengths quoted exprs method attribute axes lengths empty type_argument reduction reduction_options accumulation index contents nothing item part list elements newaxis slice step_in bound_in grouped name has keyword_kinds name_kinds
save_reads_its_value = by_list numbers (codes "np.save('f', x[2:])") _ refl

pub store_reads_no_byte : StoreReadsNoByte
unfolding digits reading tokens tokens_from piece_at word_at keywords symbols cell lines line stmt bind assign target groups group place imports module_name delete print printed save saved value expr comparison bor bxor band shift sum term unary signed power exponent under postfix suffix operand function call arange second third filled full new_array broadcast_to two fold reduce accumulate comma_options options first_axis named_axis numbered_axis comma_keepdims only_keepdims named_keepdims comma_typing only_typing typing dtype fields pair type_name kind_name shape tuple no_lengths quoted exprs method attribute axes lengths empty type_argument reduction reduction_options accumulation index contents nothing item part list elements newaxis slice step_in bound_in grouped name has keyword_kinds name_kinds
store_reads_no_byte = by_list numbers (codes "x[1:3] = 5") _ refl

pub store_at_list_reads_no_byte : StoreAtListReadsNoByte
unfolding digits reading tokens tokens_from piece_at word_at keywords symbols cell lines line stmt bind assign target groups group place imports module_name delete print printed save saved value expr comparison bor bxor band shift sum term unary signed power exponent under postfix suffix operand function call arange second third filled full new_array broadcast_to two fold reduce accumulate comma_options options first_axis named_axis numbered_axis comma_keepdims only_keepdims named_keepdims comma_typing only_typing typing dtype fields pair type_name kind_name shape tuple no_lengths quoted exprs method attribute axes lengths empty type_argument reduction reduction_options accumulation index contents nothing item part list elements newaxis slice step_in bound_in grouped name has keyword_kinds name_kinds
store_at_list_reads_no_byte = by_list numbers (codes "x[[3, 0]] = 5") _ refl

pub store_by_mask_reads_the_mask : StoreByMaskReadsTheMask
unfolding digits reading tokens tokens_from piece_at word_at keywords symbols cell lines line stmt bind assign target groups group place imports module_name delete print printed save saved value expr comparison bor bxor band shift sum term unary signed power exponent under postfix suffix operand function call arange second third filled full new_array broadcast_to two fold reduce accumulate comma_options options first_axis named_axis numbered_axis comma_keepdims only_keepdims named_keepdims comma_typing only_typing typing dtype fields pair type_name kind_name shape tuple no_lengths quoted exprs method attribute axes lengths empty type_argument reduction reduction_options accumulation index contents nothing item part list elements newaxis slice step_in bound_in grouped name has keyword_kinds name_kinds
store_by_mask_reads_the_mask = by_list numbers_and_mask (codes "x[m] = 5") _ refl

pub in_place_reads_its_element : InPlaceReadsItsElement
unfolding digits reading tokens tokens_from piece_at word_at keywords symbols cell lines line stmt bind assign target groups group place imports module_name delete print printed save saved value expr comparison bor bxor band shift sum term unary signed power exponent under postfix suffix operand function call arange second third filled full new_array broadcast_to two fold reduce accumulate comma_options options first_axis named_axis numbered_axis comma_keepdims only_keepdims named_keepdims comma_typing only_typing typing dtype fields pair type_name kind_name shape tuple no_lengths quoted exprs method attribute axes lengths empty type_argument reduction reduction_options accumulation index contents nothing item part list elements newaxis slice step_in bound_in grouped name has keyword_kinds name_kinds
in_place_reads_its_element = by_list numbers (codes "x[0] += 1") _ refl

pub in_place_reads_its_slice : InPlaceReadsItsSlice
unfolding digits reading tokens tokens_from piece_at word_at keywords symbols cell lines line stmt bind assign target groups group place imports module_name delete print printed save saved value expr comparison bor bxor band shift sum term unary signed power exponent under postfix suffix operand function call arange second third filled full new_array broadcast_to two fold reduce accumulate comma_options options first_axis named_axis numbered_axis comma_keepdims only_keepdims named_keepdims comma_typing only_typing typing dtype fields pair type_name kind_name shape tuple no_lengths quoted exprs method attribute axes lengths empty type_argument reduction reduction_options accumulation index contents nothing item part list elements newaxis slice step_in bound_in grouped name has keyword_kinds name_kinds
in_place_reads_its_slice = by_list numbers (codes "x[::2] *= 3") _ refl

pub in_place_reads_its_array : InPlaceReadsItsArray
unfolding digits reading tokens tokens_from piece_at word_at keywords symbols cell lines line stmt bind assign target groups group place imports module_name delete print printed save saved value expr comparison bor bxor band shift sum term unary signed power exponent under postfix suffix operand function call arange second third filled full new_array broadcast_to two fold reduce accumulate comma_options options first_axis named_axis numbered_axis comma_keepdims only_keepdims named_keepdims comma_typing only_typing typing dtype fields pair type_name kind_name shape tuple no_lengths quoted exprs method attribute axes lengths empty type_argument reduction reduction_options accumulation index contents nothing item part list elements newaxis slice step_in bound_in grouped name has keyword_kinds name_kinds
in_place_reads_its_array = by_list numbers (codes "x += 1") _ refl

pub own_doings_are_not_read : OwnDoingsAreNotRead
unfolding digits reading tokens tokens_from piece_at word_at keywords symbols cell lines line stmt bind assign target groups group place imports module_name delete print printed save saved value expr comparison bor bxor band shift sum term unary signed power exponent under postfix suffix operand function call arange second third filled full new_array broadcast_to two fold reduce accumulate comma_options options first_axis named_axis numbered_axis comma_keepdims only_keepdims named_keepdims comma_typing only_typing typing dtype fields pair type_name kind_name shape tuple no_lengths quoted exprs method attribute axes lengths empty type_argument reduction reduction_options accumulation index contents nothing item part list elements newaxis slice step_in bound_in grouped name has keyword_kinds name_kinds
own_doings_are_not_read = by_list numbers (codes "y = np.arange(3)\nx[0] = 5\nprint(y, x)") _ refl

pub own_name_is_not_read : OwnNameIsNotRead
unfolding digits reading tokens tokens_from piece_at word_at keywords symbols cell lines line stmt bind assign target groups group place imports module_name delete print printed save saved value expr comparison bor bxor band shift sum term unary signed power exponent under postfix suffix operand function call arange second third filled full new_array broadcast_to two fold reduce accumulate comma_options options first_axis named_axis numbered_axis comma_keepdims only_keepdims named_keepdims comma_typing only_typing typing dtype fields pair type_name kind_name shape tuple no_lengths quoted exprs method attribute axes lengths empty type_argument reduction reduction_options accumulation index contents nothing item part list elements newaxis slice step_in bound_in grouped name has keyword_kinds name_kinds
own_name_is_not_read = by_list numbers (codes "x = np.arange(2)\nprint(x)") _ refl

pub refused_reads_what_it_came_to : RefusedReadsWhatItCameTo
unfolding digits reading tokens tokens_from piece_at word_at keywords symbols cell lines line stmt bind assign target groups group place imports module_name delete print printed save saved value expr comparison bor bxor band shift sum term unary signed power exponent under postfix suffix operand function call arange second third filled full new_array broadcast_to two fold reduce accumulate comma_options options first_axis named_axis numbered_axis comma_keepdims only_keepdims named_keepdims comma_typing only_typing typing dtype fields pair type_name kind_name shape tuple no_lengths quoted exprs method attribute axes lengths empty type_argument reduction reduction_options accumulation index contents nothing item part list elements newaxis slice step_in bound_in grouped name has keyword_kinds name_kinds
refused_reads_what_it_came_to = by_list numbers (codes "print(x[0], x[9], x[1])") _ refl

pub refused_reads_its_lines : RefusedReadsItsLines
unfolding digits reading tokens tokens_from piece_at word_at keywords symbols cell lines line stmt bind assign target groups group place imports module_name delete print printed save saved value expr comparison bor bxor band shift sum term unary signed power exponent under postfix suffix operand function call arange second third filled full new_array broadcast_to two fold reduce accumulate comma_options options first_axis named_axis numbered_axis comma_keepdims only_keepdims named_keepdims comma_typing only_typing typing dtype fields pair type_name kind_name shape tuple no_lengths quoted exprs method attribute axes lengths empty type_argument reduction reduction_options accumulation index contents nothing item part list elements newaxis slice step_in bound_in grouped name has keyword_kinds name_kinds
refused_reads_its_lines = by_list numbers (codes "print(x[0])\nx[9] = x[1]") _ refl

pub no_cell_reads_the_rule : NoCellReadsTheRule
unfolding digits reading tokens tokens_from piece_at word_at keywords symbols cell lines line stmt bind assign target groups group place imports module_name delete print printed save saved value expr comparison bor bxor band shift sum term unary signed power exponent under postfix suffix operand function call arange second third filled full new_array broadcast_to two fold reduce accumulate comma_options options first_axis named_axis numbered_axis comma_keepdims only_keepdims named_keepdims comma_typing only_typing typing dtype fields pair type_name kind_name shape tuple no_lengths quoted exprs method attribute axes lengths empty type_argument reduction reduction_options accumulation index contents nothing item part list elements newaxis slice step_in bound_in grouped name has keyword_kinds name_kinds
no_cell_reads_the_rule = by_list numbers (codes "print(") _ refl

pub missing_input_is_read : MissingInputIsRead
unfolding digits reading tokens tokens_from piece_at word_at keywords symbols cell lines line stmt bind assign target groups group place imports module_name delete print printed save saved value expr comparison bor bxor band shift sum term unary signed power exponent under postfix suffix operand function call arange second third filled full new_array broadcast_to two fold reduce accumulate comma_options options first_axis named_axis numbered_axis comma_keepdims only_keepdims named_keepdims comma_typing only_typing typing dtype fields pair type_name kind_name shape tuple no_lengths quoted exprs method attribute axes lengths empty type_argument reduction reduction_options accumulation index contents nothing item part list elements newaxis slice step_in bound_in grouped name has keyword_kinds name_kinds
missing_input_is_read = by_list numbers (codes "y = np.load('f')") _ refl
