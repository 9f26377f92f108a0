-- Rows: cells that compute.
use Rattle.std.proofs.Common.{◌≡◌, ℕ, pos, negsuc, List, [], ◌∷◌, ◌++◌, Option, Some, None, refl, codes}
use Rattle.std.specs.Fmt.{digits}
use Rattle.nd_model.specs.Cells.Session.{no_session}
use Rattle.nd_model.specs.Cells.Fault.{Refusal}
use Rattle.nd_model.specs.Cells.Cell.{Ended, Saved, cell as cell_of}
use Rattle.nd_model.specs.Cells.Running.{Source, Npy, Buffer, Python}
use Rattle.nd_model.specs.Formats.RuleReading.{reading as rule_reading}
use Rattle.nd_model.specs.Formats.FormatGrammar.{format}
use Rattle.nd_model.specs.Formats.FormatReading.{read_format}
use Rattle.nd_model.specs.Formats.NpyHeader.{header, header_in}
use Rattle.nd_model.specs.Formats.NpyReading.{header_of, elements_in, read_npy}
use Rattle.nd_model.specs.Formats.NpyWriting.{npy_front}
use Rattle.nd_model.specs.Grammar.Reading.{reading}
use Rattle.nd_model.specs.Text.FaultText.{refusal_text}
use Rattle.nd_model.specs.Grammar.Grammar.{has}
use Rattle.nd_model.specs.Grammar.Lexing.{tokens, tokens_from, piece_at, word_at, keywords, symbols}
use Rattle.nd_model.specs.Grammar.Kinds.{keyword_kinds, name_kinds}
use Rattle.nd_model.specs.Grammar.Cells.{name, grouped, bound_in, step_in, slice, newaxis, elements, list, part, item, nothing, contents, index, exprs, quoted, no_lengths, tuple, shape, kind_name, type_name, pair, fields, dtype, typing, only_typing, comma_typing, named_axis, numbered_axis, named_keepdims, only_keepdims, comma_keepdims, options, comma_options, first_axis, third, second, arange, filled, full, new_array, broadcast_to, two, reduce, accumulate, fold, call, function, empty, type_argument, axes, lengths, reduction_options, reduction, accumulation, attribute, method, operand, suffix, postfix, exponent, power, signed, unary, term, sum, shift, band, bxor, bor, comparison, expr, under, module_name, imports, delete, printed, print, saved, save, value, line, lines}
use Rattle.nd_model.specs.Grammar.Factored.{bind, place, group, groups, target, assign, stmt, cell}

abbrev refused : Option (ℕ × Refusal) → List ℕ
refused None = codes "ok"
refused (Some r) = refusal_text r.1

abbrev outcome : Ended → List ℕ × List ℕ
outcome e = (e.text, refused e.refusal)

-- what a cell prints, and how it ends
abbrev gives : List ℕ → List ℕ × List ℕ
gives text = outcome (cell_of 7 (reading text) (record { inputs = λ n. None; rule = Python }) no_session)

a_view_shares : gives (codes "x = np.arange(4)\ny = x\ny[0] = 9\nprint(x)") ≡ (codes "[9 1 2 3]\n", codes "ok")
unfolding digits reading tokens tokens_from piece_at word_at keywords symbols cell lines line stmt bind assign target groups group place imports module_name delete print printed save saved value expr comparison bor bxor band shift sum term unary signed power exponent under postfix suffix operand function call arange second third filled full new_array broadcast_to two fold reduce accumulate comma_options options first_axis named_axis numbered_axis comma_keepdims only_keepdims named_keepdims comma_typing only_typing typing dtype fields pair type_name kind_name shape tuple no_lengths quoted exprs method attribute axes lengths empty type_argument reduction reduction_options accumulation index contents nothing item part list elements newaxis slice step_in bound_in grouped name has keyword_kinds name_kinds
a_view_shares = refl

from_the_end : gives (codes "x = np.arange(3)\nx[-1] = -7\nprint(x, x[-3])") ≡ (codes "[ 0  1 -7] 0\n", codes "ok")
unfolding digits reading tokens tokens_from piece_at word_at keywords symbols cell lines line stmt bind assign target groups group place imports module_name delete print printed save saved value expr comparison bor bxor band shift sum term unary signed power exponent under postfix suffix operand function call arange second third filled full new_array broadcast_to two fold reduce accumulate comma_options options first_axis named_axis numbered_axis comma_keepdims only_keepdims named_keepdims comma_typing only_typing typing dtype fields pair type_name kind_name shape tuple no_lengths quoted exprs method attribute axes lengths empty type_argument reduction reduction_options accumulation index contents nothing item part list elements newaxis slice step_in bound_in grouped name has keyword_kinds name_kinds
from_the_end = refl

out_of_bounds : gives (codes "x = np.arange(3)\nx[3] = 1") ≡ (codes "", codes "Index.OutOfBounds 0 3 3")
unfolding digits reading tokens tokens_from piece_at word_at keywords symbols cell lines line stmt bind assign target groups group place imports module_name delete print printed save saved value expr comparison bor bxor band shift sum term unary signed power exponent under postfix suffix operand function call arange second third filled full new_array broadcast_to two fold reduce accumulate comma_options options first_axis named_axis numbered_axis comma_keepdims only_keepdims named_keepdims comma_typing only_typing typing dtype fields pair type_name kind_name shape tuple no_lengths quoted exprs method attribute axes lengths empty type_argument reduction reduction_options accumulation index contents nothing item part list elements newaxis slice step_in bound_in grouped name has keyword_kinds name_kinds
out_of_bounds = refl

value_before_target : gives (codes "x = np.arange(3)\nx[1] = q") ≡ (codes "", codes "Stmt.NoName q")
unfolding digits reading tokens tokens_from piece_at word_at keywords symbols cell lines line stmt bind assign target groups group place imports module_name delete print printed save saved value expr comparison bor bxor band shift sum term unary signed power exponent under postfix suffix operand function call arange second third filled full new_array broadcast_to two fold reduce accumulate comma_options options first_axis named_axis numbered_axis comma_keepdims only_keepdims named_keepdims comma_typing only_typing typing dtype fields pair type_name kind_name shape tuple no_lengths quoted exprs method attribute axes lengths empty type_argument reduction reduction_options accumulation index contents nothing item part list elements newaxis slice step_in bound_in grouped name has keyword_kinds name_kinds
value_before_target = refl

target_no_array : gives (codes "1[0] = 2") ≡ (codes "", codes "Stmt.NotAnArray")
unfolding digits reading tokens tokens_from piece_at word_at keywords symbols cell lines line stmt bind assign target groups group place imports module_name delete print printed save saved value expr comparison bor bxor band shift sum term unary signed power exponent under postfix suffix operand function call arange second third filled full new_array broadcast_to two fold reduce accumulate comma_options options first_axis named_axis numbered_axis comma_keepdims only_keepdims named_keepdims comma_typing only_typing typing dtype fields pair type_name kind_name shape tuple no_lengths quoted exprs method attribute axes lengths empty type_argument reduction reduction_options accumulation index contents nothing item part list elements newaxis slice step_in bound_in grouped name has keyword_kinds name_kinds
target_no_array = refl

wide_number : gives (codes "x = np.arange(1)\nx[0] = 9223372036854775808") ≡ (codes "", codes "Ufunc.IntOutOfRange 9223372036854775808")
unfolding digits reading tokens tokens_from piece_at word_at keywords symbols cell lines line stmt bind assign target groups group place imports module_name delete print printed save saved value expr comparison bor bxor band shift sum term unary signed power exponent under postfix suffix operand function call arange second third filled full new_array broadcast_to two fold reduce accumulate comma_options options first_axis named_axis numbered_axis comma_keepdims only_keepdims named_keepdims comma_typing only_typing typing dtype fields pair type_name kind_name shape tuple no_lengths quoted exprs method attribute axes lengths empty type_argument reduction reduction_options accumulation index contents nothing item part list elements newaxis slice step_in bound_in grouped name has keyword_kinds name_kinds
wide_number = refl

many_elements : gives (codes "x = np.arange(16777217)") ≡ (codes "", codes "View.TooManyElements")
unfolding digits reading tokens tokens_from piece_at word_at keywords symbols cell lines line stmt bind assign target groups group place imports module_name delete print printed save saved value expr comparison bor bxor band shift sum term unary signed power exponent under postfix suffix operand function call arange second third filled full new_array broadcast_to two fold reduce accumulate comma_options options first_axis named_axis numbered_axis comma_keepdims only_keepdims named_keepdims comma_typing only_typing typing dtype fields pair type_name kind_name shape tuple no_lengths quoted exprs method attribute axes lengths empty type_argument reduction reduction_options accumulation index contents nothing item part list elements newaxis slice step_in bound_in grouped name has keyword_kinds name_kinds
many_elements = refl

none_below_zero : gives (codes "print(np.arange(-2))") ≡ (codes "[]\n", codes "ok")
unfolding digits reading tokens tokens_from piece_at word_at keywords symbols cell lines line stmt bind assign target groups group place imports module_name delete print printed save saved value expr comparison bor bxor band shift sum term unary signed power exponent under postfix suffix operand function call arange second third filled full new_array broadcast_to two fold reduce accumulate comma_options options first_axis named_axis numbered_axis comma_keepdims only_keepdims named_keepdims comma_typing only_typing typing dtype fields pair type_name kind_name shape tuple no_lengths quoted exprs method attribute axes lengths empty type_argument reduction reduction_options accumulation index contents nothing item part list elements newaxis slice step_in bound_in grouped name has keyword_kinds name_kinds
none_below_zero = refl

name_deleted : gives (codes "x = np.arange(2)\nprint(x)\ndel x\nprint(x)") ≡ (codes "[0 1]\n", codes "Stmt.NoName x")
unfolding digits reading tokens tokens_from piece_at word_at keywords symbols cell lines line stmt bind assign target groups group place imports module_name delete print printed save saved value expr comparison bor bxor band shift sum term unary signed power exponent under postfix suffix operand function call arange second third filled full new_array broadcast_to two fold reduce accumulate comma_options options first_axis named_axis numbered_axis comma_keepdims only_keepdims named_keepdims comma_typing only_typing typing dtype fields pair type_name kind_name shape tuple no_lengths quoted exprs method attribute axes lengths empty type_argument reduction reduction_options accumulation index contents nothing item part list elements newaxis slice step_in bound_in grouped name has keyword_kinds name_kinds
name_deleted = refl

large_negative : gives (codes "x = -18446744073709551615") ≡ (codes "", codes "Stmt.IntTooBig")
unfolding digits reading tokens tokens_from piece_at word_at keywords symbols cell lines line stmt bind assign target groups group place imports module_name delete print printed save saved value expr comparison bor bxor band shift sum term unary signed power exponent under postfix suffix operand function call arange second third filled full new_array broadcast_to two fold reduce accumulate comma_options options first_axis named_axis numbered_axis comma_keepdims only_keepdims named_keepdims comma_typing only_typing typing dtype fields pair type_name kind_name shape tuple no_lengths quoted exprs method attribute axes lengths empty type_argument reduction reduction_options accumulation index contents nothing item part list elements newaxis slice step_in bound_in grouped name has keyword_kinds name_kinds
large_negative = refl

one_element_array : gives (codes "x = np.arange(2)\nx[0] = np.arange(1)\nx[1] = np.arange(2)") ≡ (codes "", codes "Ufunc.ShapeMismatch")
unfolding digits reading tokens tokens_from piece_at word_at keywords symbols cell lines line stmt bind assign target groups group place imports module_name delete print printed save saved value expr comparison bor bxor band shift sum term unary signed power exponent under postfix suffix operand function call arange second third filled full new_array broadcast_to two fold reduce accumulate comma_options options first_axis named_axis numbered_axis comma_keepdims only_keepdims named_keepdims comma_typing only_typing typing dtype fields pair type_name kind_name shape tuple no_lengths quoted exprs method attribute axes lengths empty type_argument reduction reduction_options accumulation index contents nothing item part list elements newaxis slice step_in bound_in grouped name has keyword_kinds name_kinds
one_element_array = refl

text_refused : gives (codes "x = np.arange(6).reshape(2,3)\nx[5, ::0]") ≡ (codes "", codes "Parse.Unexpected 10")
unfolding digits reading tokens tokens_from piece_at word_at keywords symbols cell lines line stmt bind assign target groups group place imports module_name delete print printed save saved value expr comparison bor bxor band shift sum term unary signed power exponent under postfix suffix operand function call arange second third filled full new_array broadcast_to two fold reduce accumulate comma_options options first_axis named_axis numbered_axis comma_keepdims only_keepdims named_keepdims comma_typing only_typing typing dtype fields pair type_name kind_name shape tuple no_lengths quoted exprs method attribute axes lengths empty type_argument reduction reduction_options accumulation index contents nothing item part list elements newaxis slice step_in bound_in grouped name has keyword_kinds name_kinds
text_refused = refl

list_of_lists : gives (codes "x = np.array([[1, -2], [3, True]])\nprint(x)") ≡ (codes "[[ 1 -2]\n [ 3  1]]\n", codes "ok")
unfolding digits reading tokens tokens_from piece_at word_at keywords symbols cell lines line stmt bind assign target groups group place imports module_name delete print printed save saved value expr comparison bor bxor band shift sum term unary signed power exponent under postfix suffix operand function call arange second third filled full new_array broadcast_to two fold reduce accumulate comma_options options first_axis named_axis numbered_axis comma_keepdims only_keepdims named_keepdims comma_typing only_typing typing dtype fields pair type_name kind_name shape tuple no_lengths quoted exprs method attribute axes lengths empty type_argument reduction reduction_options accumulation index contents nothing item part list elements newaxis slice step_in bound_in grouped name has keyword_kinds name_kinds
list_of_lists = refl

uneven_lists : gives (codes "x = np.array([[1], 2])") ≡ (codes "", codes "Stmt.RaggedList")
unfolding digits reading tokens tokens_from piece_at word_at keywords symbols cell lines line stmt bind assign target groups group place imports module_name delete print printed save saved value expr comparison bor bxor band shift sum term unary signed power exponent under postfix suffix operand function call arange second third filled full new_array broadcast_to two fold reduce accumulate comma_options options first_axis named_axis numbered_axis comma_keepdims only_keepdims named_keepdims comma_typing only_typing typing dtype fields pair type_name kind_name shape tuple no_lengths quoted exprs method attribute axes lengths empty type_argument reduction reduction_options accumulation index contents nothing item part list elements newaxis slice step_in bound_in grouped name has keyword_kinds name_kinds
uneven_lists = refl

copy_stays : gives (codes "x = np.arange(2)\ny = x.copy()\ny[0] = 9\nprint(x, y.astype(np.bool_))") ≡ (codes "[0 1] [ True  True]\n", codes "ok")
unfolding digits reading tokens tokens_from piece_at word_at keywords symbols cell lines line stmt bind assign target groups group place imports module_name delete print printed save saved value expr comparison bor bxor band shift sum term unary signed power exponent under postfix suffix operand function call arange second third filled full new_array broadcast_to two fold reduce accumulate comma_options options first_axis named_axis numbered_axis comma_keepdims only_keepdims named_keepdims comma_typing only_typing typing dtype fields pair type_name kind_name shape tuple no_lengths quoted exprs method attribute axes lengths empty type_argument reduction reduction_options accumulation index contents nothing item part list elements newaxis slice step_in bound_in grouped name has keyword_kinds name_kinds
copy_stays = refl

slices_of_a_slice : gives (codes "x = np.arange(6)\nprint(x[1:4], x[::-2], x[-2:][0], x[7:])") ≡ (codes "[1 2 3] [5 3 1] 4 []\n", codes "ok")
unfolding digits reading tokens tokens_from piece_at word_at keywords symbols cell lines line stmt bind assign target groups group place imports module_name delete print printed save saved value expr comparison bor bxor band shift sum term unary signed power exponent under postfix suffix operand function call arange second third filled full new_array broadcast_to two fold reduce accumulate comma_options options first_axis named_axis numbered_axis comma_keepdims only_keepdims named_keepdims comma_typing only_typing typing dtype fields pair type_name kind_name shape tuple no_lengths quoted exprs method attribute axes lengths empty type_argument reduction reduction_options accumulation index contents nothing item part list elements newaxis slice step_in bound_in grouped name has keyword_kinds name_kinds
slices_of_a_slice = refl

axes_of_a_table : gives (codes "x = np.array([[0, 1, 2], [3, 4, 5]])\nprint(x[1], x[..., 1], x[-1, -2], x[:, None, 2])") ≡ (codes "[3 4 5] [1 4] 4 [[2]\n [5]]\n", codes "ok")
unfolding digits reading tokens tokens_from piece_at word_at keywords symbols cell lines line stmt bind assign target groups group place imports module_name delete print printed save saved value expr comparison bor bxor band shift sum term unary signed power exponent under postfix suffix operand function call arange second third filled full new_array broadcast_to two fold reduce accumulate comma_options options first_axis named_axis numbered_axis comma_keepdims only_keepdims named_keepdims comma_typing only_typing typing dtype fields pair type_name kind_name shape tuple no_lengths quoted exprs method attribute axes lengths empty type_argument reduction reduction_options accumulation index contents nothing item part list elements newaxis slice step_in bound_in grouped name has keyword_kinds name_kinds
axes_of_a_table = refl

slice_shares : gives (codes "x = np.arange(4)\ny = x[1:]\nx[2] = 9\ny[0] = 7\nprint(x, y)") ≡ (codes "[0 7 9 3] [7 9 3]\n", codes "ok")
unfolding digits reading tokens tokens_from piece_at word_at keywords symbols cell lines line stmt bind assign target groups group place imports module_name delete print printed save saved value expr comparison bor bxor band shift sum term unary signed power exponent under postfix suffix operand function call arange second third filled full new_array broadcast_to two fold reduce accumulate comma_options options first_axis named_axis numbered_axis comma_keepdims only_keepdims named_keepdims comma_typing only_typing typing dtype fields pair type_name kind_name shape tuple no_lengths quoted exprs method attribute axes lengths empty type_argument reduction reduction_options accumulation index contents nothing item part list elements newaxis slice step_in bound_in grouped name has keyword_kinds name_kinds
slice_shares = refl

field_shares : gives (codes "r = np.zeros(2, dtype=[('a', '|i1'), ('b', '<i2')])\nr[1]['b'] = 5\nr['a'][0] = 3\nprint(r, r['b'], r[1]['b'])\nx = r['c']") ≡ (codes "[(3, 0) (0, 5)] [0 5] 5\n", codes "Index.NoField c")
unfolding digits reading tokens tokens_from piece_at word_at keywords symbols cell lines line stmt bind assign target groups group place imports module_name delete print printed save saved value expr comparison bor bxor band shift sum term unary signed power exponent under postfix suffix operand function call arange second third filled full new_array broadcast_to two fold reduce accumulate comma_options options first_axis named_axis numbered_axis comma_keepdims only_keepdims named_keepdims comma_typing only_typing typing dtype fields pair type_name kind_name shape tuple no_lengths quoted exprs method attribute axes lengths empty type_argument reduction reduction_options accumulation index contents nothing item part list elements newaxis slice step_in bound_in grouped name has keyword_kinds name_kinds
field_shares = refl

first_index_fault : gives (codes "x = np.array([[0, 1, 2], [3, 4, 5]])\ny = x[5, ::0]") ≡ (codes "", codes "Index.ZeroStep")
unfolding digits reading tokens tokens_from piece_at word_at keywords symbols cell lines line stmt bind assign target groups group place imports module_name delete print printed save saved value expr comparison bor bxor band shift sum term unary signed power exponent under postfix suffix operand function call arange second third filled full new_array broadcast_to two fold reduce accumulate comma_options options first_axis named_axis numbered_axis comma_keepdims only_keepdims named_keepdims comma_typing only_typing typing dtype fields pair type_name kind_name shape tuple no_lengths quoted exprs method attribute axes lengths empty type_argument reduction reduction_options accumulation index contents nothing item part list elements newaxis slice step_in bound_in grouped name has keyword_kinds name_kinds
first_index_fault = refl

row_of_structures : gives (codes "r = np.zeros(2, dtype=[('a', '|i1'), ('b', '<i2')])\nx = r[1]\nprint(r, x, np.array(x))\ny = x.copy()") ≡ (codes "[(0, 0) (0, 0)] (0, 0) (0, 0)\n", codes "Stmt.NotAnArray")
unfolding digits reading tokens tokens_from piece_at word_at keywords symbols cell lines line stmt bind assign target groups group place imports module_name delete print printed save saved value expr comparison bor bxor band shift sum term unary signed power exponent under postfix suffix operand function call arange second third filled full new_array broadcast_to two fold reduce accumulate comma_options options first_axis named_axis numbered_axis comma_keepdims only_keepdims named_keepdims comma_typing only_typing typing dtype fields pair type_name kind_name shape tuple no_lengths quoted exprs method attribute axes lengths empty type_argument reduction reduction_options accumulation index contents nothing item part list elements newaxis slice step_in bound_in grouped name has keyword_kinds name_kinds
row_of_structures = refl

transposed_shares : gives (codes "x = np.arange(6).reshape(2, 3)\ny = x.T\ny[2, 1] = 9\nprint(x, y[0], x.transpose(1, 0)[1])") ≡ (codes "[[0 1 2]\n [3 4 9]] [0 3] [1 4]\n", codes "ok")
unfolding digits reading tokens tokens_from piece_at word_at keywords symbols cell lines line stmt bind assign target groups group place imports module_name delete print printed save saved value expr comparison bor bxor band shift sum term unary signed power exponent under postfix suffix operand function call arange second third filled full new_array broadcast_to two fold reduce accumulate comma_options options first_axis named_axis numbered_axis comma_keepdims only_keepdims named_keepdims comma_typing only_typing typing dtype fields pair type_name kind_name shape tuple no_lengths quoted exprs method attribute axes lengths empty type_argument reduction reduction_options accumulation index contents nothing item part list elements newaxis slice step_in bound_in grouped name has keyword_kinds name_kinds
transposed_shares = refl

reshape_copies_where_it_must : gives (codes "v = np.broadcast_to(np.arange(2), (2, 2))\nw = v.reshape(4)\nw[0] = 7\nprint(v, w)\nv[0].reshape(2, 1)[0] = 1") ≡ (codes "[[0 1]\n [0 1]] [7 1 0 1]\n", codes "Ufunc.ReadOnly")
unfolding digits reading tokens tokens_from piece_at word_at keywords symbols cell lines line stmt bind assign target groups group place imports module_name delete print printed save saved value expr comparison bor bxor band shift sum term unary signed power exponent under postfix suffix operand function call arange second third filled full new_array broadcast_to two fold reduce accumulate comma_options options first_axis named_axis numbered_axis comma_keepdims only_keepdims named_keepdims comma_typing only_typing typing dtype fields pair type_name kind_name shape tuple no_lengths quoted exprs method attribute axes lengths empty type_argument reduction reduction_options accumulation index contents nothing item part list elements newaxis slice step_in bound_in grouped name has keyword_kinds name_kinds
reshape_copies_where_it_must = refl

stretched_element_is_one : gives (codes "b = np.array(5)\nv = np.broadcast_to(b, (2, 3)).reshape(6)\nb[()] = 7\nprint(v)") ≡ (codes "[7 7 7 7 7 7]\n", codes "ok")
unfolding digits reading tokens tokens_from piece_at word_at keywords symbols cell lines line stmt bind assign target groups group place imports module_name delete print printed save saved value expr comparison bor bxor band shift sum term unary signed power exponent under postfix suffix operand function call arange second third filled full new_array broadcast_to two fold reduce accumulate comma_options options first_axis named_axis numbered_axis comma_keepdims only_keepdims named_keepdims comma_typing only_typing typing dtype fields pair type_name kind_name shape tuple no_lengths quoted exprs method attribute axes lengths empty type_argument reduction reduction_options accumulation index contents nothing item part list elements newaxis slice step_in bound_in grouped name has keyword_kinds name_kinds
stretched_element_is_one = refl

first_shape_fault : gives (codes "x = np.arange(6)\nx.reshape(-1, -1, -5)[0] = 1") ≡ (codes "", codes "Shape.TwoUnknown")
unfolding digits reading tokens tokens_from piece_at word_at keywords symbols cell lines line stmt bind assign target groups group place imports module_name delete print printed save saved value expr comparison bor bxor band shift sum term unary signed power exponent under postfix suffix operand function call arange second third filled full new_array broadcast_to two fold reduce accumulate comma_options options first_axis named_axis numbered_axis comma_keepdims only_keepdims named_keepdims comma_typing only_typing typing dtype fields pair type_name kind_name shape tuple no_lengths quoted exprs method attribute axes lengths empty type_argument reduction reduction_options accumulation index contents nothing item part list elements newaxis slice step_in bound_in grouped name has keyword_kinds name_kinds
first_shape_fault = refl

bytes_as_numbers : gives (codes "x = np.array([256, 1], dtype=np.int16)\ny = x.view(np.uint8)\ny[3] = 1\nprint(y, x, x.view('>i2'))\nz = y[::2].view(np.int16)") ≡ (codes "[0 1 1 1] [256 257] [  1 257]\n", codes "View.ItemSizes")
unfolding digits reading tokens tokens_from piece_at word_at keywords symbols cell lines line stmt bind assign target groups group place imports module_name delete print printed save saved value expr comparison bor bxor band shift sum term unary signed power exponent under postfix suffix operand function call arange second third filled full new_array broadcast_to two fold reduce accumulate comma_options options first_axis named_axis numbered_axis comma_keepdims only_keepdims named_keepdims comma_typing only_typing typing dtype fields pair type_name kind_name shape tuple no_lengths quoted exprs method attribute axes lengths empty type_argument reduction reduction_options accumulation index contents nothing item part list elements newaxis slice step_in bound_in grouped name has keyword_kinds name_kinds
bytes_as_numbers = refl

all_is_read_first : gives (codes "x = np.arange(5)\nx[1:] = x[:-1]\nprint(x)\nx[::-1] = x\nprint(x)") ≡ (codes "[0 0 1 2 3]\n[3 2 1 0 0]\n", codes "ok")
unfolding digits reading tokens tokens_from piece_at word_at keywords symbols cell lines line stmt bind assign target groups group place imports module_name delete print printed save saved value expr comparison bor bxor band shift sum term unary signed power exponent under postfix suffix operand function call arange second third filled full new_array broadcast_to two fold reduce accumulate comma_options options first_axis named_axis numbered_axis comma_keepdims only_keepdims named_keepdims comma_typing only_typing typing dtype fields pair type_name kind_name shape tuple no_lengths quoted exprs method attribute axes lengths empty type_argument reduction reduction_options accumulation index contents nothing item part list elements newaxis slice step_in bound_in grouped name has keyword_kinds name_kinds
all_is_read_first = refl

rows_are_stretched : gives (codes "x = np.zeros((2, 3), dtype=np.int8)\nx[...] = np.array([[1, 2, 300]])\nx[:, 0] = 7\nprint(x)\nx[0:0] = 300") ≡ (codes "[[ 7  2 44]\n [ 7  2 44]]\n", codes "Ufunc.IntOutOfRange 300")
unfolding digits reading tokens tokens_from piece_at word_at keywords symbols cell lines line stmt bind assign target groups group place imports module_name delete print printed save saved value expr comparison bor bxor band shift sum term unary signed power exponent under postfix suffix operand function call arange second third filled full new_array broadcast_to two fold reduce accumulate comma_options options first_axis named_axis numbered_axis comma_keepdims only_keepdims named_keepdims comma_typing only_typing typing dtype fields pair type_name kind_name shape tuple no_lengths quoted exprs method attribute axes lengths empty type_argument reduction reduction_options accumulation index contents nothing item part list elements newaxis slice step_in bound_in grouped name has keyword_kinds name_kinds
rows_are_stretched = refl

structures_are_assigned : gives (codes "r = np.zeros(2, dtype=[('a', '|i1'), ('b', '<i2')])\nr['b'] = np.arange(2)\nr[0]['a'] = 5\nr[1] = r[0]\nprint(r)\nr[0] = 1") ≡ (codes "[(5, 0) (5, 0)]\n", codes "Ufunc.NotNumbers")
unfolding digits reading tokens tokens_from piece_at word_at keywords symbols cell lines line stmt bind assign target groups group place imports module_name delete print printed save saved value expr comparison bor bxor band shift sum term unary signed power exponent under postfix suffix operand function call arange second third filled full new_array broadcast_to two fold reduce accumulate comma_options options first_axis named_axis numbered_axis comma_keepdims only_keepdims named_keepdims comma_typing only_typing typing dtype fields pair type_name kind_name shape tuple no_lengths quoted exprs method attribute axes lengths empty type_argument reduction reduction_options accumulation index contents nothing item part list elements newaxis slice step_in bound_in grouped name has keyword_kinds name_kinds
structures_are_assigned = refl

-- ---- files and buffers

-- the same over one input
abbrev gives_of : Source → List ℕ → List ℕ × List ℕ
gives_of source text = outcome (cell_of 7 (reading text) (record { inputs = λ n. Some source; rule = Python }) no_session)

-- the files that a cell saves
abbrev saves : List ℕ → Saved
saves text = (cell_of 7 (reading text) (record { inputs = λ n. None; rule = Python }) no_session).saves

buffer_in_place : gives_of (Buffer (codes ">h") 2 (3 ∷ []) (pos 0 ∷ []) 0 (0 ∷ 5 ∷ [])) (codes "v = buffer('b')\nv += 1\nprint(v)") ≡ (codes "[6 6 6]\n", codes "ok")
unfolding digits reading tokens tokens_from piece_at word_at keywords symbols cell lines line stmt bind assign target groups group place imports module_name delete print printed save saved value expr comparison bor bxor band shift sum term unary signed power exponent under postfix suffix operand function call arange second third filled full new_array broadcast_to two fold reduce accumulate comma_options options first_axis named_axis numbered_axis comma_keepdims only_keepdims named_keepdims comma_typing only_typing typing dtype fields pair type_name kind_name shape tuple no_lengths quoted exprs method attribute axes lengths empty type_argument reduction reduction_options accumulation index contents nothing item part list elements newaxis slice step_in bound_in grouped name has keyword_kinds name_kinds format header read_format read_npy header_in header_of elements_in npy_front rule_reading
buffer_in_place = refl

buffer_backwards : gives_of (Buffer (codes "<h") 2 (3 ∷ []) (negsuc 1 ∷ []) 4 (1 ∷ 0 ∷ 2 ∷ 0 ∷ 3 ∷ 0 ∷ [])) (codes "print(buffer('c'))") ≡ (codes "[3 2 1]\n", codes "ok")
unfolding digits reading tokens tokens_from piece_at word_at keywords symbols cell lines line stmt bind assign target groups group place imports module_name delete print printed save saved value expr comparison bor bxor band shift sum term unary signed power exponent under postfix suffix operand function call arange second third filled full new_array broadcast_to two fold reduce accumulate comma_options options first_axis named_axis numbered_axis comma_keepdims only_keepdims named_keepdims comma_typing only_typing typing dtype fields pair type_name kind_name shape tuple no_lengths quoted exprs method attribute axes lengths empty type_argument reduction reduction_options accumulation index contents nothing item part list elements newaxis slice step_in bound_in grouped name has keyword_kinds name_kinds format header read_format read_npy header_in header_of elements_in npy_front rule_reading
buffer_backwards = refl

buffer_past_its_end : gives_of (Buffer (codes "<h") 2 (3 ∷ []) (pos 2 ∷ []) 2 (1 ∷ 0 ∷ 2 ∷ 0 ∷ 3 ∷ 0 ∷ [])) (codes "print(buffer('d'))") ≡ (codes "", codes "View.OutOfBlock")
unfolding digits reading tokens tokens_from piece_at word_at keywords symbols cell lines line stmt bind assign target groups group place imports module_name delete print printed save saved value expr comparison bor bxor band shift sum term unary signed power exponent under postfix suffix operand function call arange second third filled full new_array broadcast_to two fold reduce accumulate comma_options options first_axis named_axis numbered_axis comma_keepdims only_keepdims named_keepdims comma_typing only_typing typing dtype fields pair type_name kind_name shape tuple no_lengths quoted exprs method attribute axes lengths empty type_argument reduction reduction_options accumulation index contents nothing item part list elements newaxis slice step_in bound_in grouped name has keyword_kinds name_kinds format header read_format read_npy header_in header_of elements_in npy_front rule_reading
buffer_past_its_end = refl

format_before_view : gives_of (Buffer (codes "2b") 2 [] (pos 2 ∷ []) 2 []) (codes "print(buffer('d'))") ≡ (codes "", codes "Format.CountNotHere 0")
unfolding digits reading tokens tokens_from piece_at word_at keywords symbols cell lines line stmt bind assign target groups group place imports module_name delete print printed save saved value expr comparison bor bxor band shift sum term unary signed power exponent under postfix suffix operand function call arange second third filled full new_array broadcast_to two fold reduce accumulate comma_options options first_axis named_axis numbered_axis comma_keepdims only_keepdims named_keepdims comma_typing only_typing typing dtype fields pair type_name kind_name shape tuple no_lengths quoted exprs method attribute axes lengths empty type_argument reduction reduction_options accumulation index contents nothing item part list elements newaxis slice step_in bound_in grouped name has keyword_kinds name_kinds format header read_format read_npy header_in header_of elements_in npy_front rule_reading
format_before_view = refl

file_in_fortran_order : gives_of (Npy (147 ∷ codes "NUMPY" ++ 1 ∷ 0 ∷ 51 ∷ 0 ∷ codes "{'descr':'|u1','fortran_order':True,'shape':(2,3)}\n" ++ 0 ∷ 1 ∷ 2 ∷ 3 ∷ 4 ∷ 5 ∷ [])) (codes "x = np.load('f')\nprint(x)") ≡ (codes "[[0 2 4]\n [1 3 5]]\n", codes "ok")
unfolding digits reading tokens tokens_from piece_at word_at keywords symbols cell lines line stmt bind assign target groups group place imports module_name delete print printed save saved value expr comparison bor bxor band shift sum term unary signed power exponent under postfix suffix operand function call arange second third filled full new_array broadcast_to two fold reduce accumulate comma_options options first_axis named_axis numbered_axis comma_keepdims only_keepdims named_keepdims comma_typing only_typing typing dtype fields pair type_name kind_name shape tuple no_lengths quoted exprs method attribute axes lengths empty type_argument reduction reduction_options accumulation index contents nothing item part list elements newaxis slice step_in bound_in grouped name has keyword_kinds name_kinds format header read_format read_npy header_in header_of elements_in npy_front rule_reading
file_in_fortran_order = refl

no_file : gives_of (Npy []) (codes "x = np.load('e')") ≡ (codes "", codes "Npy.BadMagic")
unfolding digits reading tokens tokens_from piece_at word_at keywords symbols cell lines line stmt bind assign target groups group place imports module_name delete print printed save saved value expr comparison bor bxor band shift sum term unary signed power exponent under postfix suffix operand function call arange second third filled full new_array broadcast_to two fold reduce accumulate comma_options options first_axis named_axis numbered_axis comma_keepdims only_keepdims named_keepdims comma_typing only_typing typing dtype fields pair type_name kind_name shape tuple no_lengths quoted exprs method attribute axes lengths empty type_argument reduction reduction_options accumulation index contents nothing item part list elements newaxis slice step_in bound_in grouped name has keyword_kinds name_kinds format header read_format read_npy header_in header_of elements_in npy_front rule_reading
no_file = refl

other_sort : gives_of (Npy []) (codes "x = buffer('e')") ≡ (codes "", codes "Stmt.NoInput e")
unfolding digits reading tokens tokens_from piece_at word_at keywords symbols cell lines line stmt bind assign target groups group place imports module_name delete print printed save saved value expr comparison bor bxor band shift sum term unary signed power exponent under postfix suffix operand function call arange second third filled full new_array broadcast_to two fold reduce accumulate comma_options options first_axis named_axis numbered_axis comma_keepdims only_keepdims named_keepdims comma_typing only_typing typing dtype fields pair type_name kind_name shape tuple no_lengths quoted exprs method attribute axes lengths empty type_argument reduction reduction_options accumulation index contents nothing item part list elements newaxis slice step_in bound_in grouped name has keyword_kinds name_kinds format header read_format read_npy header_in header_of elements_in npy_front rule_reading
other_sort = refl

file_of_a_range : saves (codes "np.save('s', np.arange(3, dtype=np.int8))") ≡ (codes "s", 147 ∷ codes "NUMPY" ++ 1 ∷ 0 ∷ 118 ∷ 0 ∷ codes "{'descr': '|i1', 'fortran_order': False, 'shape': (3,), }                                                            \n" ++ 0 ∷ 1 ∷ 2 ∷ []) ∷ []
unfolding digits reading tokens tokens_from piece_at word_at keywords symbols cell lines line stmt bind assign target groups group place imports module_name delete print printed save saved value expr comparison bor bxor band shift sum term unary signed power exponent under postfix suffix operand function call arange second third filled full new_array broadcast_to two fold reduce accumulate comma_options options first_axis named_axis numbered_axis comma_keepdims only_keepdims named_keepdims comma_typing only_typing typing dtype fields pair type_name kind_name shape tuple no_lengths quoted exprs method attribute axes lengths empty type_argument reduction reduction_options accumulation index contents nothing item part list elements newaxis slice step_in bound_in grouped name has keyword_kinds name_kinds format header read_format read_npy header_in header_of elements_in npy_front rule_reading
file_of_a_range = refl

sums_along_axes : gives (codes "a = np.arange(6).reshape(2,3)\nprint(a.cumsum())\nprint(np.add.accumulate(a))\nprint(a.argmax(axis=1))\nprint(a.sum(axis=0, keepdims=True))\nprint(a.sum(axis=2))") ≡ (codes "[ 0  1  3  6 10 15]\n[[0 1 2]\n [3 5 7]]\n[2 2]\n[[3 5 7]]\n", codes "Reduce.NoAxis")
unfolding digits reading tokens tokens_from piece_at word_at keywords symbols cell lines line stmt bind assign target groups group place imports module_name delete print printed save saved value expr comparison bor bxor band shift sum term unary signed power exponent under postfix suffix operand function call arange second third filled full new_array broadcast_to two fold reduce accumulate comma_options options first_axis named_axis numbered_axis comma_keepdims only_keepdims named_keepdims comma_typing only_typing typing dtype fields pair type_name kind_name shape tuple no_lengths quoted exprs method attribute axes lengths empty type_argument reduction reduction_options accumulation index contents nothing item part list elements newaxis slice step_in bound_in grouped name has keyword_kinds name_kinds
sums_along_axes = refl

no_least_of_none : gives (codes "z = np.zeros((0,3), dtype=np.int8)\nprint(z.sum())\nprint(z.min(axis=1))\nprint(z.min())") ≡ (codes "0\n[]\n", codes "Reduce.EmptyReduce")
unfolding digits reading tokens tokens_from piece_at word_at keywords symbols cell lines line stmt bind assign target groups group place imports module_name delete print printed save saved value expr comparison bor bxor band shift sum term unary signed power exponent under postfix suffix operand function call arange second third filled full new_array broadcast_to two fold reduce accumulate comma_options options first_axis named_axis numbered_axis comma_keepdims only_keepdims named_keepdims comma_typing only_typing typing dtype fields pair type_name kind_name shape tuple no_lengths quoted exprs method attribute axes lengths empty type_argument reduction reduction_options accumulation index contents nothing item part list elements newaxis slice step_in bound_in grouped name has keyword_kinds name_kinds
no_least_of_none = refl

sums_in_64_bits : gives (codes "x = np.array([100,100], dtype=np.int8)\nprint(x.sum(), x.prod(axis=-1), x.argmax(), x.any(), np.maximum.reduce(x), np.int8(5).sum())\nprint(np.int8(5).cumsum())") ≡ (codes "200 10000 0 True 100 5\n", codes "Stmt.NotAnArray")
unfolding digits reading tokens tokens_from piece_at word_at keywords symbols cell lines line stmt bind assign target groups group place imports module_name delete print printed save saved value expr comparison bor bxor band shift sum term unary signed power exponent under postfix suffix operand function call arange second third filled full new_array broadcast_to two fold reduce accumulate comma_options options first_axis named_axis numbered_axis comma_keepdims only_keepdims named_keepdims comma_typing only_typing typing dtype fields pair type_name kind_name shape tuple no_lengths quoted exprs method attribute axes lengths empty type_argument reduction reduction_options accumulation index contents nothing item part list elements newaxis slice step_in bound_in grouped name has keyword_kinds name_kinds
sums_in_64_bits = refl

-- ---- arrays in indexes

a_copy_is_chosen : gives (codes "x = np.arange(5)\ny = x[[2,0]]\ny[0] = 9\nprint(x[[2,-1]], y, x)") ≡ (codes "[2 4] [9 0] [0 1 2 3 4]\n", codes "ok")
unfolding digits reading tokens tokens_from piece_at word_at keywords symbols cell lines line stmt bind assign target groups group place imports module_name delete print printed save saved value expr comparison bor bxor band shift sum term unary signed power exponent under postfix suffix operand function call arange second third filled full new_array broadcast_to two fold reduce accumulate comma_options options first_axis named_axis numbered_axis comma_keepdims only_keepdims named_keepdims comma_typing only_typing typing dtype fields pair type_name kind_name shape tuple no_lengths quoted exprs method attribute axes lengths empty type_argument reduction reduction_options accumulation index contents nothing item part list elements newaxis slice step_in bound_in grouped name has keyword_kinds name_kinds
a_copy_is_chosen = refl

axes_of_arrays : gives (codes "a = np.arange(24).reshape(2,3,4)\nprint(a[0,:,[0,1]])\nprint(a[:,[0,1],1])") ≡ (codes "[[0 4 8]\n [1 5 9]]\n[[ 1  5]\n [13 17]]\n", codes "ok")
unfolding digits reading tokens tokens_from piece_at word_at keywords symbols cell lines line stmt bind assign target groups group place imports module_name delete print printed save saved value expr comparison bor bxor band shift sum term unary signed power exponent under postfix suffix operand function call arange second third filled full new_array broadcast_to two fold reduce accumulate comma_options options first_axis named_axis numbered_axis comma_keepdims only_keepdims named_keepdims comma_typing only_typing typing dtype fields pair type_name kind_name shape tuple no_lengths quoted exprs method attribute axes lengths empty type_argument reduction reduction_options accumulation index contents nothing item part list elements newaxis slice step_in bound_in grouped name has keyword_kinds name_kinds
axes_of_arrays = refl

masks_choose : gives (codes "a = np.arange(4)\nm = a > 1\na[m] = 0\nprint(a[::-1], a[m])\nprint(a[[True,False]])") ≡ (codes "[0 0 1 0] [0 0]\n", codes "Index.MaskShape 0")
unfolding digits reading tokens tokens_from piece_at word_at keywords symbols cell lines line stmt bind assign target groups group place imports module_name delete print printed save saved value expr comparison bor bxor band shift sum term unary signed power exponent under postfix suffix operand function call arange second third filled full new_array broadcast_to two fold reduce accumulate comma_options options first_axis named_axis numbered_axis comma_keepdims only_keepdims named_keepdims comma_typing only_typing typing dtype fields pair type_name kind_name shape tuple no_lengths quoted exprs method attribute axes lengths empty type_argument reduction reduction_options accumulation index contents nothing item part list elements newaxis slice step_in bound_in grouped name has keyword_kinds name_kinds
masks_choose = refl

masks_take_one_axis : gives (codes "x = np.arange(3)\nx[x > 1] = 0\nprint(x)\nx[[True,False,True]] = np.array([7,8])\nprint(x)\nx[x > 7] = np.array([[1]])") ≡ (codes "[0 1 0]\n[7 1 8]\n", codes "Ufunc.ShapeMismatch")
unfolding digits reading tokens tokens_from piece_at word_at keywords symbols cell lines line stmt bind assign target groups group place imports module_name delete print printed save saved value expr comparison bor bxor band shift sum term unary signed power exponent under postfix suffix operand function call arange second third filled full new_array broadcast_to two fold reduce accumulate comma_options options first_axis named_axis numbered_axis comma_keepdims only_keepdims named_keepdims comma_typing only_typing typing dtype fields pair type_name kind_name shape tuple no_lengths quoted exprs method attribute axes lengths empty type_argument reduction reduction_options accumulation index contents nothing item part list elements newaxis slice step_in bound_in grouped name has keyword_kinds name_kinds
masks_take_one_axis = refl

the_last_stays : gives (codes "x = np.arange(3)\nx[[0,0]] = np.array([7,8])\nb = np.arange(6).reshape(3,2)\nb[0:3,[1,1]] = b\nprint(x, b[:,1])") ≡ (codes "[8 1 2] [1 3 5]\n", codes "ok")
unfolding digits reading tokens tokens_from piece_at word_at keywords symbols cell lines line stmt bind assign target groups group place imports module_name delete print printed save saved value expr comparison bor bxor band shift sum term unary signed power exponent under postfix suffix operand function call arange second third filled full new_array broadcast_to two fold reduce accumulate comma_options options first_axis named_axis numbered_axis comma_keepdims only_keepdims named_keepdims comma_typing only_typing typing dtype fields pair type_name kind_name shape tuple no_lengths quoted exprs method attribute axes lengths empty type_argument reduction reduction_options accumulation index contents nothing item part list elements newaxis slice step_in bound_in grouped name has keyword_kinds name_kinds
the_last_stays = refl

each_counts_once : gives (codes "x = np.zeros(3, dtype=np.int64)\nx[[0,0,2]] += 1\nprint(x)\nx[[2,1]] -= np.array([[5],[6]])") ≡ (codes "[1 0 1]\n", codes "Ufunc.ShapeMismatch")
unfolding digits reading tokens tokens_from piece_at word_at keywords symbols cell lines line stmt bind assign target groups group place imports module_name delete print printed save saved value expr comparison bor bxor band shift sum term unary signed power exponent under postfix suffix operand function call arange second third filled full new_array broadcast_to two fold reduce accumulate comma_options options first_axis named_axis numbered_axis comma_keepdims only_keepdims named_keepdims comma_typing only_typing typing dtype fields pair type_name kind_name shape tuple no_lengths quoted exprs method attribute axes lengths empty type_argument reduction reduction_options accumulation index contents nothing item part list elements newaxis slice step_in bound_in grouped name has keyword_kinds name_kinds
each_counts_once = refl

copies_before_read_only : gives (codes "v = np.broadcast_to(np.arange(2),(2,2))\nv[[0]] += np.arange(3)") ≡ (codes "", codes "Ufunc.ShapeMismatch")
unfolding digits reading tokens tokens_from piece_at word_at keywords symbols cell lines line stmt bind assign target groups group place imports module_name delete print printed save saved value expr comparison bor bxor band shift sum term unary signed power exponent under postfix suffix operand function call arange second third filled full new_array broadcast_to two fold reduce accumulate comma_options options first_axis named_axis numbered_axis comma_keepdims only_keepdims named_keepdims comma_typing only_typing typing dtype fields pair type_name kind_name shape tuple no_lengths quoted exprs method attribute axes lengths empty type_argument reduction reduction_options accumulation index contents nothing item part list elements newaxis slice step_in bound_in grouped name has keyword_kinds name_kinds
copies_before_read_only = refl

read_only_behind_copies : gives (codes "v = np.broadcast_to(np.arange(2),(2,2))\nv[[0]] += 1") ≡ (codes "", codes "Ufunc.ReadOnly")
unfolding digits reading tokens tokens_from piece_at word_at keywords symbols cell lines line stmt bind assign target groups group place imports module_name delete print printed save saved value expr comparison bor bxor band shift sum term unary signed power exponent under postfix suffix operand function call arange second third filled full new_array broadcast_to two fold reduce accumulate comma_options options first_axis named_axis numbered_axis comma_keepdims only_keepdims named_keepdims comma_typing only_typing typing dtype fields pair type_name kind_name shape tuple no_lengths quoted exprs method attribute axes lengths empty type_argument reduction reduction_options accumulation index contents nothing item part list elements newaxis slice step_in bound_in grouped name has keyword_kinds name_kinds
read_only_behind_copies = refl

array_out_of_bounds : gives (codes "x = np.arange(3)\nx[[0,1,5]] = 8") ≡ (codes "", codes "Index.OutOfBounds 0 5 3")
unfolding digits reading tokens tokens_from piece_at word_at keywords symbols cell lines line stmt bind assign target groups group place imports module_name delete print printed save saved value expr comparison bor bxor band shift sum term unary signed power exponent under postfix suffix operand function call arange second third filled full new_array broadcast_to two fold reduce accumulate comma_options options first_axis named_axis numbered_axis comma_keepdims only_keepdims named_keepdims comma_typing only_typing typing dtype fields pair type_name kind_name shape tuple no_lengths quoted exprs method attribute axes lengths empty type_argument reduction reduction_options accumulation index contents nothing item part list elements newaxis slice step_in bound_in grouped name has keyword_kinds name_kinds
array_out_of_bounds = refl

empty_lists_are_no_index : gives (codes "y = np.arange(2)[[[],[]]]") ≡ (codes "", codes "Index.NotAnIndex")
unfolding digits reading tokens tokens_from piece_at word_at keywords symbols cell lines line stmt bind assign target groups group place imports module_name delete print printed save saved value expr comparison bor bxor band shift sum term unary signed power exponent under postfix suffix operand function call arange second third filled full new_array broadcast_to two fold reduce accumulate comma_options options first_axis named_axis numbered_axis comma_keepdims only_keepdims named_keepdims comma_typing only_typing typing dtype fields pair type_name kind_name shape tuple no_lengths quoted exprs method attribute axes lengths empty type_argument reduction reduction_options accumulation index contents nothing item part list elements newaxis slice step_in bound_in grouped name has keyword_kinds name_kinds
empty_lists_are_no_index = refl

empty_lists_come_late : gives (codes "x = np.arange(2)\ny = x[[], q]") ≡ (codes "", codes "Stmt.NoName q")
unfolding digits reading tokens tokens_from piece_at word_at keywords symbols cell lines line stmt bind assign target groups group place imports module_name delete print printed save saved value expr comparison bor bxor band shift sum term unary signed power exponent under postfix suffix operand function call arange second third filled full new_array broadcast_to two fold reduce accumulate comma_options options first_axis named_axis numbered_axis comma_keepdims only_keepdims named_keepdims comma_typing only_typing typing dtype fields pair type_name kind_name shape tuple no_lengths quoted exprs method attribute axes lengths empty type_argument reduction reduction_options accumulation index contents nothing item part list elements newaxis slice step_in bound_in grouped name has keyword_kinds name_kinds
empty_lists_come_late = refl

uneven_items : gives (codes "y = np.arange(2)[[[],[[]]]]") ≡ (codes "", codes "Stmt.RaggedList")
unfolding digits reading tokens tokens_from piece_at word_at keywords symbols cell lines line stmt bind assign target groups group place imports module_name delete print printed save saved value expr comparison bor bxor band shift sum term unary signed power exponent under postfix suffix operand function call arange second third filled full new_array broadcast_to two fold reduce accumulate comma_options options first_axis named_axis numbered_axis comma_keepdims only_keepdims named_keepdims comma_typing only_typing typing dtype fields pair type_name kind_name shape tuple no_lengths quoted exprs method attribute axes lengths empty type_argument reduction reduction_options accumulation index contents nothing item part list elements newaxis slice step_in bound_in grouped name has keyword_kinds name_kinds
uneven_items = refl

lists_come_first : gives (codes "y = 5[[9223372036854775808]]") ≡ (codes "", codes "Stmt.NeedsType")
unfolding digits reading tokens tokens_from piece_at word_at keywords symbols cell lines line stmt bind assign target groups group place imports module_name delete print printed save saved value expr comparison bor bxor band shift sum term unary signed power exponent under postfix suffix operand function call arange second third filled full new_array broadcast_to two fold reduce accumulate comma_options options first_axis named_axis numbered_axis comma_keepdims only_keepdims named_keepdims comma_typing only_typing typing dtype fields pair type_name kind_name shape tuple no_lengths quoted exprs method attribute axes lengths empty type_argument reduction reduction_options accumulation index contents nothing item part list elements newaxis slice step_in bound_in grouped name has keyword_kinds name_kinds
lists_come_first = refl
