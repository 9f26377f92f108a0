-- Texts, and what they mean.
use Rattle.std.proofs.Common.{◌≡◌, ◌++◌, ◌+◌, ◌^◌, ℕ, true, List, [], ◌∷◌, None, Some, Ok, Err, refl}
use Rattle.std.specs.Prelude.{codes, bit_or}
use Rattle.nd_model.specs.Grammar.Lexing.{tokens, tokens_from, piece_at, word_at, keywords, symbols}
use Rattle.nd_model.specs.Arrays.Element.{Int8}
use Rattle.nd_model.specs.Grammar.Calls.{Zeros, Sum, KindName, Simple}
use Rattle.nd_model.specs.Grammar.Syntax.{Name, Integer, Truth, Unary, Negative, Binary, Multiply, Subtract, Power, Less, Called, Arange, Filled, Attribute, Transpose, Reduced, AtAxis, NoExpr, AndExpr, Expr, Item, Index, Items, AndItem, NoItem, At, Omitted, Import, Bind, Augment, Assign, AugmentItem, Delete, Print}
use Rattle.nd_model.specs.Cells.Fault.{ParseKind, BadToken, Unexpected, UnknownCall, LeftOut}
use Rattle.nd_model.specs.Grammar.Grammar.{has}
use Rattle.nd_model.specs.Grammar.Kinds.{keyword_kinds, name_kinds, NAME, CALLED, ANY_NAME, NUMPY, NUMPY_CALLED, FUNCTION, NO_FUNCTION, KIND_PLAIN, NO_KIND, REDUCE, ACCUMULATE, NO_FOLD, TRANSPOSED, TRANSPOSE, RESHAPE, COPY, CONVERSION, REDUCTION, ACCUMULATION, NO_METHOD, OPERAND}
use Rattle.nd_model.specs.Grammar.Cells.{name, grouped, bound_in, step_in, slice, newaxis, elements, list, part, item, nothing, contents, index, exprs, quoted, no_lengths, tuple, shape, kind_name, type_name, pair, fields, dtype, typing, only_typing, comma_typing, named_axis, numbered_axis, named_keepdims, only_keepdims, comma_keepdims, options, comma_options, first_axis, third, second, arange, filled, full, new_array, broadcast_to, two, reduce, accumulate, fold, call, function, empty, type_argument, axes, lengths, reduction_options, reduction, accumulation, attribute, method, operand, suffix, postfix, exponent, power, signed, unary, term, sum, shift, band, bxor, bor, comparison, expr, under, module_name, imports, delete, printed, print, saved, save, value, line, lines}
use Rattle.nd_model.specs.Grammar.Factored.{bind, place, group, groups, target, assign, stmt, cell}
use Rattle.nd_model.specs.Grammar.Reading.{reading}

abbrev is_refused : List ℕ → ParseKind → ℕ → ℕ → Type 0
is_refused text kind line column = reading text ≡ Err (record { kind = kind; line = line; column = column })

-- an index of one expression
abbrev one : Expr → Index
one e = Items (AndItem (At e) NoItem)

faults :
    is_refused (codes "x = a b(3)") Unexpected 1 7 ×
    is_refused (codes "x (3)") UnknownCall 1 1 ×
    is_refused (codes "import numpy(") UnknownCall 1 8 ×
    is_refused (codes "x = np.add(a, b)") UnknownCall 1 8 ×
    is_refused (codes "  foo(3)") Unexpected 1 3 ×
    is_refused (codes "  if x") LeftOut 1 3 ×
    is_refused (codes "x = +1") LeftOut 1 5 ×
    is_refused (codes "x++") Unexpected 1 2 ×
    is_refused (codes "x = 1;y = 2") LeftOut 1 6 ×
    is_refused (codes "x[] = 1") Unexpected 1 3 ×
    is_refused (codes "(x) = 1") Unexpected 1 5 ×
    is_refused (codes "x = np.arange(") Unexpected 1 15 ×
    is_refused (codes "y = 1 < 2 < 3") LeftOut 1 11 ×
    is_refused (codes "y = 1 < < 2") Unexpected 1 9 ×
    is_refused (codes "x = 2 ** +1") LeftOut 1 10 ×
    is_refused (codes "x ==1") Unexpected 1 3 ×
    is_refused (codes "x = 1.5") BadToken 1 5 ×
    is_refused (codes "x = np.save(\"a\", 1)") UnknownCall 1 8 ×
    is_refused (codes "x = y.sum(keepdims=True, axis=0)") Unexpected 1 24
unfolding reading tokens tokens_from piece_at word_at keywords symbols cell lines line stmt bind assign target groups group place imports module_name delete print printed save saved value expr comparison bor bxor band shift sum term unary signed power exponent under postfix suffix operand function call arange second third filled full new_array broadcast_to two fold reduce accumulate comma_options options first_axis named_axis numbered_axis comma_keepdims only_keepdims named_keepdims comma_typing only_typing typing dtype fields pair type_name kind_name shape tuple no_lengths quoted exprs method attribute axes lengths empty type_argument reduction reduction_options accumulation index contents nothing item part list elements newaxis slice step_in bound_in grouped name has keyword_kinds name_kinds
faults = (refl, refl, refl, refl, refl, refl, refl, refl, refl, refl, refl, refl, refl, refl, refl, refl, refl, refl, refl)

a_cell :
    reading (codes "import numpy as np" ++ 10 ∷ codes "x = np.arange(6)" ++ 10 ∷ codes "x[0][-1] = (x[2])  # both" ++ 10 ∷ codes "print(x, 7)" ++ 10 ∷ codes "del x")
    ≡ Ok (
    record { line = 1; stmt = Import }
    ∷ record { line = 2; stmt = Bind (codes "x") (Called (Arange Omitted (Integer 6) Omitted None)) }
    ∷ record { line = 3; stmt = Assign (Item (Name (codes "x")) (one (Integer 0))) (one (Unary Negative (Integer 1))) (Item (Name (codes "x")) (one (Integer 2))) }
    ∷ record { line = 4; stmt = Print (Name (codes "x") ∷ Integer 7 ∷ []) }
    ∷ record { line = 5; stmt = Delete (codes "x") }
    ∷ []
    )
unfolding reading tokens tokens_from piece_at word_at keywords symbols cell lines line stmt bind assign target groups group place imports module_name delete print printed save saved value expr comparison bor bxor band shift sum term unary signed power exponent under postfix suffix operand function call arange second third filled full new_array broadcast_to two fold reduce accumulate comma_options options first_axis named_axis numbered_axis comma_keepdims only_keepdims named_keepdims comma_typing only_typing typing dtype fields pair type_name kind_name shape tuple no_lengths quoted exprs method attribute axes lengths empty type_argument reduction reduction_options accumulation index contents nothing item part list elements newaxis slice step_in bound_in grouped name has keyword_kinds name_kinds
a_cell = refl

-- `-` binds less than `**` on its left and more on its right; a chain goes to the left
some_operators :
    reading (codes "x = -2 ** -3 * 4 - y - z < True" ++ 10 ∷ codes "x *= 2" ++ 10 ∷ codes "x[0] **= 2")
    ≡ Ok (
    record {
      line = 1;
      stmt = Bind (codes "x") (Binary Less
          (Binary Subtract (Binary Subtract (Binary Multiply (Unary Negative (Binary Power (Integer 2) (Unary Negative (Integer 3)))) (Integer 4)) (Name (codes "y"))) (Name (codes "z")))
          (Truth true));
    }
    ∷ record { line = 2; stmt = Augment (codes "x") Multiply (Integer 2) }
    ∷ record { line = 3; stmt = AugmentItem (Name (codes "x")) (one (Integer 0)) Power (Integer 2) }
    ∷ []
    )
unfolding reading tokens tokens_from piece_at word_at keywords symbols cell lines line stmt bind assign target groups group place imports module_name delete print printed save saved value expr comparison bor bxor band shift sum term unary signed power exponent under postfix suffix operand function call arange second third filled full new_array broadcast_to two fold reduce accumulate comma_options options first_axis named_axis numbered_axis comma_keepdims only_keepdims named_keepdims comma_typing only_typing typing dtype fields pair type_name kind_name shape tuple no_lengths quoted exprs method attribute axes lengths empty type_argument reduction reduction_options accumulation index contents nothing item part list elements newaxis slice step_in bound_in grouped name has keyword_kinds name_kinds
some_operators = refl

-- a call of a function, and methods
some_calls :
    reading (codes "x = np.zeros((2, 3), dtype=np.int8)" ++ 10 ∷ codes "y = x.T.sum(0, keepdims=True)")
    ≡ Ok (
    record { line = 1; stmt = Bind (codes "x") (Called (Filled Zeros (AndExpr (Integer 2) (AndExpr (Integer 3) NoExpr)) (Some (Simple (KindName Int8))))) }
    ∷ record { line = 2; stmt = Bind (codes "y") (Attribute (Attribute (Name (codes "x")) (Transpose NoExpr)) (Reduced Sum (AtAxis (Integer 0)) true)) }
    ∷ []
    )
unfolding reading tokens tokens_from piece_at word_at keywords symbols cell lines line stmt bind assign target groups group place imports module_name delete print printed save saved value expr comparison bor bxor band shift sum term unary signed power exponent under postfix suffix operand function call arange second third filled full new_array broadcast_to two fold reduce accumulate comma_options options first_axis named_axis numbered_axis comma_keepdims only_keepdims named_keepdims comma_typing only_typing typing dtype fields pair type_name kind_name shape tuple no_lengths quoted exprs method attribute axes lengths empty type_argument reduction reduction_options accumulation index contents nothing item part list elements newaxis slice step_in bound_in grouped name has keyword_kinds name_kinds
some_calls = refl

-- A set has all kinds of a name, with those that are refused beside it.
name_sets :
    (bit_or NAME CALLED ≡ ANY_NAME) ×
    (bit_or NUMPY NUMPY_CALLED ≡ 2 ^ 43 + 2 ^ 44 + 2 ^ 45) ×
    (bit_or FUNCTION NO_FUNCTION ≡ ANY_NAME) ×
    (bit_or KIND_PLAIN NO_KIND ≡ ANY_NAME) ×
    (bit_or (bit_or REDUCE ACCUMULATE) NO_FOLD ≡ ANY_NAME) ×
    (bit_or (bit_or (bit_or (bit_or (bit_or (bit_or (bit_or TRANSPOSED TRANSPOSE) RESHAPE) COPY) CONVERSION) REDUCTION) ACCUMULATION) NO_METHOD ≡ ANY_NAME) ×
    (OPERAND ≡ bit_or NAME 3)
name_sets = (refl, refl, refl, refl, refl, refl, refl)
