-- Which kind two kinds give, and which conversions stay within the same kind of number. From NEP 50 and NumPy's
-- `promote_types` and `can_cast(.., 'same_kind')`.
use Rattle.std.specs.Prelude.{◌≡◌, map, ◌&&◌, Bool, ℕ, nat_le, int_le, List, [], ◌∷◌, Option, Some, None, if◌then◌else◌}
use Rattle.nd_model.specs.Arrays.Element.{Kind, Boolean, Int8, Int16, Int32, Int64, UInt8, UInt16, UInt32, UInt64, lowest, highest}

-- the order in which a kind for two others is looked for
abbrev pub kinds_in_order : List Kind
kinds_in_order = Boolean ∷ UInt8 ∷ Int8 ∷ UInt16 ∷ Int16 ∷ UInt32 ∷ Int32 ∷ UInt64 ∷ Int64 ∷ []

-- the first kind has each number of the second
abbrev pub has_range_of : Kind → Kind → Bool
has_range_of k of = int_le (lowest k) (lowest of) && int_le (highest of) (highest k)

abbrev pub first_for : Kind → Kind → List Kind → Option Kind
first_for a b [] = None
first_for a b (k ∷ ks) = if has_range_of k a && has_range_of k b then Some k else first_for a b ks

-- the first kind whose range holds both ranges; none where only a float would do
abbrev pub promoted : Kind → Kind → Option Kind
promoted a b = first_for a b kinds_in_order

-- the table of NEP 50: a row for each kind in that order, and in it what the kind gives with each
abbrev pub table : List (List (Option Kind))
table = (Some Boolean ∷ Some UInt8 ∷ Some Int8 ∷ Some UInt16 ∷ Some Int16 ∷ Some UInt32 ∷ Some Int32 ∷ Some UInt64 ∷ Some Int64 ∷ [])
    ∷ (Some UInt8 ∷ Some UInt8 ∷ Some Int16 ∷ Some UInt16 ∷ Some Int16 ∷ Some UInt32 ∷ Some Int32 ∷ Some UInt64 ∷ Some Int64 ∷ [])
    ∷ (Some Int8 ∷ Some Int16 ∷ Some Int8 ∷ Some Int32 ∷ Some Int16 ∷ Some Int64 ∷ Some Int32 ∷ None ∷ Some Int64 ∷ [])
    ∷ (Some UInt16 ∷ Some UInt16 ∷ Some Int32 ∷ Some UInt16 ∷ Some Int32 ∷ Some UInt32 ∷ Some Int32 ∷ Some UInt64 ∷ Some Int64 ∷ [])
    ∷ (Some Int16 ∷ Some Int16 ∷ Some Int16 ∷ Some Int32 ∷ Some Int16 ∷ Some Int64 ∷ Some Int32 ∷ None ∷ Some Int64 ∷ [])
    ∷ (Some UInt32 ∷ Some UInt32 ∷ Some Int64 ∷ Some UInt32 ∷ Some Int64 ∷ Some UInt32 ∷ Some Int64 ∷ Some UInt64 ∷ Some Int64 ∷ [])
    ∷ (Some Int32 ∷ Some Int32 ∷ Some Int32 ∷ Some Int32 ∷ Some Int32 ∷ Some Int64 ∷ Some Int32 ∷ None ∷ Some Int64 ∷ [])
    ∷ (Some UInt64 ∷ Some UInt64 ∷ None ∷ Some UInt64 ∷ None ∷ Some UInt64 ∷ None ∷ Some UInt64 ∷ None ∷ [])
    ∷ (Some Int64 ∷ Some Int64 ∷ Some Int64 ∷ Some Int64 ∷ Some Int64 ∷ Some Int64 ∷ Some Int64 ∷ None ∷ Some Int64 ∷ [])
    ∷ []

-- TABLE: the rule gives the published table
abbrev pub PromotionTable : Type 0
PromotionTable = map (λ a. map (promoted a) kinds_in_order) kinds_in_order ≡ table

-- Booleans, then unsigned numbers, then signed ones
abbrev pub sort_of : Kind → ℕ
sort_of Boolean = 0
sort_of UInt8 = 1
sort_of UInt16 = 1
sort_of UInt32 = 1
sort_of UInt64 = 1
sort_of Int8 = 2
sort_of Int16 = 2
sort_of Int32 = 2
sort_of Int64 = 2

-- a result of the first kind may be written in place into numbers of the second
abbrev pub same_kind : Kind → Kind → Bool
same_kind from to = nat_le (sort_of from) (sort_of to)
