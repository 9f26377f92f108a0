-- What the bytes of a header come to, from a state and by the rules that are left.
use Rattle.std.proofs.Common.{◌≡◌, ℕ, ◌-◌, Bool, List, [], ◌∷◌, ap}
use Rattle.nd_model.specs.Formats.Rules.{Rule, Nothing, Then, Or, Many, Part}
use Rattle.nd_model.specs.Formats.Rules as rules
use Rattle.nd_model.specs.Formats.RuleReading.{Step, Taken, go_on, run}
use Rattle.nd_model.specs.Formats.RuleReading as reading
use Rattle.nd_model.specs.Formats.NpyHeader as h
use Rattle.nd_model.specs.Formats.NpyHeader.{Encoding, State, steps, roles_of, kinds_of}

abbrev pub At : Encoding → State → List Rule → List ℕ → State × Bool
At encoding s k bs = let r = run k (kinds_of bs) in (steps encoding s (roles_of r.parts) bs, r.whole)

-- a byte that the rules take
pub taken : (encoding : Encoding) (s : State) (k more : List Rule) (role b : ℕ) (bs : List ℕ) → reading.step k (kinds_of (b ∷ bs)) ≡ Taken role more
    → At encoding s k (b ∷ bs) ≡ At encoding (h.step encoding s role b) more bs
taken encoding s k more role b bs is =
    ap (λ (x : Step). let r = go_on x (h.kind_of b bs) (λ k. run k (kinds_of bs)) in (steps encoding s (roles_of r.parts) (b ∷ bs), r.whole)) is

-- rules that take the next byte alike
pub alike : (encoding : Encoding) (s : State) (k other : List Rule) (b : ℕ) (bs : List ℕ) → reading.step k (kinds_of (b ∷ bs)) ≡ reading.step other (kinds_of (b ∷ bs))
    → At encoding s k (b ∷ bs) ≡ At encoding s other (b ∷ bs)
alike encoding s k other b bs same =
    ap (λ (x : Step). let r = go_on x (h.kind_of b bs) (λ k. run k (kinds_of bs)) in (steps encoding s (roles_of r.parts) (b ∷ bs), r.whole)) same

-- ---- the rules that are left in places of the literal

abbrev pub close : List Rule
close = Then (h.byte_of h.close_brace) (Many h.white_space (h.symbol h.white_space)) ∷ []

abbrev pub last_comma : Rule
last_comma = Or (h.only h.other_comma) (Then (h.byte_of h.other_comma) h.spaces) Nothing

abbrev pub more_entries : Rule
more_entries = Many (h.only h.comma_before_quote) (Then (Then (h.byte_of h.comma_before_quote) h.spaces) h.entry)

-- behind the value of the first entry, and behind that of a further one
abbrev pub behind_first : List Rule
behind_first = h.spaces ∷ Then more_entries last_comma ∷ close

abbrev pub behind_next : List Rule
behind_next = h.spaces ∷ more_entries ∷ last_comma ∷ close

abbrev pub before_descr : List Rule
before_descr = h.spaces ∷ h.descr ∷ behind_first

abbrev pub before_shape : List Rule
before_shape = h.spaces ∷ h.shape ∷ behind_next

-- bytes of a text in single quotes, and then its end
abbrev pub in_quotes : ℕ → Rule
in_quotes byte = Many (h.all_kinds - h.single_quotes) (rules.One byte (h.all_kinds - h.single_quotes))

abbrev pub end_quote : Rule
end_quote = rules.One h.mark h.single_quotes

abbrev pub behind_name : Rule
behind_name = Then h.spaces (Then h.comma (Then (h.any_text h.type_byte h.mark) (Then h.spaces (Then (rules.One h.pair_end (h.only h.close_parenthesis)) h.spaces))))

abbrev pub more_pairs : Rule
more_pairs = Many h.commas (Then h.comma h.pair)

abbrev pub list_end : List Rule
list_end = h.byte_of h.close_bracket ∷ behind_first

abbrev pub behind_pair : List Rule
behind_pair = h.spaces ∷ more_pairs ∷ list_end

abbrev pub before_pairs : List Rule
before_pairs = Then h.spaces (Then (Or (h.only h.open_parenthesis) (Then h.pair more_pairs) Nothing) (h.byte_of h.close_bracket)) ∷ behind_first

-- behind the parenthesis of a pair
abbrev pub in_pair : List Rule
in_pair = Then h.spaces (Then (h.any_text h.name_byte h.mark) behind_name) ∷ more_pairs ∷ list_end

abbrev pub in_name : List Rule
in_name = in_quotes h.name_byte ∷ end_quote ∷ behind_name ∷ more_pairs ∷ list_end

-- behind the first quote of the type of a pair
abbrev pub in_type : List Rule
in_type = in_quotes h.type_byte ∷ end_quote ∷ Then h.spaces (Then (rules.One h.pair_end (h.only h.close_parenthesis)) h.spaces) ∷ more_pairs ∷ list_end

-- behind the parenthesis of a shape
abbrev pub shape_end : List Rule
shape_end = h.byte_of h.close_parenthesis ∷ behind_next

abbrev pub more_lengths : Rule
more_lengths = Many h.commas (Then h.comma h.number)

abbrev pub second_length : Rule
second_length = Or h.digits (Then h.number more_lengths) Nothing

abbrev pub in_shape : List Rule
in_shape = Then h.spaces (Then (Or h.digits (Then h.number (Then h.comma second_length)) Nothing) (h.byte_of h.close_parenthesis)) ∷ behind_next

abbrev pub more_digits : Rule
more_digits = Many h.digits (rules.One h.further_digit h.digits)

abbrev pub white : List Rule
white = Many h.white_space (h.symbol h.white_space) ∷ []
