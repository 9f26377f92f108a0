-- The kind of a token depends on what stands behind it. Wherever the grammar knows one kind of a token it knows all: each may
-- stand there, or is refused there for a reason of its own, as a name that is called. This is asked of each place, by the set of
-- the tokens that the grammar knows there.
use Rattle.std.specs.Prelude.{◌≡◌, ℕ, List, ◌∷◌, bit_or}
use Rattle.nd_model.specs.Grammar.Grammar.{Gram, Done, Here, One, Then, Or, Many, Shut, has}
use Rattle.nd_model.specs.Grammar.Predict.{Look, look, also}
use Rattle.nd_model.specs.Grammar.Token.{Token}
use Rattle.nd_model.specs.Grammar.Kinds.{kind}
use Rattle.nd_model.specs.Grammar.Cells.{cell}

-- a token is in the set, or it is not, whatever comes behind it
abbrev pub IsSettled : ℕ → Type 0
IsSettled set = (t : Token) (rest other : List Token) → has set (kind (t ∷ rest)) ≡ has set (kind (t ∷ other))

-- What may come where a part begins, and behind it a token of `next`. That no first part of an Or is empty is taken as read.
abbrev pub from : Look → ℕ → ℕ
from l next = also l.empty l.first next

-- What is known behind each token of the part is settled, where a token of `next` may come behind the part.
abbrev pub AreSettled : {C : Type 0} → Gram Token C → ℕ → Type 0
AreSettled (Done c) next = Unit {0}
AreSettled (Here f) next = Unit {0}
AreSettled (One set f) next = IsSettled next
AreSettled (Then f a b) next = AreSettled a (from (look b) next) × AreSettled b next
AreSettled (Or set a b) next = AreSettled a next × AreSettled b next
AreSettled (Many set f a) next = AreSettled a (bit_or (look a).first next)
AreSettled (Shut set why) next = Unit {0}

-- Each place of a cell is settled: its begin, and what is behind each of its tokens.
abbrev pub LookaheadChooses : Type 0
LookaheadChooses = IsSettled (from (look cell) 0) × AreSettled cell 0
