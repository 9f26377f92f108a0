-- What a reader of tokens gives.
use Rattle.std.specs.Prelude.{◌≡◌, ℕ, true, false, Option, Some, None, List, [], ◌∷◌, map, Result, Ok, Err}
use Rattle.std.specs.Borrow.{Bor}
use Rattle.nd_token.specs.declared.token.Token.{Token}
use Rattle.nd_token.specs.Tokens.{token_of}
use Rattle.nd_model.specs.Grammar.Token as model
use Rattle.nd_model.specs.Grammar.Grammar as grammar
use Rattle.nd_model.specs.Grammar.Kinds.{kind}
use Rattle.nd_model.specs.Grammar.Predict.{read, next_in}
use Rattle.nd_model.specs.Grammar.Cells.{token, too_deep, left_out, too_many, unknown_call}
use Rattle.nd_parse.specs.declared.reader.spot.Spot.{Spot}
use Rattle.nd_parse.specs.declared.reader.spot.Spot.TheVariants as spots
use Rattle.nd_model.specs.Grammar.Cells as cells
use Rattle.nd_parse.specs.declared.reader.read.Reason.{Reason}
use Rattle.nd_parse.specs.declared.reader.read.Reason.TheVariants as reasons
use Rattle.nd_parse.specs.declared.reader.read.ReadStop.{ReadStop}
use Rattle.nd_parse.specs.declared.reader.read.Failure.{Failure}
use Rattle.nd_parse.specs.declared.reader.read.Failure.TheVariants as failures
pub use Rattle.nd_syntax.specs.Trees.Lists.{exprs_of, operation_of, operations_of, value_of, suffixes_of, methods_of, items_in, list_of_elements, elements_in, bounds_of, two_of, typing_of, filled_of, typed_of, third_of, both_of, second_of, options_of, group_of, trailing_of, target_of, list_of}

abbrev pub tokens_of : List Token → List model.Token
tokens_of ts = map token_of ts

abbrev pub reason_of : Reason → ℕ
reason_of reasons.Itself = 0
reason_of reasons.TooDeep = too_deep
reason_of reasons.LeftOut = left_out
reason_of reasons.TooMany = too_many
reason_of reasons.UnknownCall = unknown_call

abbrev pub stop_of : ReadStop → grammar.Stop
stop_of s = record { left = s.left; why = reason_of s.why }

-- What a function returned, seen by view, is what reading gives, unless memory ran out.
abbrev pub Fails : {Y : Type 0} → Failure → Result Y grammar.Stop → Type 0
Fails (failures.Memory m) read = Unit {0}
Fails (failures.Stopped s) read = read ≡ Err (stop_of s)

abbrev pub Gives : {X Y : Type 0} → (X → Y) → Result X Failure → Result Y grammar.Stop → Type 0
Gives view (Ok x) read = read ≡ Ok (view x)
Gives view (Err e) read = Fails e read

-- the first token, if there is one
abbrev pub front : List model.Token → model.Token
front [] = record { word = model.End; line = 0; column = 0; starts = false }
front (t ∷ ts) = t

-- what was read, and the tokens after it
abbrev pub with_rest : {X Y : Type 0} → (X → Y) → X × Bor (List Token) → Y × List model.Token
with_rest view x = (view x.0, tokens_of x.1.now)

abbrev pub spot_of : Spot → cells.Spot
spot_of spots.Anywhere = cells.Anywhere
spot_of spots.Target = cells.Target
spot_of spots.FirstItem = cells.FirstItem
spot_of spots.LaterItem = cells.LaterItem
spot_of spots.Length = cells.Length
spot_of spots.Number = cells.Number
spot_of spots.AxisNumber = cells.AxisNumber

-- what a level has inside, where this many may still be opened
abbrev pub inside : ℕ → cells.Inside
inside n = record { level = cells.under n; expr = λ s. cells.expr s (cells.under n); unary = cells.unary cells.Anywhere (cells.under n); list = cells.list (cells.under n) }

-- the tokens behind one of the set, if that is the next
abbrev pub Behind : ℕ → List model.Token → Option (Bor (List Token)) → Type 0
Behind set ts (Some rest) = (next_in kind set ts ≡ true) × (read kind (token set) ts ≡ Ok (front ts, tokens_of rest.now))
Behind set ts None = next_in kind set ts ≡ false

-- what was read first, with what was read second
abbrev pub paired : {X Y R E : Type 0} → X → Result (Y × R) E → Result ((X × Y) × R) E
paired first (Ok second) = Ok ((first, second.0), second.1)
paired first (Err e) = Err e
