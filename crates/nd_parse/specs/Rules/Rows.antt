-- Rows of what is read one by one.
use Rattle.std.specs.Prelude.{◌≡◌, List, [], ◌∷◌, ◌++◌, Result, Ok, Err, Vec}
use Rattle.std.specs.Borrow.{Bor}
use Rattle.std.specs.Global.{Global}
use Rattle.nd_memory.specs.Want.{out_of_memory}
use Rattle.nd_token.specs.declared.token.Token.{Token}
use Rattle.nd_parse.specs.declared.reader.read.Failure.{Failure}
use Rattle.nd_parse.specs.declared.reader.read.Failure.TheVariants.{Memory}

module _ {X : Type 0} where
  -- what was read, with what is read next behind it
  abbrev pub Appended : Vec X Global → Result (X × Bor (List Token)) Failure
      → Result (Vec X Global × Bor (List Token)) Failure → Type 0
  Appended all (Ok next) (Ok more) = (more.0.items ≡ all.items ++ next.0 ∷ []) × (more.1 ≡ next.1)
  Appended all (Ok next) (Err e) = e ≡ Memory out_of_memory
  Appended all (Err e) result = result ≡ Err e

  -- what was read first, with the others that are read behind it
  abbrev pub Led : X → Result (Vec X Global × Bor (List Token)) Failure
      → Result (Vec X Global × Bor (List Token)) Failure → Type 0
  Led first (Ok others) (Ok all) = (all.0.items ≡ first ∷ others.0.items) × (all.1 ≡ others.1)
  Led first (Ok others) (Err e) = e ≡ Memory out_of_memory
  Led first (Err e) result = result ≡ Err e
