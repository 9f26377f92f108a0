-- What a row holds, once more was read.
use Rattle.std.proofs.Common.{◌≡◌, ◌++◌, ◌∷◌, [], List, map, Result, Ok, Err}
use Rattle.std.specs.Prelude.{Vec}
use Rattle.std.specs.Borrow.{Bor}
use Rattle.std.specs.Global.{Global}
use Rattle.std.proofs.lemmas.List.{map_push}
use Rattle.nd_model.specs.Grammar.Grammar as grammar
use Rattle.nd_model.specs.Grammar.Token as model
use Rattle.nd_token.specs.declared.token.Token.{Token}
use Rattle.nd_parse.specs.declared.reader.read.Failure.{Failure}
use Rattle.nd_parse.specs.Reader.Gives.{Gives, Fails, with_rest, tokens_of}
use Rattle.nd_parse.specs.Rules.Rows.{Appended}

module _ {X Y : Type 0} (view : X → Y) where
  pub appended : (all : Vec X Global) (next : Result (X × Bor (List Token)) Failure)
      (more : Vec X Global) (rest : Bor (List Token)) (r : Result (Y × List model.Token) grammar.Stop)
      → Appended all next (Ok (more, rest)) → Gives (with_rest view) next r
      → (y : Y) × ((r ≡ Ok (y, tokens_of rest.now)) × (map view more.items ≡ map view all.items ++ y ∷ []))
  appended all (Ok x) more rest r a g = (view x.0, (rw a.1 g, rw a.0 (map_push view all.items x.0)))
  appended all (Err e) more rest r a g = absurd cc

  pub append_fails : (all : Vec X Global) (next : Result (X × Bor (List Token)) Failure) (e : Failure)
      (r : Result (Y × List model.Token) grammar.Stop) → Appended all next (Err e) → Gives (with_rest view) next r → Fails e r
  append_fails all (Ok x) e r a g = rw a tt
  append_fails all (Err f) e r a g = let same : e ≡ f = cc in rw same g
