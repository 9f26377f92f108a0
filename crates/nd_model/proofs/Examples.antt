-- Notebooks that compute.
use Rattle.std.proofs.Common.{◌≡◌, ℕ, List, [], ◌∷◌, Option, Some, None, Ok, Err, refl, map, codes}
use Rattle.nd_model.specs.Cells.Running.{Python}
use Rattle.nd_model.specs.Cells.Session.{Session, no_session}
use Rattle.nd_model.specs.Cells.Fault.{ParseFault, BadToken, Refusal, Parse, Statement, OutOfBounds, NoName}
use Rattle.nd_model.specs.Cells.Fault as fault
use Rattle.nd_model.specs.Grammar.Syntax.{Name, Integer, Unary, Negative, Called, Arange, Omitted, Expr, Item, Index, Items, AndItem, NoItem, At, Stmt, Bind, Assign, Delete, Print, Line, Parsed}
use Rattle.nd_model.specs.Cells.Cell.{Ended, notebook}
use Rattle.std.specs.Prelude.{pos}
use Rattle.std.specs.Fmt.{digits}

x : List ℕ
x = 120 ∷ []

y : List ℕ
y = 121 ∷ []

one : Expr → Index
one e = Items (AndItem (At e) NoItem)

at : ℕ → Stmt → Line
at n s = record { line = n; stmt = s }

program : List (ℕ × Parsed)
program = (7, Ok (at 1 (Bind x (Called (Arange Omitted (Integer 4) Omitted None))) ∷ at 2 (Bind y (Name x)) ∷ []))
    ∷ (8, Ok (at 1 (Assign (Name y) (one (Integer 0)) (Integer 9)) ∷ at 2 (Print (Name x ∷ [])) ∷ []))
    ∷ (9, Ok (at 2 (Print (Item (Name x) (one (Unary Negative (Integer 1))) ∷ Integer 5 ∷ [])) ∷ at 4 (Assign (Name x) (one (Integer 4)) (Integer 1)) ∷ at 5 (Delete x) ∷ []))
    ∷ (10, Err (record { kind = BadToken; line = 3; column = 6 }))
    ∷ (11, Ok (at 1 (Delete x) ∷ at 2 (Print (Name y ∷ [])) ∷ at 3 (Print (Name x ∷ [])) ∷ []))
    ∷ []

texts : List (Option (ℕ × Refusal) × List ℕ)
texts = map (λ (e : Ended × Session). (e.0.refusal, e.0.text)) (notebook program (record { inputs = λ n. None; rule = Python }) no_session)

as_wanted : texts
    ≡ (None, [])
    ∷ (None, codes "[9 1 2 3]\n")
    ∷ (Some (4, Statement (fault.Index (OutOfBounds 0 (pos 4) 4))), codes "3 5\n")
    ∷ (Some (3, Parse BadToken 6), [])
    ∷ (Some (3, Statement (fault.Stmt (NoName x))), codes "[9 1 2 3]\n")
    ∷ []
unfolding texts program at one x y digits
as_wanted = refl
