-- Other labels for the cells.
use Rattle.std.specs.Prelude.{◌≡◌, ℕ, Bool, ℤ, IsTrue, IsFalse, List, [], ◌∷◌, map, Option, ⊤}
use Rattle.std.specs.List.{flat_map}
use Rattle.nd_model.specs.Arrays.Element.{Kind}
use Rattle.nd_model.specs.Arrays.View.{ElementType, Geo}
use Rattle.nd_model.specs.Arrays.Value.{Base, Value, Int, Truth, Scalar, Array, Row}
use Rattle.nd_model.specs.Cells.Session.{Names, Session, no_session, is_in}
use Rattle.nd_model.specs.Arrays.Content.{content_at, element_bytes}
use Rattle.nd_model.specs.Cells.Running.{Inputs, Running, World}
use Rattle.nd_model.specs.Cells.Fault.{Refusal}
use Rattle.nd_model.specs.Grammar.Syntax.{Stmt, Parsed}
use Rattle.nd_model.specs.Cells.Cell.{Saved, Ended, statement, cell, session_after, notebook}

-- Two ways to label the same cells. The test tells which label of the first stands for which of the second: each for one
-- alone, of those that occur.
pub record IsOneToOne (r : ℕ → ℕ → Bool) : Type 0 where
  pub one : (a b c : ℕ) → IsTrue (r a b) → IsTrue (r a c) → b ≡ c
  pub other : (a b c : ℕ) → IsTrue (r a c) → IsTrue (r b c) → a ≡ b

-- the same cells, under labels that stand for one another
abbrev pub AreRelabelled : (ℕ → ℕ → Bool) → List (ℕ × Parsed) → List (ℕ × Parsed) → Type 0
AreRelabelled r [] [] = ⊤
AreRelabelled r (c ∷ cs) (d ∷ ds) = IsTrue (r c.0 d.0) × (c.1 ≡ d.1) × AreRelabelled r cs ds
AreRelabelled r [] (d ∷ ds) = ⊥
AreRelabelled r (c ∷ cs) [] = ⊥

-- THE SAME BUT FOR LABELS, under such a test: bases, values, names, and sessions

pub record SameBase (r : ℕ → ℕ → Bool) (b c : Base) : Type 0 where
  pub label : IsTrue (r b.label c.label)
  pub number : b.number ≡ c.number

pub data SameValue (r : ℕ → ℕ → Bool) : Value → Value → Type 0 where
  int : (z : ℤ) → SameValue r (Int z) (Int z)
  truth : (t : Bool) → SameValue r (Truth t) (Truth t)
  scalar : (k : Kind) (z : ℤ) → SameValue r (Scalar k z) (Scalar k z)
  array : (b c : Base) (g : Geo) → SameBase r b c → SameValue r (Array b g) (Array c g)
  row : (b c : Base) (g : Geo) → SameBase r b c → SameValue r (Row b g) (Row c g)

pub data SameNames (r : ℕ → ℕ → Bool) : Names → Names → Type 0 where
  no_name : SameNames r [] []
  entry : (n : List ℕ) (v w : Value) (es ds : Names) → SameValue r v w → SameNames r es ds → SameNames r ((n, v) ∷ es) ((n, w) ∷ ds)

pub record LikeSessions (r : ℕ → ℕ → Bool) (s t : Session) : Type 0 where
  pub names : SameNames r s.names t.names
  pub bytes : (b c : Base) → SameBase r b c → s.bytes b ≡ t.bytes c

-- and while a cell runs
pub record Like (r : ℕ → ℕ → Bool) (x y : Running) : Type 0 where
  pub names : SameNames r x.names y.names
  pub bytes : (b c : Base) → SameBase r b c → x.bytes b ≡ y.bytes c
  pub label : IsTrue (r x.label y.label)
  pub next : x.next ≡ y.next

pub record LikeEnds (r : ℕ → ℕ → Bool) (x y : Ended) : Type 0 where
  pub text : y.text ≡ x.text
  pub refusal : y.refusal ≡ x.refusal
  pub saves : y.saves ≡ x.saves
  pub running : Like r x.running y.running

-- What shows of a value: the base and the places do not. An array or a row shows its type, shape and elements, these by
-- their bytes in C order in the type's own form: a Boolean is 0 or 1, pad bytes are 0.
pub data Shown : Type 0 where
  ShownInt : ℤ → Shown
  ShownTruth : Bool → Shown
  ShownScalar : Kind → ℤ → Shown
  ShownArray : ElementType → (shape : List ℕ) → (bytes : List ℕ) → Shown
  ShownRow : ElementType → (bytes : List ℕ) → Shown

-- the bytes that are shown of the element at a place of a base
abbrev pub shown_element : ElementType → List ℕ → ℕ → List ℕ
shown_element t bytes p = element_bytes t (content_at t bytes p)

abbrev pub shown_bytes : Session → Base → Geo → List ℕ
shown_bytes s b g = flat_map (shown_element g.element (s.bytes b)) g.places

abbrev pub shown : Session → Value → Shown
shown s (Int z) = ShownInt z
shown s (Truth t) = ShownTruth t
shown s (Scalar k z) = ShownScalar k z
shown s (Array b g) = ShownArray g.element g.shape (shown_bytes s b g)
shown s (Row b g) = ShownRow g.element (shown_bytes s b g)

abbrev pub shown_names : Session → Names → List (List ℕ × Shown)
shown_names s [] = []
shown_names s (e ∷ es) = (e.0, shown s e.1) ∷ shown_names s es

-- what a notebook tells of a cell: its text, its refusal, its files, and the names after it
pub record Told : Type 0 where
  pub text : List ℕ
  pub refusal : Option (ℕ × Refusal)
  pub saves : Saved
  pub names : List (List ℕ × Shown)

abbrev pub told : List (Ended × Session) → List Told
told [] = []
told (r ∷ rs) = record { text = r.0.text; refusal = r.0.refusal; saves = r.0.saves; names = shown_names r.1 r.1.names } ∷ told rs

-- RENAME: other labels, in the base names and for the running cells alike, commute with a statement, with a cell and with a
-- notebook, from any two sessions that are the same but for labels. Nothing that is told depends on the labels.
pub record Commutes (r : ℕ → ℕ → Bool) : Type 0 where
  pub statement : (i : Inputs) (s : Stmt) (x y : Running) → Like r x y → ((statement i s x).0 ≡ (statement i s y).0) × Like r (statement i s x).1 (statement i s y).1
  pub cell : (i : World) (p : Parsed) (l m : ℕ) (s t : Session) → IsTrue (r l m) → LikeSessions r s t
      → LikeEnds r (cell l p i s) (cell m p i t) × LikeSessions r (session_after (cell l p i s)) (session_after (cell m p i t))
  pub notebook : (i : World) (cells others : List (ℕ × Parsed)) (s t : Session) → AreRelabelled r cells others → LikeSessions r s t
      → told (notebook others i t) ≡ told (notebook cells i s)

abbrev pub Rename : Type 0
Rename = (r : ℕ → ℕ → Bool) → IsOneToOne r → Commutes r

-- no number comes twice
abbrev pub AreDistinct : List ℕ → Type 0
AreDistinct [] = ⊤
AreDistinct (n ∷ ns) = IsFalse (is_in n ns) × AreDistinct ns

abbrev pub labels_of : List (ℕ × Parsed) → List ℕ
labels_of cells = map (λ (c : ℕ × Parsed). c.0) cells

abbrev pub parsed_of : List (ℕ × Parsed) → List Parsed
parsed_of cells = map (λ (c : ℕ × Parsed). c.1) cells

-- ANY LABELS that tell the cells apart give the same as any others
abbrev pub AnyLabels : Type 0
AnyLabels = (cells others : List (ℕ × Parsed)) (w : World) → AreDistinct (labels_of cells) → AreDistinct (labels_of others) → parsed_of cells ≡ parsed_of others
    → told (notebook others w no_session) ≡ told (notebook cells w no_session)
