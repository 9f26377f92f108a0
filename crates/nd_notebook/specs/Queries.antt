-- The answers to queries as the definitions have them.
use Rattle.std.specs.Prelude.{ℕ, List, option_map, string_bytes, Result, Ok, Err}
use Rattle.nd_model.specs.Book.Book as model
use Rattle.nd_model.specs.Book.Renaming as shown
use Rattle.nd_types.specs.Kinds.{kind_of}
use Rattle.nd_element.specs.Elements.{canonical_bytes}
use Rattle.nd_heap.specs.Values.{value_of}
use Rattle.nd_session.specs.Session.Kept.{version_of}
use Rattle.nd_cell.specs.Results.{refusal_of, saves_of}
use Rattle.nd_cell.specs.declared.result.CellResult.{CellResult}
use Rattle.nd_notebook.specs.declared.query.QueryFault as declared
use Rattle.nd_notebook.specs.declared.query.QueryFault.TheVariants as faults
use Rattle.nd_notebook.specs.declared.query.ShownElements as declaredElements
use Rattle.nd_notebook.specs.declared.query.BoundValue as declaredBound
use Rattle.nd_notebook.specs.declared.query.Shown as declaredShown
use Rattle.nd_notebook.specs.declared.query.Shown.TheVariants as values

abbrev pub result_of : CellResult → model.CellResult
result_of r = record { text = string_bytes r.text; refusal = option_map refusal_of r.refusal; saves = saves_of r.saves.entries }

-- the bytes that are shown of elements
abbrev pub bytes_of : declaredElements.ShownElements → List ℕ
bytes_of e = canonical_bytes e.view.now e.block.now

abbrev pub shown_of : declaredShown.Shown → shown.Shown
shown_of (values.Int z) = shown.ShownInt z
shown_of (values.Bool t) = shown.ShownTruth t
shown_of (values.Scalar k z) = shown.ShownScalar (kind_of k) z
shown_of (values.Array e) = shown.ShownArray e.view.now.element e.view.now.shape (bytes_of e)
shown_of (values.Row e) = shown.ShownRow e.view.now.element (bytes_of e)

-- what is shown of a value that is bound in a snapshot
abbrev pub bound_of : declaredBound.BoundValue → shown.Shown
bound_of b = shown.shown (version_of b.version) (value_of b.value)

-- the fault of a query for a name
abbrev pub query_fault_of : List ℕ → declared.QueryFault → model.QueryFault
query_fault_of name (faults.NoCell at count) = model.QueryFault.NoCell at count
query_fault_of name faults.NoName = model.QueryFault.NoName name
query_fault_of name faults.NoSave = model.QueryFault.NoSave name
query_fault_of name (faults.Memory m) = model.QueryFault.OutOfMemory

-- the answer to a query for a name, seen by view
abbrev pub answer_of : {X Y : Type 0} → List ℕ → (X → Y) → Result X declared.QueryFault → Result Y model.QueryFault
answer_of name view (Ok x) = Ok (view x)
answer_of name view (Err f) = Err (query_fault_of name f)
