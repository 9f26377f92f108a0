use Rattle.std.proofs.Common.{List, ℕ, [], Bor, map}
use Rattle.nd_notebook.proofs.Listing.{Adds}
use Rattle.nd_notebook.proofs.ReadsTold.{InputAt}
use Rattle.nd_notebook.proofs.notebook.Notebook.inputs_read.Given as goal

abbrev pub invariant-loop-place : goal.invariant-loop-place
invariant-loop-place l = Adds (InputAt l.reads) l.place [] (map (λ (s : Bor (List ℕ)). s.now) l.inputs.items)
