-- No label shows in what a book tells.
use Rattle.std.proofs.Common.{◌≡◌, ℕ, List, [], ◌∷◌, length, refl, sym, ap, subst, ◌∙◌, arith}
use Rattle.nd_model.specs.Grammar.Reading.{reading}
use Rattle.nd_model.specs.Book.Renaming.{AreDistinct, parsed_of}
use Rattle.nd_model.specs.Book.Renaming as cells
use Rattle.nd_model.specs.Book.Book.{Cell, read_cells, labels_of, relabelled, AnyLabels}
use Rattle.nd_model.proofs.Labels.{any_labels}

labels-read : (cs : List Cell) → cells.labels_of (read_cells cs) ≡ labels_of cs
labels-read [] = refl
labels-read (c ∷ cs) = ap (λ l. c.label ∷ l) (labels-read cs)

labels-relabelled : (ns : List ℕ) (cs : List Cell) → length ns ≡ length cs → labels_of (relabelled ns cs) ≡ ns
labels-relabelled [] [] e = refl
labels-relabelled (n ∷ ns) [] e = absurd (omega arith)
labels-relabelled [] (c ∷ cs) e = absurd (omega arith)
labels-relabelled (n ∷ ns) (c ∷ cs) e = ap (λ l. n ∷ l) (labels-relabelled ns cs (omega arith))

parsed-relabelled : (ns : List ℕ) (cs : List Cell) → parsed_of (read_cells cs) ≡ parsed_of (read_cells (relabelled ns cs))
parsed-relabelled ns [] = refl
parsed-relabelled [] (c ∷ cs) = refl
parsed-relabelled (n ∷ ns) (c ∷ cs) = ap (λ l. reading c.source ∷ l) (parsed-relabelled ns cs)

pub any_book_labels : AnyLabels
any_book_labels b d ns dn long =
    any_labels (read_cells b.cells) (read_cells (relabelled ns b.cells)) b.world
    (subst AreDistinct (sym (labels-read b.cells)) d)
    (subst AreDistinct (sym (labels-read (relabelled ns b.cells) ∙ labels-relabelled ns b.cells long)) dn)
    (parsed-relabelled ns b.cells)
