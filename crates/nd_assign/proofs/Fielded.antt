-- The fields of one structure, written one after another.
use Rattle.std.proofs.Common.{◌≡◌, ℕ, ℤ, ◌+◌, ◌≤◌, List, [], ◌∷◌, map, length, sym, ap, ◌∙◌}
use Rattle.nd_model.specs.Arrays.Element.{size_of, bytes_of, with_bytes}
use Rattle.nd_model.specs.Cells.Session.{put}
use Rattle.nd_model.specs.Arrays.View.{Field}
use Rattle.nd_model.specs.Arrays.Content.{number_at, number_writes, field_writes}
use Rattle.nd_model.proofs.Puts.{put-append}
use Rattle.nd_assign.proofs.Copied.{number_put}

-- the numbers of the fields of the structure at a place
abbrev pub numbers_in : List ℕ → ℕ → List Field → List ℤ
numbers_in bytes q fs = map (λ (f : Field). number_at f.element bytes (q + f.at)) fs

-- one field more
pub field_more : (bytes out new whole : List ℕ) (p q : ℕ) (f : Field) (fs gs : List Field) → gs ≡ f ∷ fs → p + f.at + size_of f.element.kind ≤ length out
    → new ≡ with_bytes out (p + f.at) (bytes_of f.element (number_at f.element bytes (q + f.at)))
    → put (field_writes p gs (numbers_in bytes q gs)) out ≡ whole → put (field_writes p fs (numbers_in bytes q fs)) new ≡ whole
field_more bytes out new whole p q f fs gs e le is all =
    let z = number_at f.element bytes (q + f.at) in
    ap (put (field_writes p fs (numbers_in bytes q fs))) (is ∙ number_put f.element z (p + f.at) out le)
    ∙ sym (put-append (number_writes f.element (p + f.at) z) (field_writes p fs (numbers_in bytes q fs)) out)
    ∙ ap (λ l. put (field_writes p l (numbers_in bytes q l)) out) (sym e) ∙ all

-- no field is left
pub fields_done : (bytes out whole : List ℕ) (p q : ℕ) (gs : List Field) → gs ≡ [] → put (field_writes p gs (numbers_in bytes q gs)) out ≡ whole → out ≡ whole
fields_done bytes out whole p q gs e all = ap (λ l. put (field_writes p l (numbers_in bytes q l)) out) (sym e) ∙ all
