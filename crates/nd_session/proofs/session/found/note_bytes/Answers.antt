use Rattle.std.proofs.Common.{◌≡◌, ◌∙◌, ℕ, Bool, true, false, Option, Some, refl, ap, cond}
use Rattle.nd_model.specs.Arrays.Value as values
use Rattle.nd_session.specs.Session.Found as places
use Rattle.nd_session.specs.Session.Found.{by_base, byte_at, bytes_of, lookup_base}
use Rattle.nd_heap.specs.Values.{base_of}
use Rattle.nd_session.proofs.session.Reading.{base_insert}
use Rattle.nd_session.proofs.session.found.note_bytes.Goals as goal

either : (t : Bool) (e : places.Found) (o : Option places.Found) (p : ℕ) → byte_at (cond t (Some e) o) p ≡ cond t (places.found_at e p) (byte_at o p)
either true e o p = refl
either false e o p = refl

pub returns : goal.returns
returns c = λ b p.
    let old = lookup_base b (by_base bytes_of c.args.found.now.entries) in
    let same = values.same_base b (base_of c.args.base) in
    ap (λ es. byte_at (lookup_base b (by_base bytes_of es)) p) c.in_ok-insert.ensures.entries
    ∙ ap (λ o. byte_at o p) (base_insert bytes_of c.args.base c.in_ok-bytes.bytes c.args.found.now.entries b)
    ∙ either same (bytes_of c.in_ok-bytes.bytes) old p
    ∙ ap (λ o. cond same o (byte_at old p)) (c.in_ok-bytes.ensures p)
