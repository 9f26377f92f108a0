use Rattle.std.proofs.Common.{◌≡◌, ◌∙◌, ℕ, List, ap, sym, subst, slice_index, option_map, Some}
use Rattle.std.specs.Prelude.{◌↔◌, IsTrue}
use Rattle.nd_heap.specs.Contents.{bytes_in}
use Rattle.nd_heap.specs.Values.{base_of}
use Rattle.nd_session.specs.Session.Now.{block_now, part_now}
use Rattle.nd_session.specs.Session.Found.{bytes_of, found_at}
use Rattle.nd_session.proofs.session.Fitting.{found_none, found_some}
use Rattle.nd_session.proofs.session.Reading.{base_found}
use Rattle.nd_session.proofs.session.change.fitting.fits_bytes.Goals as goal

pub returns-in-Some : goal.returns-in-Some
returns-in-Some c =
    let es = c.args.blocks.now.entries in
    let e = bytes_of c.args.found.now in
    found_some (block_now es (base_of c.args.base)) (part_now c.args.parts.now.entries (base_of c.args.base)) (bytes_in c.in-Some.block.now) e c.is_found_in.result
    (base_found bytes_in c.args.base es ∙ ap (option_map bytes_in) (sym c.in-Some.ensures.value))
    (subst (λ (bs : List ℕ). IsTrue c.is_found_in.result ↔ ((p n : ℕ) → found_at e p ≡ Some n → slice_index bs p ≡ n)) c.shared_bytes.ensures c.is_found_in.ensures)

pub returns-in-None : goal.returns-in-None
returns-in-None c =
    let es = c.args.blocks.now.entries in
    found_none (block_now es (base_of c.args.base)) (part_now c.args.parts.now.entries (base_of c.args.base)) (bytes_of c.args.found.now) c.fits_part.result (base_found bytes_in c.args.base es ∙ ap (option_map bytes_in) (sym c.in-None.ensures.value)) c.fits_part.ensures
