use Rattle.std.proofs.Common.{◌≡◌, ◌∙◌, ap, sym, eqb, eqb-true, length, option_map}
use Rattle.nd_heap.specs.Contents.{bytes_in}
use Rattle.nd_heap.specs.Values.{base_of}
use Rattle.nd_session.specs.Session.Now.{block_now}
use Rattle.nd_session.proofs.session.Fitting.{fits_none, fits_some, same_number}
use Rattle.nd_session.proofs.session.Reading.{base_found}
use Rattle.nd_session.proofs.session.change.fitting.fits_length.Goals as goal

pub returns-in-Some : goal.returns-in-Some
returns-in-Some c =
    let es = c.args.blocks.now.entries in
    let count = c.args.count in
    let lent = length c.shared_bytes.result.now in
    let long : lent ≡ length (bytes_in c.in-Some.block.now) = ap length c.shared_bytes.ensures in
    fits_some (option_map length (block_now es (base_of c.args.base))) (length (bytes_in c.in-Some.block.now)) count (eqb lent count)
    (ap (option_map length) (base_found bytes_in c.args.base es ∙ ap (option_map bytes_in) (sym c.in-Some.ensures.value)))
    (λ yes. sym (eqb-true lent count yes) ∙ long, λ e. same_number lent count (long ∙ sym e))

pub returns-in-None : goal.returns-in-None
returns-in-None c =
    let es = c.args.blocks.now.entries in
    fits_none (option_map length (block_now es (base_of c.args.base))) c.args.count (ap (option_map length) (base_found bytes_in c.args.base es ∙ ap (option_map bytes_in) (sym c.in-None.ensures.value)))
