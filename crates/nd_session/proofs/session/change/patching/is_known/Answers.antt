use Rattle.std.proofs.Common.{◌≡◌, ◌∙◌, sym, ap, inl, inr}
use Rattle.nd_heap.specs.Values.{base_of, value_of}
use Rattle.nd_heap.proofs.Same.{same_bases}
use Rattle.nd_model.specs.Arrays.Value as values
use Rattle.nd_model.specs.Arrays.Value.{lies_in, same_base}
use Rattle.nd_model.specs.Cells.Session.{is_held}
use Rattle.nd_session.proofs.session.Putting.{known_block}
use Rattle.nd_session.proofs.session.change.patching.is_known.Goals as goal

pub returns-then-contains_key : goal.returns-then-contains_key
returns-then-contains_key c = λ yes b lies.
    let base = base_of c.in-Array.array.base in
    let at : lies_in b (value_of c.args.value.now) ≡ same_base b base = elim c.in-Array.is [ inl array ↦ ap (λ v. lies_in b (value_of v)) array | inr row ↦ ap (λ v. lies_in b (value_of v)) row ] in
    inr (known_block c.in-Array.array.base b c.args.blocks.now.entries c.contains_key.result c.contains_key.ensures yes (same_bases b base (sym at ∙ lies)))

pub returns-else-contains_key : goal.returns-else-contains_key
returns-else-contains_key c = λ yes b lies.
    let base = base_of c.in-Array.array.base in
    let at : lies_in b (value_of c.args.value.now) ≡ same_base b base = elim c.in-Array.is [ inl array ↦ ap (λ v. lies_in b (value_of v)) array | inr row ↦ ap (λ v. lies_in b (value_of v)) row ] in
    inl (ap (λ (b : values.Base). is_held b c.args.heap.now.names) (same_bases b base (sym at ∙ lies)) ∙ sym c.is_held.ensures ∙ yes)
