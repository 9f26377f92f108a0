use Rattle.std.proofs.Common.{◌≡◌, ◌∙◌, ℕ, Option, Some, false, option_map, sym, ap}
use Rattle.std.specs.Prelude.{is_some}
use Rattle.nd_heap.proofs.Plain.{false_true}
use Rattle.nd_heap.specs.Values.{base_of}
use Rattle.nd_session.specs.Session.Found.{byte_at, byte_found, bytes_of, found_at}
use Rattle.nd_session.proofs.session.Reading.{base_found}
use Rattle.nd_session.proofs.session.reads.meets_at.Goals as goal

pub returns : goal.returns
returns c =
    let b = c.args.base in
    let one : (p : ℕ) → is_some (byte_found c.args.reads.now.entries (base_of b) p) ≡ is_some (found_at (bytes_of c.in-Some.read.now) p)
    = λ p. ap (λ o. is_some (byte_at o p)) (base_found bytes_of b c.args.reads.now.entries ∙ ap (option_map bytes_of) (sym c.in-Some.ensures.value)) in
    let two : (p : ℕ) → is_some (byte_found c.args.others.now.entries (base_of b) p) ≡ is_some (found_at (bytes_of c.in-Some-get.other.now) p)
    = λ p. ap (λ o. is_some (byte_at o p)) (base_found bytes_of b c.args.others.now.entries ∙ ap (option_map bytes_of) (sym c.in-Some-get.ensures.value)) in (
      λ h. let found = c.meets.ensures.0 h in (found.0, one found.0 ∙ found.1, two found.0 ∙ found.2),
      λ found. c.meets.ensures.1 (found.0, sym (one found.0) ∙ found.1, sym (two found.0) ∙ found.2),
    )

pub returns-in_default : goal.returns-in_default
returns-in_default c =
    let b = c.args.base in
    let none : (p : ℕ) → is_some (byte_found c.args.reads.now.entries (base_of b) p) ≡ false
    = λ p. ap (λ o. is_some (byte_at o p)) (base_found bytes_of b c.args.reads.now.entries ∙ ap (option_map bytes_of) (sym c.in_default.ensures.value)) in
    (λ h. false_true h, λ found. sym (none found.0) ∙ found.1)

pub returns-in_default-get : goal.returns-in_default-get
returns-in_default-get c =
    let b = c.args.base in
    let none : (p : ℕ) → is_some (byte_found c.args.others.now.entries (base_of b) p) ≡ false
    = λ p. ap (λ o. is_some (byte_at o p)) (base_found bytes_of b c.args.others.now.entries ∙ ap (option_map bytes_of) (sym c.in_default-get.ensures.value)) in
    (λ h. false_true h, λ found. sym (none found.0) ∙ found.2)
