use Rattle.std.proofs.Common.{rules, ◌≡◌, [], ◌++◌, length, refl, sym, ap, ap₂, ◌∙◌, append_assoc, append-nil, take-append-drop}
use Rattle.nd_model.specs.Book.Script.{hex_digits}
use Rattle.nd_script.proofs.lines.Answers.{pushes_none, pushes_same, pushes_trans}
use Rattle.nd_script.proofs.words.Hex.{hex_digits-append}
use Rattle.nd_script.proofs.lines.Progress.{no_bytes}
use Rattle.nd_script.proofs.words.pieces.push_hex_digits.Goals as goal

pub loop-rest-init : goal.loop-rest-init
loop-rest-init g c = ([], refl, pushes_none _)

pub loop-rest-preserved : goal.loop-rest-preserved
loop-rest-preserved g c =
    let inv = c.loop-rest.invariant in
    let front = c.split_at.result.0.now in
    let back = c.split_at.result.1.now in
    let parts : c.loop-rest.rest.now ≡ front ++ back = sym (take-append-drop c.min.result c.loop-rest.rest.now) ∙ ap₂ (λ a b. a ++ b) (sym c.split_at.ensures.front) (sym c.split_at.ensures.back) in (
      inv.0 ++ front,
      inv.1 ∙ ap (λ l. inv.0 ++ l) parts ∙ sym (append_assoc inv.0 front back),
      pushes_same (sym (hex_digits-append inv.0 front)) (pushes_trans inv.2 c.push_chunk.ensures),
    )

pub returns : goal.returns
returns g c =
    let inv = c.loop-rest.invariant in
    let zero : length c.loop-rest.rest.now ≡ 0 = search rules in
    let none = no_bytes c.loop-rest.rest.now zero in
    pushes_same (ap hex_digits (sym (inv.1 ∙ ap (λ l. inv.0 ++ l) none ∙ append-nil inv.0))) inv.2
