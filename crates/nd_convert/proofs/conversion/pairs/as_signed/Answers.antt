use Rattle.std.proofs.Common.{◌≡◌, Bool, true, false, refl, ap, ◌∙◌}
use Rattle.std.specs.Prelude.{◌&&◌}
use Rattle.nd_model.specs.Arrays.Element.{Element, Int64, UInt64, bytes_of, wrap}
use Rattle.nd_convert.proofs.conversion.Alike.{alike64}
use Rattle.nd_convert.proofs.conversion.pairs.as_signed.Goals as goal

and_true : (b : Bool) → (b && true) ≡ b
and_true true = refl
and_true false = refl

pub returns-in-U64-clause-bytes : goal.returns-in-U64-clause-bytes
returns-in-U64-clause-bytes c = λ z.
    let e : Element = c.args.elem in
    let order : (c.big-in-U64.result && true) ≡ e.big = and_true c.big-in-U64.result ∙ c.big-in-U64.ensures in
    let signed : Element = record { kind = Int64; big = e.big } in
    let unsigned : Element = record { kind = UInt64; big = e.big } in
    let here : c.new-in-U64.result ≡ signed = c.new-in-U64.ensures ∙ (λ i. record { kind = Int64; big = order i }) in
    let own : unsigned ≡ e = λ i. record { kind = c.in-U64.ensures i; big = e.big } in
    ap (λ (f : Element). bytes_of f (wrap f.kind z)) here ∙ alike64 e.big z ∙ ap (λ (f : Element). bytes_of f (wrap f.kind z)) own
