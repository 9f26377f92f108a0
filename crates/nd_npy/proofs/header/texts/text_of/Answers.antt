-- The bytes are a text exactly where one is made of them.
use Rattle.std.proofs.Common.{◌≡◌, Bool, true, false, refl, sym, ap, subst, string_bytes, IsOk}
use Rattle.std.specs.Str.{is_utf8, IsUtf8}
use Rattle.std.proofs.lemmas.Str.{is_utf8-from_IsUtf8, IsUtf8-from_is_utf8, IsUtf8-string_bytes}
use Rattle.nd_npy.proofs.header.texts.text_of.Goals as goal

no_text : (b : Bool) → (b ≡ true → ⊥) → false ≡ b
no_text true h = absurd (h refl)
no_text false h = refl

pub returns-in-Ok-clause-valid : goal.returns-in-Ok-clause-valid
returns-in-Ok-clause-valid c =
    let same : string_bytes c.in-Ok.text ≡ c.args.bytes.items = ap (λ v. v.items) c.in-Ok.ensures.ok in
    sym (is_utf8-from_IsUtf8 c.args.bytes.items (subst IsUtf8 same (IsUtf8-string_bytes c.in-Ok.text)))

pub returns-clause-valid : goal.returns-clause-valid
returns-clause-valid c = no_text (is_utf8 c.args.bytes.items) (λ e. let ok : false ≡ true = subst IsOk c.in-Err.is (c.from_utf8.ensures.succeeds (IsUtf8-from_is_utf8 c.args.bytes.items e)) in cc)
