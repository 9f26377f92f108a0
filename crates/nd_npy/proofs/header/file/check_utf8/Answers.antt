-- Bytes are a text exactly where they are UTF-8.
use Rattle.std.proofs.Common.{◌≡◌, ℕ, Bool, true, false, List, refl, sym, ap, ◌∙◌}
use Rattle.std.specs.Prelude.{Result, Ok, Err}
use Rattle.std.specs.Str.{is_utf8, IsUtf8}
use Rattle.std.specs.Str.Lossy.{utf8_valid_len}
use Rattle.std.proofs.lemmas.Str.{is_utf8-from_IsUtf8, IsUtf8-from_is_utf8}
use Rattle.nd_model.specs.Formats.NpyFault.{NpyFault, NotText}
use Rattle.nd_model.specs.Formats.NpyHeader.{Utf8}
use Rattle.nd_model.specs.Formats.NpyReading.{text_in, when}
use Rattle.nd_npy.proofs.header.file.check_utf8.Goals as goal

whole : (bytes : List ℕ) → IsUtf8 bytes → Ok bytes ≡ text_in Utf8 bytes
whole bytes is = sym (ap (λ b. when b (NotText (utf8_valid_len bytes)) (Ok bytes)) (is_utf8-from_IsUtf8 bytes is))

broken : (bytes : List ℕ) (at : ℕ) → ¬ (IsUtf8 bytes) → at ≡ utf8_valid_len bytes → ◌≡◌ {A = Result (List ℕ) NpyFault} (Err (NotText at)) (text_in Utf8 bytes)
broken bytes at isnt is = by_test (is_utf8 bytes) refl
  where
    by_test : (b : Bool) → is_utf8 bytes ≡ b → ◌≡◌ {A = Result (List ℕ) NpyFault} (Err (NotText at)) (when b (NotText (utf8_valid_len bytes)) (Ok bytes))
    by_test true e = absurd (isnt (IsUtf8-from_is_utf8 bytes e))
    by_test false e = ap (λ n. Err (NotText n)) is

pub returns-in-Ok : goal.returns-in-Ok
returns-in-Ok c = whole c.args.bytes.now c.in-Ok.ensures.cases.1

pub returns-in-Err : goal.returns-in-Err
returns-in-Err c = broken c.args.bytes.now c.valid_up_to.result c.in-Err.ensures.cases.0 (c.valid_up_to.ensures ∙ c.in-Err.ensures.valid_len)
