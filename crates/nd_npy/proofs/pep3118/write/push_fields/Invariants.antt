-- What is written so far goes on with the fields that are left.
use Rattle.std.proofs.Common.{◌≡◌, ◌++◌, drop, string_bytes}
use Rattle.nd_model.specs.Formats.Format.{fields_format}
use Rattle.nd_types.specs.Fields.{fields_of}
use Rattle.nd_npy.proofs.pep3118.write.push_fields.Given as goal

abbrev pub invariant-loop-field : goal.invariant-loop-field
invariant-loop-field l =
    string_bytes l.text ++ fields_format l.place l.size (fields_of (drop l.field-index l.fields)) ≡ string_bytes l.initial.text ++ fields_format 0 l.size (fields_of l.fields)
