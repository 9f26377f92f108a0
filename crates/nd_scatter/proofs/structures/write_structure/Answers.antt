use Rattle.std.proofs.Common.{◌+◌, ℕ, List, drop, ap, ◌∙◌, arith}
use Rattle.nd_model.specs.Arrays.Element.{bytes_at, with_bytes}
use Rattle.nd_model.specs.Cells.Session.{put}
use Rattle.nd_types.specs.Fields.{field_of, fields_of}
use Rattle.nd_scatter.proofs.Copies.{field_copies, field_next, field_more}
use Rattle.nd_scatter.proofs.structures.write_structure.Goals as goal

pub copy_bytes-requires-clause-out : goal.copy_bytes-requires-clause-out
copy_bytes-requires-clause-out c =
    let items = c.fields-field-items.result.now in let i = c.loop-field.field-index in let item = c.field-item.result in
    let next = field_next items c.args.structure.now.0 c.args.structure.now.1 i item c.fields-field-items.ensures.value c.fields-field-items.ensures.inside c.loop-field-test.true c.field-item.is in
    omega (arith, next.1, c.size.ensures.value, c.requires.out, c.loop-field.invariant.len)

pub copy_bytes-requires-clause-held : goal.copy_bytes-requires-clause-held
copy_bytes-requires-clause-held c =
    let items = c.fields-field-items.result.now in let i = c.loop-field.field-index in let item = c.field-item.result in
    let next = field_next items c.args.structure.now.0 c.args.structure.now.1 i item c.fields-field-items.ensures.value c.fields-field-items.ensures.inside c.loop-field-test.true c.field-item.is in
    omega (arith, next.1, c.size.ensures.value, c.requires.held)

pub loop-field-preserved : goal.loop-field-preserved
loop-field-preserved c =
    let a = c.args in let items = c.fields-field-items.result.now in let i = c.loop-field.field-index in let item = c.field-item.result in let out : List ℕ = c.loop-field.out in
    let next = field_next items a.structure.now.0 a.structure.now.1 i item c.fields-field-items.ensures.value c.fields-field-items.ensures.inside c.loop-field-test.true c.field-item.is in
    record {
      len = c.copy_bytes.ensures.len ∙ c.loop-field.invariant.len;
      rest = field_more a.values.now out c.copy_bytes.new.out (put (field_copies a.values.now a.to a.from a.structure.now.0) a.out.now) a.to a.from (field_of item)
          (drop (i + 1) (fields_of items)) (drop i (fields_of items)) next.0 (omega (arith, next.1, c.requires.out, c.loop-field.invariant.len)) (omega (arith, next.1, c.requires.held))
          (c.copy_bytes.ensures.bytes ∙ ap (λ m. with_bytes out (a.to + item.at) (bytes_at a.values.now (a.from + item.at) m)) c.size.ensures.value)
          c.loop-field.invariant.rest;
    }
