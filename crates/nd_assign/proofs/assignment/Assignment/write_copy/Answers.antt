use Rattle.std.proofs.Common.{◌≡◌, ℕ, List, length, Some, IfOk, sym, ap, ◌∙◌, subst}
use Rattle.nd_convert.specs.Conversion.Converted.{converted_bytes}
use Rattle.nd_assign.specs.Copies.{with_copies}
use Rattle.nd_assign.specs.Overwritten.{Covers}
use Rattle.nd_assign.specs.Prepared.{Prepared, written_by}
use Rattle.nd_assign.specs.Ways.{bytes_read}
use Rattle.nd_assign.proofs.Readied.{copies_written}
use Rattle.nd_assign.proofs.Rewritten.{overwritten}
use Rattle.nd_assign.proofs.assignment.Assignment.write_copy.Goals as goal

pub returns-in-Some-other_bytes : goal.returns-in-Some-other_bytes
returns-in-Some-other_bytes c =
    let i = c.self.inside in let g = i.target.now in let s = i.source in let old : List ℕ = c.args.block.now in let bytes : List ℕ = c.in-Some-other_bytes.bytes.now in
    let covers : Covers c.in-Some.dtypes.to i.len g = c.in-Some.ensures.target in
    let long : length old ≡ i.len = sym c.len.ensures.0 ∙ c.if-len-self.true in
    let read : bytes_read i.way ≡ Some bytes = c.in-Some-other_bytes.ensures in
    let own : Prepared = record { target = g; source = s; bytes = Some bytes; len = i.len } in
    let same : converted_bytes c.in-Some.dtypes.to c.in-Some.dtypes.from bytes s.places ≡ written_by c.args.self.now old
    = sym (overwritten c.in-Some.dtypes.to c.in-Some.dtypes.from bytes g.places s.places old c.self.invariant.counts covers.places (long ∙ sym covers.bytes))
    ∙ sym (λ j. with_copies (covers.element j) (c.in-Some.ensures.source j) bytes g.places s.places old)
    ∙ copies_written own old long
    ∙ ap (λ a. written_by a old) (ap (λ b. record { target = g; source = s; bytes = b; len = i.len }) (sym read) ∙ c.self.view_is) in
    subst (λ (l : List ℕ). IfOk c.convert_to_block.result (λ b. b ≡ l)) same c.convert_to_block.ensures
