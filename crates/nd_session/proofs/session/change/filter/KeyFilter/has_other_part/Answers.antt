use Rattle.std.proofs.Common.{◌%◌, bit_and, bit_or, eqb-true, slice_index, sym, subst}
use Rattle.std.specs.Prelude.{IsTrue}
use Rattle.nd_marks.specs.Marks.{in_word}
use Rattle.nd_session.specs.Session.Filter.{FilterData, has_bit}
use Rattle.nd_session.proofs.session.Filters.{part_apart}
use Rattle.nd_session.proofs.session.change.filter.KeyFilter.has_other_part.Goals as goal

pub returns : goal.returns
returns c = λ h label one other.
    let part = c.self.inside.part in let ws = c.other.inside.whole in
    part_apart part ws (eqb-true (bit_and part (bit_or (slice_index ws 0) (slice_index ws 1))) 0 h) label
    (subst (λ (f : FilterData). IsTrue (in_word f.part (label % 64))) (sym c.self.view_is) one) (subst (λ (f : FilterData). IsTrue (has_bit f.whole (label % 128))) (sym c.other.view_is) other)
