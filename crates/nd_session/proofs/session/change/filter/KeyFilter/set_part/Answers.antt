use Rattle.std.proofs.Common.{◌*◌, ◌/◌, ◌%◌, ◌^◌, ℕ, bit_or, sym, subst, arith}
use Rattle.std.specs.Prelude.{IsTrue}
use Rattle.nd_marks.proofs.Spans.{bit_comes, bit_here}
use Rattle.nd_session.specs.Session.Filter.{FilterData, covers}
use Rattle.nd_session.proofs.session.Filters.{part_set, part_stay}
use Rattle.nd_session.proofs.session.change.filter.KeyFilter.set_part.Goals as goal

pub returns-clause-set : goal.returns-clause-set
returns-clause-set c = λ p there.
    let i = c.self.inside in let m : ℕ = 1 * 2 ^ (c.args.label % 64) % 18446744073709551616 in
    part_set (record { keys = i.keys; whole = i.whole; part = bit_or i.part m; granules = bit_or i.granules c.args.granules }) c.args.label p
    (bit_here i.part (c.args.label % 64) (omega arith)) (bit_comes i.granules c.args.granules (p / 64 % 64) there)

pub returns-clause-stays : goal.returns-clause-stays
returns-clause-stays c = λ k there.
    let i = c.self.inside in let m : ℕ = 1 * 2 ^ (c.args.label % 64) % 18446744073709551616 in
    let f : FilterData = record { keys = i.keys; whole = i.whole; part = i.part; granules = i.granules } in
    part_stay f m c.args.granules k (subst (λ (f : FilterData). IsTrue (covers f k)) (sym c.self.view_is) there)
