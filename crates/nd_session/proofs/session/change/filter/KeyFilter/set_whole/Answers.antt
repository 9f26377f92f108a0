use Rattle.std.proofs.Common.{◌≡◌, ◌<◌, ◌*◌, ◌/◌, ◌%◌, ◌^◌, ℕ, bit_or, length, slice_index, slice_set, sym, subst, arith}
use Rattle.std.specs.Prelude.{IsTrue}
use Rattle.std.proofs.lemmas.Nat.{one_shl}
use Rattle.nd_session.specs.Session.Filter.{FilterData, covers, has_bit}
use Rattle.nd_session.proofs.session.Covering.{bit_set, bits_stay}
use Rattle.nd_session.proofs.session.Filters.{whole_stay, whole_set}
use Rattle.nd_session.proofs.session.change.filter.KeyFilter.set_whole.Goals as goal

inside : (bit n : ℕ) → n ≡ 2 → bit < 128 → bit / 64 < n
inside bit n long less = omega arith

pub returns-clause-set : goal.returns-clause-set
returns-clause-set c = λ p.
    let i = c.self.inside in let ws = i.whole in let bit : ℕ = (c.args.label % 128) in let m : ℕ = 1 * 2 ^ (bit % 64) % 18446744073709551616 in
    let word = bit_or (slice_index ws (bit / 64)) m in
    whole_set (record { keys = i.keys; whole = slice_set ws (bit / 64) word; part = i.part; granules = i.granules }) c.args.label
    (subst (λ (m : ℕ). IsTrue (has_bit (slice_set ws (bit / 64) (bit_or (slice_index ws (bit / 64)) m)) bit)) (sym (one_shl (bit % 64) 64 (omega arith))) (bit_set ws bit (inside bit (length ws) c.self.told.1 (omega arith)))) p

pub returns-clause-stays : goal.returns-clause-stays
returns-clause-stays c = λ k there.
    let i = c.self.inside in let ws = i.whole in let bit : ℕ = (c.args.label % 128) in let m : ℕ = 1 * 2 ^ (bit % 64) % 18446744073709551616 in
    let word = bit_or (slice_index ws (bit / 64)) m in
    let f : FilterData = record { keys = i.keys; whole = i.whole; part = i.part; granules = i.granules } in
    whole_stay f (slice_set ws (bit / 64) word)
    (λ j h. subst (λ (m : ℕ). IsTrue (has_bit (slice_set ws (bit / 64) (bit_or (slice_index ws (bit / 64)) m)) j)) (sym (one_shl (bit % 64) 64 (omega arith))) (bits_stay ws bit (inside bit (length ws) c.self.told.1 (omega arith)) j h))
    k (subst (λ (f : FilterData). IsTrue (covers f k)) (sym c.self.view_is) there)
