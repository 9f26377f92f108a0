use Rattle.std.proofs.Common.{◌∙◌, sym}
use Rattle.std.proofs.lemmas.Bool.{false≢true}
use Rattle.nd_session.proofs.session.Filters.{all_apart}
use Rattle.nd_session.proofs.session.change.filter.KeyFilter.is_apart.Goals as goal
use Rattle.nd_session.proofs.session.change.filter.KeyFilter.is_apart.Goals.{then-has_other_keys, else-has_other_keys, then-has_other_wholes, else-has_other_wholes, then-has_other_part, else-has_other_part}

pub returns-then-has_other_part-2 : goal.returns-then-has_other_part-2
returns-then-has_other_part-2 c = λ granules k. elim c.if-has_other_part.branch [
  | then-has_other_part w ↦ elim c.if-has_other_wholes.branch [
    | then-has_other_wholes v ↦ elim c.if-has_other_keys.branch [
      | then-has_other_keys u ↦
          all_apart c.args.self.now c.args.other.now (c.has_other_keys.ensures u.if-has_other_keys.true) (u.has_other_wholes.ensures (sym u.value-is ∙ v.if-has_other_wholes.true))
          (v.has_other_part.ensures (sym v.value-is ∙ w.if-has_other_part.true)) (w.has_other_part-then-has_other_part.ensures (sym w.value-is ∙ c.if-has_other_part-2.true))
          (c.has_other_granules.ensures granules) k
      | else-has_other_keys u ↦ absurd (false≢true (sym u.if-has_other_keys.false ∙ sym u.value-is ∙ v.if-has_other_wholes.true))
    ]
    | else-has_other_wholes v ↦ absurd (false≢true (sym v.if-has_other_wholes.false ∙ sym v.value-is ∙ w.if-has_other_part.true))
  ]
  | else-has_other_part w ↦ absurd (false≢true (sym w.if-has_other_part.false ∙ sym w.value-is ∙ c.if-has_other_part-2.true))
]
