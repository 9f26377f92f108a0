use Rattle.std.proofs.Common.{sym, ap, subst}
use Rattle.nd_heap.specs.Layers.{AreDistinctNames, AreMarked}
use Rattle.nd_heap.specs.Values.{names_of}
use Rattle.nd_heap.proofs.Layering.{only_layer}
use Rattle.nd_heap.proofs.name_table.NameTable.hold.Goals as goal

pub invariant_of-self : goal.invariant_of-self
invariant_of-self c = (
  subst AreDistinctNames (sym (only_layer (names_of c.clear.new.self.entries) (names_of c.in_ok-new.field-0.value.entries) (names_of c.clear-2.new.self.entries) (names_of c.args.names.entries)
      (ap names_of c.clear.ensures.empty) (ap (λ m. names_of m.entries) c.in_ok-new.ensures.ok) (ap names_of c.clear-2.ensures.empty))) c.requires,
  subst (λ ms. AreMarked (names_of c.in_ok-new.field-0.value.entries) ms) (sym (ap (λ v. v.items) c.in_ok-marks.ensures.ok)) (subst (λ m. AreMarked (names_of m.entries) c.in_ok-marks_of.field-0.items) (sym c.in_ok-new.ensures.ok) c.in_ok-marks_of.ensures),
)

pub returns-clause-ok : goal.returns-clause-ok
returns-clause-ok c = only_layer (names_of c.clear.new.self.entries) (names_of c.in_ok-new.field-0.value.entries) (names_of c.clear-2.new.self.entries) (names_of c.args.names.entries)
    (ap names_of c.clear.ensures.empty) (ap (λ m. names_of m.entries) c.in_ok-new.ensures.ok) (ap names_of c.clear-2.ensures.empty)
