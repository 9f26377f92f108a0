use Rattle.std.proofs.Common.{◌≡◌, ℕ, suc, ◌+◌, ◌-◌, ◌<◌, Bool, true, refl, sym, ◌∙◌, arith}
use Rattle.std.specs.List.{list_all}
use Rattle.nd_model.specs.Cells.Session.{is_in}
use Rattle.nd_model.specs.Indexing.Transposing.{axes_of}
use Rattle.nd_model.specs.Arrays.Tuple.{count_up}
use Rattle.nd_shape.proofs.transposing.is_order.Goals as goal

next : (p : ℕ → Bool) (a n : ℕ) → a < n → p a ≡ true → list_all p (count_up a (n - a)) ≡ list_all p (count_up (a + 1) (n - (a + 1)))
next p a n lt is = let more : n - a ≡ suc (n - (a + 1)) = omega arith in rw (more, is) refl

pub loop-axis-preserved : goal.loop-axis-preserved
loop-axis-preserved c =
    c.loop-axis.invariant ∙ next (λ a. is_in a (axes_of c.args.axes c.args.order.now)) c.loop-axis.axis c.args.axes (omega arith) (sym c.has_axis.ensures ∙ c.if-not-has_axis.false)
