use Rattle.std.proofs.Common.{◌≡◌, ℕ, Bool, List, [], ◌∷◌, length, map, replicate, refl, sym, ap, ◌∙◌}
use Rattle.nd_model.specs.Making.Reductions.{reduced_shape}
use Rattle.std.specs.Prelude.{None}
use Rattle.nd_reduce.proofs.axes.axis.single_shape.Goals as goal

ones : (shape : List ℕ) → replicate {A = ℕ} (length shape) 1 ≡ map (λ n. 1) shape
ones [] = refl
ones (n ∷ shape) = ap (λ l. 1 ∷ l) (ones shape)

pub returns-then-keepdims : goal.returns-then-keepdims
returns-then-keepdims c =
    c.in_ok-ones.ensures.items_if_clones_equal (λ y e. e) ∙ ones c.args.shape.now ∙ ap (λ (b : Bool). reduced_shape None b c.args.shape.now) (sym c.if-keepdims.true)
