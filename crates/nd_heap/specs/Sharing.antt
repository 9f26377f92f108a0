-- What a layer holds, whether it is shared or not.
use Rattle.nd_heap.specs.declared.layer.Layer.{Layer}
use Rattle.nd_heap.specs.declared.layer.Layer.TheVariants.{Own, Shared}

abbrev pub held_in : {X : Type 0} → Layer X → X
held_in (Own x) = x
held_in (Shared rc) = rc.value
