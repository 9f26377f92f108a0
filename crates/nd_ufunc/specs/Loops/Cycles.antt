-- Numbers that come again and again.
use Rattle.std.specs.Prelude.{◌≡◌, ℕ, ◌+◌, ◌-◌, ◌*◌, ◌%◌, ◌<◌, ◌≤◌, ℤ, length, map}
use Rattle.nd_model.specs.Arrays.Content.{number_at}
use Rattle.nd_model.specs.Arrays.Element.{size_of}
use Rattle.nd_model.specs.Making.Elementwise.{little}
use Rattle.nd_model.specs.Arrays.Tuple.{count_up}
use Rattle.nd_types.specs.Kinds.{kind_of}
use Rattle.nd_ufunc.specs.Loops.ElementsLeft.{ElementsLeft}
use Rattle.nd_ufunc.specs.declared.loops.cycle.Cycle.TheInside.{Inside}

-- the number in this place of the first ones
abbrev pub first_number : Inside → ℕ → ℤ
first_number c k = number_at (little (kind_of c.kind)) c.first.now (k * size_of (kind_of c.kind))

-- those that are left, and their kind
abbrev pub cycle_left : Inside → ElementsLeft
cycle_left c = record { numbers = map (λ k. first_number c (k % c.period)) (count_up c.at (c.count - c.at)); kind = kind_of c.kind }

-- the first ones begin again as all of them do
pub record IsCycle (c : Inside) : Type 0 where
  pub some : 0 < c.period
  pub few : c.period ≤ 64
  pub within : c.at ≤ c.count
  pub room : length c.first.now ≡ 8704
  pub again : (k : ℕ) → (k + 1) * size_of (kind_of c.kind) ≤ 8704 → first_number c k ≡ first_number c (k % c.period)
