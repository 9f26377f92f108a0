use Rattle.std.proofs.Common.{◌≡◌, ℕ, ◌+◌, ◌<◌, ◌^◌, ◌++◌, map, take}
use Rattle.nd_schedule.specs.Schedule.Ran.{shifted}
use Rattle.nd_schedule.specs.Schedule.Sweep.{AreFit, fit_at}
use Rattle.nd_schedule.proofs.schedule.ran.note_places.Given as goal

abbrev pub invariant-loop-k : goal.invariant-loop-k
invariant-loop-k g l = (n : ℕ) → n + 1 < 2 ^ 64 → AreFit g.C.CellRunner.covers n (map (λ c. fit_at c.place (g.C.CellRunner.recorded c.record.value) c.word) l.changed)
    → l.ran.items ≡ l.fn.ran.items ++ map (λ c. shifted l.shift c.place) (take l.k l.changed)
