-- A structure has a byte, and is not too large.
use Rattle.std.proofs.Common.{◌≡◌, ℕ, zero, suc, length, get_or, ◌+◌, ◌<◌, ◌≤◌, Bool, true, false, ◌&&◌, List, [], ◌∷◌, refl, arith}
use Rattle.std.specs.List.{All}
use Rattle.std.proofs.lemmas.Bool.{leb-true}
use Rattle.nd_model.specs.Arrays.Element.{Kind, Boolean, Int8, Int16, Int32, Int64, UInt8, UInt16, UInt32, UInt64, size_of}
use Rattle.nd_model.specs.Arrays.View.{Field}
use Rattle.nd_model.specs.Arrays.Structure.{are_apart, is_structure}

both : (a b : Bool) → (a && b) ≡ true → (a ≡ true) × (b ≡ true)
both true b h = (refl, h)
both false b h = absurd (cc)

pub some_bytes : (k : Kind) → 0 < size_of k
some_bytes Boolean = omega arith
some_bytes Int8 = omega arith
some_bytes Int16 = omega arith
some_bytes Int32 = omega arith
some_bytes Int64 = omega arith
some_bytes UInt8 = omega arith
some_bytes UInt16 = omega arith
some_bytes UInt32 = omega arith
some_bytes UInt64 = omega arith

within : (place : ℕ) (fs : List Field) (size : ℕ) → are_apart place fs size ≡ true → place ≤ size
within place [] size h = leb-true place size h
within place (f ∷ fs) size h =
    let parts = both _ _ h in
    let here : place ≤ f.at = leb-true place f.at parts.0 in
    let rest : f.at + size_of f.element.kind ≤ size = within (f.at + size_of f.element.kind) fs size parts.1 in
    omega arith

more : (place part size : ℕ) → place + part ≤ size → 0 < part → 0 < size
more place part size le some = omega arith

pub sized : (fs : List Field) (size : ℕ) → is_structure fs size ≡ true → (0 < size) × (size ≤ 65536)
sized [] size h = absurd (cc)
sized (f ∷ fs) size h =
    let placed = (both _ _ (both _ _ h).0).0 in
    let limits = (both _ _ placed).0 in
    let fit : size ≤ 65536 = leb-true size 65536 (both _ _ limits).1 in
    let apart : are_apart (f.at + size_of f.element.kind) fs size ≡ true = (both _ _ (both _ _ placed).1).1 in
    let rest : f.at + size_of f.element.kind ≤ size = within (f.at + size_of f.element.kind) fs size apart in
    (more f.at (size_of f.element.kind) size rest (some_bytes f.element.kind), fit)

all_within : (place : ℕ) (fs : List Field) (size : ℕ) → are_apart place fs size ≡ true → (k : ℕ) (d : Field) → k < length fs
    → (get_or fs k d).at + size_of (get_or fs k d).element.kind ≤ size
all_within place [] size h k d lt = absurd (omega arith)
all_within place (f ∷ fs) size h zero d lt = within (f.at + size_of f.element.kind) fs size (both _ _ h).1
all_within place (f ∷ fs) size h (suc k) d lt = all_within (f.at + size_of f.element.kind) fs size (both _ _ h).1 k d (omega arith)

-- each field lies inside
pub each_inside : (fs : List Field) (size : ℕ) → is_structure fs size ≡ true → All (λ (f : Field). f.at + size_of f.element.kind ≤ size) fs
each_inside fs size h = all_within 0 fs size (both _ _ (both _ _ (both _ _ h).0).0).1
