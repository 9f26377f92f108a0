-- The fields of new views.
use Rattle.std.proofs.Common.{◌≡◌, ℕ, ◌+◌, ◌^◌, ◌≤◌, ◌==◌, Bool, true, false, List, [], ◌∷◌, length, refl, sym, ap, ◌∙◌, inl, inr, arith}
use Rattle.std.specs.Prelude.{ℤ, not, Option, Some, None, Result, Ok, if◌then◌else◌}
use Rattle.std.proofs.lemmas.Bool.{cases_lt}
use Rattle.std.proofs.lemmas.Bool.Decides.{nat_tests}
use Rattle.nd_model.specs.Cells.Fault.{ViewFault, AxesDiffer, OutOfBlock}
use Rattle.nd_model.specs.Arrays.Strides.{IsInLimits, are_held, limit_fault, or_else, parts_fault, from_parts, places_by}
use Rattle.nd_model.specs.Arrays.Tuple.{elements_of}
use Rattle.nd_model.specs.Arrays.View.{ElementType, Geo, item_size}
use Rattle.nd_view.specs.Strides.{before_of, behind_of, kept_all, strides_of}
use Rattle.nd_view.proofs.Extents.{lies}
use Rattle.nd_view.proofs.Fields.{gapless}
use Rattle.nd_view.proofs.Kept.{before_of-kept, behind_of-kept, nothing_before, nothing_behind, length-kept, kept_again, places_kept, no_places}
use Rattle.nd_view.proofs.Limits.{limits_of}

pub record AreFields (size : ℕ) (shape : List ℕ) (steps : List ℤ) (start : ℕ) : Type 0 where
  pub limits : IsInLimits size shape
  pub axes : length steps ≡ length shape
  pub strides : kept_all (elements_of shape) shape steps ≡ steps
  pub offset : elements_of shape ≡ 0 → start ≡ 0
  pub low : before_of shape steps ≤ start
  pub high : start + behind_of shape steps + size ≤ 2 ^ 64

-- ---- an array without gaps

pub gapless_fields : (size : ℕ) (shape lengths : List ℕ) (steps : List ℤ) → lengths ≡ shape → steps ≡ strides_of size shape → IsInLimits size shape → size ≤ 65536 → AreFields size lengths steps 0
gapless_fields size shape lengths steps same is limits small =
    let g = gapless size shape small (limits_of size shape limits).bytes in
    rw (same, is) (record {
      limits = limits;
      axes = g.axes;
      strides = g.kept;
      offset = λ e. refl;
      low = omega (arith, g.low);
      high = omega (arith, g.high);
    })

-- ---- one element alone

pub alone_fields : (size start : ℕ) (lengths : List ℕ) (steps : List ℤ) → lengths ≡ [] → steps ≡ [] → size ≤ 65536 → start + size ≤ 2 ^ 64 → AreFields size lengths steps start
alone_fields size start lengths steps none still small fits = rw (none, still) (record {
  limits = grind (arith, nat_tests);
  axes = refl;
  strides = refl;
  offset = λ e. absurd (omega (arith, e));
  low = omega arith;
  high = omega arith;
})

pub alone : (t : ElementType) (writable : Bool) (start : ℕ) (lengths : List ℕ) (steps : List ℤ) → lengths ≡ []
    → ◌≡◌ {A = Geo} (record { element = t; shape = lengths; writable = writable; places = places_by start steps lengths }) (record { element = t; shape = []; writable = writable; places = start ∷ [] })
alone t writable start lengths steps none =
    rw none (ap (λ p. record { element = t; shape = []; writable = writable; places = p ∷ [] }) (omega arith))

-- ---- a view of parts

-- no refusal holds
none_holds : (differ held : Bool) (limit : Option ViewFault) → (if not differ then Some AxesDiffer else or_else limit (if held then None else Some OutOfBlock)) ≡ None
    → (differ ≡ true) × (limit ≡ None) × (held ≡ true)
none_holds true true None e = (refl, refl, refl)
none_holds true false None e = cc
none_holds true held (Some fault) e = cc
none_holds false held limit e = cc

module _ (size : ℕ) (shape : List ℕ) (strides : List ℤ) (offset len : ℕ) (none : parts_fault size shape strides offset len ≡ None) where
  pub facts : ((length shape == length strides) ≡ true) × (limit_fault size shape ≡ None) × (are_held size len offset strides shape ≡ true)
  facts = none_holds (length shape == length strides) (are_held size len offset strides shape) (limit_fault size shape) none

  pub axes : length strides ≡ length shape
  axes = let test = facts.0 in grind (arith, nat_tests)

  pub parted_fields : (lengths : List ℕ) (steps : List ℤ) (start : ℕ) → lengths ≡ shape → steps ≡ kept_all (elements_of shape) shape strides → start ≡ (if elements_of shape == 0 then 0 else offset)
      → size ≤ 65536 → len ≤ 2 ^ 64 → AreFields size lengths steps start
  parted_fields lengths steps start same kept at small fits =
      elim (cases_lt 0 (elements_of shape)) [
        | inl some ↦
            let test : (elements_of shape == 0) ≡ false = grind (arith, nat_tests) in
            let l = lies size len offset shape strides axes some facts.2 in
            rw (same, kept, at, test) (record {
              limits = facts.1;
              axes = length-kept (elements_of shape) shape strides axes;
              strides = kept_again (elements_of shape) shape strides;
              offset = λ e. absurd (omega (arith, some, e));
              low = omega (arith, l.low, before_of-kept (elements_of shape) shape strides);
              high = omega (arith, l.high, behind_of-kept (elements_of shape) shape strides);
            })
        | inr gone ↦
            let zero_of : elements_of shape ≡ 0 = omega arith in let test : (elements_of shape == 0) ≡ true = grind (arith, nat_tests) in
            rw (same, kept, at, test) (record {
              limits = facts.1;
              axes = length-kept (elements_of shape) shape strides axes;
              strides = kept_again (elements_of shape) shape strides;
              offset = λ e. refl;
              low = rw zero_of (omega (arith, nothing_before shape strides));
              high = rw zero_of (omega (arith, nothing_behind shape strides));
            })
      ]

  -- the places are those of the parts
  pub parted_places : (lengths : List ℕ) (steps : List ℤ) (start : ℕ) → lengths ≡ shape → steps ≡ kept_all (elements_of shape) shape strides → start ≡ (if elements_of shape == 0 then 0 else offset)
      → places_by start steps lengths ≡ places_by offset strides shape
  parted_places lengths steps start same kept at =
      elim (cases_lt 0 (elements_of shape)) [
        | inl some ↦ let test : (elements_of shape == 0) ≡ false = grind (arith, nat_tests) in rw (same, kept, at, test) (places_kept offset shape strides some)
        | inr gone ↦
            let zero_of : elements_of shape ≡ 0 = omega arith in
            ap (places_by start steps) same ∙ no_places start steps shape zero_of ∙ sym (no_places offset strides shape zero_of)
      ]

pub parted : (t : ElementType) (shape lengths : List ℕ) (strides steps : List ℤ) (offset start len : ℕ) → parts_fault (item_size t) shape strides offset len ≡ None
    → lengths ≡ shape → steps ≡ kept_all (elements_of shape) shape strides → start ≡ (if elements_of shape == 0 then 0 else offset)
    → ◌≡◌ {A = Result Geo ViewFault} (Ok (record { element = t; shape = lengths; writable = true; places = places_by start steps lengths })) (from_parts t shape strides offset len)
parted t shape lengths strides steps offset start len none same kept at =
    let places = parted_places (item_size t) shape strides offset len none lengths steps start same kept at in
    rw none (λ i. Ok (record { element = t; shape = same i; writable = true; places = places i }))

-- the parts of a view that lies from 0 to 2^64 - 1 have no fault
pub no_fault : (size len offset : ℕ) (shape : List ℕ) (strides : List ℤ) → IsInLimits size shape → length strides ≡ length shape → are_held size len offset strides shape ≡ true → parts_fault size shape strides offset len ≡ None
no_fault size len offset shape strides limits axes held = let test : (length shape == length strides) ≡ true = grind (arith, nat_tests) in rw (test, limits, held) refl

-- a view by kept strides and offset, with this right to write, is that of the parts
pub parted_as : (t : ElementType) (shape lengths : List ℕ) (strides steps : List ℤ) (offset start len : ℕ) (writable : Bool) → parts_fault (item_size t) shape strides offset len ≡ None
    → lengths ≡ shape → steps ≡ kept_all (elements_of shape) shape strides → start ≡ (if elements_of shape == 0 then 0 else offset)
    → ◌≡◌ {A = Geo} (record { element = t; shape = lengths; writable = writable; places = places_by start steps lengths })
    (record { element = t; shape = shape; writable = writable; places = places_by offset strides shape })
parted_as t shape lengths strides steps offset start len writable none same kept at =
    let places = parted_places (item_size t) shape strides offset len none lengths steps start same kept at in
    λ i. record { element = t; shape = same i; writable = writable; places = places i }
