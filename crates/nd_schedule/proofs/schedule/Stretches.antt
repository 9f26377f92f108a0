-- The cells that an edit runs, stretch by stretch.
use Rattle.std.proofs.Common.{◌≡◌, ℕ, suc, ◌+◌, ◌-◌, ◌<◌, ◌≤◌, ◌⊎◌, List, [], ◌∷◌, ◌++◌, length, map, take, get_or, Option, Some, None, sym, ap, subst, ◌∙◌, inl, inr, arith}
use Rattle.std.specs.Prelude.{Contains, MatchOption}
use Rattle.std.proofs.lemmas.Bool.{cases_lt}
use Rattle.std.proofs.lemmas.List.{append_assoc, get_or-take, map-append}
use Rattle.std.proofs.Math.Seq.{take-suc}
use Rattle.std.proofs.lemmas.List.Elements.{Contains-append_cases, Contains-append_left, Contains-append_right}
use Rattle.nd_model.specs.Book.Records.{StillHolds}
use Rattle.nd_model.specs.Book.Renaming.{AreDistinct}
use Rattle.nd_model.specs.Book.Book.{Book, no_cell, labels_of}
use Rattle.nd_model.specs.Book.Entries.{entry_at, record_at, session_before}
use Rattle.nd_model.specs.Book.Stale.{IsStale, kept_of}
use Rattle.nd_model.proofs.Entries.{fresh_at, holds_there}
use Rattle.nd_model.proofs.Lazy.{same_front}
use Rattle.nd_schedule.specs.Schedule.Ran.{AreBetween, AreStaleIn, place_made}
use Rattle.nd_schedule.specs.Schedule.Sweep.{AreChanged, Changes, places_in}
use Rattle.nd_schedule.proofs.schedule.Places.{between_append, first_of, first_or, within}
use Rattle.nd_schedule.proofs.schedule.Sweeping.{fresh_there, kept_there}

-- the places of a list, one more
pub places_more : {X : Type 0} (f : X → ℕ) (before now : List ℕ) (was : List ℕ) (xs : List X) (k : ℕ) (x : X) → before ≡ was ++ map f (take k xs) → k < length xs → x ≡ get_or xs k x → now ≡ before ++ f x ∷ [] → now ≡ was ++ map f (take (k + 1) xs)
places_more f before now was xs k x so_far lt is grown =
    let e : suc k ≡ k + 1 = omega arith in
    let one : take (k + 1) xs ≡ take k xs ++ x ∷ [] = ap (λ n. take n xs) (sym e) ∙ take-suc xs k x lt ∙ ap (λ y. take k xs ++ y ∷ []) (sym is) in
    grown ∙ ap (λ ps. ps ++ f x ∷ []) so_far ∙ append_assoc was (map f (take k xs)) (f x ∷ [])
    ∙ ap (λ ps. was ++ ps) (sym (map-append f (take k xs) (x ∷ [])) ∙ ap (map f) (sym one))

module _ (old new : Book) where
  -- no cell there is stale
  pub stale_none : (low high : ℕ) → ((p : ℕ) → low ≤ p → p < high → ¬ IsStale old new (entry_at new p)) → AreStaleIn old new low high []
  stale_none low high fresh = record {
    order = tt;
    stale = λ p le lt. (λ c. absurd (omega (arith, c.1)), λ is. absurd (fresh p le lt is));
  }

  pub stale_one : (p high : ℕ) → high ≡ p + 1 → IsStale old new (entry_at new p) → AreStaleIn old new p high (p ∷ [])
  stale_one p high one is = record {
    order = (omega arith, omega (arith, one), tt);
    stale = λ q le lt. let here : q ≡ p = omega (arith, one) in (
      λ c. subst (λ k. IsStale old new (entry_at new k)) (sym here) is,
      λ is. subst (Contains (p ∷ [])) (sym here) (first_of p []),
    );
  }

  -- one stretch behind another
  pub stale_append : (low mid high : ℕ) (ps qs : List ℕ) → low ≤ mid → mid ≤ high → AreStaleIn old new low mid ps → AreStaleIn old new mid high qs → AreStaleIn old new low high (ps ++ qs)
  stale_append low mid high ps qs le le' front back = record {
    order = between_append low mid high ps qs le le' front.order back.order;
    stale = λ p above below. each p (cases_lt p mid) above below;
  }
    where
      each : (p : ℕ) → (p < mid) ⊎ (mid ≤ p) → low ≤ p → p < high → (Contains (ps ++ qs) p → IsStale old new (entry_at new p)) × (IsStale old new (entry_at new p) → Contains (ps ++ qs) p)
      each p (inl before) above below = (
        λ c. elim (Contains-append_cases ps qs p c) [
          | inl first ↦ (front.stale p above before).0 first
          | inr last ↦ absurd (let inside : (mid ≤ p) × (p < high) = within mid high qs p back.order last in omega (arith, inside.0))
        ],
        λ is. Contains-append_left ps qs p ((front.stale p above before).1 is),
      )
      each p (inr past) above below = (
        λ c. elim (Contains-append_cases ps qs p c) [
          | inl first ↦ absurd (let inside : (low ≤ p) × (p < mid) = within low mid ps p front.order first in omega (arith, inside.1))
          | inr last ↦ (back.stale p past below).0 last
        ],
        λ is. Contains-append_right ps qs p ((back.stale p past below).1 is),
      )

  -- a stretch over which a sweep went
  module _ (i j to : ℕ) (le : i ≤ to) (f : ℕ → ℕ) (goes : (n : ℕ) → i + n < to → f (i + n) ≡ j + n) where
    goes_to : (p : ℕ) → i ≤ p → p < to → f p ≡ j + (p - i)
    goes_to p above below = let e : i + (p - i) ≡ p = omega arith in ap f (sym e) ∙ goes (p - i) (omega arith)

    rises : (low : ℕ) (ps : List ℕ) → i ≤ low → AreBetween low to ps → AreBetween (j + (low - i)) (j + (to - i)) (map f ps)
    rises low [] above h = tt
    rises low (p ∷ ps) above h =
        let is : f p ≡ j + (p - i) = goes_to p (omega (arith, h.0)) h.1 in
        let next : j + (p + 1 - i) ≡ f p + 1 = omega (arith, is, h.0) in (
          omega (arith, is, h.0),
          omega (arith, is, h.1, h.0),
          subst (λ n. AreBetween n (j + (to - i)) (map f ps)) next (rises (p + 1) ps (omega (arith, h.0)) h.2),
        )

    goes_in : (ps : List ℕ) (p : ℕ) → Contains ps p → Contains (map f ps) (f p)
    goes_in [] p c = absurd (omega (arith, c.1))
    goes_in (q ∷ ps) p c = elim (first_or q ps p c) [
      | inl is ↦ subst (λ x. Contains (f q ∷ map f ps) (f x)) (sym is) (first_of (f q) (map f ps))
      | inr there ↦ Contains-append_right (f q ∷ []) (map f ps) (f p) (goes_in ps p there)
    ]

    comes_from : (low : ℕ) (ps : List ℕ) (n : ℕ) → i ≤ low → AreBetween low to ps → Contains (map f ps) (j + n) → Contains ps (i + n)
    comes_from low [] n above h c = absurd (omega (arith, c.1))
    comes_from low (p ∷ ps) n above h c = elim (first_or (f p) (map f ps) (j + n) c) [
      | inl is ↦ let there : f p ≡ j + (p - i) = goes_to p (omega (arith, h.0)) h.1 in let here : i + n ≡ p = omega (arith, is, there, h.0) in
          subst (Contains (p ∷ ps)) (sym here) (first_of p ps)
      | inr there ↦ Contains-append_right (p ∷ []) ps (i + n) (comes_from (p + 1) ps n (omega (arith, h.0)) h.2 there)
    ]

    pub stale_changed : (cs : Changes) (ps : List ℕ) → ps ≡ map f (places_in cs) → AreChanged old new i j to cs → AreStaleIn old new j (j + (to - i)) ps
    stale_changed cs ps is all = subst (AreStaleIn old new j (j + (to - i))) (sym is) (record {
      order = let e : j ≡ j + (i - i) = omega arith in subst (λ n. AreBetween n (j + (to - i)) (map f (places_in cs))) (sym e) (rises i (places_in cs) (omega arith) all.rising);
      stale = λ p above below.
          let n : ℕ = p - j in
          let here : p ≡ j + (p - j) = omega arith in (
            λ c. subst (λ k. IsStale old new (entry_at new k)) (sym here) ((all.stale (p - j) (omega arith)).0 (comes_from i (places_in cs) (p - j) (omega arith) all.rising (subst (Contains (map f (places_in cs))) here c))),
            λ is. subst (Contains (map f (places_in cs))) (goes (p - j) (omega arith) ∙ sym here) (goes_in (places_in cs) (i + (p - j)) ((all.stale (p - j) (omega arith)).1 (subst (λ k. IsStale old new (entry_at new k)) here is))),
          );
    })

  -- no cell in front of an edit is stale
  pub stale_front : (at : ℕ) → AreDistinct (labels_of old.cells) → old.world ≡ new.world → at ≤ length old.cells → take at old.cells ≡ take at new.cells → AreStaleIn old new 0 at []
  stale_front at d same le cells = stale_none 0 at (λ p above below.
      let cell : (entry_at new p).cell ≡ (entry_at old p).cell = sym (get_or-take at new.cells p no_cell below) ∙ ap (λ cs. get_or cs p no_cell) (sym cells) ∙ get_or-take at old.cells p no_cell below in
      let session : session_before old p ≡ session_before new p = (same_front at old new same cells).1 p (omega arith) in
      fresh_there old new p (record_at old.world (entry_at old p)) (ap (kept_of old) cell ∙ kept_there old p (omega arith) d)
      (subst (λ i. StillHolds (record_at old.world (entry_at old p)) (session_before new p) i) same
      (subst (λ s. StillHolds (record_at old.world (entry_at old p)) s old.world) session (holds_there old.world (entry_at old p) (fresh_at old p (omega arith) d)))))

  -- a cell that moved, at its place now
  pub stale_made : {X : Type 0} (o : Option X) (to high : ℕ) → high ≡ to + 1 → MatchOption o (¬ IsStale old new (entry_at new to)) (λ _. IsStale old new (entry_at new to)) → AreStaleIn old new to high (place_made o to)
  stale_made None to high one h = stale_none to high (λ p above below is. h (let here : p ≡ to = omega (arith, one) in subst (λ k. IsStale old new (entry_at new k)) here is))
  stale_made (Some x) to high one h = stale_one to high one h
