-- A copy of a change: entries with values that are there or not.
use Rattle.std.proofs.Common.{◌≡◌, List, [], ◌∷◌, Global, Option, Some, None, refl}
use Rattle.std.specs.List.{AllZip}
use Rattle.std.specs.Rc.{rc_str_bytes}
use Rattle.std.specs.declared.rc.Rc.{Rc}
use Rattle.std.specs.declared.rc.RcStr.{RcStr}
use Rattle.nd_heap.specs.declared.value.Base.{Base}
use Rattle.nd_heap.specs.Values.{base_of, entries_of}
use Rattle.nd_session.specs.Session.Found.{by_base}

-- what is known of the copy of a value that is there or not
pub record IsCopying {V W : Type 0} (f : Option (Rc V Global) → W) (C : Option (Rc V Global) → Option (Rc V Global) → Type 0) : Type 0 where
  pub both : (v w : Rc V Global) → C (Some v) (Some w) → w.value ≡ v.value
  pub same : (v w : Rc V Global) → w.value ≡ v.value → f (Some w) ≡ f (Some v)
  pub lost : (v : Rc V Global) → C (Some v) None → ⊥
  pub made : (w : Rc V Global) → C None (Some w) → ⊥

module _ {V W : Type 0} (f : Option (Rc V Global) → W) (C : Option (Rc V Global) → Option (Rc V Global) → Type 0) (is : IsCopying f C) where
  copied : (p q : Option (Rc V Global)) → C p q → f q ≡ f p
  copied None None h = refl
  copied None (Some w) h = absurd (is.made w h)
  copied (Some v) None h = absurd (is.lost v h)
  copied (Some v) (Some w) h = is.same v w (is.both v w h)

  pub copied_names : (K : RcStr Global → RcStr Global → Type 0) → ((a b : RcStr Global) → K a b → rc_str_bytes b ≡ rc_str_bytes a)
      → (es fs : List (RcStr Global × Option (Rc V Global))) → AllZip (λ (p q : RcStr Global × Option (Rc V Global)). K p.0 q.0 × C p.1 q.1) es fs → entries_of f fs ≡ entries_of f es
  copied_names K keys [] [] h = refl
  copied_names K keys [] (d ∷ fs) h = absurd h
  copied_names K keys (e ∷ es) [] h = absurd h
  copied_names K keys (e ∷ es) (d ∷ fs) h = λ i. (keys e.0 d.0 h.0.0 i, copied e.1 d.1 h.0.1 i) ∷ copied_names K keys es fs h.1 i

  pub copied_bases : (K : Base → Base → Type 0) → ((a b : Base) → K a b → b ≡ a)
      → (es fs : List (Base × Option (Rc V Global))) → AllZip (λ (p q : Base × Option (Rc V Global)). K p.0 q.0 × C p.1 q.1) es fs → by_base f fs ≡ by_base f es
  copied_bases K keys [] [] h = refl
  copied_bases K keys [] (d ∷ fs) h = absurd h
  copied_bases K keys (e ∷ es) [] h = absurd h
  copied_bases K keys (e ∷ es) (d ∷ fs) h = λ i. (base_of (keys e.0 d.0 h.0.0 i), copied e.1 d.1 h.0.1 i) ∷ copied_bases K keys es fs h.1 i

-- values by their bases, where each is shared
pub copied_shared : {V W : Type 0} (f : Rc V Global → W) (C : Rc V Global → Rc V Global → Type 0) → ((v w : Rc V Global) → C v w → f w ≡ f v) → (K : Base → Base → Type 0) → ((a b : Base) → K a b → b ≡ a)
    → (es fs : List (Base × Rc V Global)) → AllZip (λ (p q : Base × Rc V Global). K p.0 q.0 × C p.1 q.1) es fs → by_base f fs ≡ by_base f es
copied_shared f C same K keys [] [] h = refl
copied_shared f C same K keys [] (d ∷ fs) h = absurd h
copied_shared f C same K keys (e ∷ es) [] h = absurd h
copied_shared f C same K keys (e ∷ es) (d ∷ fs) h = λ i. (base_of (keys e.0 d.0 h.0.0 i), same e.1 d.1 h.0.1 i) ∷ copied_shared f C same K keys es fs h.1 i
