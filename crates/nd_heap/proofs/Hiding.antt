-- Blocks of which some are gone.
use Rattle.std.proofs.Common.{◌≡◌, ℕ, Bool, true, false, ◌||◌, cond, List, [], ◌∷◌, ◌++◌, refl, sym, ap, ◌∙◌, inl, inr}
use mathlib.Core.Path.{fun_ext}
use Rattle.std.proofs.lemmas.Bool.{cases_Bool}
use Rattle.nd_model.specs.Arrays.Value as model
use Rattle.nd_model.specs.Cells.Running as running
use Rattle.nd_heap.specs.Layers.{is_block_among, without}
use Rattle.nd_heap.specs.Live.{bytes_at, is_base_among}
use Rattle.nd_heap.proofs.Bases.{same_base_sym}
use Rattle.nd_heap.proofs.Same.{same_bases}
use Rattle.nd_heap.proofs.Stacking.{Stack, bytes-stacked}

nothing : (t : Bool) → ◌≡◌ {A = List ℕ} (cond t [] []) []
nothing true = refl
nothing false = refl

pub bytes-without : (gone : List model.Base) (es : Stack) (b : model.Base) → bytes_at (without gone es) b ≡ cond (is_base_among gone b) [] (bytes_at es b)
bytes-without gone [] b = sym (nothing (is_base_among gone b))
bytes-without gone (e ∷ es) b = elim (cases_Bool (is_base_among gone e.0)) [
  | inl out ↦ rw out (bytes-without gone es b ∙ elim (cases_Bool (model.same_base e.0 b)) [
    | inl same ↦ let there : is_base_among gone b ≡ true = ap (is_base_among gone) (sym (same_bases e.0 b same)) ∙ out in rw (same, there) refl
    | inr apart ↦ rw apart refl
  ])
  | inr stays ↦ rw stays (elim (cases_Bool (model.same_base e.0 b)) [
    | inl same ↦ let here : is_base_among gone b ≡ false = ap (is_base_among gone) (sym (same_bases e.0 b same)) ∙ stays in rw (same, here) refl
    | inr apart ↦ rw apart (bytes-without gone es b)
  ])
]

pub without-none : (es : Stack) → without [] es ≡ es
without-none [] = refl
without-none (e ∷ es) = ap (λ es. e ∷ es) (without-none es)

-- ---- one block

module _ (gone : List model.Base) (es : Stack) (b : model.Base) where
  pub gone_bytes : is_base_among gone b ≡ true → bytes_at (without gone es) b ≡ []
  gone_bytes out = bytes-without gone es b ∙ rw out refl

  pub kept_bytes : is_base_among gone b ≡ false → bytes_at (without gone es) b ≡ bytes_at es b
  kept_bytes stays = bytes-without gone es b ∙ rw stays refl

-- there is none in either layer
pub gone_stacked : (newer older : Stack) (b : model.Base) → is_block_among newer b ≡ false → bytes_at older b ≡ [] → bytes_at (newer ++ older) b ≡ []
gone_stacked newer older b lacks none = bytes-stacked newer older b ∙ rw lacks none

-- ---- a layer that is written

pub same_without : (gone : List model.Base) (es fs : Stack) → bytes_at fs ≡ bytes_at es → bytes_at (without gone fs) ≡ bytes_at (without gone es)
same_without gone es fs same =
    fun_ext (λ b. bytes-without gone fs b ∙ ap (λ (g : model.Base → List ℕ). cond (is_base_among gone b) [] (g b)) same ∙ sym (bytes-without gone es b))

pub written_without : (gone : List model.Base) (es fs : Stack) (b : model.Base) (f : List ℕ → List ℕ) → is_base_among gone b ≡ false → bytes_at fs ≡ running.with_base b (f (bytes_at es b)) (bytes_at es)
    → bytes_at (without gone fs) ≡ running.with_base b (f (bytes_at (without gone es) b)) (bytes_at (without gone es))
written_without gone es fs b f stays put =
    fun_ext (λ c. bytes-without gone fs c ∙ ap (λ (g : model.Base → List ℕ). cond (is_base_among gone c) [] (g c)) put ∙ elim (cases_Bool (model.same_base b c)) [
      | inl same ↦ let here : is_base_among gone c ≡ false = ap (is_base_among gone) (sym (same_bases b c same)) ∙ stays in rw (same, here) (ap f (sym (kept_bytes gone es b stays)))
      | inr apart ↦ rw apart (sym (bytes-without gone es c))
    ])

-- ---- a base that goes

-- there was no block
pub hidden_none : (gone : List model.Base) (es : Stack) (base : model.Base) → bytes_at es base ≡ [] → (b : model.Base) → bytes_at (without gone es) b ≡ cond (model.same_base base b) [] (bytes_at (without gone es) b)
hidden_none gone es base none b = elim (cases_Bool (model.same_base base b)) [
  | inl same ↦ rw same (bytes-without gone es b ∙ ap (cond (is_base_among gone b) []) (ap (bytes_at es) (sym (same_bases base b same)) ∙ none) ∙ nothing (is_base_among gone b))
  | inr apart ↦ rw apart refl
]

pub hidden_one : (gone more : List model.Base) (es : Stack) (base : model.Base) → ((b : model.Base) → is_base_among more b ≡ (is_base_among gone b || model.same_base b base))
    → (b : model.Base) → bytes_at (without more es) b ≡ cond (model.same_base base b) [] (bytes_at (without gone es) b)
hidden_one gone more es base is b =
    bytes-without more es b ∙ ap (λ t. cond t [] (bytes_at es b)) (is b ∙ ap (λ t. is_base_among gone b || t) (same_base_sym b base))
    ∙ go (is_base_among gone b) (model.same_base base b) (bytes_at es b) ∙ ap (cond (model.same_base base b) []) (sym (bytes-without gone es b))
  where
    go : (out same : Bool) (bytes : List ℕ) → cond (out || same) [] bytes ≡ cond same [] (cond out [] bytes)
    go true same bytes = sym (nothing same)
    go false same bytes = refl
