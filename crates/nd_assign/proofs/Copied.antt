-- Copies of elements, one after another and part by part.
use Rattle.std.proofs.Common.{◌≡◌, ℕ, ℤ, ◌+◌, ◌<◌, ◌≤◌, List, [], ◌∷◌, ◌++◌, map, length, drop, get_or, refl, sym, ap, ◌∙◌, arith, add-one, drop-cons, append_assoc}
use Rattle.std.specs.List.{zip}
use Rattle.std.proofs.lemmas.List.{length-map, get_or-map, map-append, drop_all}
use Rattle.nd_model.specs.Arrays.Element.{Element, size_of, bytes_of, with_bytes}
use Rattle.nd_model.specs.Arrays.Runs.{spot_at, run_places}
use Rattle.nd_model.specs.Cells.Session.{put}
use Rattle.nd_model.specs.Arrays.Tuple.{count_up}
use Rattle.nd_model.specs.Arrays.View.{ElementType, One}
use Rattle.nd_model.specs.Arrays.Content.{Content, Num, writes, all_writes}
use Rattle.nd_model.proofs.Puts.{put-append, with_bytes-put}
use Rattle.nd_model.proofs.Values.{length-bytes_of}
use Rattle.nd_view.proofs.Tuples.{length-count_up, get_or-count_up}
use Rattle.nd_assign.specs.Copies.{copied_content, with_copies}

-- a number is written
pub number_put : (e : Element) (z : ℤ) (p : ℕ) (out : List ℕ) → p + size_of e.kind ≤ length out → with_bytes out p (bytes_of e z) ≡ put (writes (One e) p (Num z)) out
number_put e z p out le =
    let long : length (bytes_of e z) ≡ size_of e.kind = length-bytes_of e z in
    with_bytes-put (bytes_of e z) p out (omega (arith, long, le)) ∙ ap (λ n. put (zip (count_up p n) (bytes_of e z)) out) long

-- the place of an element of a run
pub run_at : (start : ℕ) (step : ℤ) (count k : ℕ) → k < count → get_or (run_places start step count) k 0 ≡ spot_at start step k
run_at start step count k lt =
    let in_order : k < length (count_up 0 count) = omega (arith, length-count_up 0 count) in
    get_or-map (spot_at start step) (count_up 0 count) k 0 0 in_order ∙ ap (spot_at start step) (get_or-count_up 0 count k 0 lt ∙ omega arith)

pub length-run : (start : ℕ) (step : ℤ) (count : ℕ) → length (run_places start step count) ≡ count
length-run start step count = length-map (count_up 0 count) (spot_at start step) ∙ length-count_up 0 count

all_writes-append : (t : ElementType) (ps us : List ℕ) (cs ds : List Content) → length ps ≡ length cs → all_writes t (ps ++ us) (cs ++ ds) ≡ all_writes t ps cs ++ all_writes t us ds
all_writes-append t [] us [] ds e = refl
all_writes-append t [] us (c ∷ cs) ds e = absurd (omega arith)
all_writes-append t (p ∷ ps) us [] ds e = absurd (omega arith)
all_writes-append t (p ∷ ps) us (c ∷ cs) ds e = ap (λ l. writes t p c ++ l) (all_writes-append t ps us cs ds (omega arith)) ∙ sym (append_assoc (writes t p c) (all_writes t ps cs) (all_writes t us ds))

module _ (to from : ElementType) (bytes : List ℕ) where
  -- some copies, and then others
  pub copies-append : (ps us qs vs out : List ℕ) → length ps ≡ length qs → with_copies to from bytes (ps ++ us) (qs ++ vs) out ≡ with_copies to from bytes us vs (with_copies to from bytes ps qs out)
  copies-append ps us qs vs out e =
      let F = copied_content to from bytes in
      (λ i. put (all_writes to (ps ++ us) (map-append F qs vs i)) out)
      ∙ (λ i. put (all_writes-append to ps us (map F qs) (map F vs) (e ∙ sym (length-map qs F)) i) out)
      ∙ put-append (all_writes to ps (map F qs)) (all_writes to us (map F vs)) out

  -- one copy more
  pub one_more : (ps qs out new whole : List ℕ) (k : ℕ) → k < length ps → k < length qs
      → new ≡ put (writes to (get_or ps k 0) (copied_content to from bytes (get_or qs k 0))) out
      → with_copies to from bytes (drop k ps) (drop k qs) out ≡ whole → with_copies to from bytes (drop (k + 1) ps) (drop (k + 1) qs) new ≡ whole
  one_more ps qs out new whole k lt less e all =
      let F = copied_content to from bytes in
      let here : drop k ps ≡ get_or ps k 0 ∷ drop (k + 1) ps = rw add-one (drop-cons ps k 0 lt) in
      let there : drop k qs ≡ get_or qs k 0 ∷ drop (k + 1) qs = rw add-one (drop-cons qs k 0 less) in
      ap (with_copies to from bytes (drop (k + 1) ps) (drop (k + 1) qs)) e
      ∙ sym (put-append (writes to (get_or ps k 0) (F (get_or qs k 0))) (all_writes to (drop (k + 1) ps) (map F (drop (k + 1) qs))) out)
      ∙ sym (λ i. with_copies to from bytes (here i) (there i) out) ∙ all

  -- no copy is left
  pub all_done : (ps qs out whole : List ℕ) (k : ℕ) → length ps ≤ k → with_copies to from bytes (drop k ps) (drop k qs) out ≡ whole → out ≡ whole
  all_done ps qs out whole k le all = sym (ap (λ l. with_copies to from bytes l (drop k qs) out) (drop_all k ps le)) ∙ all
