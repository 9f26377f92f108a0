-- What is kept of what was read is what stood there.
use Rattle.std.proofs.Common.{◌≡◌, ℕ, Bool, true, false, cond, List, length, slice_index, Some, None, option_map, refl, sym, ap, ◌∙◌}
use Rattle.std.specs.Prelude.{is_some, IsTrue}
use Rattle.nd_model.specs.Arrays.Value.{Base}
use Rattle.nd_model.specs.Cells.Session.{Session, lookup}
use Rattle.nd_model.specs.Cells.Running.{Key, Name, Input, Length, Byte, OfRule, World}
use Rattle.nd_model.specs.Cells.Footprint.{Bound, Given, Number, Ruled}
use Rattle.nd_heap.specs.Live.{is_base_among}
use Rattle.nd_trace.specs.Marked.{is_among, is_marked}
use Rattle.nd_session.specs.Session.Found.{byte_at, lookup_base}
use Rattle.nd_session.specs.Session.Reads.{ReadsData, found_in, found_of, is_read_by, keys_of}
use Rattle.nd_trace.specs.Seen.{Seen}

mapped : {X Y : Type 0} (f : X → Y) (h : Bool) (x : X) → option_map f (cond h (Some x) None) ≡ cond h (Some (f x)) None
mapped f true x = refl
mapped f false x = refl

there : {X : Type 0} (h : Bool) (x : X) → is_some (cond h (Some x) None) ≡ h
there true x = refl
there false x = refl

found_then : {X : Type 0} (h : Bool) (x : X) → h ≡ true → cond h (Some x) None ≡ Some x
found_then h x e = ap (λ h. cond h (Some x) None) e

module _ (r : ReadsData) (t : Seen) (s : Session) (w : World) (refused : Bool)
    (names : (n : List ℕ) → lookup n r.names ≡ cond (is_among t.looked n) (Some (lookup n s.names)) None)
    (asked : (n : List ℕ) → lookup n r.inputs ≡ cond (is_among t.asked n) (Some (w.inputs n)) None)
    (long : (b : Base) → lookup_base b r.lengths ≡ cond (is_base_among t.lengths b) (Some (length (s.bytes b))) None)
    (bytes : (b : Base) (p : ℕ) → byte_at (lookup_base b r.bytes) p ≡ cond (is_marked t.used b p) (Some (slice_index (s.bytes b) p)) None)
    (rule : r.rule ≡ cond refused (Some w.rule) None) where
  kept : (k : Key) → found_of r k ≡ cond (is_read_by t refused k) (Some (found_in s w k)) None
  kept (Name n) = ap (option_map Bound) (names n) ∙ mapped Bound (is_among t.looked n) (lookup n s.names)
  kept (Input n) = ap (option_map Given) (asked n) ∙ mapped Given (is_among t.asked n) (w.inputs n)
  kept (Length b) = ap (option_map Number) (long b) ∙ mapped Number (is_base_among t.lengths b) (length (s.bytes b))
  kept (Byte b p) = ap (option_map Number) (bytes b p) ∙ mapped Number (is_marked t.used b p) (slice_index (s.bytes b) p)
  kept OfRule = ap (option_map Ruled) rule ∙ mapped Ruled refused w.rule

  pub kept_keys : (k : Key) → keys_of r k ≡ is_read_by t refused k
  kept_keys k = ap is_some (kept k) ∙ there (is_read_by t refused k) (found_in s w k)

  pub kept_found : (k : Key) → IsTrue (keys_of r k) → found_of r k ≡ Some (found_in s w k)
  kept_found k read = kept k ∙ found_then (is_read_by t refused k) (found_in s w k) (sym (kept_keys k) ∙ read)
