-- A store in parts: its bytes are noted as written, and its block gets them.
use Rattle.std.specs.Prelude.{◌≡◌, ℕ, not, ◌&&◌, ◌||◌, List}
use Rattle.nd_model.specs.Arrays.Value.{Base, same_base}
use Rattle.nd_model.specs.Cells.Session.{is_in, is_place, put}
use Rattle.nd_model.specs.Cells.Running.{Running, is_length, is_own, with_base, done, Storing}

-- the bytes at these places of a base are written, and its length is read
abbrev pub having_written : Base → List ℕ → Running → Running
having_written b ps r = record r {
  written = λ c p. r.written c p || (same_base b c && is_in p ps);
  read = λ k. r.read k || (is_length b k && not (is_own r k));
}

-- a base has these bytes
abbrev pub having_block : Base → List ℕ → Running → Running
having_block b bytes r = record r { bytes = with_base b bytes r.bytes }

-- THE LAW OF A STORE IN PARTS: where the bytes w are those of the block with what is stored, and the places are those that are
-- stored, the two steps are one store
abbrev pub StoresByParts : Type 0
StoresByParts = (b : Base) (ps : List ℕ) (ws : List (ℕ × ℕ)) (w : List ℕ) (r : Running)
    → w ≡ put ws (r.bytes b) → ((p : ℕ) → is_in p ps ≡ is_place p ws)
    → having_block b w (having_written b ps r) ≡ done (Storing b ws) r
