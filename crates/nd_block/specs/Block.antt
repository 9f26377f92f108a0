-- What the fields of a block say of its memory.
use Rattle.std.specs.Prelude.{◌≡◌, ℕ, ◌^◌, ◌<◌, List, length}
use Rattle.nd_block.specs.declared.block.RawBlock.TheInside.{Inside}

-- the bytes of a block
abbrev pub block_bytes : Inside → List ℕ
block_bytes b = b.places.written

-- every place holds a byte, there are `count` of them, and the right is for these places
pub record IsBlock (b : Inside) : Type 0 where
  pub placed : b.places.first ≡ b.start.first
  pub full : b.places.unwritten ≡ 0
  pub long : length b.places.written ≡ b.count
  pub few : b.count < 2 ^ 63
  pub right_first : b.right.first ≡ b.start.first
  pub right_count : b.right.count ≡ b.count
  pub right_from : b.right.from ≡ b.alloc
