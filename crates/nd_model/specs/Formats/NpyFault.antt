-- Why bytes are no NPY file (NumPy's description of the format), with the byte of the header from 0 where there is one to name.
use Rattle.std.specs.Prelude.{ℕ}

pub data NpyFault : Type 0 where
  BadMagic : NpyFault
  BadVersion : NpyFault
  Truncated : NpyFault
  NotText : (at : ℕ) → NpyFault
  BadHeader : (at : ℕ) → NpyFault
  BadKeys : NpyFault
  BadDescr : NpyFault
  TooLarge : NpyFault
