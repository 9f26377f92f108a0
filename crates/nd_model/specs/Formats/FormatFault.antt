-- Why a text is no format string of an item of a size (PEP 3118), with the byte from 0 where there is one to name.
use Rattle.std.specs.Prelude.{ℕ}

pub data FormatFault : Type 0 where
  UnknownCode : (at : ℕ) → FormatFault
  Unclosed : (at : ℕ) → FormatFault
  NoName : (at : ℕ) → FormatFault
  DoubleName : (at : ℕ) → FormatFault
  CountNotHere : (at : ℕ) → FormatFault
  LargerThanItem : FormatFault
  TooManyFields : FormatFault
  BadItemSize : FormatFault
