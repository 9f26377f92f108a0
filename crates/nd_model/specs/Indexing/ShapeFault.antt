-- Why an array has no such shape.
pub data ShapeFault : Type 0 where
  BadAxes : ShapeFault
  ShapeMismatch : ShapeFault
  TwoUnknown : ShapeFault
  SizeMismatch : ShapeFault
