use Rattle.std.proofs.Common.{rules}
use Rattle.nd_script.proofs.lines.Answers.{pushes_same, pushes_trans}
use Rattle.nd_commands.proofs.fault.push_index_fault.Goals as goal

pub returns-in-OutOfBounds : goal.returns-in-OutOfBounds
returns-in-OutOfBounds g c = rw c.in-OutOfBounds.is (pushes_same (search rules) c.push_out_of_bounds.ensures)

pub returns-in-TooManyIndices : goal.returns-in-TooManyIndices
returns-in-TooManyIndices g c = rw c.in-TooManyIndices.is c.push_text.ensures

pub returns-in-NotAnIndex : goal.returns-in-NotAnIndex
returns-in-NotAnIndex g c = rw c.in-NotAnIndex.is c.push_text-in-NotAnIndex.ensures

pub returns-in-ZeroStep : goal.returns-in-ZeroStep
returns-in-ZeroStep g c = rw c.in-ZeroStep.is c.push_text-in-ZeroStep.ensures

pub returns-in-TwoEllipses : goal.returns-in-TwoEllipses
returns-in-TwoEllipses g c = rw c.in-TwoEllipses.is c.push_text-in-TwoEllipses.ensures

pub returns-in-NoField : goal.returns-in-NoField
returns-in-NoField g c = rw (c.in-NoField.is, ← c.as_str.ensures.value) (pushes_trans c.push_text-in-NoField.ensures c.push_text-in-NoField-2.ensures)

pub returns-in-MaskShape : goal.returns-in-MaskShape
returns-in-MaskShape g c = rw c.in-MaskShape.is c.push_place.ensures

pub returns-in-IndexShapes : goal.returns-in-IndexShapes
returns-in-IndexShapes g c = rw c.in-IndexShapes.is c.push_text-in-IndexShapes.ensures
