-- Which ranges of the definitions the ranges of the program are.
use Rattle.nd_model.specs.Making.Creation as creation
use Rattle.nd_convert.specs.declared.creation.ranges.Range.{Range}

abbrev pub range_from : Range → creation.Range
range_from r = creation.range_by r.start r.stop r.step
