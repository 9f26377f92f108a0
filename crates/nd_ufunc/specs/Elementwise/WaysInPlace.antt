-- What a clause sees of results in place.
use Rattle.nd_ufunc.specs.Elementwise.Prepared as model
use Rattle.nd_ufunc.specs.declared.elementwise.in_place.InPlace.TheInside.{Inside}
use Rattle.nd_ufunc.specs.declared.elementwise.in_place.Way.{Way}
use Rattle.nd_ufunc.specs.declared.elementwise.in_place.Way.TheVariants.{Found, Directly}

abbrev pub prepared_of : Way → model.PreparedInPlace
prepared_of (Found a) = model.Found a
prepared_of (Directly d) = model.Directly d

abbrev pub prepared_in_place : Inside → model.PreparedInPlace
prepared_in_place p = prepared_of p.way
