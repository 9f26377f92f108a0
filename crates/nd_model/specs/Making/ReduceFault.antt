-- Why numbers are not reduced.
pub data ReduceFault : Type 0 where
  EmptyReduce : ReduceFault
  NoAxis : ReduceFault
  NotNumbers : ReduceFault
