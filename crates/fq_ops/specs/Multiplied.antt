-- The functions whose values have the scale of their column: the others count rows or values.
use Rattle.std.specs.Prelude.{Bool, true, false}
use Rattle.fq_ops.specs.declared.aggregates.Function.{Function}
use Rattle.fq_ops.specs.declared.aggregates.Function.TheVariants.{Sum, Min, Max, Count, Len, First, Last, NUnique}

abbrev pub keeps_scale : Function → Bool
keeps_scale Sum = true
keeps_scale Min = true
keeps_scale Max = true
keeps_scale Count = false
keeps_scale Len = false
keeps_scale First = true
keeps_scale Last = true
keeps_scale NUnique = false
