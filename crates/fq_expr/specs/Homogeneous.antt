-- The expressions whose scales a law shows to be right: they have no literal numbers, and each quotient of numbers is of two sides of one scale.
use Rattle.std.specs.Prelude.{◌&&◌, ◌||◌, Bool, true, false, not, List, Option, Some}
use Rattle.fq_column.specs.Frame.{Fields}
use Rattle.fq_notation.specs.Notation.{Named}
use Rattle.fq_notation.specs.Scales.{are_read_alike}
use Rattle.fq_notation.specs.declared.followed.Followed.{Followed}
use Rattle.fq_notation.specs.declared.followed.Followed.TheVariants.{Numbers}
use Rattle.fq_expr.specs.declared.expressions.Binary.{Binary}
use Rattle.fq_expr.specs.declared.expressions.Binary.TheVariants.{FloorDiv}
use Rattle.fq_expr.specs.Expression.{Expression, column, null, whole, text, truth, unary, binary}
use Rattle.fq_expr.specs.Followed.{followed}

abbrev pub is_quotient : Binary → Bool
is_quotient FloorDiv = true
is_quotient op = false

-- whether the sides of a quotient have one scale, if both are numbers; a day may be divided, since days and digits stay
abbrev pub divides_alike : Option Followed → Option Followed → Bool
divides_alike (Some (Numbers a)) (Some (Numbers b)) = are_read_alike a.read b.read
divides_alike a b = true

module _ (fields : Fields) (named : List Named) where
  abbrev pub is_homogeneous : Expression → Bool
  is_homogeneous (column name) = true
  is_homogeneous (null k) = true
  is_homogeneous (whole n) = false
  is_homogeneous (text t) = true
  is_homogeneous (truth b) = true
  is_homogeneous (unary op e) = is_homogeneous e
  is_homogeneous (binary op d e) = is_homogeneous d && is_homogeneous e && (not (is_quotient op) || divides_alike (followed fields named d) (followed fields named e))
