-- What contracts see of a schema: its names, each with its kind.
use Rattle.std.specs.Prelude.{List, [], ◌∷◌, length, zip, nat_lt, ◌==◌, not, ◌&&◌, Bool, Result, Ok, Err, Option, if◌then◌else◌}
use Rattle.fq_column.specs.declared.cells.Kind.{Kind}
use Rattle.fq_column.specs.declared.schemas.TheConstants.{MAX_COLUMNS}
use Rattle.fq_column.specs.declared.faults.StepFault.{StepFault}
use Rattle.fq_column.specs.declared.faults.StepFault.TheVariants.{NoColumn, TooMany, DoubleName, NoSuchColumn}
use Rattle.fq_column.specs.Frame.{Field, Fields, Name, same_name}
use Rattle.fq_column.specs.Cell.{same_kind}
use Rattle.fq_column.specs.Lists.{is_distinct}
use lib.Pointwise.{pointwise}
use Rattle.fq_column.specs.Refusal.{refuse_if}

-- the refusals of a list of columns, in their order
abbrev pub schema_checks : List Name → List (Option StepFault)
schema_checks names = refuse_if (length names == 0) NoColumn ∷ refuse_if (nat_lt MAX_COLUMNS (length names)) TooMany ∷ refuse_if (not (is_distinct same_name names)) DoubleName ∷ []

-- the fields of names and kinds
abbrev pub fields_of : List Name → List Kind → Fields
fields_of names kinds = zip names kinds

-- whether two schemas have the same names and kinds, in one order
abbrev pub same_field : Field → Field → Bool
same_field f g = same_name f.0 g.0 && same_kind f.1 g.1

abbrev pub same_fields : Fields → Fields → Bool
same_fields = pointwise same_field

-- the kind of a named column
abbrev pub kind_named : Fields → Name → Result Kind StepFault
kind_named [] name = Err NoSuchColumn
kind_named (f ∷ fields) name = if same_name name f.0 then Ok f.1 else kind_named fields name
