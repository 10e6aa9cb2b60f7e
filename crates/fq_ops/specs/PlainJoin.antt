-- An inner or a left join in which no null matches (SQL, `JOIN` and `LEFT JOIN` with `=` on the keys), which is every join of a plan of version 1.
use Rattle.std.specs.Prelude.{ℕ, Bool, true, false, not, ◌&&◌, List, [], ◌∷◌, ◌++◌, map, filter, length, replicate, if◌then◌else◌}
use lib.Pointwise.{pointwise}
use Rattle.fq_column.specs.declared.cells.Cell.TheVariants.{Null}
use Rattle.fq_column.specs.Cell.{is_null, same_cell}
use Rattle.fq_column.specs.Frame.{Fields, Name, Row, value_named}
use Rattle.fq_column.specs.Stream.{Stream}
use Rattle.fq_ops.specs.declared.joins.How.{How}
use Rattle.fq_ops.specs.declared.joins.How.TheVariants.{Inner, Left}
use Rattle.fq_ops.specs.Join.{renamed, right_values, within_room, without_keys}

-- the left columns, then the right ones without the keys
abbrev pub plain_fields : Fields → Fields → List Name → Fields
plain_fields left right on = left ++ renamed left on right

-- a left join keeps all left rows, an inner join those with a match
abbrev pub plain_how : Bool → How
plain_how keeps_all = if keeps_all then Left else Inner

module _ (left_fields right_fields : Fields) (on : List Name) where
  -- whether the keys of two rows are equal, and none is null
  abbrev pub plain_match : Row → Row → Bool
  plain_match l r = pointwise (λ a b. not (is_null a) && same_cell a b) (map (λ n. value_named left_fields n l) on) (map (λ n. value_named right_fields n r) on)

  -- the output of a left row whose matches are these
  abbrev pub plain_pairs : Bool → Row → List Row → List Row
  plain_pairs true l [] = (l ++ replicate (length (without_keys on right_fields)) Null) ∷ []
  plain_pairs false l [] = []
  plain_pairs keeps_all l (r ∷ rs) = map (λ m. l ++ right_values left_fields right_fields on m) (r ∷ rs)

  -- the join of rows, with room for so many
  abbrev pub plain_join : Bool → List Row → ℕ → List Row → Stream ℕ
  plain_join keeps_all right room left = within_room (λ l. plain_pairs keeps_all l (filter (plain_match l) right)) room left
