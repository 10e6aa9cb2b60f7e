-- Rows that agree in some columns, and streams of such rows: what they have in the other columns may differ.
use Rattle.std.specs.Prelude.{◌≡◌, IsTrue, Bool, List, [], ◌∷◌, map}
use Rattle.fq_column.specs.Frame.{Fields, Name, Row, has_name, names_of}
use Rattle.fq_column.specs.Stream.{Stream}

-- a mark for each column: whether its name is one of these
abbrev pub marked : List Name → Fields → List Bool
marked names fields = map (has_name names) (names_of fields)

-- rows with a cell for each mark, which have the same cell wherever the mark is true
abbrev pub AgreeOn : List Bool → Row → Row → Type 0
AgreeOn [] [] [] = Unit {0}
AgreeOn [] [] (d ∷ other) = ⊥
AgreeOn [] (c ∷ row) other = ⊥
AgreeOn (mark ∷ marks) [] other = ⊥
AgreeOn (mark ∷ marks) (c ∷ row) [] = ⊥
AgreeOn (mark ∷ marks) (c ∷ row) (d ∷ other) = (IsTrue mark → c ≡ d) × AgreeOn marks row other

-- as many rows as others, and each agrees with its other
abbrev pub AllAgreeOn : List Bool → List Row → List Row → Type 0
AllAgreeOn marks [] [] = Unit {0}
AllAgreeOn marks [] (other ∷ others) = ⊥
AllAgreeOn marks (row ∷ rows) [] = ⊥
AllAgreeOn marks (row ∷ rows) (other ∷ others) = AgreeOn marks row other × AllAgreeOn marks rows others

-- streams of such rows, with the same end
pub record StreamsAgreeOn {F : Type 0} (marks : List Bool) (u v : Stream F) : Type 0 where
  pub rows : AllAgreeOn marks u.rows v.rows
  pub fault : u.fault ≡ v.fault
