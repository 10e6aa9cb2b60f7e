use Rattle.std.proofs.Common.{◌≡◌, Bool, true, false, List, [], ◌∷◌, filter, refl}
use Rattle.fq_column.specs.Frame.{Fields, Name, Row}
use Rattle.fq_ops.specs.Join.{joined, pairs, within_room}
use Rattle.fq_ops.specs.PlainJoin.{plain_how, plain_match, plain_pairs}
use Rattle.fq_ops.proofs.JoinLemmas.{within-parts}
use Rattle.fq_ops.proofs.RefusalLemmas.{join-some, join-known_right, join-distinct, join-output}
use Rattle.fq_ops.proofs.joins.join_laws.Goals as goal

pub returns-clause-keys : goal.returns-clause-keys
returns-clause-keys c how left right on ok = record { some = join-some how left right on ok; columns = join-known_right how left right on ok; distinct = join-distinct how left right on ok }

pub returns-clause-fields : goal.returns-clause-fields
returns-clause-fields c = join-output

pub returns-clause-parts : goal.returns-clause-parts
returns-clause-parts c how nulls_equal left right on rows room ls more = within-parts (joined left right on how nulls_equal rows) room ls more

pub returns-clause-plain_columns : goal.returns-clause-plain_columns
returns-clause-plain_columns c true left right on = refl
returns-clause-plain_columns c false left right on = refl

module _ (left right : Fields) (on : List Name) where
  same-pairs : (keeps_all : Bool) (l : Row) (matches : List Row) → pairs left right on (plain_how keeps_all) l matches ≡ plain_pairs left right on keeps_all l matches
  same-pairs true l [] = refl
  same-pairs false l [] = refl
  same-pairs true l (r ∷ rs) = refl
  same-pairs false l (r ∷ rs) = refl

pub returns-clause-plain_rows : goal.returns-clause-plain_rows
returns-clause-plain_rows c keeps_all left right on rows room ls = λ i. within_room (λ l. same-pairs left right on keeps_all l (filter (plain_match left right on l) rows) i) room ls
