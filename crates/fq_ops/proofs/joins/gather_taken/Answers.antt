use Rattle.std.proofs.Common.{◌≡◌, ◌⊎◌, ◌++◌, [], List, Bool, true, not, map, string_bytes, inl, inr, sym, ap, ◌∙◌, append-nil}
use Rattle.std.proofs.lemmas.Result.{IfOk-weaker}
use Rattle.fq_column.specs.Frame.{Fields, Name, has_name}
use Rattle.fq_ops.specs.Join.{taken}
use Rattle.fq_ops.specs.Pairs.{Pair, left_value, right_value}
use Rattle.fq_ops.specs.Picks.{Pick, columns_of, picks_from}
use Rattle.fq_ops.specs.declared.joins.How.{How}
use Rattle.fq_ops.specs.declared.joins.How.TheVariants.{Inner, Left, Semi, Anti}
use Rattle.fq_ops.proofs.joins.gather_taken.Goals as goal

none-taken : (how : How) (right : Fields) → (how ≡ Semi) ⊎ (how ≡ Anti) → taken how right ≡ []
none-taken how right (inl e) = ap (λ h. taken h right) e
none-taken how right (inr e) = ap (λ h. taken h right) e

all-taken : (how : How) (right : Fields) → (how ≡ Inner) ⊎ (how ≡ Left) → taken how right ≡ right
all-taken how right (inl e) = ap (λ h. taken h right) e
all-taken how right (inr e) = ap (λ h. taken h right) e

pub returns-in-Semi : goal.returns-in-Semi
returns-in-Semi c batch are =
    let left : List (Pick Pair) = picks_from (λ _. true) (left_value batch.rows) 0 batch.fields in
    let other : Name → Bool = λ n. not (has_name (map string_bytes c.args.on.now) n) in
    are ∙ ap (λ ps. columns_of ps c.args.pairs.now) (sym (append-nil left))
    ∙ ap (λ (fields : Fields). columns_of (left ++ picks_from other (right_value c.args.right.now.rows) 0 fields) c.args.pairs.now) (sym (none-taken c.args.how c.args.right.now.fields c.in-Semi.is))

pub returns-in-Inner : goal.returns-in-Inner
returns-in-Inner c =
    let other : Name → Bool = λ n. not (has_name (map string_bytes c.args.on.now) n) in
    IfOk-weaker c.gather_right.result _ _ (λ all h batch are.
    let left : List (Pick Pair) = picks_from (λ _. true) (left_value batch.rows) 0 batch.fields in
    h left are
    ∙ ap (λ (fields : Fields). columns_of (left ++ picks_from other (right_value c.args.right.now.rows) 0 fields) c.args.pairs.now) (sym (all-taken c.args.how c.args.right.now.fields c.in-Inner.is))) c.gather_right.ensures
