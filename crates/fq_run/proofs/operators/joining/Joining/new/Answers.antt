use Rattle.std.proofs.Common.{◌≡◌, ◌∙◌, List, ap, map, string_bytes, subst, sym}
use Rattle.fq_column.specs.Frame.{Name}
use Rattle.fq_ops.specs.Join.{AreKeys}
use Rattle.fq_ops.proofs.RefusalLemmas.{join-some, join-known_right, join-distinct}
use Rattle.fq_run.proofs.operators.joining.Joining.new.Goals as goal
use Rattle.fq_run.proofs.operators.joining.Joining.new.Goals.{In_ok-on}

-- the names are copied
copied : (c : In_ok-on) → map string_bytes c.in_ok-on.on.items ≡ map string_bytes c.args.join.now.on.items
copied c = c.in_ok-on.ensures ∙ ap (map string_bytes) c.as_slice.ensures.value

pub build_from-requires : goal.build_from-requires
build_from-requires c =
    let j = c.args.join.now in let fields = c.args.right.fields in let left = c.requires.0 in let ok = c.requires.1 in
    subst (λ (on : List Name). AreKeys fields on) (sym (copied c)) (record {
      some = join-some j.how left fields (map string_bytes j.on.items) ok;
      columns = join-known_right j.how left fields (map string_bytes j.on.items) ok;
      distinct = join-distinct j.how left fields (map string_bytes j.on.items) ok;
    })
