use Rattle.std.proofs.Common.{sym, ◌∙◌, arith}
use Rattle.fq_column.specs.declared.cells.Kind.TheVariants.{Whole}
use Rattle.fq_ops.proofs.RefusalLemmas.{put_named-length, put_named-longer}
use Rattle.fq_ops.proofs.output_schemas.put_len.Goals as goal

pub returns-in-Some : goal.returns-in-Some
returns-in-Some c = c.len.ensures.len ∙ sym (put_named-length c.args.schema.now c.args.name.now Whole _ (sym c.in-Some.ensures))

pub returns-in-None : goal.returns-in-None
returns-in-None c = omega (arith, c.len-in-None.ensures.len, put_named-longer c.args.schema.now c.args.name.now Whole (sym c.in-None.ensures))
