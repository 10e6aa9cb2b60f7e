use Rattle.std.proofs.Common.{◌≡◌, ◌∙◌, sym, not, Bool, true, false, refl}
use Rattle.fq_column.specs.Batch.{height_of}
use Rattle.fq_column.proofs.BatchLemmas.{kinds-pass, lengths-pass}
use Rattle.fq_column.proofs.batches.fault_of.Goals as goal

turned : (b : Bool) → false ≡ not b → b ≡ true
turned true e = refl
turned false e = cc

pub returns-clause-none : goal.returns-clause-none
returns-clause-none c = let cs = c.args.columns.now in record {
  schema = c.len.ensures.schema;
  kinds = kinds-pass c.args.schema.now cs (turned _ (sym c.if-kinds_differ.false ∙ c.kinds_differ.ensures));
  lengths = lengths-pass (height_of cs) cs (turned _ (sym c.if-lengths_differ.false ∙ c.lengths_differ.ensures.lengths));
  cells = c.if-lengths_differ.ensures.kinds;
}
