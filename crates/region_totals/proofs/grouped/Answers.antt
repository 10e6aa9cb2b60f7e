use Rattle.std.proofs.Common.{◌++◌, [], ◌∙◌, refl}
use Rattle.fq_csv.proofs.FrameLemmas.{joined-more}
use Rattle.fq_csv.specs.Stage.{without}
use Rattle.region_totals.proofs.TotalsLemmas.{totals-none}
use Rattle.region_totals.proofs.grouped.Goals as goal

pub batches-init : goal.batches-init
batches-init g c = record {
  layout = refl;
  fields = refl;
  stream = λ u e. ([], u, e, refl, totals-none c.args.front.now c.args.grouper c.requires.empty);
}

pub batches-preserved : goal.batches-preserved
batches-preserved g c =
    let inv = c.batches.invariant in
    record {
      layout = c.in-Batch.ensures.form.same.layout ∙ inv.layout;
      fields = c.in_ok-add_batch-in-Batch.ensures.columns ∙ inv.fields;
      stream = λ u e.
          let r = inv.stream u e in
          let s = c.in-Batch.ensures.stream r.1 r.2 in
          let size = c.batches.scanner.batch_size in (
            r.0 ++ c.in-Batch.batch.rows,
            without size r.1,
            s.1,
            r.3 ∙ joined-more r.0 c.in-Batch.batch.rows (r.0 ++ c.in-Batch.batch.rows) size r.1 s.0 refl,
            c.in_ok-add_batch-in-Batch.ensures.taken r.0 r.4,
          );
    }
