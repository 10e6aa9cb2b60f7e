use Rattle.std.proofs.Common.{◌≡◌, ℕ, List, [], length, slice_index_or, ap, sym, ◌∙◌, inl, inr}
use Rattle.fq_column.specs.declared.cells.Cell.{Cell}
use Rattle.fq_ops.specs.Grouping.{key_at}
use Rattle.fq_ops.proofs.PairLemmas.{index-more}
use Rattle.fq_ops.proofs.joins.index_rows.Goals as goal
use Rattle.fq_ops.proofs.joins.index_rows.Goals.{then-may_match+in_ok-add_place, else-may_match}

pub loop-row-preserved : goal.loop-row-preserved
loop-row-preserved c =
    let on = c.args.on.now in
    let rows = c.args.right.now.rows in
    let key : ℕ → List Cell = λ n. key_at on (slice_index_or rows n []) in
    let read = c.read.new.self.cells in
    let own : read ≡ key c.loop-row.row = c.in_ok-read.ensures.read in
    elim c.if-may_match.branch [
      | then-may_match+in_ok-add_place w ↦ record {
        size = c.in_ok-read.ensures.size;
        form = c.in_ok-read.ensures.whole ∙ c.loop-row.invariant.form ∙ sym (ap (λ s. s.is_whole) w.seen-is ∙ w.add_place.ensures.whole);
        whole = ap (λ s. s.is_whole) w.seen-is ∙ w.add_place.ensures.whole ∙ c.loop-row.invariant.whole;
        beside = ap (λ g. length g.items) w.groups-is ∙ w.in_ok-add_place.ensures.beside ∙ ap (λ s. length s.keys) (sym w.seen-is);
        index = index-more c.args.nulls_equal key c.loop-row.row read c.loop-row.seen.keys _ c.loop-row.groups.items _ own c.loop-row.invariant.index
            (inl (sym w.if-may_match.ensures, ap (λ s. s.keys) w.seen-is ∙ w.in_ok-add_place.ensures.seen, ap (λ g. g.items) w.groups-is ∙ w.in_ok-add_place.ensures.groups));
      }
      | else-may_match w ↦ record {
        size = c.in_ok-read.ensures.size;
        form = c.in_ok-read.ensures.whole ∙ c.loop-row.invariant.form ∙ sym (ap (λ s. s.is_whole) w.seen-is);
        whole = ap (λ s. s.is_whole) w.seen-is ∙ c.loop-row.invariant.whole;
        beside = ap (λ g. length g.items) w.groups-is ∙ c.loop-row.invariant.beside ∙ ap (λ s. length s.keys) (sym w.seen-is);
        index = index-more c.args.nulls_equal key c.loop-row.row read c.loop-row.seen.keys _ c.loop-row.groups.items _ own c.loop-row.invariant.index
            (inr (sym w.if-may_match.ensures, ap (λ s. s.keys) w.seen-is, ap (λ g. g.items) w.groups-is));
      }
    ]
