use Rattle.std.proofs.Common.{[], ◌∷◌, refl, lit<}
use Rattle.fq_examples.proofs.lanes.worked_examples.Goals as goal

pub returns-clause-drive : goal.returns-clause-drive
returns-clause-drive c = record { double_due = refl; double_refused = refl; short_due = refl; short_refused = refl; far_due = refl; far_refused = refl; far_end_refused = refl }

pub returns-clause-sink : goal.returns-clause-sink
returns-clause-sink c = record {
  nothing_due = refl;
  one_due = refl;
  one_offered = refl;
  one_handed_out = refl;
  not_finished = refl;
  twice = refl;
  finished = refl;
  too_late = refl;
}

pub returns-clause-schedule : goal.returns-clause-schedule
returns-clause-schedule c = record {
  one_order = record {
    dealt = record { moves = (0, 1) ∷ []; below = (lit< tt, lit< tt, tt); is = refl };
    merged = (0, _, refl, (3, _, refl, (1, _, refl, (2, _, refl, (1, _, refl, (refl, (refl, (refl, (refl, tt)))))))));
    near = (lit< tt, (lit< tt, (lit< tt, tt)));
  };
  its_items = refl;
}
