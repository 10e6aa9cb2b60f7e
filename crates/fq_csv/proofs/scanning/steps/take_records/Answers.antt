use Rattle.std.proofs.Common.{◌≡◌, ◌<◌, ◌≤◌, ◌+◌, arith, sym}
use Rattle.fq_csv.specs.Records.{Takes}
use Rattle.fq_csv.proofs.TakingLemmas.{reads-full, reads-last, reads-limit}
use Rattle.fq_csv.proofs.scanning.steps.take_records.Goals as goal
use Rattle.fq_csv.proofs.scanning.steps.take_records.Goals.{then-count-span, else-count-span+then-count-wanted, else-count-span+else-count-wanted+in_ok-stage}

pub returns-clause-records : goal.returns-clause-records
returns-clause-records g c =
    let span = c.args.span in
    let old = c.args.records.now in
    let mid = c.take.new.self in
    let count = c.in_ok-text.count in
    let wanted = c.min-wanted.result in
    let least = c.min-wanted.ensures in
    let takes : Takes old wanted c.in_ok-text.text count mid = c.in_ok-text.ensures.taken in
    let room : span.from + count ≤ span.limit = omega (arith, takes.few, least, span.in_limit) in
    elim c.if-count-span.branch [
      | then-count-span w ↦ rw (w.records-is, w.stage-is) (reads-full span old mid c.in_ok-text.text wanted count takes room w.if-count-span.true)
      | else-count-span+then-count-wanted w ↦
          let fewer : count < span.size = omega (arith, w.if-count-wanted.true, least) in
          rw (w.records-is, w.stage-is) (reads-last span old mid c.in_ok-text.text wanted count takes room mid w.if-count-wanted.true fewer)
      | else-count-span+else-count-wanted+in_ok-stage w ↦
          let fewer : count < span.size = omega (arith, takes.few, w.if-count-span.false, least) in
          let full : span.from + count ≡ span.limit = omega (arith, takes.few, w.if-count-wanted.false, w.if-count-span.false, least, span.in_limit) in
          rw (w.records-is, w.stage-is) (reads-limit span old mid c.in_ok-text.text wanted count takes room w.at_limit.new.records w.in_ok-stage.stage (sym c.in_ok-text.ensures.file) full fewer w.in_ok-stage.ensures.ends)
    ]
