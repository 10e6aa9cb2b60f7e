use Rattle.std.proofs.Common.{◌≡◌, ◌∙◌, Some, [], drop, inr, refl, sym}
use Rattle.std.proofs.lemmas.List.{append-nil}
use Rattle.csv.specs.Reading.{strip_bom}
use Rattle.fq_csv.proofs.BufferLemmas.{mark-missing, mark-stripped}
use Rattle.fq_places.proofs.places.mark_len.Goals as goal

pub returns-then-starts_with-clause-rest : goal.returns-then-starts_with-clause-rest
returns-then-starts_with-clause-rest c =
    let bytes = c.args.bytes.now in
    let same = rw (append-nil bytes, append-nil (drop 3 bytes)) at (mark-stripped bytes (Some []) (sym c.starts_with.ensures.value ∙ c.if-starts_with.true)) in
    let rest : strip_bom bytes ≡ drop 3 bytes = cc same in
    sym rest

pub returns-else-starts_with-clause-rest : goal.returns-else-starts_with-clause-rest
returns-else-starts_with-clause-rest c =
    let bytes = c.args.bytes.now in
    let same = rw (append-nil bytes) at (mark-missing bytes (Some []) (sym c.starts_with.ensures.value ∙ c.if-starts_with.false) (inr refl)) in
    cc same
