use Rattle.std.proofs.Common.{◌≡◌, ◌++◌, ◌∷◌, [], List, ℕ, map, length, ap, sym, subst, ◌∙◌, arith, ◌+◌, ◌<◌}
use Rattle.std.specs.Option.{option_to_list}
use mathlib.Core.List.{IsPrefix}
use Rattle.std.proofs.lemmas.Iterator.Adapters.{YieldsList-from_vec}
use Rattle.std.proofs.lemmas.Iterator.Consumers.{YieldsList-turn, YieldsList-end, YieldsList-from_enumerate}
use Rattle.std.proofs.lemmas.List.FromFn.{get_or-enumerate_from, length-enumerate_from}
use Rattle.fq_lanes.specs.Due.{due}
use Rattle.fq_lanes.specs.Refusals.{refusal_now, refusal_at, after, refused_one, accepted_of, refused_of, Accepted}
use Rattle.fq_lanes.specs.Sink.{SinkFacts, file_count}
use Rattle.fq_lanes.specs.declared.events.Event.{Event}
use Rattle.fq_lanes.proofs.DueLemmas.{due_after, events_push, events_length, events_same, accepted_of_push, refused_of_push}
use Rattle.fq_lanes.proofs.driver.drive.Goals as goal

pub loop-number-preserved : goal.loop-number-preserved
loop-number-preserved g c =
    let turn = YieldsList-turn (YieldsList-from_enumerate (YieldsList-from_vec c.args.events.items (cc) (cc)) (cc)) c.loop-number.yielded c.loop-number.number-iterator c.loop-number.yielded_by
    c.next.result c.next.new.self (c.in-Some.number, c.in-Some.event) c.in-Some.is c.next.ensures.steps in
    let within : length c.loop-number.yielded < length c.args.events.items = let size = length-enumerate_from 0 c.args.events.items in omega (arith, size, turn.0) in
    let place = get_or-enumerate_from 0 c.args.events.items (length c.loop-number.yielded) (c.in-Some.number, c.in-Some.event) within in
    let es : List (Event g.row.T.Denot) = map {A = ℕ × Event g.row.T.Denot} {B = Event g.row.T.Denot} (λ p. p.1) c.loop-number.yielded in
    let number : 0 + length es ≡ c.in-Some.number =
    let size : length es ≡ length c.loop-number.yielded = events_length c.loop-number.yielded in
    let at : c.in-Some.number ≡ 0 + length c.loop-number.yielded = ap (λ p. p.0) turn.1 ∙ ap (λ p. p.0) place in
    omega (arith, size, at) in
    let before : List (Event g.row.T.Denot) = accepted_of c.args.files [] es in
    let now : List (Event g.row.T.Denot) = after (refusal_now c.args.files before c.in-Some.event) before c.in-Some.event in
    let push : map {A = ℕ × Event g.row.T.Denot} {B = Event g.row.T.Denot} (λ p. p.1) (c.loop-number.yielded ++ (c.in-Some.number, c.in-Some.event) ∷ []) ≡ es ++ c.in-Some.event ∷ [] =
    events_push c.loop-number.yielded c.in-Some.number c.in-Some.event in
    let files : file_count c.loop-number.sink ≡ c.args.files = c.loop-number.invariant.0 in
    let told_files : file_count c.tell-refusal.new.sink ≡ c.args.files = c.tell-refusal.ensures.files ∙ files in
    let size : length c.loop-number.taken.items ≡ length (due before c.args.files) = ap length c.loop-number.invariant.2 in
    let step = subst (λ t. SinkFacts c.tell-refusal.new.sink.files.items c.tell-refusal.new.sink.at (after (refusal_at c.args.files before t c.in-Some.event) before c.in-Some.event) (length c.loop-number.taken.items)
    × (option_to_list c.tell-refusal.result ≡ refused_one (refusal_at c.args.files before t c.in-Some.event) c.in-Some.number c.in-Some.event)) size
    (subst (λ n. SinkFacts c.tell-refusal.new.sink.files.items c.tell-refusal.new.sink.at (after (refusal_at n before (length c.loop-number.taken.items) c.in-Some.event) before c.in-Some.event) (length c.loop-number.taken.items)
    × (option_to_list c.tell-refusal.result ≡ refused_one (refusal_at n before (length c.loop-number.taken.items) c.in-Some.event) c.in-Some.number c.in-Some.event)) files
    (c.tell-refusal.ensures.holds before (length c.loop-number.taken.items) c.loop-number.invariant.1)) in
    let begins : IsPrefix (due before c.args.files) (due now c.args.files) =
    due_after c.args.files (refusal_now c.args.files before c.in-Some.event) before c.in-Some.event (subst (λ n. Accepted n now) told_files step.0.accepted) in
    let front : IsPrefix c.loop-number.taken.items (due now (file_count c.tell-refusal.new.sink)) =
    subst (λ n. IsPrefix c.loop-number.taken.items (due now n)) (sym told_files) (subst (λ l. IsPrefix l (due now c.args.files)) (sym c.loop-number.invariant.2) begins) in
    let out = c.in_ok-drain.ensures.holds now step.0 front in
    let is : accepted_of c.args.files [] (map {A = ℕ × Event g.row.T.Denot} {B = Event g.row.T.Denot} (λ p. p.1) (c.loop-number.yielded ++ (c.in-Some.number, c.in-Some.event) ∷ [])) ≡ now =
    ap (λ l. accepted_of c.args.files [] l) push ∙ accepted_of_push c.args.files [] es c.in-Some.event in
    let noted : refused_of c.args.files 0 [] (map {A = ℕ × Event g.row.T.Denot} {B = Event g.row.T.Denot} (λ p. p.1) (c.loop-number.yielded ++ (c.in-Some.number, c.in-Some.event) ∷ []))
    ≡ refused_of c.args.files 0 [] es ++ refused_one (refusal_now c.args.files before c.in-Some.event) c.in-Some.number c.in-Some.event =
    ap (λ l. refused_of c.args.files 0 [] l) push ∙ refused_of_push c.args.files 0 [] es c.in-Some.event
    ∙ ap (λ n. refused_of c.args.files 0 [] es ++ refused_one (refusal_now c.args.files before c.in-Some.event) n c.in-Some.event) number in (
      c.in_ok-drain.ensures.files ∙ told_files,
      subst (λ l. SinkFacts c.drain.new.sink.files.items c.drain.new.sink.at l (length c.drain.new.taken.items)) (sym is) out.0,
      out.1 ∙ ap (λ n. due now n) told_files ∙ ap (λ l. due l c.args.files) (sym is),
      c.in_ok-note.ensures ∙ ap (λ l. l ++ option_to_list c.tell-refusal.result) c.loop-number.invariant.3 ∙ ap (λ l. refused_of c.args.files 0 [] es ++ l) step.1 ∙ sym noted,
    )

pub returns-clause-taken : goal.returns-clause-taken
returns-clause-taken g c =
    let all = YieldsList-end (YieldsList-from_enumerate (YieldsList-from_vec c.args.events.items (cc) (cc)) (cc)) c.loop-number.yielded c.loop-number.number-iterator c.loop-number.yielded_by
    c.next.result c.next.new.self c.in-None.is c.next.ensures.steps in
    let es : map {A = ℕ × Event g.row.T.Denot} {B = Event g.row.T.Denot} (λ p. p.1) c.loop-number.yielded ≡ c.args.events.items = events_same c.loop-number.yielded c.args.events.items all.0 in
    c.loop-number.invariant.2 ∙ ap (λ l. due (accepted_of c.args.files [] l) c.args.files) es

pub returns-clause-refused : goal.returns-clause-refused
returns-clause-refused g c =
    let all = YieldsList-end (YieldsList-from_enumerate (YieldsList-from_vec c.args.events.items (cc) (cc)) (cc)) c.loop-number.yielded c.loop-number.number-iterator c.loop-number.yielded_by
    c.next.result c.next.new.self c.in-None.is c.next.ensures.steps in
    let es : map {A = ℕ × Event g.row.T.Denot} {B = Event g.row.T.Denot} (λ p. p.1) c.loop-number.yielded ≡ c.args.events.items = events_same c.loop-number.yielded c.args.events.items all.0 in
    c.loop-number.invariant.3 ∙ ap (λ l. refused_of c.args.files 0 [] l) es
