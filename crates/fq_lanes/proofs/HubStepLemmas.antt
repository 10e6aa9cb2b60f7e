-- The steps of the hub, on its ends of the lanes.
use Rattle.std.proofs.Common.{◌≡◌, ◌==◌, ◌⊎◌, ℕ, Bool, false, if◌then◌else◌, arith, min, inl, inr, IfSome, List, [], ◌∷◌, ◌++◌, length, set, refl, sym, subst, ap, ◌∙◌, Option, Some, None, Ok, true}
use Rattle.std.proofs.lemmas.List.{map-set}
use Rattle.std.proofs.Math.ListN.{length-set}
use Rattle.std.specs.List.{slice_get, list_all}
use Rattle.std.proofs.lemmas.Bool.{eqb-true, cases_lt}
use mathlib.Core.List.{IsPrefix}
use Rattle.fq_lanes.specs.WorkerLanes.{worker_view, worker_views}
use Rattle.fq_lanes.specs.Faults.{Precedes, fault_at, first_of}
use Rattle.fq_lanes.specs.FeedLane.{feed_view, feed_views, told_of, tolds_of}
use Rattle.fq_lanes.specs.Hub.{HandedOn, HasStopped}
use Rattle.fq_lanes.specs.Refusals.{refusal, refusal_now, Accepted}
use Rattle.fq_lanes.specs.Sink.{file_count}
use Rattle.fq_lanes.specs.HubView.{FeedView, WorkerView, Grows, WorkerGrows, told_in, end_told, Tells}
use Rattle.fq_lanes.specs.Turns.{Polls, BlamesTold, PrecedesTold, OutstandingNear, Known, InTurn, Halt, Settled}
use Rattle.fq_lanes.specs.FileWindow.{IsNear, AreNear}
use Rattle.fq_lanes.proofs.LaneLemmas.{tells_grows, get_map, get_of_map, set_cases, told_end, ended_stays, told_in_grows, tolds_same, workers_set}
use Rattle.fq_lanes.proofs.BesideLemmas.{nothing_in, get_last, get_within, get_set_same, set_same}
use Rattle.fq_lanes.proofs.TurnLemmas.{sizes, known_item, known_close, known_offer, known_halts, turn_halts, halt_on, all_at, turn_settles, near_event, near_set}
use Rattle.fq_lanes.proofs.FeedFaultLemmas.{first_precedes, first_precedes_other, precedes_itself, precedes_then}
use Rattle.fq_lanes.proofs.FileWindowLemmas.{near_accepted, near_push}
use Rattle.fq_lanes.specs.declared.worker_lanes.WorkerLanes.{WorkerLanes}
use Rattle.fq_lanes.specs.declared.events.Event.{Event}
use Rattle.fq_lanes.specs.declared.events.Event.TheVariants.{Offer, Close}
use Rattle.fq_lanes.specs.declared.faults.FeedFault.{FeedFault}
use Rattle.fq_lanes.specs.declared.faults.FeedFault.TheVariants as feed_fault
use Rattle.fq_lanes.specs.declared.faults.RunFault.{RunFault}
use Rattle.fq_lanes.specs.declared.faults.RunFault.TheVariants as run_fault
use Rattle.fq_lanes.specs.declared.feed_lane.FeedLane.{FeedLane}
use Rattle.fq_lanes.specs.declared.feed_lane.Polled.TheVariants as polled
use Rattle.fq_lanes.specs.declared.hub.Hub.{Hub}
use Rattle.fq_lanes.specs.declared.job.Job.{Job}
use Rattle.fq_lanes.specs.declared.messages.FromFeed.{FromFeed}
use Rattle.fq_lanes.specs.declared.messages.FromFeed.TheVariants.{End}
use Rattle.fq_lanes.specs.declared.messages.ToWorker.TheVariants.{Do}

module _ {X : Type 0} where
  feed_views_set : (ns : List (FeedLane X)) (f : ℕ) (n : FeedLane X) → feed_views (set ns f n) ≡ set (feed_views ns) f (feed_view n)
  feed_views_set ns f n = map-set feed_view ns f n

  feed_at : (ns : List (FeedLane X)) (f : ℕ) (n : FeedLane X) → slice_get ns f ≡ Some n → slice_get (feed_views ns) f ≡ Some (feed_view n)
  feed_at ns f n at = get_map feed_view ns f n at

  -- a feed's fault names it
  pub fault_told : (vs : List (FeedView X)) (f : ℕ) (v v' : FeedView X) (e : FeedFault) → slice_get vs f ≡ Some v → Polls v (polled.Fault e) v' → BlamesTold (told_in (set vs f v')) (fault_at e f)
  fault_told vs f v v' feed_fault.Read at told =
      (v'.told, get_map (λ (u : FeedView X). u.told) (set vs f v') f v' (get_set_same vs f v' (get_within vs f v at)), (length v.told, ap (λ l. slice_get l (length v.told)) told ∙ get_last v.told (End (Some feed_fault.Read))))
  fault_told vs f v v' feed_fault.Memory at told = tt

  -- it takes precedence over those that were told, if none was before it
  pub step_precedes : (vs : List (FeedView X)) (f : ℕ) (v v' : FeedView X) (e : FeedFault) → ((j : ℕ) (u : FeedView X) (x : FeedFault) → slice_get vs j ≡ Some u → end_told u.told ≡ Some (Some x) → ⊥)
      → slice_get vs f ≡ Some v → v'.told ≡ v.told ++ End (Some e) ∷ [] → PrecedesTold (told_in (set vs f v')) (fault_at e f)
  step_precedes vs f v v' e quiet at is j told x there end =
      let u = get_of_map (λ (u : FeedView X). u.told) (set vs f v') j told there in
      set_cases vs f j v' u.0 (Precedes (fault_at e f) (fault_at x j)) u.1
      (λ same now. subst (λ n. Precedes (fault_at e f) (fault_at x n)) (sym same)
      (by (end_told v.told) refl (ap end_told (sym is) ∙ ap (λ (w : FeedView X). end_told w.told) now ∙ ap end_told u.2 ∙ end)))
      (λ other old. absurd (quiet j u.0 x old (ap end_told u.2 ∙ end)))
    where
      by : (d : Option (Option FeedFault)) → end_told v.told ≡ d → end_told (v.told ++ End (Some e) ∷ []) ≡ Some (Some x) → Precedes (fault_at e f) (fault_at x f)
      by None none now = let same : e ≡ x = cc (told_end v.told (Some e) none).1 in subst (λ y. Precedes (fault_at e f) (fault_at y f)) same (precedes_itself (fault_at e f))
      by (Some None) ended now = let bad : ⊥ = cc (ended_stays v.told (End (Some e) ∷ []) None ended).1 in absurd bad
      by (Some (Some y)) ended now = absurd (quiet f v y at ended)

  -- a feed's fault
  pub step_blames : (ns : List (FeedLane X)) (f : ℕ) (n n' : FeedLane X) (e : FeedFault) → slice_get ns f ≡ Some n → Polls (feed_view n) (polled.Fault e) (feed_view n')
      → BlamesTold (told_in (feed_views (set ns f n'))) (fault_at e f)
  step_blames ns f n n' e at polled = subst (λ l. BlamesTold (told_in l) (fault_at e f)) (sym (feed_views_set ns f n')) (fault_told (feed_views ns) f (feed_view n) (feed_view n') e (feed_at ns f n at) polled)

module _ {X O : Type 0} where
  -- between two steps no feed has told a fault
  pub none_told : (vs : List (FeedView X)) (ds : List (WorkerView X O)) (events : List (Event O)) → Known vs ds events
      → (j : ℕ) (u : FeedView X) (x : FeedFault) → slice_get vs j ≡ Some u → end_told u.told ≡ Some (Some x) → ⊥
  none_told vs ds events known j u x at end = by u.ended (sym (known.lanes j u at).1 ∙ end)
    where
      by : (b : Bool) → (if b then Some None else None) ≡ Some (Some x) → ⊥
      by true e = cc e
      by false e = cc e

  -- so the first that does takes precedence
  pub lane_precedes : (ns : List (FeedLane X)) (ds : List (WorkerView X O)) (events : List (Event O)) (f : ℕ) (n n' : FeedLane X) (e : FeedFault) → Known (feed_views ns) ds events → slice_get ns f ≡ Some n
      → Polls (feed_view n) (polled.Fault e) (feed_view n') → PrecedesTold (told_in (feed_views (set ns f n'))) (fault_at e f)
  lane_precedes ns ds events f n n' e known at polled =
      subst (λ l. PrecedesTold (told_in l) (fault_at e f)) (sym (feed_views_set ns f n'))
      (step_precedes (feed_views ns) f (feed_view n) (feed_view n') e (none_told (feed_views ns) ds events known) (feed_at ns f n at) polled)

  workers_put : (ds : List (WorkerLanes X O)) (w : ℕ) (d : WorkerLanes X O) → worker_views (set ds w d) ≡ set (worker_views ds) w (worker_view d)
  workers_put ds w d = map-set worker_view ds w d

  worker_at : (ds : List (WorkerLanes X O)) (w : ℕ) (d : WorkerLanes X O) → slice_get ds w ≡ Some d → slice_get (worker_views ds) w ≡ Some (worker_view d)
  worker_at ds w d at = get_map worker_view ds w d at

  -- one worker's lists of jobs and answers grow
  pub worker_grows : (ds : List (WorkerLanes X O)) (w : ℕ) (d d' : WorkerLanes X O) → slice_get ds w ≡ Some d → WorkerGrows (worker_view d) (worker_view d') → Grows WorkerGrows (worker_views ds) (worker_views (set ds w d'))
  worker_grows ds w d d' at g = subst (λ l. Grows WorkerGrows (worker_views ds) l) (sym (workers_put ds w d')) (workers_set (worker_views ds) w (worker_view d) (worker_view d') (worker_at ds w d at) g)

  view_is : (d d' : WorkerView X O) → d'.jobs ≡ d.jobs → d'.answers ≡ d.answers → d'.outstanding ≡ d.outstanding → d' ≡ d
  view_is d d' js rs os =
      ap {B = WorkerView X O} (λ l. record { jobs = l; answers = d'.answers; outstanding = d'.outstanding }) js
      ∙ ap {B = WorkerView X O} (λ l. record { jobs = d.jobs; answers = l; outstanding = d'.outstanding }) rs
      ∙ ap {B = WorkerView X O} (λ l. record { jobs = d.jobs; answers = d.answers; outstanding = l }) os

module _ {X S O : Type 0} where
  -- a feed had nothing
  pub step_nothing : (takes : S → ℕ → ℕ → O → S → Type 0) (first : S) (ns : List (FeedLane X)) (ds : List (WorkerView X O)) (hub : Hub S O) (events : List (Event O)) (f : ℕ) (n n' : FeedLane X)
      → InTurn takes first (feed_views ns) ds hub events → slice_get ns f ≡ Some n → Polls (feed_view n) polled.Nothing (feed_view n') → InTurn takes first (feed_views (set ns f n')) ds hub events
  step_nothing takes first ns ds hub events f n n' t at same =
      let is : feed_views (set ns f n') ≡ feed_views ns = feed_views_set ns f n' ∙ ap (λ v. set (feed_views ns) f v) same ∙ set_same (feed_views ns) f (feed_view n) (feed_at ns f n at) in
      subst (λ l. InTurn takes first l ds hub events) (sym is) t

  -- an item went from a feed to a worker
  pub step_item : (takes : S → ℕ → ℕ → O → S → Type 0) (first : S) (ns : List (FeedLane X)) (ds : List (WorkerLanes X O)) (hub : Hub S O) (events : List (Event O)) (f s w : ℕ) (x : X) (n n' : FeedLane X) (d d' : WorkerLanes X O) (job : Job X)
      → InTurn takes first (feed_views ns) (worker_views ds) hub events → slice_get ns f ≡ Some n → Polls (feed_view n) (polled.Item s x) (feed_view n') → slice_get ds w ≡ Some d
      → job.file ≡ f → job.serial ≡ s → job.item ≡ x
      → (worker_view d').jobs ≡ (worker_view d).jobs ++ Do job ∷ [] → (worker_view d').answers ≡ (worker_view d).answers → (worker_view d').outstanding ≡ (worker_view d).outstanding ++ (job.file, job.serial) ∷ []
      → IsNear events (file_count hub.sink) f s → InTurn takes first (feed_views (set ns f n')) (worker_views (set ds w d')) hub events
  step_item takes first ns ds hub events f s w x n n' d d' job t at polled atw ef es ex js rs os near =
      let known = known_item (feed_views ns) (worker_views ds) events f s w x (feed_view n) (feed_view n') (worker_view d) (worker_view d') job t.known (feed_at ns f n at) polled (worker_at ds w d atw) ef es ex js rs os in
      let size : length (feed_views (set ns f n')) ≡ length (feed_views ns) = ap length (feed_views_set ns f n') ∙ length-set (feed_views ns) f (feed_view n') in
      let own : IsNear events (length (feed_views ns)) job.file job.serial =
      subst (λ k. IsNear events k job.file job.serial) t.files (subst (λ k. IsNear events (file_count hub.sink) k job.serial) (sym ef) (subst (λ k. IsNear events (file_count hub.sink) f k) (sym es) near)) in
      let more : AreNear events (length (feed_views ns)) (worker_view d').outstanding =
      subst (λ l. AreNear events (length (feed_views ns)) l) (sym os)
      (near_push (length (feed_views ns)) events (worker_view d).outstanding (job.file, job.serial) (t.near w (worker_view d) (worker_at ds w d atw)) own) in
      record {
        known = subst (λ l. Known l (worker_views (set ds w d')) events) (sym (feed_views_set ns f n')) (subst (λ l. Known (set (feed_views ns) f (feed_view n')) l events) (sym (workers_put ds w d')) known);
        handed = t.handed;
        files = t.files ∙ sym size;
        near = subst (λ k. OutstandingNear events k (worker_views (set ds w d'))) (sym size)
            (subst (λ l. OutstandingNear events (length (feed_views ns)) l) (sym (workers_put ds w d')) (near_set (length (feed_views ns)) (worker_views ds) events w (worker_view d') t.near more));
      }

  -- a fault: more was taken of a feed, and maybe given to a worker
  pub step_halts : (takes : S → ℕ → ℕ → O → S → Type 0) (refuses : S → S → Type 0) (first : S) (ns : List (FeedLane X)) (ds ds' : List (WorkerView X O)) (hub : Hub S O) (events : List (Event O)) (f : ℕ) (n n' : FeedLane X)
      → InTurn takes first (feed_views ns) ds hub events → slice_get ns f ≡ Some n → IsPrefix (feed_view n).told (feed_view n').told → Grows WorkerGrows ds ds'
      → Halt takes refuses first (told_in (feed_views (set ns f n'))) ds' hub.tail events
  step_halts takes refuses first ns ds ds' hub events f n n' t at more grow =
      let lanes = told_in_grows (feed_views ns) f (feed_view n) (feed_view n') (feed_at ns f n at) more in
      let size : length (told_in (set (feed_views ns) f (feed_view n'))) ≡ length (told_in (feed_views ns)) =
      (sizes (set (feed_views ns) f (feed_view n'))).0 ∙ length-set (feed_views ns) f (feed_view n') ∙ sym (sizes (feed_views ns)).0 in
      subst (λ l. Halt takes refuses first (told_in l) ds' hub.tail events) (sym (feed_views_set ns f n'))
      (halt_on takes refuses first (told_in (feed_views ns)) (told_in (set (feed_views ns) f (feed_view n'))) ds ds' hub.tail events size lanes grow (turn_halts takes refuses first (feed_views ns) ds hub events t))

  -- a feed ended, so its file may be closed
  pub step_close : (takes : S → ℕ → ℕ → O → S → Type 0) (first : S) (ns : List (FeedLane X)) (ds : List (WorkerView X O)) (hub : Hub S O) (events : List (Event O)) (f k : ℕ) (n n' : FeedLane X)
      → InTurn takes first (feed_views ns) ds hub events → slice_get ns f ≡ Some n → Polls (feed_view n) (polled.End k) (feed_view n')
      → (refusal (file_count hub.sink) events (Close f k) ≡ None) × Known (feed_views (set ns f n')) ds (events ++ Close f k ∷ []) × (file_count hub.sink ≡ length (feed_views (set ns f n')))
      × OutstandingNear events (length (feed_views (set ns f n'))) ds
  step_close takes first ns ds hub events f k n n' t at polled =
      let both = known_close (feed_views ns) ds events f k (feed_view n) (feed_view n') t.known (feed_at ns f n at) polled in (
        ap (λ m. refusal m events (Close f k)) t.files ∙ both.0,
        subst (λ l. Known l ds (events ++ Close f k ∷ [])) (sym (feed_views_set ns f n')) both.1,
        t.files ∙ sym (ap length (feed_views_set ns f n') ∙ length-set (feed_views ns) f (feed_view n')),
        subst (λ k. OutstandingNear events k ds) (sym (ap length (feed_views_set ns f n') ∙ length-set (feed_views ns) f (feed_view n'))) t.near,
      )

  -- the hub goes on after an event
  pub step_on : (takes : S → ℕ → ℕ → O → S → Type 0) (first : S) (vs : List (FeedView X)) (ds : List (WorkerView X O)) (hub hub' : Hub S O) (events : List (Event O)) (e : Event O)
      → Known vs ds (events ++ e ∷ []) → HandedOn takes first (events ++ e ∷ []) hub' → file_count hub'.sink ≡ file_count hub.sink → file_count hub.sink ≡ length vs
      → OutstandingNear events (length vs) ds → InTurn takes first vs ds hub' (events ++ e ∷ [])
  step_on takes first vs ds hub hub' events e known handed files size near = record {
    known = known;
    handed = handed;
    files = files ∙ size;
    near = near_event (length vs) ds events e (subst (λ k. Accepted k (events ++ e ∷ [])) (files ∙ size) handed.accepted.accepted) near;
  }

  -- the hub has stopped
  pub step_stops : (takes : S → ℕ → ℕ → O → S → Type 0) (refuses : S → S → Type 0) (first : S) (vs : List (FeedView X)) (ds : List (WorkerView X O)) (hub : Hub S O) (tail : S) (events : List (Event O))
      → Known vs ds events → HasStopped takes refuses first events (file_count hub.sink) tail → file_count hub.sink ≡ length vs → Halt takes refuses first (told_in vs) ds tail events
  step_stops takes refuses first vs ds hub tail events known stopped size =
      known_halts takes refuses first vs ds tail events known (subst (λ n. HasStopped takes refuses first events n tail) size stopped)

  -- a worker had nothing
  pub step_idle : (takes : S → ℕ → ℕ → O → S → Type 0) (first : S) (vs : List (FeedView X)) (ds : List (WorkerLanes X O)) (hub : Hub S O) (events : List (Event O)) (w : ℕ) (d d' : WorkerLanes X O)
      → InTurn takes first vs (worker_views ds) hub events → slice_get ds w ≡ Some d → (worker_view d').jobs ≡ (worker_view d).jobs → (worker_view d').answers ≡ (worker_view d).answers → (worker_view d').outstanding ≡ (worker_view d).outstanding
      → InTurn takes first vs (worker_views (set ds w d')) hub events
  step_idle takes first vs ds hub events w d d' t at js rs os =
      let same : worker_view d' ≡ worker_view d = view_is (worker_view d) (worker_view d') js rs os in
      let is : worker_views (set ds w d') ≡ worker_views ds = workers_put ds w d' ∙ ap (λ v. set (worker_views ds) w v) same ∙ set_same (worker_views ds) w (worker_view d) (worker_at ds w d at) in
      subst (λ l. InTurn takes first vs l hub events) (sym is) t

  -- an answer may be offered
  pub step_offer : (takes : S → ℕ → ℕ → O → S → Type 0) (first : S) (vs : List (FeedView X)) (ds : List (WorkerLanes X O)) (hub : Hub S O) (events : List (Event O)) (w : ℕ) (p : ℕ × ℕ) (o : O) (d d' : WorkerLanes X O)
      → InTurn takes first vs (worker_views ds) hub events → slice_get ds w ≡ Some d → (worker_view d').jobs ≡ (worker_view d).jobs → (worker_view d').answers ≡ (worker_view d).answers ++ Ok o ∷ [] → (worker_view d).outstanding ≡ p ∷ (worker_view d').outstanding
      → (refusal_now (file_count hub.sink) events (Offer p.0 p.1 o) ≡ None) × Known vs (worker_views (set ds w d')) (events ++ Offer p.0 p.1 o ∷ [])
      × OutstandingNear events (length vs) (worker_views (set ds w d'))
  step_offer takes first vs ds hub events w p o d d' t at js rs os =
      let both = known_offer vs (worker_views ds) events w p o (worker_view d) (worker_view d') t.known (worker_at ds w d at) js rs os in
      let near : AreNear events (length vs) (p ∷ (worker_view d').outstanding) = subst (λ l. AreNear events (length vs) l) os (t.near w (worker_view d) (worker_at ds w d at)) in (
        near_accepted (file_count hub.sink) events p.0 p.1 o (ap (λ m. refusal m events (Offer p.0 p.1 o)) t.files ∙ both.0) (subst (λ k. IsNear events k p.0 p.1) (sym t.files) near.0),
        subst (λ l. Known vs l (events ++ Offer p.0 p.1 o ∷ [])) (sym (workers_put ds w d')) both.1,
        subst (λ l. OutstandingNear events (length vs) l) (sym (workers_put ds w d')) (near_set (length vs) (worker_views ds) events w (worker_view d') t.near near.1),
      )

  -- an answer was a refusal
  pub step_fails : (takes : S → ℕ → ℕ → O → S → Type 0) (refuses : S → S → Type 0) (first : S) (vs : List (FeedView X)) (ds ds' : List (WorkerView X O)) (hub : Hub S O) (events : List (Event O))
      → InTurn takes first vs ds hub events → Grows WorkerGrows ds ds' → Halt takes refuses first (told_in vs) ds' hub.tail events
  step_fails takes refuses first vs ds ds' hub events t grow =
      halt_on takes refuses first (told_in vs) (told_in vs) ds ds' hub.tail events refl (tolds_same (told_in vs)) grow (turn_halts takes refuses first vs ds hub events t)

  -- the last turn
  pub step_settles : (takes : S → ℕ → ℕ → O → S → Type 0) (first : S) (ns : List (FeedLane X)) (ds : List (WorkerLanes X O)) (hub : Hub S O) (events : List (Event O))
      → InTurn takes first (feed_views ns) (worker_views ds) hub events → list_all (λ (n : FeedLane X). n.ended) ns ≡ true → list_all (λ (d : WorkerLanes X O). length d.outstanding.items == 0) ds ≡ true
      → Settled takes first (told_in (feed_views ns)) (worker_views ds) hub events
  step_settles takes first ns ds hub events t ended idle =
      turn_settles takes first (feed_views ns) (worker_views ds) hub events t
      (λ f v at. let n = get_of_map feed_view ns f v at in ap (λ (u : FeedView X). u.ended) (sym n.2) ∙ all_at (λ (n : FeedLane X). n.ended) ns f n.0 ended n.1)
      (λ w d at.
      let e = get_of_map worker_view ds w d at in
      let none : length e.0.outstanding.items ≡ 0 = eqb-true (length e.0.outstanding.items) 0 (all_at (λ (d : WorkerLanes X O). length d.outstanding.items == 0) ds w e.0 idle e.1) in
      ap (λ (u : WorkerView X O). u.outstanding) (sym e.2) ∙ nothing_in e.0.outstanding.items none)

module _ {X : Type 0} where
  blames_on : (messages tolds' : List (List (FromFeed X))) (fault : RunFault) → Grows IsPrefix messages tolds' → BlamesTold messages fault → BlamesTold tolds' fault
  blames_on messages tolds' run_fault.Memory g b = tt
  blames_on messages tolds' (run_fault.Read f) g (told, at, tells) = let now = g f told at in (now.0, now.1, tells_grows told now.0 (End (Some feed_fault.Read)) now.2 tells)

  -- of two faults, the one that takes precedence is one of them, or `Memory`
  first_told : (messages : List (List (FromFeed X))) (first : RunFault) (other : Option FeedFault) (f : ℕ) (told : List (FromFeed X)) → slice_get messages f ≡ Some told
      → IfSome other (λ e. Tells told (End (Some e))) → BlamesTold messages first → BlamesTold messages (first_of first other f)
  first_told messages first None f told at tells b = b
  first_told messages run_fault.Memory (Some e) f told at tells b = tt
  first_told messages (run_fault.Read h) (Some feed_fault.Memory) f told at tells b = tt
  first_told messages (run_fault.Read h) (Some feed_fault.Read) f told at tells b =
      elim (cases_lt h f) [
        | inl lt ↦ let is : min h f ≡ h = omega (arith, lt) in subst (λ n. BlamesTold messages (run_fault.Read n)) (sym is) b
        | inr le ↦ let is : min h f ≡ f = omega (arith, le) in subst (λ n. BlamesTold messages (run_fault.Read n)) (sym is) (told, at, tells)
      ]

  pub drain_grows : (ns : List (FeedLane X)) (f : ℕ) (n n' : FeedLane X) → slice_get ns f ≡ Some n → IsPrefix (feed_view n).told (feed_view n').told → Grows IsPrefix (told_in (feed_views ns)) (told_in (feed_views (set ns f n')))
  drain_grows ns f n n' at more = subst (λ l. Grows IsPrefix (told_in (feed_views ns)) (told_in l)) (sym (feed_views_set ns f n')) (told_in_grows (feed_views ns) f (feed_view n) (feed_view n') (feed_at ns f n at) more)

  pub drain_blames : (ns : List (FeedLane X)) (f : ℕ) (n n' : FeedLane X) (first : RunFault) (other : Option FeedFault) → slice_get ns f ≡ Some n → IsPrefix (feed_view n).told (feed_view n').told
      → IfSome other (λ e. Tells (feed_view n').told (End (Some e))) → BlamesTold (told_in (feed_views ns)) first → BlamesTold (told_in (feed_views (set ns f n'))) (first_of first other f)
  drain_blames ns f n n' first other at more tells b =
      let there = get_map (λ (u : FeedView X). u.told) (feed_views (set ns f n')) f (feed_view n') (feed_at (set ns f n') f n' (get_set_same ns f n' (get_within ns f n at))) in
      first_told (told_in (feed_views (set ns f n'))) first other f (feed_view n').told there tells
      (blames_on (told_in (feed_views ns)) (told_in (feed_views (set ns f n'))) first (drain_grows ns f n n' at more) b)

  -- what a drained feed told is as first as what was told before, or it is the other fault
  pub drain_precedes : (ns : List (FeedLane X)) (f : ℕ) (n n' : FeedLane X) (first : RunFault) (other : Option FeedFault) → slice_get ns f ≡ Some n
      → ((e : FeedFault) → end_told (told_of n') ≡ Some (Some e) → (end_told (told_of n) ≡ Some (Some e)) ⊎ (other ≡ Some e))
      → PrecedesTold (told_in (feed_views ns)) first → PrecedesTold (told_in (feed_views (set ns f n'))) (first_of first other f)
  drain_precedes ns f n n' first other at tells p j told e there end =
      let u = get_of_map (λ (u : FeedView X). u.told) (feed_views (set ns f n')) j told there in
      let m = get_of_map feed_view (set ns f n') j u.0 u.1 in
      let told-is : told_of m.0 ≡ told = ap (λ (u : FeedView X). u.told) m.2 ∙ u.2 in
      let goes_on : Precedes first (fault_at e j) → Precedes (first_of first other f) (fault_at e j) = precedes_then (first_of first other f) first (fault_at e j) (first_precedes first other f) in
      set_cases ns f j n' m.0 (Precedes (first_of first other f) (fault_at e j)) m.1
      (λ same now. elim (tells e (ap (λ (l : FeedLane X). end_told (told_of l)) now ∙ ap end_told told-is ∙ end)) [
        | inl old ↦ goes_on (p j (told_of n) e (subst (λ i. slice_get (told_in (feed_views ns)) i ≡ Some (told_of n)) (sym same) (told_at ns f n at)) old)
        | inr new ↦ subst (λ i. Precedes (first_of first other f) (fault_at e i)) (sym same) (subst (λ o. IfSome o (λ x. Precedes (first_of first other f) (fault_at x f))) new (first_precedes_other first other f))
      ])
      (λ apart old. goes_on (p j told e (told_at ns j m.0 old ∙ ap Some told-is) end))
    where
      told_at : (ns : List (FeedLane X)) (i : ℕ) (n : FeedLane X) → slice_get ns i ≡ Some n → slice_get (told_in (feed_views ns)) i ≡ Some (told_of n)
      told_at ns i n at = get_map (λ (u : FeedView X). u.told) (feed_views ns) i (feed_view n) (get_map feed_view ns i n at)

  pub tolds_feed_views : (ns : List (FeedLane X)) → told_in (feed_views ns) ≡ tolds_of ns
  tolds_feed_views [] = refl
  tolds_feed_views (n ∷ ns) = ap (λ l. told_of n ∷ l) (tolds_feed_views ns)
