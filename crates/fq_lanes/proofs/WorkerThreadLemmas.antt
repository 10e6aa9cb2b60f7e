-- Lemmas on jobs and answers.
use Rattle.std.proofs.Common.{◌≡◌, ℕ, List, [], ◌∷◌, ◌++◌, length, arith, Result, Ok, Err, refl, sym, ap, inl, inr, IfOk}
use Rattle.fq_lanes.specs.declared.faults.Memory.{Memory}
use Rattle.fq_lanes.specs.declared.job.Job.{Job}
use Rattle.fq_lanes.specs.declared.messages.ToWorker.{ToWorker}
use Rattle.fq_lanes.specs.declared.messages.ToWorker.TheVariants.{Do, Stop}
use Rattle.fq_lanes.specs.WorkerThread.{Replied, Waits, Has}

module _ {X O : Type 0} where
  -- more jobs
  pub replied_ahead : (gives : ℕ → X → O → Type 0) (os more : List (ToWorker X)) (rs : List (Result O Memory)) → Replied gives os rs → Replied gives (os ++ more) rs
  replied_ahead gives [] [] [] h = tt
  replied_ahead gives [] (o ∷ more) [] h = tt
  replied_ahead gives [] more (r ∷ rs) h = absurd h
  replied_ahead gives (o ∷ os) more [] h = tt
  replied_ahead gives (Do job ∷ os) more (r ∷ rs) h = (h.0, replied_ahead gives os more rs h.1)
  replied_ahead gives (Stop ∷ os) more (r ∷ rs) h = absurd h

  -- fewer answers
  pub replied_before : (gives : ℕ → X → O → Type 0) (os : List (ToWorker X)) (rs more : List (Result O Memory)) → Replied gives os (rs ++ more) → Replied gives os rs
  replied_before gives [] [] more h = tt
  replied_before gives (o ∷ os) [] more h = tt
  replied_before gives [] (r ∷ rs) more h = absurd h
  replied_before gives (Do job ∷ os) (r ∷ rs) more h = (h.0, replied_before gives os rs more h.1)
  replied_before gives (Stop ∷ os) (r ∷ rs) more h = absurd h

  -- one job and its answer
  pub replied_both : (gives : ℕ → X → O → Type 0) (os : List (ToWorker X)) (job : Job X) (rs : List (Result O Memory)) (r : Result O Memory)
      → Replied gives os rs → length os ≡ length rs → IfOk r (λ out. gives job.file job.item out) → Replied gives (os ++ Do job ∷ []) (rs ++ r ∷ [])
  replied_both gives [] job [] r h e a = (a, tt)
  replied_both gives [] job (s ∷ rs) r h e a = absurd h
  replied_both gives (o ∷ os) job [] r h e a = absurd (omega arith)
  replied_both gives (Do first ∷ os) job (s ∷ rs) r h e a = (h.0, replied_both gives os job rs r h.1 (omega arith) a)
  replied_both gives (Stop ∷ os) job (s ∷ rs) r h e a = absurd h

module _ {X O : Type 0} where
  -- a job is given
  pub waits_more : (os : List (ToWorker X)) (rs : List (Result O Memory)) (ps : List (ℕ × ℕ)) (job : Job X)
      → Waits os rs ps → Waits (os ++ Do job ∷ []) rs (ps ++ (job.file, job.serial) ∷ [])
  waits_more [] [] [] job h = (refl, tt)
  waits_more [] [] (p ∷ ps) job h = absurd h
  waits_more [] (a ∷ xs) ps job h = absurd h
  waits_more (Stop ∷ os) xs ps job h = absurd h
  waits_more (Do first ∷ os) [] [] job h = absurd h
  waits_more (Do first ∷ os) [] (p ∷ ps) job h = (h.0, waits_more os [] ps job h.1)
  waits_more (Do first ∷ os) (a ∷ xs) ps job h = waits_more os xs ps job h

  -- the oldest waiting job has its answer
  pub waits_less : (os : List (ToWorker X)) (rs : List (Result O Memory)) (p : ℕ × ℕ) (ps : List (ℕ × ℕ)) (r : Result O Memory)
      → Waits os rs (p ∷ ps)
      → Waits os (rs ++ r ∷ []) ps × ((job : Job X) × (job.file ≡ p.0) × (job.serial ≡ p.1) × IfOk r (λ o. Has os (rs ++ r ∷ []) job o))
  waits_less [] [] p ps r h = absurd h
  waits_less [] (a ∷ xs) p ps r h = absurd h
  waits_less (Stop ∷ os) xs p ps r h = absurd h
  waits_less (Do first ∷ os) [] p ps (Ok o) h = (h.1, (first, ap (λ q. q.0) (sym h.0), ap (λ q. q.1) (sym h.0), inl (refl, refl)))
  waits_less (Do first ∷ os) [] p ps (Err e) h = (h.1, (first, ap (λ q. q.0) (sym h.0), ap (λ q. q.1) (sym h.0), tt))
  waits_less (Do first ∷ os) (a ∷ xs) p ps (Ok o) h =
      let rest = waits_less os xs p ps (Ok o) h in (rest.0, (rest.1.0, rest.1.1, rest.1.2, inr rest.1.3))
  waits_less (Do first ∷ os) (a ∷ xs) p ps (Err e) h =
      let rest = waits_less os xs p ps (Err e) h in (rest.0, (rest.1.0, rest.1.1, rest.1.2, tt))

  -- a stop is not a job
  pub replied_unstopped : (gives : ℕ → X → O → Type 0) (os : List (ToWorker X)) (rs : List (Result O Memory)) → Replied gives (os ++ Stop ∷ []) rs → Replied gives os rs
  replied_unstopped gives [] [] h = tt
  replied_unstopped gives [] (r ∷ rs) h = absurd h
  replied_unstopped gives (o ∷ os) [] h = tt
  replied_unstopped gives (Do job ∷ os) (r ∷ rs) h = (h.0, replied_unstopped gives os rs h.1)
  replied_unstopped gives (Stop ∷ os) (r ∷ rs) h = absurd h
