-- The answers of a round are offered.
use Rattle.std.proofs.Common.{◌≡◌, ℕ, List, [], ◌∷◌, ◌++◌, length, refl, sym, subst, ap, ◌∙◌, arith, Some, None, Ok, IfOk}
use Rattle.std.proofs.lemmas.Result.{IfOk-weaker, IfOk-at_ok}
use Rattle.fq_lanes.specs.Due.{close_at}
use Rattle.fq_lanes.specs.Refusals.{refusal_now, Accepted}
use Rattle.fq_lanes.specs.Beside.{Each}
use Rattle.fq_lanes.specs.Numbering.{item_at}
use Rattle.fq_lanes.specs.Ledger.{times, Books, OffersWorked}
use Rattle.fq_lanes.specs.Round.{job_numbers, answer_numbers, AreItems, Answers, AreWorked}
use Rattle.fq_lanes.specs.FileWindow.{AreNear}
use Rattle.fq_lanes.proofs.EventLemmas.{or_else_none, close_at_append}
use Rattle.fq_lanes.proofs.LedgerLemmas.{one_self, books_offer, offers_more}
use Rattle.fq_lanes.proofs.SinkLemmas.{accepted_more}
use Rattle.fq_lanes.proofs.FileWindowLemmas.{near_accepted, near_on, due_count_grows}
use Rattle.fq_lanes.specs.declared.events.Event.{Event}
use Rattle.fq_lanes.specs.declared.events.Event.TheVariants.{Offer}
use Rattle.fq_lanes.specs.declared.job.Job.{Job}
use Rattle.fq_lanes.specs.declared.job.Answer.{Answer}

module _ {X O : Type 0} where
  answer_works : (works : ℕ → X → O → Type 0) (items : List (List X)) (j : Job X) (a : Answer O) → Answers works j a → item_at items j.file j.serial ≡ Some j.item
      → IfOk a.outcome (λ o. (x : X) × (item_at items a.file a.serial ≡ Some x) × works a.file x o)
  answer_works works items j a (file, serial, h) at =
      IfOk-weaker a.outcome (λ o. works j.file j.item o) (λ o. (x : X) × (item_at items a.file a.serial ≡ Some x) × works a.file x o)
      (λ o w. (j.item, ap (λ n. item_at items n a.serial) file ∙ ap (item_at items j.file) serial ∙ at, subst (λ n. works n j.item o) (sym file) w)) h

  -- the answers to jobs that are items are the work on these items, under the jobs' numbers
  pub answers_work : (works : ℕ → X → O → Type 0) (items : List (List X)) (jobs : List (Job X)) (answers : List (Answer O))
      → Each (Answers works) jobs answers → AreItems items jobs → AreWorked works items answers × (answer_numbers answers ≡ job_numbers jobs)
  answers_work works items [] [] h k = (tt, refl)
  answers_work works items [] (a ∷ answers) h k = absurd h
  answers_work works items (j ∷ jobs) [] h k = absurd h
  answers_work works items (j ∷ jobs) (a ∷ answers) h k =
      let rest = answers_work works items jobs answers h.1 k.1 in (
        (answer_works works items j a h.0 k.0, rest.0),
        ap (λ n. (n, a.serial) ∷ answer_numbers answers) h.0.0 ∙ ap (λ n. (j.file, n) ∷ answer_numbers answers) h.0.1 ∙ ap (λ l. (j.file, j.serial) ∷ l) rest.1,
      )

  -- the next answer is offered
  pub answer_offer : (works : ℕ → X → O → Type 0) (items : List (List X)) (events : List (Event O)) (a : Answer O) (rest : List (Answer O)) (o : O)
      → a.outcome ≡ Ok o → Books items (λ f s. times f s (answer_numbers (a ∷ rest))) events → OffersWorked works items events → AreWorked works items (a ∷ rest)
      → Accepted (length items) events → AreNear events (length items) (answer_numbers (a ∷ rest))
      → (refusal_now (length items) events (Offer a.file a.serial o) ≡ None)
      × Books items (λ f s. times f s (answer_numbers rest)) (events ++ Offer a.file a.serial o ∷ [])
      × OffersWorked works items (events ++ Offer a.file a.serial o ∷ [])
      × ((f : ℕ) → close_at (events ++ Offer a.file a.serial o ∷ []) f ≡ close_at events f)
      × AreWorked works items rest
      × AreNear (events ++ Offer a.file a.serial o ∷ []) (length items) (answer_numbers rest)
  answer_offer works items events a rest o is books offers works_all accepted near =
      let one = one_self a.file a.serial in
      let all = books_offer items (λ f s. times f s (answer_numbers (a ∷ rest))) (λ f s. times f s (answer_numbers rest)) events a.file a.serial o books (omega (arith, one)) (λ g r. omega arith) in
      let work = IfOk-at_ok (λ o. (x : X) × (item_at items a.file a.serial ≡ Some x) × works a.file x o) is works_all.0 in (
        near_accepted (length items) events a.file a.serial o all.0 near.0,
        all.1,
        offers_more works items events a.file a.serial work.0 o offers work.1 work.2,
        (λ f. close_at_append events (Offer a.file a.serial o ∷ []) f ∙ or_else_none (close_at events f)),
        works_all.1,
        near_on (length items) events (events ++ Offer a.file a.serial o ∷ []) (answer_numbers rest)
            (λ f. due_count_grows (length items) events (Offer a.file a.serial o) f (accepted_more (length items) [] events (Offer a.file a.serial o) accepted all.0)) near.1,
      )
