-- Streams in a row.
use Rattle.std.proofs.Common.{◌≡◌, List, [], ◌∷◌, ◌++◌, Option, Some, None, Result, Ok, Err, refl, ap, sym, ◌∙◌, append_assoc}
use Rattle.fq_column.specs.Frame.{Row}
use Rattle.fq_column.specs.Stream.{Stream, then_stream, done, faulted, one_by_one}

module _ {F : Type 0} where
  abbrev pub stream : List Row → Option F → Stream F
  stream rows end = record { rows = rows; fault = end }

  pub then_stream-assoc : (u v w : Stream F) → then_stream (then_stream u v) w ≡ then_stream u (then_stream v w)
  then_stream-assoc u v w = assoc u.rows u.fault v.rows v.fault w
    where
      assoc : (rs : List Row) (e : Option F) (ss : List Row) (f : Option F) (w : Stream F) → then_stream (then_stream (stream rs e) (stream ss f)) w ≡ then_stream (stream rs e) (then_stream (stream ss f) w)
      assoc rs (Some e) ss f w = refl
      assoc rs None ss (Some f) w = refl
      assoc rs None ss None w = ap (λ rows. stream rows w.fault) (append_assoc rs ss w.rows)

  pub one_by_one-append : {X : Type 0} (step : X → Result (List Row) F) (xs ys : List X) → one_by_one step (xs ++ ys) ≡ then_stream (one_by_one step xs) (one_by_one step ys)
  one_by_one-append step [] ys = refl
  one_by_one-append step (x ∷ xs) ys =
      elim (step x) as (λ r. (elim r [ Ok rows ↦ then_stream (done rows) (one_by_one step (xs ++ ys)) | Err f ↦ faulted f ]) ≡ then_stream (elim r [ Ok rows ↦ then_stream (done rows) (one_by_one step xs) | Err f ↦ faulted f ]) (one_by_one step ys))
      [ Ok rows ↦ ap (then_stream (done rows)) (one_by_one-append step xs ys) ∙ sym (then_stream-assoc (done rows) (one_by_one step xs) (one_by_one step ys)) | Err f ↦ refl ]
