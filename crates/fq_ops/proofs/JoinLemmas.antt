-- A join by places is the join.
use Rattle.std.proofs.Common.{◌≡◌, ℕ, suc, ◌+◌, ◌-◌, ◌<◌, Bool, true, false, List, [], ◌∷◌, ◌++◌, map, filter, drop, length, append-nil, get_or, nat_le, Option, Some, None, is_some, refl, sym, ap, ◌∙◌, cond, if◌then◌else◌, arith, length-append, append_assoc}
use Rattle.std.specs.Option.{option_map}
use Rattle.std.specs.List.{range_with_len}
use Rattle.std.proofs.lemmas.List.{drop-map, get_or-drop, length-drop, length-map, map-append}
use Rattle.std.proofs.lemmas.List.FromFn.{fill_by_all}
use Rattle.fq_column.specs.Frame.{Fields, Name, Row}
use Rattle.fq_column.specs.Lists.{numbers}
use Rattle.fq_column.specs.Stream.{Stream, done, faulted, then_stream, rename_fault}
use Rattle.fq_ops.specs.Join.{within_room, join_rows, joined, pairs, rows_match, right_values}
use Rattle.fq_ops.specs.declared.joins.How.{How}
use Rattle.fq_ops.specs.declared.joins.How.TheVariants.{Inner, Left, Semi, Anti}
use Rattle.fq_ops.specs.Pairs.{Pair, pairs_of, pairs_within, matches_of, pair_row, named_key}
use Rattle.fq_ops.specs.Probing.{pairs_from}
use Rattle.fq_ops.specs.declared.probes.Cursor.{Cursor}

map-filter : {X Y : Type 0} (f : X → Y) (p : Y → Bool) (xs : List X) → filter p (map f xs) ≡ map f (filter (λ x. p (f x)) xs)
map-filter f p [] = refl
map-filter f p (x ∷ xs) = by (p (f x)) refl (map-filter f p xs)
  where
    by : (b : Bool) → p (f x) ≡ b → filter p (map f xs) ≡ map f (filter (λ x. p (f x)) xs) → filter p (map f (x ∷ xs)) ≡ map f (filter (λ x. p (f x)) (x ∷ xs))
    by true e h = ap (λ b. cond b (f x ∷ filter p (map f xs)) (filter p (map f xs))) e ∙ ap (λ l. f x ∷ l) h ∙ sym (ap (λ b. map f (cond b (x ∷ filter (λ x. p (f x)) xs) (filter (λ x. p (f x)) xs))) e)
    by false e h = ap (λ b. cond b (f x ∷ filter p (map f xs)) (filter p (map f xs))) e ∙ h ∙ sym (ap (λ b. map f (cond b (x ∷ filter (λ x. p (f x)) xs) (filter (λ x. p (f x)) xs))) e)

-- a filter by places
filter-places : {X : Type 0} (p : X → Bool) (xs : List X) (d : X) → filter p xs ≡ map (λ n. get_or xs n d) (filter (λ n. p (get_or xs n d)) (numbers (length xs)))
filter-places p xs d = ap (filter p) (fill_by_all (λ n. get_or xs n d) xs (length xs) d refl (λ k low. refl)) ∙ map-filter (λ n. get_or xs n d) p (numbers (length xs))

module _ (left right : Fields) (on : List Name) (rows ls : List Row) where
  pairs-rows : (l : ℕ) (ms : List ℕ) → map (λ r. get_or ls l [] ++ right_values left right on r) (map (λ n. get_or rows n []) ms) ≡ map (pair_row Inner left right on rows ls) (map (λ r. (l, Some r)) ms)
  pairs-rows l [] = refl
  pairs-rows l (m ∷ ms) = ap (λ t. (get_or ls l [] ++ right_values left right on (get_or rows m [])) ∷ t) (pairs-rows l ms)

  left-alone : (l : ℕ) → get_or ls l [] ∷ [] ≡ (get_or ls l [] ++ []) ∷ []
  left-alone l = ap (λ row. row ∷ []) (sym (append-nil (get_or ls l [])))

  pairs-by_place : (how : How) (l : ℕ) (ms : List ℕ) → pairs left right on how (get_or ls l []) (map (λ n. get_or rows n []) ms) ≡ map (pair_row how left right on rows ls) (pairs_of how l ms)
  pairs-by_place Inner l [] = refl
  pairs-by_place Left l [] = refl
  pairs-by_place Semi l [] = refl
  pairs-by_place Anti l [] = left-alone l
  pairs-by_place Inner l (m ∷ ms) = pairs-rows l (m ∷ ms)
  pairs-by_place Left l (m ∷ ms) = pairs-rows l (m ∷ ms)
  pairs-by_place Semi l (m ∷ ms) = left-alone l
  pairs-by_place Anti l (m ∷ ms) = refl

  -- the output of the left row at a place
  pub output-by_place : (how : How) (nulls_equal : Bool) (l : ℕ) → joined left right on how nulls_equal rows (get_or ls l []) ≡ map (pair_row how left right on rows ls) (pairs_of how l (matches_of nulls_equal (named_key right on rows) (length rows) (named_key left on ls l)))
  output-by_place how nulls_equal l = ap (pairs left right on how (get_or ls l [])) (filter-places (rows_match left right on nulls_equal (get_or ls l [])) rows [])
      ∙ pairs-by_place how l (matches_of nulls_equal (named_key right on rows) (length rows) (named_key left on ls l))

module _ (f : Pair → Row) (out : Row → List Row) (output : ℕ → List Pair) where
  abbrev IsTied : ℕ → (List Pair × Option ℕ) → Stream ℕ → Type 0
  IsTied low u w = (w.rows ≡ map f u.0) × (option_map (λ x. low + x) w.fault ≡ u.1)

  abbrev more_rows : Row → Stream ℕ → Stream ℕ
  more_rows r w = record { rows = out r ++ w.rows; fault = option_map suc w.fault }

  abbrev stop : Stream ℕ
  stop = record { rows = []; fault = Some 0 }

  abbrev chosen : ℕ → List Pair × Option ℕ → Bool → List Pair × Option ℕ
  chosen low u c = if c then (output low ++ u.0, u.1) else ([], Some low)

  shifted : (low : ℕ) (o : Option ℕ) → option_map (λ x. low + x) (option_map suc o) ≡ option_map (λ x. low + 1 + x) o
  shifted low None = refl
  shifted low (Some x) = ap Some (let e : low + suc x ≡ low + 1 + x = omega arith in e)

  within-by_place : (room low : ℕ) (rs : List Row) → ((j : ℕ) → j < length rs → out (get_or rs j []) ≡ map f (output (low + j))) →
      IsTied low (pairs_within output room (range_with_len low (length rs))) (within_room out room rs)
  within-by_place room low [] h = (refl, refl)
  within-by_place room low (r ∷ rest) h = by (nat_le (length (output low)) room) refl (within-by_place (room - length (output low)) (low + 1) rest (λ j b. h (suc j) (omega (arith, b)) ∙ ap (λ v. map f (output v)) (let e : low + suc j ≡ low + 1 + j = omega arith in e)))
    where
      here : out r ≡ map f (output low)
      here = h 0 (omega arith) ∙ ap (λ v. map f (output v)) (let e : low + 0 ≡ low = omega arith in e)

      size : length (out r) ≡ length (output low)
      size = ap length (h 0 (omega arith) ∙ ap (λ v. map f (output v)) (let e : low + 0 ≡ low = omega arith in e)) ∙ length-map (output low) f

      by : (b : Bool) → nat_le (length (output low)) room ≡ b → IsTied (low + 1) (pairs_within output (room - length (output low)) (range_with_len (low + 1) (length rest))) (within_room out (room - length (output low)) rest) →
          IsTied low (pairs_within output room (range_with_len low (length (r ∷ rest)))) (within_room out room (r ∷ rest))
      by true e t =
          let e' : nat_le (length (out r)) room ≡ true = ap (λ v. nat_le v room) size ∙ e in
          let U : ℕ → List Pair × Option ℕ = λ v. pairs_within output (room - v) (range_with_len (low + 1) (length rest)) in
          let W : ℕ → Stream ℕ = λ v. within_room out (room - v) rest in
          let n = length (out r) in
          let m = length (output low) in (
            ap (λ c. (if c then more_rows r (W n) else stop).rows) e' ∙ ap (λ v. out r ++ (W v).rows) size ∙ ap (λ l. l ++ (W m).rows) here ∙ ap (λ l. map f (output low) ++ l) t.0
                ∙ sym (map-append f (output low) (U m).0) ∙ sym (ap (λ c. map f (chosen low (U m) c).0) e),
            ap (λ c. option_map (λ x. low + x) (if c then more_rows r (W n) else stop).fault) e' ∙ ap (λ v. option_map (λ x. low + x) (option_map suc (W v).fault)) size
                ∙ shifted low (W m).fault ∙ t.1 ∙ sym (ap (λ c. (chosen low (U m) c).1) e),
          )
      by false e t =
          let e' : nat_le (length (out r)) room ≡ false = ap (λ v. nat_le v room) size ∙ e in
          let U : ℕ → List Pair × Option ℕ = λ v. pairs_within output (room - v) (range_with_len (low + 1) (length rest)) in
          let W : ℕ → Stream ℕ = λ v. within_room out (room - v) rest in
          let n = length (out r) in
          let m = length (output low) in (
            ap (λ c. (if c then more_rows r (W n) else stop).rows) e' ∙ sym (ap (λ c. map f (chosen low (U m) c).0) e),
            ap (λ c. option_map (λ x. low + x) (if c then more_rows r (W n) else stop).fault) e' ∙ ap Some (let z : low + 0 ≡ low = omega arith in z)
                ∙ sym (ap (λ c. (chosen low (U m) c).1) e),
          )

-- what a part of a join, which begins at a left place, gives by places
pub left-by_place : (how : How) (nulls_equal : Bool) (left right : Fields) (on : List Name) (rows ls : List Row) (c : Cursor) →
    let u = pairs_from (λ l. pairs_of how l (matches_of nulls_equal (named_key right on rows) (length rows) (named_key left on ls l))) (length ls) c in
    let v = join_rows how nulls_equal left right on rows c.room (drop c.row ls) in
    (drop c.given v.rows ≡ map (pair_row how left right on rows ls) u.0) × (option_map (λ i. c.row + i) v.fault ≡ u.1)
left-by_place how nulls_equal left right on rows ls c =
    let output : ℕ → List Pair = λ l. pairs_of how l (matches_of nulls_equal (named_key right on rows) (length rows) (named_key left on ls l)) in
    let f = pair_row how left right on rows ls in
    let t = within-by_place f (joined left right on how nulls_equal rows) output c.room c.row (drop c.row ls)
    (λ j low. ap (joined left right on how nulls_equal rows) (get_or-drop c.row ls j []) ∙ output-by_place left right on rows ls how nulls_equal (c.row + j)) in
    let same = ap (λ n. pairs_within output c.room (range_with_len c.row n)) (length-drop c.row ls) in (
      ap (drop c.given) (t.0 ∙ ap (λ (w : List Pair × Option ℕ). map f w.0) same) ∙ drop-map f c.given (pairs_within output c.room (range_with_len c.row (length ls - c.row))).0,
      t.1 ∙ ap (λ (w : List Pair × Option ℕ). w.1) same,
    )

-- ---- a join of left rows in two parts

module _ (out : Row → List Row) where
  -- the output of rows, then of those after them, in what room the first leave
  abbrev pub part-by_part : ℕ → List Row → List Row → Stream ℕ
  part-by_part room ls more =
      let u = within_room out room ls in
      then_stream u (rename_fault (λ p. length ls + p) (within_room out (room - length u.rows) more))

  abbrev after_row : Row → Stream ℕ → Stream ℕ
  after_row l w = then_stream (done (out l)) (rename_fault suc w)

  abbrev begun : ℕ → Row → List Row → Bool → Stream ℕ
  begun room l ls b = if b then after_row l (within_room out (room - length (out l)) ls) else faulted 0

  no-more : (o : Option ℕ) → o ≡ option_map (λ p. 0 + p) o
  no-more None = refl
  no-more (Some p) = ap Some (let e : p ≡ 0 + p = omega arith in e)

  next-fault : (n : ℕ) (o : Option ℕ) → option_map suc (option_map (λ p. n + p) o) ≡ option_map (λ p. suc n + p) o
  next-fault n None = refl
  next-fault n (Some p) = ap Some (let e : suc (n + p) ≡ suc n + p = omega arith in e)

  past-row : (l : Row) (ls more : List Row) (room : ℕ) (o : Option ℕ) →
      let u = within_room out (room - length (out l)) ls in
      u.fault ≡ o →
      after_row l (then_stream u (rename_fault (λ p. length ls + p) (within_room out (room - length (out l) - length u.rows) more)))
      ≡ then_stream (after_row l u) (rename_fault (λ p. suc (length ls) + p) (within_room out (room - length (out l ++ u.rows)) more))
  past-row l ls more room None e =
      let u = within_room out (room - length (out l)) ls in
      let v : ℕ → Stream ℕ = λ n. within_room out n more in
      let n = room - length (out l) - length u.rows in
      let size : room - length (out l ++ u.rows) ≡ n = omega (arith, length-append (out l) u.rows) in
      ap (λ (b : Bool). after_row l (if b then u else record { rows = u.rows ++ (v n).rows; fault = option_map (λ p. length ls + p) (v n).fault })) (ap is_some e)
      ∙ (λ i. record { rows = sym (append_assoc (out l) u.rows (v n).rows) i; fault = next-fault (length ls) (v n).fault i })
      ∙ sym (ap (λ (b : Bool). if b then after_row l u else record { rows = (out l ++ u.rows) ++ (v n).rows; fault = option_map (λ p. suc (length ls) + p) (v n).fault }) (ap (λ o. is_some (option_map suc o)) e)
      ) ∙ sym (ap (λ m. then_stream (after_row l u) (rename_fault (λ p. suc (length ls) + p) (v m))) size)
  past-row l ls more room (Some f) e =
      let u = within_room out (room - length (out l)) ls in
      let v : ℕ → Stream ℕ = λ n. within_room out n more in
      let n = room - length (out l) - length u.rows in
      let m = room - length (out l ++ u.rows) in
      ap (λ (b : Bool). after_row l (if b then u else record { rows = u.rows ++ (v n).rows; fault = option_map (λ p. length ls + p) (v n).fault })) (ap is_some e)
      ∙ sym (ap (λ (b : Bool). if b then after_row l u else record { rows = (out l ++ u.rows) ++ (v m).rows; fault = option_map (λ p. suc (length ls) + p) (v m).fault }) (ap (λ o. is_some (option_map suc o)) e))

  pub within-parts : (room : ℕ) (ls more : List Row) → within_room out room (ls ++ more) ≡ part-by_part room ls more
  within-parts room [] more =
      let all : room ≡ room - 0 = omega arith in
      (λ i. record { rows = (within_room out room more).rows; fault = no-more (within_room out room more).fault i })
      ∙ ap (λ n. rename_fault (λ p. 0 + p) (within_room out n more)) all
  within-parts room (l ∷ ls) more = by (nat_le (length (out l)) room) refl (within-parts (room - length (out l)) ls more)
    where
      by : (b : Bool) → nat_le (length (out l)) room ≡ b → within_room out (room - length (out l)) (ls ++ more) ≡ part-by_part (room - length (out l)) ls more →
          within_room out room (l ∷ ls ++ more) ≡ part-by_part room (l ∷ ls) more
      by true e rest =
          let first : Bool → Stream ℕ = λ b. begun room l ls b in
          ap (λ b. if b then after_row l (within_room out (room - length (out l)) (ls ++ more)) else faulted 0) e
          ∙ ap (after_row l) rest
          ∙ past-row l ls more room (within_room out (room - length (out l)) ls).fault refl
          ∙ sym (ap (λ b. then_stream (first b) (rename_fault (λ p. suc (length ls) + p) (within_room out (room - length (first b).rows) more))) e)
      by false e rest =
          let first : Bool → Stream ℕ = λ b. begun room l ls b in
          ap (λ b. if b then after_row l (within_room out (room - length (out l)) (ls ++ more)) else faulted 0) e
          ∙ sym (ap (λ b. then_stream (first b) (rename_fault (λ p. suc (length ls) + p) (within_room out (room - length (first b).rows) more))) e)
