-- The items of all files, taken by file and joined, are the streams of the sources.
use Rattle.std.proofs.Common.{◌≡◌, ℕ, zero, suc, ◌+◌, ◌-◌, ◌≤◌, Bool, true, false, ◌&&◌, nat_lt, nat_le, List, [], ◌∷◌, ◌++◌, map, filter, length, take, drop, flat_map, sum_by, refl, ap, sym, ◌∙◌, arith, cond, length-drop}
use Rattle.std.proofs.lemmas.Bool.Decides.{nat_tests}
use Rattle.std.proofs.lemmas.List.Elements.{filter-append}
use Rattle.std.proofs.lemmas.List.{drop-map, length-map, map-append, take-map}
use Rattle.std.proofs.lemmas.List.Sums.{sum_by-cons}
use Rattle.std.proofs.Math.Seq.{take-nil, drop-drop, take_all}
use Rattle.fq_column.specs.Stream.{Stream, then_stream}
use Rattle.fq_run.specs.Physical.{Physical, after_leading, files_wanted, side_files, main_fields}
use Rattle.fq_csv.specs.Sources.{Source, but_last}
use Rattle.fq_run.specs.Sources.{concat_streams, source_streams}
use Rattle.fq_run.specs.Tail.{Taken, items_from, tagged, taken_streams, worked_files}
use Rattle.fq_run.specs.declared.faults.Fault.{Fault}
use Rattle.fq_run.specs.declared.faults.Fault.TheVariants.{Overflow}
use Rattle.fq_run.proofs.LeadingStepLemmas.{apply_steps-concat_streams, concat_streams-append}

items_from-append : (a n : ℕ) (xs ys : List Taken) → items_from a n (xs ++ ys) ≡ items_from a n xs ++ items_from a n ys
items_from-append a n xs ys = ap (map (λ (t : Taken). t.1)) (filter-append _ xs ys) ∙ map-append (λ (t : Taken). t.1) _ _

-- the items of one file, by whether it is looked for
items_from-one : (a n k : ℕ) (us : List (Stream Fault)) (b : Bool) → (nat_le a k && nat_lt k (a + n)) ≡ b → items_from a n (map (λ u. (k, u)) us) ≡ cond b us []
items_from-one a n k [] true e = refl
items_from-one a n k [] false e = refl
items_from-one a n k (u ∷ us) b e =
    ap (λ c. map (λ (t : Taken). t.1) (cond c ((k, u) ∷ filter (λ (t : Taken). nat_le a t.0 && nat_lt t.0 (a + n)) (map (λ u. (k, u)) us)) (filter (λ (t : Taken). nat_le a t.0 && nat_lt t.0 (a + n)) (map (λ u. (k, u)) us)))) e
    ∙ go b (items_from-one a n k us b e)
  where
    go : (b : Bool) → items_from a n (map (λ u. (k, u)) us) ≡ cond b us [] →
        map (λ (t : Taken). t.1) (cond b ((k, u) ∷ filter (λ (t : Taken). nat_le a t.0 && nat_lt t.0 (a + n)) (map (λ u. (k, u)) us)) (filter (λ (t : Taken). nat_le a t.0 && nat_lt t.0 (a + n)) (map (λ u. (k, u)) us))) ≡ cond b (u ∷ us) []
    go true h = ap (λ vs. u ∷ vs) h
    go false h = h

-- the items of all files, one after the other
abbrev pub flat : List (List (Stream Fault)) → List (Stream Fault)
flat xss = flat_map (λ xs. xs) xss

-- if the first file is looked for, or is past what is looked for
items_from-here : (a n k : ℕ) (xss : List (List (Stream Fault))) → a ≤ k → items_from a n (tagged k xss) ≡ flat (take (a + n - k) xss)
items_from-here a n k [] h = ap flat (sym (take-nil (a + n - k)))
items_from-here a n k (xs ∷ xss) h =
    items_from-append a n (map (λ u. (k, u)) xs) (tagged (k + 1) xss)
    ∙ ap (λ ys. items_from a n (map (λ u. (k, u)) xs) ++ ys) (items_from-here a n (k + 1) xss (omega (arith, h)))
    ∙ go (nat_lt k (a + n)) refl
  where
    go : (b : Bool) → nat_lt k (a + n) ≡ b → items_from a n (map (λ u. (k, u)) xs) ++ flat (take (a + n - (k + 1)) xss) ≡ flat (take (a + n - k) (xs ∷ xss))
    go true e =
        ap (λ ys. ys ++ flat (take (a + n - (k + 1)) xss)) (items_from-one a n k xs true (grind (arith, nat_tests, e, h)))
        ∙ ap (λ m. flat (take m (xs ∷ xss))) (let q : suc (a + n - (k + 1)) ≡ a + n - k = grind (arith, nat_tests, e, h) in q)
    go false e =
        ap (λ ys. ys ++ flat (take (a + n - (k + 1)) xss)) (items_from-one a n k xs false (grind (arith, nat_tests, e, h)))
        ∙ ap (λ m. flat (take m xss)) (let q : a + n - (k + 1) ≡ 0 = grind (arith, nat_tests, e, h) in q)
        ∙ ap (λ m. flat (take m (xs ∷ xss))) (let q : 0 ≡ a + n - k = grind (arith, nat_tests, e, h) in q)

items_from-later : (d n k : ℕ) (xss : List (List (Stream Fault))) → items_from (k + d) n (tagged k xss) ≡ flat (take n (drop d xss))
items_from-later zero n k xss =
    items_from-here (k + 0) n k xss (omega arith)
    ∙ ap (λ m. flat (take m xss)) (let q : k + 0 + n - k ≡ n = omega arith in q)
items_from-later (suc d) n k [] = ap flat (sym (take-nil n))
items_from-later (suc d) n k (xs ∷ xss) =
    items_from-append (k + suc d) n (map (λ u. (k, u)) xs) (tagged (k + 1) xss)
    ∙ ap (λ ys. ys ++ items_from (k + suc d) n (tagged (k + 1) xss)) (items_from-one (k + suc d) n k xs false (grind (arith, nat_tests)))
    ∙ ap (λ m. items_from m n (tagged (k + 1) xss)) (let q : k + suc d ≡ k + 1 + d = omega arith in q)
    ∙ items_from-later d n (k + 1) xss

pub items_from-start : (a n : ℕ) (xss : List (List (Stream Fault))) → items_from a n (tagged 0 xss) ≡ flat (take n (drop a xss))
items_from-start a n xss =
    ap (λ m. items_from m n (tagged 0 xss)) (let q : a ≡ 0 + a = omega arith in q)
    ∙ items_from-later a n 0 xss

concat_streams-flat : (xss : List (List (Stream Fault))) → concat_streams (flat xss) ≡ concat_streams (map concat_streams xss)
concat_streams-flat [] = refl
concat_streams-flat (xs ∷ xss) = concat_streams-append xs (flat xss) ∙ ap (then_stream (concat_streams xs)) (concat_streams-flat xss)

-- the streams of the sources before the main one are the files' own
before-main : (p : Physical) (s k n : ℕ) (us : List (Stream Fault)) → s + k + n ≤ side_files p → take n (drop k (worked_files p s us)) ≡ take n (drop k us)
before-main p s k n [] h = refl
before-main p s zero zero (u ∷ us) h = refl
before-main p s zero (suc n) (u ∷ us) h =
    ap (λ b. cond b u (after_leading p u) ∷ take n (worked_files p (s + 1) us)) (let q : nat_lt s (side_files p) ≡ true = grind (arith, nat_tests, h) in q)
    ∙ ap (λ vs. u ∷ vs) (before-main p (s + 1) zero n us (omega (arith, h)))
before-main p s (suc k) n (u ∷ us) h = before-main p (s + 1) k n us (omega (arith, h))

all-main : (p : Physical) (s : ℕ) (us : List (Stream Fault)) → side_files p ≤ s → worked_files p s us ≡ map (after_leading p) us
all-main p s [] h = refl
all-main p s (u ∷ us) h =
    ap (λ b. cond b u (after_leading p u) ∷ worked_files p (s + 1) us) (let q : nat_lt s (side_files p) ≡ false = grind (arith, nat_tests, h) in q)
    ∙ ap (λ vs. after_leading p u ∷ vs) (all-main p (s + 1) us (omega (arith, h)))

-- those of the main source went through the leading steps
main-worked : (p : Physical) (s d : ℕ) (us : List (Stream Fault)) → s + d ≡ side_files p → drop d (worked_files p s us) ≡ map (after_leading p) (drop d us)
main-worked p s zero us h = all-main p s us (omega (arith, h))
main-worked p s (suc d) [] h = refl
main-worked p s (suc d) (u ∷ us) h = main-worked p (s + 1) d us (omega (arith, h))

module _ (p : Physical) (xss : List (List (Stream Fault))) (us : List (Stream Fault)) (joins_to : map concat_streams xss ≡ worked_files p 0 us) where
  items_from-joined : (a n : ℕ) → concat_streams (items_from a n (tagged 0 xss)) ≡ concat_streams (take n (drop a (worked_files p 0 us)))
  items_from-joined a n =
      ap concat_streams (items_from-start a n xss)
      ∙ concat_streams-flat (take n (drop a xss))
      ∙ ap concat_streams (sym (take-map concat_streams n (drop a xss)))
      ∙ ap (λ vs. concat_streams (take n vs)) (sym (drop-map concat_streams a xss))
      ∙ ap (λ vs. concat_streams (take n (drop a vs))) joins_to

  taken_streams-all : (k : ℕ) (sources : List Source) → k + sum_by (λ s. s.files) sources ≤ side_files p →
      taken_streams k sources (tagged 0 xss) ≡ source_streams sources (drop k us)
  taken_streams-all k [] g = refl
  taken_streams-all k (s ∷ sources) g =
      let g' : k + (s.files + sum_by (λ s. s.files) sources) ≤ side_files p = omega (arith, sum_by-cons (λ (s : Source). s.files) s sources, g) in
      ap (λ u. u ∷ taken_streams (k + s.files) sources (tagged 0 xss)) (items_from-joined k s.files ∙ ap concat_streams (before-main p 0 k s.files us (omega (arith, g'))))
      ∙ ap (λ vs. concat_streams (take s.files (drop k us)) ∷ vs) (taken_streams-all (k + s.files) sources (omega (arith, g')))
      ∙ ap (λ vs. concat_streams (take s.files (drop k us)) ∷ source_streams sources vs) (sym (drop-drop s.files k us))

  -- those of the sources before the main one
  pub sides-joined : taken_streams 0 (but_last p.sources) (tagged 0 xss) ≡ source_streams (but_last p.sources) us
  sides-joined = taken_streams-all 0 (but_last p.sources) (omega arith)

  -- those of the main source, after the leading steps
  pub main-joined : length us ≤ files_wanted p → concat_streams (items_from (side_files p) (files_wanted p) (tagged 0 xss)) ≡ after_leading p (concat_streams (drop (side_files p) us))
  main-joined g =
      let main : List (Stream Fault) = drop (side_files p) us in
      let wanted : length (map (after_leading p) main) ≤ files_wanted p = omega (arith, length-map main (after_leading p), length-drop (side_files p) us, g) in
      items_from-joined (side_files p) (files_wanted p)
      ∙ ap (λ vs. concat_streams (take (files_wanted p) vs)) (main-worked p 0 (side_files p) us (omega arith))
      ∙ ap concat_streams (take_all (files_wanted p) (map (after_leading p) main) wanted)
      ∙ sym (apply_steps-concat_streams Overflow 0 (main_fields p) p.front main)
