-- An object that spells a rolling sum and has a member "min_samples" has four members.
use Rattle.std.proofs.Common.{◌≡◌, ◌∙◌, ℕ, ◌≤◌, Bool, true, false, ◌||◌, List, [], ◌∷◌, length, Option, Some, None, refl, ap, sym, subst, arith, Ordering}
use Rattle.std.specs.Prelude.{◌==◌, codes, is_some, if◌then◌else◌}
use Rattle.std.specs.Ordering.{nat_cmp, match_ordering, is_eq}
use Rattle.std.specs.declared.cmp.Ordering.TheVariants.{Less, Equal, Greater}
use Rattle.std.specs.Cmp.Lexicographic.{bytes_decides, slice_cmp, texts_ties}
use Rattle.std.proofs.lemmas.Bool.Decides.{nat_tests}
use Rattle.serde_json.specs.Data.{Data, null, boolean, number, string, array, object, Members, no_members, member as member_then}
use Rattle.serde_json.specs.Find.{get, get_member}
use Rattle.fq_column.specs.Frame.{Name, has_name, same_name}
use Rattle.fq_expr.proofs.DistinctLemmas.{distinct-le}
use Rattle.fq_language.specs.Parts.{given, only_if, count_of_members, has_members, name_of, whole}
use Rattle.fq_language.specs.Plan.{PlanStep, rolling_sum}
use Rattle.fq_language.specs.Spelling.{roll_of, roll_with}

-- ---- nothing is given in the end

none-after_one : {A Z : Type 0} (a : Option A) → given a (λ _. let none : Option Z = None in none) ≡ None
none-after_one None = refl
none-after_one (Some x) = refl

none-after_two : {A B Z : Type 0} (a : Option A) (b : Option B) → given a (λ _. given b (λ _. let none : Option Z = None in none)) ≡ None
none-after_two None b = refl
none-after_two (Some x) b = none-after_one b

none-after_three : {A B C Z : Type 0} (a : Option A) (b : Option B) (c : Option C) → given a (λ _. given b (λ _. given c (λ _. let none : Option Z = None in none))) ≡ None
none-after_three None b c = refl
none-after_three (Some x) b c = none-after_two b c

-- ---- rolling sums

-- the names of an object's members
abbrev keys : Members → List Name
keys no_members = []
keys (member_then name d ms) = name ∷ keys ms

length-keys : (ms : Members) → length (keys ms) ≡ count_of_members ms
length-keys no_members = refl
length-keys (member_then name d ms) = let rest = length-keys ms in omega (arith, rest)

-- a member that is found is there
has-found : (n : Name) (ms : Members) → is_some (get_member n ms) ≡ true → has_name (keys ms) n ≡ true
has-found n no_members e = absurd (cc)
has-found n (member_then l d ms) e = go (same_name n l) (slice_cmp nat_cmp n l) (texts_ties n l) (λ f. has-found n ms f) e
  where
    go : (b : Bool) (o : Ordering) → b ≡ is_eq o → (is_some (get_member n ms) ≡ true → has_name (keys ms) n ≡ true) →
        is_some (match_ordering o (get_member n ms) (Some d) (get_member n ms)) ≡ true → (b || has_name (keys ms) n) ≡ true
    go true o t rest f = refl
    go false Less t rest f = rest f
    go false Equal t rest f = absurd (cc)
    go false Greater t rest f = rest f

-- the members of a rolling sum
abbrev all_four : List Name
all_four = codes "column" ∷ codes "window" ∷ codes "min_samples" ∷ codes "name" ∷ []

-- an object in which four names are found has four members or more
four-found : (ms : Members) → is_some (get_member (codes "column") ms) ≡ true → is_some (get_member (codes "window") ms) ≡ true
    → is_some (get_member (codes "min_samples") ms) ≡ true → is_some (get_member (codes "name") ms) ≡ true → 4 ≤ count_of_members ms
four-found ms c w m n = let most : 4 ≤ length (keys ms) = distinct-le all_four (keys ms) refl there in omega (arith, length-keys ms, most)
  where
    same : (n a : Name) → same_name n a ≡ true → has_name (keys ms) a ≡ true → has_name (keys ms) n ≡ true
    same n a e h = let P : Name → Type 0 = λ k. has_name (keys ms) k ≡ true in subst P (sym ((bytes_decides n a).0 e)) h

    one_of : (k : Name) (p q r s : Bool) → same_name k (codes "column") ≡ p → same_name k (codes "window") ≡ q → same_name k (codes "min_samples") ≡ r → same_name k (codes "name") ≡ s
        → (p || (q || (r || (s || false)))) ≡ true → has_name (keys ms) k ≡ true
    one_of k true q r s is_c is_w is_m is_n e = same k (codes "column") is_c (has-found (codes "column") ms c)
    one_of k false true r s is_c is_w is_m is_n e = same k (codes "window") is_w (has-found (codes "window") ms w)
    one_of k false false true s is_c is_w is_m is_n e = same k (codes "min_samples") is_m (has-found (codes "min_samples") ms m)
    one_of k false false false true is_c is_w is_m is_n e = same k (codes "name") is_n (has-found (codes "name") ms n)
    one_of k false false false false is_c is_w is_m is_n e = absurd (cc)

    there : (k : Name) → has_name all_four k ≡ true → has_name (keys ms) k ≡ true
    there k e = one_of k (same_name k (codes "column")) (same_name k (codes "window")) (same_name k (codes "min_samples")) (same_name k (codes "name")) refl refl refl refl e

three-four : (n : ℕ) → 4 ≤ n → (n == 3) ≡ true → ⊥
three-four n most e = grind (arith, nat_tests)

-- an object of three members, one of which is "min_samples", lacks one of the others
three-not : (d : Data) → has_members 3 d ≡ true → is_some (get (codes "min_samples") d) ≡ true → roll_with (codes "window") d ≡ None
three-not null e m = absurd (cc)
three-not (boolean b) e m = absurd (cc)
three-not (number n) e m = absurd (cc)
three-not (string s) e m = absurd (cc)
three-not (array ds) e m = absurd (cc)
three-not (object ms) e m = go (get_member (codes "column") ms) refl (get_member (codes "window") ms) refl (get_member (codes "name") ms) refl
  where
    roll_by : Option Data → Option Data → Option Data → Option PlanStep
    roll_by column window name =
        given (given column name_of) (λ c. given (given window whole) (λ w. given (given window whole) (λ s. given (given name name_of) (λ n. Some (rolling_sum c w s n)))))

    go : (column : Option Data) → get_member (codes "column") ms ≡ column → (window : Option Data) → get_member (codes "window") ms ≡ window → (name : Option Data) → get_member (codes "name") ms ≡ name
        → roll_by column window name ≡ None
    go None c window w name n = refl
    go (Some x) c None w name n = none-after_one (name_of x)
    go (Some x) c (Some y) w None n = none-after_three (name_of x) (whole y) (whole y)
    go (Some x) c (Some y) w (Some z) n =
        absurd (three-four (count_of_members ms) (four-found ms (ap is_some c) (ap is_some w) m (ap is_some n)) e)

not-four : (d : Data) → has_members 3 d ≡ true → has_members 4 d ≡ false
not-four null e = refl
not-four (boolean b) e = refl
not-four (number n) e = refl
not-four (string s) e = refl
not-four (array ds) e = refl
not-four (object ms) e = by (count_of_members ms) e
  where
    by : (n : ℕ) → (n == 3) ≡ true → (n == 4) ≡ false
    by n e = grind (arith, nat_tests)

-- four members if one is "min_samples", or else three
pub roll_of-given : (d : Data) → is_some (get (codes "min_samples") d) ≡ true → roll_of d ≡ only_if (has_members 4 d) (roll_with (codes "min_samples") d)
roll_of-given d m = go (has_members 3 d) refl
  where
    go : (b : Bool) → has_members 3 d ≡ b → (if b then roll_with (codes "window") d else only_if (has_members 4 d) (roll_with (codes "min_samples") d)) ≡ only_if (has_members 4 d) (roll_with (codes "min_samples") d)
    go true e = three-not d e m ∙ ap (λ b. only_if b (roll_with (codes "min_samples") d)) (sym (not-four d e))
    go false e = refl
