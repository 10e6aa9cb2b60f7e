-- Arrays and objects of a JSON value, by the number of their items and members.
use Rattle.std.proofs.Common.{◌≡◌, ℕ, suc, ◌+◌, Bool, List, [], ◌∷◌, map, length, Some, None, refl, ap, sym, ◌∙◌, arith, String, Global}
use Rattle.std.specs.Prelude.{◌==◌, if◌then◌else◌}
use Rattle.std.proofs.Common.{Ordering}
use Rattle.std.specs.Ordering.{nat_cmp, match_ordering, is_eq}
use Rattle.std.specs.declared.cmp.Ordering.TheVariants.{Less, Equal, Greater}
use Rattle.std.specs.Cmp.Lexicographic.{slice_cmp, texts_ties}
use Rattle.serde_json.specs.Data.{Data, null, boolean, number, string, array, object, Items, no_members, member}
use Rattle.serde_json.specs.Find.{as_array, as_object, get}
use Rattle.serde_json.specs.View.{items_of, members_of}
use Rattle.fq_column.specs.Frame.{Name}
use Rattle.fq_language.specs.Parts.{only_member, has_members, count_of_members, two_items, three_items}
use Rattle.fq_language.specs.Spelling.{expression}

count-members_of : (ms : List (String Global × Data)) → count_of_members (members_of ms) ≡ length ms
count-members_of [] = refl
count-members_of (m ∷ ms) = ap (λ n. n + 1) (count-members_of ms) ∙ (let e : length ms + 1 ≡ suc (length ms) = omega arith in e)

-- ---- one member

by-order : (o : Ordering) (d : Data) → match_ordering o None (Some d) None ≡ (if is_eq o then Some d else None)
by-order Less d = refl
by-order Equal d = refl
by-order Greater d = refl

pub get-only : (name : Name) (d : Data) (ms : List (String Global × Data)) → Some (members_of ms) ≡ as_object d → length ms ≡ 1 → get name d ≡ only_member name d
get-only name null ms e n = absurd (cc)
get-only name (boolean b) ms e n = absurd (cc)
get-only name (number x) ms e n = absurd (cc)
get-only name (string s) ms e n = absurd (cc)
get-only name (array ds) ms e n = absurd (cc)
get-only name (object no_members) [] e n = absurd (omega (arith, n))
get-only name (object no_members) (m ∷ ms) e n = absurd (cc)
get-only name (object (member k d no_members)) ms e n =
    by-order (slice_cmp nat_cmp name k) d ∙ ap (λ (b : Bool). if b then Some d else None) (sym (texts_ties name k))
get-only name (object (member k d (member l c more))) [] e n = absurd (cc)
get-only name (object (member k d (member l c more))) (m ∷ []) e n = absurd (cc)
get-only name (object (member k d (member l c more))) (m ∷ o ∷ ms) e n = absurd (omega (arith, n))

pub only_member-many : (name : Name) (d : Data) (ms : List (String Global × Data)) → Some (members_of ms) ≡ as_object d → (length ms ≡ 1 → ⊥) → only_member name d ≡ None
only_member-many name null ms e n = refl
only_member-many name (boolean b) ms e n = refl
only_member-many name (number x) ms e n = refl
only_member-many name (string s) ms e n = refl
only_member-many name (array ds) ms e n = refl
only_member-many name (object no_members) ms e n = refl
only_member-many name (object (member k d no_members)) [] e n = absurd (cc)
only_member-many name (object (member k d no_members)) (m ∷ []) e n = absurd (n refl)
only_member-many name (object (member k d no_members)) (m ∷ o ∷ ms) e n = absurd (cc)
only_member-many name (object (member k d (member l c more))) ms e n = refl

-- ---- so many members

pub has_members-of : (n : ℕ) (d : Data) (ms : List (String Global × Data)) → Some (members_of ms) ≡ as_object d → has_members n d ≡ (length ms == n)
has_members-of n null ms e = absurd (cc)
has_members-of n (boolean b) ms e = absurd (cc)
has_members-of n (number x) ms e = absurd (cc)
has_members-of n (string s) ms e = absurd (cc)
has_members-of n (array ds) ms e = absurd (cc)
has_members-of n (object os) ms e =
    let same : members_of ms ≡ os = cc in
    ap (λ k. k == n) (sym (ap count_of_members same) ∙ count-members_of ms)

-- ---- so many items

array-of : (d : Data) (ds : Items) → Some ds ≡ as_array d → d ≡ array ds
array-of null ds e = absurd (cc)
array-of (boolean b) ds e = absurd (cc)
array-of (number n) ds e = absurd (cc)
array-of (string s) ds e = absurd (cc)
array-of (array es) ds e = cc
array-of (object ms) ds e = absurd (cc)

module _ {V : Type 0} (view : V → Data) where
  pub two_items-other : (d : Data) (vs : List V) → Some (items_of (map view vs)) ≡ as_array d → (length vs ≡ 2 → ⊥) → two_items d ≡ None
  two_items-other d vs e n = ap two_items (array-of d (items_of (map view vs)) e) ∙ go vs n
    where
      go : (vs : List V) → (length vs ≡ 2 → ⊥) → two_items (array (items_of (map view vs))) ≡ None
      go [] n = refl
      go (a ∷ []) n = refl
      go (a ∷ b ∷ []) n = absurd (n refl)
      go (a ∷ b ∷ c ∷ vs) n = refl

  pub three_items-other : (d : Data) (vs : List V) → Some (items_of (map view vs)) ≡ as_array d → (length vs ≡ 3 → ⊥) → three_items d ≡ None
  three_items-other d vs e n = ap three_items (array-of d (items_of (map view vs)) e) ∙ go vs n
    where
      go : (vs : List V) → (length vs ≡ 3 → ⊥) → three_items (array (items_of (map view vs))) ≡ None
      go [] n = refl
      go (a ∷ []) n = refl
      go (a ∷ b ∷ []) n = refl
      go (a ∷ b ∷ c ∷ []) n = absurd (n refl)
      go (a ∷ b ∷ c ∷ d ∷ vs) n = refl

  -- an array of neither two items nor three is not an expression
  pub expression-other : (vs : List V) → (length vs ≡ 2 → ⊥) → (length vs ≡ 3 → ⊥) → expression (array (items_of (map view vs))) ≡ None
  expression-other [] n m = refl
  expression-other (a ∷ []) n m = refl
  expression-other (a ∷ b ∷ []) n m = absurd (n refl)
  expression-other (a ∷ b ∷ c ∷ []) n m = absurd (m refl)
  expression-other (a ∷ b ∷ c ∷ d ∷ vs) n m = refl
