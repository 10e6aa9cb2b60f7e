-- The sources that a plan's text spells have files.
use Rattle.std.proofs.Common.{◌≡◌, ℕ, zero, suc, ◌≤◌, ℤ, pos, negsuc, Bool, true, false, List, [], ◌∷◌, Option, Some, None, option_map, refl, ap, sym, subst, arith, All}
use Rattle.std.specs.Prelude.{codes, nat_abs, if◌then◌else◌}
use Rattle.fq_column.specs.Frame.{Fields}
use Rattle.std.proofs.lemmas.List.Elements.{All-nil, All-cons}
use Rattle.serde_json.specs.Data.{Data, Items, no_items, item}
use Rattle.serde_json.specs.Find.{get, as_array}
use Rattle.fq_ops.specs.Roll.{is_from_to}
use Rattle.fq_csv.specs.Sources.{Source}
use Rattle.fq_language.specs.Parts.{given, only_if, items_as, each_of, member, has_members, whole, whole_from_to, pair_of, name_of, with_length, word}
use Rattle.fq_language.specs.Spelling.{kinds, names, source_of, source_with}
use Rattle.fq_language.specs.declared.plans.Version.{Version}
use Rattle.fq_language.specs.declared.plans.Version.TheVariants.{One, Two}
use Rattle.fq_language.specs.declared.plans.TheConstants.{MAX_NULL_VALUES}
use Rattle.fq_csv.specs.declared.sources.TheConstants.{MAX_FILES}

module _ {X Y : Type 0} where
  pub given-some : (o : Option X) (f : X → Option Y) (y : Y) → Some y ≡ given o f → (x : X) × (Some x ≡ o) × (Some y ≡ f x)
  given-some None f y e = absurd (cc)
  given-some (Some x) f y e = (x, refl, e)

module _ {X : Type 0} where
  pub only_if-some : (b : Bool) (o : Option X) (x : X) → Some x ≡ only_if b o → (b ≡ true) × (Some x ≡ o)
  only_if-some true o x e = (refl, e)
  only_if-some false o x e = absurd (cc)

module _ {X : Type 0} (f : Data → Option X) (P : X → Type 0) (each : (d : Data) (x : X) → Some x ≡ f d → P x) where
  cons-some : (o : Option X) (rest : Option (List X)) (xs : List X) → Some xs ≡ given o (λ x. option_map (λ ys. x ∷ ys) rest) →
      (x : X) × (ys : List X) × (Some x ≡ o) × (Some ys ≡ rest) × (x ∷ ys ≡ xs)
  cons-some None rest xs e = absurd (cc)
  cons-some (Some x) None xs e = absurd (cc)
  cons-some (Some x) (Some ys) xs e = (x, ys, refl, refl, cc)

  pub items_as-all : (ds : Items) (xs : List X) → Some xs ≡ items_as f ds → All P xs
  items_as-all no_items xs e = subst (All P) (let g : [] ≡ xs = cc in g) (All-nil P)
  items_as-all (item d ds) xs e =
      let c = cons-some (f d) (items_as f ds) xs e in subst (All P) c.4 (All-cons P c.0 c.1 (each d c.0 c.2) (items_as-all ds c.1 c.3))

  -- what holds of each part holds of all parts of an array
  pub member-all : (name : List ℕ) (d : Data) (xs : List X) → Some xs ≡ member name (each_of f) d → All P xs
  member-all name d xs e = let m = given-some (get name d) (each_of f) xs e in let a = given-some (as_array m.0) (items_as f) xs m.2 in items_as-all a.0 xs a.2

at_least-one : (z : ℤ) → is_from_to (pos 1) (pos MAX_FILES) z ≡ true → 1 ≤ nat_abs z
at_least-one (pos zero) e = absurd (cc)
at_least-one (pos (suc n)) e = omega arith
at_least-one (negsuc n) e = absurd (cc)

whole_from_to-some : (d : Data) (n : ℕ) → Some n ≡ whole_from_to 1 MAX_FILES d → 1 ≤ n
whole_from_to-some d n e = let z = given-some (whole d) (λ z. only_if (is_from_to (pos 1) (pos MAX_FILES) z) (Some (nat_abs z))) n e in
    let o = only_if-some (is_from_to (pos 1) (pos MAX_FILES) z.0) (Some (nat_abs z.0)) n z.2 in
    subst (λ k. 1 ≤ k) (let g : nat_abs z.0 ≡ n = cc (o.1) in g) (at_least-one z.0 o.0)

-- a source has a file
source_with-files : (nulls : Option (List (List ℕ))) (d : Data) (s : Source) → Some s ≡ source_with nulls d → 1 ≤ s.files
source_with-files nulls d s e =
    let columns : Data → Option Fields = each_of (pair_of name_of (word kinds)) in
    let with_nulls : ℕ → Fields → Option Source = λ files fields. option_map (λ texts. record { files = files; fields = fields; nulls = texts; notations = []; projection = [] }) nulls in
    let with_columns : ℕ → Option Source = λ files. given (member (codes "columns") columns d) (with_nulls files) in
    let n = given-some (member (codes "files") (whole_from_to 1 MAX_FILES) d) with_columns s e in
    let f = given-some (get (codes "files") d) (whole_from_to 1 MAX_FILES) n.0 n.1 in
    let c = given-some (member (codes "columns") columns d) (with_nulls n.0) s n.2 in
    subst (λ k. 1 ≤ k) (go nulls n.0 c.0 c.2) (whole_from_to-some f.0 n.0 f.2)
  where
    go : (o : Option (List (List ℕ))) (files : ℕ) (fields : Fields) → Some s ≡ option_map (λ texts. let s : Source = record { files = files; fields = fields; nulls = texts; notations = []; projection = [] } in s) o → files ≡ s.files
    go None files fields e = absurd (cc e)
    go (Some texts) files fields e = ap (λ (o : Option Source). elim o [ None ↦ 0 | Some t ↦ t.files ]) (sym e)

pub source_of-files : (version : Version) (d : Data) (s : Source) → Some s ≡ source_of version d → 1 ≤ s.files
source_of-files One d s e = source_with-files (Some []) d s (only_if-some (has_members 2 d) (source_with (Some []) d) s e).1
source_of-files Two d s e = go (has_members 2 d) e
  where
    with_texts : Option Source
    with_texts = source_with (with_length 0 MAX_NULL_VALUES (member (codes "null_values") names d)) d

    go : (b : Bool) → Some s ≡ (if b then source_with (Some []) d else only_if (has_members 3 d) with_texts) → 1 ≤ s.files
    go true e = source_with-files (Some []) d s e
    go false e = source_with-files (with_length 0 MAX_NULL_VALUES (member (codes "null_values") names d)) d s (only_if-some (has_members 3 d) with_texts s e).1
