-- What can be read out of a JSON value (RFC 8259).
--     given o f                 f of what is there
--     only_if b o               what is there, if b holds
--     word table d              what a string stands for
--     each_of f d               f of each item of an array
--     pair_of f g d             f and g of the two items of an array
--     member name f d           f of the member of that name
--     has_members n d           whether a value is an object of n members
--     one_member readers d      what the reader under the name of an object's only member gives
use Rattle.std.specs.Prelude.{ℕ, ◌+◌, ◌==◌, ◌&&◌, Bool, false, nat_le, ℤ, pos, nat_abs, List, [], ◌∷◌, length, Option, Some, None, option_map, option_and_then, if◌then◌else◌}
use Rattle.serde_json.specs.Data.{Data, array, object, Items, no_items, item, Members, no_members, member as member_then}
use Rattle.serde_json.specs.Find.{get, as_array, as_number, as_i64, as_str}
use Rattle.fq_column.specs.Frame.{Name, same_name}
use Rattle.fq_ops.specs.Roll.{is_from_to}

abbrev pub given : {X Y : Type 0} → Option X → (X → Option Y) → Option Y
given o f = option_and_then f o

abbrev pub only_if : {X : Type 0} → Bool → Option X → Option X
only_if condition o = if condition then o else None

-- ---- strings and numbers

-- any string
abbrev pub name_of : Data → Option Name
name_of = as_str

-- what stands under a name
abbrev pub under : {X : Type 0} → List (Name × X) → Name → Option X
under [] name = None
under (p ∷ ps) name = if same_name name p.0 then Some p.1 else under ps name

abbrev pub word : {X : Type 0} → List (Name × X) → Data → Option X
word table d = given (as_str d) (under table)

-- a whole number of 64 bits; a number with a fraction or an exponent is none
abbrev pub whole : Data → Option ℤ
whole d = given (as_number d) as_i64

abbrev pub whole_from_to : ℕ → ℕ → Data → Option ℕ
whole_from_to low high d = given (whole d) (λ z. only_if (is_from_to (pos low) (pos high) z) (Some (nat_abs z)))

-- ---- arrays

-- f of each item, if each gives a value
abbrev pub items_as : {X : Type 0} → (Data → Option X) → Items → Option (List X)
items_as f no_items = Some []
items_as f (item d ds) = given (f d) (λ x. option_map (λ xs. x ∷ xs) (items_as f ds))

abbrev pub each_of : {X : Type 0} → (Data → Option X) → Data → Option (List X)
each_of f d = given (as_array d) (items_as f)

-- from low to high values
abbrev pub with_length : {X : Type 0} → ℕ → ℕ → Option (List X) → Option (List X)
with_length low high o = given o (λ xs. only_if (nat_le low (length xs) && nat_le (length xs) high) (Some xs))

abbrev pub two_items : Data → Option (Data × Data)
two_items (array (item a (item b no_items))) = Some (a, b)
two_items _ = None

abbrev pub three_items : Data → Option (Data × Data × Data)
three_items (array (item a (item b (item c no_items)))) = Some (a, b, c)
three_items _ = None

abbrev pub pair_of : {X Y : Type 0} → (Data → Option X) → (Data → Option Y) → Data → Option (X × Y)
pair_of f g d = given (two_items d) (λ items. given (f items.0) (λ x. option_map (λ y. (x, y)) (g items.1)))

-- ---- objects

abbrev pub count_of_members : Members → ℕ
count_of_members no_members = 0
count_of_members (member_then name d ms) = count_of_members ms + 1

-- an object of n members in which n names are found has these members and no others
abbrev pub has_members : ℕ → Data → Bool
has_members n (object ms) = count_of_members ms == n
has_members n _ = false

abbrev pub member : {X : Type 0} → Name → (Data → Option X) → Data → Option X
member name f d = given (get name d) f

-- the value of an object's only member, if that has this name
abbrev pub only_member : Name → Data → Option Data
only_member name (object (member_then n d no_members)) = if same_name name n then Some d else None
only_member name _ = None

abbrev pub one_member : {X : Type 0} → List (Name × (Data → Option X)) → Data → Option X
one_member [] d = None
one_member (r ∷ readers) d = elim (only_member r.0 d) [ None ↦ one_member readers d | Some inner ↦ r.1 inner ]
