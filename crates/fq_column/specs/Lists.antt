-- Words on lists that std lacks.
--     zip_with f xs ys      f of the items at each place, as far as both lists go
--     keep mask xs      the items whose mark is true
--     value_if mark x      the value, if the mark is true
--     numbers n      0 up to n
--     pieces b xs      xs cut into runs of b
--     is_distinct eq xs      whether no item is equal to a later one
--     before_missing, first_missing, all_or_missing      of a list of values some of which may be missing
use Rattle.std.specs.Prelude.{ℕ, suc, ◌*◌, Bool, true, ◌&&◌, not, List, [], ◌∷◌, map, length, take, drop, Option, Some, None, is_none, Result, Ok, Err, position, if◌then◌else◌}
use Rattle.std.specs.List.{range_with_len, list_any}
use Rattle.std.specs.Result.{result_map_both}
use Rattle.std.specs.Int.{div_ceil}

-- f of the items at each place, as far as both lists go
abbrev pub zip_with : {X Y Z : Type 0} → (X → Y → Z) → List X → List Y → List Z
zip_with f [] ys = []
zip_with f (x ∷ xs) [] = []
zip_with f (x ∷ xs) (y ∷ ys) = f x y ∷ zip_with f xs ys

-- the items whose mark is true
abbrev pub keep : {X : Type 0} → List Bool → List X → List X
keep [] xs = []
keep (b ∷ bs) [] = []
keep (b ∷ bs) (x ∷ xs) = if b then x ∷ keep bs xs else keep bs xs

-- the value, if the mark is true
abbrev pub value_if : {X : Type 0} → Bool → X → Option X
value_if mark x = if mark then Some x else None

-- 0 up to n
abbrev pub numbers : ℕ → List ℕ
numbers n = range_with_len 0 n

-- the list cut into runs of b, the last one shorter or full, none empty: run i is what stands from place i * b on
abbrev pub pieces : {X : Type 0} → ℕ → List X → List (List X)
pieces b xs = map (λ i. take b (drop (i * b) xs)) (numbers (div_ceil (length xs) b))

-- whether no item is equal to a later one
abbrev pub is_distinct : {X : Type 0} → (X → X → Bool) → List X → Bool
is_distinct eq [] = true
is_distinct eq (x ∷ xs) = not (list_any (eq x) xs) && is_distinct eq xs

-- the values before the first that is missing
abbrev pub before_missing : {X : Type 0} → List (Option X) → List X
before_missing [] = []
before_missing (None ∷ xs) = []
before_missing (Some x ∷ xs) = x ∷ before_missing xs

-- the place of the first that is missing
abbrev pub first_missing : {X : Type 0} → List (Option X) → Option ℕ
first_missing xs = position is_none xs

-- all the values, or the place of the first that is missing
abbrev pub all_or_missing : {X : Type 0} → List (Option X) → Result (List X) ℕ
all_or_missing [] = Ok []
all_or_missing (None ∷ xs) = Err 0
all_or_missing (Some x ∷ xs) = result_map_both (λ rest. x ∷ rest) suc (all_or_missing xs)
