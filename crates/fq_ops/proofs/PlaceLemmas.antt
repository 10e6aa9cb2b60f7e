-- Keys by the places of their columns, and by their names.
use Rattle.std.proofs.Common.{◌≡◌, ℕ, List, [], ◌∷◌, map, length, Option, Some, slice_index_or, refl, sym, ap, ◌∙◌}
use Rattle.std.specs.Option.{option_map_or}
use Rattle.std.proofs.lemmas.List.{length-map}
use Rattle.fq_column.specs.declared.cells.Cell.TheVariants.{Null}
use Rattle.fq_column.specs.Frame.{Fields, Name, Row, names_of, position_of, value_at}
use Rattle.fq_ops.specs.Fields.{AreAt}
use Rattle.fq_ops.specs.Group.{key_of}
use Rattle.fq_ops.specs.Grouping.{key_at}
use Rattle.fq_ops.specs.Pairs.{named_key}

key_by : (f : Name → Option ℕ) (row : Row) (places : List ℕ) (keys : List Name) → map Some places ≡ map f keys → map (λ n. option_map_or (λ i. value_at i row) (f n) Null) keys ≡ key_at places row
key_by f row [] [] e = refl
key_by f row (p ∷ places) [] e = (cc)
key_by f row [] (k ∷ keys) e = (cc)
key_by f row (p ∷ places) (k ∷ keys) e =
    let here : Some p ≡ f k = (cc) in
    let rest : map Some places ≡ map f keys = (cc) in
    ap (λ o. option_map_or (λ i. value_at i row) o Null ∷ map (λ n. option_map_or (λ i. value_at i row) (f n) Null) keys) (sym here) ∙ ap (λ l. value_at p row ∷ l) (key_by f row places keys rest)

module _ (fields : Fields) (keys : List Name) (places : List ℕ) (at : AreAt places keys fields) where
  pub key-named : (row : Row) → key_of fields keys row ≡ key_at places row
  key-named row = key_by (λ n. position_of n (names_of fields)) row places keys at

  pub key-same : key_at places ≡ key_of fields keys
  key-same = λ i row. sym (key-named row) i

  pub length-places : length places ≡ length keys
  length-places = sym (length-map places Some) ∙ ap length at ∙ length-map keys (λ n. position_of n (names_of fields))

  -- the keys of rows by place
  pub keys-named : (rows : List Row) (ps : List ℕ) → ps ≡ places → (λ n. key_at ps (slice_index_or rows n [])) ≡ named_key fields keys rows
  keys-named rows ps e = λ i n. (ap (λ qs. key_at qs (slice_index_or rows n [])) e ∙ sym (key-named (slice_index_or rows n []))) i
