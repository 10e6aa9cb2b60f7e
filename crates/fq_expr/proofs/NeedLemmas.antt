-- Whether a step needs a column, by whether it is needed after the step.
use Rattle.std.proofs.Common.{◌≡◌, Bool, not, ◌&&◌, ◌||◌, List, [], ◌∷◌, refl, ap, sym, ◌∙◌}
use Rattle.std.specs.Prelude.{String, filter}
use Rattle.std.specs.List.{list_any}
use Rattle.fq_column.specs.Frame.{Name, has_name}
use Rattle.fq_column.proofs.HasNameLemmas.{has_name-append, has_name-kept}
use Rattle.fq_expr.specs.declared.expressions.Expr.{Expr}
use Rattle.fq_expr.specs.Expression.{with_columns}
use Rattle.fq_expr.specs.ExpressionData.{expression_of, items_of}
use Rattle.fq_expr.specs.Kinds.{item_names}
use Rattle.fq_expr.specs.Needed.{names_read, names_read_by, needed_before}

module _ {A : Type 0} (n : Name) where
  abbrev pub Reads : List (String A × Expr) → Bool → Type 0
  Reads items reads = reads ≡ list_any (λ i. has_name (names_read (expression_of i.1)) n) items

  -- what an item reads, the items read
  pub read-by : (items : List (String A × Expr)) → list_any (λ i. has_name (names_read (expression_of i.1)) n) items ≡ has_name (names_read_by (items_of items)) n
  read-by [] = refl
  read-by (i ∷ items) =
      ap (λ b. has_name (names_read (expression_of i.1)) n || b) (read-by items)
      ∙ sym (has_name-append (names_read (expression_of i.1)) (names_read_by (items_of items)) n)

  pub with_columns-need : (items : List (String A × Expr)) (needed : List Name) (reads after puts : Bool) → Reads items reads → has_name needed n ≡ after → puts ≡ has_name (item_names (items_of items)) n →
      (reads || (after && not puts)) ≡ has_name (needed_before (with_columns (items_of items)) needed) n
  with_columns-need items needed reads after puts r a p =
      let put : Name → Bool = λ m. not (has_name (item_names (items_of items)) m) in
      (λ i. (r ∙ read-by items) i || (sym a i && not (p i)))
      ∙ ap (λ b. has_name (names_read_by (items_of items)) n || b) (sym (has_name-kept put needed n))
      ∙ sym (has_name-append (names_read_by (items_of items)) (filter put needed) n)
