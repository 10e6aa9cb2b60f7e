-- The items of the program's lists, as data.
use Rattle.std.proofs.Common.{◌≡◌, ℕ, zero, suc, ◌+◌, ◌<◌, List, [], ◌∷◌, ◌++◌, length, take, get_or, refl, ap, sym, ◌∙◌, arith, string_bytes, String}
use Rattle.std.proofs.lemmas.List.{take_more}
use Rattle.fq_column.specs.Frame.{Name}
use Rattle.fq_expr.specs.declared.expressions.Expr.{Expr}
use Rattle.fq_expr.specs.Expression.{Item}
use Rattle.fq_expr.specs.Kinds.{item_names}
use Rattle.fq_expr.specs.ExpressionData.{items_of, expression_of}

module _ {A : Type 0} where
  pub length-items_of : (items : List (String A × Expr)) → length (items_of items) ≡ length items
  length-items_of [] = refl
  length-items_of (x ∷ items) = ap suc (length-items_of items)

  pub length-item_names : (items : List (String A × Expr)) → length (item_names (items_of items)) ≡ length items
  length-item_names [] = refl
  length-item_names (x ∷ items) = ap suc (length-item_names items)

  -- the name of the item at a place
  pub item_names-at : (items : List (String A × Expr)) (i : ℕ) (x : String A × Expr) (d : Name) → i < length items → x ≡ get_or items i x → get_or (item_names (items_of items)) i d ≡ string_bytes x.0
  item_names-at [] i x d h e = absurd (omega (arith, h))
  item_names-at (y ∷ items) zero x d h e = ap (λ (z : String A × Expr). string_bytes z.0) (sym e)
  item_names-at (y ∷ items) (suc i) x d h e = item_names-at items i x d (omega (arith, h)) e

  -- the item at a place, as data
  pub items_of-at : (items : List (String A × Expr)) (i : ℕ) (x : String A × Expr) (d : Item) → i < length items → x ≡ get_or items i x → get_or (items_of items) i d ≡ (string_bytes x.0, expression_of x.1)
  items_of-at [] i x d h e = absurd (omega (arith, h))
  items_of-at (y ∷ items) zero x d h e = ap (λ (z : String A × Expr). (string_bytes z.0, expression_of z.1)) (sym e)
  items_of-at (y ∷ items) (suc i) x d h e = items_of-at items i x d (omega (arith, h)) e

  -- one item more
  pub items_of-step : (items : List (String A × Expr)) (i : ℕ) (x : String A × Expr) → i < length items → x ≡ get_or items i x → take (i + 1) (items_of items) ≡ take i (items_of items) ++ (string_bytes x.0, expression_of x.1) ∷ []
  items_of-step items i x h e = take_more (items_of items) i (string_bytes x.0, expression_of x.1) (omega (arith, length-items_of items, h)) ∙ ap (λ y. take i (items_of items) ++ y ∷ []) (items_of-at items i x (string_bytes x.0, expression_of x.1) h e)
