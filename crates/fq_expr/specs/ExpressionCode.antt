-- An expression as the list of its parts, the operands before the operation, by which a proof tells expressions apart.
use Rattle.std.specs.Prelude.{◌≡◌, ℕ, ℤ, Bool, false, List, [], ◌∷◌, ◌++◌, refl}
use Rattle.std.proofs.Common.{◌∙◌, ap}
use Rattle.std.specs.Coded.{Coded, code_by, coded_list}
use Rattle.fq_column.specs.declared.cells.Kind.{Kind}
use Rattle.fq_column.specs.Frame.{Name}
use Rattle.fq_expr.specs.declared.expressions.Unary.{Unary}
use Rattle.fq_expr.specs.declared.expressions.Binary.{Binary}
use Rattle.fq_expr.specs.Expression.{Expression, column, null, whole, text, truth, unary, binary}

pub data Part : Type 0 where
  a_column : Name → Part
  a_null : Kind → Part
  a_whole : ℤ → Part
  a_text : List ℕ → Part
  a_truth : Bool → Part
  a_unary : Unary → Part
  a_binary : Binary → Part

abbrev pub parts_of : Expression → List Part
parts_of (column n) = a_column n ∷ []
parts_of (null k) = a_null k ∷ []
parts_of (whole n) = a_whole n ∷ []
parts_of (text t) = a_text t ∷ []
parts_of (truth b) = a_truth b ∷ []
parts_of (unary op e) = parts_of e ++ (a_unary op ∷ [])
parts_of (binary op d e) = parts_of d ++ (parts_of e ++ (a_binary op ∷ []))

-- one part, over the expressions that wait, the latest first
abbrev pub place : Part → List Expression → List Expression
place (a_column n) waiting = column n ∷ waiting
place (a_null k) waiting = null k ∷ waiting
place (a_whole n) waiting = whole n ∷ waiting
place (a_text t) waiting = text t ∷ waiting
place (a_truth b) waiting = truth b ∷ waiting
place (a_unary op) [] = []
place (a_unary op) (e ∷ waiting) = unary op e ∷ waiting
place (a_binary op) [] = []
place (a_binary op) (e ∷ []) = []
place (a_binary op) (e ∷ d ∷ waiting) = binary op d e ∷ waiting

abbrev pub place_all : List Part → List Expression → List Expression
place_all [] waiting = waiting
place_all (p ∷ ps) waiting = place_all ps (place p waiting)

abbrev pub first_placed : List Expression → Expression
first_placed [] = truth false
first_placed (e ∷ es) = e

pub place_all-append : (ps qs : List Part) (waiting : List Expression) → place_all (ps ++ qs) waiting ≡ place_all qs (place_all ps waiting)
place_all-append [] qs waiting = refl
place_all-append (p ∷ ps) qs waiting = place_all-append ps qs (place p waiting)

pub place_all-parts_of : (e : Expression) (waiting : List Expression) → place_all (parts_of e) waiting ≡ e ∷ waiting
place_all-parts_of (column n) waiting = refl
place_all-parts_of (null k) waiting = refl
place_all-parts_of (whole n) waiting = refl
place_all-parts_of (text t) waiting = refl
place_all-parts_of (truth b) waiting = refl
place_all-parts_of (unary op e) waiting = place_all-append (parts_of e) (a_unary op ∷ []) waiting ∙ ap (place (a_unary op)) (place_all-parts_of e waiting)
place_all-parts_of (binary op d e) waiting =
    place_all-append (parts_of d) (parts_of e ++ (a_binary op ∷ [])) waiting
    ∙ ap (place_all (parts_of e ++ (a_binary op ∷ []))) (place_all-parts_of d waiting)
    ∙ place_all-append (parts_of e) (a_binary op ∷ []) (d ∷ waiting)
    ∙ ap (place (a_binary op)) (place_all-parts_of e (d ∷ waiting))

abbrev pub expression_code : Coded Part → Coded Expression
expression_code c = code_by (List Part) (coded_list c) parts_of (λ ps. first_placed (place_all ps [])) (λ e. ap first_placed (place_all-parts_of e []))
