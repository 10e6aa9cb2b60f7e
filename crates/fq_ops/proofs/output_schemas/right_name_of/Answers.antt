use Rattle.std.proofs.Common.{arith, ◌≡◌, ◌++◌, string_bytes, codes, true, false, is_some, Some, None, sym, ap, ◌∙◌, if◌then◌else◌, Option, ℕ}
use Rattle.fq_column.specs.Frame.{Fields, Name, names_of, position_of}
use Rattle.fq_ops.specs.Join.{right_name}
use Rattle.fq_column.proofs.NameLemmas.{named-at, unnamed}
use Rattle.fq_ops.proofs.output_schemas.right_name_of.Goals as goal
use Rattle.fq_ops.proofs.output_schemas.right_name_of.Goals.{then-is_some+in_ok-push_str, else-is_some}

-- the name in the output, by whether the name has a place
suffixed : (left : Fields) (n : Name) (o : Option ℕ) → position_of n (names_of left) ≡ o → is_some o ≡ true → right_name left n ≡ n ++ codes "_right"
suffixed left n None e s = absurd (cc)
suffixed left n (Some i) e s = ap (λ b. if b then n ++ codes "_right" else n) (named-at left n i e)

kept : (left : Fields) (n : Name) (o : Option ℕ) → position_of n (names_of left) ≡ o → is_some o ≡ false → right_name left n ≡ n
kept left n None e s = ap (λ b. if b then n ++ codes "_right" else n) (unnamed left n e)
kept left n (Some i) e s = absurd (cc)

pub returns : goal.returns
returns c =
    let left = c.args.left.now in
    let name = c.args.name.now in
    let placed : position_of name (names_of left) ≡ c.position.result = sym c.position.ensures in
    elim c.if-is_some.branch [
      | then-is_some+in_ok-push_str w ↦
          let renamed : right_name left name ≡ name ++ codes "_right" = suffixed left name c.position.result placed (sym w.if-is_some.ensures) in
          let copied : string_bytes c.in_ok-output.output ≡ name = c.in_ok-output.ensures.ok in
          grind (arith, renamed, copied)
      | else-is_some w ↦ ap string_bytes w.output-is ∙ c.in_ok-output.ensures.ok ∙ sym (kept left name c.position.result placed (sym w.if-is_some.ensures))
    ]
