-- What a JSON reader's answer says of the plan that bytes spell.
use Rattle.std.proofs.Common.{◌≡◌, ℕ, Bool, true, false, List, Option, Some, None, Result, Err, IsOk, IsUtf8, refl, ap, sym, subst, rules, ◌∙◌}
use Rattle.std.specs.Prelude.{ok_or}
use Rattle.std.specs.Str.{is_utf8}
use Rattle.std.proofs.lemmas.Str.{IsUtf8-from_is_utf8, is_utf8-from_IsUtf8}
use Rattle.serde_json.specs.Data.{Data}
use Rattle.serde_json.specs.Read.{read}
use Rattle.fq_language.specs.Parts.{only_if}
use Rattle.fq_language.specs.Spelling.{plan_of, read_as_plan}
use Rattle.fq_language.specs.Plan.{PlanData}
use Rattle.fq_language.specs.declared.faults.PlanFault.{PlanFault}
use Rattle.fq_language.specs.declared.faults.PlanFault.TheVariants.{Json, Shape}

abbrev of_data : Option Data → Result PlanData PlanFault
of_data o = elim o [ None ↦ Err Json | Some d ↦ ok_or (plan_of d) Shape ]

pub read_as_plan-some : (bytes : List ℕ) (d : Data) (o : Option PlanData) → IsUtf8 bytes → read bytes ≡ Some d → o ≡ plan_of d → ok_or o Shape ≡ read_as_plan bytes
read_as_plan-some bytes d o valid e same =
    ap (λ p. ok_or p Shape) same ∙ sym (ap (λ b. of_data (only_if b (read bytes))) (is_utf8-from_IsUtf8 bytes valid) ∙ ap of_data e)

pub read_as_plan-none : (bytes : List ℕ) → (IsUtf8 bytes → read bytes ≡ None) → Err Json ≡ read_as_plan bytes
read_as_plan-none bytes h = go (is_utf8 bytes) refl
  where
    go : (b : Bool) → is_utf8 bytes ≡ b → Err Json ≡ read_as_plan bytes
    go true e = sym (ap (λ b. of_data (only_if b (read bytes))) e ∙ ap of_data (h (IsUtf8-from_is_utf8 bytes e)))
    go false e = sym (ap (λ b. of_data (only_if b (read bytes))) e)

-- if the value that was read spells a plan, the bytes do
pub spells-if_read : (bytes : List ℕ) (d : Data) (p : PlanData) → IsUtf8 bytes → read bytes ≡ Some d → Some p ≡ plan_of d → IsOk (read_as_plan bytes)
spells-if_read bytes d p valid e same =
    let P : Result PlanData PlanFault → Type 0 = λ r. IsOk r in subst P (read_as_plan-some bytes d (Some p) valid e same) (search rules)

-- if no value was read, the bytes spell no plan
pub spells_not-if_unread : (bytes : List ℕ) → (IsUtf8 bytes → read bytes ≡ None) → IsOk (read_as_plan bytes) → ⊥
spells_not-if_unread bytes h ok =
    let P : Result PlanData PlanFault → Type 0 = λ r. IsOk r in
    let none : P (Err Json) = subst P (sym (read_as_plan-none bytes h)) ok in
    let unequal : false ≡ true = none in cc
