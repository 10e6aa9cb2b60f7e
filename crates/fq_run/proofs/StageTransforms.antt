-- The transforms of stages take columns to columns, and operators that are started run as these.
use Rattle.std.proofs.Common.{◌≡◌, ℕ, ◌+◌, List, [], ◌∷◌, ◌++◌, map, length, Option, Some, None, Result, Ok, Err, pos, refl, ap, sym, ◌∙◌, subst, get_or, string_bytes, suc, ◌<◌, drop, arith, append-nil, append_assoc, IsOk, Bool}
use Rattle.std.proofs.Math.Seq.{drop-cons}
use Rattle.std.specs.Prelude.{is_ok, option_map, nat_lt, not, ◌==◌, slice_get, slice_index_or}
use Rattle.std.proofs.lemmas.Option.{get_or_from_slice_get, slice_get-map}
use Rattle.fq_column.specs.declared.cells.Kind.{Kind}
use Rattle.fq_column.specs.declared.cells.Kind.TheVariants.{Whole}
use Rattle.fq_column.specs.declared.faults.StepFault.{StepFault}
use Rattle.fq_column.specs.Frame.{Fields, Frame, Name, Row, put_named, same_name}
use Rattle.fq_column.specs.Cell.{same_kind}
use Rattle.fq_column.specs.Lists.{is_distinct}
use Rattle.fq_ops.specs.Fields.{refusals}
use Rattle.fq_ops.proofs.RefusalLemmas.{join-output}
use Rattle.fq_column.specs.declared.faults.StepFault.TheVariants.{DoubleName, NoColumn, Samples, TooMany, Window, WrongKind}
use Rattle.fq_column.specs.Refusal.{and_then, first_refusal, refuse_if, unless_refused}
use Rattle.fq_column.specs.Schema.{kind_named}
use Rattle.fq_column.specs.Stream.{Stream, done, then_stream}
use Rattle.fq_expr.specs.Steps.{fields_after_all}
use Rattle.fq_ops.specs.Group.{grouped_fields, grouped_kinds, grouped_names}
use Rattle.fq_ops.specs.Join.{join_schema, joined_fields}
use Rattle.fq_ops.specs.AggregateData.{outputs_of}
use Rattle.fq_ops.specs.Roll.{is_from_to}
use Rattle.fq_ops.specs.Aggregate.{Output}
use Rattle.fq_ops.specs.declared.joins.How.{How}
use Rattle.fq_run.specs.Outcome.{columns_after}
use Rattle.fq_run.specs.Transforms.{Chain, Transform, given_all, group_transform, join_transform, roll_transform}
use Rattle.fq_run.specs.Pipelines.{HasRun}
use Rattle.fq_run.specs.RunningOperators.{HasGrouped, HasJoined, HasSummed, HasTaken, HaveTaken}
use Rattle.fq_run.specs.declared.operators.RunningOperator.{RunningOperator}
use Rattle.fq_run.specs.declared.operators.RunningOperator.TheVariants as running
use Rattle.fq_run.specs.declared.operators.grouping.Grouping.{Grouping}
use Rattle.fq_run.specs.declared.operators.joining.Joining.{Joining}
use Rattle.fq_run.specs.declared.operators.rolling.Summing.{Summing}
use Rattle.fq_run.specs.Stages.{Accepts, Fit, schema_with}
use Rattle.fq_run.specs.Starting.{transform_of, transforms_of, nothing}
use Rattle.fq_run.specs.declared.faults.Fault.{Fault}
use Rattle.fq_run.specs.declared.operators.Operator.{Operator}
use Rattle.fq_run.specs.declared.operators.Operator.TheVariants.{Rows, Join, GroupBy, RollingSum}
use Rattle.fq_run.specs.declared.stages.Stage.{Stage}
use Rattle.fq_run.proofs.TransformLemmas.{group-causal, join-causal, roll-causal}
use Rattle.fq_run.proofs.StageLemmas.{apply_steps-none, fields-after-all}
use Rattle.fq_column.specs.declared.schemas.TheConstants.{MAX_COLUMNS}
use Rattle.fq_ops.specs.declared.rolls.TheConstants.{MAX_WINDOW}

-- what is given if nothing is refused
module _ {X : Type 0} (x y : X) where
  by-none : (o : Option StepFault) → (let r : Result X StepFault = elim o [ Some f ↦ Err f | None ↦ Ok x ] in r) ≡ Ok y → x ≡ y
  by-none None e = cc
  by-none (Some f) e = absurd (cc)

  accepted-is : (checks : List (Option StepFault)) → unless_refused checks x ≡ Ok y → x ≡ y
  accepted-is checks e = by-none (first_refusal checks) e

  and-accepted-is : (o : Result Kind StepFault) (checks : Kind → List (Option StepFault)) → and_then o (λ k. unless_refused (checks k) x) ≡ Ok y → x ≡ y
  and-accepted-is (Ok k) checks e = accepted-is (checks k) e
  and-accepted-is (Err f) checks e = absurd (let g : Err f ≡ Ok y = e in cc)

ok-is : (x y : Fields) → (let r : Result Fields StepFault = Ok x in r) ≡ Ok y → x ≡ y
ok-is x y e = cc

abbrev group_checks : Fields → List Name → List Output → List (Option StepFault)
group_checks fields keys outputs =
    refuse_if (length keys == 0) NoColumn
    ∷ (refusals (grouped_kinds fields keys outputs)
    ++ (refuse_if (nat_lt MAX_COLUMNS (length (grouped_names keys outputs))) TooMany
    ∷ refuse_if (not (is_distinct same_name (grouped_names keys outputs))) DoubleName ∷ []))

abbrev roll_checks : Fields → ℕ → ℕ → Name → Kind → List (Option StepFault)
roll_checks fields window least name k =
    refuse_if (not (same_kind k Whole)) WrongKind
    ∷ refuse_if (not (is_from_to (pos 1) (pos MAX_WINDOW) (pos window))) Window
    ∷ refuse_if (not (is_from_to (pos 1) (pos window) (pos least))) Samples
    ∷ refuse_if (nat_lt MAX_COLUMNS (length (put_named fields (name, Whole)))) TooMany ∷ []

-- a transform that takes rows of these columns to those, and has passed nothing on of no rows
pub record IsTransform (fields after : Fields) (m : Transform) : Type 0 where
  pub takes : m.takes ≡ fields
  pub gives : m.gives ≡ after
  pub starts : m.at_once [] ≡ done []

module _ (sides : List Frame) where
  abbrev columns : List Fields
  columns = map (λ (f : Frame). f.fields) sides

  -- the source of a join that is not refused
  pub source-of : (how : How) (source : ℕ) (on : List Name) (fields after : Fields) → schema_with how fields on (slice_get columns source) ≡ Ok after →
      (right : Frame) × (slice_get sides source ≡ Some right) × (join_schema how fields right.fields on ≡ Ok after)
  source-of how source on fields after t = go (slice_get sides source) refl (ap (schema_with how fields on) (sym (slice_get-map (λ (f : Frame). f.fields) sides source)) ∙ t)
    where
      go : (o : Option Frame) → slice_get sides source ≡ o → schema_with how fields on (option_map (λ (f : Frame). f.fields) o) ≡ Ok after →
          (right : Frame) × (slice_get sides source ≡ Some right) × (join_schema how fields right.fields on ≡ Ok after)
      go None e h = absurd (cc)
      go (Some right) e h = (right, e, h)

  pub transform-is : (n : ℕ) (fields after : Fields) (operator : Operator) → Accepts columns fields operator after → IsTransform fields after (transform_of sides n fields operator)
  transform-is n fields after (Rows front) t = record {
    takes = t.0;
    gives = ap (λ (f : Fields). fields_after_all f front.steps) t.0 ∙ fields-after-all fields after front.steps t.1;
    starts = apply_steps-none front.first front.fields front.steps None;
  }
  transform-is n fields after (Join j) t =
      let names = map string_bytes j.on.items in
      let at = source-of j.how j.source names fields after t in
      let right = slice_index_or sides j.source nothing in
      let same : right ≡ at.0 = get_or_from_slice_get sides j.source at.0 nothing at.1 in record {
        takes = refl;
        gives = ap (λ (f : Frame). joined_fields j.how fields f.fields names) same ∙ ok-is (joined_fields j.how fields at.0.fields names) after (sym (join-output j.how fields at.0.fields names (ap is_ok at.2)) ∙ at.2);
        starts = refl;
      }
  transform-is n fields after (GroupBy g) t =
      let names = map string_bytes g.keys.items in let outputs = outputs_of g.aggs.items in record {
        takes = refl;
        gives = accepted-is (grouped_fields fields names outputs) after (group_checks fields names outputs) t;
        starts = refl;
      }
  transform-is n fields after (RollingSum r) t =
      let to = string_bytes r.name in record {
        takes = refl;
        gives = and-accepted-is (put_named fields (to, Whole)) after (kind_named fields (string_bytes r.column)) (roll_checks fields r.window r.min_samples to) t;
        starts = refl;
      }

  -- ---- stages, one after the other

  pub chain-of : (fields after : Fields) (stages : List Stage) → Fit columns fields stages after → Chain fields (transforms_of sides fields stages) after
  chain-of fields after [] fits = fits
  chain-of fields after (s ∷ stages) (accepts, fits) =
      let is = transform-is s.number fields s.after s.operator accepts in
      (is.takes, subst (λ (f : Fields). Chain f (transforms_of sides f stages) after) (sym is.gives) (chain-of s.after after stages fits))

  pub starts-of : (fields after : Fields) (stages : List Stage) → Fit columns fields stages after → given_all (transforms_of sides fields stages) (done []) ≡ done []
  starts-of fields after [] fits = refl
  starts-of fields after (s ∷ stages) (accepts, fits) =
      let is = transform-is s.number fields s.after s.operator accepts in
      ap (λ (a : Stream Fault). given_all (transforms_of sides (transform_of sides s.number fields s.operator).gives stages) (then_stream a (done []))) is.starts
      ∙ ap (λ (f : Fields). given_all (transforms_of sides f stages) (done [])) is.gives
      ∙ starts-of s.after after stages fits

  last-is : (fields : Fields) (ms : List Transform) (after : Fields) → Chain fields ms after → columns_after fields ms ≡ after
  last-is fields [] after chain = chain
  last-is fields (m ∷ ms) after chain = last-is m.gives ms after chain.1

  pub columns-of : (fields after : Fields) (stages : List Stage) → Fit columns fields stages after → columns_after fields (transforms_of sides fields stages) ≡ after
  columns-of fields after stages fits = last-is fields (transforms_of sides fields stages) after (chain-of fields after stages fits)

-- ---- operators that have taken no row

module _ (sides : List Frame) (n : ℕ) (fields after : Fields) where
  module _ (source : ℕ) (on : List Name) (right : Frame) (is : right ≡ get_or sides source right) (how : How) (nulls_equal : Bool) (t : schema_with how fields on (slice_get (map (λ (f : Frame). f.fields) sides) source) ≡ Ok after) where
    found : (r : Frame) × (slice_get sides source ≡ Some r) × (join_schema how fields r.fields on ≡ Ok after)
    found = source-of sides how source on fields after t

    right-found : right ≡ found.0
    right-found = is ∙ get_or_from_slice_get sides source found.0 right found.1

    pub join-can : (names : List Name) → names ≡ on → IsOk (join_schema how fields right.fields names)
    join-can names e = ap is_ok ((λ i. join_schema how fields (right-found i).fields (e i)) ∙ found.2)

    pub join-started : (names : List Name) → names ≡ on → (j : Joining) → ((left : Fields) → IsOk (join_schema how left right.fields names) → HasJoined j (join_transform n how (record { fields = right.fields; rows = right.rows; on = names; nulls_equal = nulls_equal }) left) []) →
        HasTaken (running.Join j) (let r = slice_index_or sides source nothing in join_transform n how (record { fields = r.fields; rows = r.rows; on = on; nulls_equal = nulls_equal }) fields) []
    join-started names e j h =
        let same : right ≡ slice_index_or sides source nothing = right-found ∙ sym (get_or_from_slice_get sides source found.0 nothing found.1) in
        subst (λ (r : Frame). HasTaken (running.Join j) (join_transform n how (record { fields = r.fields; rows = r.rows; on = on; nulls_equal = nulls_equal }) fields) []) same
        (record { causal = join-causal n how (record { fields = right.fields; rows = right.rows; on = on; nulls_equal = nulls_equal }) fields; faultless = refl; keeps = subst (λ (ns : List Name). HasJoined j (join_transform n how (record { fields = right.fields; rows = right.rows; on = ns; nulls_equal = nulls_equal }) fields) []) e (h fields (join-can names e)) })

  pub group-started : (keys names : List Name) (outputs made : List Output) → names ≡ keys → made ≡ outputs → (g : Grouping) → HasGrouped g (group_transform n fields names made) [] → HasTaken (running.Group g) (group_transform n fields keys outputs) []
  group-started keys names outputs made e f g h = record {
    causal = group-causal n fields keys outputs;
    faultless = refl;
    keeps = subst (λ (ns : List Name). HasGrouped g (group_transform n fields ns outputs) []) e (subst (λ (os : List Output). HasGrouped g (group_transform n fields names os) []) f h);
  }

  pub roll-started : (column from : Name) (window least : ℕ) (name to : Name) → from ≡ column → to ≡ name → (s : Summing) → HasSummed s (roll_transform n fields from window least to) [] → HasTaken (running.Roll s) (roll_transform n fields column window least name) []
  roll-started column from window least name to e f s h = record {
    causal = roll-causal n fields column window least name;
    faultless = refl;
    keeps = subst (λ (c : Name). HasSummed s (roll_transform n fields c window least name) []) e (subst (λ (t : Name). HasSummed s (roll_transform n fields from window least t) []) f h);
  }

-- ---- the same of several, of which the first have been started

pub record StartedSoFar (sides : List Frame) (before : Fields) (stages : List Stage) (after : Fields) (operators : List RunningOperator) (fields : Fields) (rest : List Stage) : Type 0 where
  pub fits : Fit (map (λ f. f.fields) sides) fields rest after
  pub closes : (qs : List RunningOperator) → HaveTaken qs (transforms_of sides fields rest) [] → HaveTaken (operators ++ qs) (transforms_of sides before stages) []

module _ (sides : List Frame) (before : Fields) (stages : List Stage) (after : Fields) where
  pub started-start : Fit (map (λ f. f.fields) sides) before stages after → StartedSoFar sides before stages after [] before stages
  started-start fits = record { fits = fits; closes = λ qs h. h }

  pub started-step : (operators : List RunningOperator) (fields : Fields) (s : Stage) (rest : List Stage) (r : RunningOperator) → StartedSoFar sides before stages after operators fields (s ∷ rest) →
      (Accepts (map (λ f. f.fields) sides) fields s.operator s.after → HasTaken r (transform_of sides s.number fields s.operator) []) →
      StartedSoFar sides before stages after (operators ++ r ∷ []) s.after rest
  started-step operators fields s rest r so_far taken =
      let t = so_far.fits.0 in
      let m = transform_of sides s.number fields s.operator in
      let is = transform-is sides s.number fields s.after s.operator t in record {
        fits = so_far.fits.1;
        closes = λ qs h. subst (λ (rs : List RunningOperator). HaveTaken rs (transforms_of sides before stages) []) (sym (append_assoc operators (r ∷ []) qs))
            (so_far.closes (r ∷ qs) (
              taken t,
              subst (λ (l : List Row). HaveTaken qs (transforms_of sides m.gives rest) l) (ap (λ (a : Stream Fault). a.rows) (sym is.starts))
                  (subst (λ (f : Fields). HaveTaken qs (transforms_of sides f rest) []) (sym is.gives) h),
            ));
      }

  pub started-all : Fit (map (λ f. f.fields) sides) before stages after → (operators : List RunningOperator) (fields : Fields) → StartedSoFar sides before stages after operators fields [] →
      (fields ≡ after) × HasRun operators (record { before = before; transforms = transforms_of sides before stages; after = after }) [] []
  started-all fits operators fields so_far = (
    so_far.fits,
    record {
      taken = subst (λ (rs : List RunningOperator). HaveTaken rs (transforms_of sides before stages) []) (append-nil operators) (so_far.closes [] tt);
      chain = chain-of sides before after stages fits;
      given = starts-of sides before after stages fits;
    },
  )

  -- along the list of stages
  pub stage-next : (i : ℕ) (s : Stage) → i < length stages → s ≡ get_or stages i s → drop i stages ≡ s ∷ drop (i + 1) stages
  stage-next i s h is = drop-cons stages i s h ∙ (λ k. sym is k ∷ drop (let e : suc i ≡ i + 1 = omega arith in e k) stages)
