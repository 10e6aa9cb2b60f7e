-- The stages as transforms, over the sources before the last.
use Rattle.std.specs.Prelude.{List, map}
use Rattle.fq_column.specs.Frame.{Fields}
use Rattle.fq_run.specs.Pipelines.{Transforming}
use Rattle.fq_run.specs.Starting.{transforms_of}
use Rattle.fq_run.specs.declared.gathering.SideSource.{SideSource}
use Rattle.fq_run.specs.declared.stages.Stage.{Stage}

-- stages on rows with these columns, which they take to those
abbrev pub later_steps : List Stage → List SideSource → Fields → Fields → Transforming
later_steps stages sides before after = record { before = before; transforms = transforms_of (map (λ g. g.batch) sides) before stages; after = after }
