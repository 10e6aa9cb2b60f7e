-- What a run keeps of its sources: their files and columns, and that each fault of theirs is one of a file's text or of a step.
use Rattle.std.specs.Prelude.{◌≡◌, ℕ, List, [], ◌∷◌, Option, Some, None}
use Rattle.fq_column.specs.Frame.{Fields}
use Rattle.fq_run.specs.Gathering.{taken_in}
use Rattle.fq_run.specs.Run.{IsOfMeaning}
use Rattle.fq_run.specs.declared.faults.Fault.{Fault}
use Rattle.fq_run.specs.declared.gathering.SideSource.{SideSource}
use Rattle.fq_run.specs.declared.leading_steps.Worked.{Worked}

-- a source's files and columns
abbrev pub shape : SideSource → ℕ × Fields
shape g = (g.files, g.batch.fields)

-- sources take a worked item
abbrev pub Takes : List SideSource → ℕ → ℕ → Worked → List SideSource → Type 0
Takes old file serial out new = new ≡ taken_in file out old

-- no fault, or one of a file's text or of a step
abbrev pub IsSound : Option Fault → Type 0
IsSound None = Unit {0}
IsSound (Some f) = IsOfMeaning f

abbrev pub AreSound : List SideSource → Type 0
AreSound [] = Unit {0}
AreSound (g ∷ gs) = IsSound g.fault × AreSound gs
