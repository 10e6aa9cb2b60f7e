-- Which fault a run answers: `Memory` takes precedence over a failed read, and of failed reads that of the lowest file does.
use Rattle.std.specs.Prelude.{◌≤◌, ⊤, ℕ, min, Option, Some, None}
use Rattle.fq_lanes.specs.declared.faults.FeedFault.{FeedFault}
use Rattle.fq_lanes.specs.declared.faults.FeedFault.TheVariants as feed
use Rattle.fq_lanes.specs.declared.faults.RunFault.{RunFault}
use Rattle.fq_lanes.specs.declared.faults.RunFault.TheVariants.{Memory, Read}

-- the fault of a file's feed
abbrev pub fault_at : FeedFault → ℕ → RunFault
fault_at feed.Read file = Read file
fault_at feed.Memory file = Memory

-- of a fault and one more, if there is one, the one that is answered
abbrev pub first_of : RunFault → Option FeedFault → ℕ → RunFault
first_of first None file = first
first_of (Read earlier) (Some feed.Read) file = Read (min earlier file)
first_of (Read earlier) (Some feed.Memory) file = Memory
first_of Memory (Some other) file = Memory

-- the one takes precedence over the other, or is the same
abbrev pub Precedes : RunFault → RunFault → Type 0
Precedes Memory other = ⊤
Precedes (Read file) Memory = ⊥
Precedes (Read file) (Read other) = file ≤ other
