use Rattle.std.proofs.Common.{◌≡◌, map, string_bytes}
use Rattle.fq_plan.proofs.checks.sources.unzip.Given as goal

abbrev pub invariant-loop-name : goal.invariant-loop-name
invariant-loop-name l = (map string_bytes l.names.items ≡ map (λ c. string_bytes c.0) l.yielded) × (l.kinds.items ≡ map (λ c. c.1) l.yielded)
