use Rattle.std.proofs.Common.{◌≡◌, map, take, string_bytes}
use Rattle.fq_language.proofs.refusals.names_and_kinds.Given as goal

abbrev pub invariant-loop-name : goal.invariant-loop-name
invariant-loop-name l = (map string_bytes l.names.items ≡ map (λ c. string_bytes c.0) (take l.name-index l.columns)) × (l.kinds.items ≡ map (λ c. c.1) (take l.name-index l.columns))
