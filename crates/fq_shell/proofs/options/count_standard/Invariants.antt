use Rattle.std.proofs.Common.{◌≡◌, ◌≤◌, take, map, count_by}
use Rattle.fq_shell.specs.Arguments.{is_standard}
use Rattle.fq_shell.proofs.options.count_standard.Given as goal

abbrev pub invariant-loop-name : goal.invariant-loop-name
invariant-loop-name l = (l.count ≡ count_by is_standard (map (λ name. name.now) (take l.name-index l.names))) × (l.count ≤ l.name-index)
