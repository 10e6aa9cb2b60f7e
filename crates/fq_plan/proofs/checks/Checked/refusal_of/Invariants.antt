use Rattle.std.proofs.Common.{◌≡◌, [], drop, map, string_bytes, take}
use Rattle.fq_plan.specs.Noted.{refused_after}
use Rattle.fq_plan.proofs.checks.Checked.refusal_of.Given as goal

-- no entry so far is refused
abbrev pub invariant-loop-place : goal.invariant-loop-place
invariant-loop-place l =
    refused_after l.self [] (map (λ entry. (string_bytes entry.0, entry.1)) l.named)
    ≡ refused_after l.self (map (λ entry. string_bytes entry.0) (take l.place l.named)) (map (λ entry. (string_bytes entry.0, entry.1)) (drop l.place l.named))
