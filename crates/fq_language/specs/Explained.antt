-- What the explanation of a refusal answers.
use Rattle.std.specs.Prelude.{⊤}
use Rattle.fq_language.specs.declared.reasons.PartFault.{PartFault}
use Rattle.fq_language.specs.declared.reasons.PartFault.TheVariants.{Wrong, Memory}

-- a part is wrong only if this holds; an allocation may fail anywhere
abbrev pub WrongOnlyIf : Type 0 → PartFault → Type 0
WrongOnlyIf P (Wrong reason) = P
WrongOnlyIf P Memory = ⊤
