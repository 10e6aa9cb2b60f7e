use Rattle.std.proofs.Common.{◌≡◌, ◌++◌, flat_map}
use Rattle.std.specs.Prelude.{IfOk}
use Rattle.fq_run.specs.PrintedText.{text_of}
use Rattle.fq_run.specs.Printing.{part_text}
use Rattle.fq_run.proofs.printing.Printing.finish.Given as goal

abbrev pub invariant-loop-part : goal.invariant-loop-part
invariant-loop-part g l =
    (l.fn.self.parts.items ≡ l.yielded ++ l.part-iterator.rest.items)
    × IfOk l.all (λ all. text_of all ≡ text_of l.fn.self.text ++ flat_map part_text l.yielded)
