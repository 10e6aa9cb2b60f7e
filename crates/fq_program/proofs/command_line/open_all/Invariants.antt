use Rattle.std.proofs.Common.{◌≡◌, map, take}
use Rattle.fq_program.proofs.OpeningLemmas.{Told}
use Rattle.fq_program.proofs.command_line.open_all.Given as goal

abbrev pub invariant-loop-file : goal.invariant-loop-file
invariant-loop-file g l =
    (g.O.Opener.bytes_of l.files ≡ g.O.Opener.bytes_of l.fn.files)
    × Told (map (λ name. g.O.Opener.bytes_of l.fn.files name.now) (take l.file l.names)) (map g.O.Reader.Read.remaining l.readers.items)
