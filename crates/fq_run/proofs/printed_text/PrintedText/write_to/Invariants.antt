use Rattle.std.proofs.Common.{flat_map, take}
use Rattle.std.specs.Io.KnownBytes.{Appends}
use Rattle.fq_run.proofs.printed_text.PrintedText.write_to.Given as goal

abbrev pub invariant-loop-piece : goal.invariant-loop-piece
invariant-loop-piece g l = Appends (g.W.Write.contents l.fn.out) (g.W.Write.contents l.out) (flat_map (λ piece. piece.items) (take l.piece-index l.self.pieces.items))
