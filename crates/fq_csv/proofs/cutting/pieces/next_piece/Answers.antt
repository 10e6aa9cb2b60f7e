use Rattle.std.proofs.Common.{◌<◌, Vec, Global, ℕ, length, subst, sym}
use Rattle.std.proofs.lemmas.List.Elements.{All-drop}
use Rattle.fq_csv.specs.Pieces.{AreFilled}
use Rattle.fq_csv.proofs.cutting.pieces.next_piece.Goals as goal

pub returns-in-Some-clause-filled : goal.returns-in-Some-clause-filled
returns-in-Some-clause-filled c =
    subst AreFilled (sym c.pop_front.ensures.rest) (All-drop (λ (piece : Vec ℕ Global). 0 < length piece.items) 1 c.args.pieces.now.items c.requires)
