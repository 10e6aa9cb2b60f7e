-- The values of an option that takes some, or none.
use Rattle.std.proofs.Common.{◌≡◌, ◌∙◌, List, [], Option, Some, None, map, ap}
use Rattle.std.specs.Prelude.{option_map, unwrap_or}
use Rattle.std.specs.Borrow.{Bor}
use Rattle.std.specs.Option.{UnwrapsOrElse}
use Rattle.clap.specs.Words.{Text}

abbrev texts_of : Bor (List (Bor Text)) → List Text
texts_of names = map (λ name. name.now) names.now

pub given-texts : (o : Option (Bor (List (Bor Text)))) (names : Bor (List (Bor Text))) (found : Option (List Text)) → UnwrapsOrElse o (λ x. x.now ≡ []) names →
    option_map texts_of o ≡ found → texts_of names ≡ unwrap_or found []
given-texts None names found is same = ap (map (λ (name : Bor Text). name.now)) is ∙ ap (λ (f : Option (List Text)). unwrap_or f []) same
given-texts (Some x) names found is same = ap texts_of is ∙ ap (λ (f : Option (List Text)). unwrap_or f []) same
