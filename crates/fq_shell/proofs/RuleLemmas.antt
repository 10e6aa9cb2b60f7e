-- What a parser adds to the rule of an argument.
use Rattle.std.proofs.Common.{◌≡◌, ◌∙◌, Option, Some, ap}
use Rattle.clap.specs.Words.{rule_of}
use Rattle.clap.specs.declared.builder.arg.Arg.{Arg}
use Rattle.clap.specs.declared.builder.value_parser.ValueParser.{ValueParser}

pub parsed-by : (old new : Arg) (parser : ValueParser) → new ≡ record old { value_parser = new.value_parser } → new.value_parser ≡ Some parser →
    rule_of new ≡ record (rule_of old) { parser = Some parser }
parsed-by old new parser others given = ap rule_of others ∙ ap (λ (p : Option ValueParser). record (rule_of old) { parser = p }) given
