use Rattle.std.proofs.Common.{◌≡◌, ◌∙◌, true, codes, rules, ap, ap₂}
use Rattle.std.proofs.lemmas.Result.{IfOk-weaker}
use Rattle.clap.specs.Simple.{app_of_fields, on_top}
use Rattle.clap.specs.Words.{App, Shape, app_of, new_app, rule_of, with_rule}
use Rattle.fq_shell.specs.Arguments.{check_app, file_rule, flag_rule, option_rule, required}
use Rattle.fq_shell.proofs.options.check_command.Goals as goal

-- the command with no argument yet
abbrev bare : App
bare = on_top (λ (s : Shape). record s { no_binary_name = true; disable_help_flag = true }) (new_app (codes "frameq"))

pub returns : goal.returns
unfolding check_app
returns c =
    let plan_is : rule_of c.required.result ≡ required (option_rule (codes "plan")) = ap rule_of c.required.ensures ∙ ap required c.plan.ensures.rule in
    let check_is : rule_of c.required-2.result ≡ required (flag_rule (codes "check")) = ap rule_of c.required-2.ensures ∙ ap required c.check.ensures.rule in
    let file_is : rule_of c.required-3.result ≡ required file_rule = ap rule_of c.required-3.ensures ∙ ap required c.file.ensures.rule in
    let bare_is : app_of c.disable_help_flag-command.result ≡ bare =
    ap app_of_fields c.disable_help_flag-command.ensures
    ∙ ap (on_top (λ (s : Shape). record s { disable_help_flag = true })) (ap app_of_fields c.no_binary_name.ensures)
    ∙ ap (on_top (λ (s : Shape). record s { no_binary_name = true; disable_help_flag = true })) c.new.ensures.app in
    let one = c.in_ok-command.ensures.shape (search rules) ∙ ap₂ with_rule bare_is plan_is in
    let two = c.in_ok-command-2.ensures.shape (search rules) ∙ ap₂ with_rule one check_is in
    let three = c.in_ok-command-3.ensures.shape c.limit.ensures.local ∙ ap₂ with_rule two c.limit.ensures.rule in
    let four = c.in_ok-command-4.ensures.shape c.decimal.ensures.local ∙ ap₂ with_rule three c.decimal.ensures.rule in
    let five = c.in_ok-command-5.ensures.shape c.date.ensures.local ∙ ap₂ with_rule four c.date.ensures.rule in
    let six = c.in_ok-command-6.ensures.shape c.details.ensures.local ∙ ap₂ with_rule five c.details.ensures.rule in
    IfOk-weaker c.arg-7.result _ _ (λ command added. added.shape (search rules) ∙ ap₂ with_rule six file_is) c.arg-7.ensures
