use Rattle.std.proofs.Common.{◌≡◌, ◌∙◌, length, sym, ap, inl, inr}
use Rattle.fq_language.specs.Plan.{files_wanted}
use Rattle.fq_language.specs.declared.faults.PlanFault.TheVariants.{Memory}
use Rattle.fq_messages.specs.Ending.{misread, status_of}
use Rattle.fq_shell.specs.Arguments.{named_by}
use Rattle.fq_program.proofs.CheckLemmas.{checked-in, many, read-checked, reads, review-comes}
use Rattle.fq_program.proofs.NamedLemmas.{noted-is}
use Rattle.fq_program.proofs.command_line.check_by_text.Goals as goal

pub returns-in-Ok-clause-checked : goal.returns-in-Ok-clause-checked
returns-in-Ok-clause-checked g c inputs plan tell is =
    let names = (named_by c.args.options.now).files in
    let named = c.args.named.now in
    let passed = checked-in c.args.text.now named (length names) plan is in
    elim c.in-Ok.ensures [
      | inl spelled ↦
          let same = read-checked c.args.text.now c.in-Ok.plan passed.0 (sym spelled) passed.1 in
          let enough : length inputs ≡ files_wanted c.in-Ok.plan =
          sym (many (g.O.Opener.bytes_of c.args.files.now) names inputs tell) ∙ (noted-is passed.0 plan named (length names) passed.2).0 ∙ ap files_wanted (sym same) in
          review-comes passed.0 c.in-Ok.plan plan named (length names) inputs c.check_files.result same passed.2 (c.check_files.ensures.judged inputs tell enough)
      | inr memory ↦ absurd (cc)
    ]

pub returns-in-Err-clause-checked : goal.returns-in-Err-clause-checked
returns-in-Err-clause-checked g c inputs plan tell is = elim c.in-Err.ensures [
  | inl unread ↦ absurd (reads c.args.text.now (checked-in c.args.text.now c.args.named.now (length (named_by c.args.options.now).files) plan is).0 c.in-Err.fault
      (checked-in c.args.text.now c.args.named.now (length (named_by c.args.options.now).files) plan is).1 (sym unread))
  | inr memory ↦ let none : c.in-Err.fault ≡ Memory = cc in inr (inr (ap status_of (c.into.ensures ∙ ap misread none)))
]
