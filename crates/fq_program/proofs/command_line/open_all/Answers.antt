use Rattle.std.proofs.Common.{◌∙◌, ℕ, List, [], map, refl, subst}
use Rattle.std.specs.Borrow.{Bor}
use Rattle.std.proofs.Math.Seq.{take_all}
use Rattle.std.proofs.lemmas.Result.{err_from_is_err_and}
use Rattle.fq_messages.specs.declared.failures.Failure.TheVariants.{Run}
use Rattle.fq_run.specs.declared.faults.Fault.TheVariants.{Read}
use Rattle.fq_program.proofs.NamedLemmas.{outside-opened}
use Rattle.fq_program.proofs.OpeningLemmas.{Told, told-all, told-next, map-names}
use Rattle.fq_program.proofs.command_line.open_all.Goals as goal

pub loop-file-init : goal.loop-file-init
loop-file-init g c = (refl, rw c.in_ok-readers.ensures.items tt)

pub loop-file-preserved : goal.loop-file-preserved
loop-file-preserved g c =
    let told = told-next (λ name. g.O.Opener.bytes_of c.args.files.now name.now) g.O.Reader.Read.remaining c.args.names.now c.loop-file.readers.items c.push.new.self.items c.loop-file.file
    (record { ref_ptr = (0, 0); now = [] }) c.in_ok-open.field-0 c.loop-file-test.true c.in_ok-push.ensures.items c.loop-file.invariant.1
    (λ bytes known. c.in_ok-open.ensures.told bytes (rw c.loop-file.invariant.0 known)) in
    (c.open.ensures.same ∙ c.loop-file.invariant.0, told)

pub returns-in_err-open-clause-failed : goal.returns-in_err-open-clause-failed
returns-in_err-open-clause-failed g c =
    let exit = err_from_is_err_and c.from_residual-in_err-open.result c.from_residual-in_err-open.ensures.1 in
    rw (exit.1, exit.2) (outside-opened _ (Run (Read c.loop-file.file)) refl c.in_err-open.ensures.failed)

pub returns-clause-told : goal.returns-clause-told
returns-clause-told g c inputs tell =
    let whole = subst (λ (names : List (Bor (List ℕ))). Told (map (λ name. g.O.Opener.bytes_of c.args.files.now name.now) names) (map g.O.Reader.Read.remaining c.loop-file.readers.items))
    (take_all c.loop-file.file c.args.names.now c.loop-file-test.false) c.loop-file.invariant.1 in
    told-all _ _ inputs whole (map-names (g.O.Opener.bytes_of c.args.files.now) c.args.names.now ∙ tell)
