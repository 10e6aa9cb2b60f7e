use Rattle.std.specs.Prelude.{option_map}
use Rattle.std.specs.Borrow.{Bor}
use Rattle.std.specs.Io.Chain.{chain_remaining}
use Rattle.std.proofs.Common.{◌≡◌, ◌∷◌, ◌++◌, ◌∙◌, List, Option, Some, ℕ, ap, inl, inr, sym}
use Rattle.csv.specs.Reading.{is_flexible, names_headers, reader_config, reader_state, reader_trim, source_of, strip_bom}
use Rattle.csv.specs.declared.reader.Reader.{Reader}
use Rattle.fq_csv.specs.Readers.{TextSource, records_left, retried}
use Rattle.fq_csv.specs.declared.cutting.retrying.Retrying.{Retrying}
use Rattle.fq_csv.proofs.BufferLemmas.{after-line, unmarked}
use Rattle.fq_csv.proofs.readers.read_text.Goals as goal

pub returns-in-Ok-clause-plain : goal.returns-in-Ok-clause-plain
returns-in-Ok-clause-plain c =
    let fr = c.from_reader-reader.ensures in
    let n = c.new.ensures in
    let f = c.flexible.ensures in
    let same = c.in-Ok.ensures.same in
    (ap reader_trim same ∙ rw f at fr.trim ∙ n.trim, inr (inl (ap names_headers same ∙ rw f at fr.has_headers ∙ n.has_headers, c.in-Ok.ensures.set)), ap reader_config same ∙ rw f at fr.config ∙ n.config, ap is_flexible same ∙ rw f at fr.flexible)

pub returns-in-Ok-clause-left : goal.returns-in-Ok-clause-left
returns-in-Ok-clause-left c =
    let text = c.args.text in
    let fr = c.from_reader-reader.ensures in
    let same = c.in-Ok.ensures.same in
    let remaining : TextSource → Option (List ℕ) = chain_remaining (λ (first : Bor (List ℕ)). Some first.now) (λ (bytes : List ℕ). Some bytes) in
    let known : remaining c.chain-source.result ≡ Some (10 ∷ text) = c.chain-source.ensures.bytes ∙ ap (λ xs. Some (xs ++ text)) c.as_slice.ensures in (
      10 ∷ text,
      ap (λ (r : Reader (Retrying TextSource)). source_of (retried remaining) r) same ∙ fr.source ∙ ap (option_map strip_bom) known ∙ ap Some (unmarked text),
      sym (after-line text) ∙ ap (λ s. records_left s (10 ∷ text)) (sym (ap reader_state same ∙ fr.state)),
    )
