use Rattle.std.proofs.Common.{◌≡◌, ◌≤◌, ◌+◌, ◌-◌, ◌++◌, ◌∙◌, List, ℕ, length, take, drop, replicate, ap, rules, subst, sym}
use Rattle.std.specs.Io.KnownBytes.{Consumes, Keeps, prepend_known}
use Rattle.fq_csv.specs.Buffer.{left_of, rest_of}
use Rattle.fq_csv.specs.declared.cutting.buffers.Buffer.{Buffer}
use Rattle.fq_csv.proofs.BufferLemmas.{front-grown, front-kept, front-read, left-read}
use Rattle.fq_csv.proofs.cutting.buffers.Buffer.read_more.Goals as goal

pub returns-in-Ok-clause-reads : goal.returns-in-Ok-clause-reads
returns-in-Ok-clause-reads g c =
    let mid = c.compact.new.self in
    let is = c.compact.ensures.same in
    let at : mid.at ≡ 0 = ap (λ (b : Buffer g.row.R.Denot). b.at) is in
    let reader : mid.reader ≡ c.args.self.now.reader = ap (λ (b : Buffer g.row.R.Denot). b.reader) is in
    let old : List ℕ = mid.text.items in
    let same : old ≡ rest_of c.args.self.now = c.compact.ensures.text in
    let bytes : List ℕ = take c.in-Ok.count c.read.new.buffer in
    let fits : c.in-Ok.count ≤ length c.read.new.buffer = search rules in
    let room : c.len-filled.result + c.in-Ok.count ≤ c.resize.new.self.len = search rules in
    let consumed : Consumes (g.R.Read.remaining mid.reader.reader) (g.R.Read.remaining c.read.new.self.reader) bytes = search rules in
    let len : c.len-filled.result ≡ length old = search rules in
    let grown : c.resize.new.self.items ≡ take (c.len-filled.result + 131072) old ++ replicate (c.len-filled.result + 131072 - c.len-filled.result) 0 = search rules in
    let slice : c.as_mut_slice.result.now ≡ c.resize.new.self.items = search rules in
    let front : take c.len-filled.result c.as_mut_slice.result.now ≡ old = ap (take c.len-filled.result) (slice ∙ grown) ∙ front-grown old _ c.len-filled.result 131072 len in
    let text : c.truncate.new.self.items ≡ old ++ bytes = c.truncate.ensures.items ∙ front-read old _ c.read.new.buffer _ _ c.len-filled.result c.in-Ok.count _ front len fits room in
    let added : drop mid.at c.truncate.new.self.items ≡ rest_of c.args.self.now ++ bytes = ap (λ n. drop n c.truncate.new.self.items) at ∙ text ∙ ap (λ xs. xs ++ bytes) same in
    let took : Consumes (g.R.Read.remaining c.args.self.now.reader.reader) (g.R.Read.remaining c.read.new.self.reader) bytes = rw reader at consumed in
    record {
      file = ap (λ (b : Buffer g.row.R.Denot). b.file) is;
      begun = ap (λ (b : Buffer g.row.R.Denot). b.has_begun) is;
      failed = ap (λ (b : Buffer g.row.R.Denot). b.has_failed) is;
      bytes = bytes;
      added = added;
      left = subst (λ (xs : List ℕ). Keeps (left_of g.R.Read.remaining c.args.self.now) (prepend_known xs (g.R.Read.remaining c.read.new.self.reader))) (sym added) (left-read (rest_of c.args.self.now) bytes _ _ took);
    }

pub returns-in-Err-clause-rest : goal.returns-in-Err-clause-rest
returns-in-Err-clause-rest g c =
    let mid = c.compact.new.self in
    let is = c.compact.ensures.same in
    let at : mid.at ≡ 0 = ap (λ (b : Buffer g.row.R.Denot). b.at) is in
    let reader : mid.reader ≡ c.args.self.now.reader = ap (λ (b : Buffer g.row.R.Denot). b.reader) is in
    let old : List ℕ = mid.text.items in
    let same : old ≡ rest_of c.args.self.now = c.compact.ensures.text in
    let len : c.len-filled.result ≡ length old = search rules in
    let room : c.len-filled.result ≤ c.resize.new.self.len = search rules in
    let grown : c.resize.new.self.items ≡ take (c.len-filled.result + 131072) old ++ replicate (c.len-filled.result + 131072 - c.len-filled.result) 0 = search rules in
    let slice : c.as_mut_slice.result.now ≡ c.resize.new.self.items = search rules in
    let front : take c.len-filled.result c.as_mut_slice.result.now ≡ old = ap (take c.len-filled.result) (slice ∙ grown) ∙ front-grown old _ c.len-filled.result 131072 len in
    let text : c.truncate-in-Err.new.self.items ≡ old = c.truncate-in-Err.ensures.items ∙ front-kept old _ c.read.new.buffer _ _ c.len-filled.result _ front len room in
    ap (λ n. drop n c.truncate-in-Err.new.self.items) at ∙ text ∙ same
