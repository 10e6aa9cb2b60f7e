-- Bytes that are read at the end of a text.
use Rattle.std.specs.Prelude.{option_map, Result, Ok, Err, IfOk}
use Rattle.std.specs.List.{starts_with}
use Rattle.std.proofs.lemmas.Bool.{cases_Bool}
use Rattle.std.proofs.lemmas.Bool.Decides.{nat_tests}
use Rattle.std.proofs.Common.{◌≡◌, ◌<◌, ◌≤◌, ◌+◌, ◌++◌, ◌∙◌, ◌⊎◌, inl, inr, ◌==◌, ◌&&◌, Bool, true, false, ℕ, List, [], ◌∷◌, length, take, drop, Option, Some, None, refl, sym, ap, subst, arith, append-nil, append_assoc}
use Rattle.std.proofs.lemmas.List.{drop_all, length-append, take-append-drop, take-append-le, take-take, take_all}
use Rattle.std.proofs.Math.Seq.{take-append-add}
use Rattle.csv.specs.Reading.{default_config, is_bom, records as records_of, strip_bom}
use Rattle.csv.specs.Machine.{next_record}
use Rattle.fq_csv.proofs.CuttingLemmas.{no-byte, no-records, records-joined}
use Rattle.fq_csv.proofs.RecordLemmas.{mapped, none-record}
use Rattle.fq_csv.specs.Buffer.{HandsOn, Passes, TakesText, left_of, rest_of, unread_of}
use Rattle.fq_csv.specs.File.{Record}
use Rattle.fq_csv.specs.Records.{Takes, upcoming_of}
use Rattle.fq_csv.specs.declared.cutting.buffers.Buffer.{Buffer}
use Rattle.fq_csv.specs.declared.cutting.Ends.{Ends}
use Rattle.fq_csv.specs.declared.cutting.retrying.Retrying.{Retrying}
use Rattle.fq_csv.specs.Cutting.{AreLast, AreRecords, IsUpTo, next_of}
use Rattle.std.specs.Io.KnownBytes.{Consumes, IsAtEnd, Keeps, prepend_known}

-- a text with room after it begins as before
pub front-grown : (old room : List ℕ) (len more : ℕ) → len ≡ length old → take len (take (len + more) old ++ room) ≡ old
front-grown old room len more n =
    ap (λ xs. take len (xs ++ room)) (take_all (len + more) old (omega (arith, n)))
    ∙ take-append-le len old room (omega (arith, n))
    ∙ take_all len old (omega (arith, n))

-- what is left of a text after a read into its last part
pub front-read : (old front buffer after rest : List ℕ) (len count most : ℕ) → front ≡ old → len ≡ length old → count ≤ length buffer → len + count ≤ most →
    take (len + count) (take most ((front ++ (buffer ++ after)) ++ rest)) ≡ old ++ take count buffer
front-read old front buffer after rest len count most e n fits low =
    take-take (len + count) most ((front ++ (buffer ++ after)) ++ rest) low
    ∙ ap (λ xs. take (len + count) ((xs ++ (buffer ++ after)) ++ rest)) e
    ∙ ap (λ k. take (k + count) ((old ++ (buffer ++ after)) ++ rest)) n
    ∙ ap (take (length old + count)) (append_assoc old (buffer ++ after) rest)
    ∙ take-append-add old ((buffer ++ after) ++ rest) count
    ∙ ap (λ xs. old ++ xs) (take-append-le count (buffer ++ after) rest (omega (arith, fits, length-append buffer after)) ∙ take-append-le count buffer after fits)

pub front-kept : (old front buffer after rest : List ℕ) (len most : ℕ) → front ≡ old → len ≡ length old → len ≤ most → take len (take most ((front ++ (buffer ++ after)) ++ rest)) ≡ old
front-kept old front buffer after rest len most e n low =
    ap (λ k. take k (take most ((front ++ (buffer ++ after)) ++ rest))) (let z : len ≡ len + 0 = omega arith in z)
    ∙ front-read old front buffer after rest len 0 most e n (omega arith) (omega (arith, low))
    ∙ append-nil old

-- the bytes that are left after a read are the same
pub left-read : (old bytes : List ℕ) (known after : Option (List ℕ)) → Consumes known after bytes → Keeps (prepend_known old known) (prepend_known (old ++ bytes) after)
left-read old bytes None after h = tt
left-read old bytes (Some xs) None h = absurd h
left-read old bytes (Some xs) (Some ys) h = append_assoc old bytes ys ∙ ap (λ zs. old ++ zs) (sym h)

-- ---- a byte order mark

turned : (a b : ℕ) → (a == b) ≡ (b == a)
turned a b = elim (cases_Bool (a == b)) [
  | inl t ↦ t ∙ sym (let z : (b == a) ≡ true = grind (arith, nat_tests, t) in z)
  | inr n ↦ n ∙ sym (let z : (b == a) ≡ false = grind (arith, nat_tests, n) in z)
]

same-mark : (a b c : ℕ) → ((239 == a) && ((187 == b) && ((191 == c) && true))) ≡ is_bom a b c
same-mark a b c = rw (turned 239 a, turned 187 b, turned 191 c) (last (a == 239) (b == 187) (c == 191))
  where
    last : (x y z : Bool) → (x && (y && (z && true))) ≡ (x && y && z)
    last true true true = refl
    last true true false = refl
    last true false z = refl
    last false y z = refl

abbrev pub has_mark : List ℕ → Bool
has_mark text = starts_with (λ x y. x == y) text (239 ∷ 187 ∷ 191 ∷ [])

pub mark-stripped : (text : List ℕ) (known : Option (List ℕ)) → has_mark text ≡ true → option_map strip_bom (prepend_known text known) ≡ prepend_known (drop 3 text) known
unfolding strip_bom
mark-stripped [] known e = absurd (cc e)
mark-stripped (a ∷ []) known e = absurd (one (239 == a) e)
  where
    one : (x : Bool) → (x && false) ≡ true → ⊥
    one true e = cc e
    one false e = cc e
mark-stripped (a ∷ b ∷ []) known e = absurd (two (239 == a) (187 == b) e)
  where
    two : (x y : Bool) → (x && (y && false)) ≡ true → ⊥
    two true true e = cc e
    two true false e = cc e
    two false y e = cc e
mark-stripped (a ∷ b ∷ c ∷ rest) None e = refl
mark-stripped (a ∷ b ∷ c ∷ rest) (Some ys) e = let z : is_bom a b c ≡ true = sym (same-mark a b c) ∙ e in rw z refl

pub mark-missing : (text : List ℕ) (known : Option (List ℕ)) → has_mark text ≡ false → (3 ≤ length text) ⊎ IsAtEnd known → option_map strip_bom (prepend_known text known) ≡ prepend_known text known
unfolding strip_bom
mark-missing text None e h = refl
mark-missing (a ∷ b ∷ c ∷ rest) (Some ys) e h = let z : is_bom a b c ≡ false = sym (same-mark a b c) ∙ e in rw z refl
mark-missing [] (Some ys) e h = elim h [ inl low ↦ absurd (omega (arith, low)) | inr none ↦ rw none refl ]
mark-missing (a ∷ []) (Some ys) e h = elim h [ inl low ↦ absurd (omega (arith, low)) | inr none ↦ rw none refl ]
mark-missing (a ∷ b ∷ []) (Some ys) e h = elim h [ inl low ↦ absurd (omega (arith, low)) | inr none ↦ rw none refl ]

strip-keeps : (a b : Option (List ℕ)) → Keeps a b → Keeps (option_map strip_bom a) (option_map strip_bom b)
strip-keeps None b h = tt
strip-keeps (Some x) None h = absurd h
strip-keeps (Some x) (Some y) h = ap strip_bom h

-- the mark is passed over
module _ (old : Option (List ℕ)) (text : List ℕ) (known : Option (List ℕ)) (kept : Keeps old (prepend_known text known)) where
  pub mark-passed : has_mark text ≡ true → Keeps (option_map strip_bom old) (prepend_known (drop 3 text) known)
  mark-passed e = subst (λ k. Keeps (option_map strip_bom old) k) (mark-stripped text known e) (strip-keeps old (prepend_known text known) kept)

  pub mark-not-there : has_mark text ≡ false → (3 ≤ length text) ⊎ IsAtEnd known → Keeps (option_map strip_bom old) (prepend_known text known)
  mark-not-there e h = subst (λ k. Keeps (option_map strip_bom old) k) (mark-missing text known e h) (strip-keeps old (prepend_known text known) kept)

-- ---- the text of a run

-- no mark begins a line feed
pub unmarked : (xs : List ℕ) → strip_bom (10 ∷ xs) ≡ 10 ∷ xs
unfolding strip_bom
unmarked [] = refl
unmarked (a ∷ []) = refl
unmarked (a ∷ b ∷ xs) = refl

line-first : (xs : List ℕ) → next_of (10 ∷ xs) ≡ next_of xs
unfolding next_record
line-first xs = refl

-- an empty line is no record
pub after-line : (xs : List ℕ) → records_of default_config (10 ∷ xs) ≡ records_of default_config xs
after-line xs = no-records (10 ∷ []) line-first xs

-- ---- records that went by

pub passes-more : (a b c : Option (List ℕ)) (rs ss : List Record) → Passes a rs b → Passes b ss c → Passes a (rs ++ ss) c
passes-more a b c rs ss f g bytes e =
    let p = f bytes e in
    let q = g p.0 p.1 in
    (q.0, q.1, p.2 ∙ ap (λ xs. rs ++ xs) q.2 ∙ sym (append_assoc rs ss (records_of default_config q.0)))

-- the bytes that are left stayed the same
pub passes-kept : (a b c : Option (List ℕ)) (rs : List Record) → Passes a rs b → Keeps b c → Passes a rs c
passes-kept a b c rs f kept bytes e = let p = f bytes e in still b c p.0 (records_of default_config bytes) p.1 kept p.2
  where
    still : (b c : Option (List ℕ)) (xs : List ℕ) (all : List Record) → b ≡ Some xs → Keeps b c → all ≡ rs ++ records_of default_config xs → (ys : List ℕ) × (c ≡ Some ys) × (all ≡ rs ++ records_of default_config ys)
    still None c xs all e h split = cc e
    still (Some x) None xs all e h split = absurd h
    still (Some x) (Some y) xs all e h split =
        let same : xs ≡ x = cc e in
        (y, refl, split ∙ ap (λ zs. rs ++ records_of default_config zs) (same ∙ sym h))

-- whole records were taken off the front
pub passes-part : (rest : List ℕ) (known : Option (List ℕ)) (len : ℕ) (rs : List Record) → AreRecords (take len rest) rs → Passes (prepend_known rest known) rs (prepend_known (drop len rest) known)
passes-part rest None len rs are bytes e = cc e
passes-part rest (Some more) len rs are bytes e =
    let same : bytes ≡ rest ++ more = cc e in (
      drop len rest ++ more,
      refl,
      ap (records_of default_config) same
          ∙ ap (λ xs. records_of default_config (xs ++ more)) (sym (take-append-drop len rest))
          ∙ ap (records_of default_config) (append_assoc (take len rest) (drop len rest) more)
          ∙ are (drop len rest ++ more),
    )

-- the same, if what is left then is no record
pub passes-blank : (rest : List ℕ) (known : Option (List ℕ)) (len : ℕ) (rs : List Record) → AreRecords (take len rest) rs → AreRecords (drop len rest) [] → Passes (prepend_known rest known) rs (prepend_known [] known)
passes-blank rest None len rs are none bytes e = cc e
passes-blank rest (Some more) len rs are none bytes e =
    let p = passes-part rest (Some more) len rs are bytes e in
    let same : p.0 ≡ drop len rest ++ more = cc p.1 in
    (more, refl, p.2 ∙ ap (λ xs. rs ++ records_of default_config xs) same ∙ ap (λ xs. rs ++ xs) (none more))

-- the last record of a file was taken, which ends with it
pub passes-last : (rest : List ℕ) (known : Option (List ℕ)) (rs : List Record) → IsAtEnd known → records_of default_config rest ≡ rs → Passes (prepend_known rest known) rs (prepend_known [] known)
passes-last rest None rs end are bytes e = cc e
passes-last rest (Some more) rs end are bytes e =
    let same : bytes ≡ rest ++ more = cc e in (
      more,
      refl,
      ap (records_of default_config) (same ∙ ap (λ xs. rest ++ xs) end ∙ append-nil rest)
          ∙ are
          ∙ sym (ap (λ xs. rs ++ records_of default_config xs) end ∙ ap (λ xs. rs ++ xs) (none-record [] no-byte) ∙ append-nil rs),
    )

-- nothing is left of a file that is at its end
pub none-after : (rest after : List ℕ) (known : Option (List ℕ)) → rest ≡ [] → IsAtEnd known → prepend_known rest known ≡ Some after → records_of default_config after ≡ []
none-after rest after None e end h = cc h
none-after rest after (Some more) e end h =
    let same : after ≡ rest ++ more = cc h in
    ap (records_of default_config) (same ∙ ap (λ xs. xs ++ more) e ∙ end) ∙ none-record [] no-byte

-- the records of bytes that are whole
pub whole-are : (text : List ℕ) (rs : List Record) → AreRecords text rs → records_of default_config text ≡ rs
whole-are text rs are = ap (records_of default_config) (sym (append-nil text)) ∙ are [] ∙ ap (λ xs. rs ++ xs) (none-record [] no-byte) ∙ append-nil rs

-- ---- the records of a buffer

-- whole records were handed on
module _ {R : Type 0} (remaining : R → Option (List ℕ)) (old mid : Buffer R) (wanted : ℕ) (before text : List ℕ) (ends : Ends) (found : IsUpTo (rest_of old) wanted ends)
    (added : text ≡ before ++ take ends.end (rest_of old)) where
  left-at : (new : Buffer R) (bytes : List ℕ) → new.reader ≡ old.reader → rest_of new ≡ bytes → prepend_known bytes (remaining old.reader.reader) ≡ left_of remaining new
  left-at new bytes same rest = sym (ap (λ xs. prepend_known xs (remaining new.reader.reader)) rest ∙ ap (λ (r : Retrying R). prepend_known bytes (remaining r.reader)) same)

  -- and nothing else was taken
  pub hands-on : mid.reader ≡ old.reader → rest_of mid ≡ drop ends.end (rest_of old) → (ends.count < wanted → ends.is_open ≡ true) → HandsOn remaining old mid wanted before text ends
  hands-on same rest opens = record {
    few = found.few;
    rs = found.rs;
    number = found.count;
    part = take ends.end (rest_of old);
    added = added;
    whole = found.whole;
    passes = subst (λ (o : Option (List ℕ)). Passes (left_of remaining old) found.rs o) (left-at mid (drop ends.end (rest_of old)) same rest)
        (passes-part (rest_of old) (remaining old.reader.reader) ends.end found.rs found.whole);
    last = λ less.
        let e = opens less in
        let one : AreLast (drop ends.end (rest_of old)) true = subst (AreLast (drop ends.end (rest_of old))) e (found.last less) in
        rw e (one.0, ap (records_of default_config) rest ∙ one.1);
  }

  -- and the bytes after them, which are no record
  pub hands-on-all : mid.reader ≡ old.reader → rest_of mid ≡ [] → ends.count < wanted → ends.is_open ≡ false → HandsOn remaining old mid wanted before text ends
  hands-on-all same rest less e = record {
    few = found.few;
    rs = found.rs;
    number = found.count;
    part = take ends.end (rest_of old);
    added = added;
    whole = found.whole;
    passes = subst (λ (o : Option (List ℕ)). Passes (left_of remaining old) found.rs o) (left-at mid [] same rest)
        (passes-blank (rest_of old) (remaining old.reader.reader) ends.end found.rs found.whole (subst (AreLast (drop ends.end (rest_of old))) e (found.last less)));
    last = λ _. rw e rest;
  }

-- whole records of a file went by, which a text is
pub record HasText {R : Type 0} (remaining : R → Option (List ℕ)) (old now : Buffer R) (text : List ℕ) (count : ℕ) : Type 0 where
  pub rs : List Record
  pub number : length rs ≡ count
  pub whole : AreRecords text rs
  pub passes : Passes (left_of remaining old) rs (left_of remaining now)

module _ {R : Type 0} (remaining : R → Option (List ℕ)) (old : Buffer R) where
  -- more of them
  pub HasText-more : (now new : Buffer R) (wanted : ℕ) (before text : List ℕ) (count : ℕ) (ends : Ends) → HasText remaining old now before count → HandsOn remaining now new wanted before text ends
      → HasText remaining old new text (count + ends.count)
  HasText-more now new wanted before text count ends h more = record {
    rs = h.rs ++ more.rs;
    number = length-append h.rs more.rs ∙ ap (λ n. n + length more.rs) h.number ∙ ap (λ n. count + n) more.number;
    whole = subst (λ xs. AreRecords xs (h.rs ++ more.rs)) (sym more.added) (records-joined before more.part h.rs more.rs h.whole more.whole);
    passes = passes-more (left_of remaining old) (left_of remaining now) (left_of remaining new) h.rs more.rs h.passes more.passes;
  }

  -- more of the file was read
  pub HasText-kept : (now new : Buffer R) (text : List ℕ) (count : ℕ) → HasText remaining old now text count → Keeps (left_of remaining now) (left_of remaining new) → HasText remaining old new text count
  HasText-kept now new text count h kept = record {
    rs = h.rs;
    number = h.number;
    whole = h.whole;
    passes = passes-kept (left_of remaining old) (left_of remaining now) (left_of remaining new) h.rs h.passes kept;
  }

-- ---- the records that were taken

begun-unread : {R : Type 0} (remaining : R → Option (List ℕ)) (b : Buffer R) → b.has_begun ≡ true → unread_of remaining b ≡ left_of remaining b
begun-unread remaining b e = rw e refl

module _ {R : Type 0} (remaining : R → Option (List ℕ)) (old new : Buffer R) (old_begun : old.has_begun ≡ true) (new_begun : new.has_begun ≡ true) (wanted : ℕ) where
  text-taken : (text : List ℕ) (count : ℕ) (rs : List Record) → count ≤ wanted → length rs ≡ count → records_of default_config text ≡ rs → Passes (left_of remaining old) rs (left_of remaining new)
      → ((after : List ℕ) → left_of remaining new ≡ Some after → count < wanted → records_of default_config after ≡ [])
      → TakesText remaining old new wanted text count
  text-taken text count rs few number are passes over = record {
    few = few;
    number = ap length are ∙ number;
    rest = λ bytes e.
        let p = passes bytes (sym (begun-unread remaining old old_begun) ∙ e) in
        (p.0, begun-unread remaining new new_begun ∙ p.1, p.2 ∙ ap (λ xs. xs ++ records_of default_config p.0) (sym are), λ less. over p.0 p.1 less);
  }

  -- as many as are wanted
  pub taken-all : (text : List ℕ) (count : ℕ) → HasText remaining old new text count → count ≡ wanted → TakesText remaining old new wanted text count
  taken-all text count h e =
      text-taken text count h.rs (omega (arith, e)) h.number (whole-are text h.rs h.whole) h.passes
      (λ after known less. absurd (omega (arith, e, less)))

  -- no other is left
  pub taken-last : (text : List ℕ) (count : ℕ) → HasText remaining old new text count → count ≤ wanted → rest_of new ≡ [] → IsAtEnd (remaining new.reader.reader) → TakesText remaining old new wanted text count
  taken-last text count h few rest end =
      text-taken text count h.rs few h.number (whole-are text h.rs h.whole) h.passes
      (λ after known less. none-after (rest_of new) after (remaining new.reader.reader) rest end known)

  -- the last record ends with the file
  pub taken-open : (mid : Buffer R) (before text : List ℕ) (count left : ℕ) (r : Record) → HasText remaining old mid before count → count < wanted → IsAtEnd (remaining mid.reader.reader)
      → records_of default_config (rest_of mid) ≡ r ∷ [] → left ≡ length (rest_of mid)
      → new.reader ≡ mid.reader → text ≡ before ++ take left (rest_of mid) → rest_of new ≡ drop left (rest_of mid)
      → TakesText remaining old new wanted text (count + 1)
  taken-open mid before text count left r h few end one size same added rest =
      let bytes : List ℕ = rest_of mid in
      let whole : text ≡ before ++ bytes = added ∙ ap (λ xs. before ++ xs) (take_all left bytes (omega (arith, size))) in
      let none : rest_of new ≡ [] = rest ∙ drop_all left bytes (omega (arith, size)) in
      let left_new : prepend_known [] (remaining mid.reader.reader) ≡ left_of remaining new =
      sym (ap (λ xs. prepend_known xs (remaining new.reader.reader)) none ∙ ap (λ (x : Retrying R). prepend_known [] (remaining x.reader)) same) in
      let last : Passes (left_of remaining mid) (r ∷ []) (left_of remaining new) =
      subst (λ (o : Option (List ℕ)). Passes (left_of remaining mid) (r ∷ []) o) left_new (passes-last bytes (remaining mid.reader.reader) (r ∷ []) end one) in
      text-taken text (count + 1) (h.rs ++ r ∷ []) (omega (arith, few)) (length-append h.rs (r ∷ []) ∙ ap (λ n. n + 1) h.number)
      (ap (records_of default_config) whole ∙ h.whole bytes ∙ ap (λ xs. h.rs ++ xs) one)
      (passes-more (left_of remaining old) (left_of remaining mid) (left_of remaining new) h.rs (r ∷ []) h.passes last)
      (λ after known less. none-after (rest_of new) after (remaining new.reader.reader) none (subst (λ (x : Retrying R). IsAtEnd (remaining x.reader)) (sym same) end) known)

pub takes : {R : Type 0} (remaining : R → Option (List ℕ)) (old new : Buffer R) (wanted : ℕ) (text : List ℕ) (count : ℕ) → TakesText remaining old new wanted text count
    → Takes (record { file = old.file; upcoming = upcoming_of remaining old; stopped = old.has_failed }) wanted text count (record { file = new.file; upcoming = upcoming_of remaining new; stopped = new.has_failed })
takes remaining old new wanted text count t = record {
  few = t.few;
  number = t.number;
  rest = λ before e.
      let m = mapped (records_of default_config) (unread_of remaining old) before e in
      let r = t.rest m.0 m.1 in
      (records_of default_config r.0, ap (option_map (records_of default_config)) r.1, m.2 ∙ r.2, r.3);
}

pub taken : {R : Type 0} (remaining : R → Option (List ℕ)) (old new : Buffer R) (wanted : ℕ) {E : Type 0} (result : Result (List ℕ × ℕ) E) → IfOk result (λ r. TakesText remaining old new wanted r.0 r.1)
    → IfOk result (λ r. Takes (record { file = old.file; upcoming = upcoming_of remaining old; stopped = old.has_failed }) wanted r.0 r.1 (record { file = new.file; upcoming = upcoming_of remaining new; stopped = new.has_failed }))
taken remaining old new wanted (Ok r) h = takes remaining old new wanted r.0 r.1 h
taken remaining old new wanted (Err e) h = tt
