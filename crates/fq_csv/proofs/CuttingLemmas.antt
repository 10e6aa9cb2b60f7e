-- Where the records of a text end.
use Rattle.std.proofs.Common.{◌≡◌, ℕ, zero, suc, ◌+◌, ◌-◌, ◌<◌, ◌≤◌, ◌==◌, ◌||◌, Bool, true, false, cond, List, [], ◌∷◌, ◌++◌, length, take, drop, get_or, Some, None, refl, ap, sym, subst, ◌∙◌, arith, append-nil, append_assoc, length-drop, inl, inr}
use Rattle.std.proofs.lemmas.List.{get_or-drop, take_all}
use Rattle.std.proofs.lemmas.Bool.Decides.{nat_tests}
use Rattle.std.proofs.Math.Seq.{take-add, take-suc}
use Rattle.csv.specs.Machine.{ends_at_end, fields_after, field_after, is_end, next_record, step}
use Rattle.csv.specs.Reading.{default_config, records}
use Rattle.csv.specs.declared.parser.Action.{Action}
use Rattle.csv.specs.declared.parser.Action.TheVariants as act
use Rattle.csv.specs.declared.parser.State.{State}
use Rattle.csv.specs.declared.parser.State.TheVariants as st
use Rattle.fq_csv.specs.Cutting.{AreLast, AreRecords, IsAt, IsBetween, IsBlank, IsIn, NoQuote, NoneStops, begins, between, next_of, outside, stops}
use Rattle.fq_csv.specs.File.{Record}
use Rattle.fq_csv.proofs.RecordLemmas.{first-record, left-some, none-record, option-case}

-- a byte that ends no record
go-on : (s t : State) (a : Action) (f : List (List ℕ)) (p : List ℕ) (c : ℕ) (rest : List ℕ) → step default_config s c ≡ (t, a) → is_end a ≡ false →
    next_record default_config s f p (c ∷ rest) ≡ next_record default_config t (fields_after a f p) (field_after a c p) rest
unfolding next_record
go-on s t a f p c rest e n = rw (e, n) refl

-- a byte that ends a record
stop : (s t : State) (a : Action) (f : List (List ℕ)) (p : List ℕ) (c : ℕ) (rest : List ℕ) → step default_config s c ≡ (t, a) → is_end a ≡ true →
    next_record default_config s f p (c ∷ rest) ≡ Some (fields_after a f p, t, rest)
unfolding next_record
stop s t a f p c rest e n = rw (e, n) refl

ended : (s : State) (f : List (List ℕ)) (q : List ℕ) → ends_at_end s ≡ true → next_record default_config s f q [] ≡ Some (f ++ q ∷ [], st.StartRecord, [])
unfolding next_record
ended s f q e = rw e refl

pub no-byte : next_of [] ≡ None
unfolding next_record
no-byte = refl

-- ---- parts of a text

pub between-more : (text : List ℕ) (from i : ℕ) → from ≤ i → i < length text → between text from (i + 1) ≡ between text from i ++ get_or text i 0 ∷ []
between-more text from i low high =
    ap (λ n. take n (drop from text)) (let q : i + 1 - from ≡ suc (i - from) = omega (arith, low) in q)
    ∙ take-suc (drop from text) (i - from) 0 (omega (arith, length-drop from text, low, high))
    ∙ ap (λ c. take (i - from) (drop from text) ++ c ∷ []) (get_or-drop from text (i - from) 0 ∙ ap (λ j. get_or text j 0) (let q : from + (i - from) ≡ i = omega (arith, low) in q))

pub take-between : (text : List ℕ) (at end : ℕ) → at ≤ end → take end text ≡ take at text ++ between text at end
take-between text at end high = ap (λ n. take n text) (let q : end ≡ at + (end - at) = omega (arith, high) in q) ∙ take-add at (end - at) text

pub between-none : (text : List ℕ) (from : ℕ) → between text from from ≡ []
between-none text from = ap (λ n. take n (drop from text)) (let q : from - from ≡ 0 = omega arith in q)

pub between-all : (text : List ℕ) (from at : ℕ) → length text ≤ at → between text from at ≡ drop from text
between-all text from at over = take_all (at - from) (drop from text) (omega (arith, length-drop from text, over))

-- ---- one byte more

module _ (text : List ℕ) (from at : ℕ) (low : from ≤ at) (lt : at < length text) where
  abbrev c : ℕ
  c = get_or text at 0

  joined : (more : List ℕ) → between text from (at + 1) ++ more ≡ between text from at ++ c ∷ more
  joined more = ap (λ xs. xs ++ more) (between-more text from at low lt) ∙ append_assoc (between text from at) (c ∷ []) more

  -- a byte that ends no record
  pub on : (s t : State) (a : Action) → IsIn (between text from at) s → step default_config s c ≡ (t, a) → is_end a ≡ false → IsIn (between text from (at + 1)) t
  on s t a h e n = (fields_after a h.0 h.1, field_after a c h.1, λ more. ap next_of (joined more) ∙ h.2 (c ∷ more) ∙ go-on s t a h.0 h.1 c more e n)

  -- a byte that ends a record
  pub off : (s t : State) → IsIn (between text from at) s → step default_config s c ≡ (t, act.EndRecord) → IsBetween t → (r : Record) × AreRecords (between text from (at + 1)) (r ∷ [])
  off s t h e b = (
    h.0 ++ h.1 ∷ [],
    λ more. first-record (between text from (at + 1) ++ more) more (h.0 ++ h.1 ∷ []) t (ap next_of (joined more) ∙ h.2 (c ∷ more) ∙ stop s t act.EndRecord h.0 h.1 c more e refl) b,
  )

-- ---- lines without a record

skip-line : (c : ℕ) → ((c == 13) || (c == 10)) ≡ true → step default_config st.StartRecord c ≡ (st.StartRecord, act.Skip)
skip-line c e = rw e refl

pub at-start : (text : List ℕ) (from : ℕ) → IsBlank (between text from from)
at-start text from = λ more. ap (λ xs. next_of (xs ++ more)) (between-none text from)

pub line-skipped : (text : List ℕ) (from at : ℕ) → from ≤ at → at < length text → IsBlank (between text from at) → ((get_or text at 0 == 13) || (get_or text at 0 == 10)) ≡ true → IsBlank (between text from (at + 1))
line-skipped text from at low lt h e = λ more.
    let c : ℕ = get_or text at 0 in
    ap next_of (joined text from at low lt more) ∙ h (c ∷ more) ∙ go-on st.StartRecord st.StartRecord act.Skip [] [] c more (skip-line c e) refl

-- ends of lines are no record, whatever follows
pub no-records : (bytes : List ℕ) → IsBlank bytes → AreRecords bytes []
no-records bytes h = λ more. elim (option-case (next_of more)) [
  | inl e ↦ none-record (bytes ++ more) (h more ∙ e) ∙ sym (none-record more e)
  | inr (p, e) ↦ left-some st.StartRecord (bytes ++ more) p (h more ∙ e) ∙ sym (left-some st.StartRecord more p e)
]

-- ---- quotes

in-quotes : (c : ℕ) → (c == 34) ≡ false → step default_config st.InQuoted c ≡ (st.InQuoted, act.Copy)
in-quotes c e = rw e refl

close-quote : (c : ℕ) → (c == 34) ≡ true → step default_config st.InQuoted c ≡ (st.AfterQuote, act.Skip)
close-quote c e = rw e refl

after-quote : (c : ℕ) → (c == 34) ≡ false → step default_config st.AfterQuote c ≡ step default_config st.InField c
after-quote c e = rw e refl

double-quote : (c : ℕ) → (c == 34) ≡ true → step default_config st.AfterQuote c ≡ (st.InQuoted, act.Copy)
double-quote c e = rw e refl

-- bytes before the next quote
quoted-run : (text : List ℕ) (base n at : ℕ) → base ≤ at → at + n ≤ length text → NoQuote text at (at + n) → IsIn (between text base at) st.InQuoted → IsIn (between text base (at + n)) st.InQuoted
quoted-run text base zero at low fits none h = subst (λ m. IsIn (between text base m) st.InQuoted) (let q : at ≡ at + 0 = omega arith in q) h
quoted-run text base (suc n) at low fits none h =
    subst (λ m. IsIn (between text base m) st.InQuoted) (let q : at + 1 + n ≡ at + suc n = omega arith in q)
    (quoted-run text base n (at + 1) (omega (arith, low)) (omega (arith, fits)) (λ i a b. none i (omega (arith, a)) (omega (arith, b)))
    (on text base at low (omega (arith, fits)) st.InQuoted st.InQuoted act.Copy h (in-quotes (get_or text at 0) (none at (omega arith) (omega arith))) refl))

pub quoted-to : (text : List ℕ) (base at quote : ℕ) → base ≤ at → at ≤ quote → quote ≤ length text → NoQuote text at quote → IsIn (between text base at) st.InQuoted → IsIn (between text base quote) st.InQuoted
quoted-to text base at quote low some high none h =
    let e : at + (quote - at) ≡ quote = omega (arith, some) in
    subst (λ m. IsIn (between text base m) st.InQuoted) e (quoted-run text base (quote - at) at low (omega (arith, e, high)) (λ i a b. none i a (omega (arith, b, e))) h)

module _ (text : List ℕ) (base quote : ℕ) (low : base ≤ quote) (h : IsIn (between text base quote) st.InQuoted) where
  -- the text ends within quotes
  pub open-end : length text ≤ quote → IsAt text base quote st.InField
  open-end over = record { state = st.InQuoted; reads = h; ends = λ _. refl; alike = λ lt. absurd (omega (arith, lt, over)) }

  module _ (lt : quote < length text) (is_quote : (get_or text quote 0 == 34) ≡ true) where
    closed : IsIn (between text base (quote + 1)) st.AfterQuote
    closed = on text base quote low lt st.InQuoted st.AfterQuote act.Skip h (close-quote (get_or text quote 0) is_quote) refl

    -- no second quote follows
    pub closed-end : (quote + 1 < length text → (get_or text (quote + 1) 0 == 34) ≡ false) → IsAt text base (quote + 1) st.InField
    closed-end none = record { state = st.AfterQuote; reads = closed; ends = λ _. refl; alike = λ more. after-quote (get_or text (quote + 1) 0) (none more) }

    -- a second quote follows
    pub doubled : quote + 1 < length text → (get_or text (quote + 1) 0 == 34) ≡ true → IsIn (between text base (quote + 1 + 1)) st.InQuoted
    doubled more second = on text base (quote + 1) (omega (arith, low)) more st.AfterQuote st.InQuoted act.Copy closed (double-quote (get_or text (quote + 1) 0) second) refl

-- ---- outside of quotes

-- a byte outside of quotes, by what it is
abbrev field_step : Bool → Bool → Bool → State × Action
field_step comma cr lf = cond comma (st.StartField, act.EndField) (cond (cr || lf) (cond cr st.AfterCr st.StartRecord, act.EndRecord) (st.InField, act.Copy))

outside-step : (b : Bool) (c : ℕ) → (c == 34) ≡ false → step default_config (outside b) c ≡ field_step (c == 44) (c == 13) (c == 10)
outside-step true c e = rw e refl
outside-step false c e = refl

plain-step : (b : Bool) (c : ℕ) → stops c ≡ false → (a : Action) × (step default_config (outside b) c ≡ (outside (c == 44), a)) × (is_end a ≡ false)
plain-step b c e =
    let parts = go (c == 34) (c == 13) (c == 10) e in
    let s : step default_config (outside b) c ≡ field_step (c == 44) false false = outside-step b c parts.0 ∙ ap (λ x. field_step (c == 44) x (c == 10)) parts.1 ∙ ap (λ x. field_step (c == 44) false x) parts.2 in
    comma (c == 44) s
  where
    go : (q cr lf : Bool) → (q || (cr || lf)) ≡ false → (q ≡ false) × (cr ≡ false) × (lf ≡ false)
    go true cr lf e = absurd (cc e)
    go false true lf e = absurd (cc e)
    go false false true e = absurd (cc e)
    go false false false e = (refl, refl, refl)

    comma : (x : Bool) → step default_config (outside b) c ≡ field_step x false false → (a : Action) × (step default_config (outside b) c ≡ (outside x, a)) × (is_end a ≡ false)
    comma true s = (act.EndField, s, refl)
    comma false s = (act.Copy, s, refl)

begins-next : (text : List ℕ) (start at : ℕ) → start ≤ at → begins text start (at + 1) ≡ (get_or text at 0 == 44)
begins-next text start at low =
    let other : (at + 1 == start) ≡ false = grind (arith, nat_tests, low) in
    ap (λ b. b || (get_or text (at + 1 - 1) 0 == 44)) other ∙ ap (λ n. get_or text n 0 == 44) (let q : at + 1 - 1 ≡ at = omega arith in q)

outside-ends : (b : Bool) → ends_at_end (outside b) ≡ true
outside-ends true = refl
outside-ends false = refl

module _ (text : List ℕ) (from start : ℕ) (first : from ≤ start) where
  abbrev pub IsOutside : ℕ → Type 0
  IsOutside at = IsAt text from at (outside (begins text start at))

  -- after a byte the state is known
  known : (at : ℕ) → IsIn (between text from at) (outside (begins text start at)) → IsOutside at
  known at h = record { state = outside (begins text start at); reads = h; ends = λ _. outside-ends (begins text start at); alike = λ _. refl }

  -- one byte
  plain-on : (at : ℕ) → start ≤ at → at < length text → IsOutside at → stops (get_or text at 0) ≡ false → IsOutside (at + 1)
  plain-on at low lt h e =
      let p = plain-step (begins text start at) (get_or text at 0) e in
      known (at + 1)
      (subst (λ b. IsIn (between text from (at + 1)) (outside b)) (sym (begins-next text start at low))
      (on text from at (omega (arith, first, low)) lt h.state (outside (get_or text at 0 == 44)) p.0 h.reads (h.alike lt ∙ p.1) p.2))

  plain-run : (n at : ℕ) → start ≤ at → at + n ≤ length text → NoneStops text at (at + n) → IsOutside at → IsOutside (at + n)
  plain-run zero at low fits none h = subst IsOutside (let q : at ≡ at + 0 = omega arith in q) h
  plain-run (suc n) at low fits none h =
      subst IsOutside (let q : at + 1 + n ≡ at + suc n = omega arith in q)
      (plain-run n (at + 1) (omega (arith, low)) (omega (arith, fits)) (λ i a b. none i (omega (arith, a)) (omega (arith, b)))
      (plain-on at low (omega (arith, fits)) h (none at (omega arith) (omega arith))))

  -- up to where a search stops
  pub plain-to : (at end : ℕ) → start ≤ at → at ≤ end → end ≤ length text → NoneStops text at end → IsOutside at → IsOutside end
  plain-to at end low some high none h =
      let e : at + (end - at) ≡ end = omega (arith, some) in
      subst IsOutside e (plain-run (end - at) at low (omega (arith, e, high)) (λ i a b. none i a (omega (arith, b, e))) h)

  -- a line ends
  pub line-end : (at : ℕ) → start ≤ at → at < length text → IsOutside at → stops (get_or text at 0) ≡ true → (get_or text at 0 == 34) ≡ false → (r : Record) × AreRecords (between text from (at + 1)) (r ∷ [])
  line-end at low lt h e n =
      let c : ℕ = get_or text at 0 in
      let t : State = cond (c == 13) st.AfterCr st.StartRecord in
      off text from at (omega (arith, first, low)) lt h.state t h.reads (h.alike lt ∙ outside-step (begins text start at) c n ∙ line (c == 34) (c == 13) (c == 10) n e (c == 44) (no-comma c e)) (way (c == 13))
    where
      line : (q cr lf : Bool) → q ≡ false → (q || (cr || lf)) ≡ true → (comma : Bool) → comma ≡ false → field_step comma cr lf ≡ (cond cr st.AfterCr st.StartRecord, act.EndRecord)
      line true cr lf n e comma k = absurd (cc n)
      line false cr lf n e true k = absurd (cc k)
      line false true lf n e false k = refl
      line false false true n e false k = refl
      line false false false n e false k = absurd (cc e)

      way : (cr : Bool) → IsBetween (cond cr st.AfterCr st.StartRecord)
      way true = inr refl
      way false = inl refl

      no-comma : (c : ℕ) → stops c ≡ true → (c == 44) ≡ false
      no-comma c e = grind (arith, nat_tests, e)

  -- a quote within a field is a byte of it
  pub quote-in-field : (at : ℕ) → start ≤ at → at < length text → IsOutside at → begins text start at ≡ false → (get_or text at 0 == 34) ≡ true → IsOutside (at + 1)
  quote-in-field at low lt h b q =
      let c : ℕ = get_or text at 0 in
      let comma : (c == 44) ≡ false = grind (arith, nat_tests, q) in
      let cr : (c == 13) ≡ false = grind (arith, nat_tests, q) in
      let lf : (c == 10) ≡ false = grind (arith, nat_tests, q) in
      let s : step default_config (outside (begins text start at)) c ≡ (st.InField, act.Copy) = rw (b, comma, cr, lf) refl in
      known (at + 1)
      (subst (λ x. IsIn (between text from (at + 1)) (outside x)) (sym (begins-next text start at low ∙ comma))
      (on text from at (omega (arith, first, low)) lt h.state st.InField act.Copy h.reads (h.alike lt ∙ s) refl))

  -- a quote that opens a field
  pub quote-opens : (at : ℕ) → start ≤ at → at < length text → IsOutside at → begins text start at ≡ true → (get_or text at 0 == 34) ≡ true → IsIn (between text from (at + 1)) st.InQuoted
  quote-opens at low lt h b q =
      let s : step default_config (outside (begins text start at)) (get_or text at 0) ≡ (st.InQuoted, act.Skip) = rw (b, q) refl in
      on text from at (omega (arith, first, low)) lt h.state st.InQuoted act.Skip h.reads (h.alike lt ∙ s) refl

  -- after quotes no field begins
  pub quotes-left : (at : ℕ) → start < at → (at < length text → (get_or text (at - 1) 0 == 34) ≡ true) → IsAt text from at st.InField → IsOutside at
  quotes-left at low q h = record {
    state = h.state;
    reads = h.reads;
    ends = h.ends;
    alike = λ lt. h.alike lt ∙ ap (λ b. step default_config (outside b) (get_or text at 0)) (sym (none lt));
  }
    where
      none : at < length text → begins text start at ≡ false
      none lt =
          let other : (at == start) ≡ false = grind (arith, nat_tests, low) in
          let comma : (get_or text (at - 1) 0 == 44) ≡ false = grind (arith, nat_tests, q lt) in
          ap (λ b. b || (get_or text (at - 1) 0 == 44)) other ∙ comma

-- the start of a record, at a byte that ends no line
pub started : (text : List ℕ) (from start : ℕ) → start < length text → IsBlank (between text from start) → ((get_or text start 0 == 13) || (get_or text start 0 == 10)) ≡ false → IsAt text from start (outside (begins text start start))
started text from start lt h e =
    let self : (start == start) ≡ true = grind (arith, nat_tests) in
    let s : step default_config st.StartRecord (get_or text start 0) ≡ step default_config st.StartField (get_or text start 0) = rw e refl in
    record {
      state = st.StartRecord;
      reads = ([], [], h);
      ends = λ over. absurd (omega (arith, lt, over));
      alike = λ _. s ∙ ap (λ b. step default_config (outside (b || (get_or text (start - 1) 0 == 44))) (get_or text start 0)) (sym self);
    }

-- ---- the end of a text

-- a record ends with the text
pub last-open : (text : List ℕ) (from at : ℕ) (s : State) → length text ≤ at → IsAt text from at s → AreLast (drop from text) true
last-open text from at s over h =
    let r = h.reads in
    let e : next_of (drop from text) ≡ Some (r.0 ++ r.1 ∷ [], st.StartRecord, []) =
    ap next_of (sym (append-nil (drop from text)) ∙ ap (λ xs. xs ++ []) (sym (between-all text from at over))) ∙ r.2 [] ∙ ended h.state r.0 r.1 (h.ends over) in (
      r.0 ++ r.1 ∷ [],
      first-record (drop from text) [] (r.0 ++ r.1 ∷ []) st.StartRecord e (inl refl) ∙ ap (λ rs. (r.0 ++ r.1 ∷ []) ∷ rs) (none-record [] no-byte),
    )

-- only ends of lines are left
pub last-none : (text : List ℕ) (from at : ℕ) → length text ≤ at → IsBlank (between text from at) → AreLast (drop from text) false
last-none text from at over h = no-records (drop from text) (subst IsBlank (between-all text from at over) h)

-- ---- records one after the other

pub records-joined : (xs ys : List ℕ) (rs ss : List Record) → AreRecords xs rs → AreRecords ys ss → AreRecords (xs ++ ys) (rs ++ ss)
records-joined xs ys rs ss a b = λ more.
    ap (records default_config) (append_assoc xs ys more)
    ∙ a (ys ++ more)
    ∙ ap (λ zs. rs ++ zs) (b more)
    ∙ sym (append_assoc rs ss (records default_config more))

pub more-records : (text : List ℕ) (at end : ℕ) (rs ss : List Record) → at ≤ end → AreRecords (take at text) rs → AreRecords (between text at end) ss → AreRecords (take end text) (rs ++ ss)
more-records text at end rs ss high a b =
    let joined : take at text ++ between text at end ≡ take end text = sym (take-between text at end high) in
    subst (λ xs. AreRecords xs (rs ++ ss)) joined (records-joined (take at text) (between text at end) rs ss a b)
