use Rattle.std.proofs.Common.{◌≡◌, ◌∙◌, ◌+◌, ℕ, Bool, true, false, cond, zero, suc, nat_lt, count_by, refl, sym, ap, lt-ltb, zero-add, arith}
use Rattle.fq_shell.specs.Arguments.{is_standard, reads_input_twice}
use Rattle.fq_shell.proofs.options.Options.reads_input_twice.Goals as goal

one-more : (n : ℕ) → nat_lt 0 n ≡ nat_lt 1 (1 + n)
one-more zero = refl
one-more (suc n) = lt-ltb 0 (suc n) (omega arith) ∙ sym (lt-ltb 1 (1 + suc n) (omega arith))

with-plan : (b : Bool) (n m : ℕ) → b ≡ true → n ≡ m → nat_lt 0 n ≡ nat_lt 1 (cond b 1 0 + m)
with-plan b n m plan same = rw (plan, same) (one-more m)

without-plan : (b : Bool) (n m : ℕ) → b ≡ false → n ≡ m → nat_lt 1 n ≡ nat_lt 1 (cond b 1 0 + m)
without-plan b n m plan same = rw (plan, same) (ap (nat_lt 1) (sym (zero-add m)))

pub returns-then-plan_is_standard : goal.returns-then-plan_is_standard
unfolding reads_input_twice
returns-then-plan_is_standard c =
    with-plan _ _ _ (sym c.plan_is_standard.ensures ∙ c.if-plan_is_standard.true) (c.count_standard-files.ensures ∙ ap (count_by is_standard) c.files.ensures)

pub returns-else-plan_is_standard : goal.returns-else-plan_is_standard
unfolding reads_input_twice
returns-else-plan_is_standard c =
    without-plan _ _ _ (sym c.plan_is_standard.ensures ∙ c.if-plan_is_standard.false) (c.count_standard-files.ensures ∙ ap (count_by is_standard) c.files.ensures)
