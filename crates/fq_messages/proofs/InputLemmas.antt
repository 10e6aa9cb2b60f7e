-- The bytes before the first line feed.
use Rattle.std.proofs.Common.{◌≡◌, ℕ, zero, suc, ◌<◌, ◌+◌, Bool, true, false, List, [], ◌∷◌, length, take, drop, get_or, refl, ap, sym, ◌∙◌, arith, not, cond, ◌-◌}
use Rattle.std.specs.Prelude.{◌==◌}
use Rattle.std.specs.List.{prefix_len}
use Rattle.std.proofs.Math.Seq.{take_all, take-length}
use Rattle.std.proofs.lemmas.List.{length-take-le, length-drop, drop_all}
use Rattle.std.proofs.lemmas.Bool.{eq-eqb}
use Rattle.std.proofs.lemmas.Bool.Decides.{Decides-eqb}
use Rattle.fq_messages.specs.Input.{plan_line, file_after}

other : (c : ℕ) → (c ≡ 10 → ⊥) → (c == 10) ≡ false
other c n = go (c == 10) refl
  where
    go : (b : Bool) → (c == 10) ≡ b → (c == 10) ≡ false
    go true e = absurd (n ((Decides-eqb c 10).0 e))
    go false e = e

length-at : (xs : List ℕ) (i : ℕ) → i < length xs → ((k : ℕ) → k < i → get_or xs k 0 ≡ 10 → ⊥) → get_or xs i 0 ≡ 10 → prefix_len (λ c. not (c == 10)) xs ≡ i
length-at [] i below before here = absurd (omega (arith, below))
length-at (x ∷ xs) zero below before here = ap (λ b. cond (not b) (1 + prefix_len (λ c. not (c == 10)) xs) 0) (eq-eqb x 10 here)
length-at (x ∷ xs) (suc i) below before here =
    ap (λ b. cond (not b) (1 + prefix_len (λ c. not (c == 10)) xs) 0) (other x (before 0 (omega arith)))
    ∙ ap (λ n. 1 + n) (length-at xs i (omega (arith, below)) (λ k lt. before (suc k) (omega (arith, lt))) here)
    ∙ (let e : 1 + i ≡ suc i = omega arith in e)

length-all : (xs : List ℕ) → ((k : ℕ) → k < length xs → get_or xs k 0 ≡ 10 → ⊥) → prefix_len (λ c. not (c == 10)) xs ≡ length xs
length-all [] none = refl
length-all (x ∷ xs) none =
    ap (λ b. cond (not b) (1 + prefix_len (λ c. not (c == 10)) xs) 0) (other x (none 0 (omega arith)))
    ∙ ap (λ n. 1 + n) (length-all xs (λ k lt. none (suc k) (omega (arith, lt))))
    ∙ (let e : 1 + length xs ≡ suc (length xs) = omega arith in e)

pub plan_line-at : (xs : List ℕ) (i : ℕ) → i < length xs → ((k : ℕ) → k < i → get_or xs k 0 ≡ 10 → ⊥) → get_or xs i 0 ≡ 10 → plan_line xs ≡ take i xs
plan_line-at xs i below before here = ap (λ n. take n xs) (length-at xs i below before here)

pub plan_line-all : (xs : List ℕ) → ((k : ℕ) → k < length xs → get_or xs k 0 ≡ 10 → ⊥) → plan_line xs ≡ xs
plan_line-all xs none = ap (λ n. take n xs) (length-all xs none) ∙ take-length xs

pub file_after-at : (xs : List ℕ) (i : ℕ) → i < length xs → plan_line xs ≡ take i xs → take (length xs - (i + 1)) (drop (i + 1) xs) ≡ file_after xs
file_after-at xs i below e =
    take_all (length xs - (i + 1)) (drop (i + 1) xs) (omega (arith, length-drop (i + 1) xs))
    ∙ sym (ap (λ n. drop (n + 1) xs) (ap length e ∙ length-take-le i xs (omega (arith, below))))

pub file_after-none : (xs : List ℕ) → plan_line xs ≡ xs → take (length xs - length xs) (drop (length xs) xs) ≡ file_after xs
file_after-none xs e =
    ap (λ n. take n (drop (length xs) xs)) (let f : length xs - length xs ≡ 0 = omega arith in f)
    ∙ sym (ap (λ n. drop (n + 1) xs) (ap length e) ∙ drop_all (length xs + 1) xs (omega arith))
