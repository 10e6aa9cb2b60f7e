-- Division of whole numbers, rounded towards minus infinity (Polars, `Expr.floordiv` and `Expr.mod`).
use Rattle.std.specs.Prelude.{ℤ, pos, neg_ℤ, ◌*ℤ◌, ◌-ℤ◌, int_lt, if◌then◌else◌}
use Rattle.std.specs.Int.{int_div_euclid}

-- a / b, rounded towards minus infinity: if b is positive, the division whose remainder is not negative
abbrev pub floor_quotient : ℤ → ℤ → ℤ
floor_quotient a b = if int_lt b (pos 0) then int_div_euclid (neg_ℤ a) (neg_ℤ b) else int_div_euclid a b

-- the remainder, a less that many times b: 0, or a number with the sign of b
abbrev pub floor_remainder : ℤ → ℤ → ℤ
floor_remainder a b = a -ℤ (b *ℤ floor_quotient a b)
