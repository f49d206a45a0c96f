-- A product by the quotient and the remainder of a factor, and the remainder of what is less than twice the divisor.
use mathlib.Core.Path.{◌≡◌, sym, ap, ◌∙◌}
use Prim.Native.Nat.{ℕ, ◌+◌, ◌-◌, ◌*◌, ◌/◌, ◌%◌, ◌≤◌, ◌<◌}
use native.Mathlib.Nat.{div-add-mod', mod-eq_of_lt, mul-add-mod_self_right, add-mul, one-mul, mul_assoc, mul_comm}
use native.Mathlib.Omega.{arith}

pub split-times : (d m t : ℕ) → m * t ≡ d * (m / d * t) + m % d * t
split-times d m t =
    ap (λ k. k * t) (sym (div-add-mod' m d))
    ∙ add-mul (m / d * d) (m % d) t
    ∙ ap (λ k. k * t + m % d * t) (mul_comm (m / d) d)
    ∙ ap (λ k. k + m % d * t) (mul_assoc d (m / d) t)

pub mod-once : (n m : ℕ) → n ≤ m → m < n + n → m % n ≡ m - n
mod-once n m low high =
    let split : m ≡ 1 * n + (m - n) = omega (arith, one-mul n) in
    ap (λ k. k % n) split ∙ mul-add-mod_self_right 1 n (m - n) ∙ mod-eq_of_lt (omega arith)
