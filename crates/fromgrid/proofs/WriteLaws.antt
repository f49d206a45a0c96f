-- The numbers of all levels written one part after the other, and each part's end in the slice.
use mathlib.Core.Path.{◌≡◌, refl, sym, ◌∙◌}
use mathlib.Core.List.{List}
use Prim.Native.Nat.{ℕ, ◌+◌, ◌-◌, ◌≤◌, ◌<◌}
use native.Mathlib.Omega.{arith}
use lib.IntN.{ℤ, pos}
use lib.ListN.{length, get_or}
use Rattle.surface.specs.Fields.{number_at}
use Rattle.surface.specs.Table.{places, start, slots, slice_of}
use Rattle.rows.specs.Rows.{levels_of}
use Rattle.passive.specs.Cleared.{cleared_slice}
use Rattle.fromgrid.specs.Converts.{number_in, active_in}
use Rattle.fromgrid.proofs.NumberLaws.{mid, put_in, put-length, part-ends, Filled, fill_none, fill-next, all-cleared}

-- a row that was read has the numbers of a part
abbrev Read : ℕ → ℕ → (ℕ → ℤ) → List ℤ → List ℤ → Type 0
Read at end f out row =
    (length row ≡ length (mid at (end - at) out))
    × ((k : ℕ) → k < length (mid at (end - at) out) → get_or row k (pos 0) ≡ f (0 + k))

module _ (W H : ℕ) (out : List ℤ) (size : length out ≡ slots W H) (body : List ℕ) (l₀ l₁ l₂ : List ℤ) {a b c d : ℕ}
    (ea : a ≡ places W H 0) (eb : b ≡ places W H 1) (ec : c ≡ places W H 2) (ed : d ≡ places W H 3) where
  abbrev N : ℕ → ℕ → ℕ → ℤ
  N = number_in W body l₀ l₁ l₂

  ends : (a ≡ start W H 1) × (a + b ≡ start W H 2) × (a + b + c ≡ start W H 3) × (a + b + c + d ≡ slots W H)
  ends = part-ends W H ea eb ec ed

  -- a slice as long as the table has room for all
  room : (s : List ℤ) → length s ≡ length out → a + b + c + d ≡ length s
  room s e = ends.3 ∙ sym size ∙ sym e

  pub first-fits : a ≤ length out
  first-fits = omega (arith, room out refl)

  module _ (r₀ : List ℤ) (t₀ : Read 0 a (λ k. get_or l₀ k (pos 0)) out r₀) where
    abbrev out₁ : List ℤ
    out₁ = put_in 0 (a - 0) r₀ out

    long₁ : length out₁ ≡ length out
    long₁ = put-length 0 a r₀ out (omega arith) first-fits t₀.0

    pub second-fits : a + b ≤ length out₁
    second-fits = omega (arith, room out₁ long₁)

    filled₁ : Filled W H N 1 out₁
    unfolding start
    filled₁ =
        fill-next W H N 0 0 a (λ k. get_or l₀ k (pos 0)) out r₀ refl ends.0 first-fits (λ i j. refl) t₀
        (fill_none W H N out)

    module _ (r₁ : List ℤ) (t₁ : Read a (a + b) (λ k. get_or l₁ k (pos 0)) out₁ r₁) where
      abbrev out₂ : List ℤ
      out₂ = put_in a (a + b - a) r₁ out₁

      long₂ : length out₂ ≡ length out
      long₂ = put-length a (a + b) r₁ out₁ (omega arith) second-fits t₁.0 ∙ long₁

      pub third-fits : a + b + c ≤ length out₂
      third-fits = omega (arith, room out₂ long₂)

      filled₂ : Filled W H N 2 out₂
      filled₂ =
          fill-next W H N 1 a (a + b) (λ k. get_or l₁ k (pos 0)) out₁ r₁ ends.0 ends.1 second-fits (λ i j. refl) t₁
          filled₁

      module _ (r₂ : List ℤ) (t₂ : Read (a + b) (a + b + c) (λ k. get_or l₂ k (pos 0)) out₂ r₂) where
        abbrev out₃ : List ℤ
        out₃ = put_in (a + b) (a + b + c - (a + b)) r₂ out₂

        long₃ : length out₃ ≡ length out
        long₃ = put-length (a + b) (a + b + c) r₂ out₂ (omega arith) third-fits t₂.0 ∙ long₂

        pub last-fits : a + b + c + d ≤ length out₃
        last-fits = omega (arith, room out₃ long₃)

        filled₃ : Filled W H N 3 out₃
        filled₃ =
            fill-next W H N 2 (a + b) (a + b + c) (λ k. get_or l₂ k (pos 0)) out₂ r₂ ends.1 ends.2 third-fits
            (λ i j. refl) t₂ filled₂

        module _ (r₃ : List ℤ) (t₃ : Read (a + b + c) (a + b + c + d) (λ k. number_at body k) out₃ r₃) where
          abbrev out₄ : List ℤ
          out₄ = put_in (a + b + c) (a + b + c + d - (a + b + c)) r₃ out₃

          filled₄ : Filled W H N 4 out₄
          filled₄ =
              fill-next W H N 3 (a + b + c) (a + b + c + d) (λ k. number_at body k) out₃ r₃ ends.2 ends.3 last-fits
              (λ i j. refl) t₃ filled₃

          pub table-written : (rows : List ℕ) (after : List ℤ) → after ≡ cleared_slice W H rows out₄
              → after ≡ slice_of W H (active_in W H (levels_of rows) N)
          table-written rows after = all-cleared W H rows N out₄ after filled₄
