-- The body of a level in the file of a table: five bytes for each active function, and it reads back.
use mathlib.Core.Path.{◌≡◌, refl, sym, ap, ◌∙◌, subst}
use mathlib.Core.Bool.{Bool, true, false, cond}
use mathlib.Core.List.{List, [], ◌++◌}
use Prim.Native.Nat.{ℕ, zero, suc, ◌+◌, ◌*◌, ◌^◌, ◌≤◌, ◌<◌}
use native.Mathlib.Nat.{pow-le-pow_right}
use native.Mathlib.Decide.{dec_lt}
use native.Mathlib.Omega.{arith}
use lib.IntN.{ℤ, nat_abs}
use lib.Dec.{leb}
use borrow.Author.Tests.{le-leb}
use lib.ListN.{length, get_or, length-append, get_or-append}
use lib.Seq.{get_or-append-add}
use Rattle.finite.specs.Range.{count, total, grid, joined}
use Rattle.finite.proofs.Table.{grid-cong}
use Rattle.finite.proofs.Joined.{joined-through}
use Rattle.finite.proofs.Tests.{every-intro}
use Rattle.surface.specs.Sheet.{functions}
use Rattle.surface.specs.Support.{active, active_in_row, active_count, active_before}
use Rattle.surface.specs.Table.{levels, coefficients, limit}
use Rattle.surface.specs.Fields.{number_at, all_within, Bytes, number_bytes}
use Rattle.surface.specs.TableFile.{loaded, level_loaded, place_bytes, row_bytes, level_body}
use Rattle.surface.proofs.TableLaws.{Sound, sides}
use Rattle.fields.proofs.Written.{nil-bytes, joined_bytes, number-bytes, number_read}
use Rattle.tablefile.proofs.CountLaws.{count-before}
use Rattle.tablefile.proofs.ActiveLaws.{active-place, active-few, loaded-active, loaded-passive}

-- ---- lists one after the other

module _ (f : ℕ → List ℕ) where
  -- what list b holds stands after the lists before it
  joined_at : (n b i : ℕ) → b < n → i < length (f b)
      → get_or (joined n f) (length (joined b f) + i) 0 ≡ get_or (f b) i 0
  unfolding joined
  joined_at zero b i h l = absurd (omega arith)
  joined_at (suc n) b i h l = go (joined_at n b i) (dec_lt b n)
    where
      go : (b < n → i < length (f b) → get_or (joined n f) (length (joined b f) + i) 0 ≡ get_or (f b) i 0)
          → Dec (b < n) → get_or (joined n f ++ f n) (length (joined b f) + i) 0 ≡ get_or (f b) i 0
      go ih (yes d) =
          get_or-append (joined n f) (f n) 0 (length (joined b f) + i)
          (omega (arith, joined-through f n b d))
          ∙ ih d l
      go ih (no d) =
          let e : n ≡ b = omega arith in
          ap (λ m. get_or (joined m f ++ f m) (length (joined b f) + i) 0) e
          ∙ get_or-append-add (joined b f) (f b) i 0

-- ---- its length and its bytes

module _ (W H : ℕ) (lev : ℕ → ℕ → ℕ) (coef : ℕ → ℕ → ℕ → ℤ) (L : ℕ) where
  place-length : (a b : ℕ) → length (place_bytes W H lev coef L a b) ≡ 5 * cond (active W H lev L a b) 1 0
  place-length a b = go (active W H lev L a b)
    where
      go : (on : Bool) → length (cond on (number_bytes (coef L a b)) []) ≡ 5 * cond on 1 0
      go true = refl
      go false = refl

  -- five bytes for each active function of the first n of a row, and of the first m rows
  row-length : (n b : ℕ)
      → length (joined n (λ a. place_bytes W H lev coef L a b)) ≡ 5 * count n (λ a. active W H lev L a b)
  unfolding joined count
  row-length zero b = refl
  row-length (suc n) b =
      omega (
        arith,
        row-length n b,
        place-length n b,
        length-append (joined n (λ a. place_bytes W H lev coef L a b)) (place_bytes W H lev coef L n b),
      )

  rows-length : (m : ℕ)
      → length (joined m (λ b. row_bytes W H lev coef L b)) ≡ 5 * total m (λ b. active_in_row W H lev L b)
  unfolding joined total active_in_row
  rows-length zero = refl
  rows-length (suc m) =
      omega (
        arith,
        rows-length m,
        row-length (functions W L) m,
        length-append (joined m (λ b. row_bytes W H lev coef L b)) (row_bytes W H lev coef L m),
      )

  pub level-length : length (level_body W H lev coef L) ≡ 5 * active_count W H lev L
  unfolding level_body active_count
  level-length = rows-length (functions H L)

  -- an active function's number stands after those before it
  level-at : (a b i : ℕ) → a < functions W L → b < functions H L → active W H lev L a b ≡ true → i < 5
      → get_or (level_body W H lev coef L) (5 * active_before W H lev L a b + i) 0
      ≡ get_or (number_bytes (coef L a b)) i 0
  unfolding level_body active_before active_in_row
  level-at a b i ha hb e h =
      let row : ℕ → List ℕ = λ a. place_bytes W H lev coef L a b in
      let before = length (joined a row) in
      let on : ℕ → Bool = λ a. active W H lev L a b in
      let in_row : before + i < length (joined (functions W L) row) =
      omega (arith, row-length a b, row-length (functions W L) b, count-before (functions W L) on a ha e) in
      let here : row a ≡ number_bytes (coef L a b) =
      ap (λ s. cond s (number_bytes (coef L a b)) []) e in
      let at : 5 * active_before W H lev L a b + i
      ≡ length (joined b (λ b. row_bytes W H lev coef L b)) + (before + i) =
      omega (arith, rows-length b, row-length a b) in
      ap (λ p. get_or (level_body W H lev coef L) p 0) at
      ∙ joined_at (λ b. row_bytes W H lev coef L b) (functions H L) b (before + i) hb in_row
      ∙ joined_at row (functions W L) a i ha (subst (λ s. i < length s) (sym here) h)
      ∙ ap (λ s. get_or s i 0) here

  pub level-bytes : Bytes (level_body W H lev coef L)
  unfolding level_body
  level-bytes =
      joined_bytes (λ b. row_bytes W H lev coef L b) (functions H L)
      λ b hb. joined_bytes (λ a. place_bytes W H lev coef L a b) (functions W L)
      λ a ha. go b a (active W H lev L a b)
    where
      go : (b a : ℕ) (on : Bool) → Bytes (cond on (number_bytes (coef L a b)) [])
      go b a true = number-bytes (coef L a b)
      go b a false = nil-bytes

-- ---- reading it back

-- the body in the file of a table
abbrev pub saved_body : ℕ → ℕ → List ℕ → List ℤ → ℕ → List ℕ
saved_body W H t cs L = level_body W H (levels t) (coefficients W H cs) L

pub limit-small : (L : ℕ) → L < 4 → limit L < 2 ^ 39
limit-small L h =
    let scale : 64 ^ L ≤ 64 ^ 3 = pow-le-pow_right {n = 64} (omega arith) {i = L} {j = 3} (omega arith) in
    omega arith

module _ (W H : ℕ) (t : List ℕ) (cs : List ℤ) (ok : Sound W H t cs) (L : ℕ) (hL : L < 4) where
  -- the number at an active function's place is its coefficient
  pub level-number : (a b : ℕ) → a < functions W L → b < functions H L → active W H (levels t) L a b ≡ true
      → number_at (saved_body W H t cs L) (active_before W H (levels t) L a b) ≡ coefficients W H cs L a b
  level-number a b ha hb e =
      number_read (saved_body W H t cs L) (active_before W H (levels t) L a b) (coefficients W H cs L a b)
      (omega (arith, ok.limits L a b hL ha hb e, limit-small L hL))
      (λ i h. level-at W H (levels t) (coefficients W H cs) L a b i ha hb e h)

  -- each function loads its coefficient, a passive one 0
  place-loads : (a b : ℕ) → a < functions W L → b < functions H L
      → loaded W H (levels t) L (saved_body W H t cs L) a b ≡ coefficients W H cs L a b
  place-loads a b ha hb = go (active W H (levels t) L a b) refl
    where
      go : (on : Bool) → active W H (levels t) L a b ≡ on
          → loaded W H (levels t) L (saved_body W H t cs L) a b ≡ coefficients W H cs L a b
      go true e = loaded-active W H (levels t) L (saved_body W H t cs L) a b e ∙ level-number a b ha hb e
      go false e =
          loaded-passive W H (levels t) L (saved_body W H t cs L) a b e ∙ sym (ok.passive L a b hL ha hb e)

  pub level-loads : level_loaded W H (levels t) L (saved_body W H t cs L)
      ≡ grid (functions W L) (functions H L) (coefficients W H cs L)
  level-loads = grid-cong (functions W L) (functions H L) _ _ place-loads

  pub level-within : all_within (limit L) (active_count W H (levels t) L) (saved_body W H t cs L) ≡ true
  unfolding all_within
  level-within =
      every-intro (active_count W H (levels t) L) (λ k. leb (nat_abs (number_at (saved_body W H t cs L) k)) (limit L))
      λ k h.
      let p = active-place W H (levels t) L k h in
      let same = level-number p.0 p.1 p.2 p.3 p.4 in
      le-leb (nat_abs (number_at (saved_body W H t cs L) k)) (limit L)
      (subst (λ z. nat_abs z ≤ limit L) (sym same ∙ ap (number_at (saved_body W H t cs L)) p.5)
      (ok.limits L p.0 p.1 hL p.2 p.3 p.4))

  -- at most five bytes for each of 67 by 67 places
  pub level-small : length (saved_body W H t cs L) < 65536
  level-small =
      omega (
        arith,
        level-length W H (levels t) (coefficients W H cs) L,
        active-few W H (levels t) L (sides ok).1 (sides ok).3 hL,
      )
