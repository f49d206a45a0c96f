-- The numbers of all levels: what follows where coefficients carry the grid's, and when they fit.
use mathlib.Core.Path.{◌≡◌, sym, subst}
use mathlib.Core.List.{List}
use Prim.Native.Nat.{ℕ, zero, suc, ◌+◌, ◌*◌, ◌^◌, ◌≤◌, ◌<◌}
use native.Mathlib.Nat.{mul_comm, mul-le-mul_left, pow-le-pow_right}
use native.Mathlib.Omega.{arith}
use lib.Dec.{leb, lit≤}
use lib.IntN.{ℤ, pos, nat_abs}
use lib.ListN.{get_or}
use borrow.Author.Tests.{leb-true}
use Rattle.finite.proofs.Tests.{every_true}
use Rattle.finite.proofs.Table.{place-below, place-split}
use Rattle.surface.specs.Sheet.{functions, quarters}
use Rattle.surface.specs.Support.{least_under}
use Rattle.surface.specs.Table.{places, limit}
use Rattle.surface.specs.Fields.{number_at, all_within}
use Rattle.surface.proofs.Least.{least_under-le-3}
use Rattle.carry.specs.Carried.{Within}
use Rattle.coarsening.specs.Coarser.{Around, Coarser, Past, Backed, Whole}
use Rattle.fromgrid.specs.Converts.{in_rows, number_in, Agrees, Fits, Carries, OfBody, in_body, Levels}
use Rattle.fromgrid.specs.Converts.{NotCarried, AllAgree}
use Rattle.fromgrid.proofs.Reached.{around-least}
use Rattle.fromgrid.proofs.ConvertLaws.{Are, value, coarser, not-past, known, agreed}

-- a number of the body is within its limit
pub body-small : (W H : ℕ) (body : List ℕ) → OfBody W H body → (a b : ℕ) → a < functions W 3 → b < functions H 3
    → nat_abs (in_body W body a b) ≤ limit 3
unfolding all_within
body-small W H body o a b ha hb =
    let n = functions W 3 in
    let k = b * n + a in
    leb-true (nat_abs (number_at body k)) (limit 3)
    (every_true (places W H 3) (λ k. leb (nat_abs (number_at body k)) (limit 3)) o.within k
    (omega (arith, place-below n (functions H 3) a b ha hb, mul_comm n (functions H 3))))

-- a level's numbers are small enough for a sum of them
pub level-within : (W H : ℕ) (lev : ℕ → ℕ → ℕ) (L : ℕ) (F : ℕ → ℕ → ℤ) (done : ℕ → ℕ → Type 0) (s : List ℤ) → L ≤ 2
    → Backed W H lev L F done s → Within 131072000 s
level-within W H lev L F done s hL b k l =
    let n = functions W L in
    let m = functions H L in
    let q = place-split n m k (omega (arith, b.size, mul_comm n m)) in
    let power : 64 ^ L ≤ 4096 = pow-le-pow_right {n = 64} (omega arith) {i = L} {j = 2} hL in
    let small = b.small q.0 q.1 q.2 q.3 in
    subst (λ k. nat_abs (get_or s k (pos 0)) ≤ 131072000) (sym q.4)
    (omega (arith, small, mul-le-mul_left 32000 power))

module _ (W H : ℕ) (p_w : 0 < W) (p_h : 0 < H) (lev : ℕ → ℕ → ℕ) (body : List ℕ) where
  -- a level's numbers pass their limit, whatever they come from
  abbrev pub Passed : ℕ → (ℕ → ℕ → ℤ) → Type 0
  Passed L F = (C : ℕ → ℕ → ℤ) → Coarser W H lev L F C → Past W H L C

  module _ (coef : ℕ → ℕ → ℕ → ℤ) (c : Carries W H lev coef (in_body W body)) where
    are-three : Are W H p_w p_h lev 3 (in_body W body) (value W H p_w p_h lev coef (in_body W body) c 3)
    are-three a b ha hb = sym (c.numbers a b ha hb)

    are-two : (l₂ : List ℤ) → Backed W H lev 2 (in_body W body) Whole l₂
        → Are W H p_w p_h lev 2 (in_rows (functions W 2) l₂) (value W H p_w p_h lev coef (in_body W body) c 2)
    are-two l₂ = known W H p_w p_h lev coef (in_body W body) c 2 (in_body W body) l₂ (lit≤ tt) are-three

    are-one : (l₁ l₂ : List ℤ) → Backed W H lev 2 (in_body W body) Whole l₂
        → Backed W H lev 1 (in_rows (functions W 2) l₂) Whole l₁
        → Are W H p_w p_h lev 1 (in_rows (functions W 1) l₁) (value W H p_w p_h lev coef (in_body W body) c 1)
    are-one l₁ l₂ two =
        known W H p_w p_h lev coef (in_body W body) c 1 (in_rows (functions W 2) l₂) l₁ (lit≤ tt) (are-two l₂ two)

  -- a number that passes its limit
  pub passed-two : Passed 2 (in_body W body) → NotCarried W H lev body
  passed-two past coef c =
      not-past W H p_w p_h lev coef (in_body W body) c 2 (lit≤ tt)
      (past (value W H p_w p_h lev coef (in_body W body) c 2)
      (coarser W H p_w p_h lev coef (in_body W body) c 2 (in_body W body) (lit≤ tt) (are-three coef c)))

  pub passed-one : (l₂ : List ℤ) → Backed W H lev 2 (in_body W body) Whole l₂
      → Passed 1 (in_rows (functions W 2) l₂) → NotCarried W H lev body
  passed-one l₂ two past coef c =
      not-past W H p_w p_h lev coef (in_body W body) c 1 (lit≤ tt)
      (past (value W H p_w p_h lev coef (in_body W body) c 1)
      (coarser W H p_w p_h lev coef (in_body W body) c 1 (in_rows (functions W 2) l₂) (lit≤ tt) (are-two coef c l₂ two)))

  pub passed_none : (l₁ l₂ : List ℤ) → Backed W H lev 2 (in_body W body) Whole l₂
      → Backed W H lev 1 (in_rows (functions W 2) l₂) Whole l₁
      → Passed 0 (in_rows (functions W 1) l₁) → NotCarried W H lev body
  passed_none l₁ l₂ two one past coef c =
      not-past W H p_w p_h lev coef (in_body W body) c 0 (lit≤ tt)
      (past (value W H p_w p_h lev coef (in_body W body) c 0)
      (coarser W H p_w p_h lev coef (in_body W body) c 0 (in_rows (functions W 1) l₁) (lit≤ tt)
      (are-one coef c l₁ l₂ two one)))

  module _ (l₀ l₁ l₂ : List ℤ) (s : Levels W H lev body l₀ l₁ l₂) where
    -- levels that do not agree
    pub disagree : ¬ AllAgree W H lev body l₀ l₁ l₂ → NotCarried W H lev body
    disagree differ coef c =
        let G = in_body W body in
        let two = are-two coef c l₂ s.two in
        let one = are-one coef c l₁ l₂ s.two s.one in
        let none = known W H p_w p_h lev coef G c 0 (in_rows (functions W 1) l₁) l₀ (lit≤ tt) one s.zero in
        differ (
          agreed W H p_w p_h lev coef G c 0 (in_rows (functions W 0) l₀) (in_rows (functions W 1) l₁) (lit≤ tt) none one,
          agreed W H p_w p_h lev coef G c 1 (in_rows (functions W 1) l₁) (in_rows (functions W 2) l₂) (lit≤ tt) one two,
          agreed W H p_w p_h lev coef G c 2 (in_rows (functions W 2) l₂) G (lit≤ tt) two (are-three coef c),
        )

    -- those that do fit
    pub all_fit : OfBody W H body → AllAgree W H lev body l₀ l₁ l₂ → Fits W H lev (number_in W body l₀ l₁ l₂)
    all_fit o a = record { agrees = agree; none = nothing; small = limited }
      where
        N : ℕ → ℕ → ℕ → ℤ
        N = number_in W body l₀ l₁ l₂

        agree : (L : ℕ) → L < 3 → Agrees W H lev L (N L) (N (L + 1))
        agree zero h = a.0
        agree (suc zero) h = a.1
        agree (suc (suc zero)) h = a.2
        agree (suc (suc (suc L))) h = absurd (omega arith)

        -- no square of level at most L is around
        far : (L c d : ℕ) → L ≤ 2 → L < least_under W H lev L c d
            → (q r : ℕ) → q < quarters W → r < quarters H → lev q r ≤ L → Around L q c → Around L r d → ⊥
        far L c d hL h q r hq hr low ac ad =
            omega (arith, around-least W H p_w p_h lev L q r c d hL hq hr ac ad)

        nothing : (L c d : ℕ) → L < 4 → c < functions W L → d < functions H L → L < least_under W H lev L c d
            → N L c d ≡ pos 0
        nothing zero c d hL hc hd h = s.zero.unreached c d hc hd (far 0 c d (lit≤ tt) h)
        nothing (suc zero) c d hL hc hd h = s.one.unreached c d hc hd (far 1 c d (lit≤ tt) h)
        nothing (suc (suc zero)) c d hL hc hd h = s.two.unreached c d hc hd (far 2 c d (lit≤ tt) h)
        nothing (suc (suc (suc L))) c d hL hc hd h =
            absurd (omega (arith, least_under-le-3 W H lev (suc (suc (suc L))) c d))

        limited : (L c d : ℕ) → L < 4 → c < functions W L → d < functions H L → nat_abs (N L c d) ≤ limit L
        limited zero c d hL hc hd = s.zero.small c d hc hd
        limited (suc zero) c d hL hc hd = s.one.small c d hc hd
        limited (suc (suc zero)) c d hL hc hd = s.two.small c d hc hd
        limited (suc (suc (suc zero))) c d hL hc hd = body-small W H body o c d hc hd
        limited (suc (suc (suc (suc L)))) c d hL hc hd = absurd (omega arith)
