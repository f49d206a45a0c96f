-- Numbers as the machine has them, and the parts of a slice written one after the other.
use mathlib.Core.Path.{◌≡◌, sym, ap, ◌∙◌, subst}
use mathlib.Core.Bool.{cond}
use mathlib.Core.List.{List, ◌++◌}
use Prim.Native.Nat.{ℕ, suc, ◌+◌, ◌-◌, ◌*◌, ◌≤◌, ◌<◌}
use native.Mathlib.Decide.{dec_lt}
use native.Mathlib.Nat.{zero-add, mul_comm}
use native.Mathlib.Omega.{arith}
use borrow.Author.Count.{below_more}
use lib.IntN.{ℤ, pos}
use lib.ListN.{length, get_or, set, take, drop, length-take, length-drop, length-append, get_or-append}
use lib.Seq.{get_or-set_same, get_or-set_other, length-take-le, get_or-take, get_or-append-add}
use mir.Syntax.{w64}
use mir.Val.{SFits, of_z, to_z}
use mir.ValLaws.{to_z-of_z}
use Rattle.finite.proofs.Table.{place-below}
use Rattle.surface.specs.Sheet.{functions}
use Rattle.surface.specs.Support.{active}
use Rattle.surface.specs.Table.{places, start, slots, place, coefficients, slice_of}
use Rattle.surface.proofs.Slices.{slice-cong}
use Rattle.surface.proofs.TableLaws.{start-step, place-before}
use Rattle.rows.specs.Rows.{levels_of}
use Rattle.passive.specs.Cleared.{cleared_slice, cleared}
use Rattle.fromgrid.specs.Converts.{active_in}

-- ---- the machine's test of two numbers

pub same_of : (a b : ℤ) → SFits w64 a → SFits w64 b → of_z w64 a ≡ of_z w64 b → a ≡ b
same_of a b ha hb e = sym (to_z-of_z w64 a ha) ∙ ap (to_z w64) e ∙ to_z-of_z w64 b hb

-- ---- one number more in its place

pub set_more : (f : ℕ → ℤ) (row : List ℤ) (k : ℕ) (v : ℤ) → k < length row → v ≡ f k
    → ((i : ℕ) → i < k → get_or row i (pos 0) ≡ f i) → (i : ℕ) → i < k + 1 → get_or (set row k v) i (pos 0) ≡ f i
set_more f row k v h e done =
    below_more (λ i. get_or (set row k v) i (pos 0) ≡ f i) k
    (λ i l. get_or-set_other row k i v (pos 0) (λ q. omega arith) ∙ done i l)
    (get_or-set_same row k v (pos 0) h ∙ e)

-- ---- parts of a slice, one after the other

-- the n numbers from a place on, and others in their place
abbrev pub mid : ℕ → ℕ → List ℤ → List ℤ
mid at n out = take n (drop at out)

pub mid-length : (at end : ℕ) (out : List ℤ) → at ≤ end → end ≤ length out → length (mid at (end - at) out) ≡ end - at
mid-length at end out low fits = simp (length-take, length-drop) (omega arith)

abbrev pub put_in : ℕ → ℕ → List ℤ → List ℤ → List ℤ
put_in at n row out = take at out ++ (row ++ drop n (drop at out))

-- as long as before
pub put-length : (at end : ℕ) (row out : List ℤ) → at ≤ end → end ≤ length out
    → length row ≡ length (mid at (end - at) out) → length (put_in at (end - at) row out) ≡ length out
put-length at end row out low fits e =
    simp (length-append, length-take, length-drop) (omega (arith, e, mid-length at end out low fits))

module _ (at n : ℕ) (row out : List ℤ) (fits : at ≤ length out) where
  front : length (take at out) ≡ at
  front = length-take-le at out fits

  put-before : (p : ℕ) → p < at → get_or (put_in at n row out) p (pos 0) ≡ get_or out p (pos 0)
  put-before p h =
      get_or-append (take at out) (row ++ drop n (drop at out)) (pos 0) p (omega (arith, front))
      ∙ get_or-take at out p (pos 0) h

  put-at : (k : ℕ) → k < length row → get_or (put_in at n row out) (at + k) (pos 0) ≡ get_or row k (pos 0)
  put-at k h =
      ap (λ i. get_or (put_in at n row out) (i + k) (pos 0)) (sym front)
      ∙ get_or-append-add (take at out) (row ++ drop n (drop at out)) k (pos 0)
      ∙ get_or-append row (drop n (drop at out)) (pos 0) k h

-- where the parts end
pub part-ends : (W H : ℕ) {a b c d : ℕ} → a ≡ places W H 0 → b ≡ places W H 1 → c ≡ places W H 2 → d ≡ places W H 3
    → (a ≡ start W H 1) × (a + b ≡ start W H 2) × (a + b + c ≡ start W H 3) × (a + b + c + d ≡ slots W H)
unfolding start
part-ends W H {a} {b} {c} {d} ea eb ec ed = (
  omega (arith, start-step W H 0),
  omega (arith, start-step W H 0, start-step W H 1),
  omega (arith, start-step W H 0, start-step W H 1, start-step W H 2),
  omega (arith, start-step W H 0, start-step W H 1, start-step W H 2, start-step W H 3),
)

module _ (W H : ℕ) (N : ℕ → ℕ → ℕ → ℤ) where
  -- the levels below n have their numbers
  abbrev pub Filled : ℕ → List ℤ → Type 0
  Filled n out =
      (L a b : ℕ) → L < n → a < functions W L → b < functions H L → coefficients W H out L a b ≡ N L a b

  pub fill_none : (out : List ℤ) → Filled 0 out
  fill_none out L a b h = absurd (omega arith)

  -- one level more
  pub fill-next : (L at end : ℕ) (f : ℕ → ℤ) (out row : List ℤ) → at ≡ start W H L → end ≡ start W H (suc L)
      → end ≤ length out → ((a b : ℕ) → f (b * functions W L + a) ≡ N L a b)
      → (length row ≡ length (mid at (end - at) out))
      × ((k : ℕ) → k < length (mid at (end - at) out) → get_or row k (pos 0) ≡ f (0 + k))
      → Filled L out → Filled (suc L) (put_in at (end - at) row out)
  unfolding coefficients
  fill-next L at end f out row begins ends fits is told done M a b h ha hb = go (dec_lt M L)
    where
      size : end ≡ at + places W H L
      size = ends ∙ start-step W H L ∙ ap (λ k. k + places W H L) (sym begins)

      new : List ℤ
      new = put_in at (end - at) row out

      low : at ≤ length out
      low = omega (arith, size, fits)

      here : (a b : ℕ) → a < functions W L → b < functions H L → coefficients W H new L a b ≡ N L a b
      here a b ha hb =
          let p = b * functions W L + a in
          let below = place-below (functions W L) (functions H L) a b ha hb in
          let long = mid-length at end out (omega (arith, size)) fits in
          let inside : p < length (mid at (end - at) out) =
          omega (arith, below, long, size, mul_comm (functions W L) (functions H L)) in
          ap (λ s. get_or new (s + p) (pos 0)) (sym begins)
          ∙ put-at at (end - at) row out low p (omega (arith, inside, told.0))
          ∙ told.1 p inside
          ∙ ap f (zero-add p)
          ∙ is a b

      go : Dec (M < L) → coefficients W H new M a b ≡ N M a b
      go (yes l) =
          put-before at (end - at) row out low (place W H M a b)
          (subst (λ k. place W H M a b < k) (sym begins) (place-before W H M L a b l ha hb))
          ∙ done M a b l ha hb
      go (no l) =
          let e : L ≡ M = omega (arith, h, l) in
          subst (λ K. a < functions W K → b < functions H K → coefficients W H new K a b ≡ N K a b) e (here a b) ha hb

-- passive ones are 0 then
pub all-cleared : (W H : ℕ) (rows : List ℕ) (N : ℕ → ℕ → ℕ → ℤ) (out after : List ℤ) → Filled W H N 4 out
    → after ≡ cleared_slice W H rows out → after ≡ slice_of W H (active_in W H (levels_of rows) N)
all-cleared W H rows N out after h e =
    e
    ∙ slice-cong W H (cleared W H rows out) (active_in W H (levels_of rows) N)
    (λ L a b hL ha hb. ap (λ z. cond (active W H (levels_of rows) L a b) z (pos 0)) (h L a b hL ha hb))
