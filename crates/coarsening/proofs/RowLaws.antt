-- A row of cells: a square waits until the next one is found, and is left out where the functions around its cell are
-- found already or are around the next one's.
use mathlib.Core.Path.{◌≡◌, subst}
use mathlib.Core.List.{List}
use Prim.Native.Nat.{ℕ, ◌+◌, ◌≤◌, ◌<◌}
use native.Mathlib.Decide.{dec_le, dec_lt}
use native.Mathlib.Omega.{arith}
use lib.IntN.{ℤ}
use Rattle.std.specs.Prelude.{Option, Some, None, IfSome}
use Rattle.surface.specs.Sheet.{functions, quarters}
use Rattle.coarsening.specs.declared.find.Square.{Square}
use Rattle.coarsening.specs.Coarser.{cell_at, Around, Undone, Backed}
use Rattle.coarsening.proofs.BackLaws.{cell-fits, Good, backed-row, good_new, good-kept, backed-kept}

-- the square of a cell before column x of the row
pub record Of (W H : ℕ) (lev : ℕ → ℕ → ℕ) (L y x : ℕ) (w : Square) : Type 0 where
  pub column : w.q < quarters W
  pub row : w.r < quarters H
  pub before : cell_at L w.q < x
  pub here : cell_at L w.r ≡ y
  pub low : lev w.q w.r ≤ L

-- the cells before column x are met: what is around them is found, but for what is around the square that waits, and
-- what is before function `done` is found from there on
pub record Met (W H : ℕ) (lev : ℕ → ℕ → ℕ) (L : ℕ) (F : ℕ → ℕ → ℤ) (y : ℕ) (w : Option Square) (done x : ℕ) (s : List ℤ)
    : Type 0 where
  pub above : Backed W H lev L F (λ q r. cell_at L r < y) s
  pub met : (q r : ℕ) → q < quarters W → cell_at L r ≡ y → cell_at L q < x → lev q r ≤ L → (a b : ℕ) → Around L q a
      → Around L r b → IfSome w (λ v. Around L v.q a → ⊥) → Good W H lev L F s a b
  pub near : (a b : ℕ) → a < done → y ≤ b → b < y + 4 → IfSome w (λ v. cell_at L v.q ≤ a)
      → Good W H lev L F s a b
  pub waits : IfSome w (Of W H lev L y x)

-- so with what is known of the square that waits
pub when : {W H L y done x : ℕ} {lev : ℕ → ℕ → ℕ} {F : ℕ → ℕ → ℤ} {s : List ℤ} {w v : Option Square} → w ≡ v
    → Met W H lev L F y w done x s → Met W H lev L F y v done x s
when {W} {H} {L} {y} {done} {x} {lev} {F} {s} e m = subst (λ w. Met W H lev L F y w done x s) e m

module _ (W H : ℕ) (lev : ℕ → ℕ → ℕ) (L : ℕ) (F : ℕ → ℕ → ℤ) (hL : L ≤ 2) (y : ℕ) where
  pub met-none : (s : List ℤ) → Backed W H lev L F (λ q r. cell_at L r < y) s → Met W H lev L F y None 0 0 s
  met-none s b = record {
    above = b;
    met = λ q r hq er eq. absurd (omega arith);
    near = λ a b ha. absurd (omega arith);
    waits = tt;
  }

  -- the square that waits is before the next column too
  waits-on : (w : Option Square) (x : ℕ) → IfSome w (Of W H lev L y x) → IfSome w (Of W H lev L y (x + 1))
  waits-on None x o = tt
  waits-on (Some v) x o =
      record { column = o.column; row = o.row; before = omega (arith, o.before); here = o.here; low = o.low }

  -- a cell without a square
  pub met-empty : (w : Option Square) (done x : ℕ) (s : List ℤ)
      → ((q r : ℕ) → cell_at L q ≡ x → cell_at L r ≡ y → L < lev q r) → Met W H lev L F y w done x s
      → Met W H lev L F y w done (x + 1) s
  met-empty w done x s none m = record {
    above = m.above;
    met = λ q r hq er eq low. m.met q r hq er (earlier q r er eq low (dec_lt (cell_at L q) x)) low;
    near = m.near;
    waits = waits-on w x m.waits;
  }
    where
      earlier : (q r : ℕ) → cell_at L r ≡ y → cell_at L q < x + 1 → lev q r ≤ L → Dec (cell_at L q < x) → cell_at L q < x
      earlier q r er eq low (yes h) = h
      earlier q r er eq low (no h) = absurd (omega (arith, none q r (omega (arith, eq, h)) er, low))

  -- a square of cell x waits
  met_next : (v : Square) (done x : ℕ) (s : List ℤ) → cell_at L v.q ≡ x → Of W H lev L y (x + 1) v
      → Backed W H lev L F (λ q r. cell_at L r < y) s
      → ((q r : ℕ) → q < quarters W → cell_at L r ≡ y → cell_at L q < x → lev q r ≤ L → (a b : ℕ) → Around L q a
      → Around L r b → a < x → Good W H lev L F s a b)
      → ((a b : ℕ) → a < done → y ≤ b → b < y + 4 → x ≤ a → Good W H lev L F s a b)
      → Met W H lev L F y (Some v) done (x + 1) s
  met_next v done x s at o above before after = record {
    above = above;
    met = λ q r hq er eq low a b aa ab out. go q r hq er eq low a b aa ab out (dec_lt a x);
    near = λ a b ha yb by from. after a b ha yb by (omega (arith, from, at));
    waits = o;
  }
    where
      go : (q r : ℕ) → q < quarters W → cell_at L r ≡ y → cell_at L q < x + 1 → lev q r ≤ L → (a b : ℕ) → Around L q a
          → Around L r b → (Around L v.q a → ⊥) → Dec (a < x) → Good W H lev L F s a b
      go q r hq er eq low a b aa ab out (yes h) = before q r hq er (omega (arith, aa, h)) low a b aa ab h
      go q r hq er eq low a b aa ab out (no h) = absurd (out (omega (arith, at, h), omega (arith, at, aa, eq)))

  -- the one that waits is left out
  pub met-left : (w : Option Square) (v : Square) (done x : ℕ) (s : List ℤ) → cell_at L v.q ≡ x
      → Of W H lev L y (x + 1) v → IfSome w (λ _. x ≤ done) → Met W H lev L F y w done x s
      → Met W H lev L F y (Some v) done (x + 1) s
  met-left None v done x s at o reached m =
      met_next v done x s at o m.above (λ q r hq er eq low a b aa ab ax. m.met q r hq er eq low a b aa ab tt)
      (λ a b ha yb by xa. m.near a b ha yb by tt)
  met-left (Some w) v done x s at o reached m =
      met_next v done x s at o m.above
      (λ q r hq er eq low a b aa ab ax. go q r hq er eq low a b aa ab ax (dec_le (cell_at L w.q) a))
      (λ a b ha yb by xa. m.near a b ha yb by (omega (arith, m.waits.before, xa)))
    where
      go : (q r : ℕ) → q < quarters W → cell_at L r ≡ y → cell_at L q < x → lev q r ≤ L → (a b : ℕ) → Around L q a
          → Around L r b → a < x → Dec (cell_at L w.q ≤ a) → Good W H lev L F s a b
      go q r hq er eq low a b aa ab ax (yes h) =
          m.near a b (omega (arith, reached, ax)) (omega (arith, ab, er)) (omega (arith, ab, er)) h
      go q r hq er eq low a b aa ab ax (no h) = m.met q r hq er eq low a b aa ab (λ around. h around.0)

  -- its step is undone
  module _ (w : Square) (done x : ℕ) (s t : List ℤ) (u : Undone W L w.q w.r F s t)
      (m : Met W H lev L F y (Some w) done x s) where
    o : Of W H lev L y x w
    o = m.waits

    all-met : (q r : ℕ) → q < quarters W → cell_at L r ≡ y → cell_at L q < x → lev q r ≤ L → (a b : ℕ) → Around L q a
        → Around L r b → Good W H lev L F t a b
    all-met q r hq er eq low a b aa ab = go (dec_le (cell_at L w.q) a) (dec_lt a (cell_at L w.q + 4))
      where
        kept : (Around L w.q a → ⊥) → Good W H lev L F t a b
        kept out =
            good-kept W H lev L F hL w.q w.r s t o.column o.row o.low u a b
            (omega (arith, aa, cell-fits W L q (omega arith) hq))
            (m.met q r hq er eq low a b aa ab out)

        go : Dec (cell_at L w.q ≤ a) → Dec (a < cell_at L w.q + 4) → Good W H lev L F t a b
        go (yes h) (yes k) =
            good_new W H lev L F hL w.q w.r s t o.column o.row o.low u a b (h, k)
            (omega (arith, ab, er, o.here), omega (arith, ab, er, o.here))
        go (yes h) (no k) = kept (λ around. k around.1)
        go (no h) d = kept (λ around. h around.0)

    kept_above : Backed W H lev L F (λ q r. cell_at L r < y) t
    kept_above =
        backed-kept W H lev L F hL w.q w.r s t o.column o.row o.low u (λ q r. cell_at L r < y) m.above

    pub met-taken : (v : Square) (after : ℕ) → cell_at L v.q ≡ x → Of W H lev L y (x + 1) v
        → after ≡ cell_at L w.q + 4 → Met W H lev L F y (Some v) after (x + 1) t
    met-taken v after at p e =
        met_next v after x t at p kept_above
        (λ q r hq er eq low a b aa ab _. all-met q r hq er eq low a b aa ab)
        (λ a b ha yb by xa. good_new W H lev L F hL w.q w.r s t o.column o.row o.low u a b
        (omega (arith, o.before, xa), omega (arith, ha, e)) (omega (arith, yb, o.here), omega (arith, by, o.here)))

    pub row-taken : functions W L ≤ x + 3 → Backed W H lev L F (λ q r. cell_at L r < y + 1) t
    row-taken all =
        backed-row W H lev L F hL y t
        (λ q r hq er low. all-met q r hq er (omega (arith, all, cell-fits W L q (omega arith) hq)) low) kept_above

  -- none waits at the end
  pub row-none : (done x : ℕ) (s : List ℤ) → functions W L ≤ x + 3 → Met W H lev L F y None done x s
      → Backed W H lev L F (λ q r. cell_at L r < y + 1) s
  row-none done x s all m =
      backed-row W H lev L F hL y s
      (λ q r hq er low a b aa ab.
      m.met q r hq er (omega (arith, all, cell-fits W L q (omega arith) hq)) low a b aa ab tt)
      m.above
