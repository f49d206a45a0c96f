-- Laws of refusals: a cause is one of a call's numbers, and a refused call leaves its outputs as they were.
use mathlib.Core.Path.{◌≡◌, refl, sym, ◌∙◌, subst}
use mathlib.Core.Bool.{Bool, true, false, not, ◌&&◌, ◌||◌}
use mathlib.Core.List.{List}
use Prim.Native.Nat.{ℕ, zero, suc, ◌-◌, ◌≤◌, ◌<◌}
use native.Mathlib.Omega.{arith}
use lib.IntN.{ℤ}
use lib.Dec.{ltb, eqb, eqb-suc-zero}
use borrow.Author.Tests.{ltb-false, eqb-true}
use lib.ListN.{length, drop, length-append, length-drop}
use Rattle.surface.specs.Sheet.{good_side, on_sheet}
use Rattle.surface.specs.Table.{cause, ◌or_else◌, tree_of, formed, levels, slots}
use Rattle.surface.specs.Table.{coefficients, within_limits, passive_zero, region_cause, table_cause}
use Rattle.surface.specs.Calls.{refused, gives, answer, afterwards, put, written, done, length_cause}
use Rattle.surface.specs.Calls.{tree_out_cause, outputs_cause, point_cause}
use Rattle.surface.specs.Calls.{reading_cause}
use Rattle.surface.specs.Demands.{among, RefusesWith, WritesAllOrNothing, WritesSliceOrNothing}
use Rattle.surface.proofs.Causes.{or_else-none, cause-none, cause-off}

-- ---- answers

module _ {A : Type 0} where
  pub answer-gives : (c : ℕ) (a b : A) → answer c a ≡ gives b → (c ≡ 0) × (a ≡ b)
  answer-gives zero a b e = (refl, cc)
  answer-gives (suc c) a b e = absurd (let z : ◌≡◌ {A = ℕ} 0 1 = cc in omega arith)

  pub answer-refused : (c : ℕ) (a : A) (n : ℕ) → answer c a ≡ refused n → (c ≡ n) × (0 < n)
  answer-refused zero a n e = absurd (let z : ◌≡◌ {A = ℕ} 0 1 = cc in omega arith)
  answer-refused (suc c) a n e = let h : suc c ≡ n = cc in (h, omega arith)

-- ---- a cause is none, or one of some numbers

abbrev pub OneOf : ℕ → List ℕ → Type 0
OneOf m js = (eqb m 0 || among m js) ≡ true

pub one-or : (m k : ℕ) (js : List ℕ) → OneOf m js → OneOf k js → OneOf (m or_else k) js
one-or zero k js p q = q
one-or (suc m) k js p q = p

pub one-cause : (j : ℕ) (t : Bool) (js : List ℕ) → OneOf j js → OneOf (cause j t) js
one-cause j true js h = h
one-cause j false js h = refl

pub one-region : (js : List ℕ) → OneOf 1 js → OneOf 2 js → (W H : ℕ) (t : List ℕ) → OneOf (region_cause W H t) js
unfolding region_cause
one-region js h1 h2 W H t =
    one-or (cause 1 (not (good_side W && good_side H))) (cause 2 (not (formed W H (tree_of t)))) js
    (one-cause 1 (not (good_side W && good_side H)) js h1) (one-cause 2 (not (formed W H (tree_of t))) js h2)

pub one_table : (js : List ℕ) → OneOf 1 js → OneOf 2 js → OneOf 3 js → OneOf 4 js → OneOf 5 js
    → (W H : ℕ) (t : List ℕ) (cs : List ℤ) → OneOf (table_cause W H t cs) js
unfolding table_cause
one_table js h1 h2 h3 h4 h5 W H t cs =
    let b3 = not (eqb (length cs) (slots W H)) in
    let b4 = not (within_limits W H (levels t) (coefficients W H cs)) in
    let b5 = not (passive_zero W H (levels t) (coefficients W H cs)) in
    one-or (region_cause W H t) (cause 3 b3 or_else cause 4 b4 or_else cause 5 b5) js (one-region js h1 h2 W H t)
    (one-or (cause 3 b3) (cause 4 b4 or_else cause 5 b5) js (one-cause 3 b3 js h3)
    (one-or (cause 4 b4) (cause 5 b5) js (one-cause 4 b4 js h4) (one-cause 5 b5 js h5)))

pub one-reading : (js : List ℕ) → OneOf 1 js → OneOf 2 js → OneOf 3 js → OneOf 4 js → OneOf 5 js → OneOf 6 js
    → (W H : ℕ) (t : List ℕ) (cs : List ℤ) (u v : ℕ) → OneOf (reading_cause W H t cs u v) js
unfolding reading_cause
one-reading js h1 h2 h3 h4 h5 h6 W H t cs u v =
    one-or (table_cause W H t cs) (point_cause W H u v) js (one_table js h1 h2 h3 h4 h5 W H t cs)
    (one-cause 6 (not (on_sheet W H u v)) js h6)

-- the number that is sent is one of them
pub sent : {A : Type 0} (c : ℕ) (a : A) (js : List ℕ) → OneOf c js → RefusesWith js (answer c a)
sent c a js o n e =
    let r = answer-refused c a n e in
    let p : n ≡ suc (n - 1) = omega arith in
    let m : OneOf (suc (n - 1)) js = subst (λ k. OneOf k js) (r.0 ∙ p) o in
    subst (λ k. among k js ≡ true) (sym p) (rw (eqb-suc-zero (n - 1)) at m)

-- ---- what is left in the outputs

pub kept : {A : Type 0} {B : Type 0} (c : ℕ) (a : A) (old new : B) (n : ℕ) → answer c a ≡ refused n → afterwards c old
    new ≡ old
kept zero a old new n e = absurd (let z : ◌≡◌ {A = ℕ} 0 1 = cc in omega arith)
kept (suc c) a old new n e = refl

pub length-after : {A : Type 0} (c : ℕ) (old new : List A) → (c ≡ 0 → length new ≡ length old)
    → length (afterwards c old new) ≡ length old
length-after zero old new h = h refl
length-after (suc c) old new h = refl

pub put-length : (tree out : List ℕ) → length tree ≤ length out → length (put tree out) ≡ length out
put-length tree out h =
    omega (arith, length-append tree (drop (length tree) out), length-drop (length tree) out)

pub all-or-nothing : {A : Type 0} (js : List ℕ) (c : ℕ) (a : A) (tree : List ℕ) (numbers : List ℤ) (tree_out : List ℕ)
    (numbers_out : List ℤ) → OneOf c js → (c ≡ 0 → length tree ≤ length tree_out) →
    (c ≡ 0 → length numbers ≡ length numbers_out)
    → WritesAllOrNothing js (written c a tree numbers tree_out numbers_out) tree_out numbers_out
all-or-nothing js c a tree numbers tree_out numbers_out o ht hn =
    record {
      number = sent c a js o;
      refusal = λ n e. (kept c a tree_out (put tree tree_out) n e, kept c a numbers_out numbers n e);
      lengths = (
        length-after c tree_out (put tree tree_out) (λ z. put-length tree tree_out (ht z)),
        length-after c numbers_out numbers hn,
      );
    }

pub slice-or-nothing : {A B : Type 0} (js : List ℕ) (c : ℕ) (a : A) (lent new : List B) → OneOf c js →
    (c ≡ 0 → length new ≡ length lent)
    → WritesSliceOrNothing js (done c a new lent) lent
slice-or-nothing js c a lent new o h =
    record { number = sent c a js o; refusal = λ n e. kept c a lent new n e; lengths = length-after c lent new h }

-- ---- the outputs of a call that writes a table: 16 and 17, after other causes

pub one-outputs : (js : List ℕ) → OneOf 16 js → OneOf 17 js → (W H : ℕ) (tree tree_out : List ℕ) (numbers_out : List ℤ)
    → OneOf (outputs_cause W H tree tree_out numbers_out) js
one-outputs js h16 h17 W H tree tree_out numbers_out =
    one-or (length_cause (slots W H) numbers_out) (tree_out_cause tree tree_out) js
    (one-cause 16 (not (eqb (length numbers_out) (slots W H))) js h16)
    (one-cause 17 (ltb (length tree_out) (length tree)) js h17)

-- what they exclude
pub outputs : (W H : ℕ) (tree tree_out : List ℕ) (numbers_out : List ℤ) → outputs_cause W H tree tree_out numbers_out ≡ 0
    → (length tree ≤ length tree_out) × (length numbers_out ≡ slots W H)
outputs W H tree tree_out numbers_out e =
    let e2 = or_else-none (length_cause (slots W H) numbers_out) (tree_out_cause tree tree_out) e in (
      ltb-false (length tree_out) (length tree) (cause-off 16 (ltb (length tree_out) (length tree)) e2.1),
      eqb-true (length numbers_out) (slots W H) (cause-none 15 (eqb (length numbers_out) (slots W H)) e2.0),
    )

-- a call that writes a whole slice for its sheet
pub table-or-nothing : {A : Type 0} (js : List ℕ) (c W H : ℕ) (a : A) (tree : List ℕ) (numbers : List ℤ)
    (tree_out : List ℕ) (numbers_out : List ℤ) → OneOf c js → OneOf 16 js → OneOf 17 js → length numbers ≡ slots W H
    → WritesAllOrNothing js (written (c or_else outputs_cause W H tree tree_out numbers_out) a tree numbers tree_out
    numbers_out)
    tree_out numbers_out
table-or-nothing js c W H a tree numbers tree_out numbers_out o h16 h17 l =
    let last = outputs_cause W H tree tree_out numbers_out in
    let none : c or_else last ≡ 0 → (length tree ≤ length tree_out) × (length numbers_out ≡ slots W H) =
    λ e. outputs W H tree tree_out numbers_out (or_else-none c last e).1 in
    all-or-nothing js (c or_else last) a tree numbers tree_out numbers_out
    (one-or c last js o (one-outputs js h16 h17 W H tree tree_out numbers_out)) (λ e. (none e).0)
    (λ e. l ∙ sym (none e).1)
