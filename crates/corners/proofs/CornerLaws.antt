-- Sizes of sheets and tables.
use mathlib.Core.Path.{◌≡◌, refl}
use mathlib.Core.Bool.{true, false, ◌&&◌}
use mathlib.Core.List.{List}
use Prim.Native.Nat.{ℕ, ◌*◌, ◌≤◌, ◌<◌}
use native.Mathlib.Nat.{mul-le-mul}
use native.Mathlib.Omega.{arith}
use lib.IntN.{ℤ}
use borrow.Author.Tests.{lt-ltb, le-ltb}
use lib.ListN.{length, get_or, drop, length-append}
use Rattle.surface.specs.Sheet.{functions, good_side}
use Rattle.surface.specs.Table.{◌or_else◌, places, start, slots, tree_of, formed, Acceptable}
use Rattle.surface.specs.Calls.{gives, length_cause, tree_out_cause}
use Rattle.surface.specs.Fields.{declined, contains}
use Rattle.surface.specs.TableFile.{File, file_contents, FileResult, file_outcome_of, file_outcome}
use Rattle.surface.proofs.TableLaws.{sound, good-side, tree-formed}
use Rattle.surface.proofs.RefusalLaws.{answer-gives}
use Rattle.coefficients.proofs.Sizes.{starts}
use Rattle.corners.specs.Buffers.{places_of, places_named}

-- the greatest sheet has 121, 361, 1,225 and 4,489 places
pub slots_small : (W H : ℕ) → W ≤ 8 → H ≤ 8 → start W H 4 ≤ 6196
slots_small W H hW hH =
    omega (
      arith,
      (starts W H).4,
      level 0 11 (omega arith) (omega arith),
      level 1 19 (omega arith) (omega arith),
      level 2 35 (omega arith) (omega arith),
      level 3 67 (omega arith) (omega arith),
    )
  where
    level : (L c : ℕ) → functions W L ≤ c → functions H L ≤ c → places W H L ≤ c * c
    level L c w h = mul-le-mul w h

-- the tree of an acceptable table
pub tree-of : (W H : ℕ) (t : List ℕ) (cs : List ℤ) → Acceptable W H t cs → formed W H (tree_of t) ≡ true
tree-of W H t cs a = tree-formed W H t (sound W H t cs a).tree

-- the tree's length is within the tree output
pub loaded-fits : (file tree_out : List ℕ) (numbers_out : List ℤ) (r : FileResult)
    → (file_outcome file tree_out numbers_out).result ≡ gives r
    → r.tree_length ≤ length (file_outcome file tree_out numbers_out).tree
unfolding file_outcome
loaded-fits file tree_out numbers_out r e = go (file_contents file) e
  where
    go : (g : File) → (file_outcome_of g tree_out numbers_out).result ≡ gives r
        → r.tree_length ≤ length (file_outcome_of g tree_out numbers_out).tree
    go (declined n) e = absurd (let z : ◌≡◌ {A = ℕ} 0 1 = cc in omega arith)
    go (contains f) e =
        let c = length_cause (slots f.W f.H) numbers_out or_else tree_out_cause f.tree tree_out in
        let g = answer-gives c (record { tree_length = length f.tree; W = f.W; H = f.H }) r e in
        rw (g.0, ← g.1)
        (omega (arith, length-append f.tree (drop (length f.tree) tree_out)))

-- ---- the places that a file names

pub no-sheet : (W H : ℕ) → (good_side W && good_side H) ≡ false → places_of W H ≡ 0
unfolding places_of
no-sheet W H e = rw e refl

pub on-sheet : (W H : ℕ) → (good_side W && good_side H) ≡ true → places_of W H ≡ slots W H
unfolding places_of
on-sheet W H e = rw e refl

pub good-small : (n : ℕ) → good_side n ≡ true → n ≤ 8
good-small n e = (good-side n e).1

pub names-none : (file : List ℕ) → length file < 5 → places_named file ≡ 0
unfolding places_named
names-none file h = rw (lt-ltb (length file) 5 h) refl

pub names-some : (file : List ℕ) → 5 ≤ length file → places_named file ≡ places_of (get_or file 3 0) (get_or file 4 0)
unfolding places_named
names-some file h = rw (le-ltb (length file) 5 h) refl
