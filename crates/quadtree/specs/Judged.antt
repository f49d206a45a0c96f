-- What a walk of a subtree finds, and what it paints.
use Rattle.std.specs.Prelude.{◌≡◌, List, ℕ, ◌^◌, ◌≤◌, ◌<◌, length}
use Rattle.surface.specs.Quadtree.{Quadtree, level_at}
use Rattle.rows.specs.Rows.{Painted, Fit}
use Rattle.quadtree.specs.Subtree.{Subtree}
use Rattle.quadtree.specs.End.{nowhere, end_of}

-- the end of the tree that stands there, and its levels painted into its square if it is of the form
pub record Judged (W H x y side : ℕ) (t : List ℕ) (at r : ℕ) (before after : List ℕ) : Type 0 where
  pub size : length after ≡ 96
  pub fit : Fit before → Fit after
  pub inside : r < nowhere → r ≤ length t
  pub ends : (k : ℕ) → side ≡ 2 ^ k → r ≡ end_of W H k x y t at
  pub paints : r ≤ length t → (k : ℕ) (q : Quadtree) → side ≡ 2 ^ k → Subtree k t at q
      → Painted x y side (level_at k q) before after
