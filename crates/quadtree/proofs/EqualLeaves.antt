-- Four trees that are written one after the other: when they are equal leaves.
use mathlib.Core.List.{List, [], ◌∷◌}
use mathlib.Core.Path.{◌≡◌, ap, ◌∙◌}
use Prim.Native.Nat.{ℕ, ◌+◌, ◌-◌, ◌≤◌, ◌<◌}
use native.Mathlib.Omega.{arith}
use lib.Dec.{eqb}
use lib.ListN.{length, get_or, take, drop, length-append}
use Rattle.std.specs.Prelude.{nat_eq}
use Rattle.std.specs.List.{list_all, slice_range}
use Rattle.std.proofs.lemmas.Bool.Decides.{nat_tests}
use Rattle.std.proofs.lemmas.List.{drop_more}
use borrow.Author.Tests.{eq-eqb, ne_eqb}
use Rattle.surface.specs.Quadtree.{Quadtree, leaf, split, bytes, equal_leaves}
use Rattle.quadtree.specs.Subtree.{row}
use Rattle.quadtree.specs.End.{equal_bytes}
use Rattle.quadtree.proofs.SubtreeLaws.{bytes-some}

row-length : (sw se nw ne : Quadtree)
    → length (row sw se nw ne) ≡ length (bytes sw) + length (bytes se) + length (bytes nw) + length (bytes ne)
row-length sw se nw ne = simp length-append (omega arith)

split-long : (sw se nw ne : Quadtree) → 5 ≤ length (bytes (split sw se nw ne))
unfolding bytes
split-long sw se nw ne =
    omega (arith, row-length sw se nw ne, bytes-some sw, bytes-some se, bytes-some nw, bytes-some ne)

pub equal-bytes : (sw se nw ne : Quadtree) (t : List ℕ) (at end : ℕ) → end ≡ at + length (row sw se nw ne)
    → ((i : ℕ) → i < length (row sw se nw ne) → get_or t (at + i) 0 ≡ get_or (row sw se nw ne) i 0)
    → equal_leaves sw se nw ne ≡ equal_bytes t at end
unfolding bytes
equal-bytes (leaf a) (leaf b) (leaf c) (leaf d) t at end e same =
    let first : get_or t at 0 ≡ a = ap (λ p. get_or t p 0) (omega arith) ∙ same 0 (omega arith) in
    rw (eq-eqb end (at + 4) e, first, same 1 (omega arith), same 2 (omega arith), same 3 (omega arith))
equal-bytes (split a b c d) se nw ne t at end e same =
    rw (ne_eqb end (at + 4) λ four. omega (arith, row-length (split a b c d) se nw ne, split-long a b c d))
equal-bytes (leaf l) (split a b c d) nw ne t at end e same =
    rw (ne_eqb end (at + 4) λ four. omega (arith, row-length (leaf l) (split a b c d) nw ne, split-long a b c d))
equal-bytes (leaf l) (leaf m) (split a b c d) ne t at end e same =
    rw (ne_eqb end (at + 4) λ four. omega (arith, row-length (leaf l) (leaf m) (split a b c d) ne, split-long a b c d))
equal-bytes (leaf l) (leaf m) (leaf n) (split a b c d) t at end e same =
    rw (ne_eqb end (at + 4) λ four.
    omega (arith, row-length (leaf l) (leaf m) (leaf n) (split a b c d), split-long a b c d))

-- ---- the test of four bytes

three-bytes : (t : List ℕ) (at n : ℕ) → n ≡ 3 → at + 4 ≤ length t
    → take n (drop (at + 1) t) ≡ get_or t (at + 1) 0 ∷ get_or t (at + 2) 0 ∷ get_or t (at + 3) 0 ∷ []
three-bytes t at n three fits =
    let second : at + 1 + 1 ≡ at + 2 = omega arith in
    let third : at + 2 + 1 ≡ at + 3 = omega arith in
    rw (
      three,
      drop_more t (at + 1) 0 (omega arith),
      second,
      drop_more t (at + 2) 0 (omega arith),
      third,
      drop_more t (at + 3) 0 (omega arith),
    )

pub same-bytes : (t : List ℕ) (at end : ℕ) → end ≡ at + 4 → end ≤ length t
    → list_all (λ b. nat_eq b (get_or t at 0)) (slice_range t (at + 1) end) ≡ equal_bytes t at end
same-bytes t at end four fits =
    ap (list_all (λ b. nat_eq b (get_or t at 0))) (three-bytes t at (end - (at + 1)) (omega arith) (omega arith))
    ∙ rw (eq-eqb end (at + 4) four) (grind (arith, nat_tests))
