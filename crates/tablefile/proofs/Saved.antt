-- The file of an acceptable table loads that table, with the counts or without them and with a note or none; no other
-- file does.
use mathlib.Core.Path.{◌≡◌, refl, sym, ap, ap₂, ◌∙◌, subst}
use mathlib.Core.Bool.{Bool, true, false, cond}
use mathlib.Core.List.{List, [], ◌∷◌, ◌++◌, append-nil, append_assoc}
use Prim.Native.Nat.{ℕ, zero, suc, ◌+◌, ◌*◌, ◌≤◌, ◌<◌}
use native.Mathlib.Nat.{zero-add}
use native.Mathlib.Omega.{arith}
use lib.IntN.{ℤ}
use lib.ListN.{length, get_or, take, drop, length-append}
use lib.Dec.{eqb}
use lib.Seq.{take_at, drop_at}
use Rattle.finite.specs.Range.{total, grid, joined}
use Rattle.finite.proofs.Joined.{joined_length}
use Rattle.finite.proofs.Tests.{and_intro}
use Rattle.surface.specs.Sheet.{good_side, functions}
use Rattle.surface.specs.Quadtree.{Quadtree, bytes, well_formed}
use Rattle.surface.specs.Support.{active_count}
use Rattle.surface.specs.Table.{tree_of, formed, levels, coefficients, slice_from, limit}
use Rattle.surface.specs.Fields.{contains, holds, length_at, number_at, all_within, Bytes, field_bytes}
use Rattle.surface.specs.Note.{Note, note_bytes, note_fits}
use Rattle.surface.specs.TableFile.{sides_in, good_sides, sides_field, tree_field, counts_agree, counts_field, level_loaded}
use Rattle.surface.specs.TableFile.{level_field, level_fields, Loaded, file_contents, counts_body, file_with, file_of}
use Rattle.surface.proofs.TreeForm.{AtLeaves, AtSplits, form-induction}
use Rattle.surface.proofs.TreeBytes.{tree-length}
use Rattle.surface.proofs.OneTree.{slice-bytes}
use Rattle.surface.proofs.Slices.{own-numbers}
use Rattle.surface.proofs.TableLaws.{Formed, tree-formed, slice-more, Sound, sides, sound}
use Rattle.fields.proofs.FieldLaws.{body_of, rest_of, body-length, body_bytes, rest-bytes, field-written}
use Rattle.fields.proofs.FiveBytes.{numbers-determine}
use Rattle.fields.proofs.Written.{nil-bytes, cons-bytes, append-bytes, joined_bytes, field-bytes, checked-read}
use Rattle.tablefile.specs.Counts.{after_tree, has_counts, with_counts}
use Rattle.tablefile.specs.Saved.{SavedLoads, LoadedIs, SavedOfLoaded, LongestFile}
use Rattle.tablefile.proofs.ActiveLaws.{active-place, active-square, active-few, loaded-active}
use Rattle.tablefile.proofs.CountsField.{past_bytes, counts-length, counts-bytes, counts-agree}
use Rattle.tablefile.proofs.CountsField.{counts-written}
use Rattle.tablefile.proofs.NoteField.{note-bytes, note-read, note-length}
use Rattle.tablefile.proofs.FileLaws.{after, levels_in, Accepted, accepted, sides-end, has-counts}
use Rattle.tablefile.proofs.FileLaws.{loaded-coefficient, accepted-sound}
use Rattle.tablefile.proofs.SavedLevels.{level-length, level-bytes, level-number, level-loads, level-within}
use Rattle.tablefile.proofs.SavedLevels.{level-small, saved_body}

-- ---- the tree's bytes

form-bytes : (W H k x y : ℕ) (t : Quadtree) → well_formed W H k x y t ≡ true → Bytes (bytes t)
unfolding bytes
form-bytes W H = form-induction W H Written at_leaf at_split
  where
    Written : (k x y : ℕ) → Quadtree → Type 0
    Written k x y t = Bytes (bytes t)

    at_leaf : AtLeaves W H Written
    at_leaf k x y l f = cons-bytes l [] (omega arith) nil-bytes

    at_split : AtSplits W H Written
    at_split k x y sw se nw ne unequal part =
        cons-bytes 4 (bytes sw ++ (bytes se ++ (bytes nw ++ bytes ne))) (omega arith)
        (append-bytes (bytes sw) (bytes se ++ (bytes nw ++ bytes ne)) (part true true)
        (append-bytes (bytes se) (bytes nw ++ bytes ne) (part false true)
        (append-bytes (bytes nw) (bytes ne) (part true false) (part false false))))

tree-bytes : (W H : ℕ) (t : List ℕ) → Formed W H t → Bytes t
tree-bytes W H t f = subst Bytes (sym (slice-bytes W H t f)) (form-bytes W H 5 0 0 f.tree f.shape)

pub tree-size : (W H : ℕ) (t : List ℕ) → Formed W H t → (1 ≤ length t) × (length t ≤ 1365)
tree-size W H t f =
    subst (λ l. (1 ≤ length l) × (length l ≤ 1365)) (sym (slice-bytes W H t f))
    (tree-length W H 0 0 f.tree f.shape)

-- ---- the whole file

-- The field of the counts, or none.
abbrev counts_part : Bool → ℕ → ℕ → List ℕ → List ℕ
counts_part counts W H t = cond counts (field_bytes 3 (counts_body (active_count W H (levels t)))) []

-- two bytes spell a count
counts-few : (W H : ℕ) (lev : ℕ → ℕ → ℕ) → W ≤ 8 → H ≤ 8 → (L : ℕ) → L < 4 → active_count W H lev L < 65536
counts-few W H lev hW hH L h = omega (arith, active-few W H lev L hW hH h)

-- The field of a level.
abbrev level_written : ℕ → ℕ → List ℕ → List ℤ → ℕ → List ℕ
level_written W H t cs L = field_bytes (16 + L) (saved_body W H t cs L)

module _ (W H : ℕ) (t : List ℕ) (cs : List ℤ) (ok : Sound W H t cs) where
  abbrev written : ℕ → List ℕ
  written = level_written W H t cs

  levels-read : (n : ℕ) → n ≤ 4 → (rest : List ℕ)
      → level_fields W H (levels t) n (joined n written ++ rest) ≡ holds (slice_from W H (coefficients W H cs) 0 n) rest
  unfolding level_fields level_field slice_from joined
  levels-read zero h rest = refl
  levels-read (suc L) h rest =
      let k = active_count W H (levels t) L in
      let b = saved_body W H t cs L in
      let f = coefficients W H cs in
      let size = level-length W H (levels t) (coefficients W H cs) L in
      let one = checked-read (16 + L) (5 * k) (5 * k) 4 (all_within (limit L) k) (level_loaded W H (levels t) L) b rest
      (level-small W H t cs ok L h) (omega arith) (omega arith) (level-within W H t cs ok L h) in
      ap (level_fields W H (levels t) (suc L)) (append_assoc (joined L written) (written L) rest)
      ∙ rw (levels-read L (omega arith) (written L ++ rest), one)
      (ap (λ l. holds (slice_from W H f 0 L ++ l) rest)
      (level-loads W H t cs ok L h ∙ ap (λ M. grid (functions W M) (functions H M) (f M)) (sym (zero-add L)))
      ∙ ap (λ l. holds l rest) (sym (slice-more W H f L 0)))

  -- the counts are read back; where none stand, the levels are due
  counts-read : (counts : Bool) (rest : List ℕ)
      → counts_field (active_count W H (levels t)) (counts_part counts W H t ++ (joined 4 written ++ rest))
      ≡ holds (cond counts (counts_body (active_count W H (levels t))) []) (joined 4 written ++ rest)
  unfolding counts_field joined
  counts-read true rest =
      let n = active_count W H (levels t) in
      let size = counts-length n in
      checked-read 3 8 8 20 (counts_agree n) (λ b. b) (counts_body n) (joined 4 written ++ rest) (omega arith)
      (omega arith) (omega arith) (counts-agree n (counts-few W H (levels t) (sides ok).1 (sides ok).3))
  counts-read false rest = refl

  file-read : (counts : Bool) (note : Note) → note_fits note ≡ true
      → file_contents (file_with counts note W H t cs)
      ≡ contains (record { W = W; H = H; tree = t; numbers = cs; note = note })
  unfolding file_contents file_with sides_field tree_field
  file-read counts note fits =
      let size = tree-size W H t ok.tree in
      let sheet = field_bytes 1 (W ∷ H ∷ []) in
      let last = note_bytes note in
      let counts_levels = counts_part counts W H t ++ (joined 4 written ++ last) in
      let parts : (((sheet ++ field_bytes 2 t) ++ counts_part counts W H t) ++ joined 4 written) ++ last
      ≡ sheet ++ (field_bytes 2 t ++ counts_levels) =
      simp (append_assoc) in
      let good = and_intro (good_side W) (good_side H) ok.side-W ok.side-H in
      ap file_contents parts
      ∙ rw (
        checked-read 1 2 2 1 (λ b. good_sides (sides_in b)) sides_in (W ∷ H ∷ []) (field_bytes 2 t ++ counts_levels)
            (omega arith) (omega arith) (omega arith) good,
        checked-read 2 1 1365 2 (λ t. formed W H (tree_of t)) (λ t. t) t counts_levels (omega arith) size.0 size.1
            (tree-formed W H t ok.tree),
        counts-read counts last,
        levels-read 4 (omega arith) last,
        own-numbers W H cs ok.size,
        note-read note fits,
      )

  counts-part-bytes : (counts : Bool) → Bytes (counts_part counts W H t)
  counts-part-bytes true =
      field-bytes 3 (counts_body (active_count W H (levels t))) (omega arith) (counts-bytes (active_count W H (levels t)))
  counts-part-bytes false = nil-bytes

  file-bytes : (counts : Bool) (note : Note) → Bytes (note_bytes note) → Bytes (file_with counts note W H t cs)
  unfolding file_with
  file-bytes counts note last =
      let w = sides ok in
      let front = field_bytes 1 (W ∷ H ∷ []) ++ field_bytes 2 t in
      let table = front ++ counts_part counts W H t in
      append-bytes (table ++ joined 4 written) (note_bytes note)
      (append-bytes table (joined 4 written)
      (append-bytes front (counts_part counts W H t)
      (append-bytes (field_bytes 1 (W ∷ H ∷ [])) (field_bytes 2 t)
      (field-bytes 1 (W ∷ H ∷ []) (omega arith)
      (cons-bytes W (H ∷ []) (omega arith) (cons-bytes H [] (omega arith) nil-bytes)))
      (field-bytes 2 t (omega arith) (tree-bytes W H t ok.tree)))
      (counts-part-bytes counts))
      (joined_bytes written 4
      λ L h. field-bytes (16 + L) (saved_body W H t cs L) (omega arith)
      (level-bytes W H (levels t) (coefficients W H cs) L)))
      last

-- Loading the file of an acceptable table restores the table.
pub saved-loads : SavedLoads
saved-loads counts note W H t cs e fits =
    (file-read W H t cs (sound W H t cs e) counts note fits, file-bytes W H t cs (sound W H t cs e) counts note)

-- ---- the file of what was loaded

two : (b : List ℕ) → length b ≡ 2 → b ≡ get_or b 0 0 ∷ get_or b 1 0 ∷ []
two [] e = absurd (omega arith)
two (x ∷ []) e = absurd (omega arith)
two (x ∷ y ∷ []) e = refl
two (x ∷ y ∷ z ∷ b) e = absurd (omega arith)

after-bytes : (n : ℕ) (s : List ℕ) → Bytes s → Bytes (after n s)
unfolding after
after-bytes zero s h = h
after-bytes (suc n) s h = rest-bytes (after n s) (after-bytes n s h)

module _ (s : List ℕ) (bs : Bytes s) (f : Loaded) (r : Accepted s f) where
  abbrev saved : ℕ → List ℕ
  saved = level_written f.W f.H f.tree f.numbers

  levels-bytes : (L : ℕ) → Bytes (after L (levels_in s))
  levels-bytes L =
      after-bytes L (levels_in s) (past_bytes (rest_of (rest_of s)) (rest-bytes (rest_of s) (rest-bytes s bs)))

  -- a level's numbers are those of its active functions, so its body is the one that is saved
  same_body : (L : ℕ) → L < 4 → body_of (after L (levels_in s)) ≡ saved_body f.W f.H f.tree f.numbers L
  same_body L hL =
      let W = f.W in
      let H = f.H in
      let lev = levels f.tree in
      let coef = coefficients W H f.numbers in
      let b = after L (levels_in s) in
      let c = saved_body W H f.tree f.numbers L in
      let field = (r.level L hL).field in
      numbers-determine (body_of b) c (body_bytes b (levels-bytes L)) (level-bytes W H lev coef L)
      (active_count W H lev L) (body-length b field.whole ∙ omega arith) (level-length W H lev coef L)
      λ k h.
      let p = active-place W H lev L k h in
      subst (λ j. number_at (body_of b) j ≡ number_at c j) p.5
      (sym (loaded-active W H lev L (body_of b) p.0 p.1 p.4)
      ∙ sym (loaded-coefficient s f r L p.0 p.1 hL p.2 p.3)
      ∙ sym (level-number W H f.tree f.numbers (accepted-sound s f r) L hL p.0 p.1 p.2 p.3 p.4))

  levels-saved : (n : ℕ) → n ≤ 4 → levels_in s ≡ joined n saved ++ after n (levels_in s)
  unfolding joined after
  levels-saved zero h = refl
  levels-saved (suc n) h =
      let rest = after (suc n) (levels_in s) in
      levels-saved n (omega arith)
      ∙ ap (λ l. joined n saved ++ l)
      (field-written (16 + n) _ _ (after n (levels_in s)) (levels-bytes n) (r.level n h).field
      ∙ ap (λ b. field_bytes (16 + n) b ++ rest) (same_body n h))
      ∙ sym (append_assoc (joined n saved) (saved n) rest)

  -- the counts are those that are saved
  counts-saved : (t : Bool) → eqb (get_or (rest_of (rest_of s)) 0 0) 3 ≡ t
      → rest_of (rest_of s)
      ≡ counts_part t f.W f.H f.tree ++ cond t (rest_of (rest_of (rest_of s))) (rest_of (rest_of s))
  counts-saved true e =
      let x = rest_of (rest_of s) in
      let bytes = rest-bytes (rest_of s) (rest-bytes s bs) in
      let w = sides (accepted-sound s f r) in
      field-written 3 8 8 x bytes (r.counts e).field
      ∙ ap (λ b. field_bytes 3 b ++ rest_of x)
      (counts-written (active_count f.W f.H (levels f.tree))
      (counts-few f.W f.H (levels f.tree) w.1 w.3) x (body_bytes x bytes) (r.counts e))
  counts-saved false e = refl

  note-saved : (after 4 (levels_in s) ≡ note_bytes f.note) × (note_fits f.note ≡ true)
  note-saved = note-bytes (after 4 (levels_in s)) f.note (levels-bytes 4) r.note

  file-saved : s ≡ file_with (has_counts s) f.note f.W f.H f.tree f.numbers
  unfolding file_with
  file-saved =
      let sheet = field_bytes 1 (f.W ∷ f.H ∷ []) in
      let last = note_bytes f.note in
      let counts = counts_part (eqb (get_or (rest_of (rest_of s)) 0 0) 3) f.W f.H f.tree in
      field-written 1 2 2 s bs r.sides
      ∙ ap₂ (λ b l. field_bytes 1 b ++ l)
      (two (body_of s) (body-length s r.sides.whole ∙ omega (arith, r.sides.long, r.sides.short))
      ∙ ap₂ (λ x y. x ∷ y ∷ []) r.side_w r.side_h)
      (field-written 2 1 1365 (rest_of s) (rest-bytes s bs) r.tree
      ∙ ap₂ (λ b l. field_bytes 2 b ++ l) r.tree_bytes
      (counts-saved (eqb (get_or (rest_of (rest_of s)) 0 0) 3) refl
      ∙ ap (λ l. counts ++ l)
      (levels-saved 4 (omega arith) ∙ ap (λ l. joined 4 saved ++ l) note-saved.0)))
      ∙ sym (append_assoc sheet (field_bytes 2 f.tree) (counts ++ (joined 4 saved ++ last)))
      ∙ sym (append_assoc (sheet ++ field_bytes 2 f.tree) counts (joined 4 saved ++ last))
      ∙ sym (append_assoc ((sheet ++ field_bytes 2 f.tree) ++ counts) (joined 4 saved) last)
      ∙ ap (λ t. file_with t f.note f.W f.H f.tree f.numbers) (sym (has-counts s f r))

  -- with the counts added where there are none
  pub file-completed : file_of f.note f.W f.H f.tree f.numbers
      ≡ with_counts (active_count f.W f.H (levels f.tree)) s
  unfolding file_with
  file-completed = go (has_counts s) file-saved
    where
      front : List ℕ
      front = field_bytes 1 (f.W ∷ f.H ∷ []) ++ field_bytes 2 f.tree

      field : List ℕ
      field = field_bytes 3 (counts_body (active_count f.W f.H (levels f.tree)))

      at : length (front ++ []) ≡ after_tree s
      at =
          omega (
            arith,
            length-append front [],
            length-append (field_bytes 1 (f.W ∷ f.H ∷ [])) (field_bytes 2 f.tree),
            ap length (sym r.tree_bytes),
            body-length (rest_of s) r.tree.whole,
            ap length_at (sides-end s f r),
          )

      tail : List ℕ
      tail = joined 4 saved ++ note_bytes f.note

      go : (t : Bool) → s ≡ file_with t f.note f.W f.H f.tree f.numbers
          → file_of f.note f.W f.H f.tree f.numbers
          ≡ cond t s (take (after_tree s) s ++ field ++ drop (after_tree s) s)
      go true e = sym e
      go false e =
          let split : s ≡ (front ++ []) ++ tail =
          e ∙ append_assoc (front ++ []) (joined 4 saved) (note_bytes f.note) in
          append_assoc (front ++ field) (joined 4 saved) (note_bytes f.note)
          ∙ ap₂ (λ a b. (a ++ field) ++ b)
          (sym (append-nil front)
          ∙ sym (take_at (front ++ []) tail (after_tree s) at)
          ∙ ap (take (after_tree s)) (sym split))
          (sym (drop_at (front ++ []) tail (after_tree s) at) ∙ ap (drop (after_tree s)) (sym split))

-- A file that is loaded is the one of what it loads.
pub loaded-is : LoadedIs
loaded-is s h f e = let r = accepted s f e in (file-saved s h f r, (note-saved s h f r).1)

-- Saving what was loaded from a file reproduces the file, with the counts added if it lacks them.
pub saved-of-loaded : SavedOfLoaded
saved-of-loaded s h f e = file-completed s h f (accepted s f e)

-- ---- the longest file

-- a level's field by bounds of its rows and columns
field-short : (W H : ℕ) (t : List ℕ) (cs : List ℤ) (L n : ℕ) → functions W L ≤ n → functions H L ≤ n
    → length (level_written W H t cs L) ≤ 3 + 5 * (n * n)
field-short W H t cs L n wide high =
    omega (arith, level-length W H (levels t) (coefficients W H cs) L, active-square W H (levels t) L n wide high)

pub longest-file : LongestFile
unfolding file_with total
longest-file note W H t cs acc fits =
    let s = sound W H t cs acc in
    let w = sides s in
    let field : ℕ → List ℕ = λ L. level_written W H t cs L in
    let front = field_bytes 1 (W ∷ H ∷ []) in
    let counts = field_bytes 3 (counts_body (active_count W H (levels t))) in
    omega (
      arith,
      length-append (front ++ field_bytes 2 t ++ counts ++ joined 4 field) (note_bytes note),
      note-length note fits,
      length-append (front ++ field_bytes 2 t ++ counts) (joined 4 field),
      length-append (front ++ field_bytes 2 t) counts,
      length-append front (field_bytes 2 t),
      counts-length (active_count W H (levels t)),
      (tree-size W H t s.tree).1,
      joined_length field 4,
      field-short W H t cs 0 11 (omega arith) (omega arith),
      field-short W H t cs 1 19 (omega arith) (omega arith),
      field-short W H t cs 2 35 (omega arith) (omega arith),
      field-short W H t cs 3 67 (omega arith) (omega arith),
    )
