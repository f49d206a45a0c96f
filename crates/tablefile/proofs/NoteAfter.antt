-- Bytes that follow a file are judged after it: a refusal for what stands in the file stays, but for 12, and what
-- follows the levels is judged as a note.
use mathlib.Core.Path.{◌≡◌, refl, sym, ap, ap₂, ◌∙◌, subst}
use mathlib.Core.Bool.{Bool, true, false, not, ◌&&◌, cond}
use mathlib.Core.List.{List, [], ◌∷◌, ◌++◌, append-nil}
use Prim.Native.Nat.{ℕ, zero, suc, ◌+◌, ◌*◌, ◌≤◌, ◌<◌}
use native.Mathlib.Decide.{dec_lt}
use native.Mathlib.Omega.{arith}
use lib.IntN.{ℤ}
use lib.Dec.{leb, ltb, eqb}
use borrow.Author.Tests.{lt-ltb, le-ltb}
use lib.ListN.{length, get_or, take, drop, length-append, length-drop, get_or-append}
use lib.Seq.{take-append-le, drop-append-le}
use Rattle.surface.specs.Support.{active_count}
use Rattle.surface.specs.Table.{cause, ◌or_else◌, tree_of, formed, levels, limit}
use Rattle.surface.specs.Fields.{Judged, declined, contains, unless, Part, holds, in_part, length_at, field, checked}
use Rattle.surface.specs.Fields.{all_within}
use Rattle.surface.specs.Note.{Note, none, noted, note_field, note_bytes}
use Rattle.surface.specs.TableFile.{sides_in, good_sides, sides_field, tree_field, counts_agree, counts_field, level_loaded}
use Rattle.surface.specs.TableFile.{level_field, level_fields, Loaded, File, end_cause, file_contents, file_outcome_of}
use Rattle.surface.specs.TableFile.{file_outcome}
use Rattle.fields.proofs.FieldLaws.{body_of, rest_of}
use Rattle.tablefile.specs.Notes.{NotePassedOver, followed_by, NoteFollows}
use Rattle.tablefile.proofs.NoteField.{note-read}

-- ---- the end of a file

left_over : (c : ℕ) (rest : List ℕ) → end_cause (c ∷ rest) ≡ 15
left_over c rest = rw (lt-ltb 0 (length (c ∷ rest)) (omega arith))

not_none : (b : List ℕ) → ¬ (noted b ≡ none)
not_none b e = let z : ◌≡◌ {A = ℕ} 0 1 = cc in omega arith

module _ (x : List ℕ) where
  -- ---- a part with x after it

  -- the same refusal, but for 12, or the same contents with x after what is left
  abbrev Grown : {A : Type 0} → Judged (Part A) → Judged (Part A) → Type 0
  Grown (declined n) q = ¬ (n ≡ 12) → q ≡ declined n
  Grown (contains p) q = q ≡ holds p.content (p.rest ++ x)

  -- what goes on from both
  along : {A B : Type 0} (alike : Judged B → Judged B → Type 0)
      → ((n : ℕ) (q : Judged B) → (¬ (n ≡ 12) → q ≡ declined n) → alike (declined n) q)
      → (p q : Judged (Part A)) → Grown p q → (f : A → List ℕ → Judged B)
      → ((a : A) (rest : List ℕ) → alike (f a rest) (f a (rest ++ x))) → alike (in_part p f) (in_part q f)
  along alike same (declined n) q g f h = same n (in_part q f) (λ d. ap (λ q. in_part q f) (g d))
  along alike same (contains p) q g f h =
      subst (λ q. alike (f p.content p.rest) (in_part q f)) (sym g) (h p.content p.rest)

  grown-unless : {A : Type 0} (c : ℕ) (a : A) (rest : List ℕ)
      → Grown (unless c (holds a rest)) (unless c (holds a (rest ++ x)))
  grown-unless zero a rest = refl
  grown-unless (suc c) a rest = λ d. refl

  -- ---- one field

  module _ (tag low high : ℕ) (s : List ℕ) where
    abbrev m : ℕ
    m = length_at s

    -- by the causes between the two of 12
    by-causes : (c d : ℕ) → Dec (length s < 3 + m)
        → Grown (unless (c or_else d or_else cause 12 (ltb (length s) (3 + m))) (holds (body_of s) (rest_of s)))
        (unless (c or_else d or_else cause 12 (ltb (length (s ++ x)) (3 + m)))
        (holds (take m (drop 3 (s ++ x))) (drop (3 + m) (s ++ x))))
    by-causes (suc c) d e = λ n. refl
    by-causes zero (suc d) e = λ n. refl
    by-causes zero zero (yes h) = rw (lt-ltb (length s) (3 + m) h) λ n. absurd (n refl)
    by-causes zero zero (no h) =
        let whole : 3 + m ≤ length s = omega arith in
        rw (
          le-ltb (length s) (3 + m) whole,
          le-ltb (length (s ++ x)) (3 + m) (omega (arith, length-append s x)),
        )
        (ap₂ holds
        (ap (take m) (drop-append-le 3 s x (omega arith))
        ∙ take-append-le m (drop 3 s) x (omega (arith, length-drop 3 s)))
        (drop-append-le (3 + m) s x whole))

    grown-field : Grown (field tag low high s) (field tag low high (s ++ x))
    unfolding field
    grown-field = go (dec_lt (length s) 3)
      where
        go : Dec (length s < 3) → Grown (field tag low high s) (field tag low high (s ++ x))
        go (yes h) = rw (lt-ltb (length s) 3 h) λ d. absurd (d refl)
        go (no h) =
            let head : 3 ≤ length s = omega arith in
            let same : (i : ℕ) → i < 3 → get_or (s ++ x) i 0 ≡ get_or s i 0 =
            λ i l. get_or-append s x 0 i (omega arith) in
            rw (
              le-ltb (length s) 3 head,
              le-ltb (length (s ++ x)) 3 (omega (arith, length-append s x)),
              same 0 (omega arith),
              same 1 (omega arith),
              same 2 (omega arith),
            )
            (by-causes (cause 13 (not (eqb (get_or s 0 0) tag))) (cause 14 (not (leb low m && leb m high)))
            (dec_lt (length s) (3 + m)))

    grown-checked : {A : Type 0} (c : ℕ) (ok : List ℕ → Bool) (of : List ℕ → A)
        → Grown (checked (field tag low high s) c ok of) (checked (field tag low high (s ++ x)) c ok of)
    grown-checked c ok of =
        along Grown (λ n q g. g) (field tag low high s) (field tag low high (s ++ x)) grown-field _
        λ b rest. grown-unless (cause c (not (ok b))) (of b) rest

  -- ---- the levels

  grown-levels : (W H : ℕ) (lev : ℕ → ℕ → ℕ) (n : ℕ) (s : List ℕ)
      → Grown (level_fields W H lev n s) (level_fields W H lev n (s ++ x))
  unfolding level_fields level_field
  grown-levels W H lev zero s = refl
  grown-levels W H lev (suc L) s =
      let k = active_count W H lev L in
      along Grown (λ n q g. g) (level_fields W H lev L s) (level_fields W H lev L (s ++ x)) (grown-levels W H lev L s) _
      λ before rest.
      along Grown (λ n q g. g) (level_field W H lev L rest) (level_field W H lev L (rest ++ x))
      (grown-checked (16 + L) (5 * k) (5 * k) rest 4 (all_within (limit L) k) (level_loaded W H lev L)) _
      λ numbers rest2. refl

  -- ---- the counts, where anything stands

  grown-counts : (n : ℕ → ℕ) (b : ℕ) (s : List ℕ) → Grown (counts_field n (b ∷ s)) (counts_field n (b ∷ s ++ x))
  unfolding counts_field
  grown-counts n b s = go (eqb b 3)
    where
      read : List ℕ → Judged (Part (List ℕ))
      read s = checked (field 3 8 8 s) 20 (counts_agree n) (λ b. b)

      go : (t : Bool)
          → Grown (cond t (read (b ∷ s)) (holds [] (b ∷ s))) (cond t (read (b ∷ s ++ x)) (holds [] (b ∷ s ++ x)))
      go true = grown-checked 3 8 8 (b ∷ s) 20 (counts_agree n) (λ b. b)
      go false = refl

  -- ---- the whole file

  abbrev Follows : File → File → Type 0
  Follows j q = ¬ (j ≡ declined 12) → ((f : Loaded) → j ≡ contains f → f.note ≡ none) → q ≡ followed_by x j

  refused-first : (n : ℕ) (q : File) → (¬ (n ≡ 12) → q ≡ declined n) → Follows (declined n) q
  refused-first n q h whole bare = h λ e. whole (ap declined e)

  -- what follows the levels
  last-follows : (W H : ℕ) (t : List ℕ) (cs : List ℤ) (rest : List ℕ)
      → let end : List ℕ → File = λ s.
      in_part (note_field s) λ note rest.
      unless (end_cause rest) (contains (record { W = W; H = H; tree = t; numbers = cs; note = note })) in
      Follows (end rest) (end (rest ++ x))
  unfolding note_field
  last-follows W H t cs [] = λ whole bare. refl
  last-follows W H t cs (b ∷ s) = go (eqb b 32)
    where
      held : Note → List ℕ → File
      held note rest =
          unless (end_cause rest) (contains (record { W = W; H = H; tree = t; numbers = cs; note = note }))

      note : List ℕ → List ℕ → Judged (Part Note)
      note b rest = holds (noted b) rest

      -- a note is not there, and bytes past one are 15
      past : (b rest : List ℕ) → Follows (held (noted b) rest) (held (noted b) (rest ++ x))
      past b [] whole bare = absurd (not_none b (bare _ refl))
      past b (c ∷ rest) whole bare = rw (left_over c rest, left_over c (rest ++ x))

      by_field : (p q : Judged (Part (List ℕ))) → Grown p q
          → Follows (in_part (in_part p note) held) (in_part (in_part q note) held)
      by_field (declined n) q g = refused-first n _ λ d. ap (λ q. in_part (in_part q note) held) (g d)
      by_field (contains p) q g =
          subst (λ q. Follows (held (noted p.content) p.rest) (in_part (in_part q note) held)) (sym g)
          (past p.content p.rest)

      go : (t : Bool)
          → Follows (in_part (cond t (in_part (field 32 0 64 (b ∷ s)) note) (holds none (b ∷ s))) held)
          (in_part (cond t (in_part (field 32 0 64 (b ∷ s ++ x)) note) (holds none (b ∷ s ++ x))) held)
      go true = by_field (field 32 0 64 (b ∷ s)) (field 32 0 64 (b ∷ s ++ x)) (grown-field 32 0 64 (b ∷ s))
      go false = λ whole bare. rw (left_over b s, left_over b (s ++ x))

  -- what follows the tree: where nothing does, 12 is due
  tree-follows : (W H : ℕ) (t s : List ℕ)
      → let end : List ℕ → File = λ s.
      in_part (counts_field (active_count W H (levels t)) s) λ counts rest.
      in_part (level_fields W H (levels t) 4 rest) λ cs rest2.
      in_part (note_field rest2) λ note rest3.
      unless (end_cause rest3) (contains (record { W = W; H = H; tree = t; numbers = cs; note = note })) in
      Follows (end s) (end (s ++ x))
  unfolding counts_field level_fields level_field field
  tree-follows W H t [] = λ whole bare. absurd (whole refl)
  tree-follows W H t (b ∷ s) =
      let n = active_count W H (levels t) in
      along Follows refused-first (counts_field n (b ∷ s)) (counts_field n (b ∷ s ++ x)) (grown-counts n b s) _
      λ counts rest.
      along Follows refused-first (level_fields W H (levels t) 4 rest) (level_fields W H (levels t) 4 (rest ++ x))
      (grown-levels W H (levels t) 4 rest) _
      λ cs rest2. last-follows W H t cs rest2

  file-follows : (s : List ℕ) → Follows (file_contents s) (file_contents (s ++ x))
  unfolding file_contents sides_field tree_field
  file-follows s =
      along Follows refused-first (sides_field s) (sides_field (s ++ x))
      (grown-checked 1 2 2 s 1 (λ b. good_sides (sides_in b)) sides_in) _
      λ sides rest.
      let W = sides.W in
      let H = sides.H in
      along Follows refused-first (tree_field W H rest) (tree_field W H (rest ++ x))
      (grown-checked 2 1 1365 rest 2 (λ t. formed W H (tree_of t)) (λ t. t)) _
      λ t rest2. tree-follows W H t rest2

-- Whatever follows a file that is whole and has no note is judged as a note.
pub note-follows : NoteFollows
note-follows s x bare = file-follows x s bare.whole bare.no_note

-- So a note of 0 to 64 bytes is passed over.
pub note-passed-over : NotePassedOver
unfolding file_outcome
note-passed-over s none bare fits tree_out numbers_out =
    ap (λ s. file_outcome_of (file_contents s) tree_out numbers_out) (append-nil s)
note-passed-over s (noted b) bare fits tree_out numbers_out =
    ap (λ f. file_outcome_of f tree_out numbers_out) (note-follows s (note_bytes (noted b)) bare)
    ∙ go (file_contents s)
  where
    go : (j : File)
        → file_outcome_of (followed_by (note_bytes (noted b)) j) tree_out numbers_out ≡ file_outcome_of j tree_out numbers_out
    go (declined n) = refl
    go (contains f) = rw (note-read (noted b) fits)
