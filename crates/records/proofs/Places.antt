-- Laws of the places of a window: where no cause applies, which places hold the records, and what a new record makes of
-- them.
use mathlib.Core.Path.{◌≡◌, refl, sym, ap, ◌∙◌}
use mathlib.Core.Logic.{◌≢◌}
use mathlib.Core.Bool.{not, ◌&&◌}
use mathlib.Core.List.{List, [], ◌∷◌, ◌++◌}
use Prim.Native.Nat.{ℕ, zero, suc, ◌+◌, ◌-◌, ◌%◌, ◌≤◌, ◌<◌}
use native.Mathlib.Nat.{mod-lt, mod-eq_of_lt, mod-add-mod, add_assoc, zero-add, add-mod_right}
use native.Mathlib.Decide.{dec_lt}
use native.Mathlib.Omega.{arith}
use borrow.Author.Tests.{leb-true, ltb-true, lt-ltb, le-ltb, le-leb}
use lib.IntN.{ℤ, pos}
use lib.Dec.{leb, ltb}
use lib.ListN.{length, get_or, set, take, drop, length-set, length-append, length-drop, get_or-append}
use lib.Seq.{length-take-le, get_or-append_seam, get_or-append-add, get_or-set_same, get_or-set_other, get_or-take, get_or-drop}
use lib.Seq.{ext_get_or}
use Rattle.finite.proofs.Tests.{both, and_intro, pick}
use Rattle.finite.proofs.Division.{mod-once}
use Rattle.finite.proofs.Table.{length-table, get_d-table}
use Rattle.surface.specs.Table.{cause}
use Rattle.surface.specs.Window.{WindowState, window_cause, place_after, new_place, new_state, records_held}
use Rattle.surface.proofs.Causes.{cause-none, none-cause}
use Rattle.records.specs.Run.{last_ones}

-- ---- no cause for 22

pub record Sound (n : ℕ) (s : WindowState) : Type 0 where
  pub some : 1 ≤ n
  pub most : n ≤ 1440
  pub held : s.held ≤ n
  pub oldest : s.oldest < n

pub sound : (n : ℕ) (s : WindowState) → window_cause n s ≡ 0 → Sound n s
sound n s e =
    let all = cause-none 21 (leb 1 n && leb n 1440 && (leb s.held n && ltb s.oldest n)) e in
    let two = both (leb 1 n && leb n 1440) (leb s.held n && ltb s.oldest n) all in
    let a = both (leb 1 n) (leb n 1440) two.0 in
    let b = both (leb s.held n) (ltb s.oldest n) two.1 in
    record {
      some = leb-true 1 n a.0;
      most = leb-true n 1440 a.1;
      held = leb-true s.held n b.0;
      oldest = ltb-true s.oldest n b.1;
    }

pub no-cause : (n : ℕ) (s : WindowState) → Sound n s → window_cause n s ≡ 0
no-cause n s w =
    none-cause 22 (leb 1 n && leb n 1440 && (leb s.held n && ltb s.oldest n))
    (and_intro (leb 1 n && leb n 1440) (leb s.held n && ltb s.oldest n)
    (and_intro (leb 1 n) (leb n 1440) (le-leb _ _ w.some) (le-leb _ _ w.most))
    (and_intro (leb s.held n) (ltb s.oldest n) (le-leb _ _ w.held) (lt-ltb _ _ w.oldest)))

pub unsound : (n : ℕ) (s : WindowState) → (Sound n s → ⊥) → 22 ≡ window_cause n s
unsound n s h =
    let good = leb 1 n && leb n 1440 && (leb s.held n && ltb s.oldest n) in
    pick good (λ t. 22 ≡ cause 22 (not t)) (λ e. absurd (h (sound n s (none-cause 22 good e)))) (λ e. refl)

-- ---- places

-- a place is as far as it is counted, or a whole round less
low : (n o k : ℕ) → o + k < n → place_after n o k ≡ o + k
low n o k h = mod-eq_of_lt h

high : (n o k : ℕ) → n ≤ o + k → o + k < n + n → place_after n o k ≡ o + k - n
high n o k h m = mod-once n (o + k) h m

pub place-low : (n o k : ℕ) → o + k < n → (o + k ≡ place_after n o k) × (o + k < n)
place-low n o k h = (sym (low n o k h), h)

pub place-high : (n o k : ℕ) → o < n → k ≤ n → n ≤ o + k → (o + k - n ≡ place_after n o k) × (o + k - n < n)
place-high n o k h m l = (sym (high n o k l (omega arith)), omega arith)

pub place-below : (n o k : ℕ) → o < n → place_after n o k < n
place-below n o k h = mod-lt (o + k) (omega arith)

-- two places from the oldest's on, less than a whole round apart, are different
apart : (n o a b : ℕ) → o < n → a < b → b ≤ n → b < a + n → place_after n o a ≢ place_after n o b
apart n o a b h l m r e = go (dec_lt (o + a) n) (dec_lt (o + b) n)
  where
    go : Dec (o + a < n) → Dec (o + b < n) → ⊥
    go (yes x) (yes y) = omega (arith, e, low n o a x, low n o b y)
    go (yes x) (no y) = omega (arith, e, low n o a x, high n o b (omega arith) (omega arith))
    go (no x) (yes y) = omega arith
    go (no x) (no y) =
        omega (arith, e, high n o a (omega arith) (omega arith), high n o b (omega arith) (omega arith))

-- counted from the place after the oldest's
pub from_next : (n o k : ℕ) → place_after n (place_after n o 1) k ≡ place_after n o (1 + k)
from_next n o k = mod-add-mod (o + 1) n k ∙ ap (λ m. m % n) (add_assoc o 1 k)

-- as many places after the oldest's as there are is the oldest's own
pub whole-round : (n o : ℕ) → place_after n o n ≡ place_after n o 0
whole-round n o = add-mod_right o n ∙ ap (λ m. m % n) (omega arith)

-- ---- the records held, as parts of the slice

module _ (w : List ℤ) (s : WindowState) (z : Sound (length w) s) where
  pub held-count : length (records_held w s) ≡ s.held
  held-count = length-table 0 s.held (λ k. get_or w (place_after (length w) s.oldest k) (pos 0))

  record-at : (k : ℕ) → k < s.held
      → get_or (records_held w s) k (pos 0) ≡ get_or w (place_after (length w) s.oldest k) (pos 0)
  record-at k h =
      get_d-table 0 s.held (λ k. get_or w (place_after (length w) s.oldest k) (pos 0)) k (pos 0) h
      ∙ ap (λ k. get_or w (place_after (length w) s.oldest k) (pos 0)) (omega arith)

  -- in one part, up to the last place
  pub held-straight : s.oldest + s.held ≤ length w → records_held w s ≡ take s.held (drop s.oldest w)
  held-straight h =
      let many : s.held ≤ length (drop s.oldest w) = omega (arith, length-drop s.oldest w) in
      ext_get_or (pos 0) _ _ (held-count ∙ sym (length-take-le s.held (drop s.oldest w) many))
      λ k i.
      let l : k < s.held = omega (arith, held-count) in
      record-at k l
      ∙ ap (λ p. get_or w p (pos 0)) (low (length w) s.oldest k (omega arith))
      ∙ sym (get_or-take s.held (drop s.oldest w) k (pos 0) l ∙ get_or-drop s.oldest w k (pos 0))

  -- in two parts, where "place 0" follows "the last place"
  pub held-wrapped : length w < s.oldest + s.held
      → records_held w s ≡ drop s.oldest w ++ take (s.held - (length w - s.oldest)) w
  held-wrapped h =
      ext_get_or (pos 0) _ _
      (held-count ∙ sym (length-append later first ∙ omega (arith, size, length-take-le m w (omega arith))))
      λ k i. go k (omega (arith, held-count)) (dec_lt (s.oldest + k) (length w))
    where
      m : ℕ
      m = s.held - (length w - s.oldest)

      later : List ℤ
      later = drop s.oldest w

      first : List ℤ
      first = take m w

      size : length later ≡ length w - s.oldest
      size = length-drop s.oldest w

      go : (k : ℕ) → k < s.held → Dec (s.oldest + k < length w)
          → get_or (records_held w s) k (pos 0) ≡ get_or (later ++ first) k (pos 0)
      go k l (yes b) =
          record-at k l
          ∙ ap (λ p. get_or w p (pos 0)) (low (length w) s.oldest k b)
          ∙ sym (get_or-append later first (pos 0) k (omega (arith, size)) ∙ get_or-drop s.oldest w k (pos 0))
      go k l (no b) =
          let j = s.oldest + k - length w in
          let at : k ≡ length later + j = omega (arith, size) in
          record-at k l
          ∙ ap (λ p. get_or w p (pos 0)) (high (length w) s.oldest k (omega arith) (omega (arith, z.oldest, z.held)))
          ∙ sym (ap (λ k. get_or (later ++ first) k (pos 0)) at ∙ get_or-append-add later first j (pos 0)
          ∙ get_or-take m w j (pos 0) (omega arith))

  -- ---- one more record

  module _ (x : ℤ) where
    abbrev put : List ℤ
    put = set w (new_place (length w) s) x

    -- what stands j places after the oldest's
    here : (j : ℕ) → j ≤ s.held → s.held < j + length w
        → get_or put (place_after (length w) s.oldest j) (pos 0) ≡ get_or (records_held w s ++ (x ∷ [])) j (pos 0)
    here j h r = go (dec_lt j s.held)
      where
        go : Dec (j < s.held)
            → get_or put (place_after (length w) s.oldest j) (pos 0) ≡ get_or (records_held w s ++ (x ∷ [])) j (pos 0)
        go (yes l) =
            get_or-set_other w (new_place (length w) s) (place_after (length w) s.oldest j) x (pos 0)
            (apart (length w) s.oldest j s.held z.oldest l z.held r)
            ∙ sym (get_or-append (records_held w s) (x ∷ []) (pos 0) j (omega (arith, held-count)) ∙ record-at j l)
        go (no l) =
            let same : j ≡ s.held = omega arith in
            ap (λ j. get_or put (place_after (length w) s.oldest j) (pos 0)) same
            ∙ get_or-set_same w (new_place (length w) s) x (pos 0)
            (place-below (length w) s.oldest s.held z.oldest)
            ∙ sym (ap (λ j. get_or (records_held w s ++ (x ∷ [])) j (pos 0)) (same ∙ sym held-count)
            ∙ get_or-append_seam (records_held w s) x [] (pos 0))

    -- the records that s' holds, where those before the e-th are no longer held
    moved : (e : ℕ) (s' : WindowState) → s'.held + e ≡ s.held + 1 → s.held < e + length w
        → ((k : ℕ) → place_after (length w) s'.oldest k ≡ place_after (length w) s.oldest (e + k))
        → records_held put s' ≡ drop e (records_held w s ++ (x ∷ []))
    moved e s' count round places =
        ext_get_or (pos 0) _ _
        (length-table 0 s'.held (λ k. get_or put (place_after (length put) s'.oldest k) (pos 0))
        ∙ sym (length-drop e (records_held w s ++ (x ∷ [])) ∙ omega (
          arith,
          length-append (records_held w s) (x ∷ []),
          held-count,
        )))
        λ k i.
        let l : k < s'.held = rw (length-table 0 s'.held (λ k. get_or put (place_after (length put) s'.oldest k)
        (pos 0))) at i in
        get_d-table 0 s'.held (λ k. get_or put (place_after (length put) s'.oldest k) (pos 0)) k (pos 0) l
        ∙ ap (λ k. get_or put (place_after (length put) s'.oldest k) (pos 0)) (omega arith)
        ∙ ap (λ n. get_or put (place_after n s'.oldest k) (pos 0)) (length-set w (new_place (length w) s) x)
        ∙ ap (λ p. get_or put p (pos 0)) (places k)
        ∙ here (e + k) (omega arith) (omega arith)
        ∙ sym (get_or-drop e (records_held w s ++ (x ∷ [])) k (pos 0))

    -- "A new record takes the place after the newest held"; "When the window is full it overwrites the oldest"
    pub records-after : records_held put (new_state (length w) s)
        ≡ last_ones (length w) (records_held w s ++ (x ∷ []))
    records-after = go (dec_lt s.held (length w))
      where
        many : length (records_held w s ++ (x ∷ [])) ≡ s.held + 1
        many = length-append (records_held w s) (x ∷ []) ∙ ap (λ k. k + 1) held-count

        go : Dec (s.held < length w)
            → records_held put (new_state (length w) s) ≡ last_ones (length w) (records_held w s ++ (x ∷ []))
        go (yes l) =
            let none : 0 ≡ length (records_held w s ++ (x ∷ [])) - length w = omega (arith, many) in
            rw (lt-ltb s.held (length w) l)
            (moved 0 (record { held = suc s.held; oldest = s.oldest }) (omega arith) (omega arith)
            (λ k. ap (place_after (length w) s.oldest) (sym (zero-add k)))
            ∙ ap (λ e. drop e (records_held w s ++ (x ∷ []))) none)
        go (no l) =
            let one : 1 ≡ length (records_held w s ++ (x ∷ [])) - length w = omega (arith, many, z.held) in
            rw (le-ltb s.held (length w) (omega arith))
            (moved 1 (record { held = s.held; oldest = place_after (length w) s.oldest 1 }) refl
            (omega (arith, z.held)) (λ k. from_next (length w) s.oldest k)
            ∙ ap (λ e. drop e (records_held w s ++ (x ∷ []))) one)

-- the state after a record is sound too
pub sound-after : (n : ℕ) (s : WindowState) → Sound n s → Sound n (new_state n s)
sound-after n s z = go (dec_lt s.held n)
  where
    go : Dec (s.held < n) → Sound n (new_state n s)
    go (yes l) =
        rw (lt-ltb s.held n l)
        (record { some = z.some; most = z.most; held = omega arith; oldest = z.oldest })
    go (no l) =
        rw (le-ltb s.held n (omega arith))
        (record { some = z.some; most = z.most; held = z.held; oldest = place-below n s.oldest 1 z.oldest })

-- a place that is not held after a record was not held before, and the record does not stand there
pub not-held-before : (n : ℕ) (s : WindowState) → Sound n s → (p : ℕ)
    → ((k : ℕ) → k < (new_state n s).held → place_after n (new_state n s).oldest k ≢ p)
    → ((k : ℕ) → k < s.held → place_after n s.oldest k ≢ p) × (p ≢ new_place n s)
not-held-before n s z p = go (dec_lt s.held n)
  where
    go : Dec (s.held < n)
        → ((k : ℕ) → k < (new_state n s).held → place_after n (new_state n s).oldest k ≢ p)
        → ((k : ℕ) → k < s.held → place_after n s.oldest k ≢ p) × (p ≢ new_place n s)
    go (yes l) =
        rw (lt-ltb s.held n l) λ h. (λ k b. h k (omega arith), λ e. h s.held (omega arith) (sym e))
    go (no l) =
        rw (le-ltb s.held n (omega arith)) λ h.
        let full : s.held ≡ n = omega (arith, z.held) in
        let later : (k : ℕ) → k < n → place_after n s.oldest (1 + k) ≢ p =
        λ k b e. h k (omega arith) (from_next n s.oldest k ∙ e) in
        let last : place_after n s.oldest n ≢ p =
        λ e. later (n - 1) (omega (arith, z.some)) (ap (place_after n s.oldest) (omega (arith, z.some)) ∙ e) in (
          λ k b e. first-or-later k b e later last,
          λ e. last (sym (e ∙ ap (place_after n s.oldest) full)),
        )
      where
        first-or-later : (k : ℕ) → k < s.held → place_after n s.oldest k ≡ p
            → ((k : ℕ) → k < n → place_after n s.oldest (1 + k) ≢ p) → place_after n s.oldest n ≢ p → ⊥
        first-or-later zero b e later last = last (whole-round n s.oldest ∙ e)
        first-or-later (suc k) b e later last =
            later k (omega (arith, z.held)) (ap (place_after n s.oldest) (omega arith) ∙ e)
