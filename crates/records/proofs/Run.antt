-- Every run of records, of the calls and of the linked ones: each call takes a step of the defined outcome, and a step
-- keeps the records held the last ones accepted.
use mathlib.Core.Path.{◌≡◌, refl, sym, ap, ap₂, ◌∙◌, subst}
use mathlib.Core.Bool.{Bool, true, false, cond}
use mathlib.Core.List.{List, [], ◌∷◌, ◌++◌, append-nil}
use Prim.Native.Nat.{ℕ, zero, suc, ◌+◌, ◌-◌, ◌*◌, ◌≤◌, min}
use native.Mathlib.Omega.{arith}
use borrow.Author.Tests.{ltb-false}
use lib.IntN.{ℤ, pos, nat_abs, ◌+ℤ◌}
use lib.Dec.{ltb}
use lib.ListN.{length, get_or, set, drop, length-set, length-append, length-drop}
use lib.Seq.{append_snoc, drop-nil, drop-append-le, drop-drop, get_or-set_other}
use Rattle.finite.specs.Range.{table_from}
use Rattle.finite.proofs.Order.{abs-add}
use Rattle.finite.proofs.Tests.{pick}
use Rattle.surface.specs.Table.{cause}
use Rattle.surface.specs.Calls.{Answer, refused, gives, answer, afterwards}
use Rattle.surface.specs.Window.{WindowState, window_cause, place_after, record_cause, new_place, new_state, record_outcome}
use Rattle.surface.specs.Window.{records_held, folded, Figures, figures_of, figures_outcome}
use Rattle.answers.specs.Codes.{or_given, itself, missing_flag, or_held, FiguresTold}
use Rattle.answers.proofs.CodeLaws.{told}
use Rattle.records.specs.Lists.{Kept, standing}
use Rattle.records.specs.Run.{Window, Call, state_left, Added, FiguresAsked, KilnAdded, KilnFiguresAsked}
use Rattle.records.specs.Run.{figures_at}
use Rattle.records.specs.Run.{accepted, within, last_ones, last_left, RefusedWith23, NotHeld, EveryRun}
use Rattle.records.proofs.Places.{Sound, sound, no-cause, held-count, records-after, sound-after}
use Rattle.records.proofs.Places.{not-held-before}

-- ---- one call

-- what a call that was made told and left is the defined outcome
record Stepped (w : Window) (c : Call) : Type 0 where
  told_is : c.told ≡ (record_outcome w.slice w.state c.watts).result
  slice_is : c.left.slice ≡ (record_outcome w.slice w.state c.watts).after
  state-is : c.left.state ≡ state_left w.state c.told

added-steps : (w : Window) (c : Call) → Added w c → Stepped w c
added-steps w c (r, p, e, s) = record { told_is = sym e ∙ p.0; slice_is = p.1; state-is = s }

-- the state that a linked call leaves is that of its answer
left-same : (o : Answer WindowState) (s : WindowState) → or_given itself o s ≡ state_left s o
left-same (refused n) s = refl
left-same (gives a) s = refl

kiln-added-steps : (w : Window) (c : Call) → KilnAdded w c → Stepped w c
unfolding record_outcome
kiln-added-steps w c (code, p, e) =
    let n = length w.slice in
    let cause = record_cause n w.state c.watts in
    let new = new_state n w.state in
    let t = sym e ∙ told cause new w.state c.left.state code p.0 in
    record {
      told_is = t;
      slice_is = p.1;
      state-is = p.0.1 ∙ left-same (answer cause new) w.state ∙ ap (state_left w.state) (sym t);
    }

-- the window after a record that is accepted
abbrev after : Window → ℤ → Window
after w x =
    let n = length w.slice in
    record { slice = set w.slice (new_place n w.state) x; state = new_state n w.state }

-- where there is no cause for 22, a record is refused with 23 and leaves all, or is accepted
data Step (w : Window) (c : Call) : Type 0 where
  declined : ltb 32000 (nat_abs c.watts) ≡ true → c.told ≡ refused 23 → c.left ≡ w → Step w c
  taken : ltb 32000 (nat_abs c.watts) ≡ false → c.told ≡ gives (new_state (length w.slice) w.state)
      → c.left ≡ after w c.watts → Step w c

step : (w : Window) (c : Call) → Sound (length w.slice) w.state → Stepped w c → Step w c
unfolding record_outcome
step w c z p = pick (ltb 32000 (nat_abs x)) (λ t. ltb 32000 (nat_abs x) ≡ t → Step w c) (λ e. over) (λ e. under) refl
  where
    n : ℕ
    n = length w.slice

    x : ℤ
    x = c.watts

    only : (t : Bool) → ltb 32000 (nat_abs x) ≡ t → record_cause n w.state x ≡ cause 23 t
    only t e = rw (no-cause n w.state z) (ap (cause 23) e)

    over : ltb 32000 (nat_abs x) ≡ true → Step w c
    over e =
        let o = only true e in
        let t : c.told ≡ refused 23 = p.told_is ∙ ap (λ k. answer k (new_state n w.state)) o in
        declined e t λ i.
        record {
          slice = (p.slice_is ∙ ap (λ k. afterwards k w.slice (set w.slice (new_place n w.state) x)) o) i;
          state = (p.state-is ∙ ap (state_left w.state) t) i;
        }

    under : ltb 32000 (nat_abs x) ≡ false → Step w c
    under e =
        let o = only false e in
        let t : c.told ≡ gives (new_state n w.state) = p.told_is ∙ ap (λ k. answer k (new_state n w.state)) o in
        taken e t λ i.
        record {
          slice = (p.slice_is ∙ ap (λ k. afterwards k w.slice (set w.slice (new_place n w.state) x)) o) i;
          state = (p.state-is ∙ ap (state_left w.state) t) i;
        }

-- ---- the last ones of a list

last_more : (n : ℕ) (xs : List ℤ) (x : ℤ) → last_ones n (last_ones n xs ++ (x ∷ [])) ≡ last_ones n (xs ++ (x ∷ []))
last_more n xs x =
    let m = length xs - n in
    let joined = drop-append-le m xs (x ∷ []) (omega arith) in
    let size = length-append (drop m xs) (x ∷ []) in
    let all = length-append xs (x ∷ []) in
    let count : m + (length (drop m xs ++ (x ∷ [])) - n) ≡ length (xs ++ (x ∷ [])) - n =
    omega (arith, size, all, length-drop m xs) in
    ap (drop (length (drop m xs ++ (x ∷ [])) - n)) (sym joined)
    ∙ drop-drop (length (drop m xs ++ (x ∷ [])) - n) m (xs ++ (x ∷ []))
    ∙ ap (λ k. drop k (xs ++ (x ∷ []))) count

last-count : (n : ℕ) (xs : List ℤ) → length (last_ones n xs) ≡ min n (length xs)
last-count n xs = omega (arith, length-drop (length xs - n) xs)

-- ---- a window that holds the last ones of some records

record Holding (n : ℕ) (xs : List ℤ) (w : Window) : Type 0 where
  size : length w.slice ≡ n
  good : Sound n w.state
  records : records_held w.slice w.state ≡ last_ones n xs

-- one more
holds_more : (n : ℕ) (xs : List ℤ) (w : Window) (x : ℤ) → Holding n xs w → Holding n (xs ++ (x ∷ [])) (after w x)
holds_more n xs w x h =
    let m = length w.slice in
    let z : Sound m w.state = subst (λ n. Sound n w.state) (sym h.size) h.good in
    record {
      size = length-set w.slice (new_place m w.state) x ∙ h.size;
      good = subst (λ n. Sound n (new_state m w.state)) h.size (sound-after m w.state z);
      records = records-after w.slice w.state z x
          ∙ ap₂ (λ n l. last_ones n (l ++ (x ∷ []))) h.size h.records
          ∙ last_more n xs x;
    }

-- a place that is not held after a record holds what it held before
stays : (w : Window) (x : ℤ) (p : ℕ) → Sound (length w.slice) w.state → NotHeld (after w x) p
    → NotHeld w p × (get_or (after w x).slice p (pos 0) ≡ get_or w.slice p (pos 0))
stays w x p z h =
    let n = length w.slice in
    let s = w.state in
    let b = not-held-before n s z p (rw (length-set w.slice (new_place n s) x) at h) in
    (b.0, get_or-set_other w.slice (new_place n s) p x (pos 0) b.1)

-- ---- a run

-- what a list of calls that were made leaves, where those before it accepted xs
record Runs (n : ℕ) (xs : List ℤ) (w : Window) (calls : List Call) : Type 0 where
  holding : Holding n (xs ++ accepted calls) (last_left w calls)
  accepts : accepted calls ≡ within calls
  refuses : RefusedWith23 calls
  untouched : (p : ℕ) → NotHeld (last_left w calls) p
      → NotHeld w p × (get_or (last_left w calls).slice p (pos 0) ≡ get_or w.slice p (pos 0))

-- what a place held comes from the window that a call left, or from the one before it
abbrev From : Window → ℕ → ℤ → Type 0
From v p x = NotHeld v p × (x ≡ get_or v.slice p (pos 0))

-- one call before a list of them
more : (n : ℕ) (xs : List ℤ) (w : Window) (c : Call) (cs : List Call) → Holding n xs w
    → ((ys : List ℤ) → Holding n ys c.left → Runs n ys c.left cs) → Step w c → Runs n xs w (c ∷ cs)
unfolding standing accepted within RefusedWith23
more n xs w c cs h rest (declined over t left) =
    let r = rest xs (subst (Holding n xs) (sym left) h) in
    record {
      holding = rw t r.holding;
      accepts = rw t (r.accepts ∙ ap (λ b. cond b (within cs) (c.watts ∷ within cs)) (sym over));
      refuses = (λ m e. let same : 23 ≡ m = cc in sym same, r.refuses);
      untouched = λ p e. subst (λ v. From v p (get_or (last_left c.left cs).slice p (pos 0))) left (r.untouched p e);
    }
more n xs w c cs h rest (taken under t left) =
    let x = c.watts in
    let ys = xs ++ (x ∷ []) in
    let r = rest ys (subst (Holding n ys) (sym left) (holds_more n xs w x h)) in
    record {
      holding = rw t (subst (λ l. Holding n l (last_left c.left cs)) (append_snoc xs x (accepted cs)) r.holding);
      accepts = rw t (ap (λ l. x ∷ l) r.accepts ∙ ap (λ b. cond b (within cs) (x ∷ within cs)) (sym under));
      refuses = (λ m e. absurd (let z : ◌≡◌ {A = ℕ} 0 1 = cc in omega arith), r.refuses);
      untouched = λ p e.
          let u = subst (λ v. From v p (get_or (last_left c.left cs).slice p (pos 0))) left (r.untouched p e) in
          let b = stays w x p (subst (λ n. Sound n w.state) (sym h.size) h.good) u.0 in
          (b.0, u.1 ∙ b.1);
    }

module _ (Added : Window → Call → Type 0) (steps : (w : Window) (c : Call) → Added w c → Stepped w c) where
  runs : (n : ℕ) (xs : List ℤ) (w : Window) (calls : List Call) → Holding n xs w → Kept Added (λ v c. c.left) w calls
      → Runs n xs w calls
  unfolding Kept standing accepted within RefusedWith23
  runs n xs w [] h k =
      record {
        holding = subst (λ l. Holding n l w) (sym (append-nil xs)) h;
        accepts = refl;
        refuses = tt;
        untouched = λ p e. (e, refl);
      }
  runs n xs w (c ∷ cs) h k =
      more n xs w c cs h (λ ys g. runs n ys c.left cs g k.1)
      (step w c (subst (λ n. Sound n w.state) (sym h.size) h.good) (steps w c k.0))

-- ---- the total's size

abbrev Small : List ℤ → Type 0
Small [] = Unit
Small (x ∷ xs) = (nat_abs x ≤ 32000) × Small xs

small-within : (calls : List Call) → Small (within calls)
unfolding within
small-within [] = tt
small-within (c ∷ cs) =
    pick (ltb 32000 (nat_abs c.watts)) (λ t. Small (cond t (within cs) (c.watts ∷ within cs)))
    (λ e. small-within cs) (λ e. (ltb-false 32000 (nat_abs c.watts) e, small-within cs))

small-drop : (k : ℕ) (xs : List ℤ) → Small xs → Small (drop k xs)
small-drop zero xs h = h
small-drop (suc k) [] h = tt
small-drop (suc k) (x ∷ xs) h = small-drop k xs h.1

total-small : (x : ℤ) (xs : List ℤ) (m : ℕ) → nat_abs x ≤ m → Small xs
    → nat_abs (folded ◌+ℤ◌ x xs) ≤ m + length xs * 32000
unfolding folded
total-small x [] m h s = omega arith
total-small x (y ∷ ys) m h s =
    omega (arith, total-small (x +ℤ y) ys (m + 32000) (abs-add x y h s.0) s.1)

figures-small : (xs : List ℤ) → Small xs → nat_abs (figures_of xs).total ≤ length xs * 32000
figures-small [] s = omega arith
figures-small (x ∷ xs) s = omega (arith, total-small x xs 32000 s.0 s.1)

-- ---- the figures

asked-told : (w : Window) (told : Answer Figures) → FiguresAsked w told → told ≡ figures_outcome w.slice w.state
asked-told w told (r, p, e) = sym e ∙ p

-- the figures that stand at the parameters are those of the records
at-parameters : (xs : List ℤ) {total : ℤ} {flag : ℕ} {least greatest : ℤ} (least₀ greatest₀ : ℤ)
    → total ≡ (figures_of xs).total → flag ≡ missing_flag (figures_of xs).least
    → least ≡ or_held (figures_of xs).least least₀ → greatest ≡ or_held (figures_of xs).greatest greatest₀
    → figures_at total flag least greatest ≡ figures_of xs
at-parameters [] {least} {greatest} least₀ greatest₀ p q r s = ap₂ (λ t f. figures_at t f least greatest) p q
at-parameters (x ∷ xs) least₀ greatest₀ p q r s =
    λ i. figures_at (p i) (q i) (r i) (s i)

by_code : (k : ℕ) (xs : List ℤ) (code : ℕ) (total₀ total : ℤ) (flag₀ flag : ℕ) (least₀ least greatest₀ greatest : ℤ)
    → FiguresTold (answer k (figures_of xs)) code total₀ total flag₀ flag least₀ least greatest₀ greatest
    → answer code (figures_at total flag least greatest) ≡ answer k (figures_of xs)
by_code zero xs code total₀ total flag₀ flag least₀ least greatest₀ greatest (c, p, q, r, s) =
    ap₂ answer c (at-parameters xs least₀ greatest₀ p q r s)
by_code (suc k) xs code total₀ total flag₀ flag least₀ least greatest₀ greatest (c, p, q, r, s) =
    ap (λ m. answer m (figures_at total flag least greatest)) c

kiln-asked-told : (w : Window) (told : Answer Figures) → KilnFiguresAsked w told
    → told ≡ figures_outcome w.slice w.state
unfolding figures_outcome
kiln-asked-told w told (code, total₀, total, flag₀, flag, least₀, least, greatest₀, greatest, p, e) =
    sym e
    ∙ by_code (window_cause (length w.slice) w.state) (records_held w.slice w.state) code total₀ total flag₀
    flag least₀ least greatest₀ greatest p

-- ---- every run

module _ (Added : Window → Call → Type 0) (Asked : Window → Answer Figures → Type 0)
    (steps : (w : Window) (c : Call) → Added w c → Stepped w c)
    (tells : (w : Window) (told : Answer Figures) → Asked w told → told ≡ figures_outcome w.slice w.state) where
  -- no record is held where the run begins
  begin : (w : Window) → window_cause (length w.slice) w.state ≡ 0 → w.state.held ≡ 0
      → Holding (length w.slice) [] w
  unfolding table_from
  begin w e none =
      let n = length w.slice in
      record {
        size = refl;
        good = sound n w.state e;
        records = ap (λ k. table_from 0 k (λ k. get_or w.slice (place_after n w.state.oldest k) (pos 0))) none
            ∙ sym (drop-nil (0 - n));
      }

  every-run : EveryRun Added Asked
  unfolding figures_outcome
  every-run w calls r =
      let n = length w.slice in
      let all = runs Added steps n [] w calls (begin w r.begun r.none) r.made in
      let last = last_left w calls in
      let h = all.holding in
      let z : Sound (length last.slice) last.state =
      subst (λ n. Sound n last.state) (sym h.size) h.good in
      record {
        figures = λ told a. tells last told a
            ∙ ap₂ answer (no-cause (length last.slice) last.state z) (ap figures_of h.records);
        accepts = all.accepts;
        refuses = all.refuses;
        holds = h.records;
        held = sym (held-count last.slice last.state z) ∙ ap length h.records
            ∙ last-count n (accepted calls);
        goes = no-cause (length last.slice) last.state z;
        untouched = λ p e. (all.untouched p e).1;
        size = h.size;
        fits = omega (
          arith,
          figures-small (last_ones n (accepted calls))
              (small-drop (length (accepted calls) - n) (accepted calls)
              (subst Small (sym all.accepts) (small-within calls))),
          last-count n (accepted calls),
          (sound n w.state r.begun).most,
        );
      }

pub run-of-added : EveryRun Added FiguresAsked
run-of-added = every-run Added FiguresAsked added-steps asked-told

pub run-of-kiln-added : EveryRun KilnAdded KilnFiguresAsked
run-of-kiln-added = every-run KilnAdded KilnFiguresAsked kiln-added-steps kiln-asked-told
