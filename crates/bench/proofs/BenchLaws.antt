-- Laws by which the bench sheet's cases and those of the cost are proved: outcomes from their causes, coefficients by a
-- test that computes, readings by their patch.
use mathlib.Core.Path.{◌≡◌, refl, sym, ◌∙◌, subst}
use mathlib.Core.Bool.{Bool, true, ◌&&◌}
use mathlib.Core.List.{List}
use Prim.Native.Nat.{ℕ, suc, ◌^◌, ◌≤◌, ◌<◌, min}
use lib.IntN.{ℤ, pos}
use lib.ListN.{length, get_or, get_or-replicate}
use lib.Dec.{T, lit<}
use lib.Signed.{le_z, le_z_yes}
use borrow.Author.Tests.{le-leb, le-ltb, eq-eqb}
use Rattle.finite.specs.Range.{every2}
use Rattle.finite.proofs.Order.{≤ℤ-antisym}
use Rattle.finite.proofs.Tests.{every2-true, both}
use Rattle.surface.specs.Sheet.{functions, on_sheet}
use Rattle.surface.specs.Truncation.{D}
use Rattle.surface.specs.Patch.{evaluated, stop_level}
use Rattle.surface.specs.Table.{levels, places, place, coefficients, region_cause, table_cause, everywhere, Acceptable}
use Rattle.surface.specs.Table.{table_reading}
use Rattle.surface.specs.Calls.{Answer, refused, gives, set_cause, set_outcome}
use Rattle.surface.specs.Calls.{activity_bytes, activity_cause, activity_outcome, least_outcome, reading_cause}
use Rattle.surface.specs.Calls.{exact_outcome, whole_watts, display_outcome, cost_of, cost_outcome}
use Rattle.surface.specs.Enquiry.{Slip, enquiry_outcome, commit_cause, commit_outcome}
use Rattle.surface.specs.FloatReading.{Near, Meets}
use Rattle.surface.specs.Slopes.{NearSlopes, table_slopes, slopes_outcome}
use Rattle.bench.specs.Bench.{zeros, box, Columns, ActivityIs, TreeGives, LastPoint}
use Rattle.surface.proofs.TableLaws.{everywhere-true}
use Rattle.surface.proofs.Demands.{any-level, reading-given}
use Rattle.surface.proofs.Costs.{cost-given}
use Rattle.surface.proofs.Refusals.{meets-refused}

-- ---- coefficients

-- a test of equality that computes
unfoldable pub eq_z : ℤ → ℤ → Bool
eq_z x y = le_z x y && le_z y x

eq_z-true : (x y : ℤ) → eq_z x y ≡ true → x ≡ y
unfolding eq_z
eq_z-true x y e =
    let e2 = both (le_z x y) (le_z y x) e in
    ≤ℤ-antisym (le_z_yes (subst T (sym e2.0) tt)) (le_z_yes (subst T (sym e2.1) tt))

pub columns-by : (W H : ℕ) (cs : List ℤ) (L : ℕ) (row : List ℤ)
    → every2 (functions W L) (functions H L) (λ a b. eq_z (coefficients W H cs L a b) (get_or row a (pos 0))) ≡ true
    → Columns W H cs L row
columns-by W H cs L row e a b ha hb =
    eq_z-true (coefficients W H cs L a b) (get_or row a (pos 0))
    (every2-true (functions W L) (functions H L) (λ a b. eq_z (coefficients W H cs L a b) (get_or row a (pos 0))) e
    a b ha hb)

pub everywhere-by : (W H : ℕ) (f g : ℕ → ℕ → ℕ → ℤ) → everywhere W H (λ L a b. eq_z (f L a b) (g L a b)) ≡ true
    → (L a b : ℕ) → L < 4 → a < functions W L → b < functions H L → f L a b ≡ g L a b
everywhere-by W H f g e L a b hL ha hb =
    eq_z-true (f L a b) (g L a b) (everywhere-true W H (λ L a b. eq_z (f L a b) (g L a b)) e L a b hL ha hb)

pub zero-coefficient : (W H n L a b : ℕ) → place W H L a b < n → coefficients W H (zeros n) L a b ≡ pos 0
unfolding coefficients
zero-coefficient W H n L a b h = get_or-replicate n (place W H L a b) (pos 0) (pos 0) h

-- ---- readings

-- an exact reading on a 1 by 1 sheet, by its patch of any level from that of the point's quarter square on
pub read : (t : List ℕ) (cs : List ℤ) (u v L : ℕ) (n : ℤ) → reading_cause 1 1 t cs u v ≡ 0 → u ≤ 128 → v ≤ 128
    → L ≤ 3 → min (stop_level 1 1 (levels t) u v) 3 ≤ L
    → evaluated 1 1 (levels t) (coefficients 1 1 cs) u v L ≡ n → exact_outcome 1 1 t cs u v ≡ gives n
unfolding exact_outcome
read t cs u v L n none hu hv small stops value =
    rw (none, (any-level 1 1 (levels t) (coefficients 1 1 cs) u v (lit< tt) (lit< tt) hu hv L small stops).1, value)

-- where the exact reading is n, the display shows its whole watts and the cost is its cost
pub figures : (W H : ℕ) (t : List ℕ) (cs : List ℤ) (u v tariff : ℕ) (n : ℤ) → exact_outcome W H t cs u v ≡ gives n
    → tariff ≤ 99999
    → (display_outcome W H t cs u v ≡ gives (whole_watts n)) × (cost_outcome W H t cs u v tariff ≡ gives (cost_of n tariff))
unfolding display_outcome reading_cause
figures W H t cs u v tariff n e h =
    let g = (reading-given W H t cs u v n).0 e in
    (rw (g.0, g.1, g.2), (cost-given W H t cs u v tariff (cost_of n tariff)).1 (n, e, h, refl))

-- ---- activity

pub activity-is : (W H : ℕ) (t : List ℕ) (L : ℕ) (bytes : List ℕ) → region_cause W H t ≡ 0 → L ≤ 3
    → length bytes ≡ places W H L → activity_bytes W H t L ≡ bytes → ActivityIs W H t L bytes
unfolding activity_outcome activity_cause
activity-is W H t L bytes c h n b out e =
    rw (c, le-ltb 3 L h, eq-eqb (length out) (places W H L) (e ∙ n), b)

-- ---- refusals

-- where an exact outcome is given, so is what meets it, near it
near-given : {A B : Type 0} (near : A → B → Type 0) (o : Answer A) (a : A) (given : Answer B) → o ≡ gives a
    → Meets near o given → (x : B) × (given ≡ gives x) × near a x
near-given {A} {B} near o a given e m = go given (subst (λ k. Meets near k given) e m)
  where
    go : (g : Answer B) → Meets near (gives a) g → (x : B) × (g ≡ gives x) × near a x
    go (refused k) h = absurd h
    go (gives x) h = (x, refl, h)

-- cause 1 or 2 comes before all that a call is lent beside the tree
pub tree-gives : (W H : ℕ) (t : List ℕ) (n : ℕ) → region_cause W H t ≡ suc n → TreeGives W H t (suc n)
unfolding least_outcome activity_outcome activity_cause enquiry_outcome commit_outcome commit_cause set_outcome set_cause
    exact_outcome display_outcome cost_outcome reading_cause slopes_outcome
tree-gives W H t n e =
    record {
      least = λ b. rw e;
      activity = λ L out. rw e;
      enquiry = λ cs b level. rw (table cs);
      commit = λ cs s tree_out numbers_out. rw (table cs);
      set = λ cs L i j number. rw (table cs);
      exact = exact;
      watts = λ cs u v given m.
          (meets-refused (Near (2 ^ 30) D) (exact_outcome W H t cs u v) given m (suc n)).1 (exact cs u v);
      slopes = λ cs u v given m.
          (meets-refused NearSlopes (slopes_outcome W H t cs u v) given m (suc n)).1 (rw (table cs));
      display = λ cs u v. rw (table cs);
      cost = λ cs u v tariff. rw (table cs);
    }
  where
    table : (cs : List ℤ) → table_cause W H t cs ≡ suc n
    table cs = unfold table_cause in rw e

    exact : (cs : List ℤ) (u v : ℕ) → exact_outcome W H t cs u v ≡ refused (suc n)
    exact cs u v = rw (table cs)

pub last-point : (t : List ℕ) (cs : List ℤ) → Acceptable 1 1 t cs → LastPoint t cs
unfolding exact_outcome display_outcome cost_outcome reading_cause slopes_outcome
last-point t cs acc =
    record {
      exact = exact;
      watts = λ v given h m.
          near-given (Near (2 ^ 30) D) (exact_outcome 1 1 t cs 128 v) (table_reading 1 1 t cs 128 v) given (exact v h) m;
      slopes = λ v given h m.
          near-given NearSlopes (slopes_outcome 1 1 t cs 128 v) (table_slopes 1 1 t cs 128 v) given (rw (acc, on v h)) m;
      display = λ v h. rw (acc, on v h);
      cost = λ v tariff h k. rw (acc, on v h, le-ltb 99999 tariff k);
      exact_past = past;
      watts_past = λ v given m. (meets-refused (Near (2 ^ 30) D) (exact_outcome 1 1 t cs 129 v) given m 6).1 (past v);
      slopes_past = λ v given m. (meets-refused NearSlopes (slopes_outcome 1 1 t cs 129 v) given m 6).1 (rw acc);
      display_past = λ v. rw acc;
      cost_past = λ v tariff. rw acc;
    }
  where
    on : (v : ℕ) → v ≤ 128 → on_sheet 1 1 128 v ≡ true
    on v h = le-leb v 128 h

    exact : (v : ℕ) → v ≤ 128 → exact_outcome 1 1 t cs 128 v ≡ gives (table_reading 1 1 t cs 128 v)
    exact v h = rw (acc, on v h)

    past : (v : ℕ) → exact_outcome 1 1 t cs 129 v ≡ refused 6
    past v = rw acc

pub wide-least : (t : List ℕ) → region_cause 1 1 t ≡ 0 → least_outcome 1 1 t (box 0 0 5 4) ≡ refused 7
unfolding least_outcome
wide-least t e = rw e

pub wide-enquiry : (t : List ℕ) (cs : List ℤ) (level : ℕ) → Acceptable 1 1 t cs
    → enquiry_outcome 1 1 t cs (box 0 0 5 4) level ≡ refused 7
unfolding enquiry_outcome
wide-enquiry t cs level acc = rw acc

pub wide-commit : (t : List ℕ) (cs : List ℤ) (s : Slip) (tree_out : List ℕ) (numbers_out : List ℤ) → Acceptable 1 1 t cs
    → s.box ≡ box 0 0 5 4
    → commit_outcome 1 1 t cs s tree_out numbers_out
    ≡ record { result = refused 7; tree = tree_out; numbers = numbers_out }
unfolding commit_outcome commit_cause
wide-commit t cs s tree_out numbers_out acc e = rw (acc, e)
