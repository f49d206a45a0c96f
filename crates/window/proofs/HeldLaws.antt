-- The figures of the records held, from what is folded over one part of the window or over two.
use mathlib.Core.Path.{◌≡◌, sym, ap, ap₂, ◌∙◌}
use mathlib.Core.List.{List, ◌∷◌, ◌++◌}
use Prim.Native.Nat.{ℕ, suc, ◌+◌, ◌-◌, ◌^◌, ◌≤◌, ◌<◌}
use native.Mathlib.Omega.{arith}
use borrow.Author.Rules.{sfits_of}
use lib.IntN.{ℤ, pos, ◌+ℤ◌}
use lib.Signed.{mag}
use lib.ListN.{length, get_or, take, drop, length-drop}
use lib.Seq.{drop-cons, take_all}
use mir.Syntax.{w32, w64}
use mir.Val.{to_z, of_z}
use mir.ValLaws.{to_z-of_z}
use Rattle.finite.specs.Range.{table_from}
use Rattle.surface.specs.Window.{WindowState, place_after, records_held, folded, lesser, greater, missing, present}
use Rattle.surface.specs.Window.{Figures, figures_of}
use Rattle.records.proofs.Places.{Sound, held-straight, held-wrapped}
use Rattle.window.proofs.FoldLaws.{widened, wide_is, fold-append}

-- the figures of a list, by its first record and the others
figures-are : {records : List ℤ} (x : ℤ) (others : List ℤ) → records ≡ x ∷ others → {t l g : ℤ}
    → t ≡ folded ◌+ℤ◌ x others → l ≡ folded lesser x others → g ≡ folded greater x others
    → figures_of records ≡ record { total = t; least = present l; greatest = present g }
figures-are x others e p q r = ap figures_of e ∙ λ i.
    record { total = sym p i; least = present (sym q i); greatest = present (sym r i) }

module _ (w : List ℤ) (o h : ℕ) (z : Sound (length w) (record { held = h; oldest = o })) (some : 0 < h) where
  -- the oldest record, as it is read
  abbrev x : ℤ
  x = get_or w o (pos 0)

  abbrev read : ℤ
  read = to_z w32 (of_z w32 x)

  first : drop o w ≡ x ∷ drop (o + 1) w
  first =
      let next : suc o ≡ o + 1 = omega arith in
      drop-cons w o (pos 0) z.oldest ∙ ap (λ k. x ∷ drop k w) next

  module _ (fits : mag x < 2 ^ 31) where
    total-from : (xs : List ℤ) → folded ◌+ℤ◌ (widened x) xs ≡ folded ◌+ℤ◌ x xs
    total-from xs = ap (λ y. folded ◌+ℤ◌ y xs) (wide_is x fits)

    read-from : (f : ℤ → ℤ → ℤ) (xs : List ℤ) → folded f read xs ≡ folded f x xs
    read-from f xs = ap (λ y. folded f y xs) (to_z-of_z w32 x (sfits_of fits))

    module _ {t l g : ℤ} where
      -- in one part
      pub told-straight : o + h ≤ length w
          → let part = take (o + h - (o + 1)) (drop (o + 1) w) in
          t ≡ folded ◌+ℤ◌ (widened x) part → l ≡ folded lesser read part → g ≡ folded greater read part
          → figures_of (records_held w (record { held = h; oldest = o }))
          ≡ record { total = t; least = present l; greatest = present g }
      told-straight b p q r =
          let part = take (o + h - (o + 1)) (drop (o + 1) w) in
          let count : h ≡ suc (o + h - (o + 1)) = omega arith in
          figures-are x part (held-straight w (record { held = h; oldest = o }) z b ∙ ap₂ take count first)
          (p ∙ total-from part) (q ∙ read-from lesser part) (r ∙ read-from greater part)

      -- in two
      module _ {t₀ l₀ g₀ : ℤ} where
        pub told-wrapped : length w < o + h
            → let later = take (length w - (o + 1)) (drop (o + 1) w) in
            let early = take (o + h - length w - 0) w in
            t₀ ≡ folded ◌+ℤ◌ (widened x) later → l₀ ≡ folded lesser read later → g₀ ≡ folded greater read later
            → t ≡ folded ◌+ℤ◌ t₀ early → l ≡ folded lesser l₀ early → g ≡ folded greater g₀ early
            → figures_of (records_held w (record { held = h; oldest = o }))
            ≡ record { total = t; least = present l; greatest = present g }
        told-wrapped b p₀ q₀ r₀ p q r =
            figures-are x (later ++ early)
            (held-wrapped w (record { held = h; oldest = o }) z b
            ∙ ap₂ ◌++◌ (first ∙ ap (λ xs. x ∷ xs) (sym whole)) rest)
            (p ∙ joined ◌+ℤ◌ (p₀ ∙ total-from later))
            (q ∙ joined lesser (q₀ ∙ read-from lesser later))
            (r ∙ joined greater (r₀ ∙ read-from greater later))
          where
            later : List ℤ
            later = take (length w - (o + 1)) (drop (o + 1) w)

            early : List ℤ
            early = take (o + h - length w - 0) w

            whole : later ≡ drop (o + 1) w
            whole = take_all (length w - (o + 1)) (drop (o + 1) w) (omega (arith, length-drop (o + 1) w))

            rest : take (h - (length w - o)) w ≡ early
            rest =
                let count : h - (length w - o) ≡ o + h - length w - 0 = omega (arith, z.oldest) in
                ap (λ k. take k w) count

            joined : (f : ℤ → ℤ → ℤ) {y : ℤ} → y ≡ folded f x later → folded f y early ≡ folded f x (later ++ early)
            joined f e = ap (λ y. folded f y early) e ∙ sym (fold-append f x later early)

-- "With none held the total is 0 and the other two are marked missing."
pub none-held : (w : List ℤ) (s : WindowState) → s.held ≡ 0
    → record { total = pos 0; least = missing; greatest = missing } ≡ figures_of (records_held w s)
unfolding table_from
none-held w s e =
    ap (λ k. figures_of (table_from 0 k (λ k. get_or w (place_after (length w) s.oldest k) (pos 0)))) (sym e)

-- figures that the machine has read back
pub read_back : {t l g : ℤ} → mag t < 2 ^ 63 → mag l < 2 ^ 31 → mag g < 2 ^ 31
    → ◌≡◌ {A = Figures}
    (record {
      total = to_z w64 (of_z w64 t);
      least = present (to_z w32 (of_z w32 l));
      greatest = present (to_z w32 (of_z w32 g));
    })
    (record { total = t; least = present l; greatest = present g })
read_back {t} {l} {g} a b c = λ i.
    record {
      total = to_z-of_z w64 t (sfits_of a) i;
      least = present (to_z-of_z w32 l (sfits_of b) i);
      greatest = present (to_z-of_z w32 g (sfits_of c) i);
    }
