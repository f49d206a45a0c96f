-- Laws of what is judged in byte order: a refusal has one of some numbers, and what is held has a property.
use mathlib.Core.Path.{◌≡◌}
use mathlib.Core.Bool.{Bool, true, not, ◌&&◌}
use mathlib.Core.List.{List}
use Prim.Native.Nat.{ℕ, zero, suc, ◌+◌}
use lib.Dec.{leb, ltb, eqb, eqb-suc-zero}
use lib.ListN.{length, get_or}
use Rattle.surface.specs.Table.{cause, ◌or_else◌}
use Rattle.surface.specs.Fields.{Judged, declined, contains, unless, Part, in_part, length_at, field, checked}
use Rattle.surface.specs.Demands.{among}
use Rattle.surface.proofs.RefusalLaws.{OneOf, one-or, one-cause}

pub data Told (js : List ℕ) (A : Type 0) (P : A → Type 0) : Judged A → Type 0 where
  bad : {n : ℕ} → among n js ≡ true → Told js A P (declined n)
  good : {a : A} → P a → Told js A P (contains a)

-- the numbers of a field's head and body are among them
pub record Heads (js : List ℕ) : Type 0 where
  pub cut : OneOf 12 js
  pub tag : OneOf 13 js
  pub size : OneOf 14 js

module _ (js : List ℕ) where
  positive : (c : ℕ) → OneOf (suc c) js → among (suc c) js ≡ true
  positive c o = rw (eqb-suc-zero c) at o

  module _ {A : Type 0} (P : A → Type 0) where
    pub told-unless : (c : ℕ) (j : Judged A) → OneOf c js → Told js A P j → Told js A P (unless c j)
    told-unless zero j o h = h
    told-unless (suc c) j o h = bad (positive c o)

    pub told_in : {B : Type 0} (Q : Part B → Type 0) (j : Judged (Part B)) (f : B → List ℕ → Judged A)
        → Told js (Part B) Q j → ((p : Part B) → Q p → Told js A P (f p.content p.rest))
        → Told js A P (in_part j f)
    told_in Q (declined n) f (bad m) h = bad m
    told_in Q (contains p) f (good q) h = h p q

  module _ (heads : Heads js) where
    pub told-field : (tag low high : ℕ) (s : List ℕ) → Told js (Part (List ℕ)) (λ p. Unit) (field tag low high s)
    unfolding field
    told-field tag low high s =
        let n = length_at s in
        let b1 = ltb (length s) 3 in
        let b2 = not (eqb (get_or s 0 0) tag) in
        let b3 = not (leb low n && leb n high) in
        let b4 = ltb (length s) (3 + n) in
        told-unless (λ p. Unit) (cause 12 b1 or_else cause 13 b2 or_else cause 14 b3 or_else cause 12 b4) _
        (one-or (cause 12 b1) (cause 13 b2 or_else cause 14 b3 or_else cause 12 b4) js (one-cause 12 b1 js heads.cut)
        (one-or (cause 13 b2) (cause 14 b3 or_else cause 12 b4) js (one-cause 13 b2 js heads.tag)
        (one-or (cause 14 b3) (cause 12 b4) js (one-cause 14 b3 js heads.size)
        (one-cause 12 b4 js heads.cut))))
        (good tt)

    -- the contents of a field have a number of their own
    pub told-checked : {A : Type 0} (P : Part A → Type 0) (tag low high n : ℕ) (ok : List ℕ → Bool)
        (of : List ℕ → A) (s : List ℕ) → OneOf n js
        → ((b rest : List ℕ) → P (record { content = of b; rest = rest }))
        → Told js (Part A) P (checked (field tag low high s) n ok of)
    told-checked P tag low high n ok of s m h =
        told_in P (λ p. Unit) (field tag low high s) _ (told-field tag low high s)
        λ p u. told-unless P (cause n (not (ok p.content))) _ (one-cause n (not (ok p.content)) js m)
        (good (h p.content p.rest))
