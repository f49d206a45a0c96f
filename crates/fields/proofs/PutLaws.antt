-- Bytes put after bytes.
use mathlib.Core.Path.{◌≡◌, refl, sym, ap, ap₂, ◌∙◌, subst}
use mathlib.Core.List.{List, [], ◌∷◌, ◌++◌, append_assoc, append-nil}
use Prim.Native.Nat.{ℕ, ◌+◌, ◌<◌}
use native.Mathlib.Nat.{zero-add}
use native.Mathlib.Numerals.{add-one}
use native.Mathlib.Omega.{arith}
use lib.ListN.{length, take, drop, set, length-append, take-append-drop}
use lib.Seq.{take-suc-set, drop-set-lt, drop-drop}
use Rattle.finite.specs.Range.{joined}
use Rattle.surface.specs.Calls as Calls
use Rattle.surface.specs.Fields.{byte_of, field_bytes}
use Rattle.fields.specs.Put.{Put}

pub put-nothing : (at r : ℕ) (o : List ℕ) → r ≡ at → Put [] at o r o
put-nothing at r o e = (omega arith, ap (λ n. take n o) e ∙ sym (append-nil (take at o)), refl)

pub put_both : (a b : List ℕ) (at : ℕ) (o : List ℕ) (r : ℕ) (p : List ℕ) (s : ℕ) (q : List ℕ)
    → Put a at o r p → Put b r p s q → Put (a ++ b) at o s q
put_both a b at o r p s q h k = (
  omega (arith, length-append a b, h.0, k.0),
  k.1 ∙ ap (λ l. l ++ b) h.1 ∙ append_assoc (take at o) a b,
  k.2 ∙ later p ∙ ap (drop (length b)) h.2 ∙ sym (later o),
)
  where
    later : (l : List ℕ) → drop s l ≡ drop (length b) (drop r l)
    later l = ap (λ n. drop n l) k.0 ∙ sym (drop-drop (length b) r l)

pub put_byte : (b at : ℕ) (o : List ℕ) → at < length o → Put (b ∷ []) at o (at + 1) (set o at b)
put_byte b at o h = (
  refl,
  ap (λ n. take n (set o at b)) (add-one at) ∙ take-suc-set o at b h,
  drop-set-lt (at + 1) o at b (omega arith),
)

-- "On success, tree output past the tree is untouched."
pub put_front : (tree o : List ℕ) (r : ℕ) (p : List ℕ) → Put tree 0 o r p → p ≡ Calls.put tree o
put_front tree o r p h =
    sym (take-append-drop r p)
    ∙ ap₂ ◌++◌ h.1 (h.2 ∙ ap (λ n. drop n o) (h.0 ∙ zero-add (length tree)))

-- ---- texts one after the other

-- one more text after those before
pub put_next : (n : ℕ) (f : ℕ → List ℕ) (text : List ℕ) (at : ℕ) (o : List ℕ) (r : ℕ) (p : List ℕ) (s : ℕ) (q : List ℕ)
    → Put (joined n f) at o r p → Put text r p s q → text ≡ f n → Put (joined (n + 1) f) at o s q
unfolding joined
put_next n f text at o r p s q h k e =
    rw (add-one n, ← e) (put_both (joined n f) text at o r p s q h k)

-- no text yet
pub put-none : (f : ℕ → List ℕ) (at : ℕ) (o : List ℕ) → Put (joined 0 f) at o at o
unfolding joined
put-none f at o = put-nothing at at o refl

-- ---- fields

-- a body after the head that tells its length
pub put-field : (tag n : ℕ) (b : List ℕ) (at : ℕ) (o : List ℕ) (r : ℕ) (p : List ℕ) (s : ℕ) (q : List ℕ) → n ≡ length b
    → Put (tag ∷ byte_of 1 n ∷ byte_of 0 n ∷ []) at o r p → Put b r p s q → Put (field_bytes tag b) at o s q
put-field tag n b at o r p s q e h k =
    subst (λ n. Put (tag ∷ byte_of 1 n ∷ byte_of 0 n ∷ b) at o s q) e
    (put_both (tag ∷ byte_of 1 n ∷ byte_of 0 n ∷ []) b at o r p s q h k)

-- or nothing, after the head of an empty one
pub put-empty : (tag n : ℕ) (b : List ℕ) (at : ℕ) (o : List ℕ) (r : ℕ) (p : List ℕ) → n ≡ length b → n ≡ 0
    → Put (tag ∷ byte_of 1 n ∷ byte_of 0 n ∷ []) at o r p → Put (field_bytes tag b) at o r p
put-empty tag n [] at o r p e z h = put-field tag n [] at o r p r p e h (put-nothing r r p refl)
put-empty tag n (x ∷ b) at o r p e z h = absurd (omega arith)
