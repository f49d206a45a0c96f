-- What a slip is for, as statements about the outcomes of the enquiry and of the commit. Each is proved under its name
-- in proofs/Slips.antt.
use Rattle.std.specs.Prelude.{◌≡◌, ◌↔◌, List, ℕ, ◌≤◌, ℤ, length}
use Rattle.surface.specs.Sheet.{Box}
use Rattle.surface.specs.Support.{active_count}
use Rattle.surface.specs.Table.{levels, slots}
use Rattle.surface.specs.Calls.{refused, gives, insert_outcome, refinement_cause, least_outcome}
use Rattle.surface.specs.Enquiry.{Slip, slip_of, enquiry_outcome, commit_outcome}
use Rattle.surface.specs.Demands.{Commit, Contents, outcome_of, committed}

-- "inserts as before": an enquiry, and a commit of the slip that it gives, are document 01's insertion on every input.
-- A refused enquiry has the insertion's number, and that insertion leaves its outputs as they were lent.
abbrev pub InsertsAsBefore : Type 0
InsertsAsBefore =
    (W H : ℕ) (t : List ℕ) (cs : List ℤ) (box : Box) (n : ℕ) (tree_out : List ℕ) (numbers_out : List ℤ)
    → ((k : ℕ) → enquiry_outcome W H t cs box n ≡ refused k
    → insert_outcome W H t cs box n tree_out numbers_out
    ≡ record { result = refused k; tree = tree_out; numbers = numbers_out })
    × ((s : Slip) → enquiry_outcome W H t cs box n ≡ gives s
    → commit_outcome W H t cs s tree_out numbers_out ≡ insert_outcome W H t cs box n tree_out numbers_out)

-- "19, the slip is not the one that this table gives": past insertion's checks a commit is refused with 19 exactly
-- then, wherever its slip came from and whatever its outputs are.
abbrev pub NineteenTold : Type 0
NineteenTold =
    (W H : ℕ) (t : List ℕ) (cs : List ℤ) (s : Slip) (tree_out : List ℕ) (numbers_out : List ℤ)
    → refinement_cause W H t cs s.box s.level ≡ 0
    → ((commit_outcome W H t cs s tree_out numbers_out).result ≡ refused 19)
    ↔ (s ≡ slip_of W H t s.box s.level → ⊥)

-- A slip is committed to the table that gave it, where the outputs have their lengths; the slip tells how long the tree
-- output must be.
abbrev pub SlipAccepted : Type 0
SlipAccepted =
    (W H : ℕ) (t : List ℕ) (cs : List ℤ) (box : Box) (n : ℕ) (s : Slip) → enquiry_outcome W H t cs box n ≡ gives s
    → (tree_out : List ℕ) (numbers_out : List ℤ) → s.tree_length ≤ length tree_out → length numbers_out ≡ slots W H
    → (commit_outcome W H t cs s tree_out numbers_out).result ≡ gives s.tree_length

-- The price is the one that is paid: what a slip tells is so of the table that its commit leaves, n being the returned
-- length.
pub record Paid (W H : ℕ) (s : Slip) (n : ℕ) (d : Contents) : Type 0 where
  pub returned : n ≡ s.tree_length
  pub tree_length : length d.tree ≡ s.tree_length
  pub active0 : active_count W H (levels d.tree) 0 ≡ s.active0
  pub active1 : active_count W H (levels d.tree) 1 ≡ s.active1
  pub active2 : active_count W H (levels d.tree) 2 ≡ s.active2
  pub active3 : active_count W H (levels d.tree) 3 ≡ s.active3
  pub visited : (l g : ℕ)
      × (least_outcome W H d.tree s.box ≡ gives (record { least = l; greatest = g; visited = s.visited }))

abbrev pub SlipTells : Type 0
SlipTells =
    (W H : ℕ) (c : Contents) (k : Commit) (n : ℕ) → (outcome_of W H c k).result ≡ gives n
    → Paid W H k.slip n (committed W H c k)

-- The table that it leaves gives the same slip again.
abbrev pub SlipStays : Type 0
SlipStays =
    (W H : ℕ) (c : Contents) (k : Commit) (n : ℕ) → (outcome_of W H c k).result ≡ gives n
    → slip_of W H (committed W H c k).tree k.slip.box k.slip.level ≡ k.slip
