-- What a slip is for, of the calls `enquire` and `commit` and of the linked ones, from their promises alone. Proved in
-- proofs/Slips.antt.
use Rattle.std.specs.Prelude.{◌≡◌, List, ℕ, ◌≤◌, length, Result}
use Rattle.surface.specs.Table.{slots}
use Rattle.surface.specs.Calls.{gives}
use Rattle.surface.specs.Demands.{Asked, Contents}
use Rattle.surface.specs.Slips.{Paid}
use Rattle.answers.specs.declared.Refusal.{Refusal}
use Rattle.answers.specs.declared.Slip.{Slip}
use Rattle.answers.specs.Answers.{value_answer, enquiry_answer}
use Rattle.answers.specs.Codes.{lent_slip}
use Rattle.demands.specs.Promises.{EnquirePromise, CommitPromise}
use Rattle.demands.specs.LinkedPromises.{KilnEnquirePromise, KilnCommitPromise}
use Rattle.demands.specs.DemandThree.{CommitMade, commit, left_by}
use Rattle.demands.specs.LinkedDemandThree.{LinkedCommit, kiln_commit, left_by_linked}

pub record SlipsOfCalls : Type 0 where
  -- "accepted after a look at its price": the slip that an enquiry of a table answered is taken by a commit to that
  -- table, where the outputs have their lengths, and the returned length is the one that it told
  pub taken : (W H : ℕ) (c : Contents) (e : Asked) (r : Result Slip Refusal) (m : CommitMade)
      → EnquirePromise W H c e r → CommitPromise W H c m.lent m.answer m.tree m.numbers
      → enquiry_answer r ≡ gives m.lent.slip
      → m.lent.slip.tree_length ≤ length m.lent.tree_out → length m.lent.numbers_out ≡ slots W H
      → value_answer m.answer ≡ gives m.lent.slip.tree_length
  -- what a slip tells is so of the table that an accepted commit of it leaves, wherever the slip came from
  pub paid : (W H : ℕ) (c : Contents) (m : CommitMade) (n : ℕ)
      → CommitPromise W H c m.lent m.answer m.tree m.numbers → value_answer m.answer ≡ gives n
      → Paid W H m.lent.slip n (left_by c (commit m))

-- The same of the linked calls, in codes and numbers: the slip that is lent is the enquiry's box and level with the
-- numbers that it left.
pub record SlipsOfLinked : Type 0 where
  pub taken : (W H : ℕ) (c : Contents) (e : Asked) (code length₀ told visited₀ visited : ℕ)
      (active₀ active : List ℕ) (m : LinkedCommit)
      → KilnEnquirePromise W H c e code length₀ told active₀ active visited₀ visited → code ≡ 0
      → KilnCommitPromise W H c m.lent m.code m.tree_length₀ m.tree_length m.tree m.numbers
      → m.lent.slip ≡ lent_slip e.box e.level told active visited
      → told ≤ length m.lent.tree_out → length m.lent.numbers_out ≡ slots W H
      → (m.code ≡ 0) × (m.tree_length ≡ told)
  pub paid : (W H : ℕ) (c : Contents) (m : LinkedCommit)
      → KilnCommitPromise W H c m.lent m.code m.tree_length₀ m.tree_length m.tree m.numbers
      → m.code ≡ 0 → Paid W H m.lent.slip m.tree_length (left_by_linked c (kiln_commit m))
