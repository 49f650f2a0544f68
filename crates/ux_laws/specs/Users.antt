-- Nobody gains privileges, or other ids without them (setresuid(2), setresgid(2), capabilities(7), fork(2)).
use Rattle.std.specs.Prelude.{◌≡◌, ℕ, suc, ◌≤◌, true, false, List, length, Some}
use Rattle.std.specs.List.{slice_get}
use Rattle.ux_model.specs.Types.{Entry}
use Rattle.ux_model.specs.Process.{Process}
use Rattle.ux_model.specs.State.{State, process_at}
use Rattle.ux_model.specs.History.{makes, IsLegal}
use Rattle.ux_model.specs.Pedigree.{before}

-- of a process before and after: it has the same ids, and no privileges
pub record StaysUnprivileged (P Q : Process) : Type 0 where
  pub user : Q.uid ≡ P.uid
  pub group : Q.gid ≡ P.gid
  pub unprivileged : Q.privileged ≡ false

-- A process without privileges keeps its user and its group, and gets none.
abbrev pub UnprivilegedStaySo : Type 0
UnprivilegedStaySo = (boot : State) (entries : List Entry) (j k p : ℕ) (P Q : Process) → IsLegal boot entries → j ≤ k → k ≤ length entries →
    process_at (before boot entries j) p ≡ Some P → P.privileged ≡ false → process_at (before boot entries k) p ≡ Some Q →
    StaysUnprivileged P Q

-- A child is of its parent's user and group, and as privileged as that.
abbrev pub ChildrenAreOfTheirParents : Type 0
ChildrenAreOfTheirParents = (boot : State) (entries : List Entry) (j q : ℕ) (e : Entry) (P Q : Process) → IsLegal boot entries →
    slice_get entries j ≡ Some e → makes q e.request e.reply ≡ true → process_at (before boot entries j) e.pid.0 ≡ Some P →
    process_at (before boot entries (suc j)) q ≡ Some Q → (Q.uid ≡ P.uid) × (Q.gid ≡ P.gid) × (Q.privileged ≡ P.privileged)
