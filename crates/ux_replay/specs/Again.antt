-- What it means that calls were made again.
use Rattle.std.specs.Prelude.{◌≡◌, ◌+◌, ℕ, Bool, true, false, List, [], ◌∷◌}
use Rattle.ux_model.specs.Types.{Errno, Reply, Entry}
use Rattle.ux_model.specs.State.{State}
use Rattle.ux_model.specs.Delivered.{delivered_by}
use Rattle.ux_model.specs.Step.{Step}
use Rattle.ux_kernel.specs.Calling.{IsCaller}

-- calls that were answered so are left out: a read, a write or an allocation that failed once needn't fail again
abbrev pub is_left_out : Reply → Bool
is_left_out (Reply.Err Errno.EIO) = true
is_left_out (Reply.Err Errno.ENOMEM) = true
is_left_out reply = false

-- the entry's process may make its call as the nth; its reply, the message whose rights it receives and the file objects that it closes are
-- those of the entry; and it leads from the one state to the other
pub record IsMadeAgain (S : State) (n : ℕ) (e : Entry) (T : State) : Type 0 where
  pub caller : IsCaller S e.pid.0 e.request
  pub steps : Step S e.pid.0 n e.request e.reply e.released T
  pub delivers : e.delivered ≡ delivered_by S e.pid.0 e.request e.reply

abbrev pub IsLeftOrMade : Bool → State → ℕ → Entry → State → Type 0
IsLeftOrMade true S n e T = T ≡ S
IsLeftOrMade false S n e T = IsMadeAgain S n e T

-- the entry with this number is left out, or its call was made again
abbrev pub IsAgain : State → ℕ → Entry → State → Type 0
IsAgain S n e T = IsLeftOrMade (is_left_out e.reply) S n e T

-- so is each of these, of which the first has this number, one after another
abbrev pub AreAgain : State → ℕ → List Entry → State → Type 0
AreAgain S n [] T = T ≡ S
AreAgain S n (e ∷ es) T = (U : State) × IsAgain S n e U × AreAgain U (n + 1) es T
