-- What becomes of what a session is asked for.
use Rattle.std.specs.Prelude.{◌≡◌, ℕ, false, List, [], ◌∷◌, ◌++◌, map, Option, Some}
use Rattle.ux_model.specs.Types.{Pid, Request, Reply}
use Rattle.ux_model.specs.Waiting.{should_wait}
use Rattle.ux_book.specs.Books.{KeptHistory, state_of}
use Rattle.ux_book.specs.Sitting.{Answers}
use Rattle.ux_session.specs.declared.pending.Pending.{Pending}
use Rattle.ux_session.specs.Sessions.{Sessioned, left_by, IsHeld}
use Rattle.ux_session.specs.Going.{Desk, desk, Wakes}

-- The call is the next entry, pending calls of a process whose exit it is are dropped, and then pending calls go on. It answers the pending
-- call with this number, or none.
pub record Makes (old new : Sessioned) (pid : Pid) (request : Request) (first : Option ℕ) (answered : List (Option ℕ)) : Type 0 where
  pub reply : Reply
  pub next : KeptHistory
  pub answers : Answers old.book next pid request reply
  pub numbers : List ℕ
  pub told : answered ≡ first ∷ map (λ n. Some n) numbers
  pub wakes : Wakes old.asked (desk next (left_by pid request old.pending)) numbers (desk new.book new.pending)
  pub order : new.asked ≡ old.asked

-- What becomes of a call that is made as soon as it needn't wait.
pub data Pends (old new : Sessioned) (call : Pending) (answered : List (Option ℕ)) : Type 0 where
  -- it needn't wait, and is made
  at_once : (made : Makes old new call.pid call.request (Some call.number) answered) →
      should_wait (state_of old.book) call.pid.0 call.request made.reply ≡ false → Pends old new call answered
  -- it has to wait: it is pending from now on, and nothing else has changed
  later : IsHeld old.book call → answered ≡ [] → new ≡ record old { pending = old.pending ++ call ∷ [] } → Pends old new call answered
