-- The free choice, on small states: out of memory.
use Rattle.std.specs.Prelude.{◌≡◌, [], ◌∷◌, false, refl, codes}
use Rattle.ux_model.specs.Types.{Errno, Request}
use Rattle.ux_model.specs.State.{State}
use Rattle.ux_model.specs.Outcome.{lacking_memory}
use Rattle.ux_model.specs.Step.{outcome, Step}
use Rattle.ux_model.proofs.Examples.Play.{computing, played, one_process, pair, send, recv, peek, shut, refused}

abbrev paired : State
paired = played one_process 0 ((1, pair) ∷ [])

abbrev holding : State
holding = played paired 1 ((1, send 0 (codes "ab")) ∷ [])

-- a call that grows may lack memory, and then nothing is made, queued or taken
pair_may_lack_memory : Step one_process 1 0 pair (refused Errno.ENOMEM) [] one_process
unfolding computing
pair_may_lack_memory = (_, lacking_memory refl refl refl, refl, refl)

send_may_lack_memory : Step holding 1 2 (send 0 (codes "c")) (refused Errno.ENOMEM) [] holding
unfolding computing
send_may_lack_memory = (_, lacking_memory refl refl refl, refl, refl)

receive_may_lack_memory : Step holding 1 2 (recv 1 8) (refused Errno.ENOMEM) [] holding
unfolding computing
receive_may_lack_memory = (_, lacking_memory refl refl refl, refl, refl)

peek_may_lack_memory : Step holding 1 2 (peek 1 8) (refused Errno.ENOMEM) [] holding
unfolding computing
peek_may_lack_memory = (_, lacking_memory refl refl refl, refl, refl)

-- what takes no memory may not: a close, an exit, a call that moves no byte, an earlier refusal
close_takes_none : (outcome paired 1 1 (shut 0)).may_lack_memory ≡ false
unfolding computing
close_takes_none = refl

exit_takes_none : (outcome paired 1 1 Request.Exit).may_lack_memory ≡ false
unfolding computing
exit_takes_none = refl

empty_send_takes_none : (outcome paired 1 1 (send 0 [])).may_lack_memory ≡ false
unfolding computing
empty_send_takes_none = refl

empty_receive_takes_none : (outcome holding 1 2 (recv 1 0)).may_lack_memory ≡ false
unfolding computing
empty_receive_takes_none = refl

refusal_comes_first : (outcome paired 1 1 (recv 1 8)).may_lack_memory ≡ false
unfolding computing
refusal_comes_first = refl
