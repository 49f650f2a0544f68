-- What a call answers where a message can't be queued.
use Rattle.ux_types.specs.declared.Errno.{Errno}
use Rattle.ux_types.specs.declared.Refusal.{Refusal}
use Rattle.ux_rights.specs.declared.refusals.SendError.{SendError}

abbrev pub refusal_of : SendError → Refusal
refusal_of SendError.Full = Refusal.Answer Errno.EAGAIN
refusal_of SendError.NoMemory = Refusal.NoMemory
