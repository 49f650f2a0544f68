-- What a call answers where no further end can wait.
use Rattle.ux_types.specs.declared.Errno.{Errno}
use Rattle.ux_types.specs.declared.Refusal.{Refusal}
use Rattle.ux_backlog.specs.declared.backlog.PushError.{PushError}

abbrev pub refusal_of : PushError → Refusal
refusal_of PushError.Full = Refusal.Answer Errno.EAGAIN
refusal_of PushError.NoMemory = Refusal.NoMemory
