-- What a call answers where a name isn't bound.
use Rattle.ux_types.specs.declared.Errno.{Errno}
use Rattle.ux_types.specs.declared.Refusal.{Refusal}
use Rattle.ux_names.specs.declared.refusals.BindError.{BindError}
use Rattle.ux_names.specs.declared.refusals.AutobindError.{AutobindError}

abbrev pub refusal_of_bind : BindError → Refusal
refusal_of_bind BindError.Taken = Refusal.Answer Errno.EADDRINUSE
refusal_of_bind BindError.NoMemory = Refusal.NoMemory

abbrev pub refusal_of_autobind : AutobindError → Refusal
refusal_of_autobind AutobindError.NoneFree = Refusal.Answer Errno.ENOSPC
refusal_of_autobind AutobindError.NoMemory = Refusal.NoMemory
