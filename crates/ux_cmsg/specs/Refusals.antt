-- What a call answers where its control buffer isn't read, or gives credentials that it may not give.
use Rattle.ux_types.specs.declared.Errno.{Errno}
use Rattle.ux_types.specs.declared.Refusal.{Refusal}
use Rattle.ux_cmsg.specs.declared.reading.ControlError.{ControlError}
use Rattle.ux_cmsg.specs.declared.credentials.CredError.{CredError}

abbrev pub refusal_of : ControlError → Refusal
refusal_of ControlError.Invalid = Refusal.Answer Errno.EINVAL
refusal_of ControlError.NoMemory = Refusal.NoMemory

abbrev pub errno_of : CredError → Errno
errno_of CredError.NotOwn = Errno.EPERM
errno_of CredError.NoProcess = Errno.ESRCH
