-- What a call answers where a table gives no number.
use Rattle.ux_types.specs.declared.Errno.{Errno}
use Rattle.ux_types.specs.declared.Refusal.{Refusal}
use Rattle.ux_fdtable.specs.declared.table.InstallError.{InstallError}
use Rattle.ux_fdtable.specs.declared.table.DupError.{DupError}

abbrev pub refusal_of_install : InstallError → Refusal
refusal_of_install InstallError.Full = Refusal.Answer Errno.EMFILE
refusal_of_install InstallError.NoMemory = Refusal.NoMemory

abbrev pub refusal_of_dup : DupError → Refusal
refusal_of_dup DupError.BadNumber = Refusal.Answer Errno.EBADF
refusal_of_dup DupError.NoMemory = Refusal.NoMemory
