-- Which credentials a sender may give (unix(7), SCM_CREDENTIALS).
use Rattle.std.specs.Prelude.{Bool, Option, Some, None, if◌then◌else◌}
use Rattle.ux_model.specs.Types.{Errno, Cred}
use Rattle.ux_model.specs.Message.{same_cred}

-- Why a sender with these credentials of its own may not give those: a privileged one may name any process that lives, another only itself.
abbrev pub cred_refusal : Bool → Cred → Bool → Cred → Option Errno
cred_refusal privileged own lives cred =
    if privileged then (if lives then None else Some Errno.ESRCH) else
    if same_cred cred own then None else Some Errno.EPERM
