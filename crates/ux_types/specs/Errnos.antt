-- What the errors of calls are in words.
use Rattle.std.specs.Prelude.{ℕ, List, codes}
use Rattle.ux_types.specs.declared.refusal.Errno.{Errno}

-- the words of errno(3), without the name
abbrev pub errno_words : Errno → List ℕ
errno_words Errno.EPERM = codes "operation not permitted"
errno_words Errno.ENOENT = codes "no such file or directory"
errno_words Errno.ESRCH = codes "no such process"
errno_words Errno.EIO = codes "input or output error"
errno_words Errno.EBADF = codes "bad file descriptor"
errno_words Errno.EAGAIN = codes "resource temporarily unavailable"
errno_words Errno.ENOMEM = codes "not enough space"
errno_words Errno.EINVAL = codes "invalid argument"
errno_words Errno.EMFILE = codes "too many open files"
errno_words Errno.EFBIG = codes "file too large"
errno_words Errno.ENOSPC = codes "no space left on device"
errno_words Errno.ESPIPE = codes "invalid seek"
errno_words Errno.EPIPE = codes "broken pipe"
errno_words Errno.ENOTSOCK = codes "not a socket"
errno_words Errno.EDESTADDRREQ = codes "destination address required"
errno_words Errno.EMSGSIZE = codes "message too long"
errno_words Errno.EPROTOTYPE = codes "protocol wrong type for socket"
errno_words Errno.EOPNOTSUPP = codes "operation not supported on socket"
errno_words Errno.EADDRINUSE = codes "address already in use"
errno_words Errno.ECONNRESET = codes "connection reset"
errno_words Errno.EISCONN = codes "socket is connected"
errno_words Errno.ENOTCONN = codes "socket is not connected"
errno_words Errno.ETOOMANYREFS = codes "too many references: cannot splice"
errno_words Errno.ECONNREFUSED = codes "connection refused"
errno_words Errno.ENFILE = codes "too many open files in system"
errno_words Errno.EEXIST = codes "file exists"
errno_words Errno.ENOTTY = codes "inappropriate I/O control operation"
