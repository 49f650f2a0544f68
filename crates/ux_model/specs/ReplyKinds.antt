-- Of which kind the reply of a call is: a refusal, or what the call's manual page says that it gives.
use Rattle.std.specs.Prelude.{◌≡◌, ℕ, Bool, true, false, ◌||◌, List}
use Rattle.ux_model.specs.Types.{SockOpt, Request, Reply}
use Rattle.ux_model.specs.State.{State}
use Rattle.ux_model.specs.Step.{Step}

-- ---- kinds

abbrev pub is_done : Reply → Bool
is_done Reply.Ok = true
is_done _ = false

abbrev pub is_fd : Reply → Bool
is_fd (Reply.Fd _) = true
is_fd _ = false

abbrev pub is_fds : Reply → Bool
is_fds (Reply.Fds _ _) = true
is_fds _ = false

abbrev pub is_count : Reply → Bool
is_count (Reply.Count _) = true
is_count _ = false

abbrev pub is_bytes : Reply → Bool
is_bytes (Reply.Bytes _) = true
is_bytes _ = false

abbrev pub is_offset : Reply → Bool
is_offset (Reply.At _) = true
is_offset _ = false

abbrev pub is_message : Reply → Bool
is_message (Reply.Received _ _ _ _ _) = true
is_message _ = false

abbrev pub is_accepted : Reply → Bool
is_accepted (Reply.Accepted _ _) = true
is_accepted _ = false

abbrev pub is_addr : Reply → Bool
is_addr (Reply.Addr _) = true
is_addr _ = false

abbrev pub is_value : Reply → Bool
is_value (Reply.Opt _) = true
is_value _ = false

abbrev pub is_cred : Reply → Bool
is_cred (Reply.Cred _) = true
is_cred _ = false

abbrev pub is_ready : Reply → Bool
is_ready (Reply.Poll _) = true
is_ready _ = false

abbrev pub is_polled : Reply → Bool
is_polled (Reply.Polled _) = true
is_polled _ = false

abbrev pub is_child : Reply → Bool
is_child (Reply.Child _) = true
is_child _ = false

abbrev pub is_flags : Reply → Bool
is_flags (Reply.Flags _) = true
is_flags _ = false

abbrev pub is_refusal : Reply → Bool
is_refusal (Reply.Err _) = true
is_refusal _ = false

-- ---- calls

-- SO_PEERCRED tells credentials, every other option a number
abbrev pub option_kind : SockOpt → Reply → Bool
option_kind SockOpt.PeerCred = is_cred
option_kind _ = is_value

-- what each call gives where it isn't refused
abbrev pub kind_of : Request → Reply → Bool
kind_of (Request.Open path mode flags) = is_fd
kind_of (Request.Create path mode flags) = is_fd
kind_of (Request.MemFd flags) = is_fd
kind_of (Request.EventFd value semaphore flags) = is_fd
kind_of (Request.Pipe flags) = is_fds
kind_of (Request.Read fd n) = is_bytes
kind_of (Request.Write fd bytes) = is_count
kind_of (Request.Lseek fd offset whence) = is_offset
kind_of (Request.Dup fd) = is_fd
kind_of (Request.Dup2 fd to) = is_fd
kind_of (Request.DupFrom fd minimum) = is_fd
kind_of (Request.GetFlags fd) = is_flags
kind_of (Request.SetFlags fd flags) = is_done
kind_of (Request.InQueue fd) = is_count
kind_of (Request.OutQueue fd) = is_count
kind_of (Request.Close fd) = is_done
kind_of (Request.Unlink path) = is_done
kind_of (Request.Socket kind flags) = is_fd
kind_of (Request.SocketPair kind flags) = is_fds
kind_of (Request.Bind fd addr) = is_done
kind_of (Request.Listen fd backlog) = is_done
kind_of (Request.Connect fd addr) = is_done
kind_of (Request.Accept fd flags) = is_accepted
kind_of (Request.Shutdown fd how) = is_done
kind_of (Request.GetOpt fd opt) = option_kind opt
kind_of (Request.SetOpt fd opt value) = is_done
kind_of (Request.GetSockName fd) = is_addr
kind_of (Request.GetPeerName fd) = is_addr
kind_of (Request.SendMsg fd addr bytes control flags) = is_count
kind_of (Request.RecvMsg fd n space flags) = is_message
kind_of (Request.Poll fd) = is_ready
kind_of (Request.PollMany fds waits) = is_polled
kind_of (Request.SetIds uid gid) = is_done
kind_of Request.Fork = is_child
kind_of Request.Exec = is_done
kind_of Request.Exit = is_done
kind_of Request.Off = is_done

-- the reply is a refusal, or of the request's kind
abbrev pub is_reply_to : Request → Reply → Bool
is_reply_to request reply = kind_of request reply || is_refusal reply

-- each step's reply is one to its request
abbrev pub RepliesAreOfTheirKind : Type 0
RepliesAreOfTheirKind = (S T : State) (p tag : ℕ) (request : Request) (reply : Reply) (gone : List ℕ) → Step S p tag request reply gone T →
    is_reply_to request reply ≡ true
