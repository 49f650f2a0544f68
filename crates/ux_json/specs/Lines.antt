-- What a line of JSON says.
use Rattle.std.specs.Prelude.{◌≡◌, ◌++◌, ◌∷◌, ◌≤◌, [], List, ℕ, Option, Some, None, codes}
use Rattle.serde_json.specs.Data.{Data, null, number, unsigned, depth}
use Rattle.serde_json.specs.Read.{read, max_depth}
use Rattle.ux_model.specs.Types.{Reply}

-- a text that reads as this value, and its line feed; a reader takes values that nest as deep as it allows
abbrev pub IsLineOf : Data → List ℕ → Type 0
IsLineOf d line = (text : List ℕ) × (line ≡ text ++ 10 ∷ []) × (depth d ≤ max_depth → read text ≡ Some d)

-- a number, or null for none
abbrev pub or_null : Option ℕ → Data
or_null None = null
or_null (Some n) = number (unsigned n)

-- the first word that a trace has for a reply
abbrev pub reply_kind : Reply → List ℕ
reply_kind Reply.Ok = codes "ok"
reply_kind (Reply.Fd fd) = codes "fd"
reply_kind (Reply.Fds first second) = codes "fds"
reply_kind (Reply.Count n) = codes "n"
reply_kind (Reply.Bytes bytes) = codes "bytes"
reply_kind (Reply.At offset) = codes "at"
reply_kind (Reply.Received flags count bytes control from) = codes "got"
reply_kind (Reply.Accepted fd addr) = codes "accepted"
reply_kind (Reply.Addr addr) = codes "addr"
reply_kind (Reply.Opt value) = codes "opt"
reply_kind (Reply.Cred cred) = codes "cred"
reply_kind (Reply.Poll flags) = codes "poll"
reply_kind (Reply.Polled found) = codes "polled"
reply_kind (Reply.Child pid) = codes "child"
reply_kind (Reply.Flags flags) = codes "flags"
reply_kind (Reply.Err errno) = codes "err"
