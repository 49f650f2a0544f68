-- What a snapshot of a state lists.
use Rattle.std.specs.Prelude.{ℕ, List, length, map, Option, Some, None, option_map, if◌then◌else◌}
use Rattle.std.specs.List.{range_with_len, filter_map}
use Rattle.ux_model.specs.Places.{place}
use Rattle.ux_model.specs.Message.{Message}
use Rattle.ux_model.specs.Socket.{Socket, peer_of, association_of, pending_ends}
use Rattle.ux_model.specs.Connecting.{listener_of}
use Rattle.ux_model.specs.Object.{View, size_of_body}
use Rattle.ux_model.specs.Description as model
use Rattle.ux_model.specs.Process.{Descriptor, pid_of, fd_of}
use Rattle.ux_model.specs.State.{State, is_live, table_of, description_at}
use Rattle.ux_model.specs.References.{refs}
use Rattle.ux_object.specs.Kind.{kind_of}
use Rattle.ux_holders.specs.Rows.{ProcessRow, MessageRow, SocketRow, TargetRow, to_object, to_socket, DescriptionRow}
use Rattle.ux_holders.specs.declared.rows.NumberRow.{NumberRow}
use Rattle.ux_holders.specs.declared.rows.ObjectRow.{ObjectRow}

-- ---- processes

-- number n of a table, if it is open
abbrev pub number_row : List (Option Descriptor) → ℕ → Option NumberRow
number_row table n = option_map (λ e. record { fd = fd_of n; descriptor = e }) (place table n)

-- the open numbers, rising
unfoldable pub numbers_of : List (Option Descriptor) → List NumberRow
numbers_of table = filter_map (number_row table) (range_with_len 0 (length table))

-- process p, if it lives
abbrev pub process_row : State → ℕ → Option ProcessRow
process_row S p = if is_live S p then Some (record { pid = pid_of p; numbers = numbers_of (table_of S p) }) else None

-- those that live, rising
unfoldable pub processes_of : State → List ProcessRow
processes_of S = filter_map (process_row S) (range_with_len 1 (length S.processes))

-- ---- descriptions

abbrev pub message_row : Message → MessageRow
message_row m = record { tag = m.tag; len = length m.bytes; rights = m.rights; cred = m.cred }

abbrev pub socket_row : Socket → SocketRow
socket_row s = record {
  kind = s.kind;
  name = s.name;
  peer = peer_of s.phase;
  association = association_of s.phase;
  backlog = option_map (λ listener. listener.backlog.limit) (listener_of s.phase);
  pending = pending_ends s.phase;
  messages = map message_row s.queue;
  passcred = s.passcred;
  read_shut = s.read_shut;
  write_shut = s.write_shut;
  reset = s.reset;
}

abbrev pub target_row : model.Target → TargetRow
target_row (model.to_object o) = to_object o
target_row (model.to_socket s) = to_socket (socket_row s)

-- a description with number d, and with its references in the state
abbrev pub row_of : State → ℕ → model.Description → DescriptionRow
row_of S d D = record {
  id = d;
  references = refs S d;
  offset = D.offset;
  mode = D.mode;
  append = D.append;
  nonblock = D.nonblock;
  target = target_row D.target;
}

-- description d, while it is there
abbrev pub description_row : State → ℕ → Option DescriptionRow
description_row S d = option_map (row_of S d) (description_at S d)

-- those that are there, rising
unfoldable pub descriptions_of : State → List DescriptionRow
descriptions_of S = filter_map (description_row S) (range_with_len 0 (length S.descriptions))

-- ---- file objects

-- file object o, while it is open
abbrev pub object_row : State → ℕ → Option ObjectRow
object_row S o = option_map (λ x. record { number = o; kind = kind_of x.body; size = size_of_body x.body }) (place S.objects o)

-- those that are open, rising
unfoldable pub objects_of : State → List ObjectRow
objects_of S = filter_map (object_row S) (range_with_len 0 (length S.objects))
