-- A field that a request lends.
use Rattle.ux_fields.specs.declared.fields.Field.{Field}
use Rattle.ux_fields.specs.Rows.{FieldValue, fd_field, number_field, size_field, space_field, value_field, offset_field, backlog_field, path_field, bytes_field}
use Rattle.ux_fields.specs.Rows.{addr_field, target_field, mode_field, whence_field, type_field, option_field, open_flags_field, counter_flags_field, msg_flags_field, control_field, poll_fds_field, waits_field}

-- the field without the loan
abbrev pub seen : Field → FieldValue
seen (Field.Fd it) = fd_field it
seen (Field.Number it) = number_field it
seen (Field.Size it) = size_field it
seen (Field.Space it) = space_field it
seen (Field.Value it) = value_field it
seen (Field.Offset it) = offset_field it
seen (Field.Backlog it) = backlog_field it
seen (Field.Path it) = path_field it.now
seen (Field.Bytes it) = bytes_field it.now
seen (Field.Addr it) = addr_field it.now
seen (Field.Target it) = target_field it.now
seen (Field.Mode it) = mode_field it
seen (Field.Whence it) = whence_field it
seen (Field.SockType it) = type_field it
seen (Field.SockOpt it) = option_field it
seen (Field.OpenFlags it) = open_flags_field it
seen (Field.CounterFlags semaphore flags) = counter_flags_field (semaphore, flags)
seen (Field.MsgFlags it) = msg_flags_field it
seen (Field.Control it) = control_field it.now
seen (Field.PollFds it) = poll_fds_field it.now
seen (Field.Waits it) = waits_field it
