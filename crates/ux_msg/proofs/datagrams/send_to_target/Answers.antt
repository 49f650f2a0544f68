use Rattle.std.proofs.Common.{rules}
use Rattle.ux_msg.proofs.datagrams.send_to_target.Goals as goal

pub returns : goal.returns
returns g c = search rules

pub returns-in_err-count : goal.returns-in_err-count
returns-in_err-count g c = search rules

pub returns-in_err-name : goal.returns-in_err-name
returns-in_err-name g c = search rules

pub returns-then-not-has_room : goal.returns-then-not-has_room
returns-then-not-has_room g c = search rules

pub returns-then-is_over_limit : goal.returns-then-is_over_limit
returns-then-is_over_limit g c = search rules

pub send-requires-clause-held : goal.send-requires-clause-held
send-requires-clause-held g c = search rules

pub send-requires-clause-some : goal.send-requires-clause-some
send-requires-clause-some g c = search rules

pub send-requires-clause-socket : goal.send-requires-clause-socket
send-requires-clause-socket g c = search rules

pub returns-then-is_empty : goal.returns-then-is_empty
returns-then-is_empty g c = search rules

pub returns-then-is_read_shut : goal.returns-then-is_read_shut
returns-then-is_read_shut g c = search rules

pub returns-then-not-takes_from : goal.returns-then-not-takes_from
returns-then-not-takes_from g c = search rules
