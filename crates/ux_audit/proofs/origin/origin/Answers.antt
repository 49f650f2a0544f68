use Rattle.std.proofs.Common.{sym, subst}
use Rattle.ux_model.specs.Giving.{IsReceive, receive}
use Rattle.ux_audit.specs.declared.hands.HoldingOrigin.{HoldingOrigin}
use Rattle.ux_audit.specs.Origins.{IsOrigin}
use Rattle.ux_audit.proofs.Rows.{IfOk_then}
use Rattle.ux_audit.proofs.Originating.{read_entry, never_otherwise, made_there, origin_dup, origin_forked, origin_there, copies_way}
use Rattle.ux_audit.proofs.origin.origin.Goals as goal

pub received-requires-clause-receiving : goal.received-requires-clause-receiving
received-requires-clause-receiving c = subst IsReceive (sym c.in-RecvMsg.is)
    (receive c.in-RecvMsg.fd c.in-RecvMsg.n c.in-RecvMsg.space c.in-RecvMsg.flags)

pub returns-in-RecvMsg-clause-found : goal.returns-in-RecvMsg-clause-found
returns-in-RecvMsg-clause-found c =
    IfOk_then c.received.result c.received.ensures.found
    (λ o h e at. origin_there c.args.entries.now c.args.j c.args.fd.0 c.index-entries-j.result e o c.requires.within c.index-entries-j.is at
    h)

pub returns-in-Fork-clause-found : goal.returns-in-Fork-clause-found
returns-in-Fork-clause-found c = λ e at.
    let f = c.index-entries-j.result in
    origin_there c.args.entries.now c.args.j c.args.fd.0 f e c.own.result c.requires.within c.index-entries-j.is at
    (subst (λ (o : HoldingOrigin). IsOrigin c.args.entries.now c.args.j c.args.fd.0 f o) (sym c.own.ensures)
    (origin_forked c.args.entries.now c.args.j c.args.fd f c.in-Fork.is))

pub returns-in_default : goal.returns-in_default
returns-in_default c = record {
  found = tt;
  none =
      let e = c.index-entries-j.result in
      never_otherwise c.args.entries.now c.args.j c.args.fd.0 e
      (read_entry c.args.entries.now c.args.j e c.requires.within c.index-entries-j.is)
      (record {
        not_open = c.in_default.not-Open;
        not_create = c.in_default.not-Create;
        not_mem_fd = c.in_default.not-MemFd;
        not_event_fd = c.in_default.not-EventFd;
        not_pipe = c.in_default.not-Pipe;
        not_socket = c.in_default.not-Socket;
        not_pair = c.in_default.not-SocketPair;
        not_accept = c.in_default.not-Accept;
        not_dup = c.in_default.not-Dup;
        not_dup2 = c.in_default.not-Dup2;
        not_dup_from = c.in_default.not-DupFrom;
        not_receive = c.in_default.not-RecvMsg;
        not_fork = c.in_default.not-Fork;
      });
}

pub returns-in-Open-clause-found : goal.returns-in-Open-clause-found
returns-in-Open-clause-found c = λ e at.
    made_there c.args.entries.now c.args.j c.args.fd.0 c.index-entries-j.result e c.requires.within c.index-entries-j.is at c.in-Open.is

pub returns-in-Open-2-clause-found : goal.returns-in-Open-2-clause-found
returns-in-Open-2-clause-found c = λ e at.
    made_there c.args.entries.now c.args.j c.args.fd.0 c.index-entries-j.result e c.requires.within c.index-entries-j.is at c.in-Open.is

pub returns-in-Open-3-clause-found : goal.returns-in-Open-3-clause-found
returns-in-Open-3-clause-found c = λ e at.
    made_there c.args.entries.now c.args.j c.args.fd.0 c.index-entries-j.result e c.requires.within c.index-entries-j.is at c.in-Open.is

pub returns-in-Open-4-clause-found : goal.returns-in-Open-4-clause-found
returns-in-Open-4-clause-found c = λ e at.
    made_there c.args.entries.now c.args.j c.args.fd.0 c.index-entries-j.result e c.requires.within c.index-entries-j.is at c.in-Open.is

pub returns-in-Open-5-clause-found : goal.returns-in-Open-5-clause-found
returns-in-Open-5-clause-found c = λ e at.
    made_there c.args.entries.now c.args.j c.args.fd.0 c.index-entries-j.result e c.requires.within c.index-entries-j.is at c.in-Open.is

pub returns-in-Open-6-clause-found : goal.returns-in-Open-6-clause-found
returns-in-Open-6-clause-found c = λ e at.
    made_there c.args.entries.now c.args.j c.args.fd.0 c.index-entries-j.result e c.requires.within c.index-entries-j.is at c.in-Open.is

pub returns-in-Open-7-clause-found : goal.returns-in-Open-7-clause-found
returns-in-Open-7-clause-found c = λ e at.
    made_there c.args.entries.now c.args.j c.args.fd.0 c.index-entries-j.result e c.requires.within c.index-entries-j.is at c.in-Open.is

pub returns-in-Open-8-clause-found : goal.returns-in-Open-8-clause-found
returns-in-Open-8-clause-found c = λ e at.
    made_there c.args.entries.now c.args.j c.args.fd.0 c.index-entries-j.result e c.requires.within c.index-entries-j.is at c.in-Open.is

pub returns-in-Dup-clause-found : goal.returns-in-Dup-clause-found
returns-in-Dup-clause-found c = λ e at.
    let f = c.index-entries-j.result in
    let w = copies_way f.request f.delivered c.in-Dup.source c.in-Dup.is in
    origin_there c.args.entries.now c.args.j c.args.fd.0 f e c.own-in-Dup.result c.requires.within c.index-entries-j.is at
    (subst (λ (o : HoldingOrigin). IsOrigin c.args.entries.now c.args.j c.args.fd.0 f o) (sym c.own-in-Dup.ensures)
    (origin_dup c.args.entries.now c.args.j c.args.fd.0 f c.in-Dup.source w.0 w.1))
