use Rattle.std.proofs.Common.{◌≡◌, true, Some, sym, ◌∙◌, subst, rules}
use Rattle.std.specs.Prelude.{IsSomeAnd}
use Rattle.std.proofs.lemmas.Result.{err_from_is_err_and}
use Rattle.ux_model.specs.State.{process_at, table_of}
use Rattle.ux_model.specs.Outcome.{Outcome}
use Rattle.ux_model.specs.Sending.{sending, descriptions_behind, is_sendable_control}
use Rattle.ux_msg.specs.Answers.{GivesRefusal}
use Rattle.ux_msg.specs.Sendings.{IsRefusedBehind}
use Rattle.ux_msg.proofs.Passing.{AreTold, on_live, refused_behind, behind_referenced, told, sent_behind}
use Rattle.ux_msg.proofs.sending.send_with.Goals as goal

pub returns-in_err-rights : goal.returns-in_err-rights
returns-in_err-rights g c =
    let sendable : is_sendable_control c.in-Some.socket.now.kind c.args.message.bytes.now c.args.control.now ≡ true = search rules in
    let refused : IsRefusedBehind (table_of c.args.state.now c.args.pid.0) c.args.control.now.rights c.in_err-rights.field-0.0 =
    subst (λ t. IsRefusedBehind t c.args.control.now.rights c.in_err-rights.field-0.0) c.table.ensures
    (subst (λ ns. IsRefusedBehind c.table.result.now ns c.in_err-rights.field-0.0) c.rights.ensures c.in_err-rights.ensures.unsent) in
    let p = err_from_is_err_and c.from_residual.result c.from_residual.ensures.1 in
    rw (p.1, p.2) (on_live c.args.state.now c.args.pid.0 _
    (λ (o : Outcome). GivesRefusal c.args.state.now o c.in_err-rights.field-0.0 c.args.state.now) c.requires.live (λ P.
    refused_behind c.args.state.now (sending c.args.tag c.args.pid.0 P _ c.args.message.bytes.now) c.args.id c.in-Some.socket.now
    c.args.message.control.now c.args.control.now c.in_err-rights.field-0.0 c.requires.read (search rules) sendable refused))

pub send_from-requires : goal.send_from-requires
send_from-requires g c =
    behind_referenced c.args.state.now c.args.pid.0 c.args.control.now.rights c.in_ok-rights.rights
    (sym (λ j. descriptions_behind (c.table.ensures j) (c.rights.ensures j)) ∙ c.in_ok-rights.ensures.rights)

pub returns : goal.returns
returns g c =
    let sendable : is_sendable_control c.in-Some.socket.now.kind c.args.message.bytes.now c.args.control.now ≡ true = search rules in
    let behind : descriptions_behind (table_of c.args.state.now c.args.pid.0) c.args.control.now.rights ≡ Some c.in_ok-rights.rights =
    sym (λ j. descriptions_behind (c.table.ensures j) (c.rights.ensures j)) ∙ c.in_ok-rights.ensures.rights in
    let told_there : IsSomeAnd (process_at c.args.state.now c.args.pid.0)
    (AreTold c.args.state.now c.args.pid.0 c.args.control.now.cred c.in_ok-cred.cred c.credentials.result.uid c.flight_limit-limit.result) =
    subst (λ given. IsSomeAnd (process_at c.args.state.now c.args.pid.0)
    (AreTold c.args.state.now c.args.pid.0 given c.in_ok-cred.cred c.credentials.result.uid c.flight_limit-limit.result)) c.cred.ensures
    (told c.args.state.now c.args.pid.0 c.cred.result c.in_ok-cred.cred c.credentials.result c.flight_limit-limit.result
    c.in_ok-cred.ensures c.credentials.ensures c.flight_limit-limit.ensures) in
    sent_behind c.args.state.now c.send_from.new.state c.args.pid.0 c.args.tag c.args.id c.in-Some.socket.now c.in_ok-cred.cred
    c.credentials.result.uid c.flight_limit-limit.result _ c.args.message.bytes.now c.args.message.control.now c.in_ok-rights.rights
    c.args.control.now c.send_from.result
    (search rules) sendable behind (search rules) told_there c.send_from.ensures
