use Rattle.std.proofs.Common.{Vec, Global, ◌++◌, List, get_or, ap, sym, ◌∙◌}
use Rattle.std.specs.List.{filter_map}
use Rattle.std.specs.Option.{option_to_list}
use Rattle.std.proofs.lemmas.List.{append-nil, take_all}
use Rattle.ux_model.specs.Types.{Fd}
use Rattle.ux_model.specs.Process.{fd_of}
use Rattle.ux_session.specs.declared.numbers.Lead.{Lead}
use Rattle.ux_session.specs.Leading.{lead_in}
use Rattle.ux_session.proofs.Numbered.{lead_of, next_lead, leads_sound, leads_complete}
use Rattle.ux_session.proofs.numbers.leads.Goals.{in-Some+in_ok-push-in-Some, in-None}
use Rattle.ux_session.proofs.numbers.leads.Goals as goal

pub loop-fd-preserved : goal.loop-fd-preserved
loop-fd-preserved g c =
    let xs = c.deref-fd-items.result.now in
    let fd = get_or xs c.loop-fd.fd-index (fd_of 0) in
    let old = c.loop-fd.leads.items in
    let leads = c.lead_of.ensures ∙ ap (λ t. lead_in t fd) c.table-table.ensures in
    next_lead (lead_of c.args.state.now c.args.entry.now.pid.0) xs c.loop-fd.fd-index (fd_of 0) old c.match-lead_of.leads.items
    c.loop-fd-test.true c.loop-fd.invariant
    (elim c.match-lead_of.branch [
      | in-Some+in_ok-push-in-Some w ↦ ap (λ (v : Vec Lead Global). v.items) w.leads-is ∙ w.in_ok-push-in-Some.ensures.items
          ∙ ap (λ x. old ++ option_to_list x) (sym w.in-Some.is ∙ leads)
      | in-None w ↦ ap (λ (v : Vec Lead Global). v.items) w.leads-is ∙ sym (append-nil old)
          ∙ ap (λ x. old ++ option_to_list x) (sym w.in-None.is ∙ leads)
    ])

pub returns-clause-sound : goal.returns-clause-sound
returns-clause-sound g c =
    leads_sound c.args.state.now c.args.entry.now c.in_ok-numbers.numbers.items c.loop-fd.leads.items c.in_ok-numbers.ensures
    (c.loop-fd.invariant ∙ ap (filter_map (lead_of c.args.state.now c.args.entry.now.pid.0))
    (take_all c.loop-fd.fd-index c.deref-fd-items.result.now c.loop-fd-test.false ∙ c.deref-fd-items.ensures.value))

pub returns-clause-complete : goal.returns-clause-complete
returns-clause-complete g c =
    leads_complete c.args.state.now c.args.entry.now c.in_ok-numbers.numbers.items c.loop-fd.leads.items c.in_ok-numbers.ensures
    (c.loop-fd.invariant ∙ ap (filter_map (lead_of c.args.state.now c.args.entry.now.pid.0))
    (take_all c.loop-fd.fd-index c.deref-fd-items.result.now c.loop-fd-test.false ∙ c.deref-fd-items.ensures.value))
