use Rattle.std.proofs.Common.{map, ap, ◌∙◌}
use Rattle.serde_json.specs.View.{members_view}
use Rattle.serde_json.proofs.Views.{view-Object}
use Rattle.ux_fields.specs.Forms.{form}
use Rattle.ux_fields.specs.Seen.{seen}
use Rattle.ux_json.proofs.Members.{descriptor_found, name_of, named, added_are}
use Rattle.ux_json.proofs.arguments.arguments_value.Goals as goal

pub returns-clause-members : goal.returns-clause-members
returns-clause-members c =
    let names = named c.form_of-forms.result.now ∙ ap (map name_of) (c.form_of-forms.ensures ∙ ap form c.of.ensures) in
    let fields = ap (map seen) c.as_slice.ensures ∙ c.fields_of-fields.ensures in (
      members_view c.add_fields.new.members.entries,
      view-Object c.add_fields.new.members,
      added_are _ _ _ _ _ _ names fields (ap members_view c.new-members.ensures.empty) c.in_ok-add_fields.ensures,
    )

pub returns-clause-descriptor : goal.returns-clause-descriptor
returns-clause-descriptor c = descriptor_found c.args.request.now _ (returns-clause-members c)
