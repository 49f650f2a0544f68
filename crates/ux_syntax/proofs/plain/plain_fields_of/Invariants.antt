use Rattle.std.proofs.Common.{◌≡◌, ◌++◌, drop}
use Rattle.ux_syntax.specs.Text.{plain_fields}
use Rattle.ux_syntax.proofs.plain.plain_fields_of.Given as goal

abbrev pub invariant-loop-field : goal.invariant-loop-field
invariant-loop-field l = l.plain.items ++ plain_fields (drop l.field-index l.fields) l.rest ≡ plain_fields l.fields l.text
