-- What contracts see of what a description leads to.
use Rattle.ux_holders.specs.Rows.{TargetRow, to_object, to_socket}
use Rattle.ux_holders.specs.declared.rows.TargetRow as code

abbrev pub target_of : code.TargetRow → TargetRow
target_of (code.TheVariants.Object o) = to_object o
target_of (code.TheVariants.Socket s) = to_socket s
