-- What contracts see of a description's target.
use Rattle.ux_model.specs.Description.{Target, to_object, to_socket}
use Rattle.ux_description.specs.declared.description.Target as code

abbrev pub target_of : code.Target → Target
target_of (code.TheVariants.Object o) = to_object o
target_of (code.TheVariants.Socket s) = to_socket s
