-- What contracts see of a path's target.
use Rattle.ux_model.specs.Names.{PathTarget, file, bound}
use Rattle.ux_names.specs.declared.paths.PathTarget as code

abbrev pub target_of : code.PathTarget → PathTarget
target_of (code.TheVariants.File object) = file object
target_of (code.TheVariants.Socket d) = bound d
