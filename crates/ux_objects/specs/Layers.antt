-- What contracts see of a file object of a layer.
use Rattle.ux_model.specs.Object.{View}
use Rattle.ux_objects.specs.declared.layer_file.LayerFile.{LayerFile}
use Rattle.ux_objects.specs.declared.layer_file.LayerFile.TheVariants.{Given, Made}
use Rattle.ux_objects.specs.Failing.{plain_view}

-- that of the object inside, where the view of one that the layer was given is this
abbrev pub layer_view : {O : Type 0} → (O → View) → LayerFile O → View
layer_view view (Given object) = view object
layer_view view (Made object) = plain_view object
