-- How many bytes room is made for. No public clause cites this module.
use Rattle.ux_model.specs.Rooms.{Size}
use Rattle.ux_reply_room.specs.declared.room.Sizes as code

abbrev pub size_by : code.Sizes → Size
size_by sizes = record { data_bytes = sizes.data; control = sizes.control; name = sizes.name }
