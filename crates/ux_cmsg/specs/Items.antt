-- What contracts see of an item of the code, and the head of one.
use Rattle.std.specs.Prelude.{ℕ, List, ◌++◌}
use Rattle.std.specs.Int.{w32, w64, to_le_bytes}
use Rattle.ux_model.specs.Control as model
use Rattle.ux_model.specs.ControlReading.{numbers_in}
use Rattle.ux_cmsg.specs.declared.item.Item.{Item}

-- the item of the code, its numbers read
abbrev pub item_view : Item → model.Item
item_view (Item.Rights payload) = model.rights_item (numbers_in payload.now)
item_view (Item.Cred cred) = model.cred_item cred

-- the head of an item of this length and type
abbrev pub head_bytes : ℕ → ℕ → List ℕ
head_bytes len kind = to_le_bytes w64 len ++ to_le_bytes w32 1 ++ to_le_bytes w32 kind
