-- Control buffers byte by byte.
use Rattle.std.specs.Prelude.{◌≡◌, [], ◌∷◌, Some, refl}
use Rattle.ux_model.specs.Types.{Cred}
use Rattle.ux_model.specs.Control.{rights_item, item_bytes}
use Rattle.ux_model.specs.Delivery.{control_bytes}

-- rights 3 and 4
two_rights : item_bytes (rights_item (3 ∷ 4 ∷ [])) ≡
    0x18 ∷ 0 ∷ 0 ∷ 0 ∷ 0 ∷ 0 ∷ 0 ∷ 0 ∷ 1 ∷ 0 ∷ 0 ∷ 0 ∷ 1 ∷ 0 ∷ 0 ∷ 0 ∷ 3 ∷ 0 ∷ 0 ∷ 0 ∷ 4 ∷ 0 ∷ 0 ∷ 0 ∷ []
two_rights = refl

some_cred : Cred
some_cred = record { pid = record { 0 = 2 }; uid = 1000; gid = 1000 }

-- credentials (2, 1000, 1000), then rights 3, as a receive writes them
cred_then_rights : control_bytes (Some some_cred) (3 ∷ []) ≡
    0x1c ∷ 0 ∷ 0 ∷ 0 ∷ 0 ∷ 0 ∷ 0 ∷ 0 ∷ 1 ∷ 0 ∷ 0 ∷ 0 ∷ 2 ∷ 0 ∷ 0 ∷ 0 ∷ 2 ∷ 0 ∷ 0 ∷ 0 ∷ 0xe8 ∷ 3 ∷ 0 ∷ 0 ∷ 0xe8 ∷ 3 ∷ 0 ∷ 0 ∷ 0 ∷ 0 ∷ 0 ∷ 0 ∷
    0x14 ∷ 0 ∷ 0 ∷ 0 ∷ 0 ∷ 0 ∷ 0 ∷ 0 ∷ 1 ∷ 0 ∷ 0 ∷ 0 ∷ 1 ∷ 0 ∷ 0 ∷ 0 ∷ 3 ∷ 0 ∷ 0 ∷ 0 ∷ []
unfolding some_cred
cred_then_rights = refl
