-- What contracts see of any object that a program boots with.
use Rattle.std.specs.Prelude.{ℕ}
use Rattle.ux_model.specs.Object.{View}
use Rattle.ux_objects.specs.Failing.{plain_view}
use Rattle.delortxa.specs.declared.objects.AnyObject.{AnyObject}

abbrev pub any_view : AnyObject → View
any_view (AnyObject.Plain plain) = plain_view plain
any_view (AnyObject.Failing failing) = failing.seen

-- the reads and writes up to the one that fails, that one counted, or 0
abbrev pub calls_left : AnyObject → ℕ
calls_left (AnyObject.Plain plain) = 0
calls_left (AnyObject.Failing failing) = failing.left
