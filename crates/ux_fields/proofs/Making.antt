-- A call and its word with its fields.
use Rattle.std.proofs.Common.{refl}
use Rattle.ux_types.specs.declared.Request.{Request}
use Rattle.ux_fields.specs.declared.call_word.CallWord.{CallWord}
use Rattle.ux_fields.specs.Rows.{CallsAreMadeAgain, FieldsAreKept}

-- the last line stands for each other call
pub made_again : CallsAreMadeAgain
made_again Request.Off = refl
made_again r = refl

pub kept : FieldsAreKept
kept CallWord.Off row = (refl, refl)
kept word row = (refl, refl)
