-- The refusal that stands for an error of a move.
use Rattle.ux_model.specs.Types.{Errno, Refusal}
use Rattle.ux_state.specs.declared.new_objects.MakeError.{MakeError}
use Rattle.ux_state.specs.declared.new_objects.MakeError.TheVariants.{Full, TooMany, NoMemory}

abbrev pub refusal_of_make : MakeError → Refusal
refusal_of_make Full = Refusal.Answer Errno.EMFILE
refusal_of_make TooMany = Refusal.Answer Errno.ENFILE
refusal_of_make NoMemory = Refusal.NoMemory
