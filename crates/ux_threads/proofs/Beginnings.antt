-- What a writer holds after it was to take a trace.
use Rattle.std.proofs.Common.{ℕ, List, [], sym}
use Rattle.std.specs.Prelude.{Option, Result, Ok, Err, OnOk, OnErr}
use Rattle.std.specs.Io.KnownBytes.{Appends}
use Rattle.std.proofs.lemmas.List.{append-nil}
use Rattle.ux_script.specs.Writes.{AppendsBeginning}

-- the whole is a beginning, too
pub begun_either : {X Y : Type 0} (r : Result X Y) (old new : Option (List ℕ)) (text : List ℕ) → OnOk r (Appends old new text) →
    OnErr r (AppendsBeginning old new text) → AppendsBeginning old new text
begun_either (Ok x) old new text whole begun = (text, [], sym (append-nil text), whole)
begun_either (Err e) old new text whole begun = begun
