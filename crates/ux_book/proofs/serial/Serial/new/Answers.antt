use Rattle.std.proofs.Common.{◌∷◌, List, map, Some, None, ap, ◌∙◌}
use Rattle.ux_book.specs.Pasts.{Caller}
use Rattle.ux_book.proofs.Sitting.{first_shares}
use Rattle.ux_book.proofs.serial.Serial.new.Goals as goal

pub invariant_of-result : goal.invariant_of-result
invariant_of-result g c =
    first_shares c.in-Ok.book c.args.kernel c.in-Ok-by_number.shares.items c.requires.boots c.in-Ok.ensures.book
    (c.in-Ok-by_number.ensures ∙ ap (λ (cs : List Caller). None ∷ map (λ (x : Caller). Some x) cs) c.in-Ok.ensures.shares)
