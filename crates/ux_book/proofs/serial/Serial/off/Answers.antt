use Rattle.std.proofs.Common.{refl, ap, sym, subst, ◌∙◌}
use Rattle.ux_model.specs.Types.{Request, Reply}
use Rattle.ux_book.specs.Books.{KeptHistory, processes}
use Rattle.ux_book.specs.Sitting.{Answers, HasShares}
use Rattle.ux_book.proofs.Sitting.{end_shares, as_many, ok_then, either}
use Rattle.ux_book.proofs.serial.Serial.off.Goals as goal

pub invariant_of-self : goal.invariant_of-self
invariant_of-self g c =
    either c.off.result (λ e. end_shares c.self.inside.book c.off.new.self c.self.inside.shares.items c.self.invariant
    (record { k = _; released = _; adds = e.entry }))
    (λ same. subst (λ (b : KeptHistory). HasShares b c.self.inside.shares.items) (sym same) c.self.invariant) c.off.ensures.entry
    c.off.ensures.same

pub returns-clause-made : goal.returns-clause-made
returns-clause-made g c =
    ok_then c.off.result (λ e. subst (λ (b : KeptHistory). Answers b c.off.new.self (record { 0 = 0 }) Request.Off Reply.Ok) c.self.view_is
    (record { k = _; released = _; adds = e.entry })) c.off.ensures.entry

pub returns-clause-many : goal.returns-clause-many
returns-clause-many g c =
    ok_then c.off.result (λ e. as_many c.self.inside.book c.off.new.self (record { 0 = 0 }) Request.Off
    (record { reply = Reply.Ok; answers = record { k = _; released = _; adds = e.entry } }) refl ∙ ap processes c.self.view_is)
    c.off.ensures.entry
