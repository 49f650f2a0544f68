-- Each message with rights that waits was sent by the entry that its tag names.
use Rattle.std.proofs.Common.{◌≡◌, ◌<◌, true, List, [], ◌∷◌, ◌++◌, length, Option, Some, refl, ap, sym, ◌∙◌, subst, ⊎_elim, arith}
use Rattle.std.proofs.Common.{slice_get}
use Rattle.ux_model.specs.Types.{Entry}
use Rattle.ux_model.specs.Places.{place}
use Rattle.ux_model.specs.Message.{Message}
use Rattle.ux_model.specs.Description.{Description}
use Rattle.ux_model.specs.State.{State, table_of}
use Rattle.ux_model.specs.Sending.{descriptions_behind}
use Rattle.ux_model.specs.Boot.{IsBootState}
use Rattle.ux_model.specs.Step.{Step}
use Rattle.ux_model.specs.History.{replay, is_allowed, IsLegal}
use Rattle.ux_model.specs.Giving.{sent_by}
use Rattle.ux_model.specs.Pedigree.{before}
use Rattle.ux_model.specs.PedigreeLaws.{IsSent, MessagesAreSent}
use Rattle.ux_model.proofs.Lists.Induction.{IsKept, kept_throughout, get_pushed, take_pushed}
use Rattle.ux_model.proofs.Steps.Replays.{step_replay}
use Rattle.ux_model.proofs.Lists.ByPlace.{get_below, get_before, take_before}
use Rattle.ux_model.proofs.Tables.Queues.{queue_in, queue_is, Waits, IsNew}
use Rattle.ux_model.proofs.Tables.CallShows.{step_mail}

-- the state is that of the history, and each message with rights was sent
record AllSent (boot : State) (es : List Entry) (S : State) : Type 0 where
  pub reached : S ≡ replay boot es
  pub each : (m : Message) → 0 < length m.rights → Waits S m → IsSent boot es m

sent_before : (boot : State) (es : List Entry) (e : Entry) (m : Message) → IsSent boot es m → IsSent boot (es ++ e ∷ []) m
sent_before boot es e m s =
    let below = get_below es m.tag s.sending s.there in
    record {
      sending = s.sending;
      there = get_before es (e ∷ []) m.tag below ∙ s.there;
      rights = ap (λ (l : List Entry). descriptions_behind (table_of (replay boot l) s.sending.pid.0) (sent_by s.sending.request))
          (take_before es (e ∷ []) m.tag (omega (arith, below))) ∙ s.rights;
    }

sent_now : (boot : State) (es : List Entry) (e : Entry) (m : Message) → IsNew (replay boot es) e.pid.0 (length es) e.request m →
    IsSent boot (es ++ e ∷ []) m
sent_now boot es e m new = record {
  sending = e;
  there = ap (λ k. slice_get (es ++ e ∷ []) k) new.0 ∙ get_pushed es e;
  rights = ap (λ k. descriptions_behind (table_of (before boot (es ++ e ∷ []) k) e.pid.0) (sent_by e.request)) new.0
      ∙ ap (λ (l : List Entry). descriptions_behind (table_of (replay boot l) e.pid.0) (sent_by e.request)) (take_pushed es (e ∷ []))
      ∙ new.1;
}

nothing_waits : (boot : State) (m : Message) → IsBootState boot → Waits boot m → ⊥
nothing_waits boot m boots (d, k, h) =
    let none : slice_get (queue_in (place [] d)) k ≡ Some m =
    sym (ap (λ (ds : List (Option Description)). slice_get (queue_in (place ds d)) k) boots.no_descriptions) ∙ h in
    cc none

sent_kept : (boot : State) → IsKept boot (AllSent boot)
sent_kept boot = record {
  at_boot = λ boots. record { reached = refl; each = λ m rich w. absurd (nothing_waits boot m boots w) };
  by_entry = λ es e S T so_far step may. further es e S T so_far step may;
}
  where
    further : (es : List Entry) (e : Entry) (S T : State) → AllSent boot es S → Step S e.pid.0 (length es) e.request e.reply e.released T →
        is_allowed S e.pid.0 e.k e.request ≡ true →
        AllSent boot (es ++ e ∷ []) T
    further es e S T so_far step may = record {
      reached = step_replay boot T es e (subst
          (λ (R : State). Step R e.pid.0 (length es) e.request e.reply e.released T) so_far.reached step);
      each = λ m rich w. ⊎_elim {C = IsSent boot (es ++ e ∷ []) m} (λ old. sent_before boot es e m (so_far.each m rich old))
          (λ new. sent_now boot es e m (subst (λ (R : State). IsNew R e.pid.0 (length es) e.request m) so_far.reached new))
          (step_mail S T e.pid.0 e.k (length es) e.request e.reply e.released step may m rich w);
    }

pub waiting_was_sent : (boot : State) (es : List Entry) (m : Message) → IsLegal boot es → 0 < length m.rights → Waits (replay boot es) m →
    IsSent boot es m
waiting_was_sent boot es m legal rich w = (kept_throughout boot (AllSent boot) (sent_kept boot) es legal).each m rich w

pub messages_are_sent : MessagesAreSent
messages_are_sent boot es d k s m legal here h rich =
    waiting_was_sent boot es m legal rich (d, k, ap (λ q. slice_get q k) (queue_is (replay boot es) d s here) ∙ h)
