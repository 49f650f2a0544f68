-- A history leads to one state.
use Rattle.std.proofs.Common.{◌≡◌, ℕ, ◌+◌, false, if◌then◌else◌, List, [], ◌∷◌, ◌++◌, length, refl, ap, sym, ◌∙◌, subst, arith}
use Rattle.std.proofs.lemmas.Bool.{or_parts}
use Rattle.ux_model.specs.Types.{Request, Reply, Entry}
use Rattle.ux_model.specs.State.{State}
use Rattle.ux_model.specs.Release.{settled}
use Rattle.std.specs.Prelude.{unwrap_or}
use Rattle.ux_model.specs.Outcome.{Outcome, Chosen, own, lacking_memory, failing}
use Rattle.ux_model.specs.Step.{Step, outcome, lacks_memory, fails, unsettled, after}
use Rattle.ux_model.specs.History.{replay_from, replay, start, further, LeadsToOne}
use Rattle.ux_model.proofs.Steps.Calls.{each_obeys}

-- the reply shows which choice was made
chosen_is : (S T : State) (o : Outcome) (reply : Reply) → lacks_memory o.reply ≡ false → fails o.reply ≡ false → Chosen S o reply T →
    T ≡ unsettled S o reply
chosen_is S T o reply m f (own e g) =
    g ∙ sym (λ j. if m j then S else (if f j then unwrap_or o.failure S else o.next)) ∙ sym (ap (unsettled S o) e)
chosen_is S T o reply m f (lacking_memory e may g) = g ∙ sym (ap (unsettled S o) e)
chosen_is S T o reply m f (failing e g) = sym (ap (λ x. unwrap_or x S) g) ∙ sym (ap (unsettled S o) e)

pub step_after : (S T : State) (p tag : ℕ) (request : Request) (reply : Reply) (gone : List ℕ) → Step S p tag request reply gone T →
    T ≡ after S p tag request reply
unfolding Step after
step_after S T p tag request reply gone s =
    let told = or_parts (lacks_memory (outcome S p tag request).reply) (fails (outcome S p tag request).reply)
    (each_obeys S p tag request).own_reply in
    s.3 ∙ ap settled (chosen_is S s.0 (outcome S p tag request) reply told.0 told.1 s.1)

pub replay_push : (n : ℕ) (S : State) (es : List Entry) (e : Entry)
    → replay_from n S (es ++ e ∷ []) ≡ after (replay_from n S es) e.pid.0 (n + length es) e.request e.reply
replay_push n S [] e = ap (λ m. after S e.pid.0 m e.request e.reply) (omega arith)
replay_push n S (x ∷ es) e =
    replay_push (n + 1) (after S x.pid.0 n x.request x.reply) es e
    ∙ ap (λ m. after (replay_from (n + 1) (after S x.pid.0 n x.request x.reply) es) e.pid.0 m e.request e.reply) (omega arith)

-- a step from the end of a history leads to the end of the longer one
pub step_replay : (boot T : State) (es : List Entry) (e : Entry) →
    Step (replay boot es) e.pid.0 (length es) e.request e.reply e.released T → T ≡ replay boot (es ++ e ∷ [])
step_replay boot T es e s =
    let same : 0 + length es ≡ length es = omega arith in
    step_after (replay boot es) T e.pid.0 (length es) e.request e.reply e.released s
    ∙ ap (λ n. after (replay boot es) e.pid.0 n e.request e.reply) (sym same)
    ∙ sym (replay_push 0 boot es e)

pub leads_to_one : LeadsToOne
leads_to_one boot entries T start = refl
leads_to_one boot entries T (further {entries = es} {S = S} e U leads step) =
    step_replay boot U es e (subst (λ (R : State). Step R e.pid.0 (length es) e.request e.reply e.released U) (leads_to_one boot es S leads)
    step)
