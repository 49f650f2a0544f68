-- What the entries of a legal history report is what their calls did.
use Rattle.std.proofs.Common.{◌≡◌, ℕ, suc, ◌≤◌, ◌==◌, ◌&&◌, ◌||◌, List, length, take, Some, refl, ap, subst}
use Rattle.std.specs.List.{slice_get, list_any}
use Rattle.ux_model.specs.Types.{Request, Entry}
use Rattle.ux_model.specs.Limits.{table_limit}
use Rattle.ux_model.specs.State.{State, table_of}
use Rattle.ux_model.specs.Step.{Step}
use Rattle.ux_model.specs.History.{makes, IsLegal}
use Rattle.ux_model.specs.Giving.{given, gives}
use Rattle.ux_model.specs.Pedigree.{before, delivered}
use Rattle.ux_model.proofs.Lists.Fronts.{front_is_legal}
use Rattle.ux_model.proofs.Invariants.SmallTables.{tables_stay_small}
use Rattle.ux_model.proofs.Pedigrees.Moments.{moment}
use Rattle.ux_model.proofs.Pedigrees.Passing.{receive_chosen}
use Rattle.ux_audit.specs.Shown.{shown, gave}
use Rattle.ux_audit.proofs.Controls.{chosen_reads}

-- the numbers that it gave
pub shown_given : (boot : State) (es : List Entry) (j : ℕ) (e : Entry) → IsLegal boot es → slice_get es j ≡ Some e →
    shown e.request e.reply ≡ given (before boot es j) e.pid.0 e.request e.reply
shown_given boot es j e legal at = go e.request refl
  where
    small : length (table_of (before boot es j) e.pid.0) ≤ table_limit
    small = tables_stay_small boot (take j es) e.pid.0 (front_is_legal boot es j legal)

    steps : Step (before boot es j) e.pid.0 j e.request e.reply e.released (before boot es (suc j))
    steps = (moment boot es j e legal at).steps

    go : (r : Request) → e.request ≡ r → shown r e.reply ≡ given (before boot es j) e.pid.0 r e.reply
    go (Request.RecvMsg fd n space flags) same =
        let S : State = before boot es j in
        let T : State = before boot es (suc j) in
        let step : Step S e.pid.0 j (Request.RecvMsg fd n space flags) e.reply e.released T =
        subst (λ (x : Request). Step S e.pid.0 j x e.reply e.released T) same steps in
        let chosen = receive_chosen S T e.pid.0 j n space fd flags e.reply e.released step in
        chosen_reads S chosen.0 e.pid.0 n space fd flags e.reply small chosen.1
    go r same = refl

pub gave_gives : (boot : State) (es : List Entry) (j p n : ℕ) (e : Entry) → IsLegal boot es → slice_get es j ≡ Some e →
    gave e p n ≡ gives (before boot es j) e p n
gave_gives boot es j p n e legal at = ap
    (λ l. makes p e.request e.reply || ((e.pid.0 == p) && list_any (λ m. m == n) l)) (shown_given boot es j e legal at)

-- the message that its rights were of
pub reported_delivered : (boot : State) (es : List Entry) (j : ℕ) (e : Entry) → IsLegal boot es → slice_get es j ≡ Some e →
    e.delivered ≡ delivered (before boot es j) e
reported_delivered boot es j e legal at = (legal.each j e at).delivers
