-- What one more call adds to what was gathered, and what holds of it throughout a legal history.
use Rattle.std.proofs.Common.{◌≡◌, ℕ, ◌+◌, List, [], ◌∷◌, ◌++◌, length, ap, sym, ◌∙◌, arith}
use Rattle.std.proofs.lemmas.List.{append-nil, append_assoc}
use Rattle.ux_model.specs.Types.{Entry}
use Rattle.ux_model.specs.State.{State}
use Rattle.ux_model.specs.Step.{after}
use Rattle.ux_model.specs.History.{replay_from, replay}
use Rattle.ux_laws.specs.Gathering.{gather_from, gathered}

gather_push : {X : Type 0} (does : ℕ → State → Entry → List X) (n : ℕ) (S : State) (es : List Entry) (e : Entry) →
    gather_from does n S (es ++ e ∷ []) ≡ gather_from does n S es ++ does (n + length es) (replay_from n S es) e
gather_push does n S [] e = append-nil (does n S e) ∙ ap (λ m. does m S e) (omega arith)
gather_push does n S (x ∷ es) e =
    let T : State = after S x.pid.0 n x.request x.reply in
    ap (λ l. does n S x ++ l) (gather_push does (n + 1) T es e)
    ∙ sym (append_assoc (does n S x) (gather_from does (n + 1) T es) (does (n + 1 + length es) (replay_from (n + 1) T es) e))
    ∙ ap (λ m. does n S x ++ gather_from does (n + 1) T es ++ does m (replay_from (n + 1) T es) e) (omega arith)

pub gathered_push : {X : Type 0} (does : ℕ → State → Entry → List X) (boot : State) (es : List Entry) (e : Entry) →
    gathered does boot (es ++ e ∷ []) ≡ gathered does boot es ++ does (length es) (replay boot es) e
gathered_push does boot es e = gather_push does 0 boot es e ∙ ap (λ m. gathered does boot es ++ does m (replay boot es) e) (omega arith)
