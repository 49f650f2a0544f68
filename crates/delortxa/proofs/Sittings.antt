-- What a session says of the kernel that it began with.
use Rattle.std.proofs.Common.{◌≡◌, List, subst, sym, ◌∙◌}
use Rattle.ux_model.specs.Types.{Entry}
use Rattle.ux_model.specs.State.{State}
use Rattle.ux_model.specs.History.{IsLegal}

-- a history of a book at this kernel
pub legal_at : (boot began kernel : State) (entries : List Entry) → began ≡ boot → kernel ≡ boot → IsLegal began entries →
    IsLegal kernel entries
legal_at boot began kernel entries begins named legal = subst (λ (S : State). IsLegal S entries) (begins ∙ sym named) legal

-- what a program promises over it
pub promised_at : {T : Type 0} (boot kernel : State) (promise : State → T → Type 0) (output : T) → kernel ≡ boot → promise boot output →
    promise kernel output
promised_at boot kernel promise output named kept = subst (λ (S : State). promise S output) (sym named) kept
