-- Which description each number leads to that an entry gave.
use Rattle.std.specs.Prelude.{◌≡◌, ℕ, Bool, true, ◌==◌, List, Option, Some, option_map}
use Rattle.std.specs.List.{slice_get, list_any}
use Rattle.ux_model.specs.Types.{Fd, Entry}
use Rattle.ux_model.specs.Places.{place}
use Rattle.ux_model.specs.Process.{Descriptor}
use Rattle.ux_model.specs.State.{State, is_live}
use Rattle.ux_model.specs.History.{IsLegal}
use Rattle.ux_model.specs.Giving.{given, description_in, description_of}
use Rattle.ux_model.specs.Pedigree.{before}
use Rattle.ux_session.specs.declared.numbers.Lead.{Lead}

-- this number with the description to which it leads
abbrev pub with_description : Fd → ℕ → Lead
with_description fd d = record { fd = fd; id = d }

-- where a number leads in this table
abbrev pub lead_in : List (Option Descriptor) → Fd → Option Lead
lead_in table fd = option_map (with_description fd) (description_in (place table fd.0))

-- the number is one of these
abbrev pub is_among : List ℕ → ℕ → Bool
is_among numbers n = list_any (λ m. m == n) numbers

-- Each is a number that the call gave, with the description to which it leads in the state, wherever in a legal history the entry stands.
abbrev pub AreOfNumbers : State → Entry → List Lead → Type 0
AreOfNumbers S e leads =
    (boot : State) (entries : List Entry) (j i : ℕ) (l : Lead) → IsLegal boot entries → slice_get entries j ≡ Some e →
    slice_get leads i ≡ Some l →
    (is_among (given (before boot entries j) e.pid.0 e.request e.reply) l.fd.0 ≡ true) × (description_of S e.pid.0 l.fd.0 ≡ Some l.id)

-- Each number that the call gave and that leads to a description in the state is one of these, while its process lives.
abbrev pub HasEachNumber : State → Entry → List Lead → Type 0
HasEachNumber S e leads =
    (boot : State) (entries : List Entry) (j n d : ℕ) → IsLegal boot entries → slice_get entries j ≡ Some e → is_live S e.pid.0 ≡ true →
    is_among (given (before boot entries j) e.pid.0 e.request e.reply) n ≡ true → description_of S e.pid.0 n ≡ Some d →
    (i : ℕ) × (slice_get leads i ≡ Some (record { fd = record { 0 = n }; id = d }))
