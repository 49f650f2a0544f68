-- That nothing dangles, as each change of a call and each release keep it: by counts, where what isn't there counts 0.
use Rattle.std.proofs.Common.{◌≡◌, ℕ, ◌≤◌, true, false, cond, Option, Some, None}
use Rattle.std.specs.Prelude.{is_some, option_map}
use Rattle.std.specs.List.{slice_get}
use Rattle.ux_model.specs.Types.{Name, Addr}
use Rattle.ux_model.specs.Places.{place}
use Rattle.ux_model.specs.Object.{View}
use Rattle.ux_model.specs.Socket.{Socket}
use Rattle.ux_model.specs.Description.{Description, Target, socket_of}
use Rattle.ux_model.specs.State.{State, description_at}
use Rattle.ux_model.specs.References.{refs, orefs}
use Rattle.ux_model.specs.Peers.{Paired, at_socket}
use Rattle.ux_model.specs.Invariants.{pends_at_all}

-- 1 for a socket that no accept has taken
abbrev pub unaccepted : Socket → ℕ
unaccepted s = cond s.accepted 0 1

-- the name of the socket that is there
abbrev pub target_name : Target → Option Addr
target_name t = option_map (λ s. Socket.name s) (socket_of t)

abbrev pub name_in : Option Description → Option Addr
name_in None = None
name_in (Some D) = target_name D.target

-- whatever is named is there, and open: what isn't there has no references
pub record IsHeld (S : State) : Type 0 where
  pub no_description_dangles : (d : ℕ) → is_some (description_at S d) ≡ false → refs S d ≡ 0
  pub no_object_dangles : (o : ℕ) → is_some (place S.objects o) ≡ false → orefs S o ≡ 0
  pub all_open : (o : ℕ) (view : View) → place S.objects o ≡ Some view → view.opened ≡ true
  -- an end waits once at most, and only if no accept has taken it
  pub ends_wait : (d : ℕ) → pends_at_all d S.descriptions ≤ at_socket unaccepted (description_at S d)
  pub names_owned : (i : ℕ) (e : Name × ℕ) → slice_get S.abstract_names i ≡ Some e →
      name_in (description_at S e.1) ≡ Some (Addr.Abstract e.0)

-- and connections are mutual
pub record IsSound (S : State) : Type 0 where
  pub held : IsHeld S
  pub paired : Paired S.descriptions
