-- A worked example, evaluated: a listener is bound, and so is the server's end that a connect makes; the client has no name.
use Rattle.std.specs.Prelude.{◌≡◌, ℕ, List, [], ◌∷◌, Option, Some, refl, codes, pos}
use Rattle.ux_model.specs.Types.{Addr, SockType, Request, Entry}
use Rattle.ux_model.specs.Names.{bound, named}
use Rattle.ux_model.specs.Binding.{bind}
use Rattle.ux_model.specs.Connecting.{make_socket, listen, connect}
use Rattle.ux_model.specs.State.{State, description_at}
use Rattle.ux_model.specs.History.{replay}
use Rattle.ux_laws.proofs.Near.Single.{name_in}
use Rattle.ux_laws.proofs.Play.{computing, made, one_process, fd}

abbrev path : Addr
path = Addr.Path (codes "/s")

abbrev calls : List Entry
calls = made one_process 0 (
    (1, Request.Socket SockType.Stream (record { 0 = 0 })) ∷
    (1, Request.Bind (fd 0) path) ∷
    (1, Request.Listen (fd 0) (pos 1)) ∷
    (1, Request.Socket SockType.Stream (record { 0 = 0 })) ∷
    (1, Request.Connect (fd 1) path) ∷ [])

abbrev left : State
left = replay one_process calls

the_path_leads_to_the_listener : named (codes "/s") left.paths ≡ Some (bound 0)
unfolding computing bind make_socket listen connect
the_path_leads_to_the_listener = refl

abbrev name_at : (d : ℕ) → Option Addr
name_at d = name_in (description_at left d)

the_listener_has_it : name_at 0 ≡ Some path
unfolding computing bind make_socket listen connect
the_listener_has_it = refl

the_client_has_none : name_at 1 ≡ Some Addr.Unnamed
unfolding computing bind make_socket listen connect
the_client_has_none = refl

the_server_has_its_listeners : name_at 2 ≡ Some path
unfolding computing bind make_socket listen connect
the_server_has_its_listeners = refl
