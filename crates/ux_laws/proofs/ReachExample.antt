-- Worked examples, evaluated: what one process does to its own pair leaves another's as it was, and so with names.
use Rattle.std.specs.Prelude.{◌≡◌, Some, None, List, [], ◌∷◌, refl, codes}
use Rattle.ux_model.specs.Types.{Addr, SockType, Request, Entry}
use Rattle.ux_model.specs.Names.{bound, named}
use Rattle.ux_model.specs.Naming.{unlink}
use Rattle.ux_model.specs.Binding.{bind}
use Rattle.ux_model.specs.Connecting.{make_socket}
use Rattle.ux_model.specs.State.{description_at}
use Rattle.ux_model.specs.Giving.{held_at}
use Rattle.ux_model.specs.Pedigree.{before}
use Rattle.ux_laws.proofs.Play.{computing, made, with_files, pair_of, send, fd}

abbrev calls : List Entry
calls = made (with_files []) 0 (
    (1, pair_of SockType.Stream) ∷
    (2, pair_of SockType.Stream) ∷
    (2, send 0 (codes "hi")) ∷
    (2, Request.Close (fd 0)) ∷ [])

the_other_pair_stays : description_at (before (with_files []) calls 4) 0 ≡ description_at (before (with_files []) calls 2) 0
unfolding computing
the_other_pair_stays = refl

so_does_the_table : held_at (before (with_files []) calls 4) 1 0 ≡ held_at (before (with_files []) calls 2) 1 0
unfolding computing
so_does_the_table = refl

-- the second process takes its own path away; of the first's names none goes, until its sockets do
abbrev naming : List Entry
naming = made (with_files []) 0 (
    (1, Request.Socket SockType.Dgram (record { 0 = 0 })) ∷
    (1, Request.Bind (fd 0) (Addr.Abstract (codes "a"))) ∷
    (1, Request.Socket SockType.Dgram (record { 0 = 0 })) ∷
    (1, Request.Bind (fd 1) (Addr.Path (codes "/p"))) ∷
    (2, Request.Socket SockType.Dgram (record { 0 = 0 })) ∷
    (2, Request.Bind (fd 0) (Addr.Path (codes "/q"))) ∷
    (2, Request.Unlink (codes "/q")) ∷
    (1, Request.Close (fd 0)) ∷ [])

names_stay : named (codes "a") (before (with_files []) naming 7).abstract_names ≡ Some 0
unfolding computing bind make_socket unlink
names_stay = refl

paths_stay : named (codes "/p") (before (with_files []) naming 7).paths ≡ Some (bound 1)
unfolding computing bind make_socket unlink
paths_stay = refl

one_goes_with_its_socket : named (codes "a") (before (with_files []) naming 8).abstract_names ≡ None
unfolding computing bind make_socket unlink
one_goes_with_its_socket = refl
