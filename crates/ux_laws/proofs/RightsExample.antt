-- A worked example, evaluated: a descriptor is passed behind a message without one, peeked at, and received once.
use Rattle.std.specs.Prelude.{◌≡◌, List, [], ◌∷◌, Some, None, map, refl, codes}
use Rattle.ux_model.specs.Types.{SockType, Request, Reply, Entry}
use Rattle.ux_model.specs.Control.{rights_item, item_bytes}
use Rattle.ux_laws.proofs.Play.{computing, made, replies, one_process, pair_of, send, fd, flags}

-- the first receive joins both messages; the second one finds no rights
abbrev calls : List Entry
calls = made one_process 0 (
    (1, pair_of SockType.Stream) ∷
    (1, send 0 (codes "a")) ∷
    (1, Request.SendMsg (fd 0) None (codes "bc") (item_bytes (rights_item (0 ∷ []))) (flags 0)) ∷
    (1, Request.RecvMsg (fd 1) 8 24 (flags 1)) ∷
    (1, Request.RecvMsg (fd 1) 2 24 (flags 0)) ∷
    (1, Request.RecvMsg (fd 1) 8 24 (flags 0)) ∷ [])

of_which_message : map (λ e. Entry.delivered e) calls ≡ None ∷ None ∷ None ∷ Some 2 ∷ Some 2 ∷ None ∷ []
unfolding computing
of_which_message = refl

what_was_given : replies calls
    ≡ Reply.Fds (fd 0) (fd 1) ∷ Reply.Count 1 ∷ Reply.Count 2
    ∷ Reply.Received (flags 0) 3 (codes "abc") (item_bytes (rights_item (2 ∷ []))) None
    ∷ Reply.Received (flags 0) 2 (codes "ab") (item_bytes (rights_item (3 ∷ []))) None
    ∷ Reply.Received (flags 0) 1 (codes "c") [] None ∷ []
unfolding computing
what_was_given = refl
