-- How a call finds its way to an outcome. Each lemma goes one branching of the definitions down, for any property of outcomes, and
-- reports what was found there; so a property is proved of a call by naming the call's branchings in order.
use Rattle.std.proofs.Common.{◌≡◌, ℕ, Bool, true, false, if◌then◌else◌, List, [], ◌∷◌, Option, Some, None, Result, Ok, Err, refl, ap}
use Rattle.ux_model.specs.Types.{Errno, Fd, Addr, SockType}
use Rattle.ux_model.specs.Names.{PathTarget, file, bound, named}
use Rattle.ux_model.specs.Message.{Message}
use Rattle.ux_model.specs.Socket.{Socket, Phase, tied_socket}
use Rattle.ux_model.specs.Description.{Description, Target, to_object, to_socket, socket_of, socket_in}
use Rattle.ux_model.specs.Process.{Descriptor}
use Rattle.ux_model.specs.State.{State, description_at, socket_at}
use Rattle.ux_model.specs.Binding.{same_kind, socket_of_target, look_up}
use Rattle.ux_model.specs.Connecting.{peer_name}
use Rattle.ux_model.specs.Outcome.{Outcome, refuse, on_descriptor, on_socket, descriptor_at}

pub either : (Q : Outcome → Type 0) (b : Bool) (x y : Outcome) → (b ≡ true → Q x) → (b ≡ false → Q y) → Q (if b then x else y)
either Q true x y h k = h refl
either Q false x y h k = k refl

pub maybe : {X : Type 0} (Q : Outcome → Type 0) (o : Option X) (x : Outcome) (f : X → Outcome) → Q x → ((a : X) → o ≡ Some a → Q (f a)) →
    Q (elim o as (λ _. Outcome) [ None ↦ x | Some a ↦ f a ])
maybe Q None x f h k = h
maybe Q (Some a) x f h k = k a refl

pub by_target : (Q : Outcome → Type 0) (t : Target) (f : ℕ → Outcome) (g : Socket → Outcome) → ((o : ℕ) → t ≡ to_object o → Q (f o)) →
    ((s : Socket) → t ≡ to_socket s → Q (g s)) → Q (elim t as (λ _. Outcome) [ to_object o ↦ f o | to_socket s ↦ g s ])
by_target Q (to_object o) f g h k = h o refl
by_target Q (to_socket s) f g h k = k s refl

pub by_path : (Q : Outcome → Type 0) (t : PathTarget) (f g : ℕ → Outcome) → ((o : ℕ) → t ≡ file o → Q (f o)) →
    ((d : ℕ) → t ≡ bound d → Q (g d)) →
    Q (elim t as (λ _. Outcome) [ file o ↦ f o | bound d ↦ g d ])
by_path Q (file o) f g h k = h o refl
by_path Q (bound d) f g h k = k d refl

pub by_queue : (Q : Outcome → Type 0) (q : List Message) (x : Outcome) (f : Message → List Message → Outcome) → (q ≡ [] → Q x) →
    ((m : Message) (ms : List Message) → q ≡ m ∷ ms → Q (f m ms)) →
    Q (elim q as (λ _. Outcome) [ [] ↦ x | m ∷ ms ↦ f m ms ])
by_queue Q [] x f h k = h refl
by_queue Q (m ∷ ms) x f h k = k m ms refl

-- ---- what a descriptor leads to

abbrev described : Descriptor → Option Description → Result (Descriptor × Description) Errno
described e o = elim o [ None ↦ Err Errno.EBADF | Some D ↦ Ok (e, D) ]

abbrev led : State → Option Descriptor → Result (Descriptor × Description) Errno
led S o = elim o [ None ↦ Err Errno.EBADF | Some e ↦ described e (description_at S e.description) ]

abbrev on_led : State → (Descriptor → Description → Outcome) → Result (Descriptor × Description) Errno → Outcome
on_led S rest r = elim r [ Err x ↦ refuse S x | Ok f ↦ rest f.0 f.1 ]

pub found : (Q : Outcome → Type 0) (S : State) (p : ℕ) (fd : Fd) (rest : Descriptor → Description → Outcome) → Q (refuse S Errno.EBADF) →
    ((e : Descriptor) (D : Description) → descriptor_at S p fd ≡ Some e → description_at S e.description ≡ Some D → Q (rest e D)) →
    Q (on_descriptor S p fd rest)
found Q S p fd rest bad rest_of = go (descriptor_at S p fd) refl
  where
    there : (e : Descriptor) → descriptor_at S p fd ≡ Some e → (o : Option Description) → description_at S e.description ≡ o →
        Q (on_led S rest (described e o))
    there e g None h = bad
    there e g (Some D) h = rest_of e D g h

    go : (o : Option Descriptor) → descriptor_at S p fd ≡ o → Q (on_led S rest (led S o))
    go None g = bad
    go (Some e) g = there e g (description_at S e.description) refl

-- the same through the socket that the descriptor leads to
abbrev socket_led : Descriptor → Target → Result (ℕ × Socket) Errno
socket_led e t = elim (socket_of t) [ None ↦ Err Errno.ENOTSOCK | Some s ↦ Ok (e.description, s) ]

abbrev socket_found : Result (Descriptor × Description) Errno → Result (ℕ × Socket) Errno
socket_found r = elim r [ Err x ↦ Err x | Ok f ↦ socket_led f.0 f.1.target ]

abbrev on_found : State → (ℕ → Socket → Outcome) → Result (ℕ × Socket) Errno → Outcome
on_found S rest r = elim r [ Err x ↦ refuse S x | Ok f ↦ rest f.0 f.1 ]

pub found_socket : (Q : Outcome → Type 0) (S : State) (p : ℕ) (fd : Fd) (rest : ℕ → Socket → Outcome) → Q (refuse S Errno.EBADF) →
    Q (refuse S Errno.ENOTSOCK) →
    ((d : ℕ) (s : Socket) → socket_at S d ≡ Some s → Q (rest d s)) → Q (on_socket S p fd rest)
found_socket Q S p fd rest bad other rest_of = go (descriptor_at S p fd)
  where
    at_target : (e : Descriptor) (t : Target) → socket_at S e.description ≡ socket_of t → Q (on_found S rest (socket_led e t))
    at_target e (to_object o) h = other
    at_target e (to_socket s) h = rest_of e.description s h

    there : (e : Descriptor) (o : Option Description) → description_at S e.description ≡ o →
        Q (on_found S rest (socket_found (described e o)))
    there e None h = bad
    there e (Some D) h = at_target e D.target (ap socket_in h)

    go : (o : Option Descriptor) → Q (on_found S rest (socket_found (led S o)))
    go None = bad
    go (Some e) = there e (description_at S e.description) refl

-- ---- what an address leads to

abbrev typed : ℕ → Socket → Bool → Result (ℕ × Socket) Errno
typed d s b = if b then Ok (d, s) else Err Errno.EPROTOTYPE

abbrev of_kind : SockType → ℕ → Option Socket → Result (ℕ × Socket) Errno
of_kind kind d o = elim o [ None ↦ Err Errno.ECONNREFUSED | Some s ↦ typed d s (same_kind kind s.kind) ]

pub found_named : (Q : Outcome → Type 0) (S : State) (kind : SockType) (addr : Addr) (rest : ℕ → Socket → Outcome) →
    Q (refuse S Errno.EINVAL) → Q (refuse S Errno.ENOENT) →
    Q (refuse S Errno.ECONNREFUSED) → Q (refuse S Errno.EPROTOTYPE) → ((d : ℕ) (s : Socket) → socket_at S d ≡ Some s → Q (rest d s)) →
    Q (on_found S rest (look_up S kind addr))
found_named Q S kind addr rest bad none nobody other rest_of = by_addr addr
  where
    by_kind : (d : ℕ) (s : Socket) → socket_at S d ≡ Some s → (b : Bool) → Q (on_found S rest (typed d s b))
    by_kind d s h true = rest_of d s h
    by_kind d s h false = other

    by_socket : (d : ℕ) (o : Option Socket) → socket_at S d ≡ o → Q (on_found S rest (of_kind kind d o))
    by_socket d None h = nobody
    by_socket d (Some s) h = by_kind d s h (same_kind kind s.kind)

    at_path : (o : Option PathTarget) → Q (on_found S rest
        (elim o as (λ _. Result (ℕ × Socket) Errno) [ None ↦ Err Errno.ENOENT | Some t ↦ socket_of_target S kind t ]))
    at_path None = none
    at_path (Some (file o)) = nobody
    at_path (Some (bound d)) = by_socket d (socket_at S d) refl

    at_name : (o : Option ℕ) → Q (on_found S rest
        (elim o as (λ _. Result (ℕ × Socket) Errno) [ None ↦ Err Errno.ECONNREFUSED | Some d ↦ of_kind kind d (socket_at S d) ]))
    at_name None = nobody
    at_name (Some d) = by_socket d (socket_at S d) refl

    by_addr : (a : Addr) → Q (on_found S rest (look_up S kind a))
    by_addr Addr.Unnamed = bad
    by_addr (Addr.Path name) = at_path (named name S.paths)
    by_addr (Addr.Abstract name) = at_name (named name S.abstract_names)

-- the name of a peer
abbrev on_name : State → (Addr → Outcome) → Result Addr Errno → Outcome
on_name S rest r = elim r [ Err e ↦ refuse S e | Ok name ↦ rest name ]

pub found_peer : (Q : Outcome → Type 0) (S : State) (phase : Phase) (rest : Addr → Outcome) → Q (refuse S Errno.ENOTCONN) →
    ((d : ℕ) (s : Socket) → socket_at S d ≡ Some s → Q (rest s.name)) → Q (on_name S rest (peer_name S phase))
found_peer Q S phase rest none rest_of = by_peer (tied_socket phase)
  where
    by_socket : (d : ℕ) (o : Option Socket) → socket_at S d ≡ o →
        Q (on_name S rest (elim o as (λ _. Result Addr Errno) [ None ↦ Err Errno.ENOTCONN | Some s ↦ Ok s.name ]))
    by_socket d None h = none
    by_socket d (Some s) h = rest_of d s h

    by_peer : (o : Option ℕ) → Q (on_name S rest
        (elim o as (λ _. Result Addr Errno) [
          | None ↦ Err Errno.ENOTCONN
          | Some peer ↦ elim (socket_at S peer) as
              (λ _. Result Addr Errno) [ None ↦ Err Errno.ENOTCONN | Some s ↦ Ok s.name ]
        ]))
    by_peer None = none
    by_peer (Some peer) = by_socket peer (socket_at S peer) refl
