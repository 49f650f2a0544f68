-- Sockets are associated with datagram sockets.
use Rattle.std.proofs.Common.{◌≡◌, ◌⊎◌, ℕ, suc, ◌≤◌, ◌<◌, true, List, [], ◌∷◌, ◌++◌, length, Option, Some, None, refl, ap, sym, ◌∙◌, subst}
use Rattle.std.proofs.Common.{inl, inr, ⊎_elim, arith}
use Rattle.std.proofs.lemmas.List.{length_push}
use Rattle.ux_model.specs.Types.{Cred, SockType, Mode, OpenFlags, Request, Reply, Entry}
use Rattle.ux_model.specs.Places.{place}
use Rattle.ux_model.specs.Socket.{Socket, Phase, idle, listening, connected as joined, associated, is_dgram, association_of}
use Rattle.ux_model.specs.Socket.{tied_to as tie_of}
use Rattle.ux_model.specs.Socket.{phase_by_association, phase_with_association, awaiting, sent, with_queue, with_association, new_socket}
use Rattle.ux_model.specs.Socket.{pair_end}
use Rattle.ux_model.specs.Description.{Description}
use Rattle.ux_model.specs.Process.{own_cred}
use Rattle.ux_model.specs.State.{State, socket_at, next_description, with_socket_by, with_new}
use Rattle.ux_model.specs.Pairing.{socket_description}
use Rattle.ux_model.specs.Opening.{file_description}
use Rattle.ux_model.specs.Making.{next_object}
use Rattle.ux_model.specs.Connecting.{with_listening, server_end, tied, no_open_flags}
use Rattle.ux_model.specs.Step.{Step}
use Rattle.ux_model.specs.History.{replay, IsLegal}
use Rattle.ux_model.proofs.Lists.Induction.{IsKept, kept_throughout}
use Rattle.ux_model.proofs.Steps.Replays.{step_replay}
use Rattle.ux_laws.proofs.Parts.{SocketParts, socket_parts, Glance, glance, Seen, seen_changed, seen_new, seen_shrunk}
use Rattle.ux_laws.proofs.Parts.{seen_socket, Shrinks, awaiting_parts}
use Rattle.ux_laws.proofs.Acts.{Did, quiet, opened, file_made, pipe_made, one_made, pair_made, listened, tied_to, connected, put, took}
use Rattle.ux_laws.proofs.Doing.Calls.{step_did}
use Rattle.ux_laws.proofs.Flows.{unmade}
use Rattle.ux_laws.proofs.Opened.{did_more}
use Rattle.ux_laws.proofs.Ended.{did_was, socket_known}

-- where datagrams go by a socket's association is a datagram socket
abbrev pub WithDatagrams : State → Socket → Type 0
WithDatagrams S s = (t : ℕ) (u : Socket) → association_of s.phase ≡ Some t → socket_at S t ≡ Some u → is_dgram u.kind ≡ true

-- a description was made with this number, and what is there of it is a datagram socket
abbrev IsOf : State → ℕ → Type 0
IsOf S t = (t < length S.descriptions) × ((r : SocketParts) → Seen S t r → is_dgram r.kind ≡ true)

-- that of each association
abbrev AllOf : State → Type 0
AllOf S = (d t : ℕ) (q : SocketParts) → Seen S d q → q.tie.association ≡ Some t → IsOf S t

-- ---- a call

still_of : (S T : State) (p tag t : ℕ) (request : Request) (reply : Reply) → Did S p tag request reply T → IsOf S t → IsOf T t
still_of S T p tag t request reply did was = (
  (let more = did_more S T p tag request reply did in let known = was.0 in omega (arith, more, known)),
  λ r h. ⊎_elim {C = is_dgram r.kind ≡ true} (λ old. ap is_dgram old.2 ∙ was.1 old.0 old.1)
      (λ new. let known = was.0 in absurd (omega (arith, known, new))) (did_was S T p tag request reply t r did h),
)

-- whoever is associated was so, or is with a datagram socket that was there
abbrev Came : State → ℕ → Type 0
Came S t = ((d : ℕ) × (r : SocketParts) × Seen S d r × (r.tie.association ≡ Some t)) ⊎ IsOf S t

came_changed : (S V : State) (k d t : ℕ) (change : Socket → Socket) (q : SocketParts) →
    ((s : Socket) → association_of (change s).phase ≡ Some t → (association_of s.phase ≡ Some t) ⊎ IsOf S t) →
    ((r : SocketParts) → Seen V d r → r.tie.association ≡ Some t → Came S t) → Seen (with_socket_by V k change) d q →
    q.tie.association ≡ Some t → Came S t
came_changed S V k d t change q keeps before h to = ⊎_elim {C = Came S t}
    (λ w. ⊎_elim {C = Came S t} (λ old. before (socket_parts w.1) (seen_socket V d w.1 w.2) old) (λ new. inr new)
    (keeps w.1 (sym (ap (λ (r : SocketParts). r.tie.association) w.3) ∙ to)))
    (λ old. before q old to) (seen_changed V k d change q h)

-- one that is new is associated with none
came_new : (S V : State) (D : Description) (d t : ℕ) (q : SocketParts) →
    ((r : SocketParts) → (glance (Some D)).0 ≡ Some r → r.tie.association ≡ None) →
    ((r : SocketParts) → Seen V d r → r.tie.association ≡ Some t → Came S t) → Seen (with_new V D) d q →
    q.tie.association ≡ Some t → Came S t
came_new S V D d t q none before h to = ⊎_elim {C = Came S t}
    (λ w. let clash : None ≡ Some t = sym (none q w.1) ∙ to in absurd (cc clash)) (λ old. before q old to) (seen_new V D d q h)

came_itself : (S : State) (d t : ℕ) (r : SocketParts) → Seen S d r → r.tie.association ≡ Some t → Came S t
came_itself S d t r h to = inl (d, r, h, to)

file_none : (r : SocketParts) → None ≡ Some r → r.tie.association ≡ None
file_none r h = absurd (cc h)

socket_none : (s : Socket) (r : SocketParts) → association_of s.phase ≡ None → Some (socket_parts s) ≡ Some r → r.tie.association ≡ None
socket_none s r none h = let one : socket_parts s ≡ r = cc h in ap (λ (x : SocketParts). x.tie.association) (sym one) ∙ none

from_association : (S : State) (target : Option ℕ) (t : ℕ) (phase : Phase) →
    ((k : ℕ) → target ≡ Some k → IsOf S k) → association_of (phase_with_association target phase) ≡ Some t →
    (association_of phase ≡ Some t) ⊎ IsOf S t
from_association S target t phase to h = by_phase phase h
  where
    by_target : (o : Option ℕ) → target ≡ o → association_of (phase_by_association o) ≡ Some t → IsOf S t
    by_target None is h = absurd (cc h)
    by_target (Some k) is h = to t (is ∙ h)

    by_phase : (phase : Phase) → association_of (phase_with_association target phase) ≡ Some t → (association_of phase ≡ Some t) ⊎ IsOf S t
    by_phase idle h = inr (by_target target refl h)
    by_phase (listening backlog cred) h = absurd (cc h)
    by_phase (joined peer) h = absurd (cc h)
    by_phase (associated old) h = inr (by_target target refl h)

-- the ends of a pair of datagram sockets are associated with one another, and those of any other with none
pair_came : (S T : State) (kind : SockType) (flags : OpenFlags) (cred : Cred) (d t : ℕ) (q : SocketParts) →
    Shrinks (with_new (with_new S (socket_description flags (pair_end kind (suc (next_description S)) cred)))
    (socket_description flags (pair_end kind (next_description S) cred))) T → Seen T d q → q.tie.association ≡ Some t → Came S t ⊎ IsOf T t
pair_came S T kind flags cred d t q sh h to = by_kind kind refl
  where
    n : ℕ
    n = next_description S

    one : Description
    one = socket_description flags (pair_end kind (suc n) cred)

    two : Description
    two = socket_description flags (pair_end kind n cred)

    seen : (i : ℕ) (r : SocketParts) → Seen T i r →
        (r ≡ socket_parts (pair_end kind n cred)) ⊎ (r ≡ socket_parts (pair_end kind (suc n) cred)) ⊎ Seen S i r
    seen i r g = ⊎_elim {C = (r ≡ socket_parts (pair_end kind n cred)) ⊎ (r ≡ socket_parts (pair_end kind (suc n) cred)) ⊎ Seen S i r}
        (λ w. let last : Some (socket_parts (pair_end kind n cred)) ≡ Some r = w.1 in inl (sym (cc last)))
        (λ old. ⊎_elim {C = (r ≡ socket_parts (pair_end kind n cred)) ⊎ (r ≡ socket_parts (pair_end kind (suc n) cred)) ⊎ Seen S i r}
        (λ w. let first : Some (socket_parts (pair_end kind (suc n) cred)) ≡ Some r = w.1 in inr (inl (sym (cc first))))
        (λ older. inr (inr older)) (seen_new S one i r old))
        (seen_new (with_new S one) two i r (seen_shrunk _ T i r sh g))

    long : suc (suc (length S.descriptions)) ≤ length T.descriptions
    long =
        let l = length_push S.descriptions (Some one) in
        let m = length_push (with_new S one).descriptions (Some two) in
        let k = sh.long in
        omega (arith, l, m, k)

    -- what is new is of that kind
    of_kind : (i : ℕ) → n ≤ i → (r : SocketParts) → Seen T i r → r.kind ≡ kind
    of_kind i new r g = ⊎_elim {C = r.kind ≡ kind} (λ e. ap (λ (x : SocketParts). x.kind) e)
        (λ w. ⊎_elim {C = r.kind ≡ kind} (λ e. ap (λ (x : SocketParts). x.kind) e)
        (λ old. let nothing : None ≡ Some r = sym (ap (λ (x : Glance). x.0) (unmade S i new)) ∙ old in absurd (cc nothing)) w) (seen i r g)

    is_of : is_dgram kind ≡ true → (i : ℕ) → n ≤ i → i ≤ suc n → i ≡ t → IsOf T t
    is_of dgram i low high is = subst (IsOf T) is
        ((omega (arith, long, low, high)), λ r g. ap is_dgram (of_kind i low r g) ∙ dgram)

    other : (peer : ℕ) → q ≡ socket_parts (pair_end kind peer cred) → association_of (tie_of kind peer) ≡ Some t
    other peer is = ap (λ (x : SocketParts). x.tie.association) (sym is) ∙ to

    by_tie : (k : SockType) → kind ≡ k → (peer : ℕ) → n ≤ peer → peer ≤ suc n → association_of (tie_of k peer) ≡ Some t →
        Came S t ⊎ IsOf T t
    by_tie SockType.Stream is peer low high h = absurd (cc h)
    by_tie SockType.Dgram is peer low high h = inr (is_of (ap is_dgram is) peer low high (cc h))
    by_tie SockType.Seq is peer low high h = absurd (cc h)

    by_kind : (k : SockType) → kind ≡ k → Came S t ⊎ IsOf T t
    by_kind k is = ⊎_elim {C = Came S t ⊎ IsOf T t}
        (λ e. by_tie k is n (omega arith) (omega arith) (ap (λ (x : SockType). association_of (tie_of x n)) (sym is) ∙ other n e))
        (λ w. ⊎_elim {C = Came S t ⊎ IsOf T t}
        (λ e. by_tie k is (suc n) (omega arith) (omega arith)
        (ap (λ (x : SockType). association_of (tie_of x (suc n))) (sym is) ∙ other (suc n) e))
        (λ old. inl (came_itself S d t q old to)) w) (seen d q h)

did_came : (S T : State) (p tag : ℕ) (request : Request) (reply : Reply) (d t : ℕ) (q : SocketParts) → Did S p tag request reply T →
    Seen T d q → q.tie.association ≡ Some t → Came S t ⊎ IsOf T t
did_came S T p tag request reply d t q (quiet k moves) h to = inl (came_itself S d t q (seen_shrunk S T d q k h) to)
did_came S T p tag request reply d t q (opened path mode flags o a b c k) h to =
    inl (came_new S S (file_description o mode flags) d t q (λ r is. file_none r is) (λ r g. came_itself S d t r g)
    (seen_shrunk _ T d q k h) to)
did_came S T p tag request reply d t q (file_made mode flags a b k) h to =
    inl (came_new S S (file_description (next_object S) mode flags) d t q (λ r is. file_none r is) (λ r g. came_itself S d t r g)
    (seen_shrunk _ T d q k h) to)
did_came S T p tag request reply d t q (pipe_made flags a b k) h to =
    let one : Description = file_description (next_object S) Mode.Read flags in
    let two : Description = file_description (next_object S) Mode.Write flags in
    inl (came_new S (with_new S one) two d t q (λ r is. file_none r is)
    (λ r g. came_new S S one d t r (λ u is. file_none u is) (λ u f. came_itself S d t u f) g) (seen_shrunk _ T d q k h) to)
did_came S T p tag request reply d t q (one_made kind flags is a k) h to =
    inl (came_new S S (socket_description flags (new_socket kind)) d t q (λ r is. socket_none (new_socket kind) r refl is)
    (λ r g. came_itself S d t r g) (seen_shrunk _ T d q k h) to)
did_came S T p tag request reply d t q (pair_made kind flags P x y a b c k) h to = pair_came S T kind flags (own_cred p P) d t q k h to
did_came S T p tag request reply d t q (listened fd backlog P i limit s a b c e there free k) h to =
    inl (came_changed S S i d t (with_listening limit (own_cred p P)) q (λ s f. absurd (cc f)) (λ r g. came_itself S d t r g)
    (seen_shrunk _ T d q k h) to)
did_came S T p tag request reply d t q (tied_to i target s a b datagrams k) h to =
    inl (came_changed S S i d t (with_association target) q (λ s f. from_association S target t s.phase is_of f)
    (λ r g. came_itself S d t r g) (seen_shrunk _ T d q k h) to)
  where
    is_of : (j : ℕ) → target ≡ Some j → IsOf S j
    is_of j is =
        let w = datagrams j is in (
          socket_known S j w.0 w.1,
          λ r g.
              let both : Some (socket_parts w.0) ≡ Some r = sym (seen_socket S j w.0 w.1) ∙ g in
              let one : socket_parts w.0 ≡ r = cc both in
              ap (λ (x : SocketParts). is_dgram x.kind) (sym one) ∙ w.2,
        )
did_came S T p tag request reply d t q (connected fd addr P i l s other kept a b c e there free led at is k) h to =
    let n : ℕ = next_description S in
    let U : State = with_socket_by S l (awaiting n) in
    let D : Description = socket_description no_open_flags (server_end other i (own_cred p P)) in
    inl (came_changed S (with_new U D) i d t (tied n kept.cred) q (λ s f. absurd (cc f))
    (λ r g. came_new S U D d t r (λ u f. socket_none (server_end other i (own_cred p P)) u refl f)
    (λ u f. came_changed S S l d t (awaiting n) u
    (λ s v. inl (sym (ap (λ (x : SocketParts). x.tie.association) (awaiting_parts n s)) ∙ v)) (λ x y. came_itself S d t x y) f) g)
    (seen_shrunk _ T d q k h) to)
did_came S T p tag request reply d t q (put i m a k) h to =
    inl (came_changed S S i d t (sent m) q (λ s f. inl f) (λ r g. came_itself S d t r g) (seen_shrunk _ T d q k h) to)
did_came S T p tag request reply d t q (took i n s m ms a k) h to =
    inl (came_changed S S i d t (with_queue _) q (λ s f. inl f) (λ r g. came_itself S d t r g) (seen_shrunk _ T d q k h) to)

-- ---- throughout

record AllAre (boot : State) (es : List Entry) (S : State) : Type 0 where
  pub reached : S ≡ replay boot es
  pub each : AllOf S

all_kept : (boot : State) → IsKept boot (AllAre boot)
all_kept boot = record {
  at_boot = λ boots. record {
    reached = refl;
    each = λ d t q h to.
        let none : None ≡ Some q = sym (ap (λ ds. (glance (place ds d)).0) boots.no_descriptions) ∙ h in absurd (cc none);
  };
  by_entry = λ es e S T so_far step may. further es e S T so_far step;
}
  where
    further : (es : List Entry) (e : Entry) (S T : State) → AllAre boot es S →
        Step S e.pid.0 (length es) e.request e.reply e.released T → AllAre boot (es ++ e ∷ []) T
    further es e S T so_far step =
        let R : State = replay boot es in
        let here : Step R e.pid.0 (length es) e.request e.reply e.released T =
        subst (λ (U : State). Step U e.pid.0 (length es) e.request e.reply e.released T) so_far.reached step in
        let all : AllAre boot es R = subst (AllAre boot es) so_far.reached so_far in
        let did = step_did R T e.pid.0 (length es) e.request e.reply e.released here in
        record {
          reached = step_replay boot T es e here;
          each = λ d t q h to. ⊎_elim {C = IsOf T t}
              (λ came. still_of R T e.pid.0 (length es) t e.request e.reply did
              (⊎_elim {C = IsOf R t} (λ old. all.each old.0 t old.1 old.2 old.3) (λ new. new) came))
              (λ new. new) (did_came R T e.pid.0 (length es) e.request e.reply d t q did h to);
        }

pub with_datagrams : (boot : State) (es : List Entry) (d : ℕ) (s : Socket) → IsLegal boot es → socket_at (replay boot es) d ≡ Some s →
    WithDatagrams (replay boot es) s
with_datagrams boot es d s legal there t u to at =
    let S : State = replay boot es in
    let one = (kept_throughout boot (AllAre boot) (all_kept boot) es legal).each d t (socket_parts s) (seen_socket S d s there) to in
    one.1 (socket_parts u) (seen_socket S t u at)
