-- The names of new sockets.
use Rattle.std.proofs.Common.{◌≡◌, ◌⊎◌, ℕ, suc, ◌==◌, not, ◌||◌, is_some, length, Option, Some, None, Ok}
use Rattle.std.proofs.Common.{refl, ap, sym, ◌∙◌, subst, inl, inr, ⊎_elim}
use Rattle.std.specs.Prelude.{nat_le}
use Rattle.std.proofs.lemmas.Bool.{eqb-true, eqb-false}
use Rattle.ux_model.specs.Types.{Fd, Cred, Addr, SockType, Mode, OpenFlags, Request, Reply}
use Rattle.ux_model.specs.Names.{is_valid_addr, is_unnamed_addr}
use Rattle.ux_model.specs.Socket.{Socket, is_dgram, peer_of, takes_from, awaiting, new_socket, pair_end, with_association}
use Rattle.ux_model.specs.Description.{Description, Target, to_object, to_socket, socket_of, socket_in}
use Rattle.ux_model.specs.Process.{lowest_free, two_lowest_free, own_cred}
use Rattle.ux_model.specs.State.{State, process_at, description_at, socket_at, table_of, next_description, with_socket_by, with_new}
use Rattle.ux_model.specs.Outcome.{Outcome, Chosen, own, lacking_memory, failing, find_socket}
use Rattle.ux_model.specs.Binding.{look_up}
use Rattle.ux_model.specs.Opening.{file_description}
use Rattle.ux_model.specs.Making.{next_object}
use Rattle.ux_model.specs.Pairing.{socket_description, make_pair}
use Rattle.ux_model.specs.Connecting.{listener_of, make_socket, server_end, tied, no_open_flags, connect_to, connect_stream}
use Rattle.ux_model.specs.Connecting.{connect_datagram, connect}
use Rattle.ux_model.specs.Step.{outcome}
use Rattle.ux_model.specs.Pedigree.{before}
use Rattle.ux_model.proofs.Changes.Walk.{either, maybe}
use Rattle.ux_model.proofs.Lists.ChangedPlaces.{bool_cases}
use Rattle.ux_model.proofs.Steps.Calls.{each_obeys}
use Rattle.ux_model.proofs.Pedigrees.Moments.{moment}
use Rattle.ux_model.proofs.Tables.Shows.{by_socket}
use Rattle.ux_laws.specs.OwnNames.{HasNameAnew, none, of_listener, NewSocketsHaveNoName}
use Rattle.ux_laws.proofs.Parts.{SocketParts, socket_parts, Seen, seen_changed, seen_new, seen_shrunk, seen_socket, socket_seen}
use Rattle.ux_laws.proofs.Acts.{Did, quiet, opened, file_made, pipe_made, one_made, pair_made, listened, tied_to, connected, put, took}
use Rattle.ux_laws.proofs.Doing.Calls.{step_between}
use Rattle.ux_laws.proofs.Doing.Naming.{by_addr}
use Rattle.ux_laws.proofs.Near.Single.{name_of, name_in, pushed_here, pushed_other}
use Rattle.ux_laws.proofs.LeftAlone.{Lost, settled_lost}
use Rattle.ux_laws.proofs.Offsets.{in_table}
use Rattle.ux_laws.proofs.OwnNames.{name_changed, lost_name}

-- ---- which calls make a socket

data MakesSocket (request : Request) : Type 0 where
  alone : (kind : SockType) (flags : OpenFlags) → request ≡ Request.Socket kind flags → MakesSocket request
  pair : (kind : SockType) (flags : OpenFlags) → request ≡ Request.SocketPair kind flags → MakesSocket request
  server : (fd : Fd) (addr : Addr) → request ≡ Request.Connect fd addr → MakesSocket request

did_make : (S U : State) (p tag d : ℕ) (request : Request) (reply : Reply) (q : SocketParts) → socket_at S d ≡ None →
    Did S p tag request reply U → Seen U d q → MakesSocket request
did_make S U p tag d request reply q free did h = by_did did
  where
    not_old : Seen S d q → MakesSocket request
    not_old seen = let w = socket_seen S d q seen in
        let clash : None ≡ Some w.0 = sym free ∙ w.1 in absurd (cc clash)

    not_here : (s : Socket) → socket_at S d ≡ Some s → MakesSocket request
    not_here s there = let clash : None ≡ Some s = sym free ∙ there in absurd (cc clash)

    no_file : (T : State) (o : ℕ) (mode : Mode) (flags : OpenFlags) → (Seen T d q → MakesSocket request) →
        Seen (with_new T (file_description o mode flags)) d q → MakesSocket request
    no_file T o mode flags old seen = ⊎_elim {C = MakesSocket request} (λ w. let clash : None ≡ Some q = w.1 in absurd (cc clash)) old
        (seen_new T (file_description o mode flags) d q seen)

    by_did : Did S p tag request reply U → MakesSocket request
    by_did (quiet a b) = not_old (seen_shrunk S U d q a h)
    by_did (opened path mode flags o a b c k) = no_file S o mode flags not_old (seen_shrunk _ U d q k h)
    by_did (file_made mode flags a b k) = no_file S (next_object S) mode flags not_old (seen_shrunk _ U d q k h)
    by_did (pipe_made flags a b k) =
        no_file (with_new S (file_description (next_object S) Mode.Read flags)) (next_object S) Mode.Write flags
        (no_file S (next_object S) Mode.Read flags not_old) (seen_shrunk _ U d q k h)
    by_did (one_made kind flags is a k) = alone kind flags is
    by_did (pair_made kind flags P x y is a c k) = pair kind flags is
    by_did (listened fd backlog P t limit s a b c e f g k) = ⊎_elim {C = MakesSocket request} (λ w. not_here w.1 w.2) not_old
        (seen_changed S t d _ q (seen_shrunk _ U d q k h))
    by_did (tied_to t target s a b to k) = ⊎_elim {C = MakesSocket request} (λ w. not_here w.1 w.2) not_old
        (seen_changed S t d _ q (seen_shrunk _ U d q k h))
    by_did (connected fd addr P t l s other kept is a b c e f g i j k) = server fd addr is
    by_did (put t m a k) = ⊎_elim {C = MakesSocket request} (λ w. not_here w.1 w.2) not_old
        (seen_changed S t d _ q (seen_shrunk _ U d q k h))
    by_did (took t n s m ms a k) = ⊎_elim {C = MakesSocket request} (λ w. not_here w.1 w.2) not_old
        (seen_changed S t d _ q (seen_shrunk _ U d q k h))

-- ---- what it is called

-- where no socket was
record Anew (S : State) (p : ℕ) (request : Request) (d : ℕ) (x : Option Description) : Type 0 where
  pub told : (name : Addr) → name_in (description_at S d) ≡ None → name_in x ≡ Some name → HasNameAnew S p request name

clash_anew : {S : State} {p : ℕ} {request : Request} (x : Option Description) (name : Addr) → name_in x ≡ None → name_in x ≡ Some name →
    HasNameAnew S p request name
clash_anew x name free h = let clash : None ≡ Some name = sym free ∙ h in absurd (cc clash)

same_anew : {S : State} {p d : ℕ} {request : Request} {x : Option Description} → name_in x ≡ name_in (description_at S d) →
    Anew S p request d x
same_anew {S} {p} {d} is = record { told = λ name free h. clash_anew (description_at S d) name free (sym is ∙ h) }

-- one more has its own name
name_new : (T : State) (D : Description) (d : ℕ) (name : Addr) → name_in (description_at (with_new T D) d) ≡ Some name →
    (name_of D.target ≡ Some name) ⊎ (name_in (description_at T d) ≡ Some name)
name_new T D d name h = bool_cases (length T.descriptions == d)
    (λ e. inl (sym (ap name_in (pushed_here T.descriptions (Some D)))
    ∙ ap (λ (k : ℕ). name_in (description_at (with_new T D) k)) (eqb-true (length T.descriptions) d e) ∙ h))
    (λ e. inr (sym (ap name_in (pushed_other T.descriptions (Some D) d (eqb-false (length T.descriptions) d e))) ∙ h))

no_name_anew : {S : State} {p : ℕ} {request : Request} (name : Addr) → Some Addr.Unnamed ≡ Some name → HasNameAnew S p request name
no_name_anew name h = let same : Addr.Unnamed ≡ name = cc h in none (sym same)

abbrev AnewBy : State → ℕ → Request → ℕ → Outcome → Type 0
AnewBy S p request d o = Anew S p request d (description_at o.next d)

socket_anew : (S : State) (p d : ℕ) (kind : SockType) (flags : OpenFlags) →
    AnewBy S p (Request.Socket kind flags) d (make_socket S p kind flags)
unfolding make_socket
socket_anew S p d kind flags = maybe (AnewBy S p (Request.Socket kind flags) d) (lowest_free (table_of S p)) _ _ (same_anew refl)
    (λ n low. record {
      told = λ name free h. ⊎_elim {C = HasNameAnew S p (Request.Socket kind flags) name} (λ is. no_name_anew name is)
          (λ old. clash_anew (description_at S d) name free old)
          (name_new S (socket_description flags (new_socket kind)) d name
          (sym (ap name_in (in_table (with_new S (socket_description flags (new_socket kind))) p d _)) ∙ h));
    })

pair_anew : (S : State) (p d : ℕ) (kind : SockType) (flags : OpenFlags) →
    AnewBy S p (Request.SocketPair kind flags) d (make_pair S p kind flags)
unfolding make_pair
pair_anew S p d kind flags = maybe Q (process_at S p) _ _ (same_anew refl)
    (λ P here. maybe Q (two_lowest_free P.table) _ _ (same_anew refl) (λ n low. record {
      told = λ name free h.
          let one : Description = socket_description flags (pair_end kind (suc (next_description S)) (own_cred p P)) in
          let two : Description = socket_description flags (pair_end kind (next_description S) (own_cred p P)) in
          ⊎_elim {C = HasNameAnew S p (Request.SocketPair kind flags) name} (λ is. no_name_anew name is)
          (λ older. ⊎_elim {C = HasNameAnew S p (Request.SocketPair kind flags) name} (λ is. no_name_anew name is)
          (λ old. clash_anew (description_at S d) name free old) (name_new S one d name older))
          (name_new (with_new S one) two d name (sym (ap name_in (in_table (with_new (with_new S one) two) p d _)) ∙ h));
    }))
  where
    Q : Outcome → Type 0
    Q o = AnewBy S p (Request.SocketPair kind flags) d o

connect_anew : (S : State) (p d : ℕ) (fd : Fd) (addr : Addr) → AnewBy S p (Request.Connect fd addr) d (connect S p fd addr)
unfolding connect
connect_anew S p d fd addr = maybe Q (process_at S p) _ _ (same_anew refl) (λ P here. by_socket Q S p fd _ (λ e. same_anew refl)
    (λ c s found there. either Q (is_dgram s.kind) _ _ (λ a. associates c s) (λ a. connects c s (own_cred p P) found)))
  where
    Q : Outcome → Type 0
    Q o = AnewBy S p (Request.Connect fd addr) d o

    tie : (c : ℕ) (target : Option ℕ) →
        Anew S p (Request.Connect fd addr) d (description_at (with_socket_by S c (with_association target)) d)
    tie c target = same_anew (name_changed S c d (with_association target) (λ u. refl))

    associates : (c : ℕ) (s : Socket) → Q (connect_datagram S c s.kind addr)
    associates c s = either Q (not (is_valid_addr addr)) _ _ (λ a. same_anew refl)
        (λ a. either Q (is_unnamed_addr addr) _ _ (λ b. tie c None)
        (λ b. by_addr Q S s.kind addr _ (λ e. same_anew refl)
        (λ l other led at. either Q (takes_from c other.phase) _ _ (λ f. tie c (Some l)) (λ f. same_anew refl))))

    to : (c : ℕ) (s : Socket) (cred : Cred) → find_socket S p fd ≡ Ok (c, s) → (l : ℕ) (other : Socket) →
        look_up S s.kind addr ≡ Ok (l, other) → Q (connect_to S c cred l other)
    to c s cred found l other led = maybe Q (listener_of other.phase) _ _ (same_anew refl)
        (λ kept listens. either Q (nat_le kept.backlog.limit (length kept.backlog.pending)) _ _ (λ a. same_anew refl) (λ a. record {
          told = λ name free h.
              let e : ℕ = next_description S in
              let T : State = with_socket_by S l (awaiting e) in
              let made : Description = socket_description no_open_flags (server_end other c cred) in
              ⊎_elim {C = HasNameAnew S p (Request.Connect fd addr) name}
              (λ is.
              let same : other.name ≡ name = cc is in
              of_listener fd addr c l s other refl found led (sym same))
              (λ old. clash_anew (description_at S d) name free (sym (name_changed S l d (awaiting e) (λ u. refl)) ∙ old))
              (name_new T made d name (sym (name_changed (with_new T made) c d (tied e kept.cred) (λ u. refl)) ∙ h));
        }))

    connects : (c : ℕ) (s : Socket) (cred : Cred) → find_socket S p fd ≡ Ok (c, s) → Q (connect_stream S c s addr cred)
    connects c s cred found =
        either Q (not (is_valid_addr addr) || is_unnamed_addr addr || is_some (listener_of s.phase)) _ _ (λ a. same_anew refl)
        (λ a. either Q (is_some (peer_of s.phase)) _ _ (λ b. same_anew refl)
        (λ b. by_addr Q S s.kind addr _ (λ e. same_anew refl) (λ l other led at. to c s cred found l other led)))

making_anew : (S : State) (p tag d : ℕ) (request : Request) → MakesSocket request → AnewBy S p request d (outcome S p tag request)
unfolding outcome
making_anew S p tag d request (alone kind flags is) =
    subst (λ (r : Request). AnewBy S p r d (outcome S p tag r)) (sym is) (socket_anew S p d kind flags)
making_anew S p tag d request (pair kind flags is) =
    subst (λ (r : Request). AnewBy S p r d (outcome S p tag r)) (sym is) (pair_anew S p d kind flags)
making_anew S p tag d request (server fd addr is) =
    subst (λ (r : Request). AnewBy S p r d (outcome S p tag r)) (sym is) (connect_anew S p d fd addr)

-- ---- the law

chosen_anew : (S U : State) (p tag d : ℕ) (request : Request) (reply : Reply) (name : Addr) → MakesSocket request →
    Chosen S (outcome S p tag request) reply U → name_in (description_at S d) ≡ None → name_in (description_at U d) ≡ Some name →
    HasNameAnew S p request name
chosen_anew S U p tag d request reply name makes (own e f) free h =
    (making_anew S p tag d request makes).told name free (ap (λ (V : State). name_in (description_at V d)) (sym f) ∙ h)
chosen_anew S U p tag d request reply name makes (lacking_memory e may f) free h =
    clash_anew (description_at S d) name free (sym (ap (λ (V : State). name_in (description_at V d)) f) ∙ h)
chosen_anew S U p tag d request reply name makes (failing e f) free h =
    clash_anew (description_at S d) name free
    (sym (ap (λ (V : State). name_in (description_at V d)) ((each_obeys S p tag request).failed U f).0.left) ∙ h)

no_name_there : (x : Option Description) → socket_in x ≡ None → name_in x ≡ None
no_name_there None h = refl
no_name_there (Some D) h = at_target D.target h
  where
    at_target : (t : Target) → socket_of t ≡ None → name_of t ≡ None
    at_target (to_object o) h = refl
    at_target (to_socket s) h = absurd (cc h)

-- a socket with a name is one
named_socket : (x : Option Description) (name : Addr) → name_in x ≡ Some name → (s : Socket) × (socket_in x ≡ Some s)
named_socket None name h = absurd (cc h)
named_socket (Some D) name h = at_target D.target h
  where
    at_target : (t : Target) → name_of t ≡ Some name → (s : Socket) × (socket_of t ≡ Some s)
    at_target (to_object o) h = absurd (cc h)
    at_target (to_socket s) h = (s, refl)

pub new_sockets_have_no_name : NewSocketsHaveNoName
new_sockets_have_no_name boot es j d e t legal at free there =
    let S : State = before boot es j in
    let T : State = before boot es (suc j) in
    let b = step_between S T e.pid.0 j e.request e.reply e.released (moment boot es j e legal at).steps in
    let has = lost_name b.0 T d t (subst (λ (V : State). Lost b.0 V d) (sym b.3) (settled_lost b.0 d)) there in
    let u = named_socket (description_at b.0 d) t.name has in
    let makes = did_make S b.0 e.pid.0 j d e.request e.reply (socket_parts u.0) free b.2 (seen_socket b.0 d u.0 u.1) in
    chosen_anew S b.0 e.pid.0 j d e.request e.reply t.name makes b.1 (no_name_there (description_at S d) free) has
