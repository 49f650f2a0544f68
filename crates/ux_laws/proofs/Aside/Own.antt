-- Whatever a process calls, it stays on its side, where the names that it gives lead there and what it makes is put there.
use Rattle.std.proofs.Common.{◌≡◌, ◌≢◌, ℕ, zero, suc, ◌+◌, ◌≤◌, ◌==◌, Bool, true, false, not, ◌&&◌, ◌||◌, if◌then◌else◌, List, [], ◌∷◌}
use Rattle.std.proofs.Common.{◌++◌}
use Rattle.std.proofs.Common.{length, Option, Some, None, Ok, refl, ap, sym, ◌∙◌, subst, arith, slice_get}
use Rattle.std.specs.Prelude.{nat_le, nat_lt, is_some}
use Rattle.std.specs.List.{AllByRecursion}
use Rattle.std.proofs.lemmas.Bool.{eqb-true, eqb-false, false≢true}
use Rattle.std.proofs.lemmas.List.{length_push}
use Rattle.ux_model.specs.Types.{Errno, Fd, Cred, Name, Addr, SockType, SockOpt, Mode, OpenFlags, MsgFlags, Request, Reply, Entry}
use Rattle.ux_model.specs.Places.{place, filled}
use Rattle.ux_model.specs.Limits.{made_limit, record_bytes_limit}
use Rattle.ux_model.specs.Flags.{asks_append, are_send_flags}
use Rattle.ux_model.specs.Object.{Body, memory, counter, pipe}
use Rattle.ux_model.specs.Names.{PathTarget, file, named, is_valid_path, is_valid_addr, is_unnamed_addr, free_name}
use Rattle.ux_model.specs.Message.{Message}
use Rattle.ux_model.specs.Control.{Control}
use Rattle.ux_model.specs.ControlReading.{control_in}
use Rattle.ux_model.specs.Socket.{Socket, Phase, idle, listening, connected, associated, is_stream, is_dgram, peer_of, tied_socket, tied_to}
use Rattle.ux_model.specs.Socket.{association_of, takes_from, has_room, pending_ends, new_socket, pair_end, with_association, awaiting}
use Rattle.ux_model.specs.Socket.{phase_with_association, phase_by_association, phase_with_pending, sent, sent_part, with_passcred}
use Rattle.ux_model.specs.Socket.{with_queue_limit}
use Rattle.ux_model.specs.Description.{Description, Target, to_object, to_socket, changed, changed_target}
use Rattle.ux_model.specs.Process.{Process, Descriptor, own_cred, lowest_free, two_lowest_free, descriptor}
use Rattle.ux_model.specs.State.{State, description_at, socket_at, process_at, table_of, next_description, next_process}
use Rattle.ux_model.specs.State.{with_socket_by, with_table, with_new, with_child}
use Rattle.ux_model.specs.Outcome.{Outcome, refuse, Chosen, own, lacking_memory, failing}
use Rattle.ux_model.specs.Release.{drop_unreferenced, settled}
use Rattle.ux_model.specs.Opening.{open_file, file_description}
use Rattle.ux_model.specs.Making.{next_object, object_table_full, with_made, with_pipe, open_made, make_object, create_file, make_pipe}
use Rattle.ux_model.specs.Naming.{unlink}
use Rattle.ux_model.specs.Pairing.{socket_description, make_pair, with_pair}
use Rattle.ux_model.specs.Binding.{look_up, with_name, bind_to, bind}
use Rattle.ux_model.specs.Connecting.{make_socket, listener_of, server_end, no_open_flags, tied, connect_to, connect_stream}
use Rattle.ux_model.specs.Connecting.{connect_datagram}
use Rattle.ux_model.specs.Connecting.{connect}
use Rattle.ux_model.specs.Options.{change_option, may_limit, set_opt}
use Rattle.ux_model.specs.Sending.{sending, message_of, flight_limit, is_over_limit, enqueue, is_too_long, send_connected, send_stream}
use Rattle.ux_model.specs.Sending.{send_from, is_sendable_addr, is_sendable_control, sender_cred_refusal, sent_cred, send_as, send_read}
use Rattle.ux_model.specs.Sending.{send_with, send_msg, descriptions_behind}
use Rattle.ux_model.specs.Forking.{child_of, fork}
use Rattle.ux_model.specs.Step.{Step, outcome}
use Rattle.ux_model.specs.Giving.{held_at}
use Rattle.ux_model.specs.History.{is_off, replay, IsLegal}
use Rattle.ux_model.specs.Pedigree.{before}
use Rattle.ux_model.proofs.Changes.Walk.{either, maybe, by_path}
use Rattle.ux_model.proofs.Lists.ChangedPlaces.{bool_cases, rest_of, length-changed}
use Rattle.ux_model.proofs.Lists.Induction.{get_pushed, take_past}
use Rattle.ux_model.proofs.Pedigrees.Moments.{moment}
use Rattle.ux_model.proofs.Lists.ByPlace.{get_pushed_other}
use Rattle.ux_model.proofs.Steps.Calls.{each_obeys}
use Rattle.ux_model.proofs.Steps.MakingCalls.{made_so}
use Rattle.ux_model.proofs.Processes.Living.{settled_keeps}
use Rattle.ux_model.proofs.Messages.Datagrams.{send_to_target, send_by_association, send_by}
use Rattle.ux_laws.specs.Reach.{asked_addr}
use Rattle.ux_laws.specs.Apartness.{Sides, SocketIsOn, TargetIsOn, AreApart, StayApart, goes_by_descriptors, OthersKeepToTheirSide}
use Rattle.ux_laws.proofs.Doing.Naming.{by_addr}
use Rattle.ux_laws.proofs.LeftAlone.{settled_lost}
use Rattle.ux_laws.proofs.Near.Single.{pushed_here, pushed_other}
use Rattle.ux_laws.proofs.Near.Leading.{by_own}
use Rattle.ux_laws.proofs.Aside.Processes.{by_list}
use Rattle.ux_laws.proofs.Aside.Rounds.{tied_peer}
use Rattle.ux_laws.proofs.Aside.Unseen.{led_aside}
use Rattle.ux_laws.proofs.Aside.Settling.{apart_left}
use Rattle.ux_model.proofs.Changes.Named.{table_in}
use Rattle.ux_laws.proofs.Aside.Twins.{TableIsOn, apart_by, socket_on, twins_table}
use Rattle.ux_laws.proofs.Aside.Descriptors.{filled_on}
use Rattle.ux_laws.proofs.Aside.Readiness.{tied_target}
use Rattle.ux_laws.proofs.Aside.Messages.{RightsOn}
use Rattle.ux_laws.proofs.Aside.Alike.{call_agrees}
use Rattle.ux_laws.proofs.Aside.Growing.{made_from}
use Rattle.ux_laws.proofs.Aside.Staying.{itself, others, apart_others, apart_again, call_stays}

-- what process p is asked to keep to
pub record Ours (sides : Sides) (S : State) (p : ℕ) (request : Request) : Type 0 where
  pub apart : AreApart sides S
  pub mine : sides.process p ≡ true
  pub processes : (q : ℕ) → next_process S ≤ q → sides.process q ≡ true
  pub descriptions : (d : ℕ) → next_description S ≤ d → sides.description d ≡ true
  pub objects : (o : ℕ) → next_object S ≤ o → sides.object o ≡ true
  pub asks : (kind : SockType) (addr : Addr) (d : ℕ) (s : Socket) → asked_addr request ≡ Some addr → look_up S kind addr ≡ Ok (d, s) →
      sides.description d ≡ true
  pub opens : (path : Name) (mode : Mode) (flags : OpenFlags) (o : ℕ) → request ≡ Request.Open path mode flags →
      named path S.paths ≡ Some (file o) → sides.object o ≡ true

-- ---- changes of a state that is apart

apart_same : {sides : Sides} {S : State} (U : State) → AreApart sides S → U.processes ≡ S.processes → U.descriptions ≡ S.descriptions →
    AreApart sides U
apart_same {sides} {S} U apart same more = record {
  tables = λ p n e is. apart.tables p n e (sym (ap (λ x. place (table_in x) n) (by_list p S U same)) ∙ is);
  descriptions = λ d D is. apart.descriptions d D (sym (ap (λ (ds : List (Option Description)). place ds d) more) ∙ is);
}

apart_new : {sides : Sides} (U : State) (D : Description) → AreApart sides U → sides.description (length U.descriptions) ≡ true →
    TargetIsOn sides true D.target → AreApart sides (with_new U D)
apart_new {sides} U D apart mine on = record {
  tables = λ p n e is. apart.tables p n e (sym (ap (λ x. place (table_in x) n) (by_list p U (with_new U D) refl)) ∙ is);
  descriptions = λ d E is. bool_cases (length U.descriptions == d)
      (λ same.
      let at : length U.descriptions ≡ d = eqb-true (length U.descriptions) d same in
      let here : description_at (with_new U D) d ≡ Some D = ap (λ (k : ℕ). description_at (with_new U D) k) (sym at)
      ∙ pushed_here U.descriptions (Some D) in
      let both : Some D ≡ Some E = sym here ∙ is in
      let made : D ≡ E = cc both in
      subst (λ (F : Description). TargetIsOn sides (sides.description d) F.target) made
      (subst (λ b. TargetIsOn sides b D.target) (sym mine ∙ ap sides.description at) on))
      (λ other. apart.descriptions d E (sym (pushed_other U.descriptions (Some D) d (eqb-false (length U.descriptions) d other)) ∙ is));
}

apart_table : {sides : Sides} (U : State) (p : ℕ) (table : List (Option Descriptor)) → AreApart sides U → sides.process p ≡ true →
    TableIsOn sides true table → AreApart sides (with_table U p table)
apart_table U p table apart mine on = (twins_table U U p table table (itself U apart) mine refl on).left

apart_socket : {sides : Sides} (U : State) (d : ℕ) (f : Socket → Socket) → AreApart sides U → sides.description d ≡ true →
    ((s : Socket) → SocketIsOn sides true s → SocketIsOn sides true (f s)) → AreApart sides (with_socket_by U d f)
apart_socket {sides} U d f apart mine on = apart_by sides U d (changed f) apart
    (λ D here. subst (λ b. TargetIsOn sides b (changed f D).target) (sym mine)
    (go D.target (subst (λ b. TargetIsOn sides b D.target) mine (apart.descriptions d D here))))
  where
    go : (t : Target) → TargetIsOn sides true t → TargetIsOn sides true (changed_target f t)
    go (to_object o) h = h
    go (to_socket s) h = on s h

table_on : {sides : Sides} {S : State} {p : ℕ} {request : Request} → Ours sides S p request → TableIsOn sides true (table_of S p)
table_on {p = p} ours n e is = ours.apart.tables p n e is ∙ ours.mine

-- ---- making

open_stays : (sides : Sides) (S : State) (p : ℕ) (path : Name) (mode : Mode) (flags : OpenFlags) →
    Ours sides S p (Request.Open path mode flags) → AreApart sides (open_file S p path mode flags).next
unfolding open_file
open_stays sides S p path mode flags ours = either Q (not (is_valid_path path)) _ _ (λ b. ours.apart)
    (λ b. maybe Q (named path S.paths) _ _ ours.apart
    (λ t is. by_path Q t _ _
    (λ o led. maybe Q (lowest_free (table_of S p)) _ _ ours.apart
    (λ n low. apart_table (with_new S (file_description o mode flags)) p _
    (apart_new S (file_description o mode flags) ours.apart (ours.descriptions (next_description S) (omega arith))
    (ours.opens path mode flags o refl (is ∙ ap (λ (x : PathTarget). Some x) led))) ours.mine
    (filled_on sides (table_of S p) n (descriptor flags (next_description S)) (table_on ours)
    (ours.descriptions (next_description S) (omega arith)))))
    (λ d led. ours.apart)))
  where
    Q : Outcome → Type 0
    Q o = AreApart sides o.next

made_stays : (sides : Sides) (S : State) (p : ℕ) (request : Request) (body : Body) (names : List (Name × PathTarget)) (mode : Mode)
    (flags : OpenFlags) → Ours sides S p request → AreApart sides (open_made S (made_so S body names) p mode flags).next
made_stays sides S p request body names mode flags ours = maybe Q (lowest_free (table_of S p)) _ _ ours.apart
    (λ n low. either Q (object_table_full S) _ _ (λ b. ours.apart)
    (λ b. apart_table (with_new (made_so S body names) (file_description (next_object S) mode flags)) p _
    (apart_new (made_so S body names) (file_description (next_object S) mode flags) (apart_same (made_so S body names) ours.apart refl refl)
    (ours.descriptions (next_description S) (omega arith)) (ours.objects (next_object S) (omega arith))) ours.mine
    (filled_on sides (table_of S p) n (descriptor flags (next_description S)) (table_on ours)
    (ours.descriptions (next_description S) (omega arith)))))
  where
    Q : Outcome → Type 0
    Q o = AreApart sides o.next

create_stays : (sides : Sides) (S : State) (p : ℕ) (path : Name) (mode : Mode) (flags : OpenFlags) →
    Ours sides S p (Request.Create path mode flags) → AreApart sides (create_file S p path mode flags).next
unfolding create_file
create_stays sides S p path mode flags ours = either Q (not (is_valid_path path)) _ _ (λ b. ours.apart)
    (λ b. either Q (is_some (named path S.paths)) _ _ (λ c. ours.apart)
    (λ c. made_stays sides S p (Request.Create path mode flags) (memory []) (S.paths ++ (path, file (next_object S)) ∷ []) mode flags ours))
  where
    Q : Outcome → Type 0
    Q o = AreApart sides o.next

object_stays : (sides : Sides) (S : State) (p : ℕ) (request : Request) (unknown : Bool) (body : Body) (flags : OpenFlags) →
    Ours sides S p request → AreApart sides (make_object S p unknown body flags).next
unfolding make_object
object_stays sides S p request unknown body flags ours = either (λ o. AreApart sides o.next) unknown _ _ (λ b. ours.apart)
    (λ b. made_stays sides S p request body S.paths Mode.Both flags ours)

two_on : {sides : Sides} {S : State} {p : ℕ} {request : Request} (a b : ℕ) (flags : OpenFlags) → Ours sides S p request →
    TableIsOn sides true (filled (filled (table_of S p) a (descriptor flags (next_description S))) b
    (descriptor flags (suc (next_description S))))
two_on {sides} {S} {p} a b flags ours =
    filled_on sides (filled (table_of S p) a (descriptor flags (next_description S))) b (descriptor flags (suc (next_description S)))
    (filled_on sides (table_of S p) a (descriptor flags (next_description S)) (table_on ours)
    (ours.descriptions (next_description S) (omega arith)))
    (ours.descriptions (suc (next_description S)) (omega arith))

pipe_stays : (sides : Sides) (S : State) (p : ℕ) (flags : OpenFlags) → Ours sides S p (Request.Pipe flags) →
    AreApart sides (make_pipe S p flags).next
unfolding make_pipe
pipe_stays sides S p flags ours = either Q (asks_append flags) _ _ (λ b. ours.apart)
    (λ b. maybe Q (two_lowest_free (table_of S p)) _ _ ours.apart (λ n low. either Q (object_table_full S) _ _ (λ c. ours.apart)
    (λ c.
    let R : State = with_made S (pipe []) in
    let one : Description = file_description (next_object S) Mode.Read flags in
    let two : Description = file_description (next_object S) Mode.Write flags in
    let long = length_push S.descriptions (Some one) in
    apart_table (with_pipe S flags) p _
    (apart_new (with_new R one) two
    (apart_new R one (apart_same R ours.apart refl refl) (ours.descriptions (next_description S) (omega arith))
    (ours.objects (next_object S) (omega arith)))
    (ours.descriptions (length (S.descriptions ++ Some one ∷ [])) (omega (arith, long))) (ours.objects (next_object S) (omega arith)))
    ours.mine (two_on n.0 n.1 flags ours))))
  where
    Q : Outcome → Type 0
    Q o = AreApart sides o.next

socket_stays : (sides : Sides) (S : State) (p : ℕ) (kind : SockType) (flags : OpenFlags) → Ours sides S p (Request.Socket kind flags) →
    AreApart sides (make_socket S p kind flags).next
unfolding make_socket
socket_stays sides S p kind flags ours = maybe (λ o. AreApart sides o.next) (lowest_free (table_of S p)) _ _ ours.apart
    (λ n low. apart_table (with_new S (socket_description flags (new_socket kind))) p _
    (apart_new S (socket_description flags (new_socket kind)) ours.apart (ours.descriptions (next_description S) (omega arith))
    (record { tied = λ d is. absurd (cc is); pending = tt; rights = tt })) ours.mine
    (filled_on sides (table_of S p) n (descriptor flags (next_description S)) (table_on ours)
    (ours.descriptions (next_description S) (omega arith))))

end_on : (sides : Sides) (kind : SockType) (peer : ℕ) (cred : Cred) → sides.description peer ≡ true →
    SocketIsOn sides true (pair_end kind peer cred)
end_on sides kind peer cred mine = record { tied = λ d is. tied_on kind d is; pending = ends kind; rights = tt }
  where
    tied_on : (k : SockType) (d : ℕ) → tied_socket (tied_to k peer) ≡ Some d → sides.description d ≡ true
    tied_on SockType.Stream d is = let same : peer ≡ d = cc is in ap sides.description (sym same) ∙ mine
    tied_on SockType.Dgram d is = let same : peer ≡ d = cc is in ap sides.description (sym same) ∙ mine
    tied_on SockType.Seq d is = let same : peer ≡ d = cc is in ap sides.description (sym same) ∙ mine

    ends : (k : SockType) → AllByRecursion (λ d. sides.description d ≡ true) (pending_ends (tied_to k peer))
    ends SockType.Stream = tt
    ends SockType.Dgram = tt
    ends SockType.Seq = tt

pair_stays : (sides : Sides) (S : State) (p : ℕ) (kind : SockType) (flags : OpenFlags) → Ours sides S p (Request.SocketPair kind flags) →
    AreApart sides (make_pair S p kind flags).next
unfolding make_pair
pair_stays sides S p kind flags ours = maybe Q (process_at S p) _ _ ours.apart (λ P h. maybe Q (two_lowest_free P.table) _ _ ours.apart
    (λ n low.
    let one : Description = socket_description flags (pair_end kind (suc (next_description S)) (own_cred p P)) in
    let two : Description = socket_description flags (pair_end kind (next_description S) (own_cred p P)) in
    let long = length_push S.descriptions (Some one) in
    let first : sides.description (next_description S) ≡ true = ours.descriptions (next_description S) (omega arith) in
    let second : sides.description (suc (next_description S)) ≡ true = ours.descriptions (suc (next_description S)) (omega arith) in
    apart_table (with_pair S kind flags (own_cred p P)) p _
    (apart_new (with_new S one) two
    (apart_new S one ours.apart first (end_on sides kind (suc (next_description S)) (own_cred p P) second))
    (ours.descriptions (length (S.descriptions ++ Some one ∷ [])) (omega (arith, long)))
    (end_on sides kind (next_description S) (own_cred p P) first))
    ours.mine
    (subst (λ (x : Option Process). TableIsOn sides true (filled (filled (table_in x) n.0 (descriptor flags (next_description S))) n.1
    (descriptor flags (suc (next_description S))))) h (two_on n.0 n.1 flags ours))))
  where
    Q : Outcome → Type 0
    Q o = AreApart sides o.next

fork_stays : (sides : Sides) (S : State) (p : ℕ) → Ours sides S p Request.Fork → AreApart sides (fork S p).next
unfolding fork
fork_stays sides S p ours = maybe Q (process_at S p) _ _ ours.apart
    (λ P h. either Q (nat_le made_limit (length S.processes)) _ _ (λ b. ours.apart)
    (λ b. record {
      tables = λ q n e is. by_number P h q n e is;
      descriptions = ours.apart.descriptions;
    }))
  where
    Q : Outcome → Type 0
    Q o = AreApart sides o.next

    by_number : (P : Process) → process_at S p ≡ Some P → (q n : ℕ) (e : Descriptor) → held_at (with_child S (child_of P)) q n ≡ Some e →
        sides.description e.description ≡ sides.process q
    by_number P h zero n e is = absurd (cc is)
    by_number P h (suc i) n e is = bool_cases (length S.processes == i)
        (λ same.
        let at : length S.processes ≡ i = eqb-true (length S.processes) i same in
        let made : process_at (with_child S (child_of P)) (suc i) ≡ Some (child_of P) =
        ap (λ (k : ℕ). slice_get (S.processes ++ child_of P ∷ []) k) (sym at) ∙ get_pushed S.processes (child_of P) in
        ours.apart.tables p n e (ap (λ x. place (table_in x) n) h ∙ sym (ap (λ x. place (table_in x) n) made) ∙ is) ∙ ours.mine
        ∙ sym (ours.processes (suc i) (omega (arith, at))))
        (λ other. ours.apart.tables (suc i) n e
        (sym (ap (λ x. place (table_in x) n) (get_pushed_other S.processes (child_of P) i (eqb-false (length S.processes) i other))) ∙ is))

-- ---- naming

named_on : {sides : Sides} (name : Addr) (s : Socket) → SocketIsOn sides true s → SocketIsOn sides true (with_name name s)
named_on name s on = record { tied = on.tied; pending = on.pending; rights = on.rights }

bind_stays : (sides : Sides) (S : State) (p : ℕ) (fd : Fd) (addr : Addr) → Ours sides S p (Request.Bind fd addr) →
    AreApart sides (bind S p fd addr).next
unfolding bind
bind_stays sides S p fd addr ours = by_own Q S p (Request.Bind fd addr) fd _ (λ e. ours.apart)
    (λ d s leads there. either Q (not (is_unnamed_addr s.name) || not (is_valid_addr addr)) _ _ (λ b. ours.apart)
    (λ b. to d (led_aside sides S p fd.0 d ours.apart leads ∙ ours.mine) addr))
  where
    Q : Outcome → Type 0
    Q o = AreApart sides o.next

    called : (d : ℕ) (name : Addr) → sides.description d ≡ true → AreApart sides (with_socket_by S d (with_name name))
    called d name on = apart_socket S d (with_name name) ours.apart on (λ s. named_on name s)

    to : (d : ℕ) → sides.description d ≡ true → (name : Addr) → Q (bind_to S d name)
    to d on Addr.Unnamed = maybe Q (free_name S.abstract_names) _ _ ours.apart
        (λ name h. apart_same _ (called d (Addr.Abstract name) on) refl refl)
    to d on (Addr.Path name) = either Q (is_some (named name S.paths)) _ _ (λ b. ours.apart)
        (λ b. apart_same _ (called d (Addr.Path name) on) refl refl)
    to d on (Addr.Abstract name) = either Q (is_some (named name S.abstract_names)) _ _ (λ b. ours.apart)
        (λ b. apart_same _ (called d (Addr.Abstract name) on) refl refl)

unlink_stays : (sides : Sides) (S : State) (path : Name) → AreApart sides S → AreApart sides (unlink S path).next
unfolding unlink
unlink_stays sides S path apart = either Q (not (is_valid_path path)) _ _ (λ b. apart)
    (λ b. either Q (not (is_some (named path S.paths))) _ _ (λ c. apart) (λ c. apart_same _ apart refl refl))
  where
    Q : Outcome → Type 0
    Q o = AreApart sides o.next

passcred_stays : (sides : Sides) (S : State) (p : ℕ) (fd : Fd) (opt : SockOpt) (value : ℕ) → Ours sides S p (Request.SetOpt fd opt value) →
    AreApart sides (set_opt S p fd opt value).next
unfolding set_opt
passcred_stays sides S p fd opt value ours = by_own Q S p (Request.SetOpt fd opt value) fd _ (λ e. ours.apart)
    (λ d s leads there. by_option d s (led_aside sides S p fd.0 d ours.apart leads ∙ ours.mine) opt)
  where
    Q : Outcome → Type 0
    Q o = AreApart sides o.next

    passing : (T : State) (d : ℕ) (on : Bool) → AreApart sides T → sides.description d ≡ true → AreApart sides (with_socket_by T d
        (with_passcred on))
    passing T d on apart mine = apart_socket T d (with_passcred on) apart mine
        (λ s h. record { tied = h.tied; pending = h.pending; rights = h.rights })

    by_option : (d : ℕ) (s : Socket) → sides.description d ≡ true → (o : SockOpt) → Q (change_option S d s value o)
    by_option d s mine SockOpt.Kind = ours.apart
    by_option d s mine SockOpt.Error = ours.apart
    by_option d s mine SockOpt.PassCred = either Q (value == 0) _ _ (λ b. passing S d false ours.apart mine)
        (λ b. either Q (not (is_unnamed_addr s.name) || is_some (tied_socket s.phase)) _ _ (λ c. passing S d true ours.apart mine)
        (λ c. maybe Q (free_name S.abstract_names) _ _ ours.apart
        (λ name free. passing _ d true
        (apart_same _ (apart_socket S d (with_name (Addr.Abstract name)) ours.apart mine (λ s. named_on (Addr.Abstract name) s)) refl refl)
        mine)))
    by_option d s mine SockOpt.PeerCred = ours.apart
    by_option d s mine SockOpt.AcceptConn = ours.apart
    by_option d s mine SockOpt.QueueLimit = either Q (not (is_stream s.kind)) _ _ (λ b. ours.apart)
        (λ b. either Q (not (may_limit value)) _ _ (λ c. ours.apart)
        (λ c. apart_socket S d (with_queue_limit value) ours.apart mine
        (λ s h. record { tied = h.tied; pending = h.pending; rights = h.rights })))

-- ---- connecting

pushed_end : (sides : Sides) (ns : List ℕ) (n : ℕ) → AllByRecursion (λ d. sides.description d ≡ true) ns → sides.description n ≡ true →
    AllByRecursion (λ d. sides.description d ≡ true) (ns ++ n ∷ [])
pushed_end sides [] n on mine = (mine, tt)
pushed_end sides (m ∷ ns) n on mine = (on.0, pushed_end sides ns n on.1 mine)

awaiting_on : {sides : Sides} (e : ℕ) (s : Socket) → sides.description e ≡ true → SocketIsOn sides true s →
    SocketIsOn sides true (awaiting e s)
awaiting_on {sides} e s mine on = record {
  tied = λ d is. on.tied d
      (ties s.phase d is);
  pending = ends s.phase on.pending;
  rights = on.rights;
}
  where
    ties : (x : Phase) (d : ℕ) → tied_socket (phase_with_pending e x) ≡ Some d → tied_socket x ≡ Some d
    ties idle d h = h
    ties (listening backlog cred) d h = absurd (cc h)
    ties (connected peer) d h = h
    ties (associated target) d h = h

    ends : (x : Phase) → AllByRecursion (λ d. sides.description d ≡ true) (pending_ends x) →
        AllByRecursion (λ d. sides.description d ≡ true) (pending_ends (phase_with_pending e x))
    ends idle h = h
    ends (listening backlog cred) h = pushed_end sides backlog.pending e h mine
    ends (connected peer) h = h
    ends (associated target) h = h

associated_on : {sides : Sides} (target : Option ℕ) (s : Socket) → ((t : ℕ) → target ≡ Some t → sides.description t ≡ true) →
    SocketIsOn sides true s → SocketIsOn sides true (with_association target s)
associated_on {sides} target s theirs on = record {
  tied = λ d is. go s.phase on.tied d is;
  pending = ends s.phase on.pending;
  rights = on.rights;
}
  where
    by_target : (x : Option ℕ) → ((t : ℕ) → x ≡ Some t → sides.description t ≡ true) → (d : ℕ) →
        tied_socket (phase_by_association x) ≡ Some d → sides.description d ≡ true
    by_target None h d is = absurd (cc is)
    by_target (Some t) h d is = let same : t ≡ d = cc is in ap sides.description (sym same) ∙ h t refl

    go : (x : Phase) → ((d : ℕ) → tied_socket x ≡ Some d → sides.description d ≡ true) → (d : ℕ) →
        tied_socket (phase_with_association target x) ≡ Some d → sides.description d ≡ true
    go idle h d is = by_target target theirs d is
    go (listening backlog cred) h d is = absurd (cc is)
    go (connected peer) h d is = h d is
    go (associated old) h d is = by_target target theirs d is

    none_waits : (x : Option ℕ) → AllByRecursion (λ d. sides.description d ≡ true) (pending_ends (phase_by_association x))
    none_waits None = tt
    none_waits (Some t) = tt

    ends : (x : Phase) → AllByRecursion (λ d. sides.description d ≡ true) (pending_ends x) →
        AllByRecursion (λ d. sides.description d ≡ true) (pending_ends (phase_with_association target x))
    ends idle h = none_waits target
    ends (listening backlog cred) h = h
    ends (connected peer) h = tt
    ends (associated old) h = none_waits target

connect_stays : (sides : Sides) (S : State) (p : ℕ) (fd : Fd) (addr : Addr) → Ours sides S p (Request.Connect fd addr) →
    AreApart sides (connect S p fd addr).next
unfolding connect
connect_stays sides S p fd addr ours = maybe Q (process_at S p) _ _ ours.apart
    (λ P here. by_own Q S p (Request.Connect fd addr) fd _ (λ e. ours.apart)
    (λ d s leads there.
    let mine = led_aside sides S p fd.0 d ours.apart leads ∙ ours.mine in
    either Q (is_dgram s.kind) _ _ (λ b. datagram d mine s.kind) (λ b. stream d mine s (own_cred p P))))
  where
    Q : Outcome → Type 0
    Q o = AreApart sides o.next

    datagram : (d : ℕ) → sides.description d ≡ true → (kind : SockType) → Q (connect_datagram S d kind addr)
    datagram d mine kind = either Q (not (is_valid_addr addr)) _ _ (λ b. ours.apart)
        (λ b. either Q (is_unnamed_addr addr) _ _
        (λ c. apart_socket S d (with_association None) ours.apart mine (λ s on. associated_on None s (λ t is. absurd (cc is)) on))
        (λ c. by_addr Q S kind addr _ (λ e. ours.apart)
        (λ t target is at. either Q (takes_from d target.phase) _ _
        (λ e. apart_socket S d (with_association (Some t)) ours.apart mine
        (λ s on. associated_on (Some t) s (λ k same. let eq : t ≡ k = cc same in ap sides.description (sym eq)
        ∙ ours.asks kind addr t target refl is)
        on))
        (λ e. ours.apart))))

    to_one : (d : ℕ) → sides.description d ≡ true → (cred : Cred) (l : ℕ) (other : Socket) → sides.description l ≡ true →
        Q (connect_to S d cred l other)
    to_one d mine cred l other theirs = maybe Q (listener_of other.phase) _ _ ours.apart
        (λ kept h. either Q (nat_le kept.backlog.limit (length kept.backlog.pending)) _ _ (λ b. ours.apart)
        (λ b.
        let e : ℕ = next_description S in
        let new : sides.description e ≡ true = ours.descriptions e (omega arith) in
        let U : State = with_socket_by S l (awaiting e) in
        let D : Description = socket_description no_open_flags (server_end other d cred) in
        let long = length-changed S.descriptions l (changed (awaiting e)) in
        apart_socket (with_new U D) d (tied e kept.cred)
        (apart_new U D (apart_socket S l (awaiting e) ours.apart theirs (λ s on. awaiting_on e s new on))
        (ours.descriptions (length U.descriptions) (omega (arith, long)))
        (record { tied = λ k is. let same : d ≡ k = cc is in ap sides.description (sym same) ∙ mine; pending = tt; rights = tt })) mine
        (λ s on. record {
          tied = λ k is. let same : e ≡ k = cc is in ap sides.description (sym same)
              ∙ new;
          pending = tt;
          rights = on.rights;
        })))

    stream : (d : ℕ) → sides.description d ≡ true → (s : Socket) (cred : Cred) → Q (connect_stream S d s addr cred)
    stream d mine s cred = either Q (not (is_valid_addr addr) || is_unnamed_addr addr || is_some (listener_of s.phase)) _ _
        (λ b. ours.apart)
        (λ b. either Q (is_some (peer_of s.phase)) _ _ (λ c. ours.apart)
        (λ c. by_addr Q S s.kind addr _ (λ e. ours.apart)
        (λ l other is at. to_one d mine cred l other (ours.asks s.kind addr l other refl is))))

-- ---- sending

pushed_message : (sides : Sides) (ms : List Message) (m : Message) → AllByRecursion (λ (k : Message). RightsOn sides k.rights) ms →
    RightsOn sides m.rights → AllByRecursion (λ (k : Message). RightsOn sides k.rights) (ms ++ m ∷ [])
pushed_message sides [] m on rights = (rights, tt)
pushed_message sides (x ∷ ms) m on rights = (on.0, pushed_message sides ms m on.1 rights)

enqueue_stays : (sides : Sides) (S : State) (limit : Option ℕ) (t : ℕ) (other : Socket) (m : Message) → AreApart sides S →
    sides.description t ≡ true → RightsOn sides m.rights → AreApart sides (enqueue S limit t other m).next
enqueue_stays sides S limit t other m apart theirs rights = either Q (is_stream other.kind && (length m.bytes == 0)) _ _ (λ b. apart)
    (λ b. either Q (is_over_limit S limit m) _ _ (λ c. apart)
    (λ c. either Q (not (has_room other)) _ _ (λ f. apart)
    (λ f. apart_socket S t (sent m) apart theirs (λ s on. record {
      tied = on.tied;
      pending = on.pending;
      rights = pushed_message sides s.queue (sent_part s m) on.rights rights;
    }))))
  where
    Q : Outcome → Type 0
    Q o = AreApart sides o.next

from_stays : (sides : Sides) (S : State) (p : ℕ) (request : Request) (limit : Option ℕ) (d : ℕ) (s : Socket) (m : Message) →
    Ours sides S p request → sides.description d ≡ true → socket_at S d ≡ Some s → RightsOn sides m.rights →
    AreApart sides (send_from S limit d s (asked_addr request) m).next
from_stays sides S p request limit d s m ours mine here rights = either Q (is_dgram s.kind) _ _
    (λ b. either Q (nat_lt record_bytes_limit (length m.bytes)) _ _ (λ c. ours.apart)
    (λ c. either Q s.write_shut _ _ (λ e. ours.apart) (λ e. by_address (asked_addr request) refl (record m { from = Some s.name }) rights)))
    (λ b. stream (asked_addr request))
  where
    Q : Outcome → Type 0
    Q o = AreApart sides o.next

    on : SocketIsOn sides true s
    on = socket_on sides S d s ours.apart mine here

    to_target : (t : ℕ) (target : Socket) (m : Message) → sides.description t ≡ true → RightsOn sides m.rights →
        Q (send_to_target S limit d t target m)
    to_target t target m theirs rights = either Q (not (takes_from d target.phase)) _ _ (λ b. ours.apart)
        (λ b. either Q target.read_shut _ _ (λ c. ours.apart) (λ c. enqueue_stays sides S limit t target m ours.apart theirs rights))

    by_association : (target : Option ℕ) → association_of s.phase ≡ target → (m : Message) → RightsOn sides m.rights →
        Q (send_by_association S limit d target m)
    by_association None is m rights = ours.apart
    by_association (Some t) is m rights = maybe Q (socket_at S t) _ _
        (apart_socket S d (with_association None) ours.apart mine (λ u h. associated_on None u (λ k same. absurd (cc same)) h))
        (λ target h. to_target t target m (on.tied t (tied_target s.phase t is)) rights)

    by_address : (addr : Option Addr) → asked_addr request ≡ addr → (m : Message) → RightsOn sides m.rights → Q (send_by S limit d s addr m)
    by_address None asked m rights = by_association (association_of s.phase) refl m rights
    by_address (Some a) asked m rights = by_addr Q S s.kind a _ (λ e. ours.apart)
        (λ t target is there. to_target t target m (ours.asks s.kind a t target asked is) rights)

    to_peer : (peer : Option ℕ) → peer_of s.phase ≡ peer → Q (send_connected S limit s.write_shut peer m)
    to_peer None is = ours.apart
    to_peer (Some t) is = maybe Q (socket_at S t) _ _ ours.apart
        (λ other h. either Q (s.write_shut || other.read_shut) _ _ (λ b. ours.apart) (λ b. either Q (is_too_long other m) _ _
        (λ c. ours.apart)
        (λ c. enqueue_stays sides S limit t other m ours.apart (on.tied t (tied_peer s.phase t is)) rights)))

    stream : (addr : Option Addr) → Q (send_stream S limit s.write_shut (peer_of s.phase) addr m)
    stream None = to_peer (peer_of s.phase) refl
    stream (Some a) = ours.apart

behind_on : (sides : Sides) (table : List (Option Descriptor)) (ns ds : List ℕ) → TableIsOn sides true table →
    descriptions_behind table ns ≡ Some ds → RightsOn sides ds
behind_on sides table [] ds on is = let same : [] ≡ ds = cc is in subst (RightsOn sides) same tt
behind_on sides table (n ∷ ns) ds on is = by_place (λ ks same. behind_on sides table ns ks on same) (place table n) refl is
  where
    more : (e : Descriptor) → sides.description e.description ≡ true → (x : Option (List ℕ)) →
        ((ks : List ℕ) → x ≡ Some ks → RightsOn sides ks) →
        (elim x as (λ _. Option (List ℕ)) [ None ↦ None | Some ks ↦ Some (e.description ∷ ks) ]) ≡ Some ds → RightsOn sides ds
    more e mine None rest h = absurd (cc h)
    more e mine (Some ks) rest h = let same : e.description ∷ ks ≡ ds = cc h in subst (RightsOn sides) same (mine, rest ks refl)

    by_place : ((ks : List ℕ) → descriptions_behind table ns ≡ Some ks → RightsOn sides ks) → (x : Option Descriptor) →
        place table n ≡ x → (elim x as (λ _. Option (List ℕ)) [
          | None ↦ None
          | Some e ↦ elim (descriptions_behind table ns) as (λ _. Option (List ℕ)) [ None ↦ None | Some ks ↦ Some (e.description ∷ ks) ]
        ]) ≡ Some ds → RightsOn sides ds
    by_place rest None at h = absurd (cc h)
    by_place rest (Some e) at h = more e (on n e at) (descriptions_behind table ns) rest h

send_stays : (sides : Sides) (S : State) (p tag : ℕ) (fd : Fd) (addr : Option Addr) (bytes control : List ℕ) (flags : MsgFlags) →
    Ours sides S p (Request.SendMsg fd addr bytes control flags) → AreApart sides (send_msg S p tag fd addr bytes control flags).next
unfolding send_msg send_read send_with
send_stays sides S p tag fd addr bytes control flags ours = maybe Q (process_at S p) _ _ ours.apart
    (λ P here. by_own Q S p request fd _ (λ e. ours.apart)
    (λ d s leads there. either Q (not (are_send_flags flags)) _ _ (λ b. ours.apart)
    (λ b. by_control P d s (led_aside sides S p fd.0 d ours.apart leads ∙ ours.mine) there (control_in control))))
  where
    request : Request
    request = Request.SendMsg fd addr bytes control flags

    Q : Outcome → Type 0
    Q o = AreApart sides o.next

    by_given : (P : Process) (d : ℕ) (s : Socket) → sides.description d ≡ true → socket_at S d ≡ Some s → (given : Option Cred)
        (rights : List ℕ) → RightsOn sides rights → Q (send_as S (sending tag p P addr bytes) d s given rights)
    by_given P d s mine there given rights on = go (sender_cred_refusal S p P given)
      where
        go : (o : Option Errno) → Q (elim o as (λ _. Outcome) [
          | Some e ↦ refuse S e
          | None ↦ if not (is_sendable_addr addr) then refuse S Errno.EINVAL
              else send_from S (flight_limit P) d s addr (message_of (sending tag p P addr bytes) (sent_cred p P given) rights)
        ])
        go (Some e) = ours.apart
        go None = either Q (not (is_sendable_addr addr)) _ _ (λ b. ours.apart)
            (λ b. from_stays sides S p (Request.SendMsg fd addr bytes control flags) (flight_limit P) d s _ ours mine there on)

    by_control : (P : Process) (d : ℕ) (s : Socket) → sides.description d ≡ true → socket_at S d ≡ Some s → (o : Option Control) →
        Q (send_read S (sending tag p P addr bytes) d s o)
    by_control P d s mine there None = ours.apart
    by_control P d s mine there (Some c) = either Q (not (is_sendable_control s.kind bytes c)) _ _ (λ b. ours.apart)
        (λ b. maybe Q (descriptions_behind (table_of S p) c.rights) _ _ ours.apart
        (λ rights behind. by_given P d s mine there c.cred rights (behind_on sides (table_of S p) c.rights rights (table_on ours) behind)))

-- ---- all calls

act_stays : (sides : Sides) (S : State) (p tag : ℕ) (request : Request) → Ours sides S p request → is_off request ≡ false →
    goes_by_descriptors request ≡ false → AreApart sides (outcome S p tag request).next
unfolding outcome
act_stays sides S p tag (Request.Open path mode flags) ours on by = open_stays sides S p path mode flags ours
act_stays sides S p tag (Request.Create path mode flags) ours on by = create_stays sides S p path mode flags ours
act_stays sides S p tag (Request.MemFd flags) ours on by = object_stays sides S p (Request.MemFd flags) _ (memory []) flags ours
act_stays sides S p tag (Request.EventFd value semaphore flags) ours on by =
    object_stays sides S p (Request.EventFd value semaphore flags) _ (counter semaphore value) flags ours
act_stays sides S p tag (Request.Pipe flags) ours on by = pipe_stays sides S p flags ours
act_stays sides S p tag (Request.Unlink path) ours on by = unlink_stays sides S path ours.apart
act_stays sides S p tag (Request.Socket kind flags) ours on by = socket_stays sides S p kind flags ours
act_stays sides S p tag (Request.SocketPair kind flags) ours on by = pair_stays sides S p kind flags ours
act_stays sides S p tag (Request.Bind fd addr) ours on by = bind_stays sides S p fd addr ours
act_stays sides S p tag (Request.Connect fd addr) ours on by = connect_stays sides S p fd addr ours
act_stays sides S p tag (Request.SetOpt fd opt value) ours on by = passcred_stays sides S p fd opt value ours
act_stays sides S p tag (Request.SendMsg fd addr bytes control flags) ours on by = send_stays sides S p tag fd addr bytes control flags ours
act_stays sides S p tag Request.Fork ours on by = fork_stays sides S p ours
act_stays sides S p tag Request.Off ours on by = absurd (false≢true (sym on))
act_stays sides S p tag request ours on by = absurd (false≢true (sym by))

each_stays : (sides : Sides) (S : State) (p tag : ℕ) (request : Request) → Ours sides S p request → is_off request ≡ false →
    AreApart sides (outcome S p tag request).next
each_stays sides S p tag request ours on = bool_cases (goes_by_descriptors request)
    (λ by. (call_agrees S S p tag tag request (itself S ours.apart) ours.mine by).next.left)
    (λ by. act_stays sides S p tag request ours on by)

pub step_stays : (sides : Sides) (S T : State) (p tag : ℕ) (request : Request) (reply : Reply) (gone : List ℕ) →
    Step S p tag request reply gone T → Ours sides S p request → is_off request ≡ false → AreApart sides T
unfolding Step settled drop_unreferenced
step_stays sides S T p tag request reply gone s ours on = subst (AreApart sides) (sym s.3)
    (apart_left sides s.0 (settled s.0) (chosen s.1) (settled_keeps (length (State.descriptions s.0)) s.0) (λ d. settled_lost s.0 d))
  where
    chosen : {U : State} → Chosen S (outcome S p tag request) reply U → AreApart sides U
    chosen (own a b) = subst (AreApart sides) (sym b) (each_stays sides S p tag request ours on)
    chosen (lacking_memory a may b) = subst (AreApart sides) (sym b) ours.apart
    chosen {U} (failing a b) = let one = ((each_obeys S p tag request).failed U b).0 in
        apart_same U ours.apart (ap (λ (V : State). V.processes) one.left) (ap (λ (V : State). V.descriptions) one.left)

pub others_keep_to_their_side : OthersKeepToTheirSide
others_keep_to_their_side boot es sides j e legal at apart made on other asks opens =
    apart_again sides (before boot es (suc j))
    (step_stays (others sides) (before boot es j) (before boot es (suc j)) e.pid.0 j e.request e.reply e.released
    (moment boot es j e legal at).steps (record {
      apart = apart_others sides (before boot es j) apart;
      mine = ap not other;
      processes = λ q past. ap not (made.processes q past);
      descriptions = λ d past. ap not (made.descriptions d past);
      objects = λ o past. ap not (made.objects o past);
      asks = λ kind addr d s asked leads. ap not (asks kind addr d s asked leads);
      opens = λ path mode flags o asked leads. ap not (opens path mode flags o asked leads);
    }) on)

-- so the sides stay apart from some moment on
next_apart : (sides : Sides) (boot : State) (es : List Entry) (from j : ℕ) → IsLegal boot es → StayApart sides boot es from → from ≤ j →
    AreApart sides (before boot es j) → AreApart sides (before boot es (suc j))
next_apart sides boot es from j legal stay late apart = go (slice_get es j) refl
  where
    go : (x : Option Entry) → slice_get es j ≡ x → AreApart sides (before boot es (suc j))
    go None past = subst (λ (l : List Entry). AreApart sides (replay boot l)) (sym (take_past es j past)) apart
    go (Some e) at = bool_cases (sides.process e.pid.0)
        (λ mine. call_stays sides boot es j e legal at apart (stay.theirs j e late at mine))
        (λ other. others_keep_to_their_side boot es sides j e legal at apart (made_from sides boot es from j legal late stay.made)
        (stay.on j e late at) other (stay.asks j e late at other) (stay.opens j e late at other))

pub apart_from : (sides : Sides) (boot : State) (es : List Entry) (from i : ℕ) → IsLegal boot es → StayApart sides boot es from → from ≤ i →
    AreApart sides (before boot es i)
apart_from sides boot es from i legal stay late =
    let w = rest_of from i late in subst (λ (k : ℕ). AreApart sides (before boot es k)) w.1 (go w.0)
  where
    go : (more : ℕ) → AreApart sides (before boot es (from + more))
    go zero = let same : from ≡ from + 0 = omega arith in subst (λ (k : ℕ). AreApart sides (before boot es k)) same stay.apart
    go (suc more) =
        let same : suc (from + more) ≡ from + suc more = omega arith in
        subst (λ (k : ℕ). AreApart sides (before boot es k)) same
        (next_apart sides boot es from (from + more) legal stay (omega arith) (go more))
