-- Of each call: that its outcome obeys what all do. One lemma a call, and one line of `act_obeys`, at the end. Those that only ask stand in
-- Asking, those of names and connections in NameCalls, those of messages in MessageCalls, those that make file objects in MakingCalls.
use Rattle.std.proofs.Common.{◌≡◌, ℕ, suc, ◌<◌, Bool, true, false, not, ◌&&◌, ◌==◌, if◌then◌else◌, cond, List, [], ◌∷◌, length, map}
use Rattle.std.proofs.Common.{Option, Some, None, Result, Ok, Err, refl, ap, sym, ◌∙◌, subst, arith, ◌||◌}
use Rattle.std.specs.Prelude.{min, nat_le, nat_lt, ℤ, pos, negsuc, ◌+ℤ◌, is_some, count_by}
use Rattle.std.proofs.lemmas.Bool.{eqb-true, eq-eqb, false≢true}
use Rattle.std.proofs.lemmas.List.{length-map}
use Rattle.std.proofs.lemmas.List.Sums.{sum_by-cons}
use Rattle.ux_model.specs.Types.{Errno, Fd, Name, SockType, Mode, OpenFlags, Whence, Request, Reply}
use Rattle.ux_model.specs.Places.{place, filled}
use Rattle.ux_model.specs.Limits.{made_limit, read_limit, offset_limit}
use Rattle.ux_model.specs.Flags.{asks_cloexec, can_read, can_write, no_flags}
use Rattle.ux_model.specs.Object.{Body, View, ObjectError, would_block, full, invalid, read_body, write_body, is_memory, is_pipe, with_body}
use Rattle.ux_model.specs.Object.{memory, counter, after_failure}
use Rattle.ux_model.specs.Names.{PathTarget, file, same_name, named, is_valid_path}
use Rattle.ux_model.specs.Socket.{Socket}
use Rattle.ux_model.specs.Description.{Description, to_object, to_socket, socket_of, socket_in}
use Rattle.ux_model.specs.Process.{Process, Descriptor, own_cred, lowest_free, lowest_free_from, two_lowest_free, descriptor, copy_of}
use Rattle.ux_model.specs.Process.{kept_on_exec, with_cloexec}
use Rattle.ux_model.specs.State.{State, process_at, description_at, socket_at, table_of, next_description, with_object, with_description}
use Rattle.ux_model.specs.State.{with_table, with_new}
use Rattle.ux_model.specs.References.{path_names, orefs}
use Rattle.ux_model.specs.Outcome.{Outcome, Chosen, own, lacking_memory, failing, descriptor_at}
use Rattle.ux_model.specs.Naming.{unlink}
use Rattle.ux_model.specs.Pairing.{make_pair, with_pair}
use Rattle.ux_model.specs.Sending.{sending, message_of, flight_limit}
use Rattle.ux_model.specs.Receiving.{incoming, bytes_alone}
use Rattle.ux_model.specs.FileObjects.{holds_bytes, is_open_for}
use Rattle.ux_model.specs.Opening.{open_file, file_description}
use Rattle.ux_model.specs.Reading.{read, read_answer, read_error, offset_after_read, is_short_read}
use Rattle.ux_model.specs.Writing.{write, write_answer, offset_after_write, write_place}
use Rattle.ux_model.specs.Seeking.{lseek, seek_to, seek_base}
use Rattle.ux_model.specs.Descriptors.{dup, dup2, dup_from, set_flags, with_flags}
use Rattle.ux_model.specs.Users.{no_id, may_become, set_ids}
use Rattle.ux_model.specs.Forking.{fork, exec}
use Rattle.ux_model.specs.Closing.{close, exit, off}
use Rattle.ux_model.specs.Release.{settled, released}
use Rattle.ux_model.specs.Step.{Step, outcome}
use Rattle.ux_model.specs.Asking.{asks}
use Rattle.ux_model.specs.Invariants.{LeftByRefusal}
use Rattle.ux_model.proofs.Changes.Named.{table_in, named_there}
use Rattle.ux_model.proofs.Changes.Walk.{either, maybe, by_target, by_path, found}
use Rattle.ux_model.proofs.Changes.Bounds.{new_bounded}
use Rattle.ux_model.proofs.Lists.OnePlace.{same_at}
use Rattle.ux_model.proofs.Changes.Reaching.{May, tables_alone, lives_too, users_too, files_too, paths_too, bindings_too, may_change, with_ids_reached, Reaches, still}
use Rattle.ux_model.proofs.Changes.Reaching.{description_made, peers_made, object_changed, paths_taken, turned_off, same_target, wider}
use Rattle.ux_model.proofs.Changes.Reaching.{NamesWhatIsThere, put_names, taken_names, same_names, kept_names, none_counts}
use Rattle.ux_model.proofs.Changes.Reaching.{with_table_reached, with_child_reached, with_process_reached, with_description_reached}
use Rattle.ux_model.proofs.Changes.Reaching.{some_filled, some_pushed}
use Rattle.ux_model.proofs.Changes.Obeying.{failures, FailAlike, tells_choice, Obeys, Call, refuses, uses, answers, may_fail, there_of, widened}
use Rattle.ux_model.proofs.Steps.NameCalls.{socket_obeys, bind_obeys, listen_obeys, connect_obeys, accept_obeys, shutdown_obeys}
use Rattle.ux_model.proofs.Steps.MakingCalls.{object_obeys, create_obeys, pipe_obeys, two_names}
use Rattle.ux_model.proofs.Steps.OptionCalls.{get_opt_obeys, set_opt_obeys}
use Rattle.ux_model.proofs.Steps.Asking.{each_asks, asking_obeys}
use Rattle.ux_model.proofs.Steps.MessageCalls.{flight_limit_is, from_obeys, send_obeys, receive_obeys, recv_obeys}
use Rattle.ux_model.proofs.Changes.HeldOpen.{IsHeldOpen, KeepsObjects, same_objects, held_changed, held_by_changed, with_process_objects}
use Rattle.ux_model.proofs.Changes.HeldOpen.{with_table_objects}

-- ---- descriptors

pub dup_obeys : (S : State) (p : ℕ) (fd : Fd) → Call S (dup S p fd)
unfolding dup
dup_obeys S p fd = found (Call S) S p fd _ (refuses refl refl)
    (λ e D g h. maybe (Call S) (lowest_free (table_of S p)) _ _ (refuses refl refl)
    (λ n low. answers refl refl refl (with_table_objects S p _) (with_table_reached S p _ still
    (λ sound. put_names S (table_of S p) (table_of S p) n (copy_of e) (there_of S e.description D h) (same_names S (table_of S p))))))

pub dup2_obeys : (S : State) (p : ℕ) (fd to : Fd) → Call S (dup2 S p fd to)
unfolding dup2
dup2_obeys S p fd to = found (Call S) S p fd _ (refuses refl refl)
    (λ e D g h. either (Call S) (nat_le (length (table_of S p)) to.0) _ _ (λ b. refuses refl refl)
    (λ b. either (Call S) (to.0 == fd.0) _ _ (λ b. answers refl refl refl refl still)
    (λ b. answers refl refl refl (with_table_objects S p _) (with_table_reached S p _ still
    (λ sound. put_names S (table_of S p) (table_of S p) to.0 (copy_of e) (there_of S e.description D h) (same_names S (table_of S p)))))))

pub dup_from_obeys : (S : State) (p : ℕ) (fd minimum : Fd) → Call S (dup_from S p fd minimum)
unfolding dup_from
dup_from_obeys S p fd minimum = found (Call S) S p fd _ (refuses refl refl) (λ e D g h.
    either (Call S) (nat_le (length (table_of S p)) minimum.0) _ _ (λ b. refuses refl refl)
    (λ b. maybe (Call S) (lowest_free_from minimum.0 (table_of S p)) _ _ (refuses refl refl)
    (λ n low. answers refl refl refl (with_table_objects S p _) (with_table_reached S p _ still
    (λ sound. put_names S (table_of S p) (table_of S p) n (copy_of e) (there_of S e.description D h) (same_names S (table_of S p)))))))

pub flags_obeys : (S : State) (p : ℕ) (fd : Fd) (flags : OpenFlags) → Call S (set_flags S p fd flags)
unfolding set_flags
flags_obeys S p fd flags = found (Call S) S p fd _ (refuses refl refl) (λ e D g h.
    let T : State = with_description S e.description (with_flags flags D) in
    let there : is_some (description_at T e.description) ≡ true =
    some_filled S.descriptions e.description e.description (with_flags flags D) (there_of S e.description D h) in
    answers refl refl refl (with_table_objects T p _)
    (with_table_reached T p _ (with_description_reached S e.description D (with_flags flags D) still h
    (λ sound. same_target S e.description D.target))
    (λ sound. put_names T (table_of T p) (table_of T p) fd.0 (with_cloexec (asks_cloexec flags) e) there (same_names T (table_of T p)))))

pub close_obeys : (S : State) (p : ℕ) (fd : Fd) → Call S (close S p fd)
unfolding close
close_obeys S p fd = found (Call S) S p fd _ (refuses refl refl) (λ e D g h.
    answers refl refl refl (with_table_objects S p _) (with_table_reached S p _ still (λ sound. taken_names S (table_of S p) fd.0)))

-- ---- ends

pub exit_obeys : (S : State) (p : ℕ) → Obeys S lives_too (exit S p)
unfolding exit
exit_obeys S p = maybe (Obeys S lives_too) (process_at S p) _ _ (refuses refl refl)
    (λ P h. answers refl refl refl (with_process_objects S p _)
    (with_process_reached S p P (record P { exited = true; table = map (λ e. None) P.table }) still h
    (λ d. none_counts d P.table) (length-map P.table _) (record { user = refl; group = refl; privileged = refl })))

pub fork_obeys : (S : State) (p : ℕ) → Obeys S lives_too (fork S p)
unfolding fork
fork_obeys S p = maybe (Obeys S lives_too) (process_at S p) _ _ (refuses refl refl)
    (λ P h. either (Obeys S lives_too) (nat_le made_limit (length S.processes)) _ _ (λ b. refuses refl refl)
    (λ b. answers refl refl refl refl (with_child_reached S p P still h)))

pub exec_obeys : (S : State) (p : ℕ) → Call S (exec S p)
unfolding exec
exec_obeys S p = maybe (Call S) (process_at S p) _ _ (refuses refl refl) (λ P h. answers refl refl refl (with_table_objects S p _)
    (with_table_reached S p (map kept_on_exec P.table) still
    (λ sound. subst (λ (l : List (Option Descriptor)). NamesWhatIsThere S l (map kept_on_exec P.table)) (sym (ap table_in h))
    (kept_names S P.table))))

pub off_obeys : (S : State) → Obeys S bindings_too (off S)
unfolding off
off_obeys S = answers refl refl refl refl (turned_off still refl refl)

-- ---- ids

pub ids_obey : (S : State) (p uid gid : ℕ) → Obeys S users_too (set_ids S p uid gid)
unfolding set_ids
ids_obey S p uid gid = maybe (Obeys S users_too) (process_at S p) _ _ (refuses refl refl)
    (λ P h. either (Obeys S users_too) ((uid == no_id) || (gid == no_id)) _ _ (λ b. refuses refl refl)
    (λ b. either (Obeys S users_too) (not (may_become uid gid P)) _ _ (λ b. refuses refl refl)
    (λ b. answers refl refl refl (with_process_objects S p _) (with_ids_reached S p uid gid P still h))))

-- ---- paths

pub unlink_obeys : (S : State) (path : Name) → Obeys S paths_too (unlink S path)
unfolding unlink
unlink_obeys S path = either (Obeys S paths_too) (not (is_valid_path path)) _ _ (λ b. refuses refl refl)
    (λ b. either (Obeys S paths_too) (not (is_some (named path S.paths))) _ _ (λ b. refuses refl refl)
    (λ b. answers refl refl refl refl (paths_taken (λ e. not (same_name e.0 path)) still refl)))

-- ---- pairs

-- the two sockets
pair_made : (S : State) (kind : SockType) (p : ℕ) (P : Process) (flags : OpenFlags) →
    Reaches S tables_alone (with_pair S kind flags (own_cred p P))
pair_made S SockType.Stream p P flags = peers_made _ _ still
    (record {
      first_refs = λ n. refl;
      second_refs = λ n. refl;
      first_peer = ap Some (omega arith);
      second_peer = refl;
      first_bounds =
          new_bounded SockType.Stream;
      second_bounds = new_bounded SockType.Stream;
    })
pair_made S SockType.Dgram p P flags = description_made _
    (description_made _ still (λ sound o h. absurd (cc h)) (record { refs = λ d. refl; peer = refl }) (new_bounded SockType.Dgram))
    (λ sound o h. absurd (cc h)) (record { refs = λ d. refl; peer = refl }) (new_bounded SockType.Dgram)
pair_made S SockType.Seq p P flags = peers_made _ _ still
    (record {
      first_refs = λ n. refl;
      second_refs = λ n. refl;
      first_peer = ap Some (omega arith);
      second_peer = refl;
      first_bounds =
          new_bounded SockType.Seq;
      second_bounds = new_bounded SockType.Seq;
    })

-- and two entries for them
pair_names : (S : State) (p : ℕ) (A B : Description) (P : Process) (n : ℕ × ℕ) (flags : OpenFlags) → process_at S p ≡ Some P →
    NamesWhatIsThere (with_new (with_new S A) B) (table_of S p)
    (filled (filled P.table n.0 (descriptor flags (next_description S))) n.1 (descriptor flags (suc (next_description S))))
pair_names S p A B P n flags here =
    let same : table_of S p ≡ P.table = ap table_in here in
    subst (λ (t : List (Option Descriptor)). NamesWhatIsThere (with_new (with_new S A) B) (table_of S p)
    (filled (filled t n.0 (descriptor flags (next_description S))) n.1 (descriptor flags (suc (next_description S))))) same
    (two_names S p A B n flags)

pub pair_obeys : (S : State) (p : ℕ) (kind : SockType) (flags : OpenFlags) → Call S (make_pair S p kind flags)
unfolding make_pair
pair_obeys S p kind flags = maybe (Call S) (process_at S p) _ _ (refuses refl refl)
    (λ P h. maybe (Call S) (two_lowest_free P.table) _ _ (refuses refl refl)
    (λ n low. answers refl refl refl (with_table_objects (with_pair S kind flags (own_cred p P)) p _)
    (with_table_reached (with_pair S kind flags (own_cred p P)) p _ (pair_made S kind p P flags)
    (λ sound. pair_names S p _ _ P n flags h))))

-- ---- open

-- a path leads to its file object
first_named : (path : Name) (o : ℕ) (e : Name × PathTarget) (es : List (Name × PathTarget)) (b : Bool) →
    (if b then Some e.1 else named path es) ≡ Some (file o) →
    (named path es ≡ Some (file o) → 0 < count_by (λ e. path_names o e.1) es) → 0 < count_by (λ e. path_names o e.1) (e ∷ es)
first_named path o e es true h rest =
    let s = sum_by-cons (λ (e : Name × PathTarget). cond (path_names o e.1) 1 0) e es in
    let is : e.1 ≡ file o = cc h in
    let one : cond {A = ℕ} (path_names o e.1) 1 0 ≡ 1 = ap (λ t. cond {A = ℕ} (path_names o t) 1 0) is
    ∙ ap (λ b. cond {A = ℕ} b 1 0) (eq-eqb o o refl) in
    omega (arith, s, one)
first_named path o e es false h rest =
    let s = sum_by-cons (λ (e : Name × PathTarget). cond (path_names o e.1) 1 0) e es in
    let r : 0 < count_by (λ e. path_names o e.1) es = rest h in
    omega (arith, s, r)

named_counts : (path : Name) (o : ℕ) (es : List (Name × PathTarget)) → named path es ≡ Some (file o) →
    0 < count_by (λ e. path_names o e.1) es
named_counts path o [] h = absurd (cc h)
named_counts path o (e ∷ es) h = first_named path o e es (same_name e.0 path) h (named_counts path o es)

name_counts : (S : State) (path : Name) (o : ℕ) → named path S.paths ≡ Some (file o) → 0 < orefs S o
unfolding orefs
name_counts S path o h = let n = named_counts path o S.paths h in omega (arith, n)

-- a new description of the file object that a path names, and an entry for it
opened : (S : State) (p : ℕ) (path : Name) (mode : Mode) (flags : OpenFlags) (o n : ℕ) → named path S.paths ≡ Some (file o) →
    Reaches S tables_alone (with_table (with_new S (file_description o mode flags)) p
    (filled (table_of S p) n (descriptor flags (next_description S))))
opened S p path mode flags o n is =
    let D : Description = file_description o mode flags in
    let T : State = with_new S D in
    let made : Reaches S tables_alone T = description_made D still
    (λ sound k h. subst (λ m. is_some (place S.objects m) ≡ true) (eqb-true o k h) (named_there S sound.held o (name_counts S path o is)))
    (record { refs = λ d. refl; peer = refl }) tt in
    with_table_reached T p _ made (λ sound. put_names T (table_of T p) (table_of T p) n (descriptor flags (next_description S))
    (some_pushed S.descriptions D) (same_names T (table_of T p)))

pub open_obeys : (S : State) (p : ℕ) (path : Name) (mode : Mode) (flags : OpenFlags) → Call S (open_file S p path mode flags)
unfolding open_file
open_obeys S p path mode flags = either (Call S) (not (is_valid_path path)) _ _ (λ b. refuses refl refl)
    (λ b. maybe (Call S) (named path S.paths) _ _ (refuses refl refl)
    (λ t is. by_path (Call S) t _ _
    (λ o led. maybe (Call S) (lowest_free (table_of S p)) _ _ (refuses refl refl)
    (λ n low. answers refl refl refl (with_table_objects (with_new S (file_description o mode flags)) p _)
    (opened S p path mode flags o n (is ∙ ap Some led))))
    (λ d led. refuses refl refl)))

-- ---- file objects

-- the description and its object change
both_changed : (S : State) (o n : ℕ) (held : IsHeldOpen S o) (old new : View) → place S.objects o ≡ Some old → new.opened ≡ old.opened →
    Reaches S files_too (with_object (with_description S held.entry.description (record held.description { offset = n })) o new)
both_changed S o n held old new there opened =
    let d : ℕ = held.entry.description in
    object_changed o old new (with_description_reached S d held.description (record held.description { offset = n }) still held.there
    (λ sound. same_target S d held.description.target)) there opened refl

-- and the object is held open still
both_kept : (S : State) (o n : ℕ) (held : IsHeldOpen S o) (new : View) →
    KeepsObjects S (with_object (with_description S held.entry.description (record held.description { offset = n })) o new)
both_kept S o n held new = held_changed S (with_description S held.entry.description (record held.description { offset = n })) o new refl
    (held_by_changed S o held (record held.description { offset = n }) held.leads)

-- and has failed as often
body_alike : (S : State) (o : ℕ) (view : View) (body : Body) → place S.objects o ≡ Some view →
    FailAlike S (with_object S o (with_body view body))
body_alike S o view body there n was = same_at failures S.objects o n (Some (with_body view body)) (sym (ap failures there))

-- by the descriptor that the call was given
abbrev held_by : (S : State) (p : ℕ) (fd : Fd) (e : Descriptor) (D : Description) (o : ℕ) → descriptor_at S p fd ≡ Some e →
    description_at S e.description ≡ Some D → D.target ≡ to_object o → IsHeldOpen S o
held_by S p fd e D o g h t = record { process = p; number = fd.0; entry = e; description = D; named = g; there = h; leads = t }

read_error_obeys : (S : State) (o : ℕ) (view : View) (e : ObjectError) → Obeys S files_too (read_error S o view e)
read_error_obeys S o view would_block = either (Obeys S files_too) (is_pipe view.body && not (is_open_for can_write S o)) _ _
    (λ b. answers refl refl refl refl still) (λ b. refuses refl refl)
read_error_obeys S o view full = refuses refl refl
read_error_obeys S o view invalid = refuses refl refl

read_answer_obeys : (S : State) (o : ℕ) (held : IsHeldOpen S o) (view : View) (r : Result (List ℕ × Body) ObjectError) →
    place S.objects o ≡ Some view →
    Obeys S files_too (read_answer S held.entry.description held.description o view r)
read_answer_obeys S o held view (Ok found) there =
    let n : ℕ = offset_after_read held.description view found.0 in
    may_fail S _ o view _ held there refl (uses refl refl refl (both_kept S o n held (with_body view found.1))
    (body_alike S o view found.1 there) (both_changed S o n held view (with_body view found.1) there refl))
read_answer_obeys S o held view (Err e) there = read_error_obeys S o view e

-- read(2) of a socket answers the bytes alone
still_error : (r : Reply) (e : Errno) → bytes_alone r ≡ Reply.Err e → r ≡ Reply.Err e
still_error Reply.Ok e h = h
still_error (Reply.Fd a) e h = h
still_error (Reply.Fds a b) e h = h
still_error (Reply.Count n) e h = h
still_error (Reply.Bytes bytes) e h = h
still_error (Reply.At n) e h = h
still_error (Reply.Received flags count bytes control from) e h = absurd (cc h)
still_error (Reply.Accepted fd addr) e h = h
still_error (Reply.Addr addr) e h = h
still_error (Reply.Opt value) e h = h
still_error (Reply.Cred cred) e h = h
still_error (Reply.Poll flags) e h = h
still_error (Reply.Polled found) e h = h
still_error (Reply.Child pid) e h = h
still_error (Reply.Flags flags) e h = h
still_error (Reply.Err f) e h = h

still_own : (r : Reply) → tells_choice r ≡ false → tells_choice (bytes_alone r) ≡ false
still_own Reply.Ok h = h
still_own (Reply.Fd a) h = h
still_own (Reply.Fds a b) h = h
still_own (Reply.Count n) h = h
still_own (Reply.Bytes bytes) h = h
still_own (Reply.At n) h = h
still_own (Reply.Received flags count bytes control from) h = refl
still_own (Reply.Accepted fd addr) h = h
still_own (Reply.Addr addr) h = h
still_own (Reply.Opt value) h = h
still_own (Reply.Cred cred) h = h
still_own (Reply.Poll flags) h = h
still_own (Reply.Polled found) h = h
still_own (Reply.Child pid) h = h
still_own (Reply.Flags flags) h = h
still_own (Reply.Err e) h = h

socket_read_obeys : (S : State) (o : Outcome) → Call S o → Obeys S files_too (record o { reply = bytes_alone o.reply })
socket_read_obeys S o obeys = record {
  own_reply = still_own o.reply obeys.own_reply;
  refused = λ e h. obeys.refused e (still_error o.reply e h);
  failed = obeys.failed;
  fails = λ T h. refl;
  reached = wider S files_too o.next obeys.reached;
  objects = obeys.objects;
  alike = obeys.alike;
}

socket_at_is : (S : State) (d : ℕ) (D : Description) (s : Socket) → description_at S d ≡ Some D → D.target ≡ to_socket s →
    socket_at S d ≡ Some s
socket_at_is S d D s h t = ap socket_in h ∙ ap socket_of t

pub read_obeys : (S : State) (p : ℕ) (fd : Fd) (n : ℕ) → Obeys S files_too (read S p fd n)
unfolding read
read_obeys S p fd n = found (Obeys S files_too) S p fd _ (refuses refl refl) (λ e D g h. by_target (Obeys S files_too) D.target _ _
    (λ o t. maybe (Obeys S files_too) (place S.objects o) _ _ (refuses refl refl)
    (λ view there. either (Obeys S files_too) (not (can_read D.mode)) _ _ (λ b. refuses refl refl)
    (λ b. either (Obeys S files_too) (is_short_read view.body (min read_limit n)) _ _ (λ b. refuses refl refl)
    (λ b. either (Obeys S files_too) (holds_bytes view.body && (min read_limit n == 0)) _ _ (λ b. answers refl refl refl refl still)
    (λ b. read_answer_obeys S o (held_by S p fd e D o g h t) view (read_body view.body D.offset (min read_limit n)) there)))))
    (λ s t. socket_read_obeys S _ (receive_obeys S p e.description s (incoming (min read_limit n) 0 no_flags)
    (socket_at_is S e.description D s h t))))

write_answer_obeys : (S : State) (o : ℕ) (held : IsHeldOpen S o) (view : View) (r : Result (ℕ × Body) ObjectError) →
    place S.objects o ≡ Some view →
    Obeys S files_too (write_answer S held.entry.description held.description o view r)
write_answer_obeys S o held view (Ok made) there =
    let n : ℕ = offset_after_write held.description view made.0 in
    uses refl refl refl (both_kept S o n held (with_body view made.1)) (body_alike S o view made.1 there)
    (both_changed S o n held view (with_body view made.1) there refl)
write_answer_obeys S o held view (Err would_block) there = refuses refl refl
write_answer_obeys S o held view (Err full) there = refuses refl refl
write_answer_obeys S o held view (Err invalid) there = refuses refl refl

pub write_obeys : (S : State) (p tag : ℕ) (fd : Fd) (bytes : List ℕ) → Obeys S files_too (write S p tag fd bytes)
unfolding write
write_obeys S p tag fd bytes = found (Obeys S files_too) S p fd _ (refuses refl refl) (λ e D g h. by_target (Obeys S files_too) D.target _ _
    (λ o t. maybe (Obeys S files_too) (place S.objects o) _ _ (refuses refl refl)
    (λ view there. either (Obeys S files_too) (not (can_write D.mode)) _ _ (λ b. refuses refl refl)
    (λ b. either (Obeys S files_too) (holds_bytes view.body && (length bytes == 0)) _ _ (λ b. answers refl refl refl refl still)
    (λ b. either (Obeys S files_too) (is_pipe view.body && not (is_open_for can_read S o)) _ _ (λ b. refuses refl refl)
    (λ b. let held : IsHeldOpen S o = held_by S p fd e D o g h t in
    may_fail S _ o view _ held there refl (write_answer_obeys S o held view (write_body view.body (write_place D view) bytes) there))))))
    (λ s t. maybe (Obeys S files_too) (process_at S p) _ _ (refuses refl refl)
    (λ P here. widened S files_too _ (from_obeys S (flight_limit P) e.description s None (message_of (sending tag p P None bytes) (own_cred p P) [])
    (socket_at_is S e.description D s h t) (λ sound k gone. refl, flight_limit_is S p P here, omega arith, λ bounded. omega arith)))))

seek_to_obeys : (S : State) (d : ℕ) (D : Description) (to : ℤ) → description_at S d ≡ Some D → Call S (seek_to S d D to)
seek_to_obeys S d D (pos n) h = either (Call S) (nat_lt offset_limit n) _ _ (λ b. refuses refl refl)
    (λ b. answers refl refl refl refl (with_description_reached S d D (record D { offset = n }) still h
    (λ sound. same_target S d D.target)))
seek_to_obeys S d D (negsuc n) h = refuses refl refl

pub lseek_obeys : (S : State) (p : ℕ) (fd : Fd) (offset : ℤ) (whence : Whence) → Call S (lseek S p fd offset whence)
unfolding lseek
lseek_obeys S p fd offset whence = found (Call S) S p fd _ (refuses refl refl) (λ e D g h. by_target (Call S) D.target _ _
    (λ o t. maybe (Call S) (place S.objects o) _ _ (refuses refl refl)
    (λ view there. either (Call S) (not (is_memory view.body)) _ _ (λ b. refuses refl refl)
    (λ b. seek_to_obeys S e.description D (pos (seek_base whence D view) +ℤ offset) h)))
    (λ s t. refuses refl refl))

-- ---- all calls

-- those that don't only ask
act_obeys : (S : State) (p tag : ℕ) (request : Request) → asks request ≡ false → Obeys S (may_change request) (outcome S p tag request)
unfolding outcome
act_obeys S p tag (Request.Open path mode flags) h = open_obeys S p path mode flags
act_obeys S p tag (Request.Create path mode flags) h = create_obeys S p path mode flags
act_obeys S p tag (Request.MemFd flags) h = object_obeys S p _ (memory []) flags
act_obeys S p tag (Request.EventFd value semaphore flags) h = object_obeys S p _ (counter semaphore value) flags
act_obeys S p tag (Request.Pipe flags) h = pipe_obeys S p flags
act_obeys S p tag (Request.Read fd n) h = read_obeys S p fd n
act_obeys S p tag (Request.Write fd bytes) h = write_obeys S p tag fd bytes
act_obeys S p tag (Request.Lseek fd offset whence) h = lseek_obeys S p fd offset whence
act_obeys S p tag (Request.Dup fd) h = dup_obeys S p fd
act_obeys S p tag (Request.Dup2 fd to) h = dup2_obeys S p fd to
act_obeys S p tag (Request.DupFrom fd minimum) h = dup_from_obeys S p fd minimum
act_obeys S p tag (Request.SetFlags fd flags) h = flags_obeys S p fd flags
act_obeys S p tag (Request.Close fd) h = close_obeys S p fd
act_obeys S p tag (Request.Unlink path) h = unlink_obeys S path
act_obeys S p tag (Request.Socket kind flags) h = socket_obeys S p kind flags
act_obeys S p tag (Request.SocketPair kind flags) h = pair_obeys S p kind flags
act_obeys S p tag (Request.Bind fd addr) h = bind_obeys S p fd addr
act_obeys S p tag (Request.Listen fd backlog) h = listen_obeys S p fd backlog
act_obeys S p tag (Request.Connect fd addr) h = connect_obeys S p fd addr
act_obeys S p tag (Request.Accept fd flags) h = accept_obeys S p fd flags
act_obeys S p tag (Request.Shutdown fd how) h = shutdown_obeys S p fd how
act_obeys S p tag (Request.GetOpt fd opt) h = get_opt_obeys S p fd opt
act_obeys S p tag (Request.SetOpt fd opt value) h = set_opt_obeys S p fd opt value
act_obeys S p tag (Request.SendMsg fd addr bytes control flags) h = send_obeys S p tag fd addr bytes control flags
act_obeys S p tag (Request.RecvMsg fd n space flags) h = recv_obeys S p fd n space flags
act_obeys S p tag (Request.SetIds uid gid) h = ids_obey S p uid gid
act_obeys S p tag Request.Fork h = fork_obeys S p
act_obeys S p tag Request.Exec h = exec_obeys S p
act_obeys S p tag Request.Exit h = exit_obeys S p
act_obeys S p tag Request.Off h = off_obeys S
act_obeys S p tag request h = absurd (false≢true (sym h))

pub each_obeys : (S : State) (p tag : ℕ) (request : Request) → Obeys S (may_change request) (outcome S p tag request)
each_obeys S p tag request = go (asks request) refl
  where
    go : (b : Bool) → asks request ≡ b → Obeys S (may_change request) (outcome S p tag request)
    go true h = asking_obeys (each_asks S p tag request h)
    go false h = act_obeys S p tag request h

-- ---- what was chosen

pub chosen_reached : (S T : State) (may : May) (o : Outcome) (reply : Reply) → Obeys S may o → Chosen S o reply T → Reaches S may T
chosen_reached S T may o reply obeys (own e f) = subst (Reaches S may) (sym f) obeys.reached
chosen_reached S T may o reply obeys (lacking_memory e may_lack f) = subst (Reaches S may) (sym f) still
chosen_reached S T may o reply obeys (failing e f) =
    let one = (obeys.failed T f).0 in
    subst (Reaches S may) (sym one.left)
    (object_changed one.object one.view (after_failure one.view) still one.there refl (obeys.fails T f))

pub chosen_left : (S T : State) (may : May) (o : Outcome) (e : Errno) → Obeys S may o → Chosen S o (Reply.Err e) T → LeftByRefusal S e T
chosen_left S T may o e obeys (own is f) = subst (LeftByRefusal S e) (sym f) (obeys.refused e (sym is))
chosen_left S T may o e obeys (lacking_memory is may_lack f) = let same : Errno.ENOMEM ≡ e = cc is in
    subst (λ g. LeftByRefusal S g T) same f
chosen_left S T may o e obeys (failing is f) = let same : Errno.EIO ≡ e = cc is in
    subst (λ g. LeftByRefusal S g T) same (obeys.failed T f).0

pub chosen_objects : (S T : State) (may : May) (o : Outcome) (reply : Reply) → Obeys S may o → Chosen S o reply T → KeepsObjects S T
chosen_objects S T may o reply obeys (own e f) = subst (KeepsObjects S) (sym f) obeys.objects
chosen_objects S T may o reply obeys (lacking_memory e may_lack f) = same_objects S T (ap (λ R. State.objects R) f)
chosen_objects S T may o reply obeys (failing e f) = (obeys.failed T f).1

-- So a step makes such changes, and then all goes that has to.
pub step_reached : (S T : State) (p tag : ℕ) (request : Request) (reply : Reply) (gone : List ℕ) → Step S p tag request reply gone T →
    (U : State) × Reaches S (may_change request) U × (gone ≡ released U) × (T ≡ settled U)
unfolding Step
step_reached S T p tag request reply gone s =
    (s.0, chosen_reached S s.0 (may_change request) (outcome S p tag request) reply (each_obeys S p tag request) s.1, s.2, s.3)
