-- What calls on descriptors and processes do, and those that make descriptions.
use Rattle.std.proofs.Common.{◌≡◌, ℕ, Bool, zero, suc, ◌==◌, true, not, ◌||◌, length}
use Rattle.std.proofs.Common.{map, is_some, Some, None, refl, ap, ◌∙◌, inr, [], ◌∷◌, ◌++◌, Option, List}
use Rattle.std.specs.Prelude.{nat_le}
use Rattle.std.proofs.lemmas.List.{length-map}
use Rattle.ux_model.specs.Types.{Fd, Name, SockType, Mode, OpenFlags, Request}
use Rattle.ux_model.specs.Flags.{asks_append}
use Rattle.ux_model.specs.Limits.{made_limit}
use Rattle.ux_model.specs.Object.{Body, memory}
use Rattle.ux_model.specs.Names.{named, is_valid_path, PathTarget, file}
use Rattle.ux_model.specs.Socket.{new_socket}
use Rattle.ux_model.specs.Description.{Description}
use Rattle.ux_model.specs.Process.{Process, own_cred, lowest_free, lowest_free_from, two_lowest_free, kept_on_exec}
use Rattle.ux_model.specs.Process.{fd_of, Descriptor}
use Rattle.ux_model.specs.State.{State, process_at, table_of, with_child, with_description}
use Rattle.ux_model.specs.State.{with_process, with_new, with_table}
use Rattle.ux_model.specs.Outcome.{Outcome}
use Rattle.ux_model.specs.Pairing.{make_pair, with_pair, socket_description}
use Rattle.ux_model.specs.Connecting.{make_socket}
use Rattle.ux_model.specs.Opening.{open_file, file_description}
use Rattle.ux_model.specs.Making.{next_object, object_table_full, with_pipe, open_made, make_object, create_file, make_pipe}
use Rattle.ux_model.specs.Descriptors.{dup, dup2, dup_from, set_flags, with_flags}
use Rattle.ux_model.specs.Users.{no_id, may_become, with_ids, set_ids}
use Rattle.ux_model.specs.Forking.{fork, exec, child_of}
use Rattle.ux_model.specs.Closing.{close, exit, off}
use Rattle.ux_model.proofs.Changes.Walk.{either, maybe, by_path, found}
use Rattle.ux_model.proofs.Lists.Rising.{place_mapped}
use Rattle.ux_model.proofs.Steps.MakingCalls.{made_so}
use Rattle.ux_laws.specs.Files.{made_modes}
use Rattle.ux_laws.proofs.Parts.{glance, kept_same, kept_after, kept_table, kept_put}
use Rattle.ux_laws.proofs.Parts.{kept_shrinks, Kept}
use Rattle.ux_laws.proofs.Acts.{silent, Did, quiet, opened, file_made, pipe_made, with_ends, one_made}
use Rattle.ux_laws.proofs.Acts.{pair_made}
use Rattle.ux_laws.proofs.Doing.Outcomes.{refuses, answers, unchanged}

pub dup_did : (S : State) (p tag : ℕ) (fd : Fd) → Did S p tag (Request.Dup fd) (dup S p fd).reply (dup S p fd).next
unfolding dup
dup_did S p tag fd = found (λ o. Did S p tag (Request.Dup fd) o.reply o.next) S p fd _ refuses
    (λ e D g h. maybe (λ o. Did S p tag (Request.Dup fd) o.reply o.next) (lowest_free (table_of S p)) _ _ refuses
    (λ n low. answers refl (kept_table S p _)))

pub dup2_did : (S : State) (p tag : ℕ) (fd to : Fd) → Did S p tag (Request.Dup2 fd to) (dup2 S p fd to).reply (dup2 S p fd to).next
unfolding dup2
dup2_did S p tag fd to = found Q S p fd _ refuses (λ e D g h. either Q (nat_le (length (table_of S p)) to.0) _ _ (λ b. refuses)
    (λ b. either Q (to.0 == fd.0) _ _ (λ b. unchanged refl) (λ b. answers refl (kept_table S p _))))
  where
    Q : Outcome → Type 0
    Q o = Did S p tag (Request.Dup2 fd to) o.reply o.next

pub dup_from_did : (S : State) (p tag : ℕ) (fd minimum : Fd) →
    Did S p tag (Request.DupFrom fd minimum) (dup_from S p fd minimum).reply (dup_from S p fd minimum).next
unfolding dup_from
dup_from_did S p tag fd minimum = found Q S p fd _ refuses
    (λ e D g h. either Q (nat_le (length (table_of S p)) minimum.0) _ _ (λ b. refuses)
    (λ b. maybe Q (lowest_free_from minimum.0 (table_of S p)) _ _ refuses (λ n low. answers refl (kept_table S p _))))
  where
    Q : Outcome → Type 0
    Q o = Did S p tag (Request.DupFrom fd minimum) o.reply o.next

pub flags_did : (S : State) (p tag : ℕ) (fd : Fd) (flags : OpenFlags) →
    Did S p tag (Request.SetFlags fd flags) (set_flags S p fd flags).reply (set_flags S p fd flags).next
unfolding set_flags
flags_did S p tag fd flags = found (λ o. Did S p tag (Request.SetFlags fd flags) o.reply o.next) S p fd _ refuses
    (λ e D g h.
    let T : State = with_description S e.description (with_flags flags D) in
    answers refl (kept_after S T _ (kept_put S e.description D (with_flags flags D) h refl) (kept_table T p _)))

pub close_did : (S : State) (p tag : ℕ) (fd : Fd) → Did S p tag (Request.Close fd) (close S p fd).reply (close S p fd).next
unfolding close
close_did S p tag fd = found (λ o. Did S p tag (Request.Close fd) o.reply o.next) S p fd _ refuses
    (λ e D g h. answers refl (kept_table S p _))

with_process_same : (S : State) (p : ℕ) (P : Process) → (with_process S p P).descriptions ≡ S.descriptions
with_process_same S zero P = refl
with_process_same S (suc i) P = refl

pub exit_did : (S : State) (p tag : ℕ) → Did S p tag Request.Exit (exit S p).reply (exit S p).next
unfolding exit
exit_did S p tag = maybe (λ o. Did S p tag Request.Exit o.reply o.next) (process_at S p) _ _ refuses
    (λ P h. answers refl (kept_same S _ (with_process_same S p (record P { exited = true; table = map (λ e. None) P.table }))))

pub fork_did : (S : State) (p tag : ℕ) → Did S p tag Request.Fork (fork S p).reply (fork S p).next
unfolding fork
fork_did S p tag = maybe Q (process_at S p) _ _ refuses
    (λ P h. either Q (nat_le made_limit (length S.processes)) _ _ (λ b. refuses)
    (λ b. answers refl (kept_same S (with_child S (child_of P)) refl)))
  where
    Q : Outcome → Type 0
    Q o = Did S p tag Request.Fork o.reply o.next

pub exec_did : (S : State) (p tag : ℕ) → Did S p tag Request.Exec (exec S p).reply (exec S p).next
unfolding exec
exec_did S p tag = maybe (λ o. Did S p tag Request.Exec o.reply o.next) (process_at S p) _ _ refuses
    (λ P h. answers refl (kept_table S p (map kept_on_exec P.table)))

pub ids_did : (S : State) (p tag uid gid : ℕ) → Did S p tag (Request.SetIds uid gid) (set_ids S p uid gid).reply (set_ids S p uid gid).next
unfolding set_ids
ids_did S p tag uid gid = maybe Q (process_at S p) _ _ refuses (λ P h. either Q ((uid == no_id) || (gid == no_id)) _ _ (λ b. refuses)
    (λ b. either Q (not (may_become uid gid P)) _ _ (λ b. refuses)
    (λ b. answers refl (kept_same S _ (with_process_same S p (with_ids uid gid P))))))
  where
    Q : Outcome → Type 0
    Q o = Did S p tag (Request.SetIds uid gid) o.reply o.next

pub off_did : (S : State) (p tag : ℕ) → Did S p tag Request.Off (off S).reply (off S).next
unfolding off
off_did S p tag = quiet (record {
  each = λ d. inr (ap glance (place_mapped (λ D. None) S.descriptions d refl));
  long =
      length-map S.descriptions (λ D. None);
}) (silent refl)

-- ---- new descriptions

pub open_did : (S : State) (p tag : ℕ) (path : Name) (mode : Mode) (flags : OpenFlags) →
    Did S p tag (Request.Open path mode flags) (open_file S p path mode flags).reply (open_file S p path mode flags).next
unfolding open_file
open_did S p tag path mode flags = either Q (not (is_valid_path path)) _ _ (λ b. refuses)
    (λ b. maybe Q (named path S.paths) _ _ refuses
    (λ t is. by_path Q t _ _
    (λ o led. maybe Q (lowest_free (table_of S p)) _ _ refuses
    (λ n low. opened path mode flags o refl (is ∙ ap Some led) refl
    (kept_shrinks (kept_table (with_new S (file_description o mode flags)) p _))))
    (λ d led. refuses)))
  where
    Q : Outcome → Type 0
    Q o = Did S p tag (Request.Open path mode flags) o.reply o.next

-- with file objects and paths that Parts doesn't see
made_kept : (S : State) (body : Body) (names : List (Name × PathTarget)) (D : Description) (p : ℕ) (table : List (Option Descriptor)) →
    Kept (with_new S D) (with_table (with_new (made_so S body names) D) p table)
made_kept S body names D p table = let k = kept_table (with_new (made_so S body names) D) p table in
    record { each = k.each; long = k.long }

made_did : (S : State) (p tag : ℕ) (request : Request) (body : Body) (names : List (Name × PathTarget)) (mode : Mode) (flags : OpenFlags) →
    made_modes request ≡ mode ∷ [] →
    Did S p tag request (open_made S (made_so S body names) p mode flags).reply (open_made S (made_so S body names) p mode flags).next
made_did S p tag request body names mode flags opens = maybe Q (lowest_free (table_of S p)) _ _ refuses
    (λ n low. either Q (object_table_full S) _ _ (λ b. refuses)
    (λ b. file_made mode flags opens refl (kept_shrinks (made_kept S body names (file_description (next_object S) mode flags) p _))))
  where
    Q : Outcome → Type 0
    Q o = Did S p tag request o.reply o.next

pub create_did : (S : State) (p tag : ℕ) (path : Name) (mode : Mode) (flags : OpenFlags) →
    Did S p tag (Request.Create path mode flags) (create_file S p path mode flags).reply (create_file S p path mode flags).next
unfolding create_file
create_did S p tag path mode flags = either Q (not (is_valid_path path)) _ _ (λ b. refuses)
    (λ b. either Q (is_some (named path S.paths)) _ _ (λ c. refuses)
    (λ c. made_did S p tag (Request.Create path mode flags) (memory []) (S.paths ++ (path, file (next_object S)) ∷ []) mode flags refl))
  where
    Q : Outcome → Type 0
    Q o = Did S p tag (Request.Create path mode flags) o.reply o.next

pub object_did : (S : State) (p tag : ℕ) (request : Request) (unknown : Bool) (body : Body) (flags : OpenFlags) →
    made_modes request ≡ Mode.Both ∷ [] →
    Did S p tag request (make_object S p unknown body flags).reply (make_object S p unknown body flags).next
unfolding make_object
object_did S p tag request unknown body flags opens = either Q unknown _ _ (λ b. refuses)
    (λ b. made_did S p tag request body S.paths Mode.Both flags opens)
  where
    Q : Outcome → Type 0
    Q o = Did S p tag request o.reply o.next

ends_kept : (S : State) (flags : OpenFlags) (p : ℕ) (table : List (Option Descriptor)) →
    Kept (with_ends S flags) (with_table (with_pipe S flags) p table)
ends_kept S flags p table = let k = kept_table (with_pipe S flags) p table in record { each = k.each; long = k.long }

pub pipe_did : (S : State) (p tag : ℕ) (flags : OpenFlags) →
    Did S p tag (Request.Pipe flags) (make_pipe S p flags).reply (make_pipe S p flags).next
unfolding make_pipe
pipe_did S p tag flags = either Q (asks_append flags) _ _ (λ b. refuses)
    (λ b. maybe Q (two_lowest_free (table_of S p)) _ _ refuses (λ n low. either Q (object_table_full S) _ _ (λ c. refuses)
    (λ c. pipe_made flags refl refl (kept_shrinks (ends_kept S flags p _)))))
  where
    Q : Outcome → Type 0
    Q o = Did S p tag (Request.Pipe flags) o.reply o.next

pub socket_did : (S : State) (p tag : ℕ) (kind : SockType) (flags : OpenFlags) →
    Did S p tag (Request.Socket kind flags) (make_socket S p kind flags).reply (make_socket S p kind flags).next
unfolding make_socket
socket_did S p tag kind flags = maybe (λ o. Did S p tag (Request.Socket kind flags) o.reply o.next) (lowest_free (table_of S p)) _ _ refuses
    (λ n low. one_made kind flags refl refl (kept_shrinks (kept_table (with_new S (socket_description flags (new_socket kind))) p _)))

pub pair_did : (S : State) (p tag : ℕ) (kind : SockType) (flags : OpenFlags) →
    Did S p tag (Request.SocketPair kind flags) (make_pair S p kind flags).reply (make_pair S p kind flags).next
unfolding make_pair
pair_did S p tag kind flags = maybe Q (process_at S p) _ _ refuses (λ P h. maybe Q (two_lowest_free P.table) _ _ refuses
    (λ n low. pair_made kind flags P (fd_of n.0) (fd_of n.1) refl refl h
    (kept_shrinks (kept_table (with_pair S kind flags (own_cred p P)) p _))))
  where
    Q : Outcome → Type 0
    Q o = Did S p tag (Request.SocketPair kind flags) o.reply o.next
