-- So do calls that make a file object.
use Rattle.std.proofs.Common.{◌≡◌, ℕ, suc, Bool, not, List, [], ◌∷◌, ◌++◌, Option, Some, is_some, ◌||◌, refl, arith}
use Rattle.ux_model.specs.Types.{Name, Mode, OpenFlags, Request, Reply}
use Rattle.ux_model.specs.Flags.{asks_append, asks_nonblock}
use Rattle.ux_model.specs.Places.{filled}
use Rattle.ux_model.specs.Object.{memory, counter, pipe, new_view}
use Rattle.ux_model.specs.Names.{file, named, is_valid_path}
use Rattle.ux_model.specs.Process.{Process, Descriptor, lowest_free, two_lowest_free, fd_of, descriptor}
use Rattle.ux_model.specs.State.{State, process_at, table_of, next_description, with_table, with_new}
use Rattle.ux_model.specs.Outcome.{taking_memory}
use Rattle.ux_model.specs.Opening.{file_description}
use Rattle.ux_model.specs.Making.{next_object, object_table_full, with_made, with_pipe, make_counter, make_file, make_object, create_file, make_pipe}
use Rattle.ux_model.proofs.Changes.Walk.{either, maybe}
use Rattle.ux_model.proofs.Lists.Rising.{two_rise}
use Rattle.ux_model.proofs.Tables.Queues.{quiet_mail, quiet_after, quiet_table, quiet_new}
use Rattle.ux_model.proofs.Tables.Replacing.{replaced_table, installs}
use Rattle.ux_model.proofs.Tables.Shows.{Shows, refuses}
use Rattle.ux_model.proofs.Tables.SocketShows.{made_shows}

-- ---- with one descriptor

pub create_shows : (S : State) (p tag : ℕ) (path : Name) (mode : Mode) (flags : OpenFlags) (Q : Process) → process_at S p ≡ Some Q →
    Shows S p tag (Request.Create path mode flags) (create_file S p path mode flags)
unfolding create_file
create_shows S p tag path mode flags Q here =
    either (Shows S p tag (Request.Create path mode flags)) (not (is_valid_path path)) _ _ (λ b. refuses refl)
    (λ b. either (Shows S p tag (Request.Create path mode flags)) (is_some (named path S.paths)) _ _ (λ c. refuses refl)
    (λ c. maybe (Shows S p tag (Request.Create path mode flags)) (lowest_free (table_of S p)) _ _ (refuses refl)
    (λ n low. either (Shows S p tag (Request.Create path mode flags)) (object_table_full S) _ _ (λ full. refuses refl)
    (λ full. made_shows S p tag n (Request.Create path mode flags) (S.objects ++ Some (new_view (memory [])) ∷ [])
    (S.paths ++ (path, file (next_object S)) ∷ []) (file_description (next_object S) mode flags) flags Q here
    (record { no_end = refl; keeps = λ n held. refl }) low refl refl refl refl))))

pub memory_shows : (S : State) (p tag : ℕ) (flags : OpenFlags) (Q : Process) → process_at S p ≡ Some Q →
    Shows S p tag (Request.MemFd flags) (make_file S p flags)
unfolding make_object
memory_shows S p tag flags Q here =
    either (Shows S p tag (Request.MemFd flags)) (asks_append flags || asks_nonblock flags) _ _ (λ b. refuses refl)
    (λ b. maybe (Shows S p tag (Request.MemFd flags)) (lowest_free (table_of S p)) _ _ (refuses refl)
    (λ n low. either (Shows S p tag (Request.MemFd flags)) (object_table_full S) _ _ (λ full. refuses refl)
    (λ full. made_shows S p tag n (Request.MemFd flags) (S.objects ++ Some (new_view (memory [])) ∷ []) S.paths
    (file_description (next_object S) Mode.Both flags) flags Q here (record { no_end = refl; keeps = λ n held. refl }) low
    refl refl refl refl)))

pub counter_shows : (S : State) (p tag value : ℕ) (semaphore : Bool) (flags : OpenFlags) (Q : Process) → process_at S p ≡ Some Q →
    Shows S p tag (Request.EventFd value semaphore flags) (make_counter S p value semaphore flags)
unfolding make_object
counter_shows S p tag value semaphore flags Q here =
    either (Shows S p tag (Request.EventFd value semaphore flags)) (asks_append flags) _ _ (λ b. refuses refl)
    (λ b. maybe (Shows S p tag (Request.EventFd value semaphore flags)) (lowest_free (table_of S p)) _ _ (refuses refl)
    (λ n low. either (Shows S p tag (Request.EventFd value semaphore flags)) (object_table_full S) _ _ (λ full. refuses refl)
    (λ full. made_shows S p tag n (Request.EventFd value semaphore flags) (S.objects ++ Some (new_view (counter semaphore value)) ∷ []) S.paths
    (file_description (next_object S) Mode.Both flags) flags Q here (record { no_end = refl; keeps = λ n held. refl }) low
    refl refl refl refl)))

-- ---- with two

pipe_is_shown : (S : State) (p tag : ℕ) (n : ℕ × ℕ) (flags : OpenFlags) (Q : Process) → process_at S p ≡ Some Q →
    two_lowest_free (table_of S p) ≡ Some n →
    Shows S p tag (Request.Pipe flags)
    (taking_memory (Reply.Fds (fd_of n.0) (fd_of n.1)) (with_table (with_pipe S flags) p
    (filled (filled (table_of S p) n.0 (descriptor flags (next_description S))) n.1 (descriptor flags (suc (next_description S))))))
pipe_is_shown S p tag n flags Q here low =
    let o : ℕ = next_object S in
    let R : State = with_made S (pipe []) in
    let one : State = with_new R (file_description o Mode.Read flags) in
    let U : State = with_pipe S flags in
    let table : List (Option Descriptor) = filled (filled (table_of S p) n.0 (descriptor flags (next_description S))) n.1
    (descriptor flags (suc (next_description S))) in
    let r = replaced_table U p table Q here in
    record {
      tables = installs S (with_table U p table) p (Request.Pipe flags) (Reply.Fds (fd_of n.0) (fd_of n.1)) (n.0 ∷ n.1 ∷ [])
          (record { no_end = refl; keeps = λ n held. refl }) (record { same = r.same; other = r.other }) (two_rise (table_of S p) n low)
          (omega arith) refl refl;
      mail = quiet_after S U (with_table U p table) p tag (Request.Pipe flags) (quiet_table U p table)
          (quiet_after S one U p tag (Request.Pipe flags) (quiet_new one (file_description o Mode.Write flags) refl)
          (quiet_mail S one p tag (Request.Pipe flags) (quiet_new R (file_description o Mode.Read flags) refl)));
    }

pub pipe_shows : (S : State) (p tag : ℕ) (flags : OpenFlags) (Q : Process) → process_at S p ≡ Some Q →
    Shows S p tag (Request.Pipe flags) (make_pipe S p flags)
unfolding make_pipe
pipe_shows S p tag flags Q here = either (Shows S p tag (Request.Pipe flags)) (asks_append flags) _ _ (λ b. refuses refl)
    (λ b. maybe (Shows S p tag (Request.Pipe flags)) (two_lowest_free (table_of S p)) _ _ (refuses refl)
    (λ n low. either (Shows S p tag (Request.Pipe flags)) (object_table_full S) _ _ (λ full. refuses refl)
    (λ full. pipe_is_shown S p tag n flags Q here low)))
