-- Which calls make file objects.
use Rattle.std.proofs.Common.{◌≡◌, ℕ, ◌+◌, Bool, false, not, if◌then◌else◌, List, [], ◌∷◌, ◌++◌, length, Option, Some, is_some, refl}
use Rattle.std.proofs.Common.{ap}
use Rattle.std.proofs.Common.{sym, ◌∙◌, arith}
use Rattle.std.proofs.lemmas.List.{length_push, length-set}
use Rattle.ux_model.specs.Types.{Errno, Name, Mode, OpenFlags, Request, Reply}
use Rattle.ux_model.specs.Flags.{asks_append}
use Rattle.ux_model.specs.Places.{filled}
use Rattle.ux_model.specs.Object.{Body, View, memory, counter, pipe, new_view, after_failure}
use Rattle.ux_model.specs.Names.{file, named, is_valid_path}
use Rattle.ux_model.specs.Process.{Descriptor, lowest_free, two_lowest_free, descriptor}
use Rattle.ux_model.specs.State.{State, table_of, next_description, with_table, with_new}
use Rattle.ux_model.specs.Outcome.{Outcome, Chosen, own, lacking_memory, failing}
use Rattle.ux_model.specs.Opening.{file_description}
use Rattle.ux_model.specs.Making.{next_object, object_table_full, with_pipe, make_counter, make_file, make_object, create_file, make_pipe}
use Rattle.ux_model.specs.Step.{Step, outcome}
use Rattle.ux_model.specs.Invariants.{makes_object, TheseAloneMakeObjects}
use Rattle.ux_model.proofs.Changes.Walk.{either, maybe}
use Rattle.ux_model.proofs.Changes.Reaching.{May, may_change, Reaches, still, process_changed, process_forked, description_made, peers_made}
use Rattle.ux_model.proofs.Changes.Reaching.{connection_made, description_changed, object_changed, paths_taken, path_bound, name_bound}
use Rattle.ux_model.proofs.Changes.Reaching.{object_made, path_made, turned_off}
use Rattle.ux_model.proofs.Changes.HeldOpen.{with_table_objects}
use Rattle.ux_model.proofs.Changes.Obeying.{Obeys}
use Rattle.ux_model.proofs.Steps.MakingCalls.{made_so}
use Rattle.ux_model.proofs.Steps.Calls.{each_obeys, chosen_reached}
use Rattle.ux_model.proofs.Invariants.Closed.{settled_long}

-- ---- calls that make none

reached_as_many : (S : State) (may : May) → may.objects ≡ false → (T : State) → Reaches S may T → length T.objects ≡ length S.objects
reached_as_many S may calm T still = refl
reached_as_many S may calm T (process_changed {T = U} i P Q r h names kept same) = reached_as_many S may calm U r
reached_as_many S may calm T (process_forked {T = U} i P r h makes) = reached_as_many S may calm U r
reached_as_many S may calm T (object_made {T = U} body r makes) = absurd (cc (makes, calm))
reached_as_many S may calm T (description_made {T = U} D r leads nothing bounds) = reached_as_many S may calm U r
reached_as_many S may calm T (peers_made {T = U} D E r peers) = reached_as_many S may calm U r
reached_as_many S may calm T (connection_made {T = U} d l cred listener_cred s listener r client free there) =
    reached_as_many S may calm U r
reached_as_many S may calm T (description_changed {T = U} d x r keeps) = reached_as_many S may calm U r
reached_as_many S may calm T (object_changed {T = U} o old new r h same told) =
    length-set U.objects o (Some new) ∙ reached_as_many S may calm U r
reached_as_many S may calm T (paths_taken {T = U} keep r told) = reached_as_many S may calm U r
reached_as_many S may calm T (path_made {T = U} name o r there told) = reached_as_many S may calm U r
reached_as_many S may calm T (path_bound {T = U} name d r told) = reached_as_many S may calm U r
reached_as_many S may calm T (name_bound {T = U} name d r shown told) = reached_as_many S may calm U r
reached_as_many S may calm T (turned_off {T = U} r told more) = reached_as_many S may calm U r

-- ---- calls that make one

-- how many the call made, by its reply
abbrev made : Request → Reply → ℕ
made request reply = if makes_object request reply then 1 else 0

-- so many more are there after the outcome in S
abbrev Counts : State → Request → Outcome → Type 0
Counts S request o = length o.next.objects ≡ length S.objects + made request o.reply

one_more : (S U : State) (p : ℕ) (table : List (Option Descriptor)) (new : View) → U.objects ≡ S.objects ++ Some new ∷ [] →
    length (with_table U p table).objects ≡ length S.objects + 1
one_more S U p table new is =
    ap (λ (os : List (Option View)). length os) (with_table_objects U p table ∙ is) ∙ length_push S.objects (Some new)

create_counts : (S : State) (p : ℕ) (path : Name) (mode : Mode) (flags : OpenFlags) →
    Counts S (Request.Create path mode flags) (create_file S p path mode flags)
unfolding create_file
create_counts S p path mode flags = either Q (not (is_valid_path path)) _ _ (λ b. omega arith)
    (λ b. either Q (is_some (named path S.paths)) _ _ (λ c. omega arith)
    (λ c. maybe Q (lowest_free (table_of S p)) _ _ (omega arith)
    (λ n low. either Q (object_table_full S) _ _ (λ full. omega arith)
    (λ full. one_more S
    (with_new (made_so S (memory []) (S.paths ++ (path, file (next_object S)) ∷ [])) (file_description (next_object S) mode flags)) p _
    (new_view (memory [])) refl))))
  where
    Q : Outcome → Type 0
    Q o = Counts S (Request.Create path mode flags) o

-- a request that makes one where it is answered a number
object_counts : (S : State) (p : ℕ) (request : Request) (unknown : Bool) (body : Body) (flags : OpenFlags) →
    ((e : Errno) → made request (Reply.Err e) ≡ 0) → ((n : ℕ) → made request (Reply.Fd (record { 0 = n })) ≡ 1) →
    Counts S request (make_object S p unknown body flags)
unfolding make_object
object_counts S p request unknown body flags none some =
    either Q unknown _ _ (λ b. let z = none Errno.EINVAL in omega (arith, z))
    (λ b. maybe Q (lowest_free (table_of S p)) _ _ (let z = none Errno.EMFILE in omega (arith, z))
    (λ n low. either Q (object_table_full S) _ _ (λ full. let z = none Errno.ENFILE in omega (arith, z))
    (λ full.
    let U : State = with_new (made_so S body S.paths) (file_description (next_object S) Mode.Both flags) in
    let table : List (Option Descriptor) = filled (table_of S p) n (descriptor flags (next_description S)) in
    let more = one_more S U p table (new_view body) refl in
    let one = some n in
    omega (arith, more, one))))
  where
    Q : Outcome → Type 0
    Q o = Counts S request o

pipe_counts : (S : State) (p : ℕ) (flags : OpenFlags) → Counts S (Request.Pipe flags) (make_pipe S p flags)
unfolding make_pipe
pipe_counts S p flags = either Q (asks_append flags) _ _ (λ b. omega arith)
    (λ b. maybe Q (two_lowest_free (table_of S p)) _ _ (omega arith)
    (λ n low. either Q (object_table_full S) _ _ (λ full. omega arith)
    (λ full. one_more S (with_pipe S flags) p _ (new_view (pipe [])) refl)))
  where
    Q : Outcome → Type 0
    Q o = Counts S (Request.Pipe flags) o

-- a refusal makes none
none_refused : (request : Request) (e : Errno) → makes_object request (Reply.Err e) ≡ false
none_refused (Request.Create path mode flags) e = refl
none_refused (Request.MemFd flags) e = refl
none_refused (Request.EventFd value semaphore flags) e = refl
none_refused (Request.Pipe flags) e = refl
none_refused request e = refl

refused_as_many : (S U : State) (request : Request) (reply : Reply) (e : Errno) → reply ≡ Reply.Err e →
    length U.objects ≡ length S.objects → length U.objects ≡ length S.objects + made request reply
refused_as_many S U request reply e is same =
    let none : made request reply ≡ 0 = ap (made request) is ∙ ap (λ (b : Bool). if b then 1 else 0) (none_refused request e) in
    omega (arith, none, same)

chosen_counts : (S U : State) (request : Request) (reply : Reply) (o : Outcome) → Obeys S (may_change request) o → Counts S request o →
    Chosen S o reply U → length U.objects ≡ length S.objects + made request reply
chosen_counts S U request reply o obeys counts (own e f) =
    ap (λ (R : State). length R.objects) f ∙ counts ∙ ap (λ (r : Reply). length S.objects + made request r) (sym e)
chosen_counts S U request reply o obeys counts (lacking_memory e may f) =
    refused_as_many S U request reply Errno.ENOMEM e (ap (λ (R : State). length R.objects) f)
chosen_counts S U request reply o obeys counts (failing e f) =
    let one = (obeys.failed U f).0 in
    refused_as_many S U request reply Errno.EIO e
    (ap (λ (R : State). length R.objects) one.left ∙ length-set S.objects one.object (Some (after_failure one.view)))

-- ---- the law

call_counts : (S U : State) (p tag : ℕ) (request : Request) (reply : Reply) → Chosen S (outcome S p tag request) reply U →
    length U.objects ≡ length S.objects + made request reply
unfolding outcome
call_counts S U p tag (Request.Create path mode flags) reply chosen =
    chosen_counts S U (Request.Create path mode flags) reply (create_file S p path mode flags)
    (each_obeys S p tag (Request.Create path mode flags)) (create_counts S p path mode flags) chosen
call_counts S U p tag (Request.MemFd flags) reply chosen =
    chosen_counts S U (Request.MemFd flags) reply (make_file S p flags) (each_obeys S p tag (Request.MemFd flags))
    (object_counts S p (Request.MemFd flags) _ (memory []) flags (λ e. refl) (λ n. refl)) chosen
call_counts S U p tag (Request.EventFd value semaphore flags) reply chosen =
    chosen_counts S U (Request.EventFd value semaphore flags) reply (make_counter S p value semaphore flags)
    (each_obeys S p tag (Request.EventFd value semaphore flags))
    (object_counts S p (Request.EventFd value semaphore flags) _ (counter semaphore value) flags (λ e. refl) (λ n. refl)) chosen
call_counts S U p tag (Request.Pipe flags) reply chosen =
    chosen_counts S U (Request.Pipe flags) reply (make_pipe S p flags) (each_obeys S p tag (Request.Pipe flags)) (pipe_counts S p flags)
    chosen
call_counts S U p tag request reply chosen =
    let same = reached_as_many S (may_change request) refl U
    (chosen_reached S U (may_change request) (outcome S p tag request) reply (each_obeys S p tag request) chosen) in
    omega (arith, same)

pub these_alone_make_objects : TheseAloneMakeObjects
unfolding Step
these_alone_make_objects S T p tag request reply gone s =
    ap (λ (R : State). length R.objects) s.3 ∙ settled_long s.0 ∙ call_counts S s.0 p tag request reply s.1
