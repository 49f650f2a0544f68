-- What changes O_APPEND and the offset of a description that leads to a file object.
use Rattle.std.proofs.Common.{◌≡◌, ◌⊎◌, ℕ, suc, ◌==◌, Bool, true, false, not, ◌&&◌, cond, min, List, length, Option, Some, None}
use Rattle.std.proofs.Common.{take, ⊎_elim, Result, Ok, Err, option_map, refl, ap, sym, ◌∙◌, subst, inl, inr, arith, slice_get}
use Rattle.std.specs.Prelude.{ℤ, pos, negsuc, ◌+ℤ◌, nat_lt, is_none}
use Rattle.std.proofs.lemmas.Bool.{eqb-true, eqb-false, false≢true}
use Rattle.std.proofs.lemmas.List.{get_or-set_other}
use Rattle.ux_model.specs.Types.{Errno, Fd, OpenFlags, Whence, Request, Reply}
use Rattle.ux_model.specs.Places.{place, filled}
use Rattle.ux_model.specs.Limits.{read_limit, offset_limit}
use Rattle.ux_model.specs.Flags.{can_read, can_write, no_flags, asks_append, asks_cloexec}
use Rattle.ux_model.specs.Object.{Body, View, ObjectError, would_block, full, invalid, read_body, write_body, is_memory, is_pipe}
use Rattle.ux_model.specs.Socket.{Socket, is_dgram, pending_ends, with_reset}
use Rattle.ux_model.specs.Description.{Description, Target, to_object, to_socket, socket_of, socket_in, changed, changed_target}
use Rattle.ux_model.specs.Process.{Descriptor, lowest_free, descriptor, with_cloexec}
use Rattle.ux_model.specs.State.{State, process_at, description_at, socket_at, table_of, with_description, with_socket_by, with_table}
use Rattle.ux_model.specs.Outcome.{Outcome, Chosen, own, lacking_memory, failing, descriptor_at}
use Rattle.ux_model.specs.Connecting.{listener_of}
use Rattle.ux_model.specs.Accepting.{accepted_with, without_first_end, accept_first, accept}
use Rattle.ux_model.specs.Descriptors.{with_flags, set_flags}
use Rattle.ux_model.specs.Sending.{flight_limit}
use Rattle.ux_model.specs.Receiving.{incoming}
use Rattle.ux_model.specs.FileObjects.{holds_bytes, is_open_for}
use Rattle.ux_model.specs.Reading.{read, read_answer, is_short_read}
use Rattle.ux_model.specs.Writing.{write, write_answer, write_place}
use Rattle.ux_model.specs.Seeking.{lseek, seek_to, seek_base}
use Rattle.ux_model.specs.Invariants.{IsWhole}
use Rattle.ux_model.specs.Giving.{description_in, description_of}
use Rattle.ux_model.specs.Step.{outcome}
use Rattle.ux_model.specs.Pedigree.{before}
use Rattle.ux_model.proofs.Changes.Walk.{either, maybe, by_target, found}
use Rattle.ux_model.proofs.Lists.ChangedPlaces.{bool_cases, place-changed}
use Rattle.ux_model.proofs.Lists.Fronts.{front_is_legal}
use Rattle.ux_model.proofs.Lists.ByPlace.{get_below}
use Rattle.ux_model.proofs.Steps.Calls.{each_obeys}
use Rattle.ux_model.proofs.Steps.NameCalls.{same_descriptions}
use Rattle.ux_model.proofs.Invariants.Dangling.{nothing_dangles}
use Rattle.ux_model.proofs.Pedigrees.Moments.{moment}
use Rattle.ux_model.proofs.Tables.Shows.{by_socket}
use Rattle.ux_laws.specs.Writes.{StaysOpen, SetsAppend, AppendsStay, HasFlags, FlagsAreSet, moves_through, OffsetsStay}
use Rattle.ux_laws.proofs.Doing.Calls.{step_between}
use Rattle.ux_laws.proofs.Near.Single.{append_of, append_in, offset_of, offset_in, may_set_flags, may_move, NearAt, stays, reached, new}
use Rattle.ux_laws.proofs.Near.Single.{gone as dropped, Near}
use Rattle.ux_laws.proofs.Near.Leading.{by_fd}
use Rattle.ux_laws.proofs.Near.Messages.{from_near, receive_near}
use Rattle.ux_laws.proofs.Near.Calls.{chosen_near}
use Rattle.ux_laws.proofs.LeftAlone.{Lost, same as unchanged, lost, reset, settled_lost}
use Rattle.ux_laws.proofs.Writes.{put_there, modes_stay}

-- ---- one description put in the place of another

put_other : (S : State) (d k : ℕ) (E : Description) → (d == k) ≡ false → description_at (with_description S d E) k ≡ description_at S k
put_other S d k E e = get_or-set_other S.descriptions d k (Some E) None (λ same. eqb-false d k e (sym same))

put_here : (S : State) (d : ℕ) (D E : Description) → description_at S d ≡ Some D → description_at (with_description S d E) d ≡ Some E
put_here S d D E here = put_there S.descriptions d D E here

pub in_table : (S : State) (p k : ℕ) (table : List (Option Descriptor)) → description_at (with_table S p table) k ≡ description_at S k
in_table S p k table = ap (λ (ds : List (Option Description)). place ds k) (same_descriptions S p table)

-- ---- O_APPEND

-- as before, or set by F_SETFL
record Appends (S : State) (p : ℕ) (request : Request) (k : ℕ) (x : Option Description) : Type 0 where
  pub told : (old append : Bool) → append_in (description_at S k) ≡ Some old → append_in x ≡ Some append →
      (append ≡ old) ⊎ SetsAppend S p request k append

appends_same : {S : State} {p : ℕ} {request : Request} (k : ℕ) {x : Option Description} → append_in x ≡ append_in (description_at S k) →
    Appends S p request k x
appends_same {S} k is = record { told = λ old append h g. let both : Some append ≡ Some old = sym g ∙ is ∙ h in inl (cc both) }

flags_append : (S : State) (p k : ℕ) (fd : Fd) (flags : OpenFlags) →
    Appends S p (Request.SetFlags fd flags) k (description_at (set_flags S p fd flags).next k)
unfolding set_flags
flags_append S p k fd flags = found Q S p fd _ (appends_same k refl) (λ e D g h. bool_cases (e.description == k)
    (λ b. record {
      told = λ old append was is.
          let at : e.description ≡ k = eqb-true e.description k b in
          inr (record {
            fd = fd;
            flags = flags;
            asked = refl;
            leads = ap description_in g ∙ ap Some at;
            is = of_target D.target (sym (ap append_in (put_here S e.description D (with_flags flags D) h))
                ∙ ap (λ (i : ℕ). append_in (description_at (with_description S e.description (with_flags flags D)) i)) at
                ∙ sym (ap append_in (in_table (with_description S e.description (with_flags flags D)) p k (left e))) ∙ is);
          });
    })
    (λ b. appends_same k (ap append_in (in_table (with_description S e.description (with_flags flags D)) p k (left e)
    ∙ put_other S e.description k (with_flags flags D) b))))
  where
    Q : Outcome → Type 0
    Q o = Appends S p (Request.SetFlags fd flags) k (description_at o.next k)

    left : Descriptor → List (Option Descriptor)
    left e = filled (table_of S p) fd.0 (with_cloexec (asks_cloexec flags) e)

    of_target : (t : Target) {append : Bool} → append_of (asks_append flags) t ≡ Some append → append ≡ asks_append flags
    of_target (to_object o) {append} h = let one : asks_append flags ≡ append = cc h in sym one
    of_target (to_socket s) {append} h = absurd (cc h)

-- a change of sockets is none of files
append_changed : (T : State) (t k : ℕ) (change : Socket → Socket) →
    append_in (description_at (with_socket_by T t change) k) ≡ append_in (description_at T k)
append_changed T t k change = ap append_in (place-changed T.descriptions t k (changed change)) ∙ by_place (t == k)
  where
    at_target : (append : Bool) (u : Target) → append_of append (changed_target change u) ≡ append_of append u
    at_target append (to_object o) = refl
    at_target append (to_socket s) = refl

    at_place : (x : Option Description) → append_in (option_map (changed change) x) ≡ append_in x
    at_place None = refl
    at_place (Some D) = at_target D.append D.target

    by_place : (b : Bool) → append_in (cond b (option_map (changed change) (description_at T k)) (description_at T k)) ≡ append_in
        (description_at T k)
    by_place true = at_place (description_at T k)
    by_place false = refl

-- the end that an accept takes is a socket
accept_append : (S : State) (p k : ℕ) (fd : Fd) (flags : OpenFlags) → IsWhole S →
    Appends S p (Request.Accept fd flags) k (description_at (accept S p fd flags).next k)
unfolding accept
accept_append S p k fd flags whole = by_socket Q S p fd _ (λ e. appends_same k refl)
    (λ d s found there. either Q (is_dgram s.kind) _ _ (λ a. appends_same k refl)
    (λ a. either Q (is_none (listener_of s.phase)) _ _ (λ b. appends_same k refl)
    (λ b. maybe Q (lowest_free (table_of S p)) _ _ (appends_same k refl)
    (λ n low. oldest d s there n (slice_get (pending_ends s.phase) 0) refl))))
  where
    Q : Outcome → Type 0
    Q o = Appends S p (Request.Accept fd flags) k (description_at o.next k)

    of_socket : (x : Option Description) (t : Socket) → socket_in x ≡ Some t → append_in x ≡ None
    of_socket None t h = refl
    of_socket (Some D) t h = at_target D.target h
      where
        at_target : (u : Target) → socket_of u ≡ Some t → append_of D.append u ≡ None
        at_target (to_object o) h = absurd (cc h)
        at_target (to_socket v) h = refl

    oldest : (d : ℕ) (s : Socket) → socket_at S d ≡ Some s → (n : ℕ) (o : Option ℕ) → slice_get (pending_ends s.phase) 0 ≡ o →
        Q (accept_first S p n d flags o)
    oldest d s there n None first = appends_same k refl
    oldest d s there n (Some e) first =
        let T : State = with_table S p (filled (table_of S p) n (descriptor flags e)) in
        let V : State = with_socket_by T d without_first_end in
        let waits = whole.pending_ends_wait d 0 e s there first in
        let is = place-changed V.descriptions e k (accepted_with flags) in
        bool_cases (e == k)
        (λ b. record {
          told = λ old append was now.
              let none : None ≡ Some old = sym (of_socket (description_at S k) waits.0
              (sym (ap (λ (i : ℕ). socket_at S i) (eqb-true e k b)) ∙ waits.1)) ∙ was in
              absurd (cc none);
        })
        (λ b. appends_same k (ap append_in (is
        ∙ ap (λ c. cond c (option_map (accepted_with flags) (description_at V k)) (description_at V k)) b)
        ∙ append_changed T d k without_first_end
        ∙ ap append_in (in_table S p k (filled (table_of S p) n (descriptor flags e)))))

setting_append : (S : State) (p tag k : ℕ) (request : Request) → IsWhole S → may_set_flags request ≡ true →
    Appends S p request k (description_at (outcome S p tag request).next k)
unfolding outcome
setting_append S p tag k (Request.SetFlags fd flags) whole h = flags_append S p k fd flags
setting_append S p tag k (Request.Accept fd flags) whole h = accept_append S p k fd flags whole
setting_append S p tag k request whole h = absurd (false≢true h)

chosen_append : (S U : State) (p tag k : ℕ) (request : Request) (reply : Reply) → IsWhole S →
    Chosen S (outcome S p tag request) reply U → Appends S p request k (description_at U k)
chosen_append S U p tag k request reply whole chosen = bool_cases (may_set_flags request) (λ b. by_choice b chosen)
    (λ b. by_near b ((chosen_near S U p tag request reply chosen).each k))
  where
    by_choice : may_set_flags request ≡ true → Chosen S (outcome S p tag request) reply U → Appends S p request k (description_at U k)
    by_choice b (own e f) = subst (λ (V : State). Appends S p request k (description_at V k)) (sym f)
        (setting_append S p tag k request whole b)
    by_choice b (lacking_memory e may f) = appends_same k (ap (λ (V : State). append_in (description_at V k)) f)
    by_choice b (failing e f) =
        appends_same k (ap (λ (V : State). append_in (description_at V k)) ((each_obeys S p tag request).failed U f).0.left)

    kept : {x : Option Description} → ((append : Bool) → append_in (description_at S k) ≡ Some append → append_in x ≡ Some append) →
        Appends S p request k x
    kept keeps = record { told = λ old append h g. let both : Some append ≡ Some old = sym g ∙ keeps old h in inl (cc both) }

    by_near : {x : Option Description} → may_set_flags request ≡ false → NearAt S p request k x → Appends S p request k x
    by_near calm (stays e) = appends_same k (ap append_in e)
    by_near calm (reached r keeps) = kept (λ append h. keeps.5.appends calm append h)
    by_near calm (new more keeps) = kept (λ append h. keeps.5.appends calm append h)
    by_near calm (dropped off e) =
        record { told = λ old append h g. let clash : None ≡ Some append = sym (ap append_in e) ∙ g in absurd (cc clash) }

-- what of a file's description is left at the end of a call
append_led : (D : Description) (o : ℕ) → D.target ≡ to_object o → append_in (Some D) ≡ Some D.append
append_led D o is = ap (append_of D.append) is

offset_led : (D : Description) (o : ℕ) → D.target ≡ to_object o → offset_in (Some D) ≡ Some D.offset
offset_led D o is = ap (offset_of D.offset) is

lost_append : (U T : State) (d : ℕ) (E : Description) → Lost U T d → description_at T d ≡ Some E →
    append_in (description_at U d) ≡ append_in (Some E)
lost_append U T d E (unchanged e) there = sym (ap append_in e) ∙ ap append_in there
lost_append U T d E (lost e) there = let clash : None ≡ Some E = sym e ∙ there in absurd (cc clash)
lost_append U T d E (reset r had) there =
    ap append_in r.there ∙ sym (at_target r.description.append r.description.target) ∙ sym (ap append_in r.left) ∙ ap append_in there
  where
    at_target : (append : Bool) (u : Target) → append_of append (changed_target (with_reset true) u) ≡ append_of append u
    at_target append (to_object o) = refl
    at_target append (to_socket s) = refl

lost_offset : (U T : State) (d : ℕ) (E : Description) → Lost U T d → description_at T d ≡ Some E →
    offset_in (description_at U d) ≡ offset_in (Some E)
lost_offset U T d E (unchanged e) there = sym (ap offset_in e) ∙ ap offset_in there
lost_offset U T d E (lost e) there = let clash : None ≡ Some E = sym e ∙ there in absurd (cc clash)
lost_offset U T d E (reset r had) there =
    ap offset_in r.there ∙ sym (at_target r.description.offset r.description.target) ∙ sym (ap offset_in r.left) ∙ ap offset_in there
  where
    at_target : (offset : ℕ) (u : Target) → offset_of offset (changed_target (with_reset true) u) ≡ offset_of offset u
    at_target offset (to_object o) = refl
    at_target offset (to_socket s) = refl

pub appends_stay : AppendsStay
appends_stay boot es j d o e D E legal at here is there =
    let S : State = before boot es j in
    let T : State = before boot es (suc j) in
    let below = get_below es j e at in
    let opened : StaysOpen o D.mode E = modes_stay boot es j (suc j) d o D E legal (omega arith) (omega (arith, below)) here is there in
    let b = step_between S T e.pid.0 j e.request e.reply e.released (moment boot es j e legal at).steps in
    (chosen_append S b.0 e.pid.0 j d e.request e.reply (nothing_dangles boot (take j es) (front_is_legal boot es j legal)) b.1).told
    D.append E.append (ap append_in here ∙ append_led D o is)
    (lost_append b.0 T d E (subst (λ (V : State). Lost b.0 V d) (sym b.3) (settled_lost b.0 d)) there ∙ append_led E o opened.leads)

-- what F_SETFL leaves at a description
record Sets (S : State) (p : ℕ) (fd : Fd) (flags : OpenFlags) (reply : Reply) (next : State) : Type 0 where
  pub has : (d : ℕ) (E : Description) → reply ≡ Reply.Ok → description_of S p fd.0 ≡ Some d → description_at next d ≡ Some E →
      HasFlags E flags

flags_set : (S : State) (p : ℕ) (fd : Fd) (flags : OpenFlags) →
    Sets S p fd flags (set_flags S p fd flags).reply (set_flags S p fd flags).next
unfolding set_flags
flags_set S p fd flags = found Q S p fd _ (record { has = λ d E told led h. absurd (cc told) }) (λ e D g h. record {
  has = λ d E told led is.
      let same : Some e.description ≡ Some d = sym (ap description_in g) ∙ led in
      let at : e.description ≡ d = cc same in
      let put : Some E ≡ Some (with_flags flags D) = sym is
      ∙ in_table (with_description S e.description (with_flags flags D)) p d
      (filled (table_of S p) fd.0 (with_cloexec (asks_cloexec flags) e))
      ∙ ap (λ (i : ℕ). description_at (with_description S e.description (with_flags flags D)) i) (sym at)
      ∙ put_here S e.description D (with_flags flags D) h in
      let one : E ≡ with_flags flags D = cc put in
      record { appends = ap (λ (x : Description). x.append) one; blocks_not = ap (λ (x : Description). x.nonblock) one };
})
  where
    Q : Outcome → Type 0
    Q o = Sets S p fd flags o.reply o.next

-- and is left there at the end of the call
flags_left : (U T : State) (d : ℕ) (E : Description) (flags : OpenFlags) → Lost U T d → description_at T d ≡ Some E →
    ((F : Description) → description_at U d ≡ Some F → HasFlags F flags) → HasFlags E flags
flags_left U T d E flags (unchanged e) h has = has E (sym e ∙ h)
flags_left U T d E flags (lost e) h has = let clash : None ≡ Some E = sym e ∙ h in absurd (cc clash)
flags_left U T d E flags (reset r had) h has =
    let both : Some E ≡ Some (changed (with_reset true) r.description) = sym h ∙ r.left in
    let one : E ≡ changed (with_reset true) r.description = cc both in
    let was = has r.description r.there in
    record {
      appends = ap (λ (x : Description). x.append) one ∙ was.appends;
      blocks_not = ap (λ (x : Description). x.nonblock) one ∙ was.blocks_not;
    }

chosen_set : (S U : State) (p tag d : ℕ) (fd : Fd) (flags : OpenFlags) (reply : Reply) (E : Description) →
    Chosen S (outcome S p tag (Request.SetFlags fd flags)) reply U → reply ≡ Reply.Ok → description_of S p fd.0 ≡ Some d →
    description_at U d ≡ Some E → HasFlags E flags
unfolding outcome
chosen_set S U p tag d fd flags reply E (own e f) told led h =
    (flags_set S p fd flags).has d E (sym e ∙ told) led (ap (λ (V : State). description_at V d) (sym f) ∙ h)
chosen_set S U p tag d fd flags reply E (lacking_memory e may f) told led h =
    let clash : Reply.Err Errno.ENOMEM ≡ Reply.Ok = sym e ∙ told in absurd (cc clash)
chosen_set S U p tag d fd flags reply E (failing e f) told led h =
    let clash : Reply.Err Errno.EIO ≡ Reply.Ok = sym e ∙ told in absurd (cc clash)

pub flags_are_set : FlagsAreSet
flags_are_set boot es j d e fd flags E legal at request told led there =
    let S : State = before boot es j in
    let T : State = before boot es (suc j) in
    let b = step_between S T e.pid.0 j e.request e.reply e.released (moment boot es j e legal at).steps in
    flags_left b.0 T d E flags (subst (λ (V : State). Lost b.0 V d) (sym b.3) (settled_lost b.0 d)) there
    (λ F h. chosen_set S b.0 e.pid.0 j d fd flags e.reply F
    (subst (λ (r : Request). Chosen S (outcome S e.pid.0 j r) e.reply b.0) request b.1) told led h)

-- ---- the offset

-- as before, or moved through this number
record Moves (S : State) (p : ℕ) (fd : Fd) (k : ℕ) (x : Option Description) : Type 0 where
  pub told : (old offset : ℕ) → offset_in (description_at S k) ≡ Some old → offset_in x ≡ Some offset →
      (offset ≡ old) ⊎ (description_of S p fd.0 ≡ Some k)

moves_same : {S : State} {p : ℕ} {fd : Fd} (k : ℕ) {x : Option Description} → offset_in x ≡ offset_in (description_at S k) → Moves S p fd k x
moves_same {S} k is = record { told = λ old offset h g. let both : Some offset ≡ Some old = sym g ∙ is ∙ h in inl (cc both) }

-- of what a number leads to
moves_put : (S : State) (p k : ℕ) (fd : Fd) (e : Descriptor) (E : Description) → descriptor_at S p fd ≡ Some e →
    Moves S p fd k (description_at (with_description S e.description E) k)
moves_put S p k fd e E g = bool_cases (e.description == k)
    (λ b. record { told = λ old offset was is. inr (ap description_in g ∙ ap Some (eqb-true e.description k b)) })
    (λ b. moves_same k (ap offset_in (put_other S e.description k E b)))

moves_kept : {S : State} {p : ℕ} {fd : Fd} (k : ℕ) {x : Option Description} →
    ((offset : ℕ) → offset_in (description_at S k) ≡ Some offset → offset_in x ≡ Some offset) → Moves S p fd k x
moves_kept k keeps = record { told = λ old offset h g. let both : Some offset ≡ Some old = sym g ∙ keeps old h in inl (cc both) }

-- a call that is near like one that moves no offset
moves_near : (S U : State) (p k : ℕ) (fd : Fd) (request : Request) → may_move request ≡ false → Near S p request U →
    Moves S p fd k (description_at U k)
moves_near S U p k fd request calm near = by_near (near.each k)
  where
    by_near : {x : Option Description} → NearAt S p request k x → Moves S p fd k x
    by_near (stays e) = moves_same k (ap offset_in e)
    by_near (reached r keeps) = moves_kept k (λ offset h. keeps.5.stands calm offset h)
    by_near (new more keeps) = moves_kept k (λ offset h. keeps.5.stands calm offset h)
    by_near (dropped off e) =
        record { told = λ old offset h g. let clash : None ≡ Some offset = sym (ap offset_in e) ∙ g in absurd (cc clash) }

read_moves : (S : State) (p k : ℕ) (fd : Fd) (n : ℕ) → Moves S p fd k (description_at (read S p fd n).next k)
unfolding read
read_moves S p k fd n = found Q S p fd _ (moves_same k refl) (λ e D g h. by_target Q D.target _ _
    (λ o t. maybe Q (place S.objects o) _ _ (moves_same k refl)
    (λ view there. either Q (not (can_read D.mode)) _ _ (λ b. moves_same k refl)
    (λ b. either Q (is_short_read view.body (min read_limit n)) _ _ (λ c. moves_same k refl)
    (λ c. either Q (holds_bytes view.body && (min read_limit n == 0)) _ _ (λ f. moves_same k refl)
    (λ f. by_answer o e D view g (read_body view.body D.offset (min read_limit n)))))))
    (λ s t. moves_near S _ p k fd Request.Exec refl
    (receive_near S p e.description Request.Exec s (incoming (min read_limit n) 0 no_flags) (by_fd fd e g))))
  where
    Q : Outcome → Type 0
    Q x = Moves S p fd k (description_at x.next k)

    by_answer : (o : ℕ) (e : Descriptor) (D : Description) (view : View) → descriptor_at S p fd ≡ Some e →
        (r : Result (List ℕ × Body) ObjectError) → Q (read_answer S e.description D o view r)
    by_answer o e D view g (Ok made) = moves_put S p k fd e _ g
    by_answer o e D view g (Err would_block) =
        either Q (is_pipe view.body && not (is_open_for can_write S o)) _ _ (λ b. moves_same k refl) (λ b. moves_same k refl)
    by_answer o e D view g (Err full) = moves_same k refl
    by_answer o e D view g (Err invalid) = moves_same k refl

write_moves : (S : State) (p tag k : ℕ) (fd : Fd) (bytes : List ℕ) → Moves S p fd k (description_at (write S p tag fd bytes).next k)
unfolding write
write_moves S p tag k fd bytes = found Q S p fd _ (moves_same k refl) (λ e D g h. by_target Q D.target _ _
    (λ o t. maybe Q (place S.objects o) _ _ (moves_same k refl)
    (λ view there. either Q (not (can_write D.mode)) _ _ (λ b. moves_same k refl)
    (λ b. either Q (holds_bytes view.body && (length bytes == 0)) _ _ (λ c. moves_same k refl)
    (λ c. either Q (is_pipe view.body && not (is_open_for can_read S o)) _ _ (λ f. moves_same k refl)
    (λ f. by_answer o e D view g (write_body view.body (write_place D view) bytes))))))
    (λ s t. maybe Q (process_at S p) _ _ (moves_same k refl)
    (λ P here. moves_near S _ p k fd Request.Exec refl
    (from_near S p fd.0 Request.Exec (flight_limit P) e.description s _ (ap description_in g) (ap socket_in h ∙ ap socket_of t)))))
  where
    Q : Outcome → Type 0
    Q x = Moves S p fd k (description_at x.next k)

    by_answer : (o : ℕ) (e : Descriptor) (D : Description) (view : View) → descriptor_at S p fd ≡ Some e →
        (r : Result (ℕ × Body) ObjectError) → Q (write_answer S e.description D o view r)
    by_answer o e D view g (Ok made) = moves_put S p k fd e _ g
    by_answer o e D view g (Err would_block) = moves_same k refl
    by_answer o e D view g (Err full) = moves_same k refl
    by_answer o e D view g (Err invalid) = moves_same k refl

seek_moves : (S : State) (p k : ℕ) (fd : Fd) (offset : ℤ) (whence : Whence) →
    Moves S p fd k (description_at (lseek S p fd offset whence).next k)
unfolding lseek
seek_moves S p k fd offset whence = found Q S p fd _ (moves_same k refl) (λ e D g h. by_target Q D.target _ _
    (λ o t. maybe Q (place S.objects o) _ _ (moves_same k refl)
    (λ view there. either Q (not (is_memory view.body)) _ _ (λ b. moves_same k refl)
    (λ b. seek e D g (pos (seek_base whence D view) +ℤ offset))))
    (λ s t. moves_same k refl))
  where
    Q : Outcome → Type 0
    Q x = Moves S p fd k (description_at x.next k)

    seek : (e : Descriptor) (D : Description) → descriptor_at S p fd ≡ Some e → (to : ℤ) → Q (seek_to S e.description D to)
    seek e D g (pos n) = either Q (nat_lt offset_limit n) _ _ (λ b. moves_same k refl) (λ b. moves_put S p k fd e _ g)
    seek e D g (negsuc n) = moves_same k refl

-- through the number that the call goes through
record MovesThrough (S : State) (p : ℕ) (request : Request) (k : ℕ) (x : Option Description) : Type 0 where
  pub told : (old offset : ℕ) → offset_in (description_at S k) ≡ Some old → offset_in x ≡ Some offset →
      (offset ≡ old) ⊎ ((fd : Fd) × (moves_through request ≡ Some fd) × (description_of S p fd.0 ≡ Some k))

through : {S : State} {p k : ℕ} {request : Request} {x : Option Description} (fd : Fd) → moves_through request ≡ Some fd →
    Moves S p fd k x → MovesThrough S p request k x
through {S} {p} {k} {request} fd is moves = record {
  told = λ old offset h g. ⊎_elim {C = (offset ≡ old) ⊎ ((f : Fd) × (moves_through request ≡ Some f) × (description_of S p f.0 ≡ Some k))}
      (λ same. inl same) (λ leads. inr (fd, is, leads)) (moves.told old offset h g);
}

moving : (S : State) (p tag k : ℕ) (request : Request) → may_move request ≡ true →
    MovesThrough S p request k (description_at (outcome S p tag request).next k)
unfolding outcome
moving S p tag k (Request.Read fd n) h = through fd refl (read_moves S p k fd n)
moving S p tag k (Request.Write fd bytes) h = through fd refl (write_moves S p tag k fd bytes)
moving S p tag k (Request.Lseek fd offset whence) h = through fd refl (seek_moves S p k fd offset whence)
moving S p tag k request h = absurd (false≢true h)

chosen_moves : (S U : State) (p tag k : ℕ) (request : Request) (reply : Reply) → Chosen S (outcome S p tag request) reply U →
    MovesThrough S p request k (description_at U k)
chosen_moves S U p tag k request reply chosen = bool_cases (may_move request) (λ b. by_choice b chosen)
    (λ b. by_near b ((chosen_near S U p tag request reply chosen).each k))
  where
    same_offset : {x : Option Description} → offset_in x ≡ offset_in (description_at S k) → MovesThrough S p request k x
    same_offset is = record { told = λ old offset h g. let both : Some offset ≡ Some old = sym g ∙ is ∙ h in inl (cc both) }

    by_choice : may_move request ≡ true → Chosen S (outcome S p tag request) reply U → MovesThrough S p request k (description_at U k)
    by_choice b (own e f) = subst (λ (V : State). MovesThrough S p request k (description_at V k)) (sym f) (moving S p tag k request b)
    by_choice b (lacking_memory e may f) = same_offset (ap (λ (V : State). offset_in (description_at V k)) f)
    by_choice b (failing e f) =
        same_offset (ap (λ (V : State). offset_in (description_at V k)) ((each_obeys S p tag request).failed U f).0.left)

    kept : {x : Option Description} → ((offset : ℕ) → offset_in (description_at S k) ≡ Some offset → offset_in x ≡ Some offset) →
        MovesThrough S p request k x
    kept keeps = record { told = λ old offset h g. let both : Some offset ≡ Some old = sym g ∙ keeps old h in inl (cc both) }

    by_near : {x : Option Description} → may_move request ≡ false → NearAt S p request k x → MovesThrough S p request k x
    by_near calm (stays e) = same_offset (ap offset_in e)
    by_near calm (reached r keeps) = kept (λ offset h. keeps.5.stands calm offset h)
    by_near calm (new more keeps) = kept (λ offset h. keeps.5.stands calm offset h)
    by_near calm (dropped off e) =
        record { told = λ old offset h g. let clash : None ≡ Some offset = sym (ap offset_in e) ∙ g in absurd (cc clash) }

pub offsets_stay : OffsetsStay
offsets_stay boot es j d o e D E legal at here is there =
    let S : State = before boot es j in
    let T : State = before boot es (suc j) in
    let below = get_below es j e at in
    let opened : StaysOpen o D.mode E = modes_stay boot es j (suc j) d o D E legal (omega arith) (omega (arith, below)) here is there in
    let b = step_between S T e.pid.0 j e.request e.reply e.released (moment boot es j e legal at).steps in
    (chosen_moves S b.0 e.pid.0 j d e.request e.reply b.1).told D.offset E.offset (ap offset_in here ∙ offset_led D o is)
    (lost_offset b.0 T d E (subst (λ (V : State). Lost b.0 V d) (sym b.3) (settled_lost b.0 d)) there ∙ offset_led E o opened.leads)
