-- What a description leads to is what its open named, or what its call made, and so a number that leads to a file object has a way to it.
use Rattle.std.proofs.Common.{◌≡◌, ◌≢◌, ◌⊎◌, ℕ, zero, suc, ◌+◌, ◌≤◌, ◌<◌, ◌==◌, Bool, true, cond, is_some, List, [], ◌∷◌, ◌++◌, length}
use Rattle.std.proofs.Common.{take}
use Rattle.std.proofs.Common.{Option, Some, None, Result, Ok, Err, option_map, refl, ap, sym, ◌∙◌, subst, inl, inr, ⊎_elim, arith}
use Rattle.std.proofs.Common.{slice_get}
use Rattle.std.proofs.lemmas.Bool.{eqb-true, eqb-false, false≢true}
use Rattle.std.proofs.lemmas.List.{length_push, take_all}
use Rattle.ux_model.specs.Types.{Errno, Fd, Name, Mode, OpenFlags, Request, Reply, Entry, How, Link}
use Rattle.ux_model.specs.Names.{file, named}
use Rattle.ux_model.specs.Socket.{Socket, pending_ends, awaiting, sent, with_queue, with_association, new_socket, pair_end}
use Rattle.ux_model.specs.Description.{Description, Target, to_object, to_socket, changed, changed_target}
use Rattle.ux_model.specs.Process.{Descriptor, own_cred}
use Rattle.ux_model.specs.State.{State, description_at, next_description, with_socket_by, with_new}
use Rattle.ux_model.specs.Outcome.{descriptor_at, find_socket}
use Rattle.ux_model.specs.Pairing.{socket_description}
use Rattle.ux_model.specs.Opening.{file_description}
use Rattle.ux_model.specs.Making.{next_object}
use Rattle.ux_model.specs.Connecting.{with_listening, server_end, tied, no_open_flags}
use Rattle.ux_model.specs.History.{replay, IsLegal}
use Rattle.ux_model.specs.Invariants.{IsWhole}
use Rattle.ux_model.specs.Giving.{held_at, is_held, description_in, description_of, given, how_of, how_received}
use Rattle.ux_model.specs.Changes.{sources}
use Rattle.ux_model.specs.Pedigree.{before, delivered, IsGiven, IsChain, first, onward, IsPedigree}
use Rattle.ux_model.specs.PedigreeLaws.{LeadsTo}
use Rattle.ux_model.proofs.Changes.Walk.{found}
use Rattle.ux_model.proofs.Lists.ChangedPlaces.{bool_cases, place_within, length-changed}
use Rattle.ux_model.proofs.Lists.OnePlace.{same_at}
use Rattle.ux_model.proofs.Lists.Fronts.{front_is_legal}
use Rattle.ux_model.proofs.Lists.ByPlace.{get_below, get_within}
use Rattle.ux_model.proofs.Invariants.Dangling.{nothing_dangles}
use Rattle.ux_model.proofs.Pedigrees.Moments.{moment}
use Rattle.ux_model.proofs.Pedigrees.Passing.{given_there, own_number, how_fork}
use Rattle.ux_model.proofs.Pedigrees.OneDescription.{pedigree_is_of_one}
use Rattle.ux_model.proofs.Tables.Shows.{socket_found}
use Rattle.ux_laws.specs.Files.{made_modes, BeginsWay, by_opening, by_making, HasWay}
use Rattle.ux_laws.proofs.Parts.{Glance, glance, glance_target, glance_at, glance_socket, glance_new, Shrinks}
use Rattle.ux_laws.proofs.Acts.{Did, quiet, opened, file_made, pipe_made, one_made, pair_made, listened, tied_to, connected, put, took}
use Rattle.ux_laws.proofs.Doing.Calls.{step_did}
use Rattle.ux_laws.proofs.Flows.{unmade}
use Rattle.ux_laws.proofs.Ways.{every_holding_has_a_pedigree}

-- ---- the file object of a description

-- description d leads to the file object, and in this mode
abbrev pub Leads : State → ℕ → ℕ × Mode → Type 0
Leads S d x = (glance_at S d).1 ≡ Some x

-- the call opened it by a path
abbrev pub HasOpened : State → Request → ℕ → ℕ × Mode → Type 0
HasOpened S request d x = (path : Name) × (mode : Mode) × (flags : OpenFlags) × (o : ℕ)
    × (request ≡ Request.Open path mode flags) × (named path S.paths ≡ Some (file o)) × (x ≡ (o, mode)) × (d ≡ length S.descriptions)

-- the call made the file object, and opened it in the ith of the modes
abbrev pub HasMade : State → Request → ℕ → ℕ × Mode → Type 0
HasMade S request d x = (i : ℕ) × (mode : Mode) × (slice_get (made_modes request) i ≡ Some mode) × (x ≡ (next_object S, mode))
    × (d ≡ length S.descriptions + i)

-- it did before, or the call opened it, or made it
abbrev pub OrOpened : State → Request → ℕ → ℕ × Mode → Type 0
OrOpened S request d x = Leads S d x ⊎ HasOpened S request d x ⊎ HasMade S request d x

shrunk_leads : (V T : State) (d : ℕ) (x : ℕ × Mode) → Shrinks V T → Leads T d x → Leads V d x
shrunk_leads V T d x sh h = ⊎_elim {C = Leads V d x} (λ same. sym (ap (λ (g : Glance). g.1) same) ∙ h)
    (λ none. let nowhere : None ≡ Some x = sym (ap (λ (g : Glance). g.1) none) ∙ h in absurd (cc nowhere)) (sh.each d)

changed_leads : (S : State) (t d : ℕ) (change : Socket → Socket) (x : ℕ × Mode) → Leads (with_socket_by S t change) d x → Leads S d x
changed_leads S t d change x h = sym (same_at
    (λ y. (glance y).1) S.descriptions t d (option_map (changed change) (description_at S t)) (at_place (description_at S t))) ∙ h
  where
    at_target : (mode : Mode) (u : Target) → (glance_target mode (changed_target change u)).1 ≡ (glance_target mode u).1
    at_target mode (to_object o) = refl
    at_target mode (to_socket s) = refl

    at_place : (y : Option Description) → (glance (option_map (changed change) y)).1 ≡ (glance y).1
    at_place None = refl
    at_place (Some D) = at_target D.mode D.target

new_leads : (S : State) (D : Description) (d : ℕ) (x : ℕ × Mode) → Leads (with_new S D) d x →
    Leads S d x ⊎ ((d ≡ length S.descriptions) × ((glance (Some D)).1 ≡ Some x))
new_leads S D d x h = bool_cases (length S.descriptions == d)
    (λ e. inr (
      sym (eqb-true (length S.descriptions) d e),
      sym (ap (λ (g : Glance). g.1) (glance_new S D d ∙ ap (λ b. cond b (glance (Some D)) (glance_at S d)) e)) ∙ h,
    ))
    (λ e. inl (sym (ap (λ (g : Glance). g.1) (glance_new S D d ∙ ap (λ b. cond b (glance (Some D)) (glance_at S d)) e)) ∙ h))

-- a new socket leads to none
socket_leads : (S : State) (D : Description) (d : ℕ) (x : ℕ × Mode) → (glance (Some D)).1 ≡ None → Leads (with_new S D) d x → Leads S d x
socket_leads S D d x none h = ⊎_elim {C = Leads S d x} (λ old. old)
    (λ w. let nowhere : None ≡ Some x = sym none ∙ w.1 in absurd (cc nowhere)) (new_leads S D d x h)

pub did_leads : (S T : State) (p tag : ℕ) (request : Request) (reply : Reply) (d : ℕ) (x : ℕ × Mode) → Did S p tag request reply T →
    Leads T d x → OrOpened S request d x
did_leads S T p tag request reply d x (quiet k moves) h = inl (shrunk_leads S T d x k h)
did_leads S T p tag request reply d x (opened path mode flags o a b c k) h =
    ⊎_elim {C = OrOpened S request d x} (λ old. inl old)
    (λ w. let same : (o, mode) ≡ x = cc (w.1) in inr (inl (path, mode, flags, o, a, b, sym same, w.0)))
    (new_leads S (file_description o mode flags) d x (shrunk_leads _ T d x k h))
did_leads S T p tag request reply d x (file_made mode flags a b k) h =
    ⊎_elim {C = OrOpened S request d x} (λ old. inl old)
    (λ w.
    let same : (next_object S, mode) ≡ x = cc (w.1) in
    let at = w.0 in
    inr (inr (0, mode, ap (λ (l : List Mode). slice_get l 0) a, sym same, omega (arith, at))))
    (new_leads S (file_description (next_object S) mode flags) d x (shrunk_leads _ T d x k h))
did_leads S T p tag request reply d x (pipe_made flags a b k) h =
    let one : Description = file_description (next_object S) Mode.Read flags in
    let two : Description = file_description (next_object S) Mode.Write flags in
    let long = length_push S.descriptions (Some one) in
    ⊎_elim {C = OrOpened S request d x}
    (λ old. ⊎_elim {C = OrOpened S request d x} (λ older. inl older)
    (λ w.
    let same : (next_object S, Mode.Read) ≡ x = cc (w.1) in
    let at = w.0 in
    inr (inr (0, Mode.Read, ap (λ (l : List Mode). slice_get l 0) a, sym same, omega (arith, at))))
    (new_leads S one d x old))
    (λ w.
    let same : (next_object S, Mode.Write) ≡ x = cc (w.1) in
    let at = w.0 in
    inr (inr (1, Mode.Write, ap (λ (l : List Mode). slice_get l 1) a, sym same, omega (arith, at, long))))
    (new_leads (with_new S one) two d x (shrunk_leads _ T d x k h))
did_leads S T p tag request reply d x (one_made kind flags is a k) h =
    inl (socket_leads S (socket_description flags (new_socket kind)) d x refl (shrunk_leads _ T d x k h))
did_leads S T p tag request reply d x (pair_made kind flags P a b c e f k) h =
    let one : Description = socket_description flags (pair_end kind (suc (next_description S)) (own_cred p P)) in
    let two : Description = socket_description flags (pair_end kind (next_description S) (own_cred p P)) in
    inl (socket_leads S one d x refl (socket_leads (with_new S one) two d x refl (shrunk_leads _ T d x k h)))
did_leads S T p tag request reply d x (listened fd backlog P t limit s a b c e f g k) h =
    inl (changed_leads S t d (with_listening limit (own_cred p P)) x (shrunk_leads _ T d x k h))
did_leads S T p tag request reply d x (tied_to t target s a b to k) h =
    inl (changed_leads S t d (with_association target) x (shrunk_leads _ T d x k h))
did_leads S T p tag request reply d x (connected fd addr P t l s other kept a b c e f g i j m k) h =
    let U : State = with_socket_by S l (awaiting (next_description S)) in
    let D : Description = socket_description no_open_flags (server_end other t (own_cred p P)) in
    inl (changed_leads S l d (awaiting (next_description S)) x
    (socket_leads U D d x refl (changed_leads (with_new U D) t d (tied (next_description S) kept.cred) x (shrunk_leads _ T d x k h))))
did_leads S T p tag request reply d x (put t m a k) h = inl (changed_leads S t d (sent m) x (shrunk_leads _ T d x k h))
did_leads S T p tag request reply d x (took t n s m ms a k) h = inl (changed_leads S t d (with_queue _) x (shrunk_leads _ T d x k h))

-- ---- descriptions are numbered on

more_new : (S V : State) (D : Description) → length S.descriptions ≤ length V.descriptions →
    length S.descriptions ≤ length (with_new V D).descriptions
more_new S V D h = let l = length_push V.descriptions (Some D) in omega (arith, l, h)

more_changed : (S V : State) (t : ℕ) (change : Socket → Socket) → length S.descriptions ≤ length V.descriptions →
    length S.descriptions ≤ length (with_socket_by V t change).descriptions
more_changed S V t change h = let l = length-changed V.descriptions t (changed change) in omega (arith, l, h)

more_left : (S V T : State) → Shrinks V T → length S.descriptions ≤ length V.descriptions → length S.descriptions ≤ length T.descriptions
more_left S V T sh h = let l = sh.long in omega (arith, l, h)

pub did_more : (S T : State) (p tag : ℕ) (request : Request) (reply : Reply) → Did S p tag request reply T →
    length S.descriptions ≤ length T.descriptions
did_more S T p tag request reply (quiet k moves) = more_left S S T k (omega arith)
did_more S T p tag request reply (opened path mode flags o a b c k) =
    more_left S _ T k (more_new S S (file_description o mode flags) (omega arith))
did_more S T p tag request reply (file_made mode flags a b k) =
    more_left S _ T k (more_new S S (file_description (next_object S) mode flags) (omega arith))
did_more S T p tag request reply (pipe_made flags a b k) =
    let one : Description = file_description (next_object S) Mode.Read flags in
    let two : Description = file_description (next_object S) Mode.Write flags in
    more_left S _ T k (more_new S (with_new S one) two (more_new S S one (omega arith)))
did_more S T p tag request reply (one_made kind flags is a k) =
    more_left S _ T k (more_new S S (socket_description flags (new_socket kind)) (omega arith))
did_more S T p tag request reply (pair_made kind flags P a b c e f k) =
    let one : Description = socket_description flags (pair_end kind (suc (next_description S)) (own_cred p P)) in
    let two : Description = socket_description flags (pair_end kind (next_description S) (own_cred p P)) in
    more_left S _ T k (more_new S (with_new S one) two (more_new S S one (omega arith)))
did_more S T p tag request reply (listened fd backlog P t limit s a b c e f g k) =
    more_left S _ T k (more_changed S S t (with_listening limit (own_cred p P)) (omega arith))
did_more S T p tag request reply (tied_to t target s a b to k) =
    more_left S _ T k (more_changed S S t (with_association target) (omega arith))
did_more S T p tag request reply (connected fd addr P t l s other kept a b c e f g i j m k) =
    let U : State = with_socket_by S l (awaiting (next_description S)) in
    let D : Description = socket_description no_open_flags (server_end other t (own_cred p P)) in
    more_left S _ T k (more_changed S (with_new U D) t (tied (next_description S) kept.cred)
    (more_new S U D (more_changed S S l (awaiting (next_description S)) (omega arith))))
did_more S T p tag request reply (put t m a k) = more_left S _ T k (more_changed S S t (sent m) (omega arith))
did_more S T p tag request reply (took t n s m ms a k) = more_left S _ T k (more_changed S S t (with_queue _) (omega arith))

pub did_at : (boot : State) (es : List Entry) (k : ℕ) (e : Entry) → IsLegal boot es → slice_get es k ≡ Some e →
    Did (before boot es k) e.pid.0 k e.request e.reply (before boot es (suc k))
did_at boot es k e legal at = step_did (before boot es k) (before boot es (suc k)) e.pid.0 k e.request e.reply e.released
    (moment boot es k e legal at).steps

-- so no fewer were made when a later call is made
pub made_more : (boot : State) (es : List Entry) (i m : ℕ) → IsLegal boot es → i ≤ m → m ≤ length es →
    length (before boot es i).descriptions ≤ length (before boot es m).descriptions
made_more boot es i zero legal low within = let same : i ≡ zero = omega (arith, low) in
    subst (λ (k : ℕ). length (before boot es k).descriptions ≤ length (before boot es zero).descriptions) (sym same) (omega arith)
made_more boot es i (suc m) legal low within = bool_cases (i == suc m)
    (λ e. subst (λ (k : ℕ). length (before boot es k).descriptions ≤ length (before boot es (suc m)).descriptions)
    (sym (eqb-true i (suc m) e)) (omega arith))
    (λ e.
    let ne = eqb-false i (suc m) e in
    let there = get_within es m (omega (arith, within)) in
    let so_far = made_more boot es i m legal (omega (arith, low, ne)) (omega (arith, within)) in
    let one = did_more (before boot es m) (before boot es (suc m)) there.0.pid.0 m there.0.request there.0.reply
    (did_at boot es m there.0 legal there.1) in
    omega (arith, so_far, one))

-- one that was made before led there from then on
pub led_before : (boot : State) (es : List Entry) (i m d : ℕ) (x : ℕ × Mode) → IsLegal boot es → i ≤ m → m ≤ length es →
    d < length (before boot es i).descriptions → Leads (before boot es m) d x → Leads (before boot es i) d x
led_before boot es i zero d x legal low within known h = let same : i ≡ zero = omega (arith, low) in
    subst (λ (k : ℕ). Leads (before boot es k) d x) (sym same) h
led_before boot es i (suc m) d x legal low within known h = bool_cases (i == suc m)
    (λ e. subst (λ (k : ℕ). Leads (before boot es k) d x) (sym (eqb-true i (suc m) e)) h)
    (λ e.
    let ne = eqb-false i (suc m) e in
    let there = get_within es m (omega (arith, within)) in
    let more = made_more boot es i m legal (omega (arith, low, ne)) (omega (arith, within)) in
    led_before boot es i m d x legal (omega (arith, low, ne)) (omega (arith, within)) known
    (⊎_elim {C = Leads (before boot es m) d x} (λ old. old) (λ w. ⊎_elim {C = Leads (before boot es m) d x}
    (λ v. let new = v.7 in absurd (omega (arith, known, more, new))) (λ v. let new = v.4 in absurd (omega (arith, known, more, new))) w)
    (did_leads (before boot es m) (before boot es (suc m)) there.0.pid.0 m there.0.request there.0.reply d x
    (did_at boot es m there.0 legal there.1) h)))

-- ---- the first link

pub record Begins (boot : State) (es : List Entry) (chain : List Link) : Type 0 where
  pub first : Link
  pub rest : List Link
  pub is : chain ≡ first ∷ rest
  pub call : Entry
  pub given : IsGiven boot es first call
  pub made : first.how ≡ How.Made

pub chain_begins : (boot : State) (es : List Entry) (chain : List Link) (a : Link) → IsChain boot es chain a → Begins boot es chain
chain_begins boot es chain a (first b e g made) = record { first = b; rest = []; is = refl; call = e; given = g; made = made }
chain_begins boot es chain a (onward {chain = xs} c b e giving leads stands g from) =
    let w = chain_begins boot es xs c leads in
    record {
      first = w.first;
      rest = w.rest ++ b ∷ [];
      is = ap (λ (l : List Link). l ++ b ∷ []) w.is;
      call = w.call;
      given = w.given;
      made =
          w.made;
    }

-- what a call that makes something gives led nowhere before, or is an end of a connection
no_file_before : (boot : State) (es : List Entry) (k i d : ℕ) (e : Entry) (x : ℕ × Mode) (tag : Option ℕ) → IsLegal boot es →
    slice_get es k ≡ Some e → how_of e.request tag ≡ Some How.Made →
    slice_get (sources (before boot es k) e.pid.0 e.request) i ≡ Some d → Leads (before boot es k) d x → ⊥
no_file_before boot es k i d e x tag legal at way source leads = by_request e.request way source
  where
    S : State
    S = before boot es k

    whole : IsWhole S
    whole = nothing_dangles boot (take k es) (front_is_legal boot es k legal)

    new : length S.descriptions ≤ d → ⊥
    new beyond = let none : None ≡ Some x = sym (ap (λ (g : Glance). g.1) (unmade S d beyond)) ∙ leads in cc none

    at_first : (n : ℕ) → slice_get (n ∷ []) i ≡ Some d → n ≡ d
    at_first n h = go i h
      where
        go : (i : ℕ) → slice_get (n ∷ []) i ≡ Some d → n ≡ d
        go zero h = cc h
        go (suc i) h = absurd (cc h)

    of_two : (n m : ℕ) → slice_get (n ∷ m ∷ []) i ≡ Some d → (n ≡ d) ⊎ (m ≡ d)
    of_two n m h = go i h
      where
        go : (i : ℕ) → slice_get (n ∷ m ∷ []) i ≡ Some d → (n ≡ d) ⊎ (m ≡ d)
        go zero h = inl (cc h)
        go (suc zero) h = inr (cc h)
        go (suc (suc i)) h = absurd (cc h)

    oldest : (xs : List ℕ) (i : ℕ) → slice_get (take 1 xs) i ≡ Some d → slice_get xs 0 ≡ Some d
    oldest [] i h = absurd (cc h)
    oldest (y ∷ ys) zero h = h
    oldest (y ∷ ys) (suc i) h = absurd (nothing ys i h)
      where
        nothing : (ys : List ℕ) (i : ℕ) → slice_get (take 0 ys) i ≡ Some d → ⊥
        nothing [] i h = cc h
        nothing (z ∷ zs) i h = cc h

    accepted : (r : Result (ℕ × Socket) Errno) (fd : Fd) → find_socket S e.pid.0 fd ≡ r →
        slice_get (elim r as (λ _. List ℕ) [ Err f ↦ [] | Ok w ↦ take 1 (pending_ends w.1.phase) ]) i ≡ Some d → ⊥
    accepted (Err f) fd found h = cc h
    accepted (Ok w) fd found h =
        let there = whole.pending_ends_wait w.0 0 d w.1 (socket_found S e.pid.0 w.0 fd w.1 found) (oldest (pending_ends w.1.phase) i h) in
        let none : None ≡ Some x = sym (ap (λ (g : Glance). g.1) (glance_socket S d there.0 there.1)) ∙ leads in
        cc none

    received : (o : Option ℕ) → how_received o ≡ Some How.Made → ⊥
    received None h = cc h
    received (Some t) h = cc h

    by_request : (r : Request) → how_of r tag ≡ Some How.Made → slice_get (sources S e.pid.0 r) i ≡ Some d → ⊥
    by_request (Request.Open path mode flags) way h = let same = at_first (next_description S) h in new (omega (arith, same))
    by_request (Request.Create path mode flags) way h = let same = at_first (next_description S) h in new (omega (arith, same))
    by_request (Request.MemFd flags) way h = let same = at_first (next_description S) h in new (omega (arith, same))
    by_request (Request.EventFd value semaphore flags) way h = let same = at_first (next_description S) h in new (omega (arith, same))
    by_request (Request.Pipe flags) way h =
        ⊎_elim {C = ⊥} (λ same. new (omega (arith, same)))
        (λ same. new (omega (arith, same))) (of_two (next_description S) (suc (next_description S)) h)
    by_request (Request.Socket kind flags) way h = let same = at_first (next_description S) h in new (omega (arith, same))
    by_request (Request.SocketPair kind flags) way h =
        ⊎_elim {C = ⊥} (λ same. new (omega (arith, same)))
        (λ same. new (omega (arith, same))) (of_two (next_description S) (suc (next_description S)) h)
    by_request (Request.Accept fd flags) way h = accepted (find_socket S e.pid.0 fd) fd refl h
    by_request (Request.RecvMsg fd n space flags) way h = received tag way
    by_request _ way h = cc way

-- the description that a call gives at a place is open in the mode of that place, if the call made what it leads to
mode_there : (S : State) (p i j d : ℕ) (mode : Mode) (r : Request) → slice_get (made_modes r) i ≡ Some mode →
    d ≡ length S.descriptions + i → slice_get (sources S p r) j ≡ Some d → slice_get (made_modes r) j ≡ Some mode
mode_there S p i j d mode r h e g = by_request r h g
  where
    of_one : (m : Mode) (i j : ℕ) → slice_get (m ∷ []) i ≡ Some mode → slice_get (next_description S ∷ []) j ≡ Some d →
        slice_get (m ∷ []) j ≡ Some mode
    of_one m zero zero h g = h
    of_one m zero (suc j) h g = absurd (cc g)
    of_one m (suc i) j h g = absurd (cc h)

    of_two : (i j : ℕ) → slice_get (Mode.Read ∷ Mode.Write ∷ []) i ≡ Some mode → d ≡ length S.descriptions + i →
        slice_get (next_description S ∷ suc (next_description S) ∷ []) j ≡ Some d →
        slice_get (Mode.Read ∷ Mode.Write ∷ []) j ≡ Some mode
    of_two zero zero h e g = h
    of_two zero (suc zero) h e g = let same : suc (length S.descriptions) ≡ d = cc g in absurd (omega (arith, same, e))
    of_two zero (suc (suc j)) h e g = absurd (cc g)
    of_two (suc zero) zero h e g = let same : length S.descriptions ≡ d = cc g in absurd (omega (arith, same, e))
    of_two (suc zero) (suc zero) h e g = h
    of_two (suc zero) (suc (suc j)) h e g = absurd (cc g)
    of_two (suc (suc i)) j h e g = absurd (cc h)

    by_request : (r : Request) → slice_get (made_modes r) i ≡ Some mode → slice_get (sources S p r) j ≡ Some d →
        slice_get (made_modes r) j ≡ Some mode
    by_request (Request.Create path m flags) h g = of_one m i j h g
    by_request (Request.MemFd flags) h g = of_one Mode.Both i j h g
    by_request (Request.EventFd value semaphore flags) h g = of_one Mode.Both i j h g
    by_request (Request.Pipe flags) h g = of_two i j h e g
    by_request r h g = absurd (cc h)

-- how a way begins with a link whose call opened what its description leads to, or made it
began_by_path : (boot : State) (es : List Entry) (allows : Mode → Bool) (o d : ℕ) (mode : Mode) (f : Link) (e : Entry) →
    slice_get es f.entry ≡ Some e → allows mode ≡ true → HasOpened (before boot es f.entry) e.request d (o, mode) →
    BeginsWay boot es allows o f
began_by_path boot es allows o d mode f e at may v =
    let pair_is : (o, mode) ≡ (v.3, v.1) = v.6 in
    let object : o ≡ v.3 = ap (λ (x : ℕ × Mode). x.0) pair_is in
    let mode_is : mode ≡ v.1 = ap (λ (x : ℕ × Mode). x.1) pair_is in
    by_opening (record {
      call = e;
      path = v.0;
      mode = v.1;
      flags = v.2;
      there = at;
      asked = v.4;
      leads = v.5 ∙ sym (ap (λ (i : ℕ). Some (file i)) object);
      allowed = sym (ap allows mode_is) ∙ may;
    })

began_by_making : (boot : State) (es : List Entry) (allows : Mode → Bool) (o d : ℕ) (mode : Mode) (place : ℕ) (f : Link) (e : Entry) →
    slice_get es f.entry ≡ Some e → allows mode ≡ true →
    slice_get (given (before boot es f.entry) e.pid.0 e.request e.reply) place ≡ Some f.fd.0 →
    slice_get (sources (before boot es f.entry) e.pid.0 e.request) place ≡ Some d →
    HasMade (before boot es f.entry) e.request d (o, mode) → BeginsWay boot es allows o f
began_by_making boot es allows o d mode place f e at may gave source v =
    let pair_is : (o, mode) ≡ (next_object (before boot es f.entry), v.1) = v.3 in
    by_making (record {
      call = e;
      place = place;
      mode = v.1;
      there = at;
      number = gave;
      opens = mode_there (before boot es f.entry) e.pid.0 v.0 place d v.1 e.request v.2 v.4 source;
      new = ap (λ (x : ℕ × Mode). x.0) pair_is;
      allowed = sym (ap (λ (x : ℕ × Mode). allows x.1) pair_is) ∙ may;
    })

-- so the first link opened the file object, or made it
pub first_opened : (boot : State) (es : List Entry) (allows : Mode → Bool) (o d p n : ℕ) (mode : Mode) (chain : List Link) →
    IsLegal boot es → IsPedigree boot es chain p n →
    description_of (replay boot es) p n ≡ Some d → Leads (replay boot es) d (o, mode) → allows mode ≡ true →
    (f : Link) × (rest : List Link) × (chain ≡ f ∷ rest) × BeginsWay boot es allows o f
first_opened boot es allows o d p n mode chain legal ped leads_to_d file_at may =
    let b = chain_begins boot es chain ped.last ped.leads in
    let f : Link = b.first in
    let e : Entry = b.call in
    let k : ℕ = f.entry in
    let at : slice_get es k ≡ Some e = b.given.there in
    let of = pedigree_is_of_one boot es chain p n legal ped in
    let both : Some of.description ≡ Some d = sym of.at_the_end ∙ leads_to_d in
    let same : of.description ≡ d = cc both in
    let there : slice_get chain 0 ≡ Some f = ap (λ (l : List Link). slice_get l 0) b.is in
    let led : description_of (before boot es (suc k)) f.pid.0 f.fd.0 ≡ Some d =
    subst (λ (i : ℕ). LeadsTo boot es i f) same (of.each 0 f there) in
    let below = get_below es k e at in
    let way : how_of e.request (delivered (before boot es k) e) ≡ Some How.Made = b.given.way ∙ ap Some b.made in
    let no_fork : e.request ≢ Request.Fork = λ is. let clash : Some How.Forked ≡ Some How.Made =
    sym (how_fork e.request (delivered (before boot es k) e) is) ∙ way in cc clash in
    let mine = own_number boot es k f.pid.0 f.fd.0 e b.given.gave no_fork in
    let w = given_there boot es k mine.1.0 f.fd.0 e (moment boot es k e legal at) mine.1.1 in
    let here : description_of (before boot es (suc k)) f.pid.0 f.fd.0 ≡ Some w.0 =
    subst (λ (q : ℕ). description_of (before boot es (suc k)) q f.fd.0 ≡ Some w.0) mine.0 w.2 in
    let source_both : Some w.0 ≡ Some d = sym here ∙ led in
    let source_is : w.0 ≡ d = cc source_both in
    let whole : take (length es) es ≡ es = take_all (length es) es (omega arith) in
    let at_end : Leads (before boot es (length es)) d (o, mode) =
    subst (λ (l : List Entry). Leads (replay boot l) d (o, mode)) (sym whole) file_at in
    let known = known_description (before boot es (suc k)) f.pid.0 f.fd.0 d
    (nothing_dangles boot (take (suc k) es) (front_is_legal boot es (suc k) legal)) led in
    let then_file = led_before boot es (suc k) (length es) d (o, mode) legal (omega (arith, below)) (omega arith) known at_end in (
      f,
      b.rest,
      b.is,
      ⊎_elim {C = BeginsWay boot es allows o f}
          (λ old. absurd (no_file_before boot es k mine.1.0 d e (o, mode) (delivered (before boot es k) e) legal at way
          (w.1 ∙ ap Some source_is) old))
          (⊎_elim {C = BeginsWay boot es allows o f} (began_by_path boot es allows o d mode f e at may)
          (began_by_making boot es allows o d mode mine.1.0 f e at may mine.1.1 (w.1 ∙ ap Some source_is)))
          (did_leads (before boot es k) (before boot es (suc k)) e.pid.0 k e.request e.reply d (o, mode) (did_at boot es k e legal at)
          then_file),
    )
  where
    known_description : (S : State) (p n d : ℕ) → IsWhole S → description_of S p n ≡ Some d → d < length S.descriptions
    known_description S p n d whole h = go (held_at S p n) refl h
      where
        there : (x : Option Description) → description_at S d ≡ x → is_some x ≡ true → d < length S.descriptions
        there None is h = absurd (false≢true h)
        there (Some D) is h = place_within S.descriptions d D is

        go : (x : Option Descriptor) → held_at S p n ≡ x → description_in x ≡ Some d → d < length S.descriptions
        go None is h = absurd (cc h)
        go (Some e) is h =
            let same : e.description ≡ d = cc h in
            there (description_at S d) refl (subst (λ (k : ℕ). is_some (description_at S k) ≡ true) same (whole.descriptors_lead p n e is))

-- a number that leads to a file object has a way to it
pub way_there : (boot : State) (es : List Entry) (allows : Mode → Bool) (o p : ℕ) (fd : Fd) (e : Descriptor) (D : Description) →
    IsLegal boot es → descriptor_at (replay boot es) p fd ≡ Some e →
    description_at (replay boot es) e.description ≡ Some D → D.target ≡ to_object o → allows D.mode ≡ true → HasWay boot es allows o p fd.0
way_there boot es allows o p fd e D legal g h t may =
    let S : State = replay boot es in
    let held : is_held S p fd.0 ≡ true = ap is_some g in
    let ped = every_holding_has_a_pedigree boot es p fd.0 legal held in
    let leads : Leads S e.description (o, D.mode) = ap (λ x. (glance x).1) h ∙ ap (λ (u : Target). (glance_target D.mode u).1) t in
    let w = first_opened boot es allows o e.description p fd.0 D.mode ped.0 legal ped.1 (ap description_in g) leads may in
    record { first = w.0; rest = w.1; pedigree = subst (λ (l : List Link). IsPedigree boot es l p fd.0) w.2 ped.1; begins = w.3 }
