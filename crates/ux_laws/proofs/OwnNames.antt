-- Bind and SO_PASSCRED alone give a socket a name.
use Rattle.std.proofs.Common.{◌≡◌, ◌⊎◌, ℕ, suc, ◌==◌, Bool, true, false, not, ◌||◌, cond, is_some}
use Rattle.std.proofs.Common.{Option, Some, None, Ok, option_map, refl, ap, sym, ◌∙◌, subst, inl, inr}
use Rattle.std.proofs.lemmas.Bool.{eqb-true, eqb-false, false≢true, or_parts, not-false}
use Rattle.ux_model.specs.Types.{Fd, Addr, SockOpt, Request, Reply}
use Rattle.ux_model.specs.Names.{named, is_valid_addr, is_unnamed_addr, free_name}
use Rattle.ux_model.specs.Socket.{Socket, is_stream, tied_socket, with_passcred, with_queue_limit, with_reset}
use Rattle.ux_model.specs.Description.{Description, Target, to_object, to_socket, socket_of, socket_in, changed, changed_target}
use Rattle.ux_model.specs.State.{State, description_at, socket_at, with_socket_by}
use Rattle.ux_model.specs.Outcome.{Outcome, Chosen, own, lacking_memory, failing, find_socket}
use Rattle.ux_model.specs.Binding.{with_name, with_abstract, bind_to, bind}
use Rattle.ux_model.specs.Options.{may_limit, change_option, set_opt}
use Rattle.ux_model.specs.Step.{outcome}
use Rattle.ux_model.specs.Pedigree.{before}
use Rattle.ux_model.proofs.Changes.Walk.{either, maybe}
use Rattle.ux_model.proofs.Lists.ChangedPlaces.{bool_cases, place-changed}
use Rattle.ux_model.proofs.Steps.Calls.{each_obeys}
use Rattle.ux_model.proofs.Pedigrees.Moments.{moment}
use Rattle.ux_model.proofs.Tables.Shows.{by_socket}
use Rattle.ux_laws.specs.Credentials.{socket_behind}
use Rattle.ux_laws.specs.OwnNames.{IsNewName, of_path, of_abstract, autobound, NamesIt, by_bind, by_passcred, NamesAreGiven, OneIsNamed}
use Rattle.ux_laws.proofs.Doing.Calls.{step_between}
use Rattle.ux_laws.proofs.Makers.{behind_is}
use Rattle.ux_laws.proofs.Near.Single.{name_of, name_in, may_name, NearAt, stays, reached, new, gone as dropped}
use Rattle.ux_laws.proofs.Near.Calls.{chosen_near}
use Rattle.ux_laws.proofs.LeftAlone.{Lost, same as unchanged, lost, reset, settled_lost}

pub name_is : (S : State) (d : ℕ) (s : Socket) → socket_at S d ≡ Some s → name_in (description_at S d) ≡ Some s.name
name_is S d s there = at_place (description_at S d) there
  where
    at_target : (t : Target) → socket_of t ≡ Some s → name_of t ≡ Some s.name
    at_target (to_object o) h = absurd (cc h)
    at_target (to_socket u) h = let one : u ≡ s = cc h in ap (λ (w : Socket). Some w.name) one

    at_place : (x : Option Description) → socket_in x ≡ Some s → name_in x ≡ Some s.name
    at_place None h = absurd (cc h)
    at_place (Some D) h = at_target D.target h

pub name_changed : (T : State) (t k : ℕ) (change : Socket → Socket) → ((s : Socket) → (change s).name ≡ s.name) →
    name_in (description_at (with_socket_by T t change) k) ≡ name_in (description_at T k)
name_changed T t k change keeps = ap name_in (place-changed T.descriptions t k (changed change)) ∙ by_place (t == k)
  where
    at_target : (u : Target) → name_of (changed_target change u) ≡ name_of u
    at_target (to_object o) = refl
    at_target (to_socket s) = ap Some (keeps s)

    at_place : (x : Option Description) → name_in (option_map (changed change) x) ≡ name_in x
    at_place None = refl
    at_place (Some D) = at_target D.target

    by_place : (b : Bool) → name_in (cond b (option_map (changed change) (description_at T k)) (description_at T k)) ≡ name_in
        (description_at T k)
    by_place true = at_place (description_at T k)
    by_place false = refl

-- ---- what a call names

-- a socket's name before and after: the same, or one that the call gave to one that had none
record Given (S : State) (p : ℕ) (request : Request) (k : ℕ) (x : Option Description) : Type 0 where
  pub told : (old name : Addr) → name_in (description_at S k) ≡ Some old → name_in x ≡ Some name →
      (name ≡ old) ⊎ ((old ≡ Addr.Unnamed) × NamesIt S p request k name)

given_same : {S : State} {p : ℕ} {request : Request} (k : ℕ) {x : Option Description} → name_in x ≡ name_in (description_at S k) →
    Given S p request k x
given_same {S} k is = record { told = λ old name h g. let both : Some name ≡ Some old = sym g ∙ is ∙ h in inl (cc both) }

-- one that has no name is given one
given_now : (S : State) (p d k : ℕ) (request : Request) (s : Socket) (name : Addr) → socket_at S d ≡ Some s → s.name ≡ Addr.Unnamed →
    NamesIt S p request d name → Given S p request k (description_at (with_socket_by S d (with_name name)) k)
given_now S p d k request s name there none gives =
    record { told = λ old told h g. by_place old told h (d == k) refl (sym (ap name_in is) ∙ g) }
  where
    is : description_at (with_socket_by S d (with_name name)) k ≡ cond (d == k)
        (option_map (changed (with_name name)) (description_at S k)) (description_at S k)
    is = place-changed S.descriptions d k (changed (with_name name))

    put : (x : Option Description) (told : Addr) → name_in (option_map (changed (with_name name)) x) ≡ Some told → told ≡ name
    put None told h = absurd (cc h)
    put (Some D) told h = at_target D.target h
      where
        at_target : (t : Target) → name_of (changed_target (with_name name) t) ≡ Some told → told ≡ name
        at_target (to_object o) h = absurd (cc h)
        at_target (to_socket u) h = let one : name ≡ told = cc h in sym one

    by_place : (old told : Addr) → name_in (description_at S k) ≡ Some old → (b : Bool) → (d == k) ≡ b →
        name_in (cond b (option_map (changed (with_name name)) (description_at S k)) (description_at S k)) ≡ Some told →
        (told ≡ old) ⊎ ((old ≡ Addr.Unnamed) × NamesIt S p request k told)
    by_place old told h false e g = let both : Some told ≡ Some old = sym g ∙ h in inl (cc both)
    by_place old told h true e g =
        let at : d ≡ k = eqb-true d k e in
        let both : Some old ≡ Some s.name = sym h ∙ sym (ap (λ (i : ℕ). name_in (description_at S i)) at) ∙ name_is S d s there in
        let was : old ≡ s.name = cc both in
        let is_new : told ≡ name = put (description_at S k) told g in
        inr (was ∙ none, subst (NamesIt S p request k) (sym is_new) (subst (λ (i : ℕ). NamesIt S p request i name) at gives))

pub no_name : (addr : Addr) → is_unnamed_addr addr ≡ true → addr ≡ Addr.Unnamed
no_name Addr.Unnamed h = refl
no_name (Addr.Path path) h = absurd (false≢true h)
no_name (Addr.Abstract name) h = absurd (false≢true h)

pub none_listed : {X : Type 0} (o : Option X) → is_some o ≡ false → o ≡ None
none_listed None h = refl
none_listed (Some x) h = absurd (false≢true (sym h))

bind_gives : (S : State) (p k : ℕ) (fd : Fd) (addr : Addr) → Given S p (Request.Bind fd addr) k (description_at (bind S p fd addr).next k)
unfolding bind
bind_gives S p k fd addr = by_socket Q S p fd _ (λ e. given_same k refl)
    (λ d s found there. either Q (not (is_unnamed_addr s.name) || not (is_valid_addr addr)) _ _ (λ b. given_same k refl)
    (λ b. to d s found there (no_name s.name (not-false (is_unnamed_addr s.name)
    (or_parts (not (is_unnamed_addr s.name)) (not (is_valid_addr addr)) b).0)) addr refl))
  where
    Q : Outcome → Type 0
    Q o = Given S p (Request.Bind fd addr) k (description_at o.next k)

    now : (d : ℕ) (s : Socket) → find_socket S p fd ≡ Ok (d, s) → socket_at S d ≡ Some s → s.name ≡ Addr.Unnamed → (name : Addr) →
        IsNewName S addr name → Given S p (Request.Bind fd addr) k (description_at (with_socket_by S d (with_name name)) k)
    now d s found there none name new_name =
        given_now S p d k (Request.Bind fd addr) s name there none (by_bind fd addr refl (behind_is S p d fd s found) new_name)

    to : (d : ℕ) (s : Socket) → find_socket S p fd ≡ Ok (d, s) → socket_at S d ≡ Some s → s.name ≡ Addr.Unnamed → (a : Addr) →
        addr ≡ a → Q (bind_to S d a)
    to d s found there none Addr.Unnamed is = maybe Q (free_name S.abstract_names) _ _ (given_same k refl)
        (λ name free. now d s found there none (Addr.Abstract name) (autobound name is free refl))
    to d s found there none (Addr.Path name) is = either Q (is_some (named name S.paths)) _ _ (λ b. given_same k refl)
        (λ b. now d s found there none (Addr.Path name) (of_path name is (none_listed (named name S.paths) b) (sym is)))
    to d s found there none (Addr.Abstract name) is = either Q (is_some (named name S.abstract_names)) _ _ (λ b. given_same k refl)
        (λ b. now d s found there none (Addr.Abstract name) (of_abstract name is (none_listed (named name S.abstract_names) b) (sym is)))

option_gives : (S : State) (p k : ℕ) (fd : Fd) (opt : SockOpt) (value : ℕ) →
    Given S p (Request.SetOpt fd opt value) k (description_at (set_opt S p fd opt value).next k)
unfolding set_opt
option_gives S p k fd opt value = by_socket Q S p fd _ (λ e. given_same k refl) (λ d s found there. by_option d s found there opt refl)
  where
    Q : Outcome → Type 0
    Q o = Given S p (Request.SetOpt fd opt value) k (description_at o.next k)

    passing : (T : State) (d : ℕ) (on : Bool) → Given S p (Request.SetOpt fd opt value) k (description_at T k) →
        Given S p (Request.SetOpt fd opt value) k (description_at (with_socket_by T d (with_passcred on)) k)
    passing T d on given =
        record { told = λ old name h g. given.told old name h (sym (name_changed T d k (with_passcred on) (λ u. refl)) ∙ g) }

    by_option : (d : ℕ) (s : Socket) → find_socket S p fd ≡ Ok (d, s) → socket_at S d ≡ Some s → (o : SockOpt) → opt ≡ o →
        Q (change_option S d s value o)
    by_option d s found there SockOpt.Kind is = given_same k refl
    by_option d s found there SockOpt.Error is = given_same k refl
    by_option d s found there SockOpt.PassCred is = either Q (value == 0) _ _ (λ b. passing S d false (given_same k refl))
        (λ b. either Q (not (is_unnamed_addr s.name) || is_some (tied_socket s.phase)) _ _ (λ c. passing S d true (given_same k refl))
        (λ c. maybe Q (free_name S.abstract_names) _ _ (given_same k refl)
        (λ name free. passing (with_abstract S d name) d true
        (given_now S p d k (Request.SetOpt fd opt value) s (Addr.Abstract name) there
        (no_name s.name (not-false (is_unnamed_addr s.name) (or_parts (not (is_unnamed_addr s.name)) (is_some (tied_socket s.phase)) c).0))
        (by_passcred fd value (ap (λ (o : SockOpt). Request.SetOpt fd o value) is) (eqb-false value 0 b) (behind_is S p d fd s found)
        (autobound name refl free refl))))))
    by_option d s found there SockOpt.PeerCred is = given_same k refl
    by_option d s found there SockOpt.AcceptConn is = given_same k refl
    by_option d s found there SockOpt.QueueLimit is = either Q (not (is_stream s.kind)) _ _ (λ b. given_same k refl)
        (λ b. either Q (not (may_limit value)) _ _ (λ c. given_same k refl)
        (λ c. given_same k (name_changed S d k (with_queue_limit value) (λ u. refl))))

-- ---- one call

each_gives : (S : State) (p tag k : ℕ) (request : Request) → may_name request ≡ true →
    Given S p request k (description_at (outcome S p tag request).next k)
unfolding outcome
each_gives S p tag k (Request.Bind fd addr) h = bind_gives S p k fd addr
each_gives S p tag k (Request.SetOpt fd opt value) h = option_gives S p k fd opt value
each_gives S p tag k request h = absurd (false≢true h)

chosen_gives : (S U : State) (p tag k : ℕ) (request : Request) (reply : Reply) → Chosen S (outcome S p tag request) reply U →
    Given S p request k (description_at U k)
chosen_gives S U p tag k request reply chosen = bool_cases (may_name request) (λ b. by_choice b chosen)
    (λ b. by_near b ((chosen_near S U p tag request reply chosen).each k))
  where
    by_choice : may_name request ≡ true → Chosen S (outcome S p tag request) reply U → Given S p request k (description_at U k)
    by_choice b (own e f) = subst (λ (V : State). Given S p request k (description_at V k)) (sym f) (each_gives S p tag k request b)
    by_choice b (lacking_memory e may f) = given_same k (ap (λ (V : State). name_in (description_at V k)) f)
    by_choice b (failing e f) =
        given_same k (ap (λ (V : State). name_in (description_at V k)) ((each_obeys S p tag request).failed U f).0.left)

    kept : {x : Option Description} → ((name : Addr) → name_in (description_at S k) ≡ Some name → name_in x ≡ Some name) →
        Given S p request k x
    kept keeps = record { told = λ old name h g. let both : Some name ≡ Some old = sym g ∙ keeps old h in inl (cc both) }

    by_near : {x : Option Description} → may_name request ≡ false → NearAt S p request k x → Given S p request k x
    by_near calm (stays e) = given_same k (ap name_in e)
    by_near calm (reached r keeps) = kept (λ name h. keeps.5.named calm name h)
    by_near calm (new more keeps) = kept (λ name h. keeps.5.named calm name h)
    by_near calm (dropped off e) =
        record { told = λ old name h g. let clash : None ≡ Some name = sym (ap name_in e) ∙ g in absurd (cc clash) }

-- ---- the laws

-- at the end of a call names stay
pub lost_name : (U T : State) (d : ℕ) (t : Socket) → Lost U T d → socket_at T d ≡ Some t → name_in (description_at U d) ≡ Some t.name
lost_name U T d t (unchanged e) there = sym (ap name_in e) ∙ name_is T d t there
lost_name U T d t (lost e) there = let clash : None ≡ Some t = sym (ap socket_in e) ∙ there in absurd (cc clash)
lost_name U T d t (reset r had) there = ap name_in r.there ∙ sym (at_target r.description.target) ∙ sym (ap name_in r.left)
    ∙ name_is T d t there
  where
    at_target : (u : Target) → name_of (changed_target (with_reset true) u) ≡ name_of u
    at_target (to_object o) = refl
    at_target (to_socket s) = refl

pub names_are_given : NamesAreGiven
names_are_given boot es j d e s t legal at here there =
    let S : State = before boot es j in
    let T : State = before boot es (suc j) in
    let b = step_between S T e.pid.0 j e.request e.reply e.released (moment boot es j e legal at).steps in
    (chosen_gives S b.0 e.pid.0 j d e.request e.reply b.1).told s.name t.name (name_is S d s here)
    (lost_name b.0 T d t (subst (λ (V : State). Lost b.0 V d) (sym b.3) (settled_lost b.0 d)) there)

pub one_is_named : OneIsNamed
one_is_named S p c d request a b first second = by_both first second
  where
    same_behind : (f g : Fd) → f ≡ g → socket_behind S p f ≡ Some c → socket_behind S p g ≡ Some d → c ≡ d
    same_behind f g one h k =
        let both : Some c ≡ Some d = sym h ∙ ap (socket_behind S p) one ∙ k in
        cc both

    by_both : NamesIt S p request c a → NamesIt S p request d b → c ≡ d
    by_both (by_bind f x is h n) (by_bind g y also k m) =
        let both : Request.Bind f x ≡ Request.Bind g y = sym is ∙ also in
        same_behind f g (cc both) h k
    by_both (by_bind f x is h n) (by_passcred g v also some k m) =
        let both : Request.Bind f x ≡ Request.SetOpt g SockOpt.PassCred v = sym is ∙ also in
        absurd (cc both)
    by_both (by_passcred f v is some h n) (by_bind g y also k m) =
        let both : Request.SetOpt f SockOpt.PassCred v ≡ Request.Bind g y = sym is ∙ also in
        absurd (cc both)
    by_both (by_passcred f v is some h n) (by_passcred g w also more k m) =
        let both : Request.SetOpt f SockOpt.PassCred v ≡ Request.SetOpt g SockOpt.PassCred w = sym is ∙ also in
        same_behind f g (cc both) h k
