-- What becomes of one description in a call, where the call is near it.
use Rattle.std.proofs.Common.{◌≡◌, ◌≢◌, ◌⊎◌, ℕ, zero, suc, ◌≤◌, ◌==◌, Bool, true, false, cond, List, []}
use Rattle.std.proofs.Common.{◌∷◌, ◌++◌, length, drop, Option, Some, None, option_map, refl, ap, sym, ◌∙◌, subst, inl}
use Rattle.std.proofs.Common.{inr, arith}
use Rattle.std.specs.Prelude.{nat_le}
use Rattle.std.proofs.lemmas.Bool.{eqb-true, eqb-false, false≢true}
use Rattle.std.proofs.lemmas.List.{get_or-set_other}
use Rattle.ux_model.specs.Types.{Cred, Addr, Request}
use Rattle.ux_model.specs.Places.{place, filled}
use Rattle.ux_model.specs.Limits.{first_queue_limit}
use Rattle.ux_model.specs.Socket.{Socket, Phase, idle, listening, connected, associated, pending_ends}
use Rattle.ux_model.specs.Socket.{phase_with_association}
use Rattle.ux_model.specs.Description.{Description, Target, to_object, to_socket, changed, changed_target}
use Rattle.ux_model.specs.Process.{Descriptor}
use Rattle.ux_model.specs.State.{State, description_at, with_description}
use Rattle.ux_model.specs.State.{with_description_by, with_socket_by, with_table, with_new}
use Rattle.ux_model.specs.Accepting.{phase_without_first_end}
use Rattle.ux_model.specs.History.{is_off}
use Rattle.ux_model.proofs.Lists.ChangedPlaces.{bool_cases, place-changed}
use Rattle.ux_model.proofs.Steps.NameCalls.{same_descriptions}
use Rattle.ux_laws.specs.Reach.{IsInReach}

-- ECONNRESET is pending
abbrev pub reset_of : Target → Bool
reset_of (to_object o) = false
reset_of (to_socket s) = s.reset

abbrev pub reset_in : Option Description → Bool
reset_in None = false
reset_in (Some D) = reset_of D.target

-- what is shut down, for reading and for writing
abbrev pub shut_of : Target → Bool × Bool
shut_of (to_object o) = (false, false)
shut_of (to_socket s) = (s.read_shut, s.write_shut)

abbrev pub shut_in : Option Description → Bool × Bool
shut_in None = (false, false)
shut_in (Some D) = shut_of D.target

abbrev pub is_shutdown : Request → Bool
is_shutdown (Request.Shutdown fd how) = true
is_shutdown _ = false

abbrev pub none_in : List ℕ → Bool
none_in [] = true
none_in (e ∷ es) = false

-- it listens, and no end waits there
abbrev pub awaits : Phase → Bool
awaits idle = false
awaits (listening backlog cred) = none_in backlog.pending
awaits (connected peer) = false
awaits (associated target) = false

abbrev pub awaits_of : Target → Bool
awaits_of (to_object o) = false
awaits_of (to_socket s) = awaits s.phase

abbrev pub awaits_in : Option Description → Bool
awaits_in None = false
awaits_in (Some D) = awaits_of D.target

abbrev pub is_connect : Request → Bool
is_connect (Request.Connect fd addr) = true
is_connect _ = false

pub awaits_again : (limit : ℕ) (cred : Cred) (phase : Phase) → awaits phase ≡ true → none_in (pending_ends phase) ≡ true
awaits_again limit cred idle h = refl
awaits_again limit cred (listening backlog by) h = h
awaits_again limit cred (connected peer) h = refl
awaits_again limit cred (associated target) h = refl

pub awaits_first : (phase : Phase) → awaits phase ≡ true → awaits (phase_without_first_end phase) ≡ true
awaits_first idle h = h
awaits_first (listening backlog cred) h = of_list backlog.pending h
  where
    of_list : (es : List ℕ) → none_in es ≡ true → none_in (drop 1 es) ≡ true
    of_list [] h = h
    of_list (e ∷ es) h = absurd (false≢true h)
awaits_first (connected peer) h = h
awaits_first (associated target) h = h

pub awaits_on : (target : Option ℕ) (phase : Phase) → awaits phase ≡ true → awaits (phase_with_association target phase) ≡ true
awaits_on target idle h = absurd (false≢true h)
awaits_on target (listening backlog cred) h = h
awaits_on target (connected peer) h = h
awaits_on target (associated old) h = absurd (false≢true h)

-- the bytes that a queue takes
abbrev pub limit_of : Target → ℕ
limit_of (to_object o) = first_queue_limit
limit_of (to_socket s) = s.queue_limit

abbrev pub limit_in : Option Description → ℕ
limit_in None = first_queue_limit
limit_in (Some D) = limit_of D.target

-- it listens, and its backlog has no place
abbrev pub is_full : Phase → Bool
is_full idle = false
is_full (listening backlog cred) = nat_le backlog.limit (length backlog.pending)
is_full (connected peer) = false
is_full (associated target) = false

abbrev pub full_of : Target → Bool
full_of (to_object o) = false
full_of (to_socket s) = is_full s.phase

abbrev pub full_in : Option Description → Bool
full_in None = false
full_in (Some D) = full_of D.target

-- and calls that may give one, or connect the listener itself
abbrev pub may_give_place : Request → Bool
may_give_place (Request.Connect fd addr) = true
may_give_place (Request.Accept fd flags) = true
may_give_place (Request.Listen fd backlog) = true
may_give_place _ = false

pub full_on : (target : Option ℕ) (phase : Phase) → is_full phase ≡ true → is_full (phase_with_association target phase) ≡ true
full_on target idle h = absurd (false≢true h)
full_on target (listening backlog cred) h = h
full_on target (connected peer) h = h
full_on target (associated old) h = absurd (false≢true h)

abbrev pub sets_option : Request → Bool
sets_option (Request.SetOpt fd opt value) = true
sets_option _ = false

-- a socket's own name
abbrev pub name_of : Target → Option Addr
name_of (to_object o) = None
name_of (to_socket s) = Some s.name

abbrev pub name_in : Option Description → Option Addr
name_in None = None
name_in (Some D) = name_of D.target

-- O_APPEND, and the offset, where a description leads to a file object
abbrev pub append_of : Bool → Target → Option Bool
append_of append (to_object o) = Some append
append_of append (to_socket s) = None

abbrev pub append_in : Option Description → Option Bool
append_in None = None
append_in (Some D) = append_of D.append D.target

abbrev pub offset_of : ℕ → Target → Option ℕ
offset_of offset (to_object o) = Some offset
offset_of offset (to_socket s) = None

abbrev pub offset_in : Option Description → Option ℕ
offset_in None = None
offset_in (Some D) = offset_of D.offset D.target

-- the calls that may name a socket, set flags, and move an offset
abbrev pub may_name : Request → Bool
may_name (Request.Bind fd addr) = true
may_name (Request.SetOpt fd opt value) = true
may_name _ = false

abbrev pub may_set_flags : Request → Bool
may_set_flags (Request.SetFlags fd flags) = true
may_set_flags (Request.Accept fd flags) = true
may_set_flags _ = false

abbrev pub may_move : Request → Bool
may_move (Request.Read fd n) = true
may_move (Request.Write fd bytes) = true
may_move (Request.Lseek fd offset whence) = true
may_move _ = false

-- other calls keep them
pub record KeepsOwn (request : Request) (old x : Option Description) : Type 0 where
  pub named : may_name request ≡ false → (name : Addr) → name_in old ≡ Some name → name_in x ≡ Some name
  pub appends : may_set_flags request ≡ false → (append : Bool) → append_in old ≡ Some append → append_in x ≡ Some append
  pub stands : may_move request ≡ false → (offset : ℕ) → offset_in old ≡ Some offset → offset_in x ≡ Some offset

own_same : (request : Request) (old x : Option Description) → x ≡ old → KeepsOwn request old x
own_same request old x is = record {
  named = λ calm name h. ap name_in is ∙ h;
  appends = λ calm append h. ap append_in is ∙ h;
  stands = λ calm offset h. ap offset_in is ∙ h;
}

own_after : (request : Request) (old x y : Option Description) → KeepsOwn request old x → KeepsOwn request x y → KeepsOwn request old y
own_after request old x y a b = record {
  named = λ calm name h. b.named calm name (a.named calm name h);
  appends = λ calm append h. b.appends calm append (a.appends calm append h);
  stands = λ calm offset h. b.stands calm offset (a.stands calm offset h);
}

-- where nothing was
own_new : (request : Request) (old x : Option Description) → old ≡ None → KeepsOwn request old x
own_new request old x none = record {
  named = λ calm name h. let clash : None ≡ Some name = sym (ap name_in none) ∙ h in absurd (cc clash);
  appends = λ calm append h. let clash : None ≡ Some append = sym (ap append_in none) ∙ h in absurd (cc clash);
  stands = λ calm offset h. let clash : None ≡ Some offset = sym (ap offset_in none) ∙ h in absurd (cc clash);
}

-- of a socket that changes, the name alone is in question
own_socket : (request : Request) (change : Socket → Socket) (D : Description) →
    ((s : Socket) → may_name request ≡ false → (change s).name ≡ s.name) → KeepsOwn request (Some D) (Some (changed change D))
own_socket request change D keeps = by_target D.target
  where
    by_target : (t : Target) → KeepsOwn request (Some (record D { target = t })) (Some (record D { target = changed_target change t }))
    by_target (to_object o) = record { named = λ calm name h. h; appends = λ calm append h. h; stands = λ calm offset h. h }
    by_target (to_socket s) = record {
      named = λ calm name h. ap Some (keeps s calm) ∙ h;
      appends = λ calm append h. h;
      stands = λ calm offset h. h;
    }

-- the call resets nothing, shuts nothing down if it is no shutdown, ends no wait for ends if it is no connect, sets no limit if it is no
-- setsockopt, gives no place in a backlog but by the calls that may, and keeps names, O_APPEND and offsets likewise
abbrev pub Keeps : Request → Option Description → Option Description → Type 0
Keeps request old x = (reset_in x ≡ true → reset_in old ≡ true) × (is_shutdown request ≡ false → shut_in x ≡ shut_in old)
    × (is_connect request ≡ false → awaits_in old ≡ true → awaits_in x ≡ true) × (sets_option request ≡ false → limit_in x ≡ limit_in old)
    × (may_give_place request ≡ false → full_in old ≡ true → full_in x ≡ true) × KeepsOwn request old x

-- what becomes of one: it stays, it is in reach and not reset by the call, or it is gone with the layer
pub data NearAt (S : State) (p : ℕ) (request : Request) (d : ℕ) (x : Option Description) : Type 0 where
  stays : x ≡ description_at S d → NearAt S p request d x
  reached : IsInReach S p request d → Keeps request (description_at S d) x → NearAt S p request d x
  new : length S.descriptions ≤ d → Keeps request (description_at S d) x → NearAt S p request d x
  gone : is_off request ≡ true → x ≡ None → NearAt S p request d x

pub record Near (S : State) (p : ℕ) (request : Request) (U : State) : Type 0 where
  pub each : (d : ℕ) → NearAt S p request d (description_at U d)

pub near_same : {S : State} {p : ℕ} {request : Request} {U : State} → U.descriptions ≡ S.descriptions → Near S p request U
near_same {S} same = record { each = λ d. stays (ap (λ (ds : List (Option Description)). place ds d) same) }

-- a change of one that is in reach, or was made by this call
pub near_by : {S : State} {p : ℕ} {request : Request} (T : State) (t : ℕ) (change : Description → Description) → Near S p request T →
    (IsInReach S p request t ⊎ (length S.descriptions ≤ t)) →
    ((D : Description) → Keeps request (Some D) (Some (change D))) → Near S p request (with_description_by T t change)
near_by {S} {p} {request} T t change near reach resets = record {
  each = λ d. bool_cases (t == d)
      (λ e.
      let at : t ≡ d = eqb-true t d e in
      let is : description_at (with_description_by T t change) d ≡ option_map change (description_at T d) =
      place-changed T.descriptions t d change ∙ ap (λ b. cond b (option_map change (description_at T d)) (description_at T d)) e in
      subst (NearAt S p request d) (sym is) (at_place d (near.each d)
      (subst (λ (k : ℕ). IsInReach S p request k ⊎ (length S.descriptions ≤ k)) at reach)))
      (λ e. subst (NearAt S p request d) (sym (place-changed T.descriptions t d change
      ∙ ap (λ b. cond b (option_map change (description_at T d)) (description_at T d)) e)) (near.each d));
}
  where
    kept : (x : Option Description) → Keeps request x (option_map change x)
    kept None = (λ h. h, λ elsewhere. refl, λ other h. h, λ set. refl, λ apart h. h, own_same request None None refl)
    kept (Some D) = resets D

    keeps_on : (old x y : Option Description) → Keeps request old x → Keeps request x y → Keeps request old y
    keeps_on old x y a b = (
      λ h. a.0 (b.0 h),
      λ elsewhere. b.1 elsewhere ∙ a.1 elsewhere,
      λ other h. b.2 other (a.2 other h),
      λ set. b.3 set
          ∙ a.3 set,
      λ apart h. b.4 apart (a.4 apart h),
      own_after request old x y a.5 b.5,
    )

    both : (d : ℕ) (x : Option Description) → Keeps request (description_at S d) x → IsInReach S p request d ⊎ (length S.descriptions ≤ d) →
        NearAt S p request d (option_map change x)
    both d x still (inl r) = reached r (keeps_on (description_at S d) x (option_map change x) still (kept x))
    both d x still (inr more) = new more (keeps_on (description_at S d) x (option_map change x) still (kept x))

    at_place : (d : ℕ) {x : Option Description} → NearAt S p request d x → IsInReach S p request d ⊎ (length S.descriptions ≤ d) →
        NearAt S p request d (option_map change x)
    at_place d {x} (stays is) r = both d x (
      λ h. sym (ap reset_in is) ∙ h,
      λ elsewhere. ap shut_in is,
      λ other h. ap awaits_in is
          ∙ h,
      λ set. ap limit_in is,
      λ apart h. ap full_in is ∙ h,
      own_same request (description_at S d) x is,
    ) r
    at_place d {x} (reached q still) r = both d x still r
    at_place d {x} (new more still) r = both d x still r
    at_place d {x} (gone off is) r = gone off (ap (λ y. option_map change y) is)

-- of a socket
pub near_socket : {S : State} {p : ℕ} {request : Request} (T : State) (t : ℕ) (change : Socket → Socket) → Near S p request T →
    (IsInReach S p request t ⊎ (length S.descriptions ≤ t)) →
    ((s : Socket) → ((change s).reset ≡ true → s.reset ≡ true)
    × (is_shutdown request ≡ false → shut_of (to_socket (change s)) ≡ shut_of (to_socket s))
    × (is_connect request ≡ false → awaits s.phase ≡ true → awaits (change s).phase ≡ true)
    × (sets_option request ≡ false → (change s).queue_limit ≡ s.queue_limit)
    × (may_give_place request ≡ false → is_full s.phase ≡ true → is_full (change s).phase ≡ true)
    × (may_name request ≡ false → (change s).name ≡ s.name)) →
    Near S p request (with_socket_by T t change)
near_socket {S} {p} {request} T t change near reach resets = near_by T t (changed change) near reach
    (λ D.
    let a = at_target D.target in
    (a.0, a.1, a.2, a.3, a.4, own_socket request change D (λ s calm. (resets s).5 calm)))
  where
    at_target : (u : Target) → (reset_of (changed_target change u) ≡ true → reset_of u ≡ true)
        × (is_shutdown request ≡ false → shut_of (changed_target change u) ≡ shut_of u)
        × (is_connect request ≡ false → awaits_of u ≡ true → awaits_of (changed_target change u) ≡ true)
        × (sets_option request ≡ false → limit_of (changed_target change u) ≡ limit_of u)
        × (may_give_place request ≡ false → full_of u ≡ true → full_of (changed_target change u) ≡ true)
    at_target (to_object o) = (λ h. h, λ elsewhere. refl, λ other h. h, λ set. refl, λ apart h. h)
    at_target (to_socket s) = let r = resets s in (r.0, r.1, r.2, r.3, r.4)

-- one that is put in the place of one in reach, and leads to the same
pub near_put : {S : State} {p : ℕ} {request : Request} (d : ℕ) (D E : Description) → description_at S d ≡ Some D → E.target ≡ D.target →
    (may_set_flags request ≡ false → E.append ≡ D.append) → (may_move request ≡ false → E.offset ≡ D.offset) →
    IsInReach S p request d → Near S p request (with_description S d E)
near_put {S} {p} {request} d D E here same flag place_kept reach = record {
  each = λ i. bool_cases (d == i)
      (λ e.
      let at : d ≡ i = eqb-true d i e in
      let is : description_at (with_description S d E) i ≡ Some E = ap (λ (k : ℕ). place (filled S.descriptions d E) k) (sym at)
      ∙ put_there S.descriptions d here in
      let was : description_at S i ≡ Some D = ap (λ (k : ℕ). description_at S k) (sym at) ∙ here in
      reached (subst (IsInReach S p request) at reach) (
        λ h. ap reset_in was ∙ sym (ap reset_of same) ∙ sym (ap reset_in is) ∙ h,
        λ elsewhere. ap shut_in is ∙ ap shut_of same
            ∙ sym (ap shut_in was),
        λ other h. ap awaits_in is ∙ ap awaits_of same ∙ sym (ap awaits_in was) ∙ h,
        λ set. ap limit_in is
            ∙ ap limit_of same ∙ sym (ap limit_in was),
        λ apart h. ap full_in is ∙ ap full_of same ∙ sym (ap full_in was) ∙ h,
        record {
          named = λ calm name h. ap name_in is ∙ ap name_of same ∙ sym (ap name_in was) ∙ h;
          appends = λ calm append h. ap append_in is ∙ ap (append_of E.append) same ∙ ap (λ b. append_of b D.target) (flag calm)
              ∙ sym (ap append_in was) ∙ h;
          stands = λ calm offset h. ap offset_in is ∙ ap (offset_of E.offset) same ∙ ap (λ (n : ℕ). offset_of n D.target) (place_kept calm)
              ∙ sym (ap offset_in was) ∙ h;
        },
      ))
      (λ e. stays (get_or-set_other S.descriptions d i (Some E) None (λ k. eqb-false d i e (sym k))));
}
  where
    put_there : (ds : List (Option Description)) (d : ℕ) → place ds d ≡ Some D → place (filled ds d E) d ≡ Some E
    put_there [] d h = absurd (cc h)
    put_there (x ∷ xs) zero h = refl
    put_there (x ∷ xs) (suc d) h = put_there xs d h

pub pushed_here : (ds : List (Option Description)) (x : Option Description) → place (ds ++ x ∷ []) (length ds) ≡ x
pushed_here [] x = refl
pushed_here (y ∷ ds) x = pushed_here ds x

pub pushed_other : (ds : List (Option Description)) (x : Option Description) (d : ℕ) → length ds ≢ d → place (ds ++ x ∷ []) d ≡ place ds d
pushed_other [] x zero h = absurd (h refl)
pushed_other [] x (suc d) h = refl
pushed_other (y ∷ ds) x zero h = refl
pushed_other (y ∷ ds) x (suc d) h = pushed_other ds x d (λ e. h (ap suc e))

pub none_past : (ds : List (Option Description)) (d : ℕ) → length ds ≤ d → place ds d ≡ None
none_past [] d h = refl
none_past (x ∷ ds) zero h = absurd (omega (arith, h))
none_past (x ∷ ds) (suc d) h = none_past ds d (omega (arith, h))

-- one more, of which none is pending
pub near_new : {S : State} {p : ℕ} {request : Request} (T : State) (D : Description) → Near S p request T →
    length S.descriptions ≤ length T.descriptions → reset_of D.target ≡ false → shut_of D.target ≡ (false, false) →
    limit_of D.target ≡ first_queue_limit → Near S p request (with_new T D)
near_new {S} {p} {request} T D near more none open_both first = record {
  each = λ d. bool_cases (length T.descriptions == d)
      (λ e.
      let at : length T.descriptions ≡ d = eqb-true (length T.descriptions) d e in
      let is : description_at (with_new T D) d ≡ Some D = ap (λ (k : ℕ). description_at (with_new T D) k) (sym at)
      ∙ pushed_here T.descriptions (Some D) in
      let beyond : length S.descriptions ≤ d = omega (arith, more, at) in
      new beyond (
        λ h. absurd (false≢true (sym none ∙ sym (ap reset_in is) ∙ h)),
        λ elsewhere. ap shut_in is ∙ open_both
            ∙ sym (ap shut_in (none_past S.descriptions d beyond)),
        λ other h. absurd (false≢true (sym (ap awaits_in (none_past S.descriptions d beyond)) ∙ h)),
        λ set. ap limit_in is ∙ first
            ∙ sym (ap limit_in (none_past S.descriptions d beyond)),
        λ apart h. absurd (false≢true (sym (ap full_in (none_past S.descriptions d beyond)) ∙ h)),
        own_new request (description_at S d) (description_at (with_new T D) d) (none_past S.descriptions d beyond),
      ))
      (λ e. subst (NearAt S p request d) (sym (pushed_other T.descriptions (Some D) d (eqb-false (length T.descriptions) d e)))
      (near.each d));
}

pub near_table : {S : State} {p : ℕ} {request : Request} (T : State) (q : ℕ) (table : List (Option Descriptor)) → Near S p request T →
    Near S p request (with_table T q table)
near_table {S} {p} {request} T q table near =
    record {
      each = λ d. subst (NearAt S p request d)
          (ap (λ (ds : List (Option Description)). place ds d) (sym (same_descriptions T q table))) (near.each d);
    }

pub still : {S : State} {p : ℕ} {request : Request} → Near S p request S
still = near_same refl
