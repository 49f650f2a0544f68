-- Where a holding came from, by the request of the entry that gave it.
use Rattle.std.proofs.Common.{◌≡◌, ◌⊎◌, inl, inr, ℕ, Bool, ◌<◌, ◌≤◌, ◌==◌, true, false, List, [], length, get_or, Option, None, Some, MatchOption}
use Rattle.std.proofs.Common.{option_map, refl, ap, sym, ◌∙◌, subst, arith, slice_get}
use Rattle.std.specs.Prelude.{IfSome, IfNone}
use Rattle.std.specs.List.{list_any}
use Rattle.std.proofs.lemmas.Bool.{false≢true}
use Rattle.std.proofs.lemmas.Option.{slice_get_read}
use Rattle.ux_model.specs.Types.{Name, Mode, OpenFlags, MsgFlags, SockType, Fd, Request, Entry, How}
use Rattle.ux_model.specs.State.{State}
use Rattle.ux_model.specs.History.{IsLegal}
use Rattle.ux_model.specs.Changes.{sources}
use Rattle.ux_model.specs.Process.{fd_of}
use Rattle.ux_model.specs.Giving.{given, how_of, copied, sent_by, IsReceive, receive}
use Rattle.ux_model.specs.Pedigree.{before}
use Rattle.ux_model.proofs.Lists.ByPlace.{place_member}
use Rattle.ux_model.proofs.Pedigrees.Moments.{moment}
use Rattle.ux_model.proofs.Pedigrees.Passing.{receive_no_fork, IsOwn, own_number, IsDelivered, receive_delivered, gives_nothing}
use Rattle.ux_audit.specs.declared.hands.Giver.{Giver}
use Rattle.ux_audit.specs.declared.hands.HoldingOrigin.{HoldingOrigin}
use Rattle.ux_audit.specs.Shown.{shown, gave}
use Rattle.ux_audit.specs.Origins.{NeverGiven, IsGiver, IsOrigin}
use Rattle.ux_audit.proofs.Reported.{shown_given, gave_gives, reported_delivered}

pub one_entry : (es : List Entry) (j : ℕ) (e f : Entry) → slice_get es j ≡ Some e → slice_get es j ≡ Some f → e ≡ f
one_entry es j e f h k = let both : Some e ≡ Some f = sym h ∙ k in cc both

pub read_entry : (es : List Entry) (j : ℕ) (e : Entry) → j < length es → e ≡ get_or es j e → slice_get es j ≡ Some e
read_entry es j e h is = slice_get_read es (length es) j e refl h is

-- it's enough to say it of the entry that is there
never : (es : List Entry) (j n : ℕ) (e : Entry) → slice_get es j ≡ Some e →
    ((boot : State) (q : ℕ) → IsLegal boot es → gave e q n ≡ true → ⊥) → NeverGiven es n j
never es j n e at why boot q f legal there gave' =
    why boot q legal (subst (λ (x : Entry). gave x q n ≡ true) (sym (one_entry es j e f at there)) gave')

-- ---- a receive

-- a number that a receive gave is among those that it shows, and its message is known
record Came (boot : State) (es : List Entry) (j n : ℕ) (e : Entry) : Type 0 where
  pub place : ℕ
  pub shows : slice_get (shown e.request e.reply) place ≡ Some n
  pub tag : ℕ
  pub told : e.delivered ≡ Some tag
  pub message : IsDelivered boot es j e tag

came_at : (boot : State) (es : List Entry) (j place n : ℕ) (e : Entry) → IsLegal boot es → slice_get es j ≡ Some e → IsReceive e.request →
    slice_get (shown e.request e.reply) place ≡ Some n → Came boot es j n e
came_at boot es j place n e legal at is shows =
    let there : slice_get (given (before boot es j) e.pid.0 e.request e.reply) place ≡ Some n =
    sym (ap (λ l. slice_get l place) (shown_given boot es j e legal at)) ∙ shows in
    let d = receive_delivered boot es j place n e legal at is there in
    record { place = place; shows = shows; tag = d.0; told = reported_delivered boot es j e legal at ∙ d.1; message = d.2 }

came : (boot : State) (es : List Entry) (j q n : ℕ) (e : Entry) → IsLegal boot es → slice_get es j ≡ Some e → IsReceive e.request →
    gave e q n ≡ true → Came boot es j n e
came boot es j q n e legal at is gave' =
    let own : IsOwn boot es j e q n = own_number boot es j q n e (sym (gave_gives boot es j q n e legal at) ∙ gave')
    (receive_no_fork e.request is) in
    let shows : slice_get (shown e.request e.reply) own.1.0 ≡ Some n = ap (λ l. slice_get l own.1.0) (shown_given boot es j e legal at)
    ∙ own.1.1 in
    came_at boot es j own.1.0 n e legal at is shows

pub never_undelivered : (es : List Entry) (j n : ℕ) (e : Entry) → slice_get es j ≡ Some e → IsReceive e.request → e.delivered ≡ None →
    NeverGiven es n j
never_undelivered es j n e at is none = never es j n e at (λ boot q legal gave'.
    let c = came boot es j q n e legal at is gave' in
    let clash : None ≡ Some c.tag = sym none ∙ c.told in cc clash)

pub never_shown : (es : List Entry) (j n : ℕ) (e : Entry) → slice_get es j ≡ Some e → IsReceive e.request →
    list_any (λ m. m == n) (shown e.request e.reply) ≡ false → NeverGiven es n j
never_shown es j n e at is none = never es j n e at (λ boot q legal gave'.
    let c = came boot es j q n e legal at is gave' in
    false≢true (sym none ∙ place_member (shown e.request e.reply) n c.place c.shows))

pub never_later : (es : List Entry) (j n tag : ℕ) (e : Entry) → slice_get es j ≡ Some e → IsReceive e.request → e.delivered ≡ Some tag →
    j ≤ tag → NeverGiven es n j
never_later es j n tag e at is told late = never es j n e at (λ boot q legal gave'.
    let c = came boot es j q n e legal at is gave' in
    let both : Some c.tag ≡ Some tag = sym c.told ∙ told in
    let same : c.tag ≡ tag = cc both in
    let early = c.message.earlier in omega (arith, early, same, late))

pub never_unsent : (es : List Entry) (j n tag place : ℕ) (e s : Entry) → slice_get es j ≡ Some e → IsReceive e.request →
    e.delivered ≡ Some tag → slice_get es tag ≡ Some s →
    slice_get (shown e.request e.reply) place ≡ Some n → slice_get (sent_by s.request) place ≡ None → NeverGiven es n j
never_unsent es j n tag place e s at is told there shows none = never es j n e at (λ boot q legal gave'.
    let c = came_at boot es j place n e legal at is shows in
    let both : Some c.tag ≡ Some tag = sym c.told ∙ told in
    let same : c.tag ≡ tag = cc both in
    let one = one_entry es tag c.message.sending s (ap (slice_get es) (sym same) ∙ c.message.there) there in
    let w = c.message.each place n (sym (ap (λ l. slice_get l place) (shown_given boot es j e legal at)) ∙ shows) in
    let clash : None ≡ Some w.0 = sym none ∙ ap (λ (x : Entry). slice_get (sent_by x.request) place) (sym one) ∙ w.2 in cc clash)

how_receive : (r : Request) (o : Option ℕ) (tag : ℕ) → IsReceive r → o ≡ Some tag → how_of r o ≡ Some (How.Received tag)
how_receive r o tag (receive fd n space flags) told = ap (option_map (λ tag. How.Received tag)) told

-- the place that was found
pub place_found : (e : Entry) (n i : ℕ) (o : Option ℕ) → o ≡ Some i →
    MatchOption o (list_any (λ m. m == n) (shown e.request e.reply) ≡ false) (λ i. slice_get (shown e.request e.reply) i ≡ Some n) →
    slice_get (shown e.request e.reply) i ≡ Some n
place_found e n i o is found = subst (λ (x : Option ℕ). MatchOption x (list_any (λ m. m == n) (shown e.request e.reply) ≡ false)
    (λ i. slice_get (shown e.request e.reply) i ≡ Some n)) is found

pub origin_received : (es : List Entry) (j n tag place right : ℕ) (e s : Entry) → slice_get es j ≡ Some e → IsReceive e.request →
    e.delivered ≡ Some tag → tag < j → slice_get es tag ≡ Some s →
    slice_get (shown e.request e.reply) place ≡ Some n → slice_get (sent_by s.request) place ≡ Some right →
    IsOrigin es j n e (record { how = How.Received tag; from = Some (record { pid = s.pid; fd = fd_of right; until = tag }) })
origin_received es j n tag place right e s at is told early there shows sends = record {
  way = how_receive e.request e.delivered tag is told;
  from = record {
    earlier = omega (arith, early);
    hands_on = λ boot a b legal p k place' m. (
      refl,
      record {
        sending = s;
        there = there;
        sender = sym p;
        place = place;
        installed = ap (λ (i : ℕ). slice_get (given (before boot es i) e.pid.0 e.request e.reply) place) place'
            ∙ sym (ap (λ l. slice_get l place) (shown_given boot es j e legal at)) ∙ shows ∙ ap Some (sym m);
        right = sends ∙ ap Some (sym k);
      },
    );
  };
}

-- ---- other calls

pub origin_made : (es : List Entry) (j n : ℕ) (e : Entry) → how_of e.request e.delivered ≡ Some How.Made →
    IsOrigin es j n e (record { how = How.Made; from = None })
origin_made es j n e way = record { way = way; from = refl }

pub origin_dup : (es : List Entry) (j n : ℕ) (e : Entry) (source : Fd) → how_of e.request e.delivered ≡ Some How.Dup →
    copied e.request ≡ Some source.0 →
    IsOrigin es j n e (record { how = How.Dup; from = Some (record { pid = e.pid; fd = source; until = j }) })
origin_dup es j n e source way copies = record {
  way = way;
  from = record { earlier = omega arith; hands_on = λ boot a b legal p k at m. (sym at, p, copies ∙ ap Some (sym k)) };
}

pub origin_forked : (es : List Entry) (j : ℕ) (n : Fd) (e : Entry) → e.request ≡ Request.Fork →
    IsOrigin es j n.0 e (record { how = How.Forked; from = Some (record { pid = e.pid; fd = n; until = j }) })
origin_forked es j n e is = record {
  way = ap (λ (r : Request). how_of r e.delivered) is;
  from = record { earlier = omega arith; hands_on = λ boot a b legal p k at m. (sym at, p, k ∙ sym m) };
}

-- ---- looking for the entry that gave

-- what is said of the entry that was read holds of the entry that is there
pub origin_there : (es : List Entry) (j n : ℕ) (f e : Entry) (o : HoldingOrigin) → j < length es → f ≡ get_or es j f →
    slice_get es j ≡ Some e →
    IsOrigin es j n f o → IsOrigin es j n e o
origin_there es j n f e o within read at origin =
    subst (λ (x : Entry). IsOrigin es j n x o) (one_entry es j f e (read_entry es j f within read) at) origin

pub giver_earlier : (es : List Entry) (j n : ℕ) (e : Entry) (o : HoldingOrigin) (g : Giver) → IsOrigin es j n e o →
    o.from ≡ Some g → g.until ≤ j
giver_earlier es j n e o g origin more =
    let giver : IsGiver es j n e o.how g = subst
    (λ (f : Option Giver). MatchOption f (o.how ≡ How.Made) (IsGiver es j n e o.how)) more origin.from in giver.earlier

-- ---- calls that give nothing

pub record GivesNot (r : Request) : Type 0 where
  pub not_open : (path : Name) (mode : Mode) (flags : OpenFlags) → r ≡ Request.Open path mode flags → ⊥
  pub not_create : (path : Name) (mode : Mode) (flags : OpenFlags) → r ≡ Request.Create path mode flags → ⊥
  pub not_mem_fd : (flags : OpenFlags) → r ≡ Request.MemFd flags → ⊥
  pub not_event_fd : (value : ℕ) (semaphore : Bool) (flags : OpenFlags) → r ≡ Request.EventFd value semaphore flags → ⊥
  pub not_pipe : (flags : OpenFlags) → r ≡ Request.Pipe flags → ⊥
  pub not_socket : (kind : SockType) (flags : OpenFlags) → r ≡ Request.Socket kind flags → ⊥
  pub not_pair : (kind : SockType) (flags : OpenFlags) → r ≡ Request.SocketPair kind flags → ⊥
  pub not_accept : (fd : Fd) (flags : OpenFlags) → r ≡ Request.Accept fd flags → ⊥
  pub not_dup : (fd : Fd) → r ≡ Request.Dup fd → ⊥
  pub not_dup2 : (fd to : Fd) → r ≡ Request.Dup2 fd to → ⊥
  pub not_dup_from : (fd minimum : Fd) → r ≡ Request.DupFrom fd minimum → ⊥
  pub not_receive : (fd : Fd) (n space : ℕ) (flags : MsgFlags) → r ≡ Request.RecvMsg fd n space flags → ⊥
  pub not_fork : r ≡ Request.Fork → ⊥

no_sources : (S : State) (p : ℕ) (r : Request) → GivesNot r → sources S p r ≡ []
no_sources S p (Request.Open path mode flags) g = absurd (g.not_open path mode flags refl)
no_sources S p (Request.Create path mode flags) g = absurd (g.not_create path mode flags refl)
no_sources S p (Request.MemFd flags) g = absurd (g.not_mem_fd flags refl)
no_sources S p (Request.EventFd value semaphore flags) g = absurd (g.not_event_fd value semaphore flags refl)
no_sources S p (Request.Pipe flags) g = absurd (g.not_pipe flags refl)
no_sources S p (Request.Socket kind flags) g = absurd (g.not_socket kind flags refl)
no_sources S p (Request.SocketPair kind flags) g = absurd (g.not_pair kind flags refl)
no_sources S p (Request.Accept fd flags) g = absurd (g.not_accept fd flags refl)
no_sources S p (Request.Dup fd) g = absurd (g.not_dup fd refl)
no_sources S p (Request.Dup2 fd to) g = absurd (g.not_dup2 fd to refl)
no_sources S p (Request.DupFrom fd minimum) g = absurd (g.not_dup_from fd minimum refl)
no_sources S p (Request.RecvMsg fd n space flags) g = absurd (g.not_receive fd n space flags refl)
no_sources S p _ g = refl

pub never_otherwise : (es : List Entry) (j n : ℕ) (e : Entry) → slice_get es j ≡ Some e → GivesNot e.request → NeverGiven es n j
never_otherwise es j n e at g = never es j n e at (λ boot q legal gave'.
    gives_nothing boot es j q n e (moment boot es j e legal at) g.not_fork (no_sources (before boot es j) e.pid.0 e.request g)
    (sym (gave_gives boot es j q n e legal at) ∙ gave'))

-- ---- by the patterns of the requests

abbrev pub Makes : Request → Type 0
Makes r = ((x : Name) × (y : Mode) × (z : OpenFlags) × (r ≡ Request.Open x y z))
    ⊎ (((x : Name) × (y : Mode) × (z : OpenFlags) × (r ≡ Request.Create x y z))
    ⊎ (((x : OpenFlags) × (r ≡ Request.MemFd x))
    ⊎ (((x : ℕ) × (y : Bool) × (z : OpenFlags) × (r ≡ Request.EventFd x y z))
    ⊎ (((x : OpenFlags) × (r ≡ Request.Pipe x))
    ⊎ (((x : SockType) × (y : OpenFlags) × (r ≡ Request.Socket x y))
    ⊎ (((x : SockType) × (y : OpenFlags) × (r ≡ Request.SocketPair x y)) ⊎ ((x : Fd) × (y : OpenFlags) × (r ≡ Request.Accept x y))))))))

pub makes_way : (r : Request) (o : Option ℕ) → Makes r → how_of r o ≡ Some How.Made
makes_way r o (inl w) = ap (λ (x : Request). how_of x o) w.3
makes_way r o (inr (inl w)) = ap (λ (x : Request). how_of x o) w.3
makes_way r o (inr (inr (inl w))) = ap (λ (x : Request). how_of x o) w.1
makes_way r o (inr (inr (inr (inl w)))) = ap (λ (x : Request). how_of x o) w.3
makes_way r o (inr (inr (inr (inr (inl w))))) = ap (λ (x : Request). how_of x o) w.1
makes_way r o (inr (inr (inr (inr (inr (inl w)))))) = ap (λ (x : Request). how_of x o) w.2
makes_way r o (inr (inr (inr (inr (inr (inr (inl w))))))) = ap (λ (x : Request). how_of x o) w.2
makes_way r o (inr (inr (inr (inr (inr (inr (inr w))))))) = ap (λ (x : Request). how_of x o) w.2

-- what a call gives that makes it
pub made_there : (es : List Entry) (j n : ℕ) (f e : Entry) → j < length es → f ≡ get_or es j f → slice_get es j ≡ Some e →
    Makes f.request → IsOrigin es j n e (record { how = How.Made; from = None })
made_there es j n f e within read at makes =
    origin_there es j n f e _ within read at (origin_made es j n f (makes_way f.request f.delivered makes))

abbrev pub Copies : Request → Fd → Type 0
Copies r source = (r ≡ Request.Dup source) ⊎ (((x : Fd) × (r ≡ Request.Dup2 source x)) ⊎ ((x : Fd) × (r ≡ Request.DupFrom source x)))

pub copies_way : (r : Request) (o : Option ℕ) (source : Fd) → Copies r source → (how_of r o ≡ Some How.Dup) × (copied r ≡ Some source.0)
copies_way r o source (inl w) = (ap (λ (x : Request). how_of x o) w, ap copied w)
copies_way r o source (inr (inl w)) = (ap (λ (x : Request). how_of x o) w.1, ap copied w.1)
copies_way r o source (inr (inr w)) = (ap (λ (x : Request). how_of x o) w.1, ap copied w.1)

-- ---- what was found

pub origin_found : (es : List Entry) (j n : ℕ) (e : Entry) (x : Option HoldingOrigin) (o : HoldingOrigin) → x ≡ Some o →
    IfSome x (λ o. (f : Entry) → slice_get es j ≡ Some f → IsOrigin es j n f o) → slice_get es j ≡ Some e →
    IsOrigin es j n e o
origin_found es j n e x o is found at =
    let here : (f : Entry) → slice_get es j ≡ Some f →
    IsOrigin es j n f o = subst (λ (y : Option HoldingOrigin). IfSome y
    (λ o. (f : Entry) → slice_get es j ≡ Some f → IsOrigin es j n f o)) is
    found in
    here e at

pub never_found : (es : List Entry) (j n : ℕ) (x : Option HoldingOrigin) → x ≡ None → IfNone x (NeverGiven es n j) → NeverGiven es n j
never_found es j n x is none = subst (λ (y : Option HoldingOrigin). IfNone y (NeverGiven es n j)) is none
