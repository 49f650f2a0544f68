-- What each way of taking a number hands on: the description that it led to.
use Rattle.std.proofs.Common.{◌≡◌, ◌≢◌, ℕ, zero, suc, ◌<◌, true, List, [], length, take, Option, Some, None, refl, ap, sym, ◌∙◌, subst}
use Rattle.std.proofs.Common.{⊎_elim, arith, slice_get}
use Rattle.std.proofs.lemmas.Bool.{false≢true}
use Rattle.ux_model.specs.Types.{Fd, MsgFlags, Request, Reply, Entry, How, Link}
use Rattle.ux_model.specs.Message.{Message}
use Rattle.ux_model.specs.Process.{Descriptor}
use Rattle.ux_model.specs.State.{State, table_of}
use Rattle.ux_model.specs.Sending.{descriptions_behind}
use Rattle.ux_model.specs.Outcome.{Chosen}
use Rattle.ux_model.specs.Receiving.{recv_msg}
use Rattle.ux_model.specs.Delivered.{brought, delivered_by}
use Rattle.ux_model.specs.Step.{Step, outcome}
use Rattle.ux_model.specs.History.{replay, makes, IsLegal}
use Rattle.ux_model.specs.Giving.{held_at, description_in, description_of, given, gives, how_received, how_of, copied, sent_by, IsReceive}
use Rattle.ux_model.specs.Giving.{receive}
use Rattle.ux_model.specs.Changes.{as_list, sources}
use Rattle.ux_model.specs.Pedigree.{before, delivered, IsGiven, IsFrom}
use Rattle.ux_model.specs.PedigreeLaws.{LeadsTo}
use Rattle.ux_model.proofs.Lists.Fronts.{front_is_legal, in_front}
use Rattle.ux_model.proofs.Lists.ByPlace.{get_below, member_place, take_within, length_front}
use Rattle.ux_model.proofs.Tables.Queues.{Waits}
use Rattle.ux_model.proofs.Pedigrees.Carried.{received, behind_each}
use Rattle.ux_model.proofs.Pedigrees.Mail.{waiting_was_sent}
use Rattle.ux_model.proofs.Pedigrees.Moments.{Moment, moment, given_cases}

-- ---- how a call gives, by its request

pub how_fork : (r : Request) (tag : Option ℕ) → r ≡ Request.Fork → how_of r tag ≡ Some How.Forked
how_fork r tag h = ap (λ (x : Request). how_of x tag) h

pub how_forked : (r : Request) (tag : Option ℕ) → how_of r tag ≡ Some How.Forked → r ≡ Request.Fork
how_forked Request.Fork tag h = refl
how_forked (Request.RecvMsg fd n space flags) tag h = absurd (tagged tag h)
  where
    tagged : (o : Option ℕ) → how_received o ≡ Some How.Forked → ⊥
    tagged None g = cc g
    tagged (Some t) g = cc g
how_forked _ tag h = absurd (cc h)

pub how_receives : (r : Request) (o : Option ℕ) (tag : ℕ) → how_of r o ≡ Some (How.Received tag) → IsReceive r × (o ≡ Some tag)
how_receives (Request.RecvMsg fd n space flags) o tag h = (receive fd n space flags, tagged o h)
  where
    tagged : (o : Option ℕ) → how_received o ≡ Some (How.Received tag) → o ≡ Some tag
    tagged None g = absurd (cc g)
    tagged (Some t) g = let same : t ≡ tag = cc g in ap Some same
how_receives _ o tag h = absurd (cc h)

pub receive_no_fork : (r : Request) → IsReceive r → r ≢ Request.Fork
receive_no_fork r (receive fd n space flags) h = cc h

made_by_fork : (q : ℕ) (request : Request) (reply : Reply) → makes q request reply ≡ true → request ≡ Request.Fork
made_by_fork q Request.Fork reply h = refl
made_by_fork q request reply h = absurd (false≢true h)

-- ---- what it gives

-- the number leads to the description that the call has for it
pub given_there : (boot : State) (es : List Entry) (j i n : ℕ) (e : Entry) → Moment boot es j e →
    slice_get (given (before boot es j) e.pid.0 e.request e.reply) i ≡ Some n →
    (d : ℕ) × (slice_get (sources (before boot es j) e.pid.0 e.request) i ≡ Some d)
    × (description_of (before boot es (suc j)) e.pid.0 n ≡ Some d)
given_there boot es j i n e m h = let w = m.changes.new i n h in (w.0, w.1, ap description_in w.2)

-- what no fork gave, the process was given itself
abbrev pub IsOwn : State → List Entry → ℕ → Entry → ℕ → ℕ → Type 0
IsOwn boot es j e q n = (e.pid.0 ≡ q) × ((i : ℕ) × (slice_get (given (before boot es j) e.pid.0 e.request e.reply) i ≡ Some n))

pub own_number : (boot : State) (es : List Entry) (j q n : ℕ) (e : Entry) → gives (before boot es j) e q n ≡ true →
    e.request ≢ Request.Fork → IsOwn boot es j e q n
own_number boot es j q n e gave no_fork = ⊎_elim {C = IsOwn boot es j e q n}
    (λ c. absurd (no_fork (made_by_fork q e.request e.reply c)))
    (λ w. (w.0, member_place (given (before boot es j) e.pid.0 e.request e.reply) n w.1)) (given_cases (before boot es j) e q n gave)

one_source : (o : Option Descriptor) (i d : ℕ) → slice_get (as_list (description_in o)) i ≡ Some d → description_in o ≡ Some d
one_source None i d g = absurd (cc g)
one_source (Some x) zero d g = g
one_source (Some x) (suc i) d g = absurd (cc g)

copied_source : (S : State) (p k i d : ℕ) (request : Request) → copied request ≡ Some k → slice_get (sources S p request) i ≡ Some d →
    description_of S p k ≡ Some d
copied_source S p k i d (Request.Dup fd) h g = let same : fd.0 ≡ k = cc h in
    subst (λ (n : ℕ). description_of S p n ≡ Some d) same (one_source (held_at S p fd.0) i d g)
copied_source S p k i d (Request.Dup2 fd to) h g = let same : fd.0 ≡ k = cc h in
    subst (λ (n : ℕ). description_of S p n ≡ Some d) same (one_source (held_at S p fd.0) i d g)
copied_source S p k i d (Request.DupFrom fd minimum) h g = let same : fd.0 ≡ k = cc h in
    subst (λ (n : ℕ). description_of S p n ≡ Some d) same (one_source (held_at S p fd.0) i d g)
copied_source S p k i d _ h g = absurd (cc h)

-- ---- the message of a receive

abbrev given_at : State → List Entry → ℕ → Entry → List ℕ
given_at boot es j e = given (before boot es j) e.pid.0 e.request e.reply

-- A receive gave numbers: its tag is an entry before it, whose rights led, when they were sent, to what the numbers lead to.
pub record IsDelivered (boot : State) (es : List Entry) (j : ℕ) (e : Entry) (tag : ℕ) : Type 0 where
  pub sending : Entry
  pub there : slice_get es tag ≡ Some sending
  pub earlier : tag < j
  pub each : (i n : ℕ) → slice_get (given (before boot es j) e.pid.0 e.request e.reply) i ≡ Some n →
      (k : ℕ) × (d : ℕ) × (slice_get (sent_by sending.request) i ≡ Some k) × (description_of (before boot es tag) sending.pid.0 k ≡ Some d)
      × (description_of (before boot es (suc j)) e.pid.0 n ≡ Some d)

delivered_from : (boot : State) (es : List Entry) (j : ℕ) (e : Entry) (m : Message) → IsLegal boot es → slice_get es j ≡ Some e →
    Waits (before boot es j) m →
    sources (before boot es j) e.pid.0 e.request ≡ m.rights → 0 < length m.rights → IsDelivered boot es j e m.tag
delivered_from boot es j e m legal at waits rights rich =
    let s = waiting_was_sent boot (take j es) m (front_is_legal boot es j legal) rich waits in
    let below = get_below es j e at in
    let early = get_below (take j es) m.tag s.sending s.there in
    let count : length (take j es) ≡ j = length_front es j (omega (arith, below)) in
    let within : m.tag < j = omega (arith, early, count) in
    let behind : descriptions_behind (table_of (before boot es m.tag) s.sending.pid.0) (sent_by s.sending.request) ≡ Some m.rights =
    sym (ap (λ (l : List Entry). descriptions_behind (table_of (replay boot l) s.sending.pid.0) (sent_by s.sending.request))
    (take_within es j m.tag (omega (arith, within)))) ∙ s.rights in
    record {
      sending = s.sending;
      there = (in_front es j m.tag s.sending s.there).0;
      earlier = within;
      each = λ i n h.
          let w = given_there boot es j i n e (moment boot es j e legal at) h in
          let right : slice_get m.rights i ≡ Some w.0 = sym (ap (λ l. slice_get l i) rights) ∙ w.1 in
          let f = behind_each (table_of (before boot es m.tag) s.sending.pid.0) (sent_by s.sending.request) m.rights i w.0 behind right in
          (f.0, w.0, f.1, f.2, w.2);
    }

pub receive_chosen : (S T : State) (p tag n space : ℕ) (fd : Fd) (flags : MsgFlags) (reply : Reply) (gone : List ℕ) →
    Step S p tag (Request.RecvMsg fd n space flags) reply gone T →
    (U : State) × Chosen S (recv_msg S p fd n space flags) reply U
unfolding Step outcome
receive_chosen S T p tag n space fd flags reply gone s = (s.0, s.1)

-- and its entry has the tag of their message
pub receive_delivered : (boot : State) (es : List Entry) (j i n : ℕ) (e : Entry) → IsLegal boot es → slice_get es j ≡ Some e →
    IsReceive e.request → slice_get (given_at boot es j e) i ≡ Some n →
    (tag : ℕ) × (delivered (before boot es j) e ≡ Some tag) × IsDelivered boot es j e tag
receive_delivered boot es j i n e legal at is h = go e.request is refl
  where
    m : Moment boot es j e
    m = moment boot es j e legal at

    go : (r : Request) → IsReceive r → e.request ≡ r → (tag : ℕ) × (delivered (before boot es j) e ≡ Some tag) × IsDelivered boot es j e tag
    go r (receive fd k space flags) same =
        let S : State = before boot es j in
        let request : Request = Request.RecvMsg fd k space flags in
        let w = given_there boot es j i n e m h in
        let source : slice_get (brought S e.pid.0 request).rights i ≡ Some w.0 =
        sym (ap (λ (x : Request). slice_get (sources S e.pid.0 x) i) same) ∙ w.1 in
        let some = get_below (brought S e.pid.0 request).rights i w.0 source in
        let gave : slice_get (given S e.pid.0 request e.reply) i ≡ Some n =
        sym (ap (λ (x : Request). slice_get (given S e.pid.0 x e.reply) i) same) ∙ h in
        let step : Step S e.pid.0 j request e.reply e.released (before boot es (suc j)) =
        subst (λ (x : Request). Step S e.pid.0 j x e.reply e.released (before boot es (suc j))) same m.steps in
        let chosen = receive_chosen S (before boot es (suc j)) e.pid.0 j k space fd flags e.reply e.released step in
        let r = received S chosen.0 e.pid.0 k space i n fd flags e.reply chosen.1 gave (omega (arith, some)) in
        let long : length (brought S e.pid.0 request).rights ≡ length r.0.rights = ap (λ (l : List ℕ). length l) r.2 in (
          r.0.tag,
          ap (λ (x : Request). delivered_by S e.pid.0 x e.reply) same ∙ r.3,
          delivered_from boot es j e r.0 legal at r.1 (ap (λ (x : Request). sources S e.pid.0 x) same ∙ r.2) (omega (arith, some, long)),
        )

pub delivered_of : (boot : State) (es : List Entry) (j tag i n : ℕ) (e : Entry) → IsLegal boot es → slice_get es j ≡ Some e →
    how_of e.request (delivered (before boot es j) e) ≡ Some (How.Received tag) → slice_get (given_at boot es j e) i ≡ Some n →
    IsDelivered boot es j e tag
delivered_of boot es j tag i n e legal at way h =
    let r = how_receives e.request (delivered (before boot es j) e) tag way in
    let d = receive_delivered boot es j i n e legal at r.0 h in
    let same : d.0 ≡ tag = cc (d.1, r.1) in
    subst (IsDelivered boot es j e) same d.2

-- ---- links

no_fork_link : (boot : State) (es : List Entry) (b : Link) (e : Entry) (how : How) → IsGiven boot es b e → b.how ≡ how →
    (how ≢ How.Forked) → e.request ≢ Request.Fork
no_fork_link boot es b e how g same other f =
    let clash : Some How.Forked ≡ Some how = sym (how_fork e.request (delivered (before boot es b.entry) e) f) ∙ g.way ∙ ap Some same in
    let ways : How.Forked ≡ how = cc clash in
    other (sym ways)

-- the first holding leads to a description
pub made_leads : (boot : State) (es : List Entry) (b : Link) (e : Entry) → IsLegal boot es → IsGiven boot es b e → b.how ≡ How.Made →
    (d : ℕ) × LeadsTo boot es d b
made_leads boot es b e legal g made =
    let m = moment boot es b.entry e legal g.there in
    let own = own_number boot es b.entry b.pid.0 b.fd.0 e g.gave (no_fork_link boot es b e How.Made g made (λ h. cc h)) in
    let w = given_there boot es b.entry own.1.0 b.fd.0 e m own.1.1 in
    (w.0, subst (λ (p : ℕ). description_of (before boot es (suc b.entry)) p b.fd.0 ≡ Some w.0) own.0 w.2)

-- each further one leads to what the holding before led to, when that was given
pub passed_same : (boot : State) (es : List Entry) (how : How) (a b : Link) (e : Entry) (giving : ℕ) → IsLegal boot es →
    IsGiven boot es b e → b.how ≡ how → IsFrom boot es how a b e giving →
    description_of (before boot es giving) a.pid.0 a.fd.0 ≡ description_of (before boot es (suc b.entry)) b.pid.0 b.fd.0
passed_same boot es How.Made a b e giving legal g same from = absurd from
passed_same boot es How.Dup a b e giving legal g same from =
    let m = moment boot es b.entry e legal g.there in
    let own = own_number boot es b.entry b.pid.0 b.fd.0 e g.gave (no_fork_link boot es b e How.Dup g same (λ h. cc h)) in
    let w = given_there boot es b.entry own.1.0 b.fd.0 e m own.1.1 in
    let source = copied_source (before boot es b.entry) e.pid.0 a.fd.0 own.1.0 w.0 e.request from.2 w.1 in
    ap (λ (k : ℕ). description_of (before boot es k) a.pid.0 a.fd.0) from.0
    ∙ ap (λ (p : ℕ). description_of (before boot es b.entry) p a.fd.0) from.1
    ∙ source ∙ sym w.2
    ∙ ap (λ (p : ℕ). description_of (before boot es (suc b.entry)) p b.fd.0) own.0
passed_same boot es (How.Received tag) a b e giving legal g same from =
    let way : how_of e.request (delivered (before boot es b.entry) e) ≡ Some (How.Received tag) = g.way ∙ ap Some same in
    let is = (how_receives e.request (delivered (before boot es b.entry) e) tag way).0 in
    let own = own_number boot es b.entry b.pid.0 b.fd.0 e g.gave (receive_no_fork e.request is) in
    let c = from.1 in
    let D = delivered_of boot es b.entry tag c.place b.fd.0 e legal g.there way c.installed in
    let one : Some D.sending ≡ Some c.sending = sym D.there ∙ c.there in
    let sender : D.sending ≡ c.sending = cc one in
    let w = D.each c.place b.fd.0 c.installed in
    let both : Some w.0 ≡ Some a.fd.0 = sym w.2 ∙ ap (λ (s : Entry). slice_get (sent_by s.request) c.place) sender ∙ c.right in
    let number : w.0 ≡ a.fd.0 = cc both in
    let process : D.sending.pid.0 ≡ a.pid.0 = ap (λ (s : Entry). s.pid.0) sender ∙ c.sender in
    ap (λ (k : ℕ). description_of (before boot es k) a.pid.0 a.fd.0) from.0
    ∙ sym (ap (λ (p : ℕ). description_of (before boot es tag) p a.fd.0) process)
    ∙ sym (ap (λ (n : ℕ). description_of (before boot es tag) D.sending.pid.0 n) number)
    ∙ w.3 ∙ sym w.4
    ∙ ap (λ (p : ℕ). description_of (before boot es (suc b.entry)) p b.fd.0) own.0
passed_same boot es How.Forked a b e giving legal g same from =
    let m = moment boot es b.entry e legal g.there in
    let fork : e.request ≡ Request.Fork = how_forked e.request (delivered (before boot es b.entry) e) (g.way ∙ ap Some same) in
    ⊎_elim {C = description_of (before boot es giving) a.pid.0 a.fd.0 ≡ description_of (before boot es (suc b.entry)) b.pid.0 b.fd.0}
    (λ c.
    ap (λ (k : ℕ). description_of (before boot es k) a.pid.0 a.fd.0) from.0
    ∙ ap (λ (p : ℕ). description_of (before boot es b.entry) p a.fd.0) from.1
    ∙ ap (λ (n : ℕ). description_of (before boot es b.entry) e.pid.0 n) from.2
    ∙ sym (ap description_in (m.changes.child b.pid.0 b.fd.0 c)))
    (λ w.
    let i = member_place (given_at boot es b.entry e) b.fd.0 w.1 in
    let s = given_there boot es b.entry i.0 b.fd.0 e m i.1 in
    let none : slice_get [] i.0 ≡ Some s.0 = sym (ap (λ (r : Request). slice_get (sources (before boot es b.entry) e.pid.0 r) i.0) fork)
    ∙ s.1 in
    absurd (cc none))
    (given_cases (before boot es b.entry) e b.pid.0 b.fd.0 g.gave)

-- ---- who gives

-- a call that has no description for a number gives none
pub gives_nothing : (boot : State) (es : List Entry) (j q n : ℕ) (e : Entry) → Moment boot es j e → e.request ≢ Request.Fork →
    sources (before boot es j) e.pid.0 e.request ≡ [] →
    gives (before boot es j) e q n ≡ true → ⊥
gives_nothing boot es j q n e m no_fork none gave =
    let own = own_number boot es j q n e gave no_fork in
    let s = given_there boot es j own.1.0 n e m own.1.1 in
    let nowhere : slice_get [] own.1.0 ≡ Some s.0 = sym (ap (λ (l : List ℕ). slice_get l own.1.0) none) ∙ s.1 in
    cc nowhere
