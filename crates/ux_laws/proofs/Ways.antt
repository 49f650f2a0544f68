-- Each number that a process holds has a pedigree: a chain leads to it from the call that made what it leads to.
use Rattle.std.proofs.Common.{◌≡◌, ◌≢◌, ℕ, zero, suc, ◌≤◌, ◌==◌, Bool, true, false, not, ◌&&◌, is_some, List, [], ◌∷◌, ◌++◌, length, take}
use Rattle.std.proofs.Common.{replicate, map, Option, Some, None, refl, ap, sym, ◌∙◌, subst, ⊎_elim, arith, slice_get}
use Rattle.std.proofs.lemmas.Bool.{false≢true, eqb-true, eqb-false}
use Rattle.std.proofs.lemmas.List.{take_all}
use Rattle.ux_model.specs.Types.{Request, Entry, How, Link}
use Rattle.ux_model.specs.Places.{place}
use Rattle.ux_model.specs.Process.{Process, Descriptor}
use Rattle.ux_model.specs.State.{State}
use Rattle.ux_model.specs.Boot.{IsBootState}
use Rattle.ux_model.specs.History.{replay, IsLegal}
use Rattle.ux_model.specs.Giving.{held_at, is_held, description_in, description_of, given, gives, how_of, copied, IsReceive, receive}
use Rattle.ux_model.specs.Changes.{as_list, sources}
use Rattle.ux_model.specs.Pedigree.{before, delivered, Stands, IsFrom, IsChain, first, onward, IsPedigree}
use Rattle.ux_model.proofs.Changes.Named.{table_in}
use Rattle.ux_model.proofs.Lists.ChangedPlaces.{bool_cases}
use Rattle.ux_model.proofs.Lists.ByPlace.{get_within, take_none, member_place}
use Rattle.ux_model.proofs.Pedigrees.Moments.{Moment, moment, kept_description, held_leads, leads_held, given_cases}
use Rattle.ux_model.proofs.Pedigrees.Passing.{given_there, own_number, receive_delivered, gives_nothing}

-- ---- nothing is held at first

empty_place : (k n : ℕ) → place {X = Descriptor} (replicate k None) n ≡ None
empty_place zero n = refl
empty_place (suc k) zero = refl
empty_place (suc k) (suc n) = empty_place k n

empty_at : (Ps : List Process) (i n : ℕ) → map (λ P. Process.table P) Ps ≡ map (λ P. replicate (length (Process.table P)) None) Ps →
    place (table_in (slice_get Ps i)) n ≡ None
empty_at [] i n h = refl
empty_at (P ∷ Ps) zero n h =
    let head : Some P.table ≡ Some (replicate (length P.table) None) = ap (λ l. slice_get l 0) h in
    let same : P.table ≡ replicate (length P.table) None = cc head in
    ap (λ t. place t n) same ∙ empty_place (length P.table) n
empty_at (P ∷ Ps) (suc i) n h = empty_at Ps i n (tails h)
  where
    tails : {X : Type 0} {x y : X} {xs ys : List X} → x ∷ xs ≡ y ∷ ys → xs ≡ ys
    tails e = cc e

boot_empty : (boot : State) (p n : ℕ) → IsBootState boot → held_at boot p n ≡ None
boot_empty boot zero n boots = refl
boot_empty boot (suc i) n boots = empty_at boot.processes i n boots.empty_tables

-- ---- a chain that stands until a call

pub record HasChain (boot : State) (es : List Entry) (m p n : ℕ) : Type 0 where
  pub chain : List Link
  pub last : Link
  pub leads : IsChain boot es chain last
  pub process : last.pid.0 ≡ p
  pub number : last.fd.0 ≡ n
  pub stands : Stands boot es last m

abbrev link : ℕ → ℕ → ℕ → How → Link
link j p n how = record { entry = j; pid = record { 0 = p }; fd = record { 0 = n }; how = how }

-- what a call just gave stands until the next
just_given : (boot : State) (es : List Entry) (k p n : ℕ) (how : How) → Stands boot es (link k p n how) (suc k)
just_given boot es k p n how = record { earlier = omega arith; untouched = λ j e low high at. absurd (omega (arith, low, high)) }

-- one more call that leaves the number
stands_on : (boot : State) (es : List Entry) (a : Link) (k : ℕ) (e : Entry) → slice_get es k ≡ Some e →
    gives (before boot es k) e a.pid.0 a.fd.0 ≡ false → is_held (before boot es (suc k)) a.pid.0 a.fd.0 ≡ true →
    Stands boot es a k → Stands boot es a (suc k)
stands_on boot es a k e at not_given held s = record {
  earlier = let early = s.earlier in omega (arith, early);
  untouched = λ j f low high there. bool_cases (j == k)
      (λ same.
      let is : j ≡ k = eqb-true j k same in
      let both : Some e ≡ Some f = sym at ∙ sym (ap (λ (i : ℕ). slice_get es i) is) ∙ there in
      let one : e ≡ f = cc both in (
        ap (λ (i : ℕ). gives (before boot es i) f a.pid.0 a.fd.0) is
            ∙ sym (ap (λ (x : Entry). gives (before boot es k) x a.pid.0 a.fd.0) one) ∙ not_given,
        ap (λ (i : ℕ). is_held (before boot es i) a.pid.0 a.fd.0 && not (is_held (before boot es (suc i)) a.pid.0 a.fd.0)) is
            ∙ ap (λ b. is_held (before boot es k) a.pid.0 a.fd.0 && not b) held ∙ none (is_held (before boot es k) a.pid.0 a.fd.0),
      ))
      (λ other. let ne = eqb-false j k other in s.untouched j f low (omega (arith, high, ne)) there);
}
  where
    none : (b : Bool) → (b && false) ≡ false
    none true = refl
    none false = refl

-- ---- what one call gave

one_source : (o : Option Descriptor) (i d : ℕ) → slice_get (as_list (description_in o)) i ≡ Some d → description_in o ≡ Some d
one_source None i d g = absurd (cc g)
one_source (Some x) zero d g = g
one_source (Some x) (suc i) d g = absurd (cc g)

copied_source : (S : State) (p k i d : ℕ) (request : Request) → copied request ≡ Some k → slice_get (sources S p request) i ≡ Some d →
    description_of S p k ≡ Some d
copied_source S p k i d (Request.Dup fd) h g = let same : fd.0 ≡ k = cc h in
    subst (λ (n : ℕ). description_of S p n ≡ Some d) same (one_source (held_at S p fd.0) i d g)
copied_source S p k i d (Request.Dup2 fd to) h g = let same : fd.0 ≡ k = cc h in
    subst (λ (n : ℕ). description_of S p n ≡ Some d) same (one_source (held_at S p fd.0) i d g)
copied_source S p k i d (Request.DupFrom fd minimum) h g = let same : fd.0 ≡ k = cc h in
    subst (λ (n : ℕ). description_of S p n ≡ Some d) same (one_source (held_at S p fd.0) i d g)
copied_source S p k i d _ h g = absurd (cc h)

-- whoever held something when one of the calls before was made has a chain
abbrev Earlier : State → List Entry → ℕ → Type 0
Earlier boot es k = (m p n : ℕ) → m ≤ k → is_held (before boot es m) p n ≡ true → HasChain boot es m p n

made_here : (boot : State) (es : List Entry) (k p n : ℕ) (e : Entry) → slice_get es k ≡ Some e → gives (before boot es k) e p n ≡ true →
    how_of e.request (delivered (before boot es k) e) ≡ Some How.Made →
    HasChain boot es (suc k) p n
made_here boot es k p n e at gave way = record {
  chain = link k p n How.Made ∷ [];
  last = link k p n How.Made;
  leads = first (link k p n How.Made) e (record { there = at; gave = gave; way = way }) refl;
  process = refl;
  number = refl;
  stands = just_given boot es k p n How.Made;
}

-- from a holding that has a chain
handed_on : (boot : State) (es : List Entry) (k p n m q i : ℕ) (how : How) (e : Entry) → slice_get es k ≡ Some e →
    gives (before boot es k) e p n ≡ true → how_of e.request (delivered (before boot es k) e) ≡ Some how →
    HasChain boot es m q i → ((a : Link) → a.pid.0 ≡ q → a.fd.0 ≡ i → IsFrom boot es how a (link k p n how) e m) →
    HasChain boot es (suc k) p n
handed_on boot es k p n m q i how e at gave way c from = record {
  chain = c.chain ++ link k p n how ∷ [];
  last = link k p n how;
  leads = onward c.last (link k p n how) e m c.leads c.stands (record { there = at; gave = gave; way = way })
      (from c.last c.process c.number);
  process = refl;
  number = refl;
  stands = just_given boot es k p n how;
}

given_chain : (boot : State) (es : List Entry) (k p n : ℕ) (e : Entry) → IsLegal boot es → slice_get es k ≡ Some e →
    gives (before boot es k) e p n ≡ true → is_held (before boot es (suc k)) p n ≡ true → Earlier boot es k → HasChain boot es (suc k) p n
given_chain boot es k p n e legal at gave held earlier = by_request e.request refl
  where
    S : State
    S = before boot es k

    m : Moment boot es k e
    m = moment boot es k e legal at

    made : (r : Request) → e.request ≡ r → how_of r (delivered S e) ≡ Some How.Made → HasChain boot es (suc k) p n
    made r is way = made_here boot es k p n e at gave (ap (λ (x : Request). how_of x (delivered S e)) is ∙ way)

    duplicate : (i : ℕ) → how_of e.request (delivered S e) ≡ Some How.Dup → copied e.request ≡ Some i → e.request ≢ Request.Fork →
        HasChain boot es (suc k) p n
    duplicate i way copy no_fork =
        let own = own_number boot es k p n e gave no_fork in
        let w = given_there boot es k own.1.0 n e m own.1.1 in
        let led = copied_source S e.pid.0 i own.1.0 w.0 e.request copy w.1 in
        handed_on boot es k p n k e.pid.0 i How.Dup e at gave way (earlier k e.pid.0 i (omega arith) (leads_held S e.pid.0 i w.0 led))
        (λ a process number. (refl, process, copy ∙ ap Some (sym number)))

    message : IsReceive e.request → e.request ≢ Request.Fork →
        ((tag : ℕ) → delivered S e ≡ Some tag → how_of e.request (delivered S e) ≡ Some (How.Received tag)) → HasChain boot es (suc k) p n
    message is no_fork way =
        let own = own_number boot es k p n e gave no_fork in
        let r = receive_delivered boot es k own.1.0 n e legal at is own.1.1 in
        let d = r.2 in
        let w = d.each own.1.0 n own.1.1 in
        let early = d.earlier in
        handed_on boot es k p n r.0 d.sending.pid.0 w.0 (How.Received r.0) e at gave (way r.0 r.1)
        (earlier r.0 d.sending.pid.0 w.0 (omega (arith, early)) (leads_held (before boot es r.0) d.sending.pid.0 w.0 w.1 w.3))
        (λ a process number. (
          refl,
          record {
            sending = d.sending;
            there = d.there;
            sender = sym process;
            place = own.1.0;
            installed =
                own.1.1;
            right = w.2 ∙ ap Some (sym number);
          },
        ))

    forked : e.request ≡ Request.Fork → HasChain boot es (suc k) p n
    forked is = ⊎_elim {C = HasChain boot es (suc k) p n}
        (λ c.
        handed_on boot es k p n k e.pid.0 n How.Forked e at gave (ap (λ (x : Request). how_of x (delivered S e)) is)
        (earlier k e.pid.0 n (omega arith) (sym (ap is_some (m.changes.child p n c)) ∙ held)) (λ a process number. (refl, process, number)))
        (λ w.
        let i = member_place (given S e.pid.0 e.request e.reply) n w.1 in
        let s = given_there boot es k i.0 n e m i.1 in
        let none : slice_get [] i.0 ≡ Some s.0 = sym (ap (λ (r : Request). slice_get (sources S e.pid.0 r) i.0) is) ∙ s.1 in
        absurd (cc none))
        (given_cases S e p n gave)

    no_fork : {r : Request} → e.request ≡ r → e.request ≡ Request.Fork → (r ≡ Request.Fork → ⊥) → ⊥
    no_fork is f other = other (sym is ∙ f)

    by_request : (r : Request) → e.request ≡ r → HasChain boot es (suc k) p n
    by_request (Request.Open path mode flags) is = made _ is refl
    by_request (Request.Create path mode flags) is = made _ is refl
    by_request (Request.MemFd flags) is = made _ is refl
    by_request (Request.EventFd value semaphore flags) is = made _ is refl
    by_request (Request.Pipe flags) is = made _ is refl
    by_request (Request.Socket kind flags) is = made _ is refl
    by_request (Request.SocketPair kind flags) is = made _ is refl
    by_request (Request.Accept fd flags) is = made _ is refl
    by_request (Request.Dup fd) is = duplicate fd.0 (ap (λ (x : Request). how_of x (delivered S e)) is) (ap copied is)
        (λ f. no_fork is f (λ h. cc h))
    by_request (Request.Dup2 fd to) is = duplicate fd.0 (ap (λ (x : Request). how_of x (delivered S e)) is) (ap copied is)
        (λ f. no_fork is f (λ h. cc h))
    by_request (Request.DupFrom fd minimum) is =
        duplicate fd.0 (ap (λ (x : Request). how_of x (delivered S e)) is) (ap copied is) (λ f. no_fork is f (λ h. cc h))
    by_request (Request.RecvMsg fd i space flags) is =
        message (subst IsReceive (sym is) (receive fd i space flags)) (λ f. no_fork is f (λ h. cc h))
        (λ tag h. ap (λ (x : Request). how_of x (delivered S e)) is ∙ ap (how_of (Request.RecvMsg fd i space flags)) h)
    by_request Request.Fork is = forked is
    by_request _ is = absurd (gives_nothing boot es k p n e m (λ f. no_fork is f (λ h. cc h)) (ap (sources S e.pid.0) is) gave)

-- ---- every holding

chain_until : (boot : State) (es : List Entry) (fuel m p n : ℕ) → IsLegal boot es → m ≤ fuel → m ≤ length es →
    is_held (before boot es m) p n ≡ true → HasChain boot es m p n
chain_until boot es fuel zero p n legal few within held =
    let at_boot : is_held boot p n ≡ true = subst (λ (l : List Entry). is_held (replay boot l) p n ≡ true) (take_none es) held in
    absurd (false≢true (sym (ap is_some (boot_empty boot p n legal.boots)) ∙ at_boot))
chain_until boot es zero (suc k) p n legal few within held = absurd (omega (arith, few))
chain_until boot es (suc fuel) (suc k) p n legal few within held =
    let there = get_within es k (omega (arith, within)) in
    let e : Entry = there.0 in
    let at : slice_get es k ≡ Some e = there.1 in
    let earlier = λ (m q i : ℕ) (low : m ≤ k) (h : is_held (before boot es m) q i ≡ true). chain_until boot es fuel m q i legal
    (omega (arith, few, low)) (omega (arith, within, low)) h in
    bool_cases (gives (before boot es k) e p n)
    (λ gave. given_chain boot es k p n e legal at gave held earlier)
    (λ kept.
    let leads = held_leads (before boot es (suc k)) p n held in
    let was = kept_description (before boot es k) (before boot es (suc k)) e p n leads.0 (moment boot es k e legal at).changes kept leads.1
    in
    let c = earlier k p n (omega arith) (leads_held (before boot es k) p n leads.0 was) in
    let gives_last : gives (before boot es k) e c.last.pid.0 c.last.fd.0 ≡ false =
    ap (λ (q : ℕ). gives (before boot es k) e q c.last.fd.0) c.process ∙ ap (λ (i : ℕ). gives (before boot es k) e p i) c.number ∙ kept in
    let held_last : is_held (before boot es (suc k)) c.last.pid.0 c.last.fd.0 ≡ true =
    ap (λ (q : ℕ). is_held (before boot es (suc k)) q c.last.fd.0) c.process ∙ ap (λ (i : ℕ). is_held (before boot es (suc k)) p i) c.number
    ∙ held in
    record {
      chain = c.chain;
      last = c.last;
      leads = c.leads;
      process = c.process;
      number = c.number;
      stands =
          stands_on boot es c.last k e at gives_last held_last c.stands;
    })

pub every_holding_has_a_pedigree : (boot : State) (es : List Entry) (p n : ℕ) → IsLegal boot es → is_held (replay boot es) p n ≡ true →
    (chain : List Link) × IsPedigree boot es chain p n
every_holding_has_a_pedigree boot es p n legal held =
    let whole : take (length es) es ≡ es = take_all (length es) es (omega arith) in
    let c = chain_until boot es (length es) (length es) p n legal (omega arith) (omega arith)
    (subst (λ (l : List Entry). is_held (replay boot l) p n ≡ true) (sym whole) held) in
    (c.chain, record { last = c.last; leads = c.leads; process = c.process; number = c.number; stands = c.stands })
