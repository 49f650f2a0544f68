-- The walk back, link by link.
use Rattle.std.proofs.Common.{◌≡◌, ℕ, zero, suc, ◌+◌, ◌-◌, ◌<◌, ◌≤◌, Bool, true, false, ◌&&◌, not, List, [], ◌∷◌, ◌++◌, length, map}
use Rattle.std.proofs.Common.{replicate, reverse, Option, None, Some, MatchOption, refl, ap, sym, ◌∙◌, subst, arith, append_assoc}
use Rattle.std.proofs.Common.{slice_get, is_some}
use Rattle.std.proofs.lemmas.Bool.{false≢true}
use Rattle.std.proofs.lemmas.List.{take_all, reverse-append, append-nil}
use Rattle.ux_model.specs.Types.{Pid, Fd, Entry, How, Link}
use Rattle.ux_model.specs.Places.{place}
use Rattle.ux_model.specs.Process.{Process, Descriptor}
use Rattle.ux_model.specs.State.{State}
use Rattle.ux_model.specs.Boot.{IsBootState}
use Rattle.ux_model.specs.History.{replay, IsLegal}
use Rattle.ux_model.specs.Giving.{is_held, held_at, how_of}
use Rattle.ux_model.specs.Pedigree.{before, Stands, IsGiven, IsChain, first, onward, IsPedigree}
use Rattle.ux_model.proofs.Changes.Named.{table_in}
use Rattle.ux_model.proofs.Lists.ByPlace.{get_within, take_none}
use Rattle.ux_model.proofs.Pedigrees.Moments.{moment, kept_description, held_leads, leads_held}
use Rattle.ux_model.proofs.Pedigrees.Passing.{passed_same}
use Rattle.ux_audit.specs.declared.hands.Giver.{Giver}
use Rattle.ux_audit.specs.declared.hands.HoldingOrigin.{HoldingOrigin}
use Rattle.ux_audit.specs.Origins.{GivesAt, NoneGives, IsGiver, IsOrigin}
use Rattle.ux_audit.proofs.Reported.{gave_gives, reported_delivered}

-- The walk is at a number that was held at this moment; with the links so far, the last holding first, a chain that leads to it is a
-- pedigree of the number that was asked for.
pub record IsWalking (boot : State) (es : List Entry) (P N : ℕ) (links : List Link) (p n until : ℕ) : Type 0 where
  pub held : is_held (before boot es until) p n ≡ true
  pub completes : (chain : List Link) (a : Link) → IsChain boot es chain a → a.pid.0 ≡ p → a.fd.0 ≡ n → Stands boot es a until →
      IsPedigree boot es (chain ++ reverse links) P N

pub walk_starts : (boot : State) (es : List Entry) (P N : ℕ) → is_held (replay boot es) P N ≡ true →
    IsWalking boot es P N [] P N (length es)
walk_starts boot es P N held = record {
  held = subst (λ (l : List Entry). is_held (replay boot l) P N ≡ true) (sym (take_all (length es) es (omega arith))) held;
  completes = λ chain a leads p n stands.
      subst (λ (l : List Link). IsPedigree boot es l P N) (sym (append-nil chain))
      (record { last = a; leads = leads; process = p; number = n; stands = stands });
}

-- what nobody gave since was held before
pub held_before : (boot : State) (es : List Entry) (p n from until d k : ℕ) → IsLegal boot es → until ≤ length es →
    NoneGives es p n from until →
    is_held (before boot es until) p n ≡ true → k + d ≡ until → from ≤ k → is_held (before boot es k) p n ≡ true
held_before boot es p n from until zero k legal within none held at low =
    let same : until ≡ k = omega (arith, at) in subst (λ (m : ℕ). is_held (before boot es m) p n ≡ true) same held
held_before boot es p n from until (suc d) k legal within none held at low =
    let next = held_before boot es p n from until d (suc k) legal within none held (omega (arith, at)) (omega (arith, low)) in
    let there = get_within es k (omega (arith, at, within)) in
    let leads = held_leads (before boot es (suc k)) p n next in
    leads_held (before boot es k) p n leads.0
    (kept_description (before boot es k) (before boot es (suc k)) there.0 p n leads.0 (moment boot es k there.0 legal there.1).changes
    (sym (gave_gives boot es k p n there.0 legal there.1) ∙ none k there.0 low (omega (arith, at)) there.1) leads.1)

and_false : (b c : Bool) → c ≡ true → (b && not c) ≡ false
and_false true c h = ap not h
and_false false c h = refl

-- so the holding stands
pub stands_since : (boot : State) (es : List Entry) (b : Link) (until : ℕ) → IsLegal boot es → until ≤ length es → b.entry < until →
    NoneGives es b.pid.0 b.fd.0 (suc b.entry) until → is_held (before boot es until) b.pid.0 b.fd.0 ≡ true → Stands boot es b until
stands_since boot es b until legal within early none held = record {
  earlier = early;
  untouched = λ j e low high at.
      let rest : suc j + (until - suc j) ≡ until = omega (arith, high) in
      let kept = held_before boot es b.pid.0 b.fd.0 (suc b.entry) until (until - suc j) (suc j) legal within none held rest
      (omega (arith, low)) in (
        sym (gave_gives boot es j b.pid.0 b.fd.0 e legal at) ∙ none j e (omega (arith, low)) high at,
        and_false (is_held (before boot es j) b.pid.0 b.fd.0) (is_held (before boot es (suc j)) b.pid.0 b.fd.0) kept,
      );
}

-- one more link, made or given
abbrev pub link : ℕ → Pid → Fd → How → Link
link j p n how = record { entry = j; pid = p; fd = n; how = how }

given_link : (boot : State) (es : List Entry) (j : ℕ) (p : Pid) (n : Fd) (e : Entry) (o : HoldingOrigin) → IsLegal boot es →
    slice_get es j ≡ Some e → GivesAt es p.0 n.0 j → IsOrigin es j n.0 e o →
    IsGiven boot es (link j p n o.how) e
given_link boot es j p n e o legal at gave origin = record {
  there = at;
  gave = sym (gave_gives boot es j p.0 n.0 e legal at) ∙ gave e at;
  way = sym (ap (how_of e.request) (reported_delivered boot es j e legal at)) ∙ origin.way;
}

reversed_more : (links : List Link) (b : Link) (chain : List Link) → chain ++ reverse (links ++ b ∷ []) ≡ (chain ++ b ∷ []) ++ reverse links
reversed_more links b chain = ap (λ l. chain ++ l) (reverse-append links (b ∷ [])) ∙ sym (append_assoc chain (b ∷ []) (reverse links))

pub walk_ends : (boot : State) (es : List Entry) (P N : ℕ) (links : List Link) (j until : ℕ) (p : Pid) (n : Fd) (e : Entry)
    (o : HoldingOrigin) →
    IsLegal boot es → until ≤ length es →
    IsWalking boot es P N links p.0 n.0 until → j < until → slice_get es j ≡ Some e → GivesAt es p.0 n.0 j →
    NoneGives es p.0 n.0 (suc j) until → IsOrigin es j n.0 e o → o.from ≡ None →
    IsPedigree boot es (reverse (links ++ link j p n o.how ∷ [])) P N
walk_ends boot es P N links j until p n e o legal within walking early at gave none origin stop =
    let b : Link = link j p n o.how in
    let made : o.how ≡ How.Made = subst (λ (f : Option Giver). MatchOption f (o.how ≡ How.Made) (IsGiver es j n.0 e o.how)) stop origin.from
    in
    let stands = stands_since boot es b until legal within early none walking.held in
    subst (λ (l : List Link). IsPedigree boot es l P N) (sym (reversed_more links b []))
    (walking.completes (b ∷ []) b (first b e (given_link boot es j p n e o legal at gave origin) made) refl refl stands)

pub walk_goes_on : (boot : State) (es : List Entry) (P N : ℕ) (links : List Link) (j until : ℕ) (p : Pid) (n : Fd) (e : Entry)
    (o : HoldingOrigin)
    (g : Giver) → IsLegal boot es → until ≤ length es →
    IsWalking boot es P N links p.0 n.0 until → j < until → slice_get es j ≡ Some e → GivesAt es p.0 n.0 j →
    NoneGives es p.0 n.0 (suc j) until → IsOrigin es j n.0 e o → o.from ≡ Some g →
    IsWalking boot es P N (links ++ link j p n o.how ∷ []) g.pid.0 g.fd.0 g.until
walk_goes_on boot es P N links j until p n e o g legal within walking early at gave none origin more =
    let b : Link = link j p n o.how in
    let giver : IsGiver es j n.0 e o.how g =
    subst (λ (f : Option Giver). MatchOption f (o.how ≡ How.Made) (IsGiver es j n.0 e o.how)) more origin.from in
    let given = given_link boot es j p n e o legal at gave origin in
    let stands = stands_since boot es b until legal within early none walking.held in
    let here = held_before boot es p.0 n.0 (suc j) until (until - suc j) (suc j) legal within none walking.held (omega (arith, early))
    (omega arith) in
    let leads = held_leads (before boot es (suc j)) p.0 n.0 here in
    let source : Link = link 0 g.pid g.fd How.Made in
    let same = passed_same boot es o.how source b e g.until legal given refl (giver.hands_on boot source b legal refl refl refl refl) in
    record {
      held = leads_held (before boot es g.until) g.pid.0 g.fd.0 leads.0 (same ∙ leads.1);
      completes = λ chain a chained p' n' stood.
          subst (λ (l : List Link). IsPedigree boot es l P N) (sym (reversed_more links b chain))
          (walking.completes (chain ++ b ∷ []) b (onward a b e g.until chained stood given (giver.hands_on boot a b legal p' n' refl refl))
          refl refl stands);
    }

-- ---- nothing is held at first

abbrev nothing_open : ℕ → List (Option Descriptor)
nothing_open k = replicate k None

empty_place : (k n : ℕ) → place (nothing_open k) n ≡ None
empty_place zero n = refl
empty_place (suc k) zero = refl
empty_place (suc k) (suc n) = empty_place k n

empty_at : (Ps : List Process) (i n : ℕ) → map (λ P. Process.table P) Ps ≡ map (λ P. replicate (length (Process.table P)) None) Ps →
    place (table_in (slice_get Ps i)) n ≡ None
empty_at [] i n h = refl
empty_at (P ∷ Ps) zero n h =
    let head : Some P.table ≡ Some (replicate (length P.table) None) = ap (λ l. slice_get l 0) h in
    let same : P.table ≡ replicate (length P.table) None = cc head in
    ap (λ t. place t n) same ∙ empty_place (length P.table) n
empty_at (P ∷ Ps) (suc i) n h = empty_at Ps i n (tails h)
  where
    tails : {X : Type 0} {x y : X} {xs ys : List X} → x ∷ xs ≡ y ∷ ys → xs ≡ ys
    tails e = cc e

pub boot_empty : (boot : State) (p n : ℕ) → IsBootState boot → held_at boot p n ≡ None
boot_empty boot zero n boots = refl
boot_empty boot (suc i) n boots = empty_at boot.processes i n boots.empty_tables

-- nothing that is held was given by nobody
pub walk_finds : (boot : State) (es : List Entry) (P N : ℕ) (links : List Link) (until p n : ℕ) → IsLegal boot es → until ≤ length es →
    IsWalking boot es P N links p n until → NoneGives es p n 0 until → ⊥
walk_finds boot es P N links until p n legal within walking none =
    let at_first = held_before boot es p n 0 until until 0 legal within none walking.held (omega arith) (omega arith) in
    let at_boot : is_held boot p n ≡ true = subst (λ (l : List Entry). is_held (replay boot l) p n ≡ true) (take_none es) at_first in
    false≢true (sym (ap is_some (boot_empty boot p n legal.boots)) ∙ at_boot)
