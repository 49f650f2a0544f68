-- A poll of several descriptors waits exactly while nothing is reported of any.
use Rattle.std.proofs.Common.{◌≡◌, ◌≤◌, ℕ, zero, suc, ◌+◌, ◌==◌, Bool, true, false, not, ◌&&◌, ◌||◌, if◌then◌else◌, List, [], ◌∷◌}
use Rattle.std.proofs.Common.{length, map, Option, Some, None, Result, Ok, Err, refl, ap, sym, ◌∙◌, subst, arith}
use Rattle.std.specs.List.{AllByRecursion, slice_get}
use Rattle.std.specs.Prelude.{nat_lt}
use Rattle.std.proofs.lemmas.Bool.{eqb-true, false≢true, ltb-true, or_parts, and_parts}
use Rattle.ux_model.specs.Types.{Errno, PollFd, PollFds, PollFlags, Request, Reply}
use Rattle.ux_model.specs.Limits.{poll_limit}
use Rattle.ux_model.specs.Flags.{asks_input, asks_room, asks_end, poll_in, poll_out, poll_rdhup, poll_hup, poll_err}
use Rattle.ux_model.specs.Description.{Description}
use Rattle.ux_model.specs.Process.{Descriptor}
use Rattle.ux_model.specs.State.{State, description_at}
use Rattle.ux_model.specs.Outcome.{Outcome, Chosen, own, lacking_memory, failing, descriptor_at, find_description}
use Rattle.ux_model.specs.Readiness.{Conditions, poll_flags, not_open, readiness}
use Rattle.ux_model.specs.Polling.{reported, reported_at, revents, some_ready, poll_many}
use Rattle.ux_model.specs.Step.{Step, outcome}
use Rattle.ux_model.proofs.Changes.Walk.{either}
use Rattle.ux_laws.specs.Polls.{IsSilent, PollsWaitWhile, IsToTell, closed, input, room, end, hung_up, has_failed, NoLostWakeup}

-- ---- what is reported of some

abbrev has_one : PollFlags → Bool
has_one f = not (f.0 == 0)

all_silent : (S : State) (p : ℕ) (fds : List PollFd) → some_ready (map (revents S p) fds) ≡ false → AllByRecursion (IsSilent S p) fds
all_silent S p [] h = tt
all_silent S p (asked ∷ fds) h =
    let neither = or_parts (has_one (revents S p asked)) (some_ready (map (revents S p) fds)) h in
    (eqb-true (revents S p asked).0 0 (is_so ((revents S p asked).0 == 0) neither.0), all_silent S p fds neither.1)
  where
    is_so : (b : Bool) → not b ≡ false → b ≡ true
    is_so true h = refl
    is_so false h = absurd (false≢true (sym h))

none_ready : (S : State) (p : ℕ) (fds : List PollFd) → AllByRecursion (IsSilent S p) fds → some_ready (map (revents S p) fds) ≡ false
none_ready S p [] all = refl
none_ready S p (asked ∷ fds) all =
    ap (λ (n : ℕ). not (n == 0) || some_ready (map (revents S p) fds)) all.0 ∙ none_ready S p fds all.1

silent_at : (S : State) (p i : ℕ) (fds : List PollFd) (asked : PollFd) → AllByRecursion (IsSilent S p) fds → slice_get fds i ≡ Some asked →
    IsSilent S p asked
silent_at S p i [] asked all is = absurd (cc is)
silent_at S p zero (first ∷ fds) asked all is =
    let same : first ≡ asked = cc is in subst (IsSilent S p) same all.0
silent_at S p (suc i) (first ∷ fds) asked all is = silent_at S p i fds asked all.1 is

-- ---- one poll

-- what a poll that found this answers
record Found (S : State) (p : ℕ) (fds : PollFds) (waits : Bool) (o : Outcome) : Type 0 where
  sparing : o.may_lack_memory ≡ false
  sound : o.failure ≡ None
  again : o.reply ≡ Reply.Err Errno.EAGAIN → some_ready (map (revents S p) fds) ≡ false
  silent : length fds ≤ poll_limit → waits ≡ true → some_ready (map (revents S p) fds) ≡ false → o.reply ≡ Reply.Err Errno.EAGAIN

poll_found : (S : State) (p : ℕ) (fds : PollFds) (waits : Bool) → Found S p fds waits (poll_many S p fds waits)
unfolding poll_many
poll_found S p fds waits = either Q (nat_lt poll_limit (length fds)) _ _
    (λ many. record {
      sparing = refl;
      sound = refl;
      again = λ h. absurd (cc h);
      silent = λ few w none. let more = ltb-true poll_limit (length fds) many in absurd (omega (arith, few, more));
    })
    (λ few. either Q (waits && not (some_ready (map (revents S p) fds))) _ _
    (λ b. record {
      sparing = refl;
      sound = refl;
      again = λ h. not_so (some_ready (map (revents S p) fds)) (and_parts waits (not (some_ready (map (revents S p) fds))) b).1;
      silent = λ f w none. refl;
    })
    (λ b. record {
      sparing = refl;
      sound = refl;
      again = λ h. absurd (cc h);
      silent = λ f w none.
          absurd (false≢true (sym b ∙ ap (λ (c : Bool). c && not (some_ready (map (revents S p) fds))) w ∙ ap (λ (c : Bool). not c) none));
    }))
  where
    Q : Outcome → Type 0
    Q = Found S p fds waits

    not_so : (b : Bool) → not b ≡ true → b ≡ false
    not_so true h = absurd (false≢true h)
    not_so false h = refl

-- the reply of a step is the outcome's own
replied : (S T : State) (o : Outcome) (reply : Reply) → o.may_lack_memory ≡ false → o.failure ≡ None → Chosen S o reply T → reply ≡ o.reply
replied S T o reply sparing sound (own e f) = e
replied S T o reply sparing sound (lacking_memory e may f) = absurd (cc (sparing, may))
replied S T o reply sparing sound (failing e f) = absurd (cc (sound, f))

step_replied : (S T : State) (p tag : ℕ) (fds : PollFds) (waits : Bool) (reply : Reply) (gone : List ℕ) →
    Step S p tag (Request.PollMany fds waits) reply gone T → reply ≡ (poll_many S p fds waits).reply
unfolding Step outcome
step_replied S T p tag fds waits reply gone s =
    let found = poll_found S p fds waits in replied S s.0 (poll_many S p fds waits) reply found.sparing found.sound s.1

-- ---- the laws

pub polls_wait_while : PollsWaitWhile
polls_wait_while S T p tag fds reply gone few s =
    let found = poll_found S p fds true in
    let is = step_replied S T p tag fds true reply gone s in
    (λ h. all_silent S p fds (found.again (sym is ∙ h)), λ all. is ∙ found.silent few refl (none_ready S p fds all))

-- ---- what is there to be told

parts : (a b c d e : ℕ) → a + (b + (c + (d + e))) ≡ 0 → (a ≡ 0) × (b ≡ 0) × (c ≡ 0) × (d ≡ 0) × (e ≡ 0)
parts a b c d e h = (omega (arith, h), omega (arith, h), omega (arith, h), omega (arith, h), omega (arith, h))

unset : (b : Bool) (n : ℕ) → (if b then suc n else 0) ≡ 0 → b ≡ false
unset true n h = absurd (cc h)
unset false n h = refl

-- no condition holds
record Quiet (c : Conditions) : Type 0 where
  no_input : c.readable ≡ false
  no_room : c.writable ≡ false
  no_end : c.read_hung ≡ false
  not_hung : c.hung ≡ false
  not_failed : c.failed ≡ false

quiet : (c : Conditions) → (poll_flags c).0 ≡ 0 → Quiet c
quiet c h =
    let each = parts (if c.readable then poll_in else 0) (if c.writable then poll_out else 0) (if c.read_hung then poll_rdhup else 0)
    (if c.hung then poll_hup else 0) (if c.failed then poll_err else 0) h in
    record {
      no_input = unset c.readable 0 each.0;
      no_room = unset c.writable 1 each.1;
      no_end = unset c.read_hung 3 each.2;
      not_hung = unset c.hung 7 each.3;
      not_failed = unset c.failed 15 each.4;
    }

found_at : (S : State) (p : ℕ) (asked : PollFd) (x : Descriptor) (D : Description) → find_description S p asked.fd ≡ Ok (x, D) →
    revents S p asked ≡ poll_flags (reported asked.events (readiness S x.description D))
found_at S p asked x D is = by_descriptor (descriptor_at S p asked.fd) is
  where
    wanted : PollFlags
    wanted = poll_flags (reported asked.events (readiness S x.description D))

    by_description : (e : Descriptor) (o : Option Description) →
        (elim o as (λ _. Result (Descriptor × Description) Errno) [ None ↦ Err Errno.EBADF | Some E ↦ Ok (e, E) ]) ≡ Ok (x, D) →
        (elim o as (λ _. PollFlags) [ None ↦ not_open | Some E ↦ poll_flags (reported asked.events (readiness S e.description E)) ]) ≡ wanted
    by_description e None h = absurd (cc h)
    by_description e (Some E) h =
        let pair : (e, E) ≡ (x, D) = cc h in
        let one : e ≡ x = ap (λ (r : Descriptor × Description). r.0) pair in
        let other : E ≡ D = ap (λ (r : Descriptor × Description). r.1) pair in
        ap (λ (y : Descriptor). poll_flags (reported asked.events (readiness S y.description E))) one
        ∙ ap (λ (F : Description). poll_flags (reported asked.events (readiness S x.description F))) other

    by_descriptor : (o : Option Descriptor) →
        (elim o as (λ _. Result (Descriptor × Description) Errno) [
          | None ↦ Err Errno.EBADF
          | Some e ↦ elim (description_at S e.description) as (λ _. Result (Descriptor × Description) Errno) [
            | None ↦ Err Errno.EBADF
            | Some E ↦ Ok (e, E)
          ]
        ]) ≡ Ok (x, D) →
        (elim o as (λ _. PollFlags) [ None ↦ not_open | Some e ↦ reported_at S e.description asked.events ]) ≡ wanted
    by_descriptor None h = absurd (cc h)
    by_descriptor (Some e) h = by_description e (description_at S e.description) h

-- so of what is silent nothing that is asked for holds
quiet_at : (S : State) (p : ℕ) (asked : PollFd) (x : Descriptor) (D : Description) → find_description S p asked.fd ≡ Ok (x, D) →
    IsSilent S p asked → Quiet (reported asked.events (readiness S x.description D))
quiet_at S p asked x D is silent = quiet _ (sym (ap (λ (f : PollFlags). f.0) (found_at S p asked x D is)) ∙ silent)

both : (a b : Bool) → a ≡ true → b ≡ true → (a && b) ≡ false → ⊥
both a b h k none = false≢true (sym none ∙ ap (λ (c : Bool). c && b) h ∙ k)

not_silent : (S : State) (p : ℕ) (asked : PollFd) → IsToTell S p asked → IsSilent S p asked → ⊥
not_silent S p asked (closed none) silent =
    let is : revents S p asked ≡ not_open = ap (λ (o : Option Descriptor). elim o as (λ _. PollFlags) [
      | None ↦ not_open
      | Some e ↦ reported_at S e.description asked.events
    ]) none in
    let zero_is : 32 ≡ 0 = sym (ap (λ (f : PollFlags). f.0) is) ∙ silent in
    absurd (cc zero_is)
not_silent S p asked (input x D is asks holds) silent =
    both (asks_input asked.events) (readiness S x.description D).readable asks holds (quiet_at S p asked x D is silent).no_input
not_silent S p asked (room x D is asks holds) silent =
    both (asks_room asked.events) (readiness S x.description D).writable asks holds (quiet_at S p asked x D is silent).no_room
not_silent S p asked (end x D is asks holds) silent =
    both (asks_end asked.events) (readiness S x.description D).read_hung asks holds (quiet_at S p asked x D is silent).no_end
not_silent S p asked (hung_up x D is holds) silent = false≢true (sym (quiet_at S p asked x D is silent).not_hung ∙ holds)
not_silent S p asked (has_failed x D is holds) silent = false≢true (sym (quiet_at S p asked x D is silent).not_failed ∙ holds)

pub no_lost_wakeup : NoLostWakeup
no_lost_wakeup S T p tag i fds waits asked reply gone at to_tell s h =
    let found = poll_found S p fds waits in
    let none = found.again (sym (step_replied S T p tag fds waits reply gone s) ∙ h) in
    not_silent S p asked to_tell (silent_at S p i fds asked (all_silent S p fds none) at)
