-- What a process reads that has written a file.
use Rattle.std.proofs.Common.{◌≡◌, ℕ, suc, Bool, true, false, List, [], ◌∷◌, ◌++◌, length, refl, ap, sym, ◌∙◌, subst, arith}
use Rattle.std.specs.Prelude.{codes, pos, Result, Ok, Err, IfOk}
use Rattle.std.proofs.lemmas.List.{length-append}
use Rattle.ux_model.specs.Types.{Pid, Fd, Mode, Whence, OpenFlags, Errno, Request, Reply}
use Rattle.ux_model.specs.State.{State}
use Rattle.ux_model.specs.Release.{without, drop_rounds, drop_unreferenced, released_objects, settled}
use Rattle.ux_model.specs.Outcome.{Outcome, Chosen, own, lacking_memory, failing}
use Rattle.ux_model.specs.Step.{Step, outcome, lacks_memory, fails}
use Rattle.ux_model.specs.History.{replay}
use Rattle.ux_model.specs.References.{refs, orefs}
use Rattle.ux_model.specs.Opening.{open_file}
use Rattle.ux_model.specs.Reading.{read}
use Rattle.ux_model.specs.Writing.{write}
use Rattle.ux_model.specs.Seeking.{lseek}
use Rattle.ux_book.specs.Books.{KeptHistory, state_of, entry_of, Adds}
use Rattle.ux_book.specs.Sitting.{Answers}
use Rattle.library_examples.specs.Greeting.{hello_boot}

-- `unfolding computing` opens what these calls' outcomes and their release are made of
unfoldable computing : Unit {0}
unfolding refs orefs without drop_rounds drop_unreferenced released_objects settled open_file read write lseek outcome
computing = tt

-- the reply is what the definitions say, unless it reports that memory lacks or that a file object fails
plain : (S T : State) (o : Outcome) (reply : Reply) → lacks_memory reply ≡ false → fails reply ≡ false → Chosen S o reply T →
    (reply ≡ o.reply) × (T ≡ o.next)
plain S T o reply m f (own e g) = (e, g)
plain S T o reply m f (lacking_memory e may g) = absurd (cc (sym m ∙ ap lacks_memory e))
plain S T o reply m f (failing e g) = absurd (cc (sym f ∙ ap fails e))

-- a session's next call, from this state and with this number
record Next (S : State) (n : ℕ) (p : ℕ) (request : Request) (reply : Reply) (new : KeptHistory) : Type 0 where
  is_said : reply ≡ (outcome S p n request).reply
  leads : state_of new ≡ settled (outcome S p n request).next
  number : length new.entries ≡ suc n

next : (S : State) (n : ℕ) (old new : KeptHistory) (pid : Pid) (request : Request) (reply : Reply) → state_of old ≡ S →
    length old.entries ≡ n → lacks_memory reply ≡ false → fails reply ≡ false →
    Answers old new pid request reply → Next S n pid.0 request reply new
unfolding Step
next S n old new pid request reply here count m f a =
    let s = a.adds.next.steps in
    let e = entry_of (state_of old) pid a.k request reply a.released in
    let said = plain (state_of old) s.0 (outcome (state_of old) pid.0 (length old.entries) request) reply m f s.1 in
    let at = ap (λ (R : State). outcome R pid.0 (length old.entries) request) here ∙ ap (λ k. outcome S pid.0 k request) count in
    record {
      is_said = said.0 ∙ ap (λ (o : Outcome). o.reply) at;
      leads = ap state_of a.adds.appended ∙ s.3 ∙ ap settled said.1 ∙ ap (λ (o : Outcome). settled o.next) at;
      number = ap (λ (h : KeptHistory). length h.entries) a.adds.appended ∙ length-append old.entries (e ∷ []) ∙ (omega (arith, count));
    }

abbrev process_1 : Pid
process_1 = record { 0 = 1 }

abbrev open_notes : Request
open_notes = Request.Open (codes "notes") Mode.Both (record { 0 = 0 })

abbrev write_hello : Fd → Request
write_hello fd = Request.Write fd (codes "hello")

abbrev to_start : Fd → Request
to_start fd = Request.Lseek fd (pos 0) Whence.Set

abbrev fd_0 : Fd
fd_0 = record { 0 = 0 }

-- the states between
abbrev opened : State
opened = settled (outcome hello_boot 1 0 open_notes).next

abbrev written : State
written = settled (outcome opened 1 1 (write_hello fd_0)).next

abbrev at_start : State
at_start = settled (outcome written 1 2 (to_start fd_0)).next

first_number : (outcome hello_boot 1 0 open_notes).reply ≡ Reply.Fd fd_0
unfolding computing
first_number = refl

what_is_read : (outcome at_start 1 3 (Request.Read fd_0 64)).reply ≡ Reply.Bytes (codes "hello")
unfolding computing
what_is_read = refl

-- what it reads, where it is answered, is what it wrote
pub reads_hello : {E : Type 0} (boot : State) (s0 s1 s2 s3 s4 : KeptHistory) (n : Fd) (taken at : ℕ) (r : Result (List ℕ) E) →
    boot ≡ hello_boot →
    s0 ≡ record { boot = boot; entries = [] } → Answers s0 s1 process_1 open_notes (Reply.Fd n) →
    Answers s1 s2 process_1 (write_hello n) (Reply.Count taken) → Answers s2 s3 process_1 (to_start n) (Reply.At at) →
    IfOk r (λ bytes. Answers s3 s4 process_1 (Request.Read n 64) (Reply.Bytes bytes)) → IfOk r (λ bytes. bytes ≡ codes "hello")
reads_hello boot s0 s1 s2 s3 s4 n taken at (Err e) is starts opens writes seeks reads = tt
reads_hello boot s0 s1 s2 s3 s4 n taken at (Ok bytes) is starts opens writes seeks reads =
    let a = next hello_boot 0 s0 s1 process_1 open_notes (Reply.Fd n) (ap state_of starts ∙ is)
    (ap (λ (h : KeptHistory). length h.entries) starts) refl refl opens in
    let both : Reply.Fd n ≡ Reply.Fd fd_0 = a.is_said ∙ first_number in
    let first : n ≡ fd_0 = cc both in
    let b = next opened 1 s1 s2 process_1 (write_hello fd_0) (Reply.Count taken) a.leads a.number refl refl
    (subst (λ m. Answers s1 s2 process_1 (write_hello m) (Reply.Count taken)) first writes) in
    let c = next written 2 s2 s3 process_1 (to_start fd_0) (Reply.At at) b.leads b.number refl refl
    (subst (λ m. Answers s2 s3 process_1 (to_start m) (Reply.At at)) first seeks) in
    let d = next at_start 3 s3 s4 process_1 (Request.Read fd_0 64) (Reply.Bytes bytes) c.leads c.number refl refl
    (subst (λ m. Answers s3 s4 process_1 (Request.Read m 64) (Reply.Bytes bytes)) first reads) in
    let told : Reply.Bytes bytes ≡ Reply.Bytes (codes "hello") = d.is_said ∙ what_is_read in
    cc told
