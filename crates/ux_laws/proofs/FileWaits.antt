-- A read or a write of a file object has to wait exactly where nothing is in it, or no room, and that may change.
use Rattle.std.proofs.Common.{◌≡◌, ◌≢◌, ℕ, suc, ◌-◌, ◌==◌, Bool, true, false, not, ◌&&◌, if◌then◌else◌, min, List, [], length, take, Some}
use Rattle.std.proofs.Common.{Result, Ok, Err, refl, ap, sym, ◌∙◌, subst, arith}
use Rattle.std.specs.Prelude.{IsTrue, nat_lt, nat_le}
use Rattle.std.proofs.lemmas.Bool.{eqb-true, ne_eqb, ltb-true, leb-true, false≢true, false_from_ne_true}
use Rattle.std.proofs.lemmas.List.{nil_from_length}
use Rattle.ux_model.specs.Types.{Errno, Fd, Request, Reply}
use Rattle.ux_model.specs.Places.{place}
use Rattle.ux_model.specs.Limits.{read_limit, file_limit}
use Rattle.ux_model.specs.Flags.{can_read, can_write}
use Rattle.ux_model.specs.Object.{Body, View, memory, counter, pipe, ObjectError, would_block, full, invalid, counter_len, read_body, write_body}
use Rattle.ux_model.specs.Object.{is_would_block, lacks_room, is_pipe, overwritten, write_memory}
use Rattle.ux_model.specs.Description.{Description, to_object}
use Rattle.ux_model.specs.Process.{Descriptor}
use Rattle.ux_model.specs.State.{State}
use Rattle.ux_model.specs.FileObjects.{holds_bytes, is_open_for, or_failing}
use Rattle.ux_model.specs.Outcome.{Outcome, Chosen, own, lacking_memory, failing, refuse, answer, find_description}
use Rattle.ux_model.specs.Reading.{read, read_object, read_answer, is_short_read}
use Rattle.ux_model.specs.Writing.{write, write_object, write_answer, write_place}
use Rattle.ux_model.specs.Step.{Step, outcome}
use Rattle.ux_model.specs.Pedigree.{before}
use Rattle.ux_model.proofs.Changes.Walk.{either}
use Rattle.ux_model.proofs.Pedigrees.Moments.{moment}
use Rattle.ux_laws.specs.FileWaits.{IsDry, of_pipe, of_counter, asks_some, FileReadsWaitWhile, IsCrowded, FileWritesWaitWhile}
use Rattle.ux_laws.proofs.Telling.{chosen_refusal}
use Rattle.ux_laws.proofs.WaitEnds.{chosen_again}
use Rattle.ux_laws.proofs.Writes.{view_there, write_is}
use Rattle.ux_laws.proofs.FileReads.{read_is}

-- ---- reads

-- a choice of three by two tests, by what it came to
second_of : {X Y : Type 0} (a b : Bool) (x y z r : Result X Y) → (x ≡ r → ⊥) → (z ≡ r → ⊥) → (if a then x else if b then y else z) ≡ r →
    b ≡ true
second_of true b x y z r wrong other h = absurd (wrong h)
second_of false true x y z r wrong other h = refl
second_of false false x y z r wrong other h = absurd (other h)

read_dry : (S : State) (o at m : ℕ) (body : Body) → read_body body at m ≡ Err would_block →
    (is_pipe body && not (is_open_for can_write S o)) ≡ false → IsDry S o body
read_dry S o at m (memory bytes) h b = absurd (cc h)
read_dry S o at m (counter semaphore value) h b =
    let none : value ≡ 0 = eqb-true value 0 (second_of (nat_lt m counter_len) (value == 0) _ _ _ (Err would_block)
    (λ k. cc k) (λ k. cc k) h) in
    of_counter semaphore (ap (λ i. counter semaphore i) none)
read_dry S o at m (pipe bytes) h b =
    let none : length bytes ≡ 0 = eqb-true (length bytes) 0 (second_of (m == 0) (length bytes == 0) _ _ _ (Err would_block)
    (λ k. cc k) (λ k. cc k) h) in
    of_pipe (ap (λ l. pipe l) (nil_from_length bytes none)) (of_not (is_open_for can_write S o) b)
  where
    of_not : (c : Bool) → not c ≡ false → c ≡ true
    of_not true k = refl
    of_not false k = absurd (false≢true (sym k))

object_dry : (S : State) (d o m : ℕ) (D : Description) (view : View) → (read_object S d D o view m).reply ≡ Reply.Err Errno.EAGAIN →
    IsDry S o view.body
object_dry S d o m D view = either Q (not (can_read D.mode)) _ _ (λ b h. absurd (cc h))
    (λ b. either Q (is_short_read view.body m) _ _ (λ c h. absurd (cc h))
    (λ c. either Q (holds_bytes view.body && (m == 0)) _ _ (λ f h. absurd (cc h)) (λ f. by_result (read_body view.body D.offset m) refl)))
  where
    Q : Outcome → Type 0
    Q x = x.reply ≡ Reply.Err Errno.EAGAIN → IsDry S o view.body

    by_result : (r : Result (List ℕ × Body) ObjectError) → read_body view.body D.offset m ≡ r → Q (read_answer S d D o view r)
    by_result (Ok made) is h = absurd (cc h)
    by_result (Err would_block) is h = either Q (is_pipe view.body && not (is_open_for can_write S o)) _ _ (λ b k. absurd (cc k))
        (λ b k. read_dry S o D.offset m view.body is b) h
    by_result (Err full) is h = absurd (cc h)
    by_result (Err invalid) is h = absurd (cc h)

-- how a read of a dry object goes
record Dries (S : State) (o at m : ℕ) (body : Body) : Type 0 where
  pub long : is_short_read body m ≡ false
  pub some : (holds_bytes body && (m == 0)) ≡ false
  pub blocks : read_body body at m ≡ Err would_block
  pub opened : (is_pipe body && not (is_open_for can_write S o)) ≡ false

dries : (S : State) (o at n : ℕ) (body : Body) → IsDry S o body → asks_some body n ≡ true → Dries S o at (min read_limit n) body
dries S o at n body (of_pipe is kept) = subst (λ b. asks_some b n ≡ true → Dries S o at (min read_limit n) b) (sym is)
    (λ h.
    let more = ltb-true 0 n h in
    let some : (min read_limit n == 0) ≡ false = ne_eqb (min read_limit n) 0 (λ z. omega (arith, z, more)) in
    record {
      long = refl;
      some = some;
      blocks = ap (λ b. let r : Result (List ℕ × Body) ObjectError = if b then Ok ([], pipe []) else Err would_block in r) some;
      opened = ap not kept;
    })
dries S o at n body (of_counter semaphore is) = subst (λ b. asks_some b n ≡ true → Dries S o at (min read_limit n) b) (sym is)
    (λ h.
    let more = leb-true counter_len n h in
    let long : nat_lt (min read_limit n) counter_len ≡ false = false_from_ne_true (nat_lt (min read_limit n) counter_len)
    (λ k. let few = ltb-true (min read_limit n) counter_len k in omega (arith, few, more)) in
    record {
      long = long;
      some = refl;
      blocks = ap (λ b. let r : Result (List ℕ × Body) ObjectError = if b then Err invalid else Err would_block in r) long;
      opened = refl;
    })

object_dry_again : (S : State) (d o m : ℕ) (D : Description) (view : View) → can_read D.mode ≡ true → Dries S o D.offset m view.body →
    read_object S d D o view m ≡ refuse S Errno.EAGAIN
object_dry_again S d o m D view can r =
    ap (λ b. if not b then refuse S Errno.EBADF else if is_short_read view.body m then refuse S Errno.EINVAL else
    if holds_bytes view.body && (m == 0) then answer (Reply.Bytes []) S else found) can
    ∙ ap (λ b. if b then refuse S Errno.EINVAL else
    if holds_bytes view.body && (m == 0) then answer (Reply.Bytes []) S else found) r.long
    ∙ ap (λ b. if b then answer (Reply.Bytes []) S else found) r.some
    ∙ ap (read_answer S d D o view) r.blocks
    ∙ ap (λ b. if b then answer (Reply.Bytes []) S else refuse S Errno.EAGAIN) r.opened
  where
    found : Outcome
    found = read_answer S d D o view (read_body view.body D.offset m)

step_dry : (S T : State) (p tag o n : ℕ) (fd : Fd) (x : Descriptor) (D : Description) (view : View) (reply : Reply) (gone : List ℕ) →
    find_description S p fd ≡ Ok (x, D) → D.target ≡ to_object o → place S.objects o ≡ Some view →
    Step S p tag (Request.Read fd n) reply gone T →
    (reply ≡ Reply.Err Errno.EAGAIN → IsDry S o view.body)
    × (can_read D.mode ≡ true → asks_some view.body n ≡ true → IsDry S o view.body → reply ≡ Reply.Err Errno.EAGAIN)
unfolding Step outcome
step_dry S T p tag o n fd x D view reply gone found leads there step =
    let is = read_is S p o n fd x D view found leads there in (
      λ h. object_dry S x.description o (min read_limit n) D view
          (sym (ap (λ (w : Outcome). w.reply) is) ∙ chosen_again S step.0 (read S p fd n) reply step.1 h),
      λ can asks dry. chosen_refusal S step.0 (read S p fd n) Errno.EAGAIN reply
          (is ∙ object_dry_again S x.description o (min read_limit n) D view can (dries S o D.offset n view.body dry asks)) step.1,
    )

pub file_reads_wait_while : FileReadsWaitWhile
file_reads_wait_while boot es j n o e x D body legal r can asks =
    let S : State = before boot es j in
    let v = view_there S o body r.holds in
    let w = step_dry S (before boot es (suc j)) e.pid.0 j o n r.fd x D v.0 e.reply e.released r.through r.leads v.1
    (subst (λ (q : Request). Step S e.pid.0 j q e.reply e.released (before boot es (suc j))) r.asked
    (moment boot es j e legal r.call).steps) in (
      λ h. subst (IsDry S o) v.2 (w.0 h),
      λ dry. w.1 can (ap (λ b. asks_some b n) v.2 ∙ asks) (subst (IsDry S o) (sym v.2) dry),
    )

-- ---- writes

abbrev blocks : Result (ℕ × Body) ObjectError → Bool
blocks r = elim r as (λ _. Bool) [ Ok made ↦ false | Err error ↦ is_would_block error ]

would : (r : Result (ℕ × Body) ObjectError) → blocks r ≡ true → r ≡ Err would_block
would (Ok made) h = absurd (false≢true h)
would (Err would_block) h = refl
would (Err full) h = absurd (false≢true h)
would (Err invalid) h = absurd (false≢true h)

-- a memory file takes bytes, or is at its greatest size
memory_takes : (held : List ℕ) (at : ℕ) (bytes : List ℕ) → blocks (write_memory held at bytes) ≡ false
memory_takes held at bytes = by_tests (length bytes == 0) (nat_le file_limit at)
    (min (length bytes) (file_limit - at), memory (overwritten held at (take (file_limit - at) bytes)))
  where
    by_tests : (a b : Bool) (y : ℕ × Body) → blocks (if a then Ok (0, memory held) else if b then Err full else Ok y) ≡ false
    by_tests true b y = refl
    by_tests false true y = refl
    by_tests false false y = refl

-- the place counts in a memory file alone
at_any_place : (body : Body) (at : ℕ) (bytes : List ℕ) → lacks_room body bytes ≡ blocks (write_body body at bytes)
at_any_place (memory held) at bytes = memory_takes held 0 bytes ∙ sym (memory_takes held at bytes)
at_any_place (counter semaphore value) at bytes = refl
at_any_place (pipe held) at bytes = refl

object_crowded : (S : State) (d o : ℕ) (D : Description) (view : View) (bytes : List ℕ) →
    (write_object S d D o view bytes).reply ≡ Reply.Err Errno.EAGAIN → IsCrowded S o view.body bytes
object_crowded S d o D view bytes = either Q (not (can_write D.mode)) _ _ (λ b h. absurd (cc h))
    (λ b. either Q (holds_bytes view.body && (length bytes == 0)) _ _ (λ c h. absurd (cc h))
    (λ c. either Q (is_pipe view.body && not (is_open_for can_read S o)) _ _ (λ f h. absurd (cc h))
    (λ f. by_result f (write_body view.body (write_place D view) bytes) refl)))
  where
    Q : Outcome → Type 0
    Q x = x.reply ≡ Reply.Err Errno.EAGAIN → IsCrowded S o view.body bytes

    reader_of : (a b : Bool) → (a && not b) ≡ false → a ≡ true → b ≡ true
    reader_of true true h k = refl
    reader_of true false h k = absurd (false≢true (sym h))
    reader_of false b h k = absurd (false≢true k)

    by_result : (is_pipe view.body && not (is_open_for can_read S o)) ≡ false → (r : Result (ℕ × Body) ObjectError) →
        write_body view.body (write_place D view) bytes ≡ r → Q (or_failing S o view (write_answer S d D o view r))
    by_result f (Ok made) is h = absurd (cc h)
    by_result f (Err would_block) is h = record {
      full = at_any_place view.body (write_place D view) bytes ∙ ap blocks is;
      reader = reader_of (is_pipe view.body) (is_open_for can_read S o) f;
    }
    by_result f (Err full) is h = absurd (cc h)
    by_result f (Err invalid) is h = absurd (cc h)

-- where none is offered nothing blocks
offers_some : (body : Body) (bytes : List ℕ) → lacks_room body bytes ≡ true → (holds_bytes body && (length bytes == 0)) ≡ false
offers_some (memory held) bytes h = absurd (false≢true (sym (memory_takes held 0 bytes) ∙ h))
offers_some (counter semaphore value) bytes h = refl
offers_some (pipe held) bytes h = at_test (length bytes == 0) _ h
  where
    at_test : (a : Bool) (r : Result (ℕ × Body) ObjectError) → blocks (if a then Ok (0, pipe held) else r) ≡ true → a ≡ false
    at_test true r h = absurd (false≢true h)
    at_test false r h = refl

object_crowded_again : (S : State) (d o : ℕ) (D : Description) (view : View) (bytes : List ℕ) → can_write D.mode ≡ true →
    IsCrowded S o view.body bytes → write_object S d D o view bytes ≡ or_failing S o view (refuse S Errno.EAGAIN)
object_crowded_again S d o D view bytes can c =
    ap (λ b. if not b then refuse S Errno.EBADF else if holds_bytes view.body && (length bytes == 0) then answer (Reply.Count 0) S else
    if is_pipe view.body && not (is_open_for can_read S o) then refuse S Errno.EPIPE else put) can
    ∙ ap (λ b. if b then answer (Reply.Count 0) S else
    if is_pipe view.body && not (is_open_for can_read S o) then refuse S Errno.EPIPE else put) (offers_some view.body bytes c.full)
    ∙ ap (λ b. if b then refuse S Errno.EPIPE else put) (still_read (is_pipe view.body) c.reader)
    ∙ ap (λ r. or_failing S o view (write_answer S d D o view r))
    (would (write_body view.body (write_place D view) bytes) (sym (at_any_place view.body (write_place D view) bytes) ∙ c.full))
  where
    put : Outcome
    put = or_failing S o view (write_answer S d D o view (write_body view.body (write_place D view) bytes))

    still_read : (a : Bool) → (a ≡ true → is_open_for can_read S o ≡ true) → (a && not (is_open_for can_read S o)) ≡ false
    still_read true h = ap not (h refl)
    still_read false h = refl

chosen_crowded : (S T : State) (o : ℕ) (view : View) (w : Outcome) (reply : Reply) → w ≡ or_failing S o view (refuse S Errno.EAGAIN) →
    Chosen S w reply T → reply ≢ Reply.Err Errno.EIO → reply ≡ Reply.Err Errno.EAGAIN
chosen_crowded S T o view w reply is (own r f) fine = r ∙ ap (λ (x : Outcome). x.reply) is
chosen_crowded S T o view w reply is (lacking_memory r may f) fine = let no : IsTrue false =
    subst IsTrue (ap (λ (x : Outcome). x.may_lack_memory) is) may in absurd (cc no)
chosen_crowded S T o view w reply is (failing r f) fine = absurd (fine r)

step_crowded : (S T : State) (p tag o : ℕ) (fd : Fd) (bytes : List ℕ) (x : Descriptor) (D : Description) (view : View) (reply : Reply)
    (gone : List ℕ) → find_description S p fd ≡ Ok (x, D) → D.target ≡ to_object o → place S.objects o ≡ Some view →
    Step S p tag (Request.Write fd bytes) reply gone T →
    (reply ≡ Reply.Err Errno.EAGAIN → IsCrowded S o view.body bytes)
    × (can_write D.mode ≡ true → reply ≢ Reply.Err Errno.EIO → IsCrowded S o view.body bytes → reply ≡ Reply.Err Errno.EAGAIN)
unfolding Step outcome
step_crowded S T p tag o fd bytes x D view reply gone found leads there step =
    let is = write_is S p tag o fd bytes x D view found leads there in (
      λ h. object_crowded S x.description o D view bytes
          (sym (ap (λ (w : Outcome). w.reply) is) ∙ chosen_again S step.0 (write S p tag fd bytes) reply step.1 h),
      λ can fine c. chosen_crowded S step.0 o view (write S p tag fd bytes) reply
          (is ∙ object_crowded_again S x.description o D view bytes can c) step.1 fine,
    )

pub file_writes_wait_while : FileWritesWaitWhile
file_writes_wait_while boot es j o e fd bytes x D body legal at request found leads holds can fine =
    let S : State = before boot es j in
    let v = view_there S o body holds in
    let w = step_crowded S (before boot es (suc j)) e.pid.0 j o fd bytes x D v.0 e.reply e.released found leads v.1
    (subst (λ (q : Request). Step S e.pid.0 j q e.reply e.released (before boot es (suc j))) request (moment boot es j e legal at).steps) in (
      λ h. subst (λ b. IsCrowded S o b bytes) v.2 (w.0 h),
      λ c. w.1 can fine (subst (λ b. IsCrowded S o b bytes) (sym v.2) c),
    )
