-- What a read of a file object gives, and that it tells no false end.
use Rattle.std.proofs.Common.{◌≡◌, ℕ, zero, suc, ◌+◌, ◌-◌, ◌<◌, ◌≤◌, ◌==◌, Bool, true, false, not, ◌&&◌, if◌then◌else◌, min}
use Rattle.std.proofs.Common.{List, [], ◌∷◌, length, take, drop, Option, Some, None, Result, Ok, Err, refl, ap, sym, ◌∙◌, subst, arith}
use Rattle.std.specs.Int.{w64, to_le_bytes}
use Rattle.std.specs.Prelude.{nat_lt}
use Rattle.std.proofs.lemmas.Bool.{eqb-true, eqb-false, false≢true, and_parts, not-true}
use Rattle.std.proofs.lemmas.List.{nil_from_length}
use Rattle.ux_model.specs.Types.{Errno, Fd, Request, Reply, Entry}
use Rattle.ux_model.specs.Places.{place}
use Rattle.ux_model.specs.Limits.{read_limit}
use Rattle.ux_model.specs.Flags.{can_read, can_write}
use Rattle.ux_model.specs.Object.{Body, View, memory, counter, pipe, ObjectError, would_block, full, invalid, read_counter, read_pipe}
use Rattle.ux_model.specs.Object.{read_body, is_memory, is_pipe, taken_of, counter_len, with_body}
use Rattle.ux_model.specs.Description.{Description, Target, to_object, to_socket}
use Rattle.ux_model.specs.Process.{Descriptor}
use Rattle.ux_model.specs.State.{State, description_at}
use Rattle.ux_model.specs.Outcome.{Outcome, Chosen, own, lacking_memory, failing, refuse, find_description}
use Rattle.ux_model.specs.FileObjects.{holds_bytes, is_open_for, on_object}
use Rattle.ux_model.specs.Receiving.{read_socket}
use Rattle.ux_model.specs.Reading.{read, read_object, read_answer, after_read, offset_after_read, is_short_read}
use Rattle.ux_model.specs.Release.{settled}
use Rattle.ux_model.specs.Step.{Step, outcome}
use Rattle.ux_model.specs.History.{IsLegal}
use Rattle.ux_model.specs.Pedigree.{before}
use Rattle.ux_model.proofs.Changes.Walk.{either}
use Rattle.ux_model.proofs.Pedigrees.Moments.{moment}
use Rattle.ux_laws.specs.Files.{body_in, body_at}
use Rattle.ux_laws.specs.FileReads.{IsReadOf, IsReadAt, ReadsGiveTheFile, IsTakenOff, ReadsTakeOffThePipe, IsFileOver, of_memory, of_pipe}
use Rattle.ux_laws.specs.FileReads.{FileReadsEndTruly}
use Rattle.ux_laws.proofs.LeftAlone.{Lost, settled_lost}
use Rattle.ux_laws.proofs.Touching.Ends.{settled_body}
use Rattle.ux_laws.proofs.Writes.{put_there, found_there, view_there, offset_left}

-- ---- one read

-- what a read that is answered these bytes found and left
data Gave (S : State) (d o : ℕ) (D : Description) (view : View) (n : ℕ) (bytes : List ℕ) (next : State) : Type 0 where
  none_asked : n ≡ 0 → bytes ≡ [] → next ≡ S → Gave S d o D view n bytes next
  at_end : is_pipe view.body ≡ true → read_body view.body D.offset n ≡ Err would_block → is_open_for can_write S o ≡ false → bytes ≡ [] →
      next ≡ S → Gave S d o D view n bytes next
  found : (left : Body) → read_body view.body D.offset n ≡ Ok (bytes, left) → next ≡ after_read S d D o view (bytes, left) →
      Gave S d o D view n bytes next

object_gave : (S : State) (d o : ℕ) (D : Description) (view : View) (n : ℕ) (bytes : List ℕ) →
    (read_object S d D o view n).reply ≡ Reply.Bytes bytes → Gave S d o D view n bytes (read_object S d D o view n).next
object_gave S d o D view n bytes = either Q (not (can_read D.mode)) _ _ (λ b h. absurd (cc h))
    (λ b. either Q (is_short_read view.body n) _ _ (λ c h. absurd (cc h))
    (λ c. either Q (holds_bytes view.body && (n == 0)) _ _
    (λ f h.
    let none : [] ≡ bytes = cc h in
    none_asked (eqb-true n 0 (and_parts (holds_bytes view.body) (n == 0) f).1) (sym none) refl)
    (λ f. by_result (read_body view.body D.offset n) refl)))
  where
    Q : Outcome → Type 0
    Q x = x.reply ≡ Reply.Bytes bytes → Gave S d o D view n bytes x.next

    by_result : (r : Result (List ℕ × Body) ObjectError) → read_body view.body D.offset n ≡ r → Q (read_answer S d D o view r)
    by_result (Ok made) is h =
        let same : made.0 ≡ bytes = cc h in
        found made.1 (is ∙ ap (λ (l : List ℕ). let r : Result (List ℕ × Body) ObjectError = Ok (l, made.1) in r) same)
        (ap (λ (l : List ℕ). after_read S d D o view (l, made.1)) same)
    by_result (Err would_block) is h = either Q (is_pipe view.body && not (is_open_for can_write S o)) _ _
        (λ b told.
        let both = and_parts (is_pipe view.body) (not (is_open_for can_write S o)) b in
        let none : [] ≡ bytes = cc told in
        at_end both.0 is (not-true (is_open_for can_write S o) both.1) (sym none) refl)
        (λ b told. absurd (cc told)) h
    by_result (Err full) is h = absurd (cc h)
    by_result (Err invalid) is h = absurd (cc h)

-- through a number that leads to the file object
pub read_is : (S : State) (p o n : ℕ) (fd : Fd) (x : Descriptor) (D : Description) (view : View) → find_description S p fd ≡ Ok (x, D) →
    D.target ≡ to_object o → place S.objects o ≡ Some view → read S p fd n ≡ read_object S x.description D o view (min read_limit n)
unfolding read
read_is S p o n fd x D view found_is leads there =
    ap (λ (r : Result (Descriptor × Description) Errno). elim r as
    (λ _. Outcome) [ Err f ↦ refuse S f | Ok w ↦ by_kind w.0 w.1 w.1.target ]) found_is
    ∙ ap (λ (t : Target). by_kind x D t) leads
    ∙ ap (λ (v : Option View). elim v as
    (λ _. Outcome) [ None ↦ refuse S Errno.EBADF | Some w ↦ read_object S x.description D o w (min read_limit n) ])
    there
  where
    by_kind : Descriptor → Description → Target → Outcome
    by_kind f E t = elim t as (λ _. Outcome) [
      | to_object k ↦ on_object S k (λ w. read_object S f.description E k w (min read_limit n))
      | to_socket s ↦ read_socket S p f.description s (min read_limit n)
    ]

-- what a call in a history gave, and the state before anything goes at its end
record Given (boot : State) (es : List Entry) (j n : ℕ) (x : Descriptor) (D : Description) (o : ℕ) (body : Body) (bytes : List ℕ) : Type 0
  where
    pub view : View
    pub there : place (before boot es j).objects o ≡ Some view
    pub is : view.body ≡ body
    pub here : description_at (before boot es j) x.description ≡ Some D
    pub left : State
    pub gave : Gave (before boot es j) x.description o D view (min read_limit n) bytes left
    pub ended : before boot es (suc j) ≡ settled left

step_gave : (S T : State) (p tag o n : ℕ) (fd : Fd) (x : Descriptor) (D : Description) (view : View) (reply : Reply) (gone bytes : List ℕ) →
    find_description S p fd ≡ Ok (x, D) → D.target ≡ to_object o → place S.objects o ≡ Some view →
    Step S p tag (Request.Read fd n) reply gone T → reply ≡ Reply.Bytes bytes →
    (U : State) × Gave S x.description o D view (min read_limit n) bytes U × (T ≡ settled U)
unfolding Step outcome
step_gave S T p tag o n fd x D view reply gone bytes found_is leads there step told = (step.0, by_choice step.1, step.3)
  where
    by_choice : Chosen S (read S p fd n) reply step.0 → Gave S x.description o D view (min read_limit n) bytes step.0
    by_choice (own e f) =
        let is = read_is S p o n fd x D view found_is leads there in
        subst (Gave S x.description o D view (min read_limit n) bytes) (sym (f ∙ ap (λ (w : Outcome). w.next) is))
        (object_gave S x.description o D view (min read_limit n) bytes (sym (ap (λ (w : Outcome). w.reply) is) ∙ sym e ∙ told))
    by_choice (lacking_memory e may f) = let clash : Reply.Err Errno.ENOMEM ≡ Reply.Bytes bytes = sym e ∙ told in absurd (cc clash)
    by_choice (failing e f) = let clash : Reply.Err Errno.EIO ≡ Reply.Bytes bytes = sym e ∙ told in absurd (cc clash)

given : (boot : State) (es : List Entry) (j n o : ℕ) (e : Entry) (x : Descriptor) (D : Description) (body : Body) (bytes : List ℕ) →
    IsLegal boot es → IsReadOf boot es j e n x D o body → e.reply ≡ Reply.Bytes bytes → Given boot es j n x D o body bytes
given boot es j n o e x D body bytes legal r told =
    let S : State = before boot es j in
    let v = view_there S o body r.holds in
    let w = step_gave S (before boot es (suc j)) e.pid.0 j o n r.fd x D v.0 e.reply e.released bytes r.through r.leads v.1
    (subst (λ (q : Request). Step S e.pid.0 j q e.reply e.released (before boot es (suc j))) r.asked
    (moment boot es j e legal r.call).steps) told in
    record {
      view = v.0;
      there = v.1;
      is = v.2;
      here = (found_there S e.pid.0 r.fd x D r.through).there;
      left = w.0;
      gave = w.1;
      ended = w.2;
    }

-- ---- memory files

pub reads_give_the_file : ReadsGiveTheFile
reads_give_the_file boot es j n o e x D held bytes legal r told =
    let g = given boot es j n o e x D (memory held) bytes legal r told in
    by_gift g (subst (λ (V : State). Lost g.left V x.description) (sym g.ended) (settled_lost g.left x.description)) g.gave
  where
    S : State
    S = before boot es j

    T : State
    T = before boot es (suc j)

    m : ℕ
    m = min read_limit n

    -- the offset before anything goes
    moved_by : (U : State) (k : ℕ) → Lost U T x.description → ((F : Description) → description_at U x.description ≡ Some F → F.offset ≡ k) →
        (E : Description) → description_at T x.description ≡ Some E → E.offset ≡ k
    moved_by U k goes is E h = let f = offset_left U T x.description E goes h in f.2 ∙ is f.0 f.1

    by_gift : (g : Given boot es j n x D o (memory held) bytes) → Lost g.left T x.description →
        Gave S x.description o D g.view m bytes g.left → IsReadAt T x.description D held m bytes
    by_gift g goes (none_asked zero_asked none stays) =
        let long : ◌≡◌ {A = ℕ} (length bytes) 0 = ap (λ (l : List ℕ). length l) none in
        record {
          given = none ∙ sym (ap (λ (k : ℕ). take k (drop D.offset held)) zero_asked ∙ none_of (drop D.offset held));
          moved = moved_by g.left (D.offset + length bytes) goes (λ F h.
              let both : Some F ≡ Some D = sym h ∙ ap (λ (V : State). description_at V x.description) stays ∙ g.here in
              let one : F ≡ D = cc both in
              let same = ap (λ (w : Description). w.offset) one in
              omega (arith, same, long));
        }
      where
        none_of : (l : List ℕ) → take 0 l ≡ []
        none_of l = refl
    by_gift g goes (at_end pipes blocks nobody none stays) = absurd (false≢true (sym (ap is_pipe g.is) ∙ pipes))
    by_gift g goes (found left is stays) =
        let same : ◌≡◌ {A = Result (List ℕ × Body) ObjectError} (Ok (take m (drop D.offset held), memory held)) (Ok (bytes, left)) =
        sym (ap (λ (b : Body). read_body b D.offset m) g.is) ∙ is in
        let both : (take m (drop D.offset held), memory held) ≡ (bytes, left) = cc same in
        let bytes_are : take m (drop D.offset held) ≡ bytes = ap (λ (w : List ℕ × Body). w.0) both in
        record {
          given = sym bytes_are;
          moved = moved_by g.left (D.offset + length bytes) goes (λ F h.
              let after : Some F ≡ Some (record D { offset = offset_after_read D g.view bytes }) = sym h
              ∙ ap (λ (V : State). description_at V x.description) stays
              ∙ put_there S.descriptions x.description D (record D { offset = offset_after_read D g.view bytes }) g.here in
              let one : F ≡ record D { offset = offset_after_read D g.view bytes } = cc after in
              ap (λ (w : Description). w.offset) one
              ∙ ap (λ (b : Body). if is_memory b then D.offset + length bytes else D.offset) g.is);
        }

-- ---- pipes

-- what a pipe gives, by whether none are asked for, and whether none are there
abbrev piped : List ℕ → ℕ → Bool → Bool → Result (List ℕ × Body) ObjectError
piped held n b c = if b then Ok ([], pipe held) else if c then Err would_block else Ok (take n held, pipe (drop n held))

pipe_gives : (held : List ℕ) (n : ℕ) (bytes : List ℕ) (left : Body) → read_pipe held n ≡ Ok (bytes, left) →
    (bytes ≡ take n held) × (left ≡ pipe (drop n held))
pipe_gives held n bytes left h = go (n == 0) (length held == 0) refl h
  where
    parts : (w : List ℕ × Body) → w ≡ (bytes, left) → (bytes ≡ w.0) × (left ≡ w.1)
    parts w is = (sym (ap (λ (v : List ℕ × Body). v.0) is), sym (ap (λ (v : List ℕ × Body). v.1) is))

    go : (b c : Bool) → (n == 0) ≡ b →
        piped held n b c ≡ Ok (bytes, left) → (bytes ≡ take n held) × (left ≡ pipe (drop n held))
    go true c is h =
        let w = parts ([], pipe held) (cc h) in
        let none : n ≡ 0 = eqb-true n 0 is in
        (w.0 ∙ sym (ap (λ (k : ℕ). take k held) none), w.1 ∙ sym (ap (λ (k : ℕ). pipe (drop k held)) none))
    go false true is h = absurd (cc h)
    go false false is h = parts (take n held, pipe (drop n held)) (cc h)

-- one that would block has nothing
pipe_blocks : (held : List ℕ) (n : ℕ) → read_pipe held n ≡ Err would_block → held ≡ []
pipe_blocks held n h = go (n == 0) (length held == 0) refl h
  where
    go : (b c : Bool) → (length held == 0) ≡ c → piped held n b c ≡ Err would_block → held ≡ []
    go true c is h = absurd (cc h)
    go false true is h = nil_from_length held (eqb-true (length held) 0 is)
    go false false is h = absurd (cc h)

take_of_none : (n : ℕ) (l : List ℕ) → l ≡ [] → take n l ≡ []
take_of_none zero l h = refl
take_of_none (suc n) [] h = refl
take_of_none (suc n) (x ∷ l) h = absurd (cc h)

drop_of_none : (n : ℕ) (l : List ℕ) → l ≡ [] → drop n l ≡ l
drop_of_none zero l h = refl
drop_of_none (suc n) [] h = refl
drop_of_none (suc n) (x ∷ l) h = absurd (cc h)

pub reads_take_off_the_pipe : ReadsTakeOffThePipe
reads_take_off_the_pipe boot es j n o e x D held bytes legal r told =
    let g = given boot es j n o e x D (pipe held) bytes legal r told in
    by_gift g g.gave
  where
    S : State
    S = before boot es j

    T : State
    T = before boot es (suc j)

    m : ℕ
    m = min read_limit n

    -- what is there before anything goes
    left_by : (U : State) (body was : Body) → T ≡ settled U → body_at U o ≡ Some was → body_at T o ≡ Some body → body ≡ was
    left_by U body was ended is h =
        let both : Some body ≡ Some was = sym (settled_body U o body (ap (λ (V : State). body_at V o) (sym ended) ∙ h)) ∙ is in
        cc both

    by_gift : (g : Given boot es j n x D o (pipe held) bytes) → Gave S x.description o D g.view m bytes g.left → IsTakenOff T o held m bytes
    by_gift g (none_asked zero_asked none stays) = record {
      given = none ∙ sym (ap (λ (k : ℕ). take k held) zero_asked);
      left = λ body h. left_by g.left body (pipe held) g.ended (ap (λ (V : State). body_at V o) stays ∙ r.holds) h
          ∙ sym (ap (λ (k : ℕ). pipe (drop k held)) zero_asked);
    }
    by_gift g (at_end pipes blocks nobody none stays) =
        let empty : held ≡ [] = pipe_blocks held m (sym (ap (λ (b : Body). read_body b D.offset m) g.is) ∙ blocks) in
        record {
          given = none ∙ sym (take_of_none m held empty);
          left = λ body h. left_by g.left body (pipe held) g.ended (ap (λ (V : State). body_at V o) stays ∙ r.holds) h
              ∙ ap (λ (l : List ℕ). pipe l) (sym (drop_of_none m held empty));
        }
    by_gift g (found left is stays) =
        let w = pipe_gives held m bytes left (sym (ap (λ (b : Body). read_body b D.offset m) g.is) ∙ is) in
        record {
          given = w.0;
          left = λ body h. left_by g.left body left g.ended (ap (λ (V : State). body_at V o) stays
              ∙ ap body_in (put_there S.objects o g.view (with_body g.view left) g.there)) h ∙ w.1;
        }

-- ---- the end

none_at : (n at : ℕ) (held : List ℕ) → 0 < n → take n (drop at held) ≡ [] → length held ≤ at
none_at zero at held some h = absurd (omega (arith, some))
none_at (suc n) at [] some h = omega arith
none_at (suc n) zero (b ∷ held) some h = absurd (cc h)
none_at (suc n) (suc at) (b ∷ held) some h = let rest : length held ≤ at = none_at (suc n) at held (omega arith) h in omega (arith, rest)

none_of_some : (n : ℕ) (held : List ℕ) → 0 < n → [] ≡ take n held → held ≡ []
none_of_some zero held some h = absurd (omega (arith, some))
none_of_some (suc n) [] some h = refl
none_of_some (suc n) (b ∷ held) some h = absurd (cc h)

-- a counter gives eight bytes
counter_gives : (semaphore : Bool) (value n : ℕ) (left : Body) → read_counter semaphore value n ≡ Ok ([], left) → ⊥
counter_gives semaphore value n left h = by_room (nat_lt n counter_len) h
  where
    rest : Bool → Result (List ℕ × Body) ObjectError
    rest b = if b then Err would_block else
        Ok (to_le_bytes w64 (taken_of semaphore value), counter semaphore (value - taken_of semaphore value))

    eight : (w : List ℕ × Body) → length w.0 ≡ 8 → w ≡ ([], left) → ⊥
    eight w long is =
        let none : ◌≡◌ {A = ℕ} (length w.0) 0 = ap (λ (v : List ℕ × Body). length v.0) is in
        omega (arith, long, none)

    by_value : (b : Bool) → rest b ≡ Ok ([], left) → ⊥
    by_value true h = cc h
    by_value false h =
        eight (to_le_bytes w64 (taken_of semaphore value), counter semaphore (value - taken_of semaphore value)) refl (cc h)

    by_room : (b : Bool) → (if b then Err invalid else rest (value == 0)) ≡ Ok ([], left) → ⊥
    by_room true h = cc h
    by_room false h = by_value (value == 0) h

pub file_reads_end_truly : FileReadsEndTruly
file_reads_end_truly boot es j n o e x D body legal r some told =
    let g = given boot es j n o e x D body [] legal r told in
    by_gift g g.gave
  where
    S : State
    S = before boot es j

    m : ℕ
    m = min read_limit n

    more : 0 < m
    more = omega (arith, some)

    by_body : (b : Body) → body ≡ b → (left : Body) → read_body b D.offset m ≡ Ok ([], left) → IsFileOver S D o body
    by_body (memory held) is left h =
        let both : (take m (drop D.offset held), memory held) ≡ ([], left) = cc h in
        of_memory held is (none_at m D.offset held more (ap (λ (w : List ℕ × Body). w.0) both))
    by_body (counter semaphore value) is left h = absurd (counter_gives semaphore value m left h)
    by_body (pipe held) is left h =
        let empty = none_of_some m held more (pipe_gives held m [] left h).0 in
        absurd (blocks held m more empty h)
      where
        blocks : (l : List ℕ) (k : ℕ) → 0 < k → l ≡ [] → read_pipe l k ≡ Ok ([], left) → ⊥
        blocks l k some none h =
            go (k == 0) (length l == 0) refl refl h
          where
            go : (b c : Bool) → (k == 0) ≡ b → (length l == 0) ≡ c → piped l k b c ≡ Ok ([], left) → ⊥
            go true c is also h = let z = eqb-true k 0 is in omega (arith, some, z)
            go false true is also h = cc h
            go false false is also h = eqb-false (length l) 0 also (ap (λ (xs : List ℕ). length xs) none)

    of_blocked : (b : Body) → body ≡ b → is_pipe b ≡ true → read_body b D.offset m ≡ Err would_block → is_open_for can_write S o ≡ false →
        IsFileOver S D o body
    of_blocked (memory held) is pipes h nobody = absurd (false≢true pipes)
    of_blocked (counter semaphore value) is pipes h nobody = absurd (false≢true pipes)
    of_blocked (pipe held) is pipes h nobody = of_pipe (is ∙ ap (λ (l : List ℕ). pipe l) (pipe_blocks held m h)) nobody

    by_gift : (g : Given boot es j n x D o body []) → Gave S x.description o D g.view m [] g.left → IsFileOver S D o body
    by_gift g (none_asked zero_asked none stays) = absurd (omega (arith, more, zero_asked))
    by_gift g (at_end pipes blocks nobody none stays) = of_blocked g.view.body (sym g.is) pipes blocks nobody
    by_gift g (found left is stays) = by_body g.view.body (sym g.is) left is
