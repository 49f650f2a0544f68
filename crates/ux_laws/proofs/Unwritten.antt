-- A file that is never opened for writing stays as it was, and reads tell it.
use Rattle.std.proofs.Common.{◌<◌, length, arith, ◌≡◌, ◌≢◌, ℕ, zero, suc, ◌==◌, Bool, not, ◌&&◌, List, [], ◌++◌, take, drop, append_assoc}
use Rattle.std.proofs.Common.{min, Option, Some}
use Rattle.std.proofs.Common.{None, Result, Ok, refl, ap, sym, ◌∙◌, subst, slice_get}
use Rattle.std.proofs.lemmas.Bool.{false≢true}
use Rattle.std.proofs.lemmas.List.{take-append-drop}
use Rattle.ux_model.specs.Types.{Errno, Fd, Mode, Request, Reply, Entry, How}
use Rattle.ux_model.specs.Places.{place}
use Rattle.ux_model.specs.Limits.{read_limit}
use Rattle.ux_model.specs.Flags.{can_read, can_write}
use Rattle.ux_model.specs.Object.{Body, View, memory, counter, pipe, ObjectError, read_body, is_memory}
use Rattle.ux_model.specs.Description.{Description, to_object, to_socket}
use Rattle.ux_model.specs.Process.{Descriptor}
use Rattle.ux_model.specs.State.{State, description_at}
use Rattle.ux_model.specs.Outcome.{Outcome, Chosen, own, lacking_memory, failing, descriptor_at}
use Rattle.ux_model.specs.FileObjects.{holds_bytes}
use Rattle.ux_model.specs.Reading.{read, read_answer, is_short_read}
use Rattle.ux_model.specs.Step.{Step, outcome}
use Rattle.ux_model.specs.Giving.{how_of}
use Rattle.ux_model.specs.Names.{file, named}
use Rattle.ux_model.specs.History.{replay, IsLegal}
use Rattle.ux_model.specs.Pedigree.{before, delivered}
use Rattle.ux_model.proofs.Changes.Walk.{either, maybe, by_target, found}
use Rattle.ux_model.proofs.Lists.Fronts.{front_is_legal, in_front}
use Rattle.ux_model.proofs.Lists.Induction.{take_past}
use Rattle.ux_model.proofs.Lists.ChangedPlaces.{place_within}
use Rattle.ux_model.proofs.Invariants.Closed.{boot_long}
use Rattle.ux_model.proofs.Pedigrees.Moments.{moment}
use Rattle.ux_model.proofs.Pedigrees.Passing.{how_fork, own_number}
use Rattle.ux_laws.specs.Files.{BeginsWay, by_opening, by_making}
use Rattle.ux_laws.specs.Files.{body_in, body_at, object_behind, HasWay, IsNeverOpened, UnwrittenFilesStay, IsRunOf, ReadsTellTheFile}
use Rattle.ux_laws.specs.Files.{HoldOnlyWhatTheyMade}
use Rattle.ux_laws.proofs.Opened.{chain_begins, way_there}
use Rattle.ux_laws.proofs.Touching.Contents.{Touches, untouched, made_now, written, read_from}
use Rattle.ux_laws.proofs.Touching.Ends.{step_files}
use Rattle.ux_laws.proofs.NoWay.{LeadsToObject, behind_leads, all_theirs, not_made}

-- ---- what is in it

-- what is in it, as long as it is there
abbrev HasAlone : State → ℕ → List ℕ → Type 0
HasAlone S o bytes = (body : Body) → body_at S o ≡ Some body → body ≡ memory bytes

-- who has a way in a front of the history has one that begins with a call of the whole
no_way_in_front : (boot : State) (es : List Entry) (j : ℕ) (allows : Mode → Bool) (o p n : ℕ) → IsLegal boot es → o < length boot.objects →
    IsNeverOpened boot es allows o → HasWay boot (take j es) allows o p n → ⊥
no_way_in_front boot es j allows o p n legal known never way = by_first way.begins
  where
    by_first : BeginsWay boot (take j es) allows o way.first → ⊥
    by_first (by_opening opens) =
        let there = in_front es j way.first.entry opens.call opens.there in
        never way.first (record {
          call = opens.call;
          path = opens.path;
          mode = opens.mode;
          flags = opens.flags;
          there = there.0;
          asked = opens.asked;
          leads = subst (λ (l : List Entry). named opens.path (replay boot l).paths ≡ Some (file o)) there.1 opens.leads;
          allowed = opens.allowed;
        })
    by_first (by_making making) = not_made boot (take j es) allows o way.first (front_is_legal boot es j legal) known making

-- what has bytes at the start is a file object of the start
pub known_at_first : (S : State) (o : ℕ) (body : Body) → body_at S o ≡ Some body → o < length S.objects
known_at_first S o body h = go (place S.objects o) refl h
  where
    go : (x : Option View) → place S.objects o ≡ x → body_in x ≡ Some body → o < length S.objects
    go None is h = absurd (cc h)
    go (Some view) is h = place_within S.objects o view is

pub unwritten_files_stay : UnwrittenFilesStay
unwritten_files_stay boot es zero o bytes body legal at_first never now = let both : Some (memory bytes) ≡ Some body = sym at_first ∙ now in
    sym (cc both)
unwritten_files_stay boot es (suc j) o bytes body legal at_first never now =
    by_entry (slice_get es j) refl (λ old was. unwritten_files_stay boot es j o bytes old legal at_first never was)
  where
    by_touch : {U : State} (e : Entry) → HasAlone (before boot es j) o bytes → Touches (before boot es j) e.pid.0 e.request o U →
        body_at U o ≡ Some body → body ≡ memory bytes
    by_touch e so_far (untouched same) left = so_far body (sym same ∙ left)
    by_touch e so_far (made_now new) left =
        let long = boot_long boot es j legal in
        let known = known_at_first boot o (memory bytes) at_first in
        absurd (omega (arith, long, known, new))
    by_touch e so_far (written fd added d D asked g h t may) left =
        absurd (no_way_in_front boot es j can_write o e.pid.0 fd.0 legal (known_at_first boot o (memory bytes) at_first) never
        (way_there boot (take j es) can_write o e.pid.0 fd d D (front_is_legal boot es j legal) g h t may))
    by_touch e so_far (read_from fd n d D view asked g h t may there kind) left =
        absurd (false≢true (sym kind ∙ ap is_memory (so_far view.body (ap body_in there))))

    by_entry : (x : Option Entry) → slice_get es j ≡ x → HasAlone (before boot es j) o bytes → body ≡ memory bytes
    by_entry None none so_far = so_far body (subst (λ (l : List Entry). body_at (replay boot l) o ≡ Some body) (take_past es j none) now)
    by_entry (Some e) at so_far =
        let s = step_files (before boot es j) (before boot es (suc j)) e.pid.0 j e.request e.reply e.released
        (moment boot es j e legal at).steps in
        by_touch e so_far (s.1.bodies o) (s.2 o body now)

-- ---- what reads are answered

-- no bytes are a run of any
no_bytes : (whole : List ℕ) → IsRunOf [] whole
no_bytes whole = record { ahead = []; behind = whole; joined = refl }

-- so are some bytes from a place on
some_bytes : (n at : ℕ) (whole : List ℕ) → IsRunOf (take n (drop at whole)) whole
some_bytes n at whole = record {
  ahead = take at whole;
  behind = drop n (drop at whole);
  joined = sym (ap (λ (l : List ℕ). take at whole ++ l) (take-append-drop n (drop at whole)) ∙ take-append-drop at whole)
      ∙ sym (append_assoc (take at whole) (take n (drop at whole)) (drop n (drop at whole)));
}

-- what is answered to a read of a file with these bytes
abbrev Tells : State → ℕ → Fd → ℕ → List ℕ → Reply → Type 0
Tells S p fd o bytes reply = (given : List ℕ) → reply ≡ Reply.Bytes given → object_behind S p fd ≡ Some o → IsRunOf given bytes

read_tells : (S : State) (p : ℕ) (fd : Fd) (n o : ℕ) (bytes : List ℕ) → HasAlone S o bytes → Tells S p fd o bytes (read S p fd n).reply
unfolding read
read_tells S p fd n o bytes is = found Q S p fd _ (λ given h behind. absurd (cc h)) (λ e D g h. by_target Q D.target _ _
    (λ k t. maybe Q (place S.objects k) _ _ (λ given h behind. absurd (cc h))
    (λ view there. either Q (not (can_read D.mode)) _ _ (λ b given h behind. absurd (cc h))
    (λ b. either Q (is_short_read view.body (min read_limit n)) _ _ (λ c given h behind. absurd (cc h))
    (λ c. either Q (holds_bytes view.body && (min read_limit n == 0)) _ _ (λ z given h behind. none given h)
    (λ z. by_body k e D view g h t there view.body refl)))))
    (λ s t given reply behind.
    let l = behind_leads S p fd o behind in
    let clash : to_socket s ≡ to_object o = sym t ∙ same_target e D g h l in
    absurd (cc clash)))
  where
    Q : Outcome → Type 0
    Q x = Tells S p fd o bytes x.reply

    none : (given : List ℕ) → Reply.Bytes [] ≡ Reply.Bytes given → IsRunOf given bytes
    none given h = let same : [] ≡ given = cc h in subst (λ (l : List ℕ). IsRunOf l bytes) same (no_bytes bytes)

    same_target : (e : Descriptor) (D : Description) → descriptor_at S p fd ≡ Some e → description_at S e.description ≡ Some D →
        (l : LeadsToObject S p fd o) → D.target ≡ to_object o
    same_target e D g h l =
        let one : Some e ≡ Some l.entry = sym g ∙ l.held in
        let entry : e ≡ l.entry = cc one in
        let two : Some D ≡ Some l.description = sym h ∙ ap (λ (x : Descriptor). description_at S x.description) entry ∙ l.there in
        let description : D ≡ l.description = cc two in
        ap (λ (x : Description). x.target) description ∙ l.leads

    -- it is the file, since the number leads there
    the_file : (k : ℕ) (e : Descriptor) (D : Description) (view : View) → descriptor_at S p fd ≡ Some e →
        description_at S e.description ≡ Some D → D.target ≡ to_object k → place S.objects k ≡ Some view →
        object_behind S p fd ≡ Some o → view.body ≡ memory bytes
    the_file k e D view g h t there behind =
        let both : to_object k ≡ to_object o = sym t ∙ same_target e D g h (behind_leads S p fd o behind) in
        let same : k ≡ o = cc both in
        is view.body (ap (λ (i : ℕ). body_at S i) (sym same) ∙ ap body_in there)

    by_body : (k : ℕ) (e : Descriptor) (D : Description) (view : View) → descriptor_at S p fd ≡ Some e →
        description_at S e.description ≡ Some D → D.target ≡ to_object k → place S.objects k ≡ Some view →
        (body : Body) → view.body ≡ body → Q (read_answer S e.description D k view (read_body view.body D.offset (min read_limit n)))
    by_body k e D view g h t there (memory held) body_is = λ given reply behind.
        let both : memory held ≡ memory bytes = sym body_is ∙ the_file k e D view g h t there behind in
        let same : held ≡ bytes = cc both in
        let of_held : IsRunOf given held = from_memory e D view k held (read_body view.body D.offset (min read_limit n))
        (ap (λ (b : Body). read_body b D.offset (min read_limit n)) body_is) given reply in
        subst (IsRunOf given) same of_held
      where
        from_memory : (e : Descriptor) (D : Description) (view : View) (k : ℕ) (held : List ℕ) (r : Result (List ℕ × Body) ObjectError) →
            r ≡ Ok (take (min read_limit n) (drop D.offset held), memory held) →
            (given : List ℕ) → (read_answer S e.description D k view r).reply ≡ Reply.Bytes given → IsRunOf given held
        from_memory e D view k held r is given reply =
            let told : Reply.Bytes (take (min read_limit n) (drop D.offset held)) ≡ Reply.Bytes given =
            sym (ap (λ (x : Result (List ℕ × Body) ObjectError). (read_answer S e.description D k view x).reply) is) ∙ reply in
            let same : take (min read_limit n) (drop D.offset held) ≡ given = cc told in
            subst (λ (l : List ℕ). IsRunOf l held) same (some_bytes (min read_limit n) D.offset held)
    by_body k e D view g h t there (counter semaphore value) body_is = λ given reply behind.
        let clash : counter semaphore value ≡ memory bytes = sym body_is ∙ the_file k e D view g h t there behind in
        absurd (cc clash)
    by_body k e D view g h t there (pipe waiting) body_is = λ given reply behind.
        let clash : pipe waiting ≡ memory bytes = sym body_is ∙ the_file k e D view g h t there behind in
        absurd (cc clash)

step_tells : (S T : State) (p tag n o : ℕ) (fd : Fd) (bytes : List ℕ) (reply : Reply) (gone : List ℕ) → HasAlone S o bytes →
    Step S p tag (Request.Read fd n) reply gone T → Tells S p fd o bytes reply
unfolding Step outcome
step_tells S T p tag n o fd bytes reply gone is s = chosen reply s.1
  where
    chosen : (reply : Reply) → Chosen S (read S p fd n) reply s.0 → Tells S p fd o bytes reply
    chosen reply (own e f) = subst (Tells S p fd o bytes) (sym e) (read_tells S p fd n o bytes is)
    chosen reply (lacking_memory e may f) = λ given h behind. let clash : Reply.Err Errno.ENOMEM ≡ Reply.Bytes given = sym e ∙ h in
        absurd (cc clash)
    chosen reply (failing e f) = λ given h behind. let clash : Reply.Err Errno.EIO ≡ Reply.Bytes given = sym e ∙ h in absurd (cc clash)

pub reads_tell_the_file : ReadsTellTheFile
reads_tell_the_file boot es j o n e fd bytes given legal at_first never at request behind reply =
    let S : State = before boot es j in
    let T : State = before boot es (suc j) in
    let moved : Step S e.pid.0 j (Request.Read fd n) e.reply e.released T =
    subst (λ (r : Request). Step S e.pid.0 j r e.reply e.released T) request (moment boot es j e legal at).steps in
    let has : HasAlone S o bytes = λ body is. unwritten_files_stay boot es j o bytes body legal at_first never is in
    step_tells S T e.pid.0 j n o fd bytes e.reply e.released has moved given reply behind

-- ---- who was sent nothing

pub hold_only_what_they_made : HoldOnlyWhatTheyMade
hold_only_what_they_made boot es are chain p n legal were is ped =
    let b = chain_begins boot es chain ped.last ped.leads in
    let e : Entry = b.call in
    let of_first = all_theirs boot es are chain ped.last legal were ped.leads (ap are ped.process ∙ is) b in
    let way : how_of e.request (delivered (before boot es b.first.entry) e) ≡ Some How.Made = b.given.way ∙ ap Some b.made in
    let no_fork : e.request ≢ Request.Fork = λ fork.
    let clash : Some How.Forked ≡ Some How.Made = sym (how_fork e.request (delivered (before boot es b.first.entry) e) fork) ∙ way in
    cc clash in
    let mine = own_number boot es b.first.entry b.first.pid.0 b.first.fd.0 e b.given.gave no_fork in
    record {
      first = b.first;
      rest = b.rest;
      begins = b.is;
      call = e;
      there = b.given.there;
      made = b.made;
      caller = mine.0;
      theirs =
          ap are mine.0 ∙ of_first;
    }
