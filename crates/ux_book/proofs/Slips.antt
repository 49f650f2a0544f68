-- What a call leaves in its book, its share and its receipt.
use Rattle.std.proofs.Common.{◌≡◌, ℕ, ◌<◌, ◌≤◌, ◌==◌, ◌&&◌, not, List, [], ◌∷◌, ◌++◌, length, map, Bool, true, false, Some, refl, ap, sym}
use Rattle.std.proofs.Common.{◌∙◌, subst}
use Rattle.std.specs.Prelude.{nat_lt, nat_le, if◌then◌else◌, Option}
use Rattle.std.specs.List.{slice_get, AllByRecursion}
use Rattle.std.proofs.lemmas.Bool.{false≢true, eq-eqb, and_from, le-leb}
use Rattle.std.proofs.lemmas.List.{take_at}
use Rattle.ux_model.specs.Types.{Request, Reply, Entry}
use Rattle.ux_model.specs.Object.{View}
use Rattle.ux_model.specs.State.{State, is_live}
use Rattle.ux_model.specs.Waiting.{may_wait, is_again, should_wait}
use Rattle.ux_model.specs.HandingOut.{IsHandedOut}
use Rattle.ux_model.specs.History.{calls_of, is_off, has_live, is_allowed, has_exited, replay, IsLegal}
use Rattle.ux_model.proofs.Lists.Appending.{legal_push}
use Rattle.ux_model.proofs.Processes.Living.{lives_until_exit}
use Rattle.ux_model.proofs.Processes.Numbering.{numbered_from_one, no_call_before_made}
use Rattle.ux_book.specs.declared.call.Call.{Call}
use Rattle.ux_book.specs.Pasts.{Caller, call_of, calls_by, has_exit, made, IsOf}
use Rattle.ux_book.specs.Books.{KeptHistory, state_of, may_call, entry_of, call_by, Adds}
use Rattle.ux_book.specs.Receipts.{IsSlip}
use Rattle.ux_book.specs.Recording.{IsCall}
use Rattle.ux_book.proofs.Pasts.{calls_more, calls_none, length_calls, exit_calls}

get_at : {A : Type 0} (xs : List A) (x : A) → slice_get (xs ++ x ∷ []) (length xs) ≡ Some x
get_at [] x = refl
get_at (y ∷ xs) x = get_at xs x

-- who was made, and has no exit among its calls, lives
pub lives : (boot : State) (es : List Entry) (p : ℕ) → IsLegal boot es → 0 < p → p ≤ length (replay boot es).processes →
    has_exit (calls_by p es) ≡ false → is_live (replay boot es) p ≡ true
lives boot es p legal positive inside none =
    let there : (nat_lt 0 p && nat_le p (length (replay boot es).processes)) ≡ true =
    and_from (nat_lt 0 p) _ (le-leb 1 p positive) (le-leb p (length (replay boot es).processes) inside) in
    lives_until_exit boot es p legal
    ∙ ap (λ (b : Bool). b && not (has_exited p es)) (numbered_from_one boot es p legal ∙ there)
    ∙ ap not (sym (exit_calls p es) ∙ none)

-- who wasn't made yet has made no call
pub nothing_yet : (boot : State) (es : List Entry) (p : ℕ) → IsLegal boot es → length (replay boot es).processes < p → calls_by p es ≡ []
nothing_yet boot es p legal past = calls_none p es (no_call_before_made boot es p legal past)

-- a live process that knows its calls may make any call but the layer's end
pub may_now : (book : KeptHistory) (c : Caller) (k : ℕ) (request : Request) → is_live (state_of book) c.pid.0 ≡ true →
    c.past ≡ calls_by c.pid.0 book.entries → k ≡ length c.past → is_off request ≡ false →
    may_call book c.pid.0 k request ≡ true
may_now book c k request live past count other =
    and_from (is_allowed (state_of book) c.pid.0 k request) (calls_of c.pid.0 book.entries == k)
    (allowed (is_off request) other)
    (eq-eqb (calls_of c.pid.0 book.entries) k (sym (count ∙ ap length past ∙ length_calls c.pid.0 book.entries)))
  where
    allowed : (b : Bool) → b ≡ false → (if b then (c.pid.0 == 0) && ((k == 0) && not (has_live (state_of book)))
        else is_live (state_of book) c.pid.0) ≡ true
    allowed true h = absurd (false≢true (sym h))
    allowed false h = live

-- so, through a share that was compared with the book
pub may_call_now : (old now : KeptHistory) (before known : Caller) (k : ℕ) (request : Request) →
    is_live (state_of old) before.pid.0 ≡ true → before.past ≡ calls_by before.pid.0 old.entries → now ≡ old → known ≡ before →
    k ≡ length known.past →
    is_off request ≡ false → may_call now known.pid.0 k request ≡ true
may_call_now old now before known k request live past same same_caller count other =
    ap (λ (b : KeptHistory). may_call b known.pid.0 k request) same
    ∙ ap (λ (x : Caller). may_call old x.pid.0 k request) same_caller
    ∙ may_now old before k request live past (count ∙ ap (λ (x : Caller). length x.past) same_caller) other

-- a call of a caller that knew its process's calls
pub call_made : (boot : State) (old now new : KeptHistory) (before known after : Caller) (k : ℕ) (request : Request) (reply : Reply)
    (released : List (ℕ × Option View)) → now ≡ old → known ≡ before →
    old.boot ≡ boot → IsLegal old.boot old.entries → before.past ≡ calls_by before.pid.0 old.entries → k ≡ length known.past →
    Adds now new (entry_of (state_of now) known.pid k request reply (map (λ o. o.0) released)) → after ≡ made known request reply →
    AllByRecursion (IsHandedOut (state_of now)) released → IsCall boot old new before after request reply released
call_made boot old now new before known after k request reply released same same_caller begins legal knew count adds more handed_out =
    let e : Entry = call_by old before request reply (map (λ o. o.0) released) in
    let entry : Adds old new e =
    subst (λ (b : KeptHistory). Adds b new (call_by b before request reply (map (λ o. o.0) released))) same
    (subst (λ (x : Caller). Adds now new (call_by now x request reply (map (λ o. o.0) released))) same_caller
    (subst (λ (n : ℕ). Adds now new (entry_of (state_of now) known.pid n request reply (map (λ o. o.0) released))) count adds)) in
    let share : after ≡ made before request reply = more ∙ ap (λ (x : Caller). made x request reply) same_caller in
    record {
      past = knew;
      entry = entry;
      share = share;
      is_of = subst (IsOf boot) (sym share) (record {
        entries = old.entries ++ e ∷ [];
        legal = subst (λ (S : State). IsLegal S (old.entries ++ e ∷ [])) begins (legal_push old.boot old.entries e legal entry.next);
        exactly = calls_more before.pid.0 old.entries e refl ∙ ap (λ (l : List Call). l ++ call_of e ∷ []) (sym knew);
      });
      handed_out = subst (λ (b : KeptHistory). AllByRecursion (IsHandedOut (state_of b)) released) same handed_out;
    }

both_no : (w m a : Bool) → w ≡ m → (w ≡ true → a ≡ false) → (m && a) ≡ false
both_no w true a same not_again = not_again same
both_no w false a same not_again = refl

-- a call that looked whether it may wait isn't one that should have waited
pub not_yet : (S : State) (p : ℕ) (request : Request) (reply : Reply) (waits tried : Bool) → (tried ≡ true → waits ≡ may_wait S p request) →
    (waits ≡ true → is_again reply ≡ false) → tried ≡ true → should_wait S p request reply ≡ false
not_yet S p request reply waits tried looked done t = both_no waits (may_wait S p request) (is_again reply) (looked t) done

-- the receipt of an entry that was just made
pub slip : {boot : State} {old new : KeptHistory} (e : Entry) (tried : Bool) → old.boot ≡ boot → IsLegal old.boot old.entries →
    Adds old new e → (tried ≡ true → should_wait (state_of old) e.pid.0 e.request e.reply ≡ false) →
    IsSlip boot (record { number = length old.entries; entry = e; tried = tried })
slip {boot} {old} {new} e tried begins legal adds done =
    record {
      entries = old.entries ++ e ∷ [];
      legal = subst (λ (S : State). IsLegal S (old.entries ++ e ∷ [])) begins (legal_push old.boot old.entries e legal adds.next);
      stands = get_at old.entries e;
      done = λ t. (λ i. should_wait (replay (sym begins i) (take_at old.entries (e ∷ []) (length old.entries) refl i)) e.pid.0 e.request
          e.reply) ∙ done t;
    }
