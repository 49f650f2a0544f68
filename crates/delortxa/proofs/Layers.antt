-- The callers that a layer begins with.
use Rattle.std.proofs.Common.{◌≡◌, ℕ, zero, suc, ◌<◌, ◌++◌, ◌∷◌, List, [], length, map, get_or, Option, Some, None, refl, ap, sym, subst}
use Rattle.std.proofs.Common.{◌∙◌, arith, ⊎_elim}
use Rattle.std.specs.Prelude.{Result, Ok, Err, IfOk, slice_get, option_map}
use Rattle.std.proofs.lemmas.Bool.{cases_lt}
use Rattle.std.proofs.lemmas.Option.{slice_get_within, get_or_from_slice_get, slice_get-map}
use Rattle.std.proofs.lemmas.List.{length-append, length-map, get_or_append_left}
use Rattle.std.proofs.Math.Seq.{get_or-append_seam}
use Rattle.ux_model.specs.Types.{Pid, Request, Reply, Entry}
use Rattle.ux_book.specs.Pasts.{Caller, fresh, calls_by, made}
use Rattle.ux_book.specs.Settling.{Exact}
use Rattle.delortxa.specs.Promising.{EachPromises, EachPromisesCalls, Ended, EachChildPromises, EndedAsChild, EachEnded, present}

fresh_long : (n : ℕ) → length (fresh n) ≡ n
fresh_long zero = refl
fresh_long (suc n) = let so_far = fresh_long n in
    let long = length-append (fresh n) (record { pid = record { 0 = suc n }; past = [] } ∷ []) in omega (arith, so_far, long)

-- one for each process
pub all_fresh : (n : ℕ) (cs : List Caller) → cs ≡ fresh n → length cs ≡ n
all_fresh n cs h = ap (λ (xs : List Caller). length xs) h ∙ fresh_long n

-- and no others
pub are_fresh : (n : ℕ) (cs : List Caller) → cs ≡ fresh n → cs ≡ fresh (length cs)
are_fresh n cs h = h ∙ ap fresh (sym (all_fresh n cs h))

abbrev first : ℕ → Caller
first i = record { pid = record { 0 = suc i }; past = [] }

-- by their numbers
fresh_at : (n i : ℕ) (d : Caller) → i < n → get_or (fresh n) i d ≡ first i
fresh_at zero i d lt = absurd (omega (arith, lt))
fresh_at (suc n) i d lt =
    let long = fresh_long n in
    ⊎_elim {C = get_or (fresh (suc n)) i d ≡ first i}
    (λ less. get_or_append_left (fresh n) (first n ∷ []) d i (omega (arith, long, less)) ∙ fresh_at n i d less)
    (λ more. let last : i ≡ n = omega (arith, more, lt) in
    ap (λ k. get_or (fresh n ++ first n ∷ []) k d) (last ∙ sym long) ∙ get_or-append_seam (fresh n) (first n) [] d ∙ ap first (sym last))
    (cases_lt i n)

caller_at : (cs : List Caller) (i : ℕ) (c : Caller) → cs ≡ fresh (length cs) → i < length cs → c ≡ get_or cs i c → c ≡ first i
caller_at cs i c are lt is = is ∙ ap (λ (xs : List Caller). get_or xs i c) are ∙ fresh_at (length cs) i c lt

-- none has made a call
pub past_at : (cs : List Caller) (i : ℕ) (c : Caller) → cs ≡ fresh (length cs) → i < length cs → c ≡ get_or cs i c → c.past ≡ []
past_at cs i c are lt is = ap (λ (x : Caller). x.past) (caller_at cs i c are lt is)

-- what each gave is promised of the process with its number
pub each_promises : {P T : Type 0} (promise : Pid → P → T → Type 0) (program : P) (cs : List Caller) (outputs : List T) →
    cs ≡ fresh (length cs) → length outputs ≡ length cs →
    ((i : ℕ) (d : T) → i < length cs → (c : Caller) × (c ≡ get_or cs i c) × promise c.pid program (get_or outputs i d)) →
    EachPromises promise program outputs
each_promises {P} {T} promise program cs outputs are long given i output at =
    let within = slice_get_within outputs i output at in
    let lt : i < length cs = omega (arith, within, long) in
    let kept = given i output lt in
    subst (λ (o : T). promise (record { 0 = suc i }) program o) (get_or_from_slice_get outputs i output output at)
    (subst (λ (c : Caller). promise c.pid program (get_or outputs i output)) (caller_at cs i kept.0 are lt kept.1) kept.2)

pub both_ok : {A E : Type 0} (r : Result A E) (p q s : A → Type 0) → ((a : A) → p a → q a → s a) → IfOk r p → IfOk r q → IfOk r s
both_ok (Ok a) p q s both x y = both a x y
both_ok (Err e) p q s both x y = tt

-- what a map gives at a place, it gives of what is there
taken : {A B : Type 0} (f : A → B) (xs : List A) (i : ℕ) (y : B) → slice_get (map f xs) i ≡ Some y →
    (x : A) × (slice_get xs i ≡ Some x) × (f x ≡ y)
taken {A} {B} f xs i y h = go (slice_get xs i) refl (sym (slice_get-map f xs i) ∙ h)
  where
    go : (o : Option A) → slice_get xs i ≡ o → option_map f o ≡ Some y → (x : A) × (slice_get xs i ≡ Some x) × (f x ≡ y)
    go None at is = absurd (cc is)
    go (Some x) at is = (x, at, cc is)

-- and a map has at a place what it gives of what is there
mapped : {A B : Type 0} (f : A → B) (xs : List A) (ys : List B) → ys ≡ map f xs → (i : ℕ) (x : A) → slice_get xs i ≡ Some x →
    slice_get ys i ≡ Some (f x)
mapped {A} {B} f xs ys are i x at = ap (λ (l : List B). slice_get l i) are ∙ slice_get-map f xs i ∙ ap (λ o. option_map f o) at

module _ {P T : Type 0} (promise : Pid → P → T → Caller → Type 0) (program : P) (ended : List (T × Caller)) (outputs : List T)
    (each : EachPromises (Ended promise) program ended) (firsts : outputs ≡ map (λ gone. gone.0) ended) where
  -- of processes that have ended, what each gave is as promised, and its calls are those of its spent seat
  pub calls_promised : (spents : List Caller) (entries : List Entry) → spents ≡ map (λ gone. gone.1) ended → Exact entries spents →
      EachPromisesCalls promise program outputs entries
  calls_promised spents entries seconds exact i output at =
      let t = taken (λ gone. gone.0) ended i output (ap (λ (l : List T). slice_get l i) (sym firsts) ∙ at) in
      let e = each i t.0 t.1 in (
        e.0,
        subst (λ o. promise (record { 0 = suc i }) program o e.0) t.2 e.1,
        subst (λ (x : Caller). calls_by x.pid.0 entries ≡ x.past) e.2
            (exact i t.0.1 (mapped (λ gone. gone.1) ended spents seconds i t.0 t.1)),
      )

module _ {P T C : Type 0} (promise : Pid → P → T → C → Caller → Type 0) (program : P) (ended : List ((Pid × C) × Caller))
    (children : List (Pid × C)) (each : EachEnded (EndedAsChild promise program) ended) (firsts : children ≡ map (λ gone. gone.0) ended)
  where
    -- so it is of children
    pub children_promised : (spents : List Caller) (entries : List Entry) → spents ≡ map (λ gone. gone.1) ended → Exact entries spents →
        EachChildPromises promise program children entries
    children_promised spents entries seconds exact i child at =
        let t = taken (λ gone. gone.0) ended i child (ap (λ (l : List (Pid × C)). slice_get l i) (sym firsts) ∙ at) in
        let e = each i t.0 t.1 in (
          e.0,
          e.1,
          subst (λ (x : Pid × C). promise x.0 program e.0 x.1 e.1) t.2 e.2,
          subst (λ (x : Caller). calls_by x.pid.0 entries ≡ x.past) e.3
              (exact i t.0.1 (mapped (λ gone. gone.1) ended spents seconds i t.0 t.1)),
        )

front_at : {A : Type 0} (xs ys : List A) (i : ℕ) (x : A) → slice_get xs i ≡ Some x → slice_get (xs ++ ys) i ≡ Some x
front_at [] ys i x at = absurd (cc at)
front_at (z ∷ xs) ys zero x at = at
front_at (z ∷ xs) ys (suc i) x at = front_at xs ys i x at

back_at : {A : Type 0} (xs ys : List A) (i : ℕ) (x : A) → slice_get ys i ≡ Some x → (k : ℕ) × (slice_get (xs ++ ys) k ≡ Some x)
back_at [] ys i x at = (i, at)
back_at (z ∷ xs) ys i x at = let b = back_at xs ys i x at in (suc b.0, b.1)

-- of two lists of callers together, each has exactly its calls
pub exact_front : (entries : List Entry) (cs ds : List Caller) → Exact entries (cs ++ ds) → Exact entries cs
exact_front entries cs ds exact i c at = exact i c (front_at cs ds i c at)

pub exact_back : (entries : List Entry) (cs ds : List Caller) → Exact entries (cs ++ ds) → Exact entries ds
exact_back entries cs ds exact i c at = let b = back_at cs ds i c at in exact b.0 c b.1

-- what is so of each that is there, is so of those that are there
pub each_present : {T : Type 0} (kept : T → Type 0) (options : List (Option T)) →
    ((i : ℕ) (x : T) → slice_get options i ≡ Some (Some x) → kept x) → EachEnded kept (present options)
each_present kept [] given i x at = absurd (cc at)
each_present kept (Some y ∷ options) given zero x at = given zero x (ap Some at)
each_present kept (Some y ∷ options) given (suc i) x at = each_present kept options (λ k z there. given (suc k) z there) i x at
each_present kept (None ∷ options) given i x at = each_present kept options (λ k z there. given (suc k) z there) i x at

-- one more that is there, and one that isn't
pub present_one_more : {T : Type 0} (options : List (Option T)) (x : T) → present (options ++ Some x ∷ []) ≡ present options ++ x ∷ []
present_one_more [] x = refl
present_one_more (Some y ∷ options) x = ap (λ l. y ∷ l) (present_one_more options x)
present_one_more (None ∷ options) x = present_one_more options x

pub present_no_more : {T : Type 0} (options : List (Option T)) → present (options ++ None ∷ []) ≡ present options
present_no_more [] = refl
present_no_more (Some y ∷ options) = ap (λ l. y ∷ l) (present_no_more options)
present_no_more (None ∷ options) = present_no_more options

-- each process has given something
pub all_outputs : {T : Type 0} (n : ℕ) (seats : List Caller) (ended : List (T × Caller)) (outputs : List T) → seats ≡ fresh n →
    length ended ≡ length seats →
    outputs ≡ map (λ gone. gone.0) ended → length outputs ≡ n
all_outputs {T} n seats ended outputs are long firsts = ap (λ (l : List T). length l) firsts
    ∙ length-map ended (λ (gone : T × Caller). gone.0) ∙ long ∙ all_fresh n seats are
