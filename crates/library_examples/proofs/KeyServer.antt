-- The processes of a key server keep apart.
use Rattle.std.proofs.Common.{◌≡◌, ◌⊎◌, ℕ, zero, suc, ◌==◌, ◌<◌, ◌≤◌, Bool, true, false, ◌&&◌, if◌then◌else◌, List, [], ◌∷◌, ◌++◌, length}
use Rattle.std.proofs.Common.{Option, Some, None, refl, ap, sym, ◌∙◌, subst, arith, slice_get}
use Rattle.std.specs.Prelude.{codes}
use Rattle.std.specs.List.{list_all}
use Rattle.std.proofs.lemmas.Bool.{eq-eqb, and_parts}
use Rattle.std.proofs.lemmas.List.Folds.{list_all-append}
use Rattle.ux_types.specs.declared.limits.ObjectLimit.{ObjectLimit}
use Rattle.ux_model.specs.Types.{Pid, Errno, Request, Reply, Entry}
use Rattle.ux_model.specs.State.{State}
use Rattle.ux_model.specs.History.{IsLegal}
use Rattle.ux_model.proofs.Lists.ByPlace.{get_within}
use Rattle.ux_laws.specs.Beginning.{IsOfTheStart}
use Rattle.ux_laws.specs.Separation.{IsSeparated}
use Rattle.ux_laws.proofs.Apart.{kept_files_are_separated}
use Rattle.ux_book.specs.Pasts.{Caller, call_of, calls_by, made}
use Rattle.ux_book.specs.declared.call.Call.{Call}
use Rattle.delortxa.specs.Promising.{EachPromisesCalls}
use Rattle.ux_model.specs.Boot.{boot_state}
use Rattle.ux_object.specs.declared.ObjKind.{ObjKind}
use Rattle.delortxa.specs.Boots.{Plan, with_object, with_process}
use Rattle.library_examples.specs.KeyServer.{user, key_boot, leaves, Keeps}

-- what is so of all calls of a process is so of each of its entries
of_each : (f : Call → Bool) (p : ℕ) (es : List Entry) (j : ℕ) (e : Entry) → list_all f (calls_by p es) ≡ true → slice_get es j ≡ Some e →
    e.pid.0 ≡ p → f (call_of e) ≡ true
of_each f p [] j e all at own = absurd (cc at)
of_each f p (x ∷ es) zero e all at own =
    let same : x ≡ e = cc at in
    let is = eq-eqb x.pid.0 p (ap (λ (y : Entry). y.pid.0) same ∙ own) in
    subst (λ (y : Entry). f (call_of y) ≡ true) same (and_parts (f (call_of x)) (list_all f (calls_by p es))
    (subst (λ (b : Bool). list_all f (if b then call_of x ∷ calls_by p es else calls_by p es) ≡ true) is all)).0
of_each f p (x ∷ es) (suc j) e all at own = of_each f p es j e (others (x.pid.0 == p) all) at own
  where
    others : (b : Bool) → list_all f (if b then call_of x ∷ calls_by p es else calls_by p es) ≡ true → list_all f (calls_by p es) ≡ true
    others true h = (and_parts (f (call_of x)) (list_all f (calls_by p es)) h).1
    others false h = h

-- each process has kept to it
abbrev EachKeeps : {T : Type 0} → List T → List Entry → Type 0
EachKeeps outputs es = EachPromisesCalls {P = Unit {0}} (λ pid _ _ caller. Keeps pid caller) (tt {0}) outputs es

-- so the secret is kept apart
separated : {T : Type 0} (outputs : List T) (es : List Entry) → IsLegal key_boot es → length outputs ≡ 3 → EachKeeps outputs es →
    IsSeparated key_boot es 1 0 (codes "hunter2")
separated {T} outputs es legal long each =
    kept_files_are_separated key_boot es (codes "secret") 1 0 (codes "hunter2") legal refl refl theirs
  where
    -- the process at this place
    of_place : (i j : ℕ) (e : Entry) → e.pid.0 ≡ suc i → i < length outputs → slice_get es j ≡ Some e → leaves e.pid.0 e.request ≡ true
    of_place i j e is lt at =
        let output = get_within outputs i lt in
        let c = each i output.0 output.1 in
        let all : list_all (λ (call : Call). leaves (suc i) call.request) (calls_by (suc i) es) ≡ true =
        ap (list_all (λ (call : Call). leaves (suc i) call.request)) (sym (ap (λ (p : Pid). calls_by p.0 es) c.1.0) ∙ c.2)
        ∙ list_all-append (λ (call : Call). leaves (suc i) call.request) c.0.past (record { request = Request.Exit; reply = Reply.Ok } ∷ [])
        ∙ ap (λ b. b && true) c.1.1 in
        subst (λ p. leaves p e.request ≡ true) (sym is) (of_each (λ (call : Call). leaves (suc i) call.request) (suc i) es j e all at is)

    by_number : (p j : ℕ) (e : Entry) → e.pid.0 ≡ p → 1 ≤ p → p ≤ 3 → slice_get es j ≡ Some e → leaves e.pid.0 e.request ≡ true
    by_number zero j e is low high at = absurd (omega (arith, low))
    by_number (suc i) j e is low high at = of_place i j e is (omega (arith, high, long)) at

    theirs : (j : ℕ) (e : Entry) → slice_get es j ≡ Some e → IsOfTheStart key_boot e.pid.0 → leaves e.pid.0 e.request ≡ true
    theirs j e at of_start = by_number e.pid.0 j e refl of_start.0 of_start.1 at

-- what the boot puts together is where it begins
pub begins : (kernel : State) (b0 b1 b2 b3 b4 : Plan) →
    b0 ≡ record { objects = []; failures = []; most = ObjectLimit.Usual; processes = [] } →
    b1 ≡ with_object b0 (codes "secret") ObjKind.Memory (codes "hunter2") 0 → b2 ≡ with_process b1 (user 0) →
    b3 ≡ with_process b2 (user 1000) →
    b4 ≡ with_process b3 (user 2000) → kernel ≡ boot_state b4.objects b4.processes → kernel ≡ key_boot
begins kernel b0 b1 b2 b3 b4 none secret monitor worker client is =
    let all = client ∙ ap (λ (b : Plan). with_process b (user 2000)) (worker ∙ ap (λ (b : Plan). with_process b (user 1000))
    (monitor ∙ ap (λ (b : Plan). with_process b (user 0))
    (secret ∙ ap (λ (b : Plan). with_object b (codes "secret") ObjKind.Memory (codes "hunter2") 0) none))) in
    is ∙ ap (λ (b : Plan). boot_state b.objects b.processes) all

-- in a layer that began so
pub served : {T : Type 0} (kernel : State) (outputs : List T) (es : List Entry) → kernel ≡ key_boot → IsLegal kernel es →
    length outputs ≡ length kernel.processes → EachKeeps outputs es → IsSeparated key_boot es 1 0 (codes "hunter2")
served kernel outputs es begins legal long each =
    separated outputs es (subst (λ (S : State). IsLegal S es) begins legal) (long ∙ ap (λ (S : State). length S.processes) begins) each
