-- Calls on descriptors and processes show how they change the tables.
use Rattle.std.proofs.Common.{◌≡◌, ℕ, zero, suc, ◌<◌, ◌≤◌, Bool, true, false, not, ◌||◌, ◌==◌, cond, List, []}
use Rattle.std.proofs.Common.{◌∷◌, length, map, Option, Some, None, option_map, refl, ap, sym, ◌∙◌, subst}
use Rattle.std.proofs.Common.{arith, slice_get, slice_set}
use Rattle.std.specs.Prelude.{nat_le}
use Rattle.std.proofs.lemmas.Bool.{eqb-true, eqb-false, leb-false, false≢true, ne_eqb}
use Rattle.ux_model.specs.Types.{Fd, OpenFlags, Request, Reply}
use Rattle.ux_model.specs.Places.{place, filled, emptied}
use Rattle.ux_model.specs.Limits.{made_limit}
use Rattle.ux_model.specs.Flags.{asks_cloexec}
use Rattle.ux_model.specs.Description.{Description}
use Rattle.ux_model.specs.Process.{Process, Descriptor, lowest_free, lowest_free_from}
use Rattle.ux_model.specs.Process.{copy_of, kept_on_exec, with_cloexec, fd_of, pid_of}
use Rattle.ux_model.specs.Delivery.{installed}
use Rattle.ux_model.specs.State.{State, process_at, table_of, next_process}
use Rattle.ux_model.specs.State.{with_child, with_description, with_process, with_table}
use Rattle.ux_model.specs.Outcome.{Outcome}
use Rattle.ux_model.specs.Descriptors.{dup, dup2, dup_from, set_flags, with_flags}
use Rattle.ux_model.specs.Users.{no_id, may_become, with_ids, set_ids}
use Rattle.ux_model.specs.Forking.{fork, exec, child_of}
use Rattle.ux_model.specs.Closing.{close, exit, off, with_nothing_open}
use Rattle.ux_model.specs.Giving.{held_at, description_in}
use Rattle.ux_model.specs.Changes.{as_list, ChangesTables}
use Rattle.ux_model.proofs.Changes.Walk.{either, maybe, found}
use Rattle.ux_model.proofs.Changes.Named.{table_in}
use Rattle.ux_model.proofs.Lists.ChangedPlaces.{bool_cases, place_within}
use Rattle.ux_model.proofs.Lists.ByPlace.{get_below, get_pushed_other}
use Rattle.ux_model.proofs.Lists.Induction.{get_pushed}
use Rattle.ux_model.proofs.Lists.Rising.{rise_one, lowest_below, place_filled, place_other, place_mapped}
use Rattle.ux_model.proofs.Lists.Rising.{lowest_from_within}
use Rattle.ux_model.proofs.Tables.Queues.{queue_in, Quiet, quiet_mail, quiet_after, quiet_table}
use Rattle.ux_model.proofs.Tables.Queues.{quiet_put}
use Rattle.ux_model.proofs.Tables.Replacing.{Replaces, replaced_process, replaced_table}
use Rattle.ux_model.proofs.Tables.Replacing.{IsPlain, changes, installs}
use Rattle.ux_model.proofs.Tables.Shows.{Shows, silent, refuses, answers}

-- ---- descriptors

copied_table : (S : State) (p n : ℕ) (x : Descriptor) (held : Option Descriptor) (Q : Process) → process_at S p ≡ Some Q → held ≡ Some x →
    Replaces S p (installed false (n ∷ []) (as_list (description_in held)) (table_of S p))
    (with_table S p (filled (table_of S p) n (copy_of x)))
copied_table S p n x held Q here is = subst
    (λ (h : Option Descriptor). Replaces S p (installed false (n ∷ []) (as_list (description_in h)) (table_of S p))
    (with_table S p (filled (table_of S p) n (copy_of x))))
    (sym is) (replaced_table S p (filled (table_of S p) n (copy_of x)) Q here)

one_copied : (held : Option Descriptor) (x : Descriptor) → held ≡ Some x → 1 ≤ length (as_list (description_in held))
one_copied held x is = let l : length (as_list (description_in held)) ≡ 1 = ap (λ h. length (as_list (description_in h))) is in
    omega (arith, l)

pub dup_shows : (S : State) (p tag : ℕ) (fd : Fd) (Q : Process) → process_at S p ≡ Some Q → Shows S p tag (Request.Dup fd) (dup S p fd)
unfolding dup
dup_shows S p tag fd Q here = found (Shows S p tag (Request.Dup fd)) S p fd _ (refuses refl)
    (λ x D g h. maybe (Shows S p tag (Request.Dup fd)) (lowest_free (table_of S p)) _ _ (refuses refl)
    (λ n low. record {
      tables = installs S _ p (Request.Dup fd) (Reply.Fd (fd_of n)) (n ∷ []) (record { no_end = refl; keeps = λ n held. refl })
          (copied_table S p n x (held_at S p fd.0) Q here g)
          (rise_one n (length (table_of S p)) (lowest_below (table_of S p) n low)) (one_copied (held_at S p fd.0) x g) refl refl;
      mail = quiet_mail S (with_table S p (filled (table_of S p) n (copy_of x))) p tag (Request.Dup fd)
          (quiet_table S p (filled (table_of S p) n (copy_of x)));
    }))

pub dup2_shows : (S : State) (p tag : ℕ) (fd to : Fd) (Q : Process) → process_at S p ≡ Some Q →
    Shows S p tag (Request.Dup2 fd to) (dup2 S p fd to)
unfolding dup2
dup2_shows S p tag fd to Q here = found (Shows S p tag (Request.Dup2 fd to)) S p fd _ (refuses refl) (λ x D g h.
    either (Shows S p tag (Request.Dup2 fd to)) (nat_le (length (table_of S p)) to.0) _ _ (λ b. refuses refl)
    (λ b. either (Shows S p tag (Request.Dup2 fd to)) (to.0 == fd.0) _ _
    (λ same. answers plain refl (ap (λ c. cond c [] (to.0 ∷ [])) same) refl (silent S))
    (λ other. record {
      tables = installs S _ p (Request.Dup2 fd to) (Reply.Fd to) (to.0 ∷ []) plain (copied_table S p to.0 x (held_at S p fd.0) Q here g)
          (rise_one to.0 (length (table_of S p)) (leb-false (length (table_of S p)) to.0 b)) (one_copied (held_at S p fd.0) x g)
          (ap (λ c. cond c [] (to.0 ∷ [])) other) refl;
      mail = quiet_mail S (with_table S p (filled (table_of S p) to.0 (copy_of x))) p tag (Request.Dup2 fd to)
          (quiet_table S p (filled (table_of S p) to.0 (copy_of x)));
    })))
  where
    plain : IsPlain (Request.Dup2 fd to)
    plain = record { no_end = refl; keeps = λ n held. refl }

pub dup_from_shows : (S : State) (p tag : ℕ) (fd minimum : Fd) (Q : Process) → process_at S p ≡ Some Q →
    Shows S p tag (Request.DupFrom fd minimum) (dup_from S p fd minimum)
unfolding dup_from
dup_from_shows S p tag fd minimum Q here = found (Shows S p tag (Request.DupFrom fd minimum)) S p fd _ (refuses refl) (λ x D g h.
    either (Shows S p tag (Request.DupFrom fd minimum)) (nat_le (length (table_of S p)) minimum.0) _ _ (λ b. refuses refl)
    (λ b. maybe (Shows S p tag (Request.DupFrom fd minimum)) (lowest_free_from minimum.0 (table_of S p)) _ _ (refuses refl)
    (λ n low. record {
      tables = installs S _ p (Request.DupFrom fd minimum) (Reply.Fd (fd_of n)) (n ∷ []) (record { no_end = refl; keeps = λ n held. refl })
          (copied_table S p n x (held_at S p fd.0) Q here g)
          (rise_one n (length (table_of S p)) (lowest_from_within (table_of S p) minimum.0 n low).1) (one_copied (held_at S p fd.0) x g)
          refl refl;
      mail = quiet_mail S (with_table S p (filled (table_of S p) n (copy_of x))) p tag (Request.DupFrom fd minimum)
          (quiet_table S p (filled (table_of S p) n (copy_of x)));
    })))

-- one place of a table changes
changed_at : (table : List (Option Descriptor)) (k n : ℕ) (x y : Option Descriptor) → k < length table → ((k == n) ≡ true → y ≡ x) →
    ((k == n) ≡ false → y ≡ place table n) →
    place (slice_set table k x) n ≡ y
changed_at table k n x y within here other = bool_cases (k == n)
    (λ e. let same : k ≡ n = eqb-true k n e in
    subst (λ (i : ℕ). place (slice_set table k x) i ≡ x) same (place_filled table k x within) ∙ sym (here e))
    (λ e. place_other table k n x e ∙ sym (other e))

pub flags_show : (S : State) (p tag : ℕ) (fd : Fd) (flags : OpenFlags) (Q : Process) → process_at S p ≡ Some Q →
    Shows S p tag (Request.SetFlags fd flags) (set_flags S p fd flags)
unfolding set_flags
flags_show S p tag fd flags Q here = found (Shows S p tag (Request.SetFlags fd flags)) S p fd _ (refuses refl) (λ x D g h.
    let on : Bool = asks_cloexec flags in
    let U : State = with_description S x.description (with_flags flags D) in
    let table : List (Option Descriptor) = filled (table_of S p) fd.0 (with_cloexec on x) in
    let r = replaced_table U p table Q here in
    record {
      tables = changes S _ p (Request.SetFlags fd flags) Reply.Ok table (record { same = r.same; other = r.other }) refl refl refl
          (λ n. changed_at (table_of S p) fd.0 n (Some (with_cloexec on x))
          (cond (fd.0 == n) (option_map (with_cloexec on) (held_at S p n)) (held_at S p n))
          (place_within (table_of S p) fd.0 x g)
          (λ e. ap (λ b. cond b (option_map (with_cloexec on) (held_at S p n)) (held_at S p n)) e
          ∙ sym (ap (λ (k : ℕ). option_map (with_cloexec on) (held_at S p k)) (eqb-true fd.0 n e)) ∙ ap (option_map (with_cloexec on)) g)
          (λ e. ap (λ b. cond b (option_map (with_cloexec on) (held_at S p n)) (held_at S p n)) e));
      mail = quiet_after S U (with_table U p table) p tag (Request.SetFlags fd flags) (quiet_table U p table)
          (quiet_mail S U p tag (Request.SetFlags fd flags) (quiet_put S x.description D (with_flags flags D) h refl));
    })

pub close_shows : (S : State) (p tag : ℕ) (fd : Fd) (Q : Process) → process_at S p ≡ Some Q →
    Shows S p tag (Request.Close fd) (close S p fd)
unfolding close
close_shows S p tag fd Q here = found (Shows S p tag (Request.Close fd)) S p fd _ (refuses refl) (λ x D g h. record {
  tables = changes S _ p (Request.Close fd) Reply.Ok (emptied (table_of S p) fd.0) (replaced_table S p (emptied (table_of S p) fd.0) Q here)
      refl refl refl
      (λ n. changed_at (table_of S p) fd.0 n None (cond (fd.0 == n) None (held_at S p n)) (place_within (table_of S p) fd.0 x g)
      (λ e. ap (λ b. cond b None (held_at S p n)) e) (λ e. ap (λ b. cond b None (held_at S p n)) e));
  mail = quiet_mail S (with_table S p (emptied (table_of S p) fd.0)) p tag (Request.Close fd)
      (quiet_table S p (emptied (table_of S p) fd.0));
})

-- ---- processes

quiet_process : (S : State) (p : ℕ) (P : Process) → Quiet S (with_process S p P)
quiet_process S zero P d = refl
quiet_process S (suc i) P d = refl

table_is : (S : State) (p n : ℕ) (P : Process) → process_at S p ≡ Some P → place P.table n ≡ held_at S p n
table_is S p n P h = sym (ap (λ (o : Option Process). place (table_in o) n) h)

pub exit_shows : (S : State) (p tag : ℕ) → Shows S p tag Request.Exit (exit S p)
unfolding exit
exit_shows S p tag = maybe (Shows S p tag Request.Exit) (process_at S p) _ _ (refuses refl) (λ P h.
    let gone : List (Option Descriptor) = map (λ e. None) P.table in
    record {
      tables = changes S _ p Request.Exit Reply.Ok gone (replaced_process S p (record P { exited = true; table = gone }) P h) refl refl refl
          (λ n. place_mapped (λ e. None) P.table n refl);
      mail = quiet_mail S (with_process S p (record P { exited = true; table = gone })) p tag Request.Exit
          (quiet_process S p (record P { exited = true; table = gone }));
    })

pub exec_shows : (S : State) (p tag : ℕ) → Shows S p tag Request.Exec (exec S p)
unfolding exec
exec_shows S p tag = maybe (Shows S p tag Request.Exec) (process_at S p) _ _ (refuses refl) (λ P h. record {
  tables = changes S _ p Request.Exec Reply.Ok (map kept_on_exec P.table) (replaced_table S p (map kept_on_exec P.table) P h) refl refl refl
      (λ n. place_mapped kept_on_exec P.table n refl ∙ ap kept_on_exec (table_is S p n P h));
  mail = quiet_mail S (with_table S p (map kept_on_exec P.table)) p tag Request.Exec (quiet_table S p (map kept_on_exec P.table));
})

-- ---- ids

pub ids_show : (S : State) (p tag uid gid : ℕ) → Shows S p tag (Request.SetIds uid gid) (set_ids S p uid gid)
unfolding set_ids
ids_show S p tag uid gid = maybe Q (process_at S p) _ _ (refuses refl)
    (λ P h. either Q ((uid == no_id) || (gid == no_id)) _ _ (λ b. refuses refl)
    (λ b. either Q (not (may_become uid gid P)) _ _ (λ b. refuses refl) (λ b. record {
      tables = changes S _ p (Request.SetIds uid gid) Reply.Ok P.table (replaced_process S p (with_ids uid gid P) P h) refl refl refl
          (λ n. table_is S p n P h);
      mail = quiet_mail S (with_process S p (with_ids uid gid P)) p tag (Request.SetIds uid gid) (quiet_process S p (with_ids uid gid P));
    })))
  where
    Q : Outcome → Type 0
    Q o = Shows S p tag (Request.SetIds uid gid) o

-- ---- fork, and the end of the layer

forked_other : (S : State) (C : Process) (q : ℕ) → (next_process S == q) ≡ false → process_at (with_child S C) q ≡ process_at S q
forked_other S C zero h = refl
forked_other S C (suc j) h = get_pushed_other S.processes C j (λ e. eqb-false (next_process S) (suc j) h (ap suc e))

child_there : (S : State) (C : Process) (q : ℕ) → (next_process S == q) ≡ true → process_at (with_child S C) q ≡ Some C
child_there S C q h = subst (λ (k : ℕ). process_at (with_child S C) k ≡ Some C) (eqb-true (next_process S) q h) (get_pushed S.processes C)

not_the_child : (S : State) (p : ℕ) (P : Process) → process_at S p ≡ Some P → (next_process S == p) ≡ false
not_the_child S zero P h = absurd (cc h)
not_the_child S (suc i) P h = ne_eqb (next_process S) (suc i) (λ e. let b = get_below S.processes i P h in omega (arith, e, b))

forked_tables : (S : State) (p : ℕ) (P : Process) → process_at S p ≡ Some P →
    ChangesTables S p Request.Fork (Reply.Child (pid_of (next_process S))) (with_child S (child_of P))
forked_tables S p P here = record {
  others = λ q n d c. ap (λ (o : Option Process). place (table_in o) n) (forked_other S (child_of P) q c);
  child = λ q n c. ap (λ (o : Option Process). place (table_in o) n) (child_there S (child_of P) q c) ∙ table_is S p n P here;
  own = λ n g. ap (λ (o : Option Process). place (table_in o) n) (forked_other S (child_of P) p (not_the_child S p P here));
  new = λ i n g. absurd (cc g);
  once = λ i j n g h. absurd (cc g);
}

pub fork_shows : (S : State) (p tag : ℕ) → Shows S p tag Request.Fork (fork S p)
unfolding fork
fork_shows S p tag = maybe (Shows S p tag Request.Fork) (process_at S p) _ _ (refuses refl)
    (λ P h. either (Shows S p tag Request.Fork) (nat_le made_limit (length S.processes)) _ _ (λ b. refuses refl)
    (λ b. record { tables = forked_tables S p P h; mail = quiet_mail S (with_child S (child_of P)) p tag Request.Fork (silent S) }))

-- all tables are empty then
nothing_held : (Ps : List Process) (i n : ℕ) → place (table_in (slice_get (map with_nothing_open Ps) i)) n ≡ None
nothing_held [] i n = refl
nothing_held (P ∷ Ps) zero n = place_mapped (λ e. None) P.table n refl
nothing_held (P ∷ Ps) (suc i) n = nothing_held Ps i n

off_empties : (S : State) (q n : ℕ) → held_at (off S).next q n ≡ None
unfolding off
off_empties S zero n = refl
off_empties S (suc i) n = nothing_held S.processes i n

no_queues : (ds : List (Option Description)) (d : ℕ) → queue_in (place (map (λ D. None) ds) d) ≡ []
no_queues ds d = ap queue_in (place_mapped (λ D. None) ds d refl)

pub off_shows : (S : State) (p tag : ℕ) → Shows S p tag Request.Off (off S)
unfolding off
off_shows S p tag = record {
  tables = record {
    others = λ q n d c. off_empties S q n;
    child = λ q n c. absurd (false≢true c);
    own = λ n g. off_empties S p n;
    new = λ i n g. absurd (cc g);
    once = λ i j n g h. absurd (cc g);
  };
  mail = λ m rich w. let nowhere : slice_get [] w.1 ≡ Some m = sym (ap (λ q. slice_get q w.1) (no_queues S.descriptions w.0)) ∙ w.2 in
      absurd (cc nowhere);
}
