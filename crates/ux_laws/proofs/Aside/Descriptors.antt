-- Calls on descriptors and processes agree.
use Rattle.std.proofs.Common.{◌≡◌, ℕ, ◌==◌, Bool, true, false, not, ◌||◌, cond, List, [], map, length, Option, Some, None}
use Rattle.std.proofs.Common.{refl}
use Rattle.std.proofs.Common.{ap, sym, ◌∙◌, subst}
use Rattle.std.specs.Prelude.{nat_le}
use Rattle.ux_model.specs.Types.{Fd, OpenFlags, Reply}
use Rattle.ux_model.specs.Places.{place, filled, emptied}
use Rattle.ux_model.specs.Flags.{asks_cloexec, open_flags_of}
use Rattle.ux_model.specs.Description.{Description}
use Rattle.ux_model.specs.Process.{Process, Descriptor, lowest_free, lowest_free_from, copy_of, with_cloexec, kept_on_exec}
use Rattle.ux_model.specs.State.{State, process_at, table_of, with_table, with_description}
use Rattle.ux_model.specs.Descriptors.{dup, dup2, dup_from, get_flags, set_flags, with_flags}
use Rattle.ux_model.specs.Users.{no_id, may_become, with_ids, set_ids}
use Rattle.ux_model.specs.Forking.{exec}
use Rattle.ux_model.specs.Closing.{close, exit}
use Rattle.ux_model.proofs.Lists.OnePlace.{at_each}
use Rattle.ux_model.proofs.Lists.Rising.{place_mapped}
use Rattle.ux_laws.specs.Apartness.{Sides, TargetIsOn}
use Rattle.ux_laws.proofs.Aside.Twins.{Twins, TableIsOn, twins_table, twins_process, twins_put}
use Rattle.ux_laws.proofs.Aside.Agreeing.{Agrees, refused, answered, remembered, both, maybe_both, found_both, same_table, own_table}

-- ---- tables

pub filled_on : (sides : Sides) (table : List (Option Descriptor)) (n : ℕ) (e : Descriptor) → TableIsOn sides true table →
    sides.description e.description ≡ true → TableIsOn sides true (filled table n e)
filled_on sides table n e on mine i f is = at_each (λ x. x ≡ Some f → sides.description f.description ≡ true) table n i (Some e)
    (λ h. on i f h) (λ at old h. let same : e ≡ f = cc h in ap (λ (x : Descriptor). sides.description x.description) (sym same) ∙ mine) is

emptied_on : (sides : Sides) (table : List (Option Descriptor)) (n : ℕ) → TableIsOn sides true table → TableIsOn sides true
    (emptied table n)
emptied_on sides table n on i f is = at_each (λ x. x ≡ Some f → sides.description f.description ≡ true) table n i None
    (λ h. on i f h) (λ at old h. absurd (cc h)) is

-- a number gets what another has, or the like
pub agree_filled : {sides : Sides} (S T : State) (p n : ℕ) (e : Descriptor) → Twins sides S T → sides.process p ≡ true →
    sides.description e.description ≡ true →
    Twins sides (with_table S p (filled (table_of S p) n e)) (with_table T p (filled (table_of T p) n e))
agree_filled {sides} S T p n e twins mine on = twins_table S T p (filled (table_of S p) n e) (filled (table_of T p) n e) twins mine
    (ap (λ (t : List (Option Descriptor)). filled t n e) (same_table p twins mine))
    (filled_on sides (table_of S p) n e (own_table p twins mine) on)

pub dup_agrees : {sides : Sides} (S T : State) (p : ℕ) (fd : Fd) → Twins sides S T → sides.process p ≡ true →
    Agrees sides (dup S p fd) (dup T p fd)
unfolding dup
dup_agrees {sides} S T p fd twins mine = found_both (Agrees sides) sides S T p fd _ _ twins mine (refused twins)
    (λ e D E on g here there shown. maybe_both (Agrees sides) (lowest_free (table_of S p)) (lowest_free (table_of T p)) _ _ _ _
    (ap lowest_free (same_table p twins mine)) (refused twins)
    (λ n low. remembered _ _ refl (agree_filled S T p n (copy_of e) twins mine on)))

pub dup2_agrees : {sides : Sides} (S T : State) (p : ℕ) (fd to : Fd) → Twins sides S T → sides.process p ≡ true →
    Agrees sides (dup2 S p fd to) (dup2 T p fd to)
unfolding dup2
dup2_agrees {sides} S T p fd to twins mine = found_both (Agrees sides) sides S T p fd _ _ twins mine (refused twins)
    (λ e D E on g here there shown. both (Agrees sides) (nat_le (length (table_of S p)) to.0) (nat_le (length (table_of T p)) to.0) _ _ _ _
    (ap (λ (t : List (Option Descriptor)). nat_le (length t) to.0) (same_table p twins mine)) (λ b. refused twins)
    (λ b. both (Agrees sides) (to.0 == fd.0) (to.0 == fd.0) _ _ _ _ refl (λ c. answered _ _ refl twins)
    (λ c. remembered _ _ refl (agree_filled S T p to.0 (copy_of e) twins mine on))))

pub dup_from_agrees : {sides : Sides} (S T : State) (p : ℕ) (fd minimum : Fd) → Twins sides S T → sides.process p ≡ true →
    Agrees sides (dup_from S p fd minimum) (dup_from T p fd minimum)
unfolding dup_from
dup_from_agrees {sides} S T p fd minimum twins mine = found_both (Agrees sides) sides S T p fd _ _ twins mine (refused twins)
    (λ e D E on g here there shown. both (Agrees sides) (nat_le (length (table_of S p)) minimum.0) (nat_le (length
    (table_of T p)) minimum.0)
    _ _ _ _ (ap (λ (t : List (Option Descriptor)). nat_le (length t) minimum.0) (same_table p twins mine)) (λ b. refused twins)
    (λ b. maybe_both (Agrees sides) (lowest_free_from minimum.0 (table_of S p)) (lowest_free_from minimum.0 (table_of T p)) _ _ _ _
    (ap (lowest_free_from minimum.0) (same_table p twins mine)) (refused twins)
    (λ n low. remembered _ _ refl (agree_filled S T p n (copy_of e) twins mine on))))

pub get_flags_agree : {sides : Sides} (S T : State) (p : ℕ) (fd : Fd) → Twins sides S T → sides.process p ≡ true →
    Agrees sides (get_flags S p fd) (get_flags T p fd)
unfolding get_flags
get_flags_agree {sides} S T p fd twins mine = found_both (Agrees sides) sides S T p fd _ _ twins mine (refused twins)
    (λ e D E on g here there shown. answered _ _
    (ap (λ (w : Description × _). Reply.Flags (open_flags_of (w.0).append (w.0).nonblock e.cloexec)) shown) twins)

pub set_flags_agree : {sides : Sides} (S T : State) (p : ℕ) (fd : Fd) (flags : OpenFlags) → Twins sides S T → sides.process p ≡ true →
    Agrees sides (set_flags S p fd flags) (set_flags T p fd flags)
unfolding set_flags
set_flags_agree {sides} S T p fd flags twins mine = found_both (Agrees sides) sides S T p fd _ _ twins mine (refused twins)
    (λ e D E on g here there shown.
    let put = twins_put S T e.description D E (with_flags flags D) (with_flags flags E) twins on here there
    (subst (λ b. TargetIsOn sides b D.target) on (twins.left.descriptions e.description D here))
    (subst (λ b. TargetIsOn sides b E.target) on (twins.right.descriptions e.description E there))
    (ap (λ (w : Description × _). (with_flags flags (w.0), w.1)) shown) in
    answered _ _ refl (twins_table (with_description S e.description (with_flags flags D)) (with_description T e.description
    (with_flags flags E)) p
    (filled (table_of S p) fd.0 (with_cloexec (asks_cloexec flags) e)) (filled (table_of T p) fd.0 (with_cloexec
    (asks_cloexec flags) e)) put mine
    (ap (λ (t : List (Option Descriptor)). filled t fd.0 (with_cloexec (asks_cloexec flags) e)) (same_table p twins mine))
    (filled_on sides (table_of S p) fd.0 (with_cloexec (asks_cloexec flags) e) (own_table p twins mine) on)))

pub close_agrees : {sides : Sides} (S T : State) (p : ℕ) (fd : Fd) → Twins sides S T → sides.process p ≡ true →
    Agrees sides (close S p fd) (close T p fd)
unfolding close
close_agrees {sides} S T p fd twins mine = found_both (Agrees sides) sides S T p fd _ _ twins mine (refused twins)
    (λ e D E on g here there shown. answered _ _ refl
    (twins_table S T p (emptied (table_of S p) fd.0) (emptied (table_of T p) fd.0) twins mine
    (ap (λ (t : List (Option Descriptor)). emptied t fd.0) (same_table p twins mine))
    (emptied_on sides (table_of S p) fd.0 (own_table p twins mine))))

-- ---- a process

kept_on : (sides : Sides) (table : List (Option Descriptor)) (keep : Option Descriptor → Option Descriptor) → keep None ≡ None →
    ((e f : Descriptor) → keep (Some e) ≡ Some f → f ≡ e) → TableIsOn sides true table → TableIsOn sides true (map keep table)
kept_on sides table keep none kept on n f is = go (place table n) refl (sym (place_mapped keep table n none) ∙ is)
  where
    go : (x : Option Descriptor) → place table n ≡ x → keep (place table n) ≡ Some f → sides.description f.description ≡ true
    go None at h = let clash : None ≡ Some f = sym none ∙ sym (ap keep at) ∙ h in absurd (cc clash)
    go (Some e) at h = ap (λ (x : Descriptor). sides.description x.description) (kept e f (sym (ap keep at) ∙ h)) ∙ on n e at

exec_kept : (e f : Descriptor) → kept_on_exec (Some e) ≡ Some f → f ≡ e
exec_kept e f h = go e.cloexec h
  where
    go : (b : Bool) → cond b None (Some e) ≡ Some f → f ≡ e
    go true h = absurd (cc h)
    go false h = cc h

pub exec_agrees : {sides : Sides} (S T : State) (p : ℕ) → Twins sides S T → sides.process p ≡ true → Agrees sides (exec S p) (exec T p)
unfolding exec
exec_agrees {sides} S T p twins mine = maybe_both (Agrees sides) (process_at S p) (process_at T p) _ _ _ _ (twins.processes p mine)
    (refused twins)
    (λ P here. answered _ _ refl (twins_table S T p (map kept_on_exec P.table) (map kept_on_exec P.table) twins mine refl
    (kept_on sides P.table kept_on_exec refl exec_kept (process_on P here))))
  where
    process_on : (P : Process) → process_at S p ≡ Some P → TableIsOn sides true P.table
    process_on P here = subst (λ (x : Option Process). TableIsOn sides true
        (elim x as (λ _. List (Option Descriptor)) [ Some P ↦ P.table | None ↦ [] ])) here (own_table p twins mine)

pub exit_agrees : {sides : Sides} (S T : State) (p : ℕ) → Twins sides S T → sides.process p ≡ true → Agrees sides (exit S p) (exit T p)
unfolding exit
exit_agrees {sides} S T p twins mine = maybe_both (Agrees sides) (process_at S p) (process_at T p) _ _ _ _ (twins.processes p mine)
    (refused twins)
    (λ P here. answered _ _ refl (twins_process S T p _ P twins mine here
    (λ n e is. let clash : None ≡ Some e = sym (place_mapped (λ x. None) P.table n refl) ∙ is in absurd (cc clash))))

pub ids_agree : {sides : Sides} (S T : State) (p uid gid : ℕ) → Twins sides S T → sides.process p ≡ true →
    Agrees sides (set_ids S p uid gid) (set_ids T p uid gid)
unfolding set_ids
ids_agree {sides} S T p uid gid twins mine = maybe_both (Agrees sides) (process_at S p) (process_at T p) _ _ _ _ (twins.processes p mine)
    (refused twins)
    (λ P here. both (Agrees sides) ((uid == no_id) || (gid == no_id)) _ _ _ _ _ refl (λ b. refused twins)
    (λ b. both (Agrees sides) (not (may_become uid gid P)) _ _ _ _ _ refl (λ c. refused twins)
    (λ c. answered _ _ refl (twins_process S T p (with_ids uid gid P) P twins mine here
    (subst (λ (x : Option Process). TableIsOn sides true
    (elim x as (λ _. List (Option Descriptor)) [ Some P ↦ P.table | None ↦ [] ])) here (own_table p twins mine))))))
