-- The numbers of the processes that were made, and that a process makes calls only then.
use Rattle.std.proofs.Common.{◌≡◌, ◌≢◌, ℕ, zero, suc, ◌+◌, ◌<◌, ◌≤◌, Bool, true, false, not, ◌&&◌, ◌||◌, ◌==◌, ◌⊎◌, inl, inr, List, [], ◌∷◌}
use Rattle.std.proofs.Common.{◌++◌, length, cond, Some, None, refl, ap, sym, ◌∙◌, arith}
use Rattle.std.specs.Prelude.{nat_lt, nat_le, if◌then◌else◌}
use Rattle.std.specs.List.{slice_get, list_all}
use Rattle.std.proofs.lemmas.Bool.{and_parts, and_from, le-leb, lt-leb, eqb-true, eqb-false, eq-eqb, ne_eqb, cases_lt}
use Rattle.std.proofs.lemmas.List.Sums.{sum_by_push}
use mathlib.Core.Bool.{and-false, or-true, or-false}
use Rattle.ux_model.specs.Types.{Request, Reply, Entry}
use Rattle.ux_model.specs.Process.{Process}
use Rattle.ux_model.specs.State.{State, is_live}
use Rattle.ux_model.specs.Boot.{IsBootState}
use Rattle.ux_model.specs.Step.{Step}
use Rattle.ux_model.specs.History.{calls_of, has_live, is_off, makes, was_made, is_allowed, NumberedFromOne, NoCallBeforeMade}
use Rattle.ux_model.proofs.Lists.Induction.{IsKept, kept_throughout}
use Rattle.ux_model.proofs.Processes.Living.{fork_alone_makes, made_push, made_next, live_within}

-- one of the numbers from 1 to the count
abbrev numbered : ℕ → ℕ → Bool
numbered p count = nat_lt 0 p && nat_le p count

numbered_within : (p n : ℕ) → 1 ≤ p → p ≤ n → numbered p n ≡ true
numbered_within p n first last = and_from (nat_lt 0 p) (nat_le p n) (le-leb 1 p first) (le-leb p n last)

numbered_past : (p n : ℕ) → n < p → numbered p n ≡ false
numbered_past p n past = ap (λ b. nat_lt 0 p && b) (lt-leb p n past) ∙ and-false (nat_lt 0 p)

-- all processes of a boot state live
boot_numbered : (S : State) (p : ℕ) → IsBootState S → is_live S p ≡ numbered p (length S.processes)
boot_numbered S zero boots = refl
boot_numbered S (suc i) boots = by (cases_lt i (length S.processes))
  where
    inside : (Ps : List Process) (i : ℕ) → list_all (λ P. not (Process.exited P)) Ps ≡ true → i < length Ps →
        (elim (slice_get Ps i) as (λ _. Bool) [ Some P ↦ not P.exited | None ↦ false ]) ≡ true
    inside [] i all h = absurd (omega (arith, h))
    inside (P ∷ Ps) zero all h = (and_parts (not P.exited) _ all).0
    inside (P ∷ Ps) (suc i) all h = inside Ps i (and_parts (not P.exited) _ all).1 (omega (arith, h))

    outside : (Ps : List Process) (i : ℕ) → length Ps ≤ i →
        (elim (slice_get Ps i) as (λ _. Bool) [ Some P ↦ not P.exited | None ↦ false ]) ≡ false
    outside [] i h = refl
    outside (P ∷ Ps) zero h = absurd (omega (arith, h))
    outside (P ∷ Ps) (suc i) h = outside Ps i (omega (arith, h))

    by : (i < length S.processes) ⊎ (length S.processes ≤ i) → is_live S (suc i) ≡ numbered (suc i) (length S.processes)
    by (inl h) = inside S.processes i boots.live_processes h
        ∙ sym (numbered_within (suc i) (length S.processes) (omega arith) (omega (arith, h)))
    by (inr h) = outside S.processes i h ∙ sym (numbered_past (suc i) (length S.processes) (omega (arith, h)))

-- one process more has the next number
numbered_other : (p n : ℕ) → p ≢ suc n → numbered p (suc n) ≡ numbered p n
numbered_other p n other = ap (λ b. nat_lt 0 p && b) (go (cases_lt n p))
  where
    go : (n < p) ⊎ (p ≤ n) → nat_le p (suc n) ≡ nat_le p n
    go (inl past) = lt-leb p (suc n) (omega (arith, past, other)) ∙ sym (lt-leb p n past)
    go (inr within) = le-leb p (suc n) (omega (arith, within)) ∙ sym (le-leb p n within)

-- a call that didn't make the process left its number as it was
other_kept : (S T : State) (q tag p : ℕ) (request : Request) (reply : Reply) (gone : List ℕ) → Step S q tag request reply gone T →
    makes p request reply ≡ false → numbered p (length T.processes) ≡ numbered p (length S.processes)
other_kept S T q tag p Request.Fork (Reply.Child pid) gone s h =
    let more : length T.processes ≡ length S.processes + 1 = fork_alone_makes S T q tag Request.Fork (Reply.Child pid) gone s in
    let next : pid.0 ≡ suc (length S.processes) =
    made_next S T q tag pid.0 Request.Fork (Reply.Child pid) gone s (eq-eqb pid.0 pid.0 refl) in
    let other = eqb-false pid.0 p h in
    let one : length T.processes ≡ suc (length S.processes) = omega (arith, more) in
    ap (numbered p) one ∙ numbered_other p (length S.processes) (λ e. other (next ∙ sym e))
other_kept S T q tag p request reply gone s h =
    let same : length T.processes ≡ length S.processes = let more = fork_alone_makes S T q tag request reply gone s in
    omega (arith, more) in
    ap (numbered p) same

-- and one that made it, made the next
made_numbered : (S T : State) (q tag p : ℕ) (request : Request) (reply : Reply) (gone : List ℕ) → Step S q tag request reply gone T →
    makes p request reply ≡ true → numbered p (length T.processes) ≡ true
made_numbered S T q tag p Request.Fork (Reply.Child pid) gone s h =
    let more : length T.processes ≡ length S.processes + 1 = fork_alone_makes S T q tag Request.Fork (Reply.Child pid) gone s in
    let next : p ≡ suc (length S.processes) = made_next S T q tag p Request.Fork (Reply.Child pid) gone s h in
    let one : length T.processes ≡ suc (length S.processes) = omega (arith, more) in
    numbered_within p (length T.processes) (omega (arith, next)) (omega (arith, next, one))
made_numbered S T q tag p request reply gone s h = absurd (cc h)

abbrev AreNumbered : State → ℕ → List Entry → State → Type 0
AreNumbered boot p es S = (is_live boot p || was_made p es) ≡ numbered p (length S.processes)

keeps_numbers : (boot : State) (p : ℕ) → IsKept boot (AreNumbered boot p)
keeps_numbers boot p = record {
  at_boot = λ boots. or-false (is_live boot p) ∙ boot_numbered boot p boots;
  by_entry = λ es e S T so_far step allowed. go es e S T so_far step (makes p e.request e.reply) refl;
}
  where
    go : (es : List Entry) (e : Entry) (S T : State) → AreNumbered boot p es S → Step S e.pid.0 (length es) e.request e.reply e.released T →
        (b : Bool) → makes p e.request e.reply ≡ b →
        (is_live boot p || was_made p (es ++ e ∷ [])) ≡ numbered p (length T.processes)
    go es e S T so_far step true h =
        ap (λ b. is_live boot p || b) (made_push p es e ∙ ap (λ b. was_made p es || b) h ∙ or-true (was_made p es))
        ∙ or-true (is_live boot p)
        ∙ sym (made_numbered S T e.pid.0 (length es) p e.request e.reply e.released step h)
    go es e S T so_far step false h =
        ap (λ b. is_live boot p || b) (made_push p es e ∙ ap (λ b. was_made p es || b) h ∙ or-false (was_made p es))
        ∙ so_far
        ∙ sym (other_kept S T e.pid.0 (length es) p e.request e.reply e.released step h)

pub numbered_from_one : NumberedFromOne
numbered_from_one boot es p legal = kept_throughout boot (AreNumbered boot p) (keeps_numbers boot p) es legal

-- ---- who has made no call

-- whoever calls was made
caller_within : (S : State) (p k : ℕ) (request : Request) → is_allowed S p k request ≡ true → p ≤ length S.processes
caller_within S p k request = go (is_off request)
  where
    go : (b : Bool) → (if b then (p == 0) && ((k == 0) && not (has_live S)) else is_live S p) ≡ true → p ≤ length S.processes
    go true h = let none : p ≡ 0 = eqb-true p 0 (and_parts (p == 0) _ h).0 in omega (arith, none)
    go false h = live_within S p h

abbrev HasNoCall : ℕ → List Entry → State → Type 0
HasNoCall p es S = length S.processes < p → calls_of p es ≡ 0

keeps_quiet : (boot : State) (p : ℕ) → IsKept boot (HasNoCall p)
keeps_quiet boot p = record {
  at_boot = λ boots past. refl;
  by_entry = λ es e S T so_far step allowed past.
      let more = fork_alone_makes S T e.pid.0 (length es) e.request e.reply e.released step in
      let within = caller_within S e.pid.0 e.k e.request allowed in
      let before : length S.processes < p = omega (arith, past, more) in
      sum_by_push (λ (x : Entry). cond {A = ℕ} (x.pid.0 == p) 1 0) es e
      ∙ ap (λ b. calls_of p es + cond {A = ℕ} b 1 0) (ne_eqb e.pid.0 p (λ h. omega (arith, h, within, before)))
      ∙ (let none : calls_of p es ≡ 0 = so_far before in omega (arith, none));
}

pub no_call_before_made : NoCallBeforeMade
no_call_before_made boot es p legal = kept_throughout boot (HasNoCall p) (keeps_quiet boot p) es legal
