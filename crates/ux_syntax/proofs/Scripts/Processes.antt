-- Which processes are there before a line, and what it may name.
use Rattle.std.proofs.Common.{◌≡◌, ℕ, ◌+◌, Bool, true, false, cond, not, ltb, leb, eqb, eq-eqb, ◌&&◌, ◌||◌}
use Rattle.std.proofs.Common.{List, [], ◌∷◌, ◌++◌, refl, ap, sym, ◌∙◌, subst}
use Rattle.std.proofs.Common.{arith}
use Rattle.std.proofs.lemmas.Bool.{ltb-true, lt-ltb, eqb-true, leb-true, le-leb, and_parts, and_from, and_left}
use Rattle.std.proofs.lemmas.Bool.{not-true, false_from_ne_true, both_ways}
use Rattle.std.proofs.lemmas.List.Sums.{sum_by-cons}
use Rattle.ux_model.specs.Types.{Request}
use Rattle.ux_model.specs.Limits.{made_limit}
use Rattle.ux_syntax.specs.declared.script.Act.{Act}
use Rattle.ux_syntax.specs.Lines.{Line}
use Rattle.ux_syntax.specs.Spelling.{Plan}
use Rattle.ux_syntax.specs.Spelling.{IsProcess, AwaitsProcess, NamesProcesses}
use Rattle.ux_syntax.specs.Spelling.{asks_exit, asks_fork, asks_recorded, MayAsk, forks_of, known_count, EachKnowing}
use Rattle.ux_syntax.specs.Spelling.{MayFork}
use Rattle.ux_syntax.specs.Turns.{has_exited, is_known, awaits_known}
use Rattle.ux_syntax.specs.Reading.{may_fork}

pub known_from : (count pid : ℕ) → (ltb 0 pid && leb pid count) ≡ true → IsProcess count pid
known_from count pid e = let p = and_parts (ltb 0 pid) (leb pid count) e in (ltb-true 0 pid p.0, leb-true pid count p.1)

pub known_to : (count pid : ℕ) → IsProcess count pid → (ltb 0 pid && leb pid count) ≡ true
known_to count pid o = and_from (ltb 0 pid) (leb pid count) (lt-ltb 0 pid o.0) (le-leb pid count o.1)

pub awaits_from : (count : ℕ) (act : Act) → awaits_known count act ≡ true → AwaitsProcess count act
awaits_from count (Act.Call request) e = tt
awaits_from count (Act.Wait pid calls) e = known_from count pid.0 e

pub awaits_to : (count : ℕ) (act : Act) → AwaitsProcess count act → awaits_known count act ≡ true
awaits_to count (Act.Call request) o = refl
awaits_to count (Act.Wait pid calls) o = known_to count pid.0 o

-- the processes that are known behind a line and further lines
known_on : (count : ℕ) (u : Line) (us : List Line) → (count + forks_of (u ∷ [])) + forks_of us ≡ count + forks_of (u ∷ us)
known_on count u us = omega (arith, sum_by-cons (λ (line : Line). cond (asks_fork line.act) 1 0) u us)

pub known_more : (IsSo : ℕ → Line → Type 0) (count : ℕ) (ls : List Line) (l : Line) → EachKnowing IsSo count ls →
    IsSo (count + forks_of ls) l →
    EachKnowing IsSo count (ls ++ l ∷ [])
known_more IsSo count [] l h p = (subst (λ n. IsSo n l) (omega arith) p, tt)
known_more IsSo count (u ∷ us) l h p = (
  h.0,
  known_more IsSo (count + forks_of (u ∷ [])) us l h.1 (subst (λ n. IsSo n l) (sym (known_on count u us)) p),
)

pub known_less : (IsSo : ℕ → Line → Type 0) (count : ℕ) (ls : List Line) (l : Line) → EachKnowing IsSo count (ls ++ l ∷ []) →
    EachKnowing IsSo count ls × IsSo (count + forks_of ls) l
known_less IsSo count [] l h = (tt, subst (λ n. IsSo n l) (omega arith) h.0)
known_less IsSo count (u ∷ us) l h =
    let p = known_less IsSo (count + forks_of (u ∷ [])) us l h.1 in
    ((h.0, p.0), subst (λ n. IsSo n l) (known_on count u us) p.1)

-- a process that isn't there has no lines
pub unknown_quiet : (count : ℕ) (ls : List Line) (p : ℕ) → EachKnowing NamesProcesses count ls → is_known (count + forks_of ls) p ≡ false →
    has_exited ls p ≡ false
unknown_quiet count [] p all unknown = refl
unknown_quiet count (u ∷ us) p all unknown =
    let other : eqb u.pid.0 p ≡ false = false_from_ne_true (eqb u.pid.0 p) (λ e.
    let same : u.pid.0 ≡ p = eqb-true u.pid.0 p e in
    both_ways (is_known (count + forks_of (u ∷ us)) p) unknown
    (known_to (count + forks_of (u ∷ us)) p (omega (arith, same, all.0.0.0), omega (arith, same, all.0.0.1)))) in
    let on : is_known ((count + forks_of (u ∷ [])) + forks_of us) p ≡ false = ap (λ n. is_known n p) (known_on count u us) ∙ unknown in
    rw (and_left (eqb u.pid.0 p) (asks_exit u.act) other, unknown_quiet (count + forks_of (u ∷ [])) us p all.1 on) refl

-- what the script's next line is like that may stand there
pub record MayJoin (s : Plan) (line : Line) : Type 0 where
  pub names : NamesProcesses (known_count s) line
  pub forks : MayFork s.serial (known_count s) line
  pub quiet : has_exited s.lines line.pid.0 ≡ false
  pub asks : MayAsk s.serial line

-- a fork stands in each script
fork_asks : (serial : Bool) (act : Act) → asks_fork act ≡ true → asks_recorded act ≡ true → serial ≡ true
fork_asks serial (Act.Call Request.Fork) e h = absurd cc
fork_asks serial (Act.Call request) e h = absurd cc
fork_asks serial (Act.Wait pid calls) e h = absurd cc

-- a call that isn't barred may stand in the script, and the other way round
pub not_barred : (serial recorded : Bool) → (not serial && recorded) ≡ false → recorded ≡ true → serial ≡ true
not_barred true recorded h e = refl
not_barred false recorded h e = absurd (both_ways recorded h e)

pub barred_not : (serial recorded : Bool) → (recorded ≡ true → serial ≡ true) → (not serial && recorded) ≡ false
barred_not true recorded h = refl
barred_not false true h = absurd (both_ways false refl (h refl))
barred_not false false h = refl

-- a fork waits for no process
fork_awaits : (count : ℕ) (act : Act) → asks_fork act ≡ true → AwaitsProcess count act
fork_awaits count (Act.Call request) e = tt
fork_awaits count (Act.Wait pid calls) e = absurd cc

either_other : (a b : Bool) → (a || b) ≡ true → a ≡ false → b ≡ true
either_other true b e h = absurd cc
either_other false b e h = e

either_from : (a b : Bool) → (a ≡ false → b ≡ true) → (a || b) ≡ true
either_from true b h = refl
either_from false b h = h refl

pub fork_known : (s : Plan) (line : Line) → asks_fork line.act ≡ true → may_fork s line.pid.0 ≡ true → MayJoin s line
fork_known s line forks e =
    let first = s.serial || eqb line.pid.0 1 in
    let p = and_parts (first && ltb (known_count s) made_limit) (is_known (known_count s) line.pid.0 && not (has_exited s.lines line.pid.0))
    e in
    let q = and_parts first (ltb (known_count s) made_limit) p.0 in
    let r = and_parts (is_known (known_count s) line.pid.0) (not (has_exited s.lines line.pid.0)) p.1 in
    let there : IsProcess (known_count s) line.pid.0 = known_from (known_count s) line.pid.0 r.0 in
    record {
      names = (there, fork_awaits (known_count s) line.act forks);
      forks = λ f. (
        λ several. eqb-true line.pid.0 1 (either_other s.serial (eqb line.pid.0 1) q.0 several),
        there,
        ltb-true (known_count s) made_limit q.1,
      );
      quiet = not-true (has_exited s.lines line.pid.0) r.1;
      asks = fork_asks s.serial line.act forks;
    }

pub fork_may : (s : Plan) (line : Line) → asks_fork line.act ≡ true → MayJoin s line → may_fork s line.pid.0 ≡ true
fork_may s line forks may =
    let f = may.forks forks in
    let first = s.serial || eqb line.pid.0 1 in
    and_from (first && ltb (known_count s) made_limit) (is_known (known_count s) line.pid.0 && not (has_exited s.lines line.pid.0))
    (and_from first (ltb (known_count s) made_limit)
    (either_from s.serial (eqb line.pid.0 1) (λ several. eq-eqb line.pid.0 1 (f.0 several))) (lt-ltb (known_count s) made_limit f.2))
    (and_from (is_known (known_count s) line.pid.0) (not (has_exited s.lines line.pid.0)) (known_to (known_count s) line.pid.0 may.names.0)
    (ap not may.quiet))
