-- Which process has exited before a line.
use Rattle.std.proofs.Common.{◌≡◌, ◌≢◌, ℕ, Bool, true, false, eqb, eq-eqb, ◌&&◌}
use Rattle.std.proofs.Common.{List, [], ◌∷◌, ◌++◌, refl, sym}
use Rattle.std.proofs.lemmas.Bool.{eqb-true, and_from, and_left, and_right}
use Rattle.std.proofs.lemmas.Bool.{or_parts, false_from_ne_true, both_ways}
use Rattle.ux_syntax.specs.Lines.{Line}
use Rattle.ux_syntax.specs.Spelling.{asks_exit}
use Rattle.ux_syntax.specs.Spelling.{NoneAfterExit}
use Rattle.ux_syntax.specs.Turns.{has_exited}
use Rattle.ux_syntax.proofs.Scripts.Limits.{each_more, each_less}

differ : (a b : ℕ) → eqb a b ≡ false → b ≢ a
differ a b h e = let same : eqb a b ≡ true = eq-eqb a b (sym e) in absurd cc

quiet_and : (a b : ℕ) (x : Bool) → (x ≡ true → b ≢ a) → (eqb a b && x) ≡ false
quiet_and a b true h = and_left (eqb a b) true (false_from_ne_true (eqb a b) (λ e. h refl (sym (eqb-true a b e))))
quiet_and a b false h = and_right (eqb a b) false refl

left_false : (a b : Bool) → (a && b) ≡ false → b ≡ true → a ≡ false
left_false a b e h = false_from_ne_true a (λ t. both_ways (a && b) e (and_from a b t h))

pub exits_more : (ls : List Line) (l : Line) → NoneAfterExit ls → has_exited ls l.pid.0 ≡ false → NoneAfterExit (ls ++ l ∷ [])
exits_more [] l n h = (λ e. tt, tt)
exits_more (u ∷ us) l n h =
    let p = or_parts (eqb u.pid.0 l.pid.0 && asks_exit u.act) (has_exited us l.pid.0) h in (
      λ e. each_more (λ v. v.pid.0 ≢ u.pid.0) us l (n.0 e)
          (differ u.pid.0 l.pid.0 (left_false (eqb u.pid.0 l.pid.0) (asks_exit u.act) p.0 e)),
      exits_more us l n.1 p.1,
    )

pub exits_less : (ls : List Line) (l : Line) → NoneAfterExit (ls ++ l ∷ []) → NoneAfterExit ls × (has_exited ls l.pid.0 ≡ false)
exits_less [] l n = (tt, refl)
exits_less (u ∷ us) l n =
    let p = exits_less us l n.1 in
    let here : (eqb u.pid.0 l.pid.0 && asks_exit u.act) ≡ false =
    quiet_and u.pid.0 l.pid.0 (asks_exit u.act) (λ e. (each_less (λ v. v.pid.0 ≢ u.pid.0) us l (n.0 e)).1) in
    ((λ e. (each_less (λ v. v.pid.0 ≢ u.pid.0) us l (n.0 e)).0, p.0), rw (here, p.1) refl)
