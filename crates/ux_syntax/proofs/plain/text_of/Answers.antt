use Rattle.ux_syntax.proofs.Plainly.{closes, text_starts, text_more}
use Rattle.std.proofs.Common.{◌≡◌, false, get_or, length, ◌≤◌, List, ℕ, [], ◌∷◌, arith}
use Rattle.std.proofs.lemmas.Bool.{ne_eqb}
use Rattle.ux_syntax.proofs.plain.text_of.Goals as goal

pub loop-rest-init : goal.loop-rest-init
loop-rest-init c = rw c.new-bytes.ensures.items (text_starts c.args.text.now)

pub loop-rest-preserved : goal.loop-rest-preserved
loop-rest-preserved c =
    rw c.in_ok-push.ensures.items
    (text_more c.args.text.now c.loop-rest.bytes.items c.loop-rest.rest.now (c.in_ok-byte.byte, c.in_ok-byte.after.now)
    (open_first c.loop-rest.rest.now c.in-len1-up.len_at_least c.if-first-eq34.false) c.in_ok-byte.ensures c.loop-rest.invariant)
  where
    open_first : (cs : List ℕ) → 1 ≤ length cs → (get_or cs 0 0 ≡ 34 → ⊥) → closes cs ≡ false
    open_first [] long e = absurd (omega arith)
    open_first (x ∷ xs) long e = ne_eqb x 34 e
