use Rattle.std.proofs.Common.{ℕ, List, MatchOption, sym, subst}
use Rattle.std.specs.Global.{Vec}
use Rattle.ux_audit.specs.Givers.{items_at, places_at, Rises, NoneBelow, IsLastBelow}
use Rattle.ux_audit.proofs.Placing.{later_gives}
use Rattle.ux_audit.proofs.walk.last_given.Goals as goal

pub last_in-born-requires : goal.last_in-born-requires
last_in-born-requires c = record {
  rising =
      subst (λ (l : List (Vec ℕ)). Rises (items_at l c.args.pid.0)) (sym c.as_slice.ensures.value)
      (c.requires.givers.made c.args.pid.0).rising;
}

pub last_own-given-requires : goal.last_own-given-requires
last_own-given-requires c = record {
  rising = subst (λ (l : List (Vec (Vec ℕ))). Rises (places_at l c.args.pid.0 c.args.fd.0)) (sym c.as_slice-2.ensures.value)
      (c.requires.givers.gave c.args.pid.0 c.args.fd.0).rising;
}

pub returns : goal.returns
returns c =
    later_gives c.args.entries.now c.args.index.now.births.items c.args.index.now.rows.items c.args.pid.0 c.args.fd.0 c.args.until
    c.last_in-born.result c.last_own-given.result c.later.result c.requires.within c.requires.givers
    (subst (λ (l : List (Vec ℕ)). MatchOption c.last_in-born.result (NoneBelow c.args.until (items_at l c.args.pid.0))
    (IsLastBelow c.args.until (items_at l c.args.pid.0))) c.as_slice.ensures.value c.last_in-born.ensures)
    (subst (λ (l : List (Vec (Vec ℕ))). MatchOption c.last_own-given.result (NoneBelow c.args.until (places_at l c.args.pid.0 c.args.fd.0))
    (IsLastBelow c.args.until (places_at l c.args.pid.0 c.args.fd.0)))
    c.as_slice-2.ensures.value c.last_own-given.ensures)
    c.later.ensures
