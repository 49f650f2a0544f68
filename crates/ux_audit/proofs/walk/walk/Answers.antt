use Rattle.std.proofs.Common.{List, reverse, subst, sym, arith}
use Rattle.ux_model.specs.Types.{Link}
use Rattle.ux_model.specs.Pedigree.{IsPedigree}
use Rattle.ux_model.proofs.Lists.ByPlace.{get_within}
use Rattle.ux_audit.proofs.Walking.{IsWalking, walk_ends, walk_goes_on, walk_finds}
use Rattle.ux_audit.proofs.Originating.{origin_found, never_found, giver_earlier}
use Rattle.ux_audit.proofs.walk.walk.Goals as goal

pub returns-in_default-2 : goal.returns-in_default-2
returns-in_default-2 c = λ boot legal held.
    let es = c.args.entries.now in
    let g = c.in-Some.ensures in
    let at = get_within es c.in-Some.j (omega (arith, g.0, c.loop-j.invariant.within)) in
    absurd (never_found es c.in-Some.j c.loop-j.number.0 c.in_ok-origin.field-0 c.in_default-2.is c.in_ok-origin.ensures.none boot
    c.loop-j.holder.0 at.0 legal at.1 (g.1 at.0 at.1))

pub returns-in_default-from : goal.returns-in_default-from
returns-in_default-from c = λ boot legal held.
    let es = c.args.entries.now in
    let g = c.in-Some.ensures in
    let at = get_within es c.in-Some.j (omega (arith, g.0, c.loop-j.invariant.within)) in
    let from = origin_found es c.in-Some.j c.loop-j.number.0 at.0 c.in_ok-origin.field-0 c.in-Some-2.origin c.in-Some-2.is
    c.in_ok-origin.ensures.found at.1 in
    subst (λ (l : List Link). IsPedigree boot es (reverse l) c.args.pid.0 c.args.fd.0) (sym c.in_ok-push.ensures.items)
    (walk_ends boot es c.args.pid.0 c.args.fd.0 c.loop-j.links.items c.in-Some.j c.loop-j.until c.loop-j.holder c.loop-j.number at.0
    c.in-Some-2.origin legal c.loop-j.invariant.within
    (c.loop-j.invariant.walking boot legal held) g.0 at.1 g.1 g.2 from c.in_default-from.is)

pub loop-j-smaller : goal.loop-j-smaller
loop-j-smaller c =
    let es = c.args.entries.now in
    let g = c.in-Some.ensures in
    let at = get_within es c.in-Some.j (omega (arith, g.0, c.loop-j.invariant.within)) in
    let from = origin_found es c.in-Some.j c.loop-j.number.0 at.0 c.in_ok-origin.field-0 c.in-Some-2.origin c.in-Some-2.is
    c.in_ok-origin.ensures.found at.1 in
    let early = giver_earlier es c.in-Some.j c.loop-j.number.0 at.0 c.in-Some-2.origin c.in-Some-from.giver from c.in-Some-from.is in
    omega (arith, g.0, early)

pub loop-j-preserved : goal.loop-j-preserved
loop-j-preserved c =
    let es = c.args.entries.now in
    let g = c.in-Some.ensures in
    let at = get_within es c.in-Some.j (omega (arith, g.0, c.loop-j.invariant.within)) in
    let from = origin_found es c.in-Some.j c.loop-j.number.0 at.0 c.in_ok-origin.field-0 c.in-Some-2.origin c.in-Some-2.is
    c.in_ok-origin.ensures.found at.1 in
    let early = giver_earlier es c.in-Some.j c.loop-j.number.0 at.0 c.in-Some-2.origin c.in-Some-from.giver from c.in-Some-from.is in
    record {
      within = omega (arith, g.0, early, c.loop-j.invariant.within);
      walking = λ boot legal held.
          subst (λ (l : List Link). IsWalking boot es c.args.pid.0 c.args.fd.0 l c.in-Some-from.giver.pid.0 c.in-Some-from.giver.fd.0
          c.in-Some-from.giver.until) (sym c.in_ok-push.ensures.items)
          (walk_goes_on boot es c.args.pid.0 c.args.fd.0 c.loop-j.links.items c.in-Some.j c.loop-j.until c.loop-j.holder c.loop-j.number
          at.0 c.in-Some-2.origin c.in-Some-from.giver legal
          c.loop-j.invariant.within (c.loop-j.invariant.walking boot legal held) g.0 at.1 g.1 g.2 from c.in-Some-from.is);
    }

pub returns : goal.returns
returns c = λ boot legal held.
    absurd (walk_finds boot c.args.entries.now c.args.pid.0 c.args.fd.0 c.loop-j.links.items c.loop-j.until c.loop-j.holder.0
    c.loop-j.number.0 legal c.loop-j.invariant.within
    (c.loop-j.invariant.walking boot legal held) c.in_default.ensures)
