use Rattle.std.proofs.Common.{◌≡◌, Some, None, if◌then◌else◌, Bool, true, false}
use Rattle.ux_types.specs.Requests.{has_parts}
use Rattle.ux_types.proofs.requests.RequestClone.clone.Goals as goal

-- what is there where nothing has parts is the request itself
same_one : {X : Type 0} (b : Bool) (x y : X) → Some y ≡ (if b then None else Some x) → y ≡ x
same_one true x y h = absurd (cc h)
same_one false x y h = cc h

pub returns-in-Some : goal.returns-in-Some
returns-in-Some c = record {
  cases = same_one (has_parts c.args.self.now) c.args.self.now c.in-Some.copy (cc (c.in-Some.is, c.numbers.ensures));
}
