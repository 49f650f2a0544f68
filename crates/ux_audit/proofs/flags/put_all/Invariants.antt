use Rattle.std.proofs.Common.{◌≡◌, ℕ, ◌==◌, cond, take, map, ◌≤◌, ◌^◌, length, Some}
use Rattle.std.specs.List.{list_any}
use Rattle.ux_model.specs.Places.{place}
use Rattle.ux_audit.proofs.flags.put_all.Given as goal

abbrev pub invariant-loop-fd : goal.invariant-loop-fd
invariant-loop-fd l = record {
  flags : (k : ℕ) → place l.row.items k ≡ cond (list_any (λ m. m == k) (map (λ fd. fd.0) (take l.fd-index l.numbers))) (Some l.cloexec)
      (place l.initial.row.items k);
  small : length l.initial.row.items ≤ 2 ^ 32 → length l.row.items ≤ 2 ^ 32;
}
