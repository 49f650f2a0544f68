use Rattle.std.proofs.Common.{◌+◌, ℕ, cond, ap, ◌∙◌}
use Rattle.ux_model.specs.Types.{Request, Reply}
use Rattle.ux_model.specs.History.{makes_one}
use Rattle.ux_book.specs.Books.{processes}
use Rattle.ux_book.proofs.Legal.{processes_after}
use Rattle.ux_script.proofs.run.fork.Goals as goal

pub returns-in-Ok-Child-clause-made : goal.returns-in-Ok-Child-clause-made
returns-in-Ok-Child-clause-made g c =
    processes_after c.args.serial.now c.fork.new.self _ c.in-Ok-Child.ensures.made.adds
    ∙ ap (λ (reply : Reply). processes c.args.serial.now + cond {A = ℕ} (makes_one Request.Fork reply) 1 0) c.in-Ok-Child.field-0-is
