use Rattle.std.proofs.Common.{sym, ◌∙◌}
use Rattle.ux_state.proofs.Added.{of_err, of_ok, taken_back, undone}
use Rattle.ux_state.proofs.state.State.open_created.Goals as goal

pub returns-then-is_err-clause-err : goal.returns-then-is_err-clause-err
returns-then-is_err-clause-err g c =
    taken_back c.args.self.now c.add_object.new.self c.add_path.new.self c.take_back.new.self _ c.in_ok-add_object.ensures.ok
    (of_err c.add_path.result (sym c.is_err.ensures.value ∙ c.if-is_err.true) c.add_path.ensures.err) c.take_back.ensures

pub returns-in-Err-clause-err : goal.returns-in-Err-clause-err
returns-in-Err-clause-err g c =
    undone c.args.self.now c.add_object.new.self c.add_path.new.self c.open_object.new.self c.unlink.new.self
    c.take_back-in-Err.new.self _ c.args.path.now _ c.requires.new c.in_ok-add_object.ensures.ok
    (of_ok c.add_path.result (sym c.is_err.ensures.value ∙ c.if-is_err.false) c.add_path.ensures.ok) c.in-Err.ensures.err c.unlink.ensures
    c.take_back-in-Err.ensures
