use Rattle.ux_script.proofs.run.make_watched.Goals as goal

pub returns-in-Err-Stranger-clause-stranger : goal.returns-in-Err-Stranger-clause-stranger
returns-in-Err-Stranger-clause-stranger g c = λ s. c.in-Err-Stranger.ensures.stranger c.in-Err-Stranger.field-0-is
