use Rattle.delortxa.proofs.layered.with_layer.Goals as goal

pub returns-clause-promised : goal.returns-clause-promised
returns-clause-promised g c = λ i output at. (c.in_ok-outputs.ensures.promised i output at).1.0

pub returns-clause-calls : goal.returns-clause-calls
returns-clause-calls g c = λ i output at. let e = c.in_ok-outputs.ensures.promised i output at in (e.0, e.1.1, e.2)
