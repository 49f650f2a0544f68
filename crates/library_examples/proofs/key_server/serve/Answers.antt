use Rattle.library_examples.proofs.KeyServer.{begins, served}
use Rattle.library_examples.proofs.key_server.serve.Goals as goal

pub returns : goal.returns
returns g c = served c.in_ok-kernel.kernel c.in_ok-with_layer.field-0.0.items c.in_ok-with_layer.field-0.1.items
    (begins _ _ _ _ _ _ c.new.ensures c.in_ok-boot.ensures.made c.in_ok-process.ensures c.in_ok-boot-2.ensures c.in_ok-process-2.ensures
    c.in_ok-kernel.ensures.state)
    c.in_ok-with_layer.ensures.legal c.in_ok-with_layer.ensures.all c.in_ok-with_layer.ensures.calls
