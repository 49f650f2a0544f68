use Rattle.library_examples.proofs.Greeting.{reads_hello}
use Rattle.library_examples.proofs.hello.HelloBookProgram.run.Goals as goal

pub returns-clause-promised : goal.returns-clause-promised
returns-clause-promised g c = λ is. reads_hello g.W.BookName.boot _ _ _ _ _ _ _ _ c.read.result is c.requires
    c.in_ok-notes.ensures.made c.in_ok-write.ensures.made c.in_ok-lseek.ensures.made c.read.ensures.made
