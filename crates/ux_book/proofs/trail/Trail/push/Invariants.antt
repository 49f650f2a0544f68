use Rattle.ux_book.proofs.trail.Trail.push.Given as goal

-- the entry that is added
abbrev pub ghosts-note : goal.ghosts-note
ghosts-note a = record {
  entry = record {
    pid = record { 0 = a.keeper.now.me.0.pid };
    k = a.k;
    request = a.request.now;
    reply =
        a.done.now.reply;
    released = a.released.now;
    delivered = a.done.now.delivered;
  };
}
