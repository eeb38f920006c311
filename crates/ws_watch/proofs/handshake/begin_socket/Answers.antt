use Rattle.ws_watch.proofs.handshake.begin_socket.Goals as goal

pub returns : goal.returns
returns g c = rw (← c.accept_bytes-accepted.ensures) c.write_pieces.ensures
