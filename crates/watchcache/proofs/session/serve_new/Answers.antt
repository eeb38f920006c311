use Rattle.std.proofs.Common.{Some, true, inl, refl, rules}
use Rattle.client_api.specs.Facts.{all_served}
use Rattle.local_client.specs.CachedLogs.{known_log, window_of}
use Rattle.load_gen.proofs.NewLogLemmas.{of_new_log}
use Rattle.watchcache.proofs.session.serve_new.Goals as goal

pub returns-in-Ok : goal.returns-in-Ok
returns-in-Ok g c =
    let s = c.serve_session-end.ensures.session in
    let client = c.in-Ok.client in
    record {
      run = inl (record {
        taken = s.0;
        written = s.1;
        readings = s.2;
        seat = client.told.seat;
        last = c.serve_session-end.new.client.told;
        how = c.serve_session-end.result;
        source = s.3;
        sink = s.4;
        clock = s.5;
        session = of_new_log _ _ _ (record { watching = client.watch; heard = client.heard; did = client.author; window = window_of (known_log client.caches client.told); sole_history = Some client.caches.store.history; resources = all_served; operable = true }) (known_log client.caches client.told) c.args.settings.now _ _ _ c.requires.first c.requires.base c.requires.own refl refl refl refl c.in-Ok.ensures.log s.6;
        settled = c.serve_session-end.ensures.settled;
        status_is = search rules;
      });
    }
