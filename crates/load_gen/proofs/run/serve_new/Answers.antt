use Rattle.std.proofs.Common.{Some, true, refl}
use Rattle.client_api.specs.Facts.{all_served}
use Rattle.local_client.specs.CachedLogs.{known_log, window_of}
use Rattle.load_gen.proofs.LoadLemmas.{figures_told, requests_told}
use Rattle.load_gen.proofs.run.serve_new.Goals as goal

pub returns-clause-requests : goal.returns-clause-requests
returns-clause-requests g c = requests_told c.args.requests c.play-played.result c.list_all-listed.result c.figures.result c.figures.ensures

pub returns-clause-figures : goal.returns-clause-figures
returns-clause-figures g c =
    let client = c.in_ok-client.client in
    let after = c.play-played.new.client in
    let end = c.list_all-listed.new.client in
    figures_told _ _ _ (record { watching = client.watch; heard = client.heard; did = client.author; window = window_of (known_log client.caches client.told); sole_history = Some client.caches.store.history; resources = all_served; operable = true }) c.usual-settings.result (known_log client.caches client.told) (known_log after.caches after.told) c.args.session.items
    c.args.requests end.told c.play-played.result c.list_all-listed.result c.figures.result
    (record {
      first_is = c.requires.first;
      base_is = c.requires.base;
      own = c.requires.own;
      settings_are = c.usual-settings.ensures.is;
      window_is = refl;
      history_is = refl;
      resources_are = refl;
      operable_is = refl;
      new = c.in_ok-client.ensures.log;
      served = c.play-played.ensures.served;
      kept = c.play-played.ensures.kept c.in_ok-client.ensures.log.whole;
      listed_all = c.list_all-listed.ensures.listed;
      sole = c.list_all-listed.ensures.sole;
    }) c.figures.ensures
