use Rattle.rev_front.proofs.Passing.{extends_trans}
use Rattle.shared_client.proofs.cacher.Cacher.feed.Goals as goal

pub returns : goal.returns
returns g c = record {
  extends = extends_trans _ _ _ c.look-until.ensures.extends (extends_trans _ _ _ c.feed-pods.ensures.extends (extends_trans _ _ _ c.feed-config_maps.ensures.extends c.feed-deployments.ensures.extends));
}
