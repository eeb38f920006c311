-- The route of a mirror's request.
use Rattle.std.specs.Prelude.{IfSome, not}
use Rattle.std.proofs.Common.{◌≡◌, ℕ, Bool, false, cond, List, length, Option, Some, None, refl, sym, ap, subst, codes, is_some, ◌&&◌, ◌==◌}
use Rattle.http_read.specs.Laws.{ReadsInOneWay}
use Rattle.http_read.specs.Queries.{first_value}
use Rattle.http_read.specs.declared.request.Req.{Req}
use Rattle.kube_meta.specs.Names.{IsNamespace}
use Rattle.kube_meta.specs.declared.resources.Resource.TheVariants.{Pods}
use Rattle.line_stream.specs.Requests.{pairs_of}
use Rattle.route_req.specs.Asks.{AsksRead, IsRoute, first_refusal, is_write}
use Rattle.route_req.specs.Outcomes.{AnswersAgree}
use Rattle.route_req.specs.Places.{Names, action_at, place_path}
use Rattle.route_req.specs.declared.places.Action.TheVariants.{Read}
use Rattle.route_req.specs.declared.places.Place.TheVariants.{Everywhere, Namespaced}
use Rattle.route_req.specs.declared.routing.Routed.TheVariants as routed
use Rattle.route_req.specs.declared.routing.RouteNo.{RouteNo}
use Rattle.watch_rules.specs.declared.ask.WatchAsk.{WatchAsk}
use Rattle.laws.specs.MirrorQueries.{MirrorQueriesAskWatches, MirrorRequestsAreRead, MirrorRequestsAreRouted, MirrorsGetTheirWatches, IsMirrorsRequest, IsMirrorsWatch, pods_place}

-- none of three reasons holds
no_reason : (a b c : Bool) (x y z : RouteNo) → a ≡ false → b ≡ false → c ≡ false → cond a (Some x) (cond b (Some y) (cond c (Some z) None)) ≡ None
no_reason a b c x y z ea eb ec = rw (ea, eb, ec) refl

-- a GET of this site isn't refused whatever its path
unrefused : (req : Req) → req.method ≡ codes "GET" → req.foreign ≡ false → first_refusal req ≡ None
unrefused req get own = no_reason _ _ _ _ _ _ own
    (ap (λ (method : List ℕ). is_write method && req.unreadable && not (length req.body == 0)) get)
    (ap (λ (method : List ℕ). is_write method && is_some (first_value (codes "dryRun") req.params)) get)

names : (ns : Option (List ℕ)) (path : List (List ℕ)) → IfSome ns IsNamespace → path ≡ place_path (pods_place ns) → Names path (pods_place ns)
names None path is same = (same, tt)
names (Some ns) path is same = (same, is)

reads : (ns : Option (List ℕ)) (method : List ℕ) → method ≡ codes "GET" → action_at (pods_place ns) method ≡ Some (Read Pods ns)
reads None method get = ap (action_at (Everywhere Pods)) get
reads (Some ns) method get = ap (action_at (Namespaced Pods ns)) get

module _ (law : MirrorQueriesAskWatches) (agree : AnswersAgree) where
  pub requests_are_routed : MirrorRequestsAreRouted
  requests_are_routed ns label field start s req may named read is =
      let both = law ns label field start s may read in
      let found = both.1 (routed.Watch both.0.0) both.0.1 in
      let asks : AsksRead Pods ns req.params (routed.Watch found.0) =
      subst (λ params. AsksRead Pods ns params (routed.Watch found.0)) (sym is.params)
      (subst (AsksRead Pods ns (pairs_of start label field)) found.1 both.0.1) in
      let route : IsRoute req (routed.Watch found.0) =
      (unrefused req is.method is.own, (pods_place ns, Read Pods ns, names ns req.path named is.path, reads ns req.method is.method, asks)) in
      (found.0, found.2, route, λ answer other. agree req answer (routed.Watch found.0) other route)

same_watch : (ask other : WatchAsk) → routed.Watch ask ≡ routed.Watch other → ask ≡ other
same_watch ask other same = cc

pub mirrors_get_watches : ReadsInOneWay → MirrorRequestsAreRead → MirrorRequestsAreRouted → MirrorsGetTheirWatches
mirrors_get_watches one reading routing ns label field start s more rest req ask stream may named l f short read reads answers =
    let found = reading ns label field start more may named l f short in
    let is : IsMirrorsRequest ns start label field req =
    subst (IsMirrorsRequest ns start label field) (one _ found.0 req more rest found.1 reads).0 found.2 in
    let route = routing ns label field start s req may named read is in
    subst (IsMirrorsWatch s start) (sym (same_watch ask route.0 (route.3 (routed.Watch ask) answers.0))) route.1
