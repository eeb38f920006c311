-- Laws of outcomes: a request has one.
use Rattle.std.specs.Prelude.{◌≡◌, ◌≢◌, ℕ, List, Option, Some, None}
use Rattle.std.specs.List.{slice_get}
use Rattle.serde_json.specs.Data.{Data}
use Rattle.kube_meta.specs.declared.resources.Resource.{Resource}
use Rattle.http_read.specs.declared.request.Req.{Req}
use Rattle.select_all.specs.Reading.{IsRead}
use Rattle.select_all.specs.declared.selection.Selection.{Selection}
use Rattle.json_obj.specs.Objects.{value_refusal}
use Rattle.route_req.specs.Texts.{IsList, object_in}
use Rattle.route_req.specs.Asks.{IsRoute, IsRefusal}
use Rattle.route_req.specs.declared.routing.Routed.{Routed}
use Rattle.route_req.specs.declared.routing.RouteNo.{RouteNo}
use Rattle.route_req.specs.declared.routing.RouteNo.TheVariants.{Memory}

-- The texts of two selectors stand for at most one selection.
abbrev pub SelectionsAgree : Type 0
SelectionsAgree =
    (resource : Resource) (ns : Option (List ℕ)) (label field : List ℕ) (s t : Selection) →
    IsRead resource ns label field s → IsRead resource ns label field t → s ≡ t

-- A request that has a route isn't refused, but for want of memory.
abbrev pub RoutesAreNotRefused : Type 0
RoutesAreNotRefused = (req : Req) (answer : Routed) (fault : RouteNo) → IsRoute req answer → IsRefusal req fault → fault ≡ Memory

-- One that is refused, and not for want of memory, is refused for one reason.
abbrev pub RefusalsAgree : Type 0
RefusalsAgree = (req : Req) (a b : RouteNo) → IsRefusal req a → IsRefusal req b → a ≢ Memory → b ≢ Memory → a ≡ b

-- One that has a route has one.
abbrev pub AnswersAgree : Type 0
AnswersAgree = (req : Req) (a b : Routed) → IsRoute req a → IsRoute req b → a ≡ b

-- The object in an item of a body that is a list has no float and doesn't nest too deep, as the whole body.
abbrev pub ItemObjectsArePlain : Type 0
ItemObjectsArePlain =
    (body : List ℕ) (items : List Data) (i : ℕ) (d inner : Data) →
    IsList body items → slice_get items i ≡ Some d → object_in d ≡ Some inner → value_refusal inner ≡ None
