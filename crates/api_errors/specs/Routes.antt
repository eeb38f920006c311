-- What is told of a request that has no route, or whose options or body are refused. Nothing is told for want of memory.
use Rattle.std.specs.Prelude.{Option, None, codes}
use Rattle.json_obj.specs.declared.refusals.ObjNo.{ObjNo}
use Rattle.json_obj.specs.declared.refusals.ObjNo.TheVariants as object
use Rattle.route_req.specs.declared.routing.RouteNo.{RouteNo}
use Rattle.route_req.specs.declared.routing.RouteNo.TheVariants as route
use Rattle.route_req.specs.declared.unserved.Unserved.{Unserved}
use Rattle.route_req.specs.declared.unserved.Unserved.TheVariants as unserved
use Rattle.route_req.specs.declared.transactions.TxTextNo.{TxTextNo}
use Rattle.route_req.specs.declared.transactions.TxTextNo.TheVariants as transaction
use Rattle.api_errors.specs.Options.{list_told, watch_told}
use Rattle.api_errors.specs.Selectors.{selector_told}
use Rattle.api_errors.specs.Failures.{say, bad, bad_at}
use Rattle.api_errors.specs.declared.reasons.Reason.TheVariants.{Forbidden, NotFound, MethodNotAllowed, UnsupportedMediaType}
use Rattle.api_errors.specs.declared.failures.Failure.{Failure}

-- why a body holds no object that can be stored; what it was to be stored for isn't told
abbrev pub object_told : ObjNo → Option Failure
object_told object.NotJson = bad (codes "object: NotJson")
object_told object.Float = bad (codes "object: Float")
object_told object.TooDeep = bad (codes "object: TooDeep")
object_told object.WrongKind = bad (codes "object: WrongKind")
object_told object.BadMeta = bad (codes "object: BadMeta")
object_told object.Memory = None

-- why a body is no transaction, and in which of its items, counted from 0, where the fault is in one
abbrev pub transaction_failure : TxTextNo → Option Failure
transaction_failure transaction.NotJson = bad (codes "transaction: NotJson")
transaction_failure transaction.Float = bad (codes "transaction: Float")
transaction_failure transaction.TooDeep = bad (codes "transaction: TooDeep")
transaction_failure transaction.NotList = bad (codes "transaction: NotList")
transaction_failure transaction.Empty = bad (codes "transaction: Empty")
transaction_failure transaction.TooManyItems = bad (codes "transaction: TooManyItems")
transaction_failure (transaction.BadItem index) = bad_at (codes "transaction: BadItem in item ") index
transaction_failure (transaction.BadObject index fault) = bad_at (codes "transaction: BadObject in item ") index
transaction_failure (transaction.Repeated index) = bad_at (codes "transaction: Repeated in item ") index
transaction_failure transaction.Memory = None

-- which option isn't served, and that the write was therefore not done
abbrev pub unserved_told : Unserved → Option Failure
unserved_told unserved.DryRun = bad (codes "the server does not serve dryRun, and nothing was done")
unserved_told unserved.Preconditions = bad (codes "the server does not serve preconditions of a deletion, and nothing was done")

-- why a request isn't tried: no such path, no such method there, or what is wrong with its options or its body
abbrev pub route_told : RouteNo → Option Failure
route_told route.ForeignSite = say Forbidden (codes "the server does not allow requests that a browser makes for another site")
route_told route.MediaType = say UnsupportedMediaType (codes "the body of the request was in an unknown format - accepted media types include: application/json")
route_told (route.Unserved option) = unserved_told option
route_told route.NoPath = say NotFound (codes "the server could not find the requested resource")
route_told route.NoMethod = say MethodNotAllowed (codes "the server does not allow this method on the requested resource")
route_told (route.Selector fault) = selector_told fault
route_told (route.List fault) = list_told fault
route_told (route.Watch fault) = watch_told fault
route_told (route.Object fault) = object_told fault
route_told route.Operation = bad (codes "operation: BadRevision")
route_told (route.Transaction fault) = transaction_failure fault
route_told route.Memory = None
