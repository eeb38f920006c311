-- How the refusal of a body is told.
use Rattle.std.proofs.Common.{◌≡◌, ◌≢◌, ℕ, List, Option, Some, refl}
use Rattle.serde_json.specs.Data.{Data}
use Rattle.kube_meta.specs.declared.resources.Resource.{Resource}
use Rattle.json_obj.specs.Objects.{IsTextOf, refusal}
use Rattle.json_obj.specs.declared.refusals.ObjNo.{ObjNo}
use Rattle.json_obj.specs.declared.refusals.ObjNo.TheVariants as object_no
use Rattle.route_req.specs.declared.transactions.TxTextNo.{TxTextNo}
use Rattle.route_req.specs.declared.transactions.TxTextNo.TheVariants as text_no
use Rattle.route_req.specs.Texts.{RefusesText}
use Rattle.route_req.specs.Asks.{refused_object, RefusesObject, refused_transaction, RefusesTransact}

pub RefusesObject-told : (r : Resource) (ns : List ℕ) (name : Option (List ℕ)) (body : List ℕ) (fault : ObjNo)
    → (fault ≡ object_no.NotJson → (d : Data) → ¬ (IsTextOf body d))
    → (fault ≢ object_no.NotJson → fault ≢ object_no.Memory → (d : Data) × IsTextOf body d × (refusal r ns name d ≡ Some fault))
    → RefusesObject r ns name body (refused_object fault)
RefusesObject-told r ns name body object_no.NotJson not_json refused = not_json refl
RefusesObject-told r ns name body object_no.Memory not_json refused = tt
RefusesObject-told r ns name body fault not_json refused = refused (λ e. cc) (λ e. cc)

pub RefusesTransact-told : (body : List ℕ) (fault : TxTextNo) → RefusesText body fault → RefusesTransact body (refused_transaction fault)
RefusesTransact-told body text_no.Memory is = tt
RefusesTransact-told body fault is = is
