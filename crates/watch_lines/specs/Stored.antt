-- What the lines of a watch tell of: objects that are stored, revisions, and refusals.
use Rattle.std.specs.Prelude.{◌≡◌, ℕ, ◌^◌, ◌<◌, ◌≤◌, List, Option, None, IsUtf8}
use Rattle.serde_json.specs.Data.{Data}
use Rattle.kube_meta.specs.Names.{IsNamespace}
use Rattle.kube_meta.specs.declared.objects.Obj.{Obj}
use Rattle.kube_meta.specs.declared.resources.Resource.{Resource}
use Rattle.json_obj.specs.Objects.{refusal, IsObjectOf}
use Rattle.json_obj.specs.Orderly.{IsOrderly}
use Rattle.json_obj.specs.Replies.{status_text}
use Rattle.json_obj.specs.declared.replies.Refusal.{Refusal}

-- the object is the one that is stored for a value, as a reader of JSON gives it, that nothing refuses in its namespace and at some path
pub record IsStored (resource : Resource) (obj : Obj) : Type 0 where
  pub ns : List ℕ
  pub path : Option (List ℕ)
  pub value : Data
  pub namespace : IsNamespace ns
  pub orderly : IsOrderly value
  pub allowed : refusal resource ns path value ≡ None
  pub stored : IsObjectOf resource ns value obj

-- a revision that a line may have: from 1 to 2 ^ 62
abbrev pub IsToldAt : ℕ → Type 0
IsToldAt rev = (1 ≤ rev) × (rev ≤ 2 ^ 62)

-- the text is the Status of some refusal with this code
pub record IsStatus (text : List ℕ) (code : ℕ) : Type 0 where
  pub refusal : Refusal
  pub code_is : refusal.code ≡ code
  pub fits : refusal.code < 2 ^ 16
  pub reason_utf8 : IsUtf8 refusal.reason
  pub message_utf8 : IsUtf8 refusal.message
  pub text_is : text ≡ status_text refusal
