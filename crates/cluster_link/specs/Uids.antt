-- The uid of the namespace that each cluster has, by which it is told from others.
use Rattle.std.specs.Prelude.{◌≡◌, ◌⊎◌, ℕ, Bool, ◌||◌, ◌==◌, if◌then◌else◌, List, [], Option, Some, None, Result, Ok, Err, codes, option_and_then}
use Rattle.serde_json.specs.Data.{Data}
use Rattle.serde_json.specs.Find.{get, as_str}
use Rattle.json_obj.specs.Objects.{IsTextOf, metadata_of}
use Rattle.line_stream.specs.Bodies.{IsBody, ReadsBody}
use Rattle.line_stream.specs.declared.asking.AskNo.{AskNo}
use Rattle.line_stream.specs.declared.refusal.LineNo.{LineNo}
use Rattle.line_stream.specs.declared.refusal.LineNo.TheVariants.{Refused}
use Rattle.cluster_link.specs.Refusals.{reply_refusal, request_refusal}
use Rattle.cluster_link.specs.declared.refusal.ClusterNo.{ClusterNo}
use Rattle.cluster_link.specs.declared.refusal.ClusterNo.TheVariants as no

-- the most bytes of such a reply
abbrev pub most_namespace : ℕ
most_namespace = 16777216

-- a code by which it is told that the namespace may not be read: 401, 403 or 404
abbrev pub is_hidden : ℕ → Bool
is_hidden code = (code == 401) || ((code == 403) || (code == 404))

-- the uid in a value's metadata
abbrev pub uid_in : Data → Option (List ℕ)
uid_in d = option_and_then as_str (get (codes "uid") (metadata_of d))

-- the text is of a value with this uid
pub record HasUid (text uid : List ℕ) : Type 0 where
  pub value : Data
  pub is : IsTextOf text value
  pub uid_is : uid_in value ≡ Some uid

-- the text has no uid: it isn't JSON, or its value has none
abbrev pub HasNoUid : List ℕ → Type 0
HasNoUid text = ((d : Data) → ¬ (IsTextOf text d)) ⊎ ((d : Data) × IsTextOf text d × (uid_in d ≡ None))

-- what a reply's text tells: its uid; or it has none
abbrev pub TellsUid : List ℕ → Result (Option (List ℕ)) ClusterNo → Type 0
TellsUid text (Ok (Some uid)) = HasUid text uid
TellsUid text (Ok None) = ⊥
TellsUid text (Err why) = (why ≡ no.Memory) ⊎ ((why ≡ no.BadReply) × HasNoUid text)

-- what is answered where there is no whole reply: nothing where the namespace may not be read, or why
abbrev pub answer_without : LineNo → Result (Option (List ℕ)) ClusterNo
answer_without (Refused code) = if is_hidden code then Ok None else Err (no.Refused code)
answer_without fault = Err (reply_refusal fault)

-- what the reading of a reply answers that took these bytes
abbrev pub ReadsUid : List ℕ → Option (List ℕ) → Result (Option (List ℕ)) ClusterNo → Type 0
ReadsUid bytes left result =
    ((fault : LineNo) × (kept : List ℕ) × (result ≡ answer_without fault) × ReadsBody most_namespace bytes kept left (Err fault))
    ⊎ ((text : List ℕ) × (after : List ℕ) × IsBody bytes text after × TellsUid text result)

-- and the whole call: that, or it wasn't asked for, and nothing was taken
abbrev pub AnswersUid : List ℕ → Option (List ℕ) → Result (Option (List ℕ)) ClusterNo → Type 0
AnswersUid bytes left result =
    ((fault : AskNo) × (result ≡ Err (request_refusal fault)) × (bytes ≡ [])) ⊎ ReadsUid bytes left result
