-- What a cluster's list, or the lack of one, says of its bytes.
use Rattle.std.proofs.Common.{◌≡◌, ◌∙◌, sym, subst, ap, inl, inr, ◌++◌, ℕ, List, [], Option, Some, None, Ok, Err, IfSome}
use Rattle.std.specs.Prelude.{Result, IfErr}
use Rattle.cluster_link.specs.Lists.{AnswersList, IsOfAll, ListData}
use Rattle.cluster_link.specs.Pages.{ArePages, GatheredData, HasNoPage, IsLeftUnsent, page_requests}
use Rattle.cluster_link.specs.Refusals.{reply_refusal, request_refusal}
use Rattle.cluster_link.specs.declared.refusal.ClusterNo.{ClusterNo}
use Rattle.cluster_link.specs.declared.refusal.ClusterNo.TheVariants.{WriteFault, Memory}
use Rattle.edge_io.specs.Counts.{Rose}
use Rattle.edge_io.specs.Sent.{Sent}
use Rattle.edge_io.specs.Told.{prepended}
use Rattle.kube_meta.specs.Names.{IsNamespace}
use Rattle.kube_meta.specs.declared.resources.Resource.{Resource}
use Rattle.line_stream.specs.ClusterRequests.{page_request}
use Rattle.line_stream.specs.declared.asking.AskNo.{AskNo}
use Rattle.line_stream.specs.declared.asking.AskNo.TheVariants as ask
use Rattle.line_stream.specs.declared.refusal.LineNo.{LineNo}
use Rattle.line_stream.specs.declared.refusal.LineNo.TheVariants as line
use Rattle.select_all.specs.declared.selection.Selection.{Selection}
use Rattle.watchcache.specs.Lists.{IsOfResource, IsOfReply, ListsAll}

-- a request that wasn't sent on is no reason that bytes give
unsent : (fault : AskNo) (why : ClusterNo) → why ≡ request_refusal fault → IsOfReply why → ⊥
unsent ask.WriteFault why is of = subst IsOfReply is of
unsent ask.Memory why is of = subst IsOfReply is of

-- what was read of a cluster is a list, or none for a reason that its bytes give
pub lists : (resource : Resource) (namespace : Option (List ℕ)) (s : Selection) (old new : Option (List ℕ)) (taken : List ℕ) (sent : Sent) (result : Result ListData ClusterNo) →
    IsOfResource resource namespace s → old ≡ prepended taken new → AnswersList s taken new sent result → ListsAll resource namespace old result
lists resource namespace s None new taken sent (Ok list) of is has = λ lawful. tt
lists resource namespace s None new taken sent (Err why) of is lacks = λ reply. tt
lists resource namespace s (Some bytes) new taken sent (Ok list) of is has = λ lawful. record {
  taken = taken;
  left = new;
  list = list;
  pages = has.pages;
  kept = has.kept;
  of_resource = subst (IsOfResource resource namespace) (sym has.selection) of;
  lawful = lawful;
  front = is;
  are = subst (λ (r : Resource). ArePages r has.pages (record { rows = list.rows; at = Some list.at; token = [] }) taken has.kept) of.resource_is has.are;
}
lists resource namespace s (Some bytes) new taken sent (Err why) of is (inl lacks) = λ reply. elim lacks.lacks [
  | inl h ↦ absurd (unsent h.0 why h.1 reply)
  | inr h ↦ inl (record {
    first = lacks.first;
    last = lacks.last;
    left = new;
    pages = lacks.pages;
    gathered = lacks.gathered;
    kept = lacks.kept;
    front = is ∙ ap (λ xs. prepended xs new) lacks.taken_are;
    are = subst (λ (r : Resource). ArePages r lacks.pages lacks.gathered lacks.first lacks.kept) of.resource_is lacks.are;
    lacks = subst (λ (r : Resource). HasNoPage r lacks.gathered (lacks.kept ++ lacks.last) new why) of.resource_is h.1;
  })
]
lists resource namespace s (Some bytes) new taken sent (Err why) of is (inr lacks) = λ reply. inr (record {
  taken = taken;
  left = new;
  selection = s;
  pages = lacks.pages;
  gathered = lacks.gathered;
  kept = lacks.kept;
  of_resource = of;
  front = is;
  are = subst (λ (r : Resource). ArePages r lacks.pages lacks.gathered taken lacks.kept) of.resource_is lacks.are;
  fault = lacks.fault;
})

-- the reason isn't that a request was broken off
abbrev IsRead : ClusterNo → Type 0
IsRead WriteFault = ⊥
IsRead why = Unit {0}

read_reply : (fault : LineNo) → IsRead (reply_refusal fault)
read_reply line.BadHead = tt
read_reply (line.Refused code) = tt
read_reply line.BadChunk = tt
read_reply line.Overlong = tt
read_reply line.Unfinished = tt
read_reply line.Spent = tt
read_reply line.CutShort = tt
read_reply line.ReadFault = tt
read_reply line.Memory = tt

read_page : (resource : Resource) (gathered : GatheredData) (bytes : List ℕ) (left : Option (List ℕ)) (why : ClusterNo) → HasNoPage resource gathered bytes left why → IsRead why
read_page resource gathered bytes left why (inl h) = subst IsRead (sym h.2) (read_reply h.0)
read_page resource gathered bytes left why (inr (text, after, body, inl is)) = subst IsRead (sym is) tt
read_page resource gathered bytes left why (inr (text, after, body, inr (inl is))) = subst IsRead (sym is.0) tt
read_page resource gathered bytes left why (inr (text, after, body, inr (inr is))) = subst IsRead (sym is.0) tt

broken : (fault : AskNo) (why : ClusterNo) (first last : List ℕ) (sent : Sent) → why ≡ request_refusal fault → IsLeftUnsent first last fault sent → why ≡ WriteFault →
    Rose sent.faults_old sent.faults_new
broken ask.WriteFault why first last sent is unsent-is fault = unsent-is.1
broken ask.Memory why first last sent is unsent-is fault = absurd (subst IsRead (sym is ∙ fault) tt)

-- where the sink failed that a list was asked for over, its count of faults rose
pub rose : (s : Selection) (taken : List ℕ) (left : Option (List ℕ)) (sent : Sent) (result : Result ListData ClusterNo) → AnswersList s taken left sent result →
    IfErr result (λ why. why ≡ WriteFault → Rose sent.faults_old sent.faults_new)
rose s taken left sent (Ok list) has = tt
rose s taken left sent (Err why) (inl lacks) = λ fault. elim lacks.lacks [
  | inl h ↦ broken h.0 why (page_requests s.resource s.ns lacks.pages) (page_request s.resource s.ns lacks.gathered.token) sent h.1 h.2 fault
  | inr h ↦ absurd (subst IsRead fault (read_page s.resource lacks.gathered (lacks.kept ++ lacks.last) left why h.1))
]
rose s taken left sent (Err why) (inr lacks) = λ fault. elim lacks.fault [
  | inl h ↦ absurd (subst IsRead (sym h.0 ∙ fault) tt)
  | inr h ↦ absurd (subst IsRead (sym h ∙ fault) tt)
]

-- what is selected is all of the resource, or of the namespace
pub of_all : (resource : Resource) (namespace : Option (List ℕ)) (s : Selection) → IsOfResource resource namespace s → IfSome namespace IsNamespace → IsOfAll s
of_all resource namespace s read named = record {
  read = subst (λ (n : Option (List ℕ)). IsOfResource s.resource n s) (sym read.ns_is) (subst (λ (r : Resource). IsOfResource r namespace s) (sym read.resource_is) read);
  namespace = subst (λ (n : Option (List ℕ)). IfSome n IsNamespace) (sym read.ns_is) named;
}
