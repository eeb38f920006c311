-- The pages of a list, one after another.
use Rattle.std.proofs.Common.{◌≡◌, ℕ, List, [], ◌∷◌, ◌++◌, map, All, Option, None, Some, Result, Ok, Err, Bool, false, refl, sym, ap, ◌∙◌, subst, append_assoc, inl, inr}
use Rattle.std.specs.Prelude.{MatchResult}
use Rattle.std.specs.List.{flat_map}
use Rattle.std.proofs.lemmas.List.{append-nil}
use Rattle.std.proofs.lemmas.List.Elements.{All-head, All-nil, All-push, All-weaker}
use Rattle.edge_io.specs.Sent.{Sent, IsWrittenOut, IsSentOn}
use Rattle.edge_io.specs.Told.{prepended}
use Rattle.edge_io.proofs.ToldLemmas.{prepended-prepended}
use Rattle.edge_io.proofs.SentLemmas.{sent_of, written-behind, broken-behind, written-nothing}
use Rattle.kube_meta.specs.declared.resources.Resource.{Resource}
use Rattle.kube_meta.specs.Rows.{RowData}
use Rattle.line_stream.specs.AskAnswers.{Asks}
use Rattle.line_stream.specs.Bodies.{IsBody}
use Rattle.line_stream.specs.ClusterRequests.{page_request}
use Rattle.line_stream.specs.declared.asking.AskNo.{AskNo}
use Rattle.line_stream.specs.declared.asking.AskNo.TheVariants as ask
use Rattle.select_all.specs.declared.selection.Selection.{Selection}
use Rattle.watch_lines.specs.Pages.{IsPageText}
use Rattle.cluster_link.specs.Pages.{PageData, GatheredData, AddsPage, ArePages, IsNextPage, IsOfRevision, IsLeftUnsent, IsPageRead, LacksPage, NextPage, TakesPage, no_pages, page_requests, revision_of_pages}
use Rattle.cluster_link.specs.Lists.{AnswersList, HoldsPages, IsGathered, LacksNext, ListData}
use Rattle.cluster_link.specs.declared.refusal.ClusterNo.{ClusterNo}
use Rattle.cluster_link.specs.declared.refusal.ClusterNo.TheVariants as no

-- ---- lists

map_push : {A B : Type 0} (f : A → B) (xs : List A) (x : A) → map f (xs ++ x ∷ []) ≡ map f xs ++ f x ∷ []
map_push f [] x = refl
map_push f (y ∷ xs) x = ap (λ rest. f y ∷ rest) (map_push f xs x)

flat_push : {A B : Type 0} (f : A → List B) (xs : List A) (x : A) → flat_map f (xs ++ x ∷ []) ≡ flat_map f xs ++ f x
flat_push f [] x = append-nil (f x)
flat_push f (y ∷ xs) x = ap (λ rest. f y ++ rest) (flat_push f xs x) ∙ sym (append_assoc (f y) (flat_map f xs) (f x))

-- what each has of the one before it
chain_push : {A : Type 0} (f g : PageData → A) (xs : List PageData) (x : PageData) (first last next : A) → map f xs ++ last ∷ [] ≡ first ∷ map g xs → f x ≡ last → g x ≡ next
    → map f (xs ++ x ∷ []) ++ next ∷ [] ≡ first ∷ map g (xs ++ x ∷ [])
chain_push f g xs x first last next chain from to =
    ap (λ l. l ++ next ∷ []) (map_push f xs x) ∙ ap (λ a. (map f xs ++ a ∷ []) ++ next ∷ []) from ∙ ap (λ l. l ++ next ∷ []) chain
    ∙ ap (λ a. first ∷ (map g xs ++ a ∷ [])) (sym to) ∙ ap (λ l. first ∷ l) (sym (map_push g xs x))

-- ---- pages

-- before the first
pub pages_begin : {resource : Resource} → ArePages resource [] no_pages [] []
pages_begin {resource} = record {
  read = All-nil (IsPageRead resource);
  revision = refl;
  one_revision = All-nil (λ page. None ≡ Some page.at);
  rows = refl;
  asked = refl;
  behind = refl;
  taken_are = refl;
}

-- the first is of the revision of all
first_of : (at : ℕ) (pages : List PageData) (page : PageData) → All (λ p. Some at ≡ Some p.at) (pages ++ page ∷ []) → Some at ≡ revision_of_pages (pages ++ page ∷ [])
first_of at [] page all = All-head (λ (p : PageData). Some at ≡ Some p.at) page [] all
first_of at (q ∷ pages) page all = All-head (λ (p : PageData). Some at ≡ Some p.at) q (pages ++ page ∷ []) all

of_one : (before : Option ℕ) (at : ℕ) (pages : List PageData) → IsOfRevision before at → All (λ page. before ≡ Some page.at) pages → All (λ page. Some at ≡ Some page.at) pages
of_one None at pages same all = All-weaker (λ (page : PageData). None ≡ Some page.at) (λ (page : PageData). Some at ≡ Some page.at) (λ page never. absurd (cc)) pages all
of_one (Some before) at pages same all = subst (λ (n : ℕ). All (λ (page : PageData). Some n ≡ Some page.at) pages) same all

module _ {resource : Resource} (pages : List PageData) (old : GatheredData) (taken kept : List ℕ) (are : ArePages resource pages old taken kept) (more : List ℕ) (page : PageData) (new : GatheredData) (beyond : List ℕ)
    (next : IsNextPage resource old kept more page new beyond) where
  token_is : page.token ≡ new.token
  token_is = sym (ap (λ (g : GatheredData). g.token) next.new_is)

  rows_are : new.rows ≡ flat_map (λ (p : PageData). p.rows) (pages ++ page ∷ [])
  rows_are =
      ap (λ (g : GatheredData). g.rows) next.new_is ∙ ap (λ (rows : List RowData). rows ++ page.rows) are.rows
      ∙ sym (flat_push (λ (p : PageData). p.rows) pages page)

  all_one : All (λ p. Some page.at ≡ Some p.at) (pages ++ page ∷ [])
  all_one = All-push (λ (p : PageData). Some page.at ≡ Some p.at) pages page (of_one old.at page.at pages next.same are.one_revision) refl

  at_is : new.at ≡ Some page.at
  at_is = ap (λ (it : GatheredData). it.at) next.new_is

  -- one more
  pub pages_go_on : ArePages resource (pages ++ page ∷ []) new (taken ++ more) beyond
  pages_go_on = record {
    read = All-push (IsPageRead resource) pages page are.read next.read;
    revision = at_is ∙ first_of page.at pages page all_one;
    one_revision = subst (λ (at : Option ℕ). All (λ (p : PageData). at ≡ Some p.at) (pages ++ page ∷ [])) (sym at_is) all_one;
    rows = rows_are;
    asked = chain_push (λ (p : PageData). p.asked) (λ (p : PageData). p.token) pages page [] old.token new.token are.asked next.asked token_is;
    behind = chain_push (λ (p : PageData). p.before) (λ (p : PageData). p.beyond) pages page [] kept beyond are.behind next.before next.after;
    taken_are = ap (λ (l : List ℕ). l ++ more) are.taken_are ∙ ap (λ (l : List ℕ). flat_map (λ (p : PageData). p.taken) pages ++ l) (sym next.taken_is)
        ∙ sym (flat_push (λ (p : PageData). p.taken) pages page);
  }

  -- its request stands behind theirs
  pub requests_go_on : (ns : Option (List ℕ)) → page_requests resource ns pages ++ page_request resource ns old.token ≡ page_requests resource ns (pages ++ page ∷ [])
  requests_go_on ns =
      ap (λ (token : List ℕ). page_requests resource ns pages ++ page_request resource ns token) (sym next.asked) ∙ sym (flat_push (λ (p : PageData). page_request resource ns p.asked) pages page)

-- ---- what was sent

module _ (a b c : Option (List ℕ)) (s t u : Type 0) (f g h : ℕ) (first : List ℕ) (before : IsWrittenOut first (sent_of a b s t f g)) where
  pub sent_behind : (second : List ℕ) → IsSentOn second (sent_of b c t u g h) → IsSentOn (first ++ second) (sent_of a c s u f h)
  sent_behind second is = (written-behind a b c f g h first second before is.0, is.1)

  unsent_behind : (last : List ℕ) (fault : AskNo) → IsLeftUnsent [] last fault (sent_of b c t u g h) → IsLeftUnsent first last fault (sent_of a c s u f h)
  unsent_behind last ask.WriteFault is = broken-behind a b c f g h first last before is
  unsent_behind last ask.Memory is = subst (λ (l : List ℕ). IsWrittenOut l (sent_of a c s u f h)) (append-nil first) (written-behind a b c f g h first [] before is)

  -- a page is lacking behind others
  pub lacks_behind : (resource : Resource) (gathered : GatheredData) (last kept taken : List ℕ) (left : Option (List ℕ)) (why : ClusterNo) → LacksPage resource gathered [] last kept taken left (sent_of b c t u g h) why
      → LacksPage resource gathered first last kept taken left (sent_of a c s u f h) why
  lacks_behind resource gathered last kept taken left why (inl (fault, why_is, unsent, nothing)) = inl (fault, why_is, unsent_behind last fault unsent, nothing)
  lacks_behind resource gathered last kept taken left why (inr (sent, none)) = inr (sent_behind last sent, none)

-- ---- one more page, by its text

-- the request wasn't sent on
pub unsent_of : (fault : AskNo) (text : List ℕ) (sent : Sent) → Asks (Err fault) text sent → IsLeftUnsent [] text fault sent
unsent_of ask.WriteFault text sent is = is
unsent_of ask.Memory text sent is = is

-- what becomes of the text of a page
pub takes_page : (resource : Resource) (old : GatheredData) (text : List ℕ) (rows : List RowData) (at : ℕ) (token : List ℕ) (result : Result Bool ClusterNo) (new : GatheredData) → IsPageText resource text rows at token
    → AddsPage old rows at token result new → TakesPage resource old text result new
takes_page resource old text rows at token (Ok more) new page adds = (rows, at, token, page, adds)
takes_page resource old text rows at token (Err why) new page (inl memory) = inl memory
takes_page resource old text rows at token (Err why) new page (inr other) = inr (inr (other.0, (rows, at, token, page, other.1)))

-- a body was read
pub page_read : (resource : Resource) (ns : Option (List ℕ)) (old : GatheredData) (kept taken : List ℕ) (left : Option (List ℕ)) (sent : Sent) (text after : List ℕ) (result : Result Bool ClusterNo) (new : GatheredData)
    → IsSentOn (page_request resource ns old.token) sent → IsBody (kept ++ taken) text after → TakesPage resource old text result new → NextPage resource ns old kept taken left sent result new after
page_read resource ns old kept taken left sent text after (Ok more) new sent_on body (rows, at, token, tells, (same, is, none)) =
    let page : PageData = record { asked = old.token; before = kept; taken = taken; text = text; rows = rows; at = at; token = token; beyond = after } in (
      sent_on,
      page,
      record { asked = refl; before = refl; taken_is = refl; after = refl; read = record { body = body; tells = tells }; same = same; new_is = is },
      λ last. ap (λ (g : GatheredData). g.token) is ∙ none.0 last,
    )
page_read resource ns old kept taken left sent text after (Err why) new sent_on body no_page = inr (sent_on, inr (text, after, body, no_page))

-- ---- all pages

-- nothing was asked for, since there was no memory
pub nothing_asked : (s : Selection) (a : Option (List ℕ)) (t : Type 0) (f : ℕ) (left : Option (List ℕ)) → LacksNext s [] left (sent_of a a t t f f) no.Memory
nothing_asked s a t f left = record {
  pages = [];
  gathered = no_pages;
  first = [];
  last = [];
  kept = [];
  are = pages_begin;
  taken_are = refl;
  lacks = inl (ask.Memory, refl, written-nothing a f, refl);
}

module _ (s : Selection) (pages : List PageData) (old : GatheredData) (taken kept : List ℕ) (are : ArePages s.resource pages old taken kept) (a b c : Option (List ℕ)) (t u v : Type 0) (f g h : ℕ)
    (before : IsWrittenOut (page_requests s.resource s.ns pages) (sent_of a b t u f g)) (more : List ℕ) (left : Option (List ℕ)) (new : GatheredData) (beyond : List ℕ) where
  -- one more was read
  pub one_more : (next : Bool) → NextPage s.resource s.ns old kept more left (sent_of b c u v g h) (Ok next) new beyond
      → (later : List PageData) × ArePages s.resource later new (taken ++ more) beyond × IsSentOn (page_requests s.resource s.ns later) (sent_of a c t v f h)
  one_more next (sent, page, is, last) = (
    pages ++ page ∷ [],
    pages_go_on pages old taken kept are more page new beyond is,
    subst (λ (l : List ℕ). IsSentOn l (sent_of a c t v f h)) (requests_go_on pages old taken kept are more page new beyond is s.ns)
        (sent_behind a b c t u v f g h (page_requests s.resource s.ns pages) before (page_request s.resource s.ns old.token) sent),
  )

  -- it was the last
  pub last_page : (next : Bool) → next ≡ false → NextPage s.resource s.ns old kept more left (sent_of b c u v g h) (Ok next) new beyond → HoldsPages s (taken ++ more) (sent_of a c t v f h) new
  last_page next last is =
      let on = one_more next is in
      record { pages = on.0; kept = beyond; are = on.1; last = is.3 last; requests = on.2 }

  -- it is lacking
  pub no_page : (why : ClusterNo) → NextPage s.resource s.ns old kept more left (sent_of b c u v g h) (Err why) new beyond → LacksNext s (taken ++ more) left (sent_of a c t v f h) why
  no_page why lacks = record {
    pages = pages;
    gathered = old;
    first = taken;
    last = more;
    kept = kept;
    are = are;
    taken_are = refl;
    lacks = lacks_behind a b c t u v f g h (page_requests s.resource s.ns pages) before s.resource old (page_request s.resource s.ns old.token) kept more left why lacks;
  }

-- what the pages come to, as a list
pub list_read : (s : Selection) (taken : List ℕ) (left : Option (List ℕ)) (sent : Sent) (gathered : GatheredData) (result : Result ListData ClusterNo) → HoldsPages s taken sent gathered
    → MatchResult result (λ list. (list.selection ≡ s) × (list.rows ≡ gathered.rows) × (gathered.at ≡ Some list.at)) (λ why. (why ≡ no.BadLine) × ¬ (IsGathered s gathered))
    → AnswersList s taken left sent result
list_read s taken left sent gathered (Ok list) holds (selection, rows, at) =
    let whole : GatheredData = record { rows = list.rows; at = Some list.at; token = [] } in
    let same : gathered ≡ whole = λ i. record { rows = sym rows i; at = at i; token = holds.last i } in
    record {
      selection = selection;
      pages = holds.pages;
      kept = holds.kept;
      are = subst (λ (it : GatheredData). ArePages s.resource holds.pages it taken holds.kept) same holds.are;
      requests = holds.requests;
    }
list_read s taken left sent gathered (Err why) holds (why_is, none) =
    inr (record { pages = holds.pages; gathered = gathered; kept = holds.kept; are = holds.are; requests = holds.requests.0; fault = inl (why_is, holds.last, none) })

-- what was taken, and more
pub taken_on : (first second : List ℕ) (old between new : Option (List ℕ)) → old ≡ prepended first between → between ≡ prepended second new → old ≡ prepended (first ++ second) new
taken_on first second old between new before now = before ∙ ap (prepended first) now ∙ prepended-prepended first second new
