-- The rows that items show, one after another, and the page that a value is.
use Rattle.std.proofs.Common.{◌≡◌, ℕ, ◌+◌, ◌<◌, ◌≤◌, drop_of_length-le, List, [], ◌∷◌, ◌++◌, length, get_or, drop, All, Option, Some, None, Result, Ok, Err, refl, sym, ap, ap₂, ◌∙◌, subst, arith, append_assoc, append-nil}
use Rattle.std.specs.Prelude.{IfOk, codes}
use Rattle.std.specs.declared.alloc.AllocError.{AllocError}
use Rattle.std.proofs.lemmas.List.{at_drop_more}
use Rattle.std.proofs.lemmas.List.Elements.{All-cons}
use Rattle.std.proofs.lemmas.Option.{same_Some}
use Rattle.serde_json.specs.Data.{Data, null, boolean, number, string, array, object, Items, no_items, item}
use Rattle.serde_json.specs.Find.{get}
use Rattle.serde_json.specs.View.{view, items_view}
use Rattle.serde_json.specs.declared.value.Value.{Value}
use Rattle.kube_meta.specs.Revisions.{RevisionsAreReadBack}
use Rattle.kube_meta.specs.Rows.{RowData}
use Rattle.kube_meta.specs.declared.objects.Obj.{Obj}
use Rattle.kube_meta.specs.declared.resources.Resource.{Resource}
use Rattle.json_obj.specs.Laws.{ObjectsAreOne, ValuesAreOrderly}
use Rattle.json_obj.specs.Objects.{IsTextOf}
use Rattle.json_obj.specs.Orderly.{IsOrderly, AreOrderlyItems}
use Rattle.watch_lines.specs.Pages.{AreShown, IsListValue, IsPageValue, IsPageText, ReadsList, ReadsPage, listed, items_of, token_of}
use Rattle.watch_lines.specs.Stored.{IsStored, IsToldAt}
use Rattle.watch_lines.specs.ValueLaws.{IsSamePage}
use Rattle.watch_lines.specs.Values.{ShowsObject, HasRevision}
use Rattle.watch_lines.specs.declared.pages.Page.{Page}
use Rattle.watch_lines.proofs.ObjectLemmas.{same-value}
use Rattle.watch_lines.proofs.ShownLemmas.{ShowsNone, one-shown, shown-stored, revision-told}

-- ---- one more row

-- behind these rows stand those of the rest, and no others
pub record AreBehind (resource : Resource) (whole rest : Items) (rows : List RowData) : Type 0 where
  pub done : (more : List RowData) → AreShown resource rest more → AreShown resource whole (rows ++ more)
  pub left : (all : List RowData) → AreShown resource whole all → (more : List RowData) × AreShown resource rest more

pub none-behind : (resource : Resource) (whole : Items) → AreBehind resource whole whole []
none-behind resource whole = record { done = λ more shown. shown; left = λ all shown. (all, shown) }

first-left : (resource : Resource) (d : Data) (ds : Items) (more : List RowData) → AreShown resource (item d ds) more → (row : RowData) × (rows : List RowData) × ShowsObject resource d row.obj row.rev × AreShown resource ds rows
first-left resource d ds [] shown = absurd shown
first-left resource d ds (row ∷ rows) shown = (row, rows, shown.0, shown.1)

one-behind : (resource : Resource) (whole : Items) (d : Data) (rest : Items) (rows : List RowData) (obj : Obj) (rev : ℕ) → AreBehind resource whole (item d rest) rows → ShowsObject resource d obj rev
    → AreBehind resource whole rest (rows ++ (record { obj = obj; rev = rev }) ∷ [])
one-behind resource whole d rest rows obj rev are is =
    let row : RowData = record { obj = obj; rev = rev } in
    record {
      done = λ more shown. subst (AreShown resource whole) (sym (append_assoc rows (row ∷ []) more)) (are.done (row ∷ more) (is, shown));
      left = λ all shown. let found = are.left all shown in let first = first-left resource d rest found.0 found.1 in (first.1, first.3);
    }

-- the items from a place on
abbrev pub from : List Value → ℕ → Items
from vs i = items_view (drop i vs)

from-is : (vs : List Value) (i : ℕ) (v : Value) → i < length vs → v ≡ get_or vs i v → from vs i ≡ item (view v) (from vs (i + 1))
from-is vs i v within at = at_drop_more items_view vs i v within ∙ ap (λ x. items_view (x ∷ drop (i + 1) vs)) (sym at)

pub more-behind : (resource : Resource) (vs : List Value) (i : ℕ) (v : Value) (rows : List RowData) (obj : Obj) (rev : ℕ) → i < length vs → v ≡ get_or vs i v
    → AreBehind resource (items_view vs) (from vs i) rows → ShowsObject resource (view v) obj rev
    → AreBehind resource (items_view vs) (from vs (i + 1)) (rows ++ (record { obj = obj; rev = rev }) ∷ [])
more-behind resource vs i v rows obj rev within at are is =
    one-behind resource (items_view vs) (view v) (from vs (i + 1)) rows obj rev (subst (λ rest. AreBehind resource (items_view vs) rest rows) (from-is vs i v within at) are) is

pub no-rows : (resource : Resource) (vs : List Value) (i : ℕ) (v : Value) (rows : List RowData) → i < length vs → v ≡ get_or vs i v
    → AreBehind resource (items_view vs) (from vs i) rows → ShowsNone resource (view v) → (all : List RowData) → ¬ (AreShown resource (items_view vs) all)
no-rows resource vs i v rows within at are none all shown =
    let found = are.left all shown in
    let first = first-left resource (view v) (from vs (i + 1)) found.0 (subst (λ rest. AreShown resource rest found.0) (from-is vs i v within at) found.1) in
    none first.0.obj first.0.rev first.2

pub all-rows : (resource : Resource) (whole : Items) (rows : List RowData) → AreBehind resource whole no_items rows → AreShown resource whole rows
all-rows resource whole rows are = subst (AreShown resource whole) (append-nil rows) (are.done [] tt)

-- ---- it is one page

one-row : ObjectsAreOne → (resource : Resource) (ds : Items) (rows others : List RowData) → AreShown resource ds rows → AreShown resource ds others → rows ≡ others
one-row law resource no_items [] [] first second = refl
one-row law resource no_items [] (other ∷ others) first second = absurd second
one-row law resource no_items (row ∷ rows) others first second = absurd first
one-row law resource (item d ds) [] others first second = absurd first
one-row law resource (item d ds) (row ∷ rows) [] first second = absurd second
one-row law resource (item d ds) (row ∷ rows) (other ∷ others) first second =
    let one = one-shown law resource d row.obj other.obj row.rev other.rev first.0 second.0 in
    ap₂ (λ (r : RowData) (rs : List RowData). r ∷ rs) (ap₂ (λ o r. record { obj = o; rev = r }) one.0 one.1) (one-row law resource ds rows others first.1 second.1)

one-listed : ObjectsAreOne → (resource : Resource) (d : Data) (rows others : List RowData) (at other : ℕ) (token later : List ℕ) → IsPageValue resource d rows at token → IsPageValue resource d others other later
    → IsSamePage rows others at other token later
one-listed law resource d rows others at other token later first second =
    let same : second.items ≡ first.items = same_Some second.items first.items (sym second.items_are ∙ first.items_are) in
    record {
      rows_are = one-row law resource first.items rows others first.rows_are (subst (λ ds. AreShown resource ds others) same second.rows_are);
      at_is = same_Some at other (same_Some (Some at) (Some other) (sym first.revision ∙ second.revision));
      token_is = same_Some token later (sym first.token_is ∙ second.token_is);
    }

pub one-page : ObjectsAreOne → (resource : Resource) (text : List ℕ) (rows others : List RowData) (at other : ℕ) (token later : List ℕ) → IsPageText resource text rows at token → IsPageText resource text others other later
    → IsSamePage rows others at other token later
one-page law resource text rows others at other token later first second =
    one-listed law resource first.value rows others at other token later first.lists
    (subst (λ d. IsPageValue resource d others other later) (same-value text second.value first.value second.is first.is) second.lists)

-- ---- it may be stored

abbrev IsRowKept : Resource → RowData → Type 0
IsRowKept resource row = IsStored resource row.obj × IsToldAt row.rev

rows-kept : RevisionsAreReadBack → (resource : Resource) (ds : Items) (rows : List RowData) → AreOrderlyItems ds → AreShown resource ds rows → All (IsRowKept resource) rows
rows-kept law resource no_items [] orderly shown = λ k d within. absurd (omega arith)
rows-kept law resource no_items (row ∷ rows) orderly shown = absurd shown
rows-kept law resource (item d ds) [] orderly shown = absurd shown
rows-kept law resource (item d ds) (row ∷ rows) orderly shown =
    All-cons (IsRowKept resource) row rows (shown-stored law resource d row.obj row.rev orderly.0 shown.0) (rows-kept law resource ds rows orderly.1 shown.1)

listed-orderly : (found : Option Data) (ds : Items) → ((d : Data) → found ≡ Some d → IsOrderly d) → listed found ≡ Some ds → AreOrderlyItems ds
listed-orderly None ds orderly e = subst AreOrderlyItems (same_Some no_items ds e) tt
listed-orderly (Some null) ds orderly e = subst AreOrderlyItems (same_Some no_items ds e) tt
listed-orderly (Some (boolean b)) ds orderly e = absurd cc
listed-orderly (Some (number n)) ds orderly e = absurd cc
listed-orderly (Some (string s)) ds orderly e = absurd cc
listed-orderly (Some (array es)) ds orderly e = subst AreOrderlyItems (same_Some es ds e) (orderly (array es) refl)
listed-orderly (Some (object ms)) ds orderly e = absurd cc

pub kept-page : ValuesAreOrderly → RevisionsAreReadBack → (resource : Resource) (text : List ℕ) (rows : List RowData) (at : ℕ) (token : List ℕ) → IsPageText resource text rows at token
    → All (IsRowKept resource) rows × IsToldAt at
kept-page laws law resource text rows at token is =
    let orderly = listed-orderly (get (codes "items") is.value) is.lists.items (λ d e. laws.member (codes "items") is.value d (laws.whole text is.value is.is) e) is.lists.items_are in
    (rows-kept law resource is.lists.items rows orderly is.lists.rows_are, revision-told law is.value at is.lists.revision)

-- ---- what is read of a value

pub no-list : (resource : Resource) (d : Data) → (IsListValue resource d → ⊥) → ReadsList resource d None
no-list resource d none = λ rows at token is. none is.kind

pub no-revision : (resource : Resource) (d : Data) → ((at : ℕ) → ¬ (HasRevision d at)) → ReadsList resource d None
no-revision resource d none = λ rows at token is. none at is.revision

pub no-token : (resource : Resource) (d : Data) → token_of d ≡ None → ReadsList resource d None
no-token resource d none = λ rows at token is. let bad : None ≡ Some token = sym none ∙ is.token_is in cc

pub no-items : (resource : Resource) (d : Data) → items_of d ≡ None → ReadsList resource d None
no-items resource d none = λ rows at token is. let bad : None ≡ Some is.items = sym none ∙ is.items_are in cc

pub none-listed : (resource : Resource) (d : Data) (ds : Items) → items_of d ≡ Some ds → ((rows : List RowData) → ¬ (AreShown resource ds rows)) → ReadsList resource d None
none-listed resource d ds items none = λ rows at token is.
    none rows (subst (λ es. AreShown resource es rows) (same_Some is.items ds (sym is.items_are ∙ items)) is.rows_are)

pub no-more : (vs : List Value) (i : ℕ) → length vs ≤ i → from vs i ≡ no_items
no-more vs i past = ap items_view (drop_of_length-le vs past)

of-value : (resource : Resource) (text : List ℕ) (d : Data) → IsTextOf text d → (found : Option Page) → ReadsList resource d found → ReadsPage resource text found
of-value resource text d is None none = λ rows at token page. none rows at token (subst (λ e. IsPageValue resource e rows at token) (same-value text page.value d page.is is) page.lists)
of-value resource text d is (Some page) lists = record { value = d; is = is; lists = lists }

pub all-of-value : (resource : Resource) (text : List ℕ) (d : Data) → IsTextOf text d → (found : Result (Option Page) AllocError)
    → IfOk found (ReadsList resource d) → IfOk found (ReadsPage resource text)
all-of-value resource text d is (Ok found) reads = of-value resource text d is found reads
all-of-value resource text d is (Err fault) reads = tt

pub unlisted : (resource : Resource) (text : List ℕ) → ((d : Data) → ¬ (IsTextOf text d)) → ReadsPage resource text None
unlisted resource text none = λ rows at token page. none page.value page.is
