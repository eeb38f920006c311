-- The next part of a log that is of one resource: where it stands, and what it makes of the rows.
use Rattle.std.proofs.Common.{◌≡◌, ℕ, ◌+◌, ◌-◌, ◌<◌, ◌≤◌, List, [], ◌∷◌, ◌++◌, append-nil, length, take, drop, filter_map, fold, map, Option, Some, None, IsTrue, refl, sym, ap, ◌∙◌, subst, arith}
use Rattle.std.specs.Prelude.{All}
use Rattle.std.specs.List.{cons_option, AllByRecursion}
use Rattle.std.proofs.Math.Seq.{take-append_seam, drop-append_seam}
use Rattle.std.proofs.lemmas.List.{length-append, length-take, length-drop}
use Rattle.std.proofs.lemmas.List.Sums.{fold-append}
use Rattle.kube_meta.specs.declared.resources.Resource.{Resource}
use Rattle.kube_meta.specs.Resources.{same_resource}
use Rattle.kube_meta.specs.Rows.{RowData, row_with}
use Rattle.rev_log.specs.Changes.{ChangeData, RevisionData, IsRevision}
use Rattle.rev_log.specs.Logs.{Log, AreNumbered, end_of, between}
use Rattle.rev_log.specs.States.{row_after, row_next, row_at, IsStateAt}
use Rattle.rev_log.proofs.FitLemmas.{numbered}
use Rattle.rev_log.proofs.GrowthLemmas.{between-joined, row_at-between}
use Rattle.select_all.specs.Floors.{changes_between}
use Rattle.select_all.specs.Streams.{EventData, Standing, events_in, events_from, events}
use Rattle.select_all.proofs.EventLaws.{are_counted, numbered-between}
use Rattle.select_all.proofs.OrderLaws.{revisions_between}
use Rattle.select_all.proofs.StreamLaws.{events_from-append}
use Rattle.up_api.specs.Feeds.{part_of, parts_between, changes_of}
use Rattle.cache_core.specs.Caches.{AreFitting, held_event, held_events}
use Rattle.cache_core.specs.Steps.{change_event, part_events, with_events}
use Rattle.cache_core.proofs.PartLemmas.{after_part, events_of_part, IsPartOf, part_is, part_all, part_revision, quiet}
use Rattle.cache_core.proofs.RowLemmas.{after_events, after_rising}

-- ---- the first revision with a part

record FirstPart (resource : Resource) (xs : List RevisionData) (part : RevisionData) (rest : List RevisionData) : Type 0 where
  before : List RevisionData
  at : RevisionData
  behind : List RevisionData
  are : xs ≡ before ++ at ∷ behind
  none : filter_map (part_of resource) before ≡ []
  found : part_of resource at ≡ Some part
  rest_are : rest ≡ filter_map (part_of resource) behind

first_part : (resource : Resource) (xs : List RevisionData) (part : RevisionData) (rest : List RevisionData) → filter_map (part_of resource) xs ≡ part ∷ rest → FirstPart resource xs part rest
first_part resource [] part rest e = absurd (cc)
first_part resource (x ∷ xs) part rest e = by (first_part resource xs part rest) (part_of resource x) refl e
  where
    by : (filter_map (part_of resource) xs ≡ part ∷ rest → FirstPart resource xs part rest) → (o : Option RevisionData) → part_of resource x ≡ o → cons_option o (filter_map (part_of resource) xs) ≡ part ∷ rest → FirstPart resource (x ∷ xs) part rest
    by later None is e =
        let h = later e in
        record { before = x ∷ h.before; at = h.at; behind = h.behind; are = ap (λ more. x ∷ more) h.are; none = rw is h.none; found = h.found; rest_are = h.rest_are }
    by later (Some first) is e =
        let same : first ≡ part = cc in
        record { before = []; at = x; behind = xs; are = refl; none = refl; found = is ∙ ap (λ (r : RevisionData). Some r) same; rest_are = cc }

-- ---- numbers and lengths

number_behind : (m : ℕ) (xs : List RevisionData) (x : RevisionData) (ys : List RevisionData) → AreNumbered m (xs ++ x ∷ ys) → x.rev ≡ m + length xs + 1
number_behind m [] x ys numbers = omega (arith, numbers.0)
number_behind m (y ∷ xs) x ys numbers = omega (arith, number_behind (m + 1) xs x ys numbers.1)

one_of : (P : RevisionData → Type 0) (xs : List RevisionData) (x : RevisionData) (ys : List RevisionData) → AllByRecursion P (xs ++ x ∷ ys) → P x
one_of P [] x ys all = all.0
one_of P (y ∷ xs) x ys all = one_of P xs x ys all.1

pub length-between : (log : Log) (a b : ℕ) → log.first ≤ a → a ≤ b → b ≤ end_of log → length (between log a b) ≡ b - a
length-between log a b begun order within =
    omega (arith, length-drop (a - log.first) (take (b - log.first) log.revisions), length-take (b - log.first) log.revisions)

same_parts : (ws xs ys zs : List RevisionData) → ws ++ xs ≡ ys ++ zs → length ws ≡ length ys → (ws ≡ ys) × (xs ≡ zs)
same_parts ws xs ys zs same long = (
  sym (take-append_seam ws xs) ∙ ap (take (length ws)) same ∙ ap (λ n. take n (ys ++ zs)) long ∙ take-append_seam ys zs,
  sym (drop-append_seam ws xs) ∙ ap (drop (length ws)) same ∙ ap (λ n. drop n (ys ++ zs)) long ∙ drop-append_seam ys zs,
)

-- ---- where the next part stands

-- the next part of a resource's revisions above e and up to a number, and what is then left
pub record IsNextPart (log : Log) (resource : Resource) (e upto : ℕ) (part : RevisionData) (rest : List RevisionData) : Type 0 where
  pub above : e < part.rev
  pub within : part.rev ≤ upto
  pub rest_are : rest ≡ parts_between log resource part.rev upto
  pub is : IsRevision part
  pub of : All (λ change. IsTrue (same_resource change.resource resource)) part.changes
  pub some : 0 < length part.changes
  pub rows_are : (key : List ℕ) → row_at log resource part.rev key ≡ fold (row_after resource key part.rev) (row_at log resource e key) part.changes
  pub events_are : (rows : List RowData) → ((key : List ℕ) → row_with rows key ≡ row_at log resource e key) → held_events log resource e part.rev ≡ part_events rows part

module _ (log : Log) (resource : Resource) (e upto : ℕ) (fit : AreFitting log) (begun : log.first ≤ e) (order : e ≤ upto) (within : upto ≤ end_of log) where
  -- the revisions above e are some without a part, the one with the next, and those behind it
  record Placed (part : RevisionData) (rest : List RevisionData) : Type 0 where
    before : List RevisionData
    at : RevisionData
    none : filter_map (part_of resource) before ≡ []
    of : IsPartOf resource at part
    is : IsRevision at
    above : e < part.rev
    inside : part.rev ≤ upto
    first_are : between log e part.rev ≡ before ++ at ∷ []
    rest_are : rest ≡ parts_between log resource part.rev upto

  placed : (part : RevisionData) (rest : List RevisionData) → parts_between log resource e upto ≡ part ∷ rest → Placed part rest
  placed part rest parts =
      let h = first_part resource (between log e upto) part rest parts in
      let numbers = numbered log.first log.revisions fit in
      let p = part_is resource h.at part h.found in
      let number : part.rev ≡ e + length h.before + 1 =
      p.rev ∙ number_behind (log.first + (e - log.first)) h.before h.at h.behind (subst (AreNumbered (log.first + (e - log.first))) h.are (numbered-between log e upto numbers.0)) ∙ omega (arith, begun) in
      let long : upto - e ≡ length h.before + length (h.at ∷ h.behind) = sym (length-between log e upto begun order within) ∙ ap length h.are ∙ length-append h.before (h.at ∷ h.behind) in
      let inside : part.rev ≤ upto = omega (arith, number, long, order) in
      let joined : between log e part.rev ++ between log part.rev upto ≡ (h.before ++ h.at ∷ []) ++ h.behind =
      between-joined log e part.rev upto (omega (arith, number)) inside ∙ h.are ∙ again h.before h.at h.behind in
      let two = same_parts (between log e part.rev) (between log part.rev upto) (h.before ++ h.at ∷ []) h.behind joined
      (length-between log e part.rev begun (omega (arith, number)) (omega (arith, inside, within)) ∙ omega (arith, number, length-append h.before (h.at ∷ []))) in
      record {
        before = h.before;
        at = h.at;
        none = h.none;
        of = p;
        is = one_of IsRevision h.before h.at h.behind (subst (AllByRecursion IsRevision) h.are (revisions_between log e upto numbers.1));
        above = omega (arith, number);
        inside = inside;
        first_are = two.0;
        rest_are = h.rest_are ∙ ap (filter_map (part_of resource)) (sym two.1);
      }
    where
      again : (xs : List RevisionData) (x : RevisionData) (ys : List RevisionData) → xs ++ x ∷ ys ≡ (xs ++ x ∷ []) ++ ys
      again [] x ys = refl
      again (y ∷ xs) x ys = ap (λ more. y ∷ more) (again xs x ys)

  next_rows : (part : RevisionData) (rest : List RevisionData) → Placed part rest → (key : List ℕ) →
      row_at log resource part.rev key ≡ fold (row_after resource key part.rev) (row_at log resource e key) part.changes
  next_rows part rest h key =
      row_at-between log resource key e part.rev (omega (arith, h.above))
      ∙ ap (fold (row_next resource key) (row_at log resource e key)) h.first_are
      ∙ fold-append (row_next resource key) (row_at log resource e key) h.before (h.at ∷ [])
      ∙ ap (λ (row : Option RowData). row_next resource key row h.at) ((quiet resource h.before h.none).rows key (row_at log resource e key))
      ∙ after_part resource key h.at.rev h.at.changes (row_at log resource e key)
      ∙ ap (λ (z : ℕ × List ChangeData). fold (row_after resource key z.0) (row_at log resource e key) z.1) {x = (h.at.rev, changes_of resource h.at.changes)} {y = (part.rev, part.changes)} (λ i. (sym h.of.rev i, sym h.of.changes i))

  next_events : (part : RevisionData) (rest : List RevisionData) → Placed part rest → (rows : List RowData) → ((key : List ℕ) → row_with rows key ≡ row_at log resource e key) →
      held_events log resource e part.rev ≡ part_events rows part
  next_events part rest h rows same =
      let before : Standing = row_at log resource e in
      let after : Standing = λ key. fold (row_next resource key) (row_at log resource e key) h.before in
      let q = quiet resource h.before h.none in
      let one : events log resource e part.rev ≡ events_in resource after h.at =
      ap (events_from resource before) h.first_are
      ∙ events_from-append resource before h.before (h.at ∷ [])
      ∙ ap (λ (es : List EventData). es ++ events_from resource after (h.at ∷ [])) (q.events before)
      ∙ append-nil (events_in resource after h.at) in
      ap (map held_event) one
      ∙ events_of_part resource after rows h.at.rev h.at.changes (λ key. same key ∙ sym (q.rows key (row_at log resource e key)))
      ∙ ap (λ (z : ℕ × List ChangeData). map (change_event rows z.0) z.1) {x = (h.at.rev, changes_of resource h.at.changes)} {y = (part.rev, part.changes)} (λ i. (sym h.of.rev i, sym h.of.changes i))

  pub next_part : (part : RevisionData) (rest : List RevisionData) → parts_between log resource e upto ≡ part ∷ rest → IsNextPart log resource e upto part rest
  next_part part rest parts =
      let h = placed part rest parts in
      record {
        above = h.above;
        within = h.inside;
        rest_are = h.rest_are;
        is = part_revision resource h.at part h.is h.of;
        of = part_all resource h.at part h.of;
        some = h.of.some;
        rows_are = next_rows part rest h;
        events_are = next_events part rest h;
      }

-- the state after the next part
pub next_state : (log : Log) (resource : Resource) (e upto : ℕ) (part : RevisionData) (rest : List RevisionData) (rows : List RowData) →
    IsStateAt log resource e rows → IsNextPart log resource e upto part rest → IsStateAt log resource part.rev (with_events rows (part_events rows part))
next_state log resource e upto part rest rows state next = record {
  rising = after_rising rows (part_events rows part) state.rising;
  exact = λ key.
      after_events resource rows rows part.rev part.changes key next.of next.is.keyed
      ∙ ap (λ (row : Option RowData). fold (row_after resource key part.rev) row part.changes) (state.exact key)
      ∙ sym (next.rows_are key);
}

-- ---- where no part is left

pub record IsQuietTo (log : Log) (resource : Resource) (e upto : ℕ) : Type 0 where
  pub rows : (key : List ℕ) → row_at log resource upto key ≡ row_at log resource e key
  pub events : events log resource e upto ≡ []
  pub count : changes_between log resource e upto ≡ 0

pub no_part_left : (log : Log) (resource : Resource) (e upto : ℕ) → e ≤ upto → parts_between log resource e upto ≡ [] → IsQuietTo log resource e upto
no_part_left log resource e upto order none =
    let q = quiet resource (between log e upto) none in
    let no_events : events log resource e upto ≡ [] = q.events (row_at log resource e) in
    record {
      rows = λ key. row_at-between log resource key e upto order ∙ q.rows key (row_at log resource e key);
      events = no_events;
      count = sym (are_counted log resource e upto) ∙ ap length no_events;
    }

pub quiet_state : (log : Log) (resource : Resource) (e upto : ℕ) (rows : List RowData) → IsStateAt log resource e rows → IsQuietTo log resource e upto → IsStateAt log resource upto rows
quiet_state log resource e upto rows state q = record { rising = state.rising; exact = λ key. state.exact key ∙ sym (q.rows key) }
