-- The parts of kept revisions that are of one resource, and polls of them.
use Rattle.std.proofs.Common.{◌≡◌, ℕ, suc, ◌+◌, ◌-◌, ◌<◌, ◌≤◌, inl, inr, List, [], ◌∷◌, ◌++◌, append-nil, length, get_or, take, drop, Option, Some, None, refl, sym, ap, ◌∙◌, arith, length-take}
use Rattle.std.specs.List.{filter_map, cons_option}
use Rattle.std.specs.Option.{option_to_list}
use Rattle.std.proofs.lemmas.List.{take_all, take_more, drop_at, drop-append-le, get_or-drop, length-drop, length-take-le}
use Rattle.std.proofs.lemmas.List.Elements.{filter_map-append}
use Rattle.std.proofs.lemmas.List.Sums.{sum_by-append}
use Rattle.kube_meta.specs.declared.resources.Resource.{Resource}
use Rattle.rev_log.specs.Changes.{ChangeData, RevisionData}
use Rattle.rev_log.specs.Logs.{Log, end_of, between}
use Rattle.up_api.specs.Feeds.{IsPoll, part_of, parts_between, unless_empty, changes_of, changes_in}
use Rattle.up_store.specs.Kept.{Keeps, IsPlace, changed}
use Rattle.up_store.specs.declared.kept.Kept.{Kept}
use Rattle.up_store.proofs.ChangedLemmas.{parts-changed}
use Rattle.up_store.proofs.KeptLemmas.{high, changed-joined, place-at}

alone : {A : Type 0} (o : Option A) → cons_option o [] ≡ option_to_list o
alone None = refl
alone (Some x) = refl

-- one more of some revisions
pub taken-more : {A : Type 0} (start i : ℕ) (items : List A) (r : A) → start ≤ i → i < length items → r ≡ get_or items i r → drop start (take i items) ++ r ∷ [] ≡ drop start (take (i + 1) items)
taken-more start i items r order inside is =
    let more : take (i + 1) items ≡ take i items ++ r ∷ [] = take_more items i r inside ∙ ap (λ x. take i items ++ x ∷ []) (sym is) in
    let long : length (take i items) ≡ i = omega (arith, length-take i items) in
    sym (ap (drop start) more ∙ drop-append-le start (take i items) (r ∷ []) (omega (arith, long)))

-- one more revision adds its part, if it has one
pub part-more : (resource : Resource) (start i : ℕ) (items : List RevisionData) (r : RevisionData) (part : Option RevisionData) → start ≤ i → i < length items → r ≡ get_or items i r →
    part ≡ part_of resource r → filter_map (part_of resource) (drop start (take i items)) ++ option_to_list part ≡ filter_map (part_of resource) (drop start (take (i + 1) items))
part-more resource start i items r part order inside is found =
    let one : filter_map (part_of resource) (r ∷ []) ≡ option_to_list part = alone (part_of resource r) ∙ ap option_to_list (sym found) in
    sym (ap (filter_map (part_of resource)) (sym (taken-more start i items r order inside is))
    ∙ filter_map-append (part_of resource) (drop start (take i items)) (r ∷ [])
    ∙ ap (λ xs. filter_map (part_of resource) (drop start (take i items)) ++ xs) one)

unless-number : (rev : ℕ) (changes : List ChangeData) (found : RevisionData) → Some found ≡ unless_empty rev changes → found.rev ≡ rev
unless-number rev [] found is = cc
unless-number rev (change ∷ more) found is = let same : found ≡ record { rev = rev; changes = change ∷ more } = cc in ap (λ r. r.rev) same

-- the revisions with changes behind a number, up to that of a place
parts-kept : (log : Log) (floor : ℕ) (kept : Kept) (resource : Resource) (from start i : ℕ) (r : RevisionData) → Keeps log floor kept → kept.from ≤ from → from ≤ r.rev →
    IsPlace log kept from start → start ≤ length kept.revisions.items → IsPlace log kept r.rev (suc i) →
    filter_map (part_of resource) (drop start (take (suc i) kept.revisions.items)) ≡ parts_between log resource from r.rev
parts-kept log floor kept resource from start i r keeps above order place inside next =
    let long : length (changed log kept.from from) ≡ start = ap length (sym place.below) ∙ length-take-le start kept.revisions.items inside in
    ap (λ l. filter_map (part_of resource) (drop start l)) (next.below ∙ changed-joined log kept.from from r.rev above order)
    ∙ ap (filter_map (part_of resource)) (drop_at (changed log kept.from from) (changed log from r.rev) start long)
    ∙ parts-changed resource (between log from r.rev)

-- a revision at a place from there on is above the number
above-start : (log : Log) (floor : ℕ) (kept : Kept) (from start i : ℕ) (r : RevisionData) → Keeps log floor kept → kept.from ≤ from → IsPlace log kept from start → start ≤ i →
    i < length kept.revisions.items → r ≡ get_or kept.revisions.items i r → from < r.rev
above-start log floor kept from start i r keeps above place order inside is =
    let here : get_or (changed log from (end_of log)) (i - start) r ≡ r =
    ap (λ l. get_or l (i - start) r) (sym place.above) ∙ get_or-drop start kept.revisions.items (i - start) r ∙ ap (λ n. get_or kept.revisions.items n r) {x = start + (i - start)} {y = i} (omega (arith, order)) ∙ sym is in
    let long : i - start < length (changed log from (end_of log)) = omega (arith, ap length (sym place.above), length-drop start kept.revisions.items, order, inside) in
    omega (arith, ap (λ (x : RevisionData). x.rev) here, high log from keeps.numbered (omega (arith, keeps.begun, above)) (i - start) r long)

-- a poll that has as many changes as are wanted
pub poll-reached : (log : Log) (floor : ℕ) (kept : Kept) (resource : Resource) (from start max i wanted : ℕ) (r found : RevisionData) (before revisions : List RevisionData) →
    Keeps log floor kept → kept.from ≤ from → IsPlace log kept from start → start ≤ i → i < length kept.revisions.items → r ≡ get_or kept.revisions.items i r → Some found ≡ part_of resource r →
    before ≡ filter_map (part_of resource) (drop start (take i kept.revisions.items)) → changes_in before + wanted ≡ max → 1 ≤ wanted →
    revisions ≡ before ++ found ∷ [] → wanted ≤ length found.changes → IsPoll log resource from max (record { from = from; upto = found.rev; revisions = revisions })
poll-reached log floor kept resource from start max i wanted r found before revisions keeps above place order inside is part parts count some all enough =
    let number : found.rev ≡ r.rev = unless-number r.rev (changes_of resource r.changes) found part in
    let next = place-at log floor kept keeps i r inside is in
    let past : from < r.rev = above-start log floor kept from start i r keeps above place order inside is in
    let sum : changes_in revisions ≡ changes_in before + length found.changes =
    ap changes_in all ∙ sum_by-append (λ revision. length revision.changes) before (found ∷ []) ∙ omega arith in
    let one : i + 1 ≡ suc i = omega arith in
    record {
      begins = refl;
      onward = omega (arith, number, past);
      within = omega (arith, number, next.1);
      parts = all ∙ ap (λ xs. xs ++ found ∷ []) parts ∙ part-more resource start i kept.revisions.items r (Some found) order inside is part
          ∙ ap (λ n. filter_map (part_of resource) (drop start (take n kept.revisions.items))) one
          ∙ parts-kept log floor kept resource from start i r keeps above (omega (arith, past)) place (omega (arith, order, inside)) next.2 ∙ ap (parts_between log resource from) (sym number);
      stops = inr (record { before = before; last = found; are = all; number = refl; fewer = omega (arith, count, some); enough = omega (arith, sum, count, enough) });
    }

-- a poll up to the log's end
pub poll-ended : (log : Log) (floor : ℕ) (kept : Kept) (resource : Resource) (from start max wanted i : ℕ) (revisions : List RevisionData) →
    Keeps log floor kept → from ≤ end_of log → IsPlace log kept from start → length kept.revisions.items ≤ i →
    revisions ≡ filter_map (part_of resource) (drop start (take i kept.revisions.items)) → changes_in revisions + wanted ≡ max → 1 ≤ wanted →
    IsPoll log resource from max (record { from = from; upto = kept.end; revisions = revisions })
poll-ended log floor kept resource from start max wanted i revisions keeps within place all parts count some = record {
  begins = refl;
  onward = omega (arith, within, keeps.end_is);
  within = omega (arith, keeps.end_is);
  parts = parts ∙ ap (λ l. filter_map (part_of resource) (drop start l)) (take_all i kept.revisions.items all) ∙ ap (filter_map (part_of resource)) place.above
      ∙ parts-changed resource (between log from (end_of log)) ∙ ap (parts_between log resource from) (sym keeps.end_is);
  stops = inl (keeps.end_is, omega (arith, count, some));
}

-- one more revision without a part adds nothing
pub part-none : (resource : Resource) (start i : ℕ) (items : List RevisionData) (r : RevisionData) → start ≤ i → i < length items → r ≡ get_or items i r →
    None ≡ part_of resource r → filter_map (part_of resource) (drop start (take i items)) ≡ filter_map (part_of resource) (drop start (take (i + 1) items))
part-none resource start i items r order inside is found = sym (append-nil (filter_map (part_of resource) (drop start (take i items)))) ∙ part-more resource start i items r None order inside is found
