-- Events and transitions: from one revision to another, and as the log grows.
use Rattle.std.proofs.Common.{◌≡◌, ℕ, ◌≤◌, ◌-◌, max, List, [], ◌∷◌, ◌++◌, fold, filter_map, drop, take, refl, sym, ap, ◌∙◌, append_assoc, inl, inr, arith}
use Rattle.std.proofs.lemmas.Bool.{cases_lt}
use Rattle.std.proofs.lemmas.List.{drop_all, length-take}
use Rattle.std.proofs.lemmas.List.Elements.{filter_map-append}
use Rattle.kube_meta.specs.declared.resources.Resource.{Resource}
use Rattle.rev_log.specs.Changes.{RevisionData}
use Rattle.rev_log.specs.Logs.{Log, grown, end_of, between}
use Rattle.rev_log.specs.States.{row_next, row_at}
use Rattle.rev_log.proofs.GrowthLemmas.{upto-grown, row_at-grown, between-joined, row_at-between}
use Rattle.select_all.specs.Streams.{EventData, Standing, events_in, events_from, events, transition_by}
use Rattle.select_all.specs.StreamLaws.{TransitionsJoin, TransitionsStay, TransitionsNone}

-- the events of one part of a log and of the next
pub events_from-append : (resource : Resource) (rows : Standing) (xs ys : List RevisionData) → events_from resource rows (xs ++ ys) ≡ events_from resource rows xs ++ events_from resource (λ key. fold (row_next resource key) (rows key) xs) ys
events_from-append resource rows [] ys = refl
events_from-append resource rows (x ∷ xs) ys =
    ap (λ (rest : List EventData). events_in resource rows x ++ rest) (events_from-append resource (λ key. row_next resource key (rows key) x) xs ys)
    ∙ sym (append_assoc (events_in resource rows x) (events_from resource (λ key. row_next resource key (rows key) x) xs) (events_from resource (λ key. fold (row_next resource key) (row_next resource key (rows key) x) xs) ys))

pub events_join : (log : Log) (resource : Resource) (a b c : ℕ) → a ≤ b → b ≤ c → events log resource a b ++ events log resource b c ≡ events log resource a c
events_join log resource a b c first second =
    ap (λ (r : Standing). events log resource a b ++ events_from resource r (between log b c)) (λ i key. row_at-between log resource key a b first i)
    ∙ sym (events_from-append resource (row_at log resource a) (between log a b) (between log b c))
    ∙ ap (events_from resource (row_at log resource a)) (between-joined log a b c first second)

pub transitions_are_joined : TransitionsJoin
transitions_are_joined test log resource a b c first second =
    sym (filter_map-append (transition_by test) (events log resource a b) (events log resource b c))
    ∙ ap (filter_map (transition_by test)) (events_join log resource a b c first second)

-- nothing lies between a number and one that isn't above it
pub between-none : (log : Log) (a b : ℕ) → b ≤ a → between log a b ≡ []
between-none log a b order = none (a - log.first) (b - log.first) log.revisions (omega arith)
  where
    none : (m n : ℕ) (xs : List RevisionData) → n ≤ m → drop m (take n xs) ≡ []
    none m n xs short = drop_all m (take n xs) (omega (arith, length-take n xs))

-- events of no revisions are none
pub no_events : (log : Log) (resource : Resource) (a b : ℕ) → b ≤ a → events log resource a b ≡ []
no_events log resource a b order = ap (events_from resource (row_at log resource a)) (between-none log a b order)

-- what lies up to the end stays where it is
pub between-grown : (log : Log) (more : List RevisionData) (a b : ℕ) → b ≤ end_of log → between (grown log more) a b ≡ between log a b
between-grown log more a b within = ap (drop (a - log.first)) (upto-grown log more b within)

pub events_stay : (log : Log) (more : List RevisionData) (resource : Resource) (a b : ℕ) → b ≤ max a (end_of log) → events (grown log more) resource a b ≡ events log resource a b
events_stay log more resource a b within = elim (cases_lt a b) [
  | inl above ↦
      let b_old : b ≤ end_of log = omega (arith, above, within) in
      let a_old : a ≤ end_of log = omega (arith, above, b_old) in
      ap (λ (r : Standing). events_from resource r (between (grown log more) a b)) (λ i key. row_at-grown log more resource a key a_old i)
      ∙ ap (events_from resource (row_at log resource a)) (between-grown log more a b b_old)
  | inr not_above ↦ no_events (grown log more) resource a b not_above ∙ sym (no_events log resource a b not_above)
]

pub transitions_are_kept : TransitionsStay
transitions_are_kept test log more resource a b within = ap (filter_map (transition_by test)) (events_stay log more resource a b within)

pub no_transitions : TransitionsNone
no_transitions test log resource a b order = ap (filter_map (transition_by test)) (no_events log resource a b order)
