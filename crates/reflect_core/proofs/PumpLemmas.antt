-- What polls do to the place of a cache.
use Rattle.std.proofs.Common.{◌≡◌, ℕ, ◌-◌, ◌<◌, ◌≤◌, [], take, length-take, length-drop, Option, Some, None, sym, ap, subst, ◌∙◌, arith, inl, inr, eq-zero-or-pos}
use Rattle.std.proofs.lemmas.List.{nil_from_length}
use Rattle.std.specs.List.{filter_map}
use Rattle.std.specs.Prelude.{IfSome}
use Rattle.kube_meta.specs.declared.resources.Resource.{Resource}
use Rattle.rev_front.specs.Passes.{Pass, Whole}
use Rattle.rev_front.proofs.Passing.{extends_trans}
use Rattle.rev_log.specs.Changes.{RevisionData}
use Rattle.rev_log.specs.Logs.{Log, end_of, between}
use Rattle.up_api.specs.Feeds.{PolledData, IsPoll, part_of, parts_between, changes_in}
use Rattle.up_api.specs.Sections.{Knows, Learns}

-- what two sections learn, one after the other
pub learns-on : (p q r : Pass RevisionData) → Learns p q → Learns q r → Learns p r
learns-on p q r one two = record { extends = extends_trans p q r one.extends two.extends; loads_stay = two.loads_stay ∙ one.loads_stay }

-- what is known of a log stays known behind an answer, behind which the pass `r` is as it was, `q`
pub knows-on : (before now : Option (Whole RevisionData)) (p q r : Pass RevisionData) → now ≡ before → r ≡ q → IfSome now (λ w. Knows w q) → IfSome before (λ w. Knows w p → Knows w r)
knows-on None now p q r own same knows = tt
knows-on (Some w) now p q r own same knows = λ _. subst (Knows w) (sym same) (subst (λ (o : Option (Whole RevisionData)). IfSome o (λ v. Knows v q)) own knows)

nothing-between : (log : Log) (a : ℕ) → between log a a ≡ []
nothing-between log a = nil_from_length (between log a a) (omega (arith, length-drop (a - log.first) (take (a - log.first) log.revisions), length-take (a - log.first) log.revisions))

-- a poll below the log's end goes on
pub goes-on : (log : Log) (resource : Resource) (from max : ℕ) (polled : PolledData) → 1 ≤ max → from < end_of log → IsPoll log resource from max polled → from < polled.upto
goes-on log resource from max polled some below poll = elim (eq-zero-or-pos (polled.upto - from)) [ inl z ↦ absurd (stuck z) | inr more ↦ omega (arith, more) ]
  where
    stuck : polled.upto - from ≡ 0 → ⊥
    stuck z =
        let same : polled.upto ≡ from = omega (arith, z, poll.onward) in
        let none : polled.revisions ≡ [] = poll.parts ∙ ap (parts_between log resource from) same ∙ ap (filter_map (part_of resource)) (nothing-between log from) in
        elim poll.stops [ inl end ↦ absurd (omega (arith, end.0, same, below)) | inr reaches ↦ absurd (omega (arith, reaches.enough, ap changes_in none, some)) ]
