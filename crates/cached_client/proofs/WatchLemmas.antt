-- What a cache tells a watch.
use Rattle.std.proofs.Common.{◌≡◌, ℕ, ◌≤◌, ◌<◌, List, length, inl, inr, ap, ◌∙◌, arith}
use Rattle.std.specs.Prelude.{IfSome, Option, None, Some}
use Rattle.std.proofs.lemmas.Bool.{cases_lt}
use Rattle.kube_meta.specs.Rows.{RowData}
use Rattle.rev_front.specs.Passes.{Pass, end_from}
use Rattle.rev_log.specs.Changes.{RevisionData}
use Rattle.rev_log.specs.Logs.{Log}
use Rattle.select_all.specs.declared.selection.Selection.{Selection}
use Rattle.select_all.specs.Selecting.{selects}
use Rattle.select_all.proofs.StreamLaws.{no_transitions}
use Rattle.up_api.specs.Sections.{log_of}
use Rattle.cache_hub.specs.Catching.{CaughtData, IsCaught}
use Rattle.cache_hub.specs.OpenLanes.{OpenLaneData, GetsAll, GoesAlong}
use Rattle.cached_client.specs.Watching.{HasMore, IsTold}

-- lines that are told end within the cache
pub caught_within : (log : Log) (s : Selection) (at end many : ℕ) (caught : CaughtData) → IsCaught log s at end many caught → 0 < length caught.lines → caught.upto ≤ end
caught_within log s at end many caught is lines = elim is.stops [
  | inl same ↦ elim (cases_lt end at) [
    | inl past ↦ absurd (omega (arith, lines, ap length (is.exact ∙ no_transitions (selects s) log s.resource at caught.upto (omega (arith, same, past)))))
    | inr near ↦ omega (arith, same, near)
  ]
  | inr h ↦ h.2
]

-- what a cache with this end tells
pub told_caught : (base : List RowData) (s : Selection) (at end many shown : ℕ) (q : Pass RevisionData) → 1 ≤ many → shown ≤ end → end ≤ end_from q.first q.seen →
    (caught : CaughtData) → IsCaught (log_of base q) s at end many caught → IsTold base s at shown q caught
told_caught base s at end many shown q some low within caught is = record {
  exact = is.exact;
  current = omega (arith, low, within);
  reached = λ lines. omega (arith, caught_within (log_of base q) s at end many caught is lines, within);
  quiet = λ none. elim is.stops [
    | inl same ↦ (
      omega (arith, same),
      omega (arith, same, low),
      elim (cases_lt end at) [
        | inl past ↦ inl (omega (arith, same, past))
        | inr near ↦ inr (omega (arith, same, near, within))
      ],
    )
    | inr h ↦ absurd (omega (arith, h.0, none, some))
  ];
}

-- and where it may have a batch in place of it
pub told_some : (base : List RowData) (s : Selection) (at end many shown : ℕ) (q : Pass RevisionData) → 1 ≤ many → shown ≤ end → end ≤ end_from q.first q.seen →
    (caught : Option CaughtData) → IfSome caught (IsCaught (log_of base q) s at end many) → IfSome caught (IsTold base s at shown q)
told_some base s at end many shown q some low within (Some caught) is = told_caught base s at end many shown q some low within caught is
told_some base s at end many shown q some low within None is = tt

-- a watch that gets all that comes, and doesn't go along, has a batch
pub has_more : (s : Selection) (at : ℕ) (place : Option OpenLaneData) → (GoesAlong s at place → ⊥) → GetsAll s place → HasMore s at place
has_more s at None stays gets = gets
has_more s at (Some o) stays gets = elim (cases_lt at o.lane.mark) [
  | inl more ↦ (gets.0, gets.1, more)
  | inr none ↦ absurd (stays (gets.0, (gets.1, none)))
]
