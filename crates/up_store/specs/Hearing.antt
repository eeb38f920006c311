-- What a mirror's store answers to the revisions of its peer's log, and what they leave.
use Rattle.std.specs.Prelude.{◌≡◌, ℕ, ◌+◌, ◌-◌, ◌<◌, ◌≤◌, max, List, [], ◌∷◌, ◌++◌, Result, Ok, Err}
use Rattle.kube_meta.specs.Rows.{RowData}
use Rattle.rev_front.specs.Passes.{Pass, Whole, end_from, quiets, revision as reached}
use Rattle.rev_log.specs.Changes.{RevisionData, IsRevision}
use Rattle.rev_log.specs.Logs.{Log, end_of, grown, quiet_at}
use Rattle.up_api.specs.Sections.{log_of}
use Rattle.up_store.specs.declared.hearing.HearNo.{HearNo}
use Rattle.up_store.specs.declared.hearing.HearNo.TheVariants.{Passed, Memory}
use Rattle.up_store.specs.Kept.{floor_behind}
use Rattle.up_store.specs.Stores.{accepted}

-- an added revision: it is the last one seen, and the next after a log that has all that was shown before
pub record IsHeard (base : List RowData) (p : Pass RevisionData) (revision : RevisionData) (rev : ℕ) (q : Pass RevisionData) : Type 0 where
  pub before : Log
  pub shown : p.shown ≤ end_of before
  pub number : rev ≡ revision.rev
  pub next : revision.rev ≡ end_of before + 1
  pub committed : log_of base q ≡ grown before (revision ∷ [])

-- what is answered to a revision: it is added, or it isn't the one after the log's end, which is seen then
abbrev pub IsHearReply : List RowData → Pass RevisionData → RevisionData → Result ℕ HearNo → Pass RevisionData → Type 0
IsHearReply base p revision (Ok rev) q = IsHeard base p revision rev q
IsHearReply base p revision (Err (Passed at)) q = (at ≡ end_from q.first q.seen) × (p.shown ≤ at) × ¬ (revision.rev ≡ at + 1)
IsHearReply base p revision (Err Memory) q = Unit {0}

-- what is answered to the next revision, and what it leaves; where there was no memory nothing is added
abbrev pub IsHearAnswer : {E : Type 0} → ℕ → RevisionData → Whole RevisionData → Whole RevisionData → Result ℕ E → Type 0
IsHearAnswer history revision w after (Ok rev) = (rev ≡ revision.rev) × (after ≡ accepted history w revision)
IsHearAnswer history revision w after (Err memory) = after ≡ w

-- ---- several of them at once

-- the revisions from one number up to another of which these are some: between them and behind them nothing changes
abbrev pub filled : ℕ → List RevisionData → ℕ → List RevisionData
filled from [] to = quiets quiet_at from (to - from)
filled from (r ∷ rest) to = quiets quiet_at from (r.rev - from - 1) ++ r ∷ filled r.rev rest to

-- they are revisions, and their numbers rise from above one number up to another
abbrev pub AreAscending : ℕ → List RevisionData → ℕ → Type 0
AreAscending from [] to = from ≤ to
AreAscending from (r ∷ rest) to = (from < r.rev) × IsRevision r × AreAscending r.rev rest to

-- added revisions: they follow a log that has all that was shown before
pub record AreHeard (base : List RowData) (p : Pass RevisionData) (from : ℕ) (revisions : List RevisionData) (to : ℕ) (q : Pass RevisionData) : Type 0 where
  pub before : Log
  pub shown : p.shown ≤ end_of before
  pub follow : from ≡ end_of before
  pub committed : log_of base q ≡ grown before (filled from revisions to)

-- what is answered to revisions that are to follow `from`: all are added, or `from` isn't the log's end, which is seen
-- then
abbrev pub IsFollowReply : List RowData → Pass RevisionData → ℕ → List RevisionData → ℕ → Result ℕ HearNo → Pass RevisionData → Type 0
IsFollowReply base p from revisions to (Ok end) q = (end ≡ to) × AreHeard base p from revisions to q
IsFollowReply base p from revisions to (Err (Passed at)) q = (at ≡ end_from q.first q.seen) × (p.shown ≤ at) × ¬ (at ≡ from)
IsFollowReply base p from revisions to (Err Memory) q = Unit {0}

-- and what is answered to them where the log begins anew behind them: the floor is the last of them then
abbrev pub IsAnewReply : List RowData → Pass RevisionData → ℕ → List RevisionData → ℕ → Result ℕ HearNo → Pass RevisionData → Type 0
IsAnewReply base p from revisions to (Ok end) q = (end ≡ to) × AreHeard base p from revisions to q × (q.floor ≡ to)
IsAnewReply base p from revisions to (Err why) q = IsFollowReply base p from revisions to (Err why) q

-- the log with these revisions, and this floor
abbrev pub extended : Whole RevisionData → List RevisionData → ℕ → Whole RevisionData
extended w revisions floor = record w { log = w.log ++ revisions; floor = floor }

-- The log with these revisions of a peer's. The floor is raised no further than to the revision that has `history`
-- others with changes behind it: revisions at which nothing changes don't count.
abbrev pub followed : ℕ → Whole RevisionData → List RevisionData → Whole RevisionData
followed history w revisions = extended w revisions (max w.floor (floor_behind history (w.log ++ revisions)))

-- what is answered to revisions that are to follow `from`, and what that leaves: this, or nothing is added
abbrev pub IsAddAnswer : ℕ → ℕ → Whole RevisionData → Whole RevisionData → Whole RevisionData → Result ℕ HearNo → Type 0
IsAddAnswer from to w with_all after (Ok end) = (from ≡ reached w) × (end ≡ to) × (after ≡ with_all)
IsAddAnswer from to w with_all after (Err (Passed at)) = (at ≡ reached w) × ¬ (at ≡ from) × (after ≡ w)
IsAddAnswer from to w with_all after (Err Memory) = after ≡ w

abbrev pub IsFollowAnswer : ℕ → ℕ → List RevisionData → ℕ → Whole RevisionData → Whole RevisionData → Result ℕ HearNo → Type 0
IsFollowAnswer history from revisions to w after answer = IsAddAnswer from to w (followed history w (filled from revisions to)) after answer

abbrev pub IsAnewAnswer : ℕ → List RevisionData → ℕ → Whole RevisionData → Whole RevisionData → Result ℕ HearNo → Type 0
IsAnewAnswer from revisions to w after answer = IsAddAnswer from to w (extended w (filled from revisions to) to) after answer
