-- Laws of mirrors.
use Rattle.std.specs.Prelude.{◌≡◌, ◌↔◌, ℕ, ◌+◌, ◌^◌, ◌≤◌, max, Bool, IsTrue, List, [], ◌∷◌, ◌++◌, length, map, All, None}
use Rattle.kube_meta.specs.declared.objects.Obj.{Obj}
use Rattle.kube_meta.specs.declared.resources.Resource.{Resource}
use Rattle.kube_meta.specs.declared.resources.Resource.TheVariants.{Pods}
use Rattle.kube_meta.specs.Rows.{RowData, AreRising}
use Rattle.rev_log.specs.Changes.{RevisionData, IsRevision}
use Rattle.rev_log.specs.Logs.{Log, IsLog, grown, end_of}
use Rattle.rev_log.specs.States.{IsStateAt}
use Rattle.select_all.specs.declared.selection.Selection.{Selection}
use Rattle.select_all.specs.Selecting.{selects}
use Rattle.select_all.specs.Streams.{TransitionData, transitions, transitions_by}
use Rattle.select_all.specs.Listings.{IsListingBy}
use Rattle.watch_rules.specs.declared.ask.WatchAsk.{WatchAsk}
use Rattle.watch_rules.specs.Bodies.{Line, Told, Bookmark, Closing, Body, initial, initial_lines, told_in, lines_of, IsOpening, IsWatchBody, BeginsBody}
use Rattle.mirror_law.specs.Mirrors.{both, IsMirrorBy, IsMirrorOf, SelectsBoth, IsRevisionTold, of_revision, AreToldBy, opened_log}
use Rattle.mirror_law.specs.Following.{MovesOn, upto_of, kept_after, Follows}
use Rattle.mirror_law.specs.Taking.{IsNotAbove, IsPastOpening, IsTaken}

-- ---- logs

-- base rows in order are the state of pods
abbrev pub BasesAreStates : Type 0
BasesAreStates = (b at : ℕ) (rows : List RowData) → AreRising rows → IsStateAt (opened_log b rows) Pods at rows

-- one more revision that has the next number makes a log of a log
abbrev pub LogsGoOn : Type 0
LogsGoOn =
    (log : Log) (revision : RevisionData) → IsLog log → IsRevision revision → revision.rev ≡ end_of log + 1 → end_of log + 1 ≤ 2 ^ 62 →
    IsLog (grown log (revision ∷ []))

-- what stands at a revision, from the log's first one on, was written at it or before
abbrev pub RowsAreOld : Type 0
RowsAreOld =
    (log : Log) (resource : Resource) (at : ℕ) (rows : List RowData) → IsLog log → log.first ≤ at →
    IsStateAt log resource at rows → All (λ row. row.rev ≤ at) rows

-- of one revision at most 64 transitions are told
abbrev pub FewAtOnce : Type 0
FewAtOnce =
    (test : Obj → Bool) (log : Log) (resource : Resource) (at : ℕ) → IsLog log → length (transitions_by test log resource at (at + 1)) ≤ 64

-- What lines that begin a body tell: the first of its initial events and of the transitions from its start up to some
-- revision, which the log has reached where it isn't the start.
pub record TellsTheStream (log : Log) (ask : WatchAsk) (at : ℕ) (lines : List Line) : Type 0 where
  pub rows : List RowData
  pub upto : ℕ
  pub rest : List TransitionData
  pub opening : IsOpening log ask.selection ask.start at rows
  pub within : upto ≤ max at (end_of log)
  pub told : told_in lines ++ rest ≡ map initial rows ++ transitions log ask.selection at upto

abbrev pub BeginningsTellTheStream : Type 0
BeginningsTellTheStream =
    (log : Log) (log_floor low at : ℕ) (ask : WatchAsk) (lines : List Line) → BeginsBody log log_floor low ask at lines → TellsTheStream log ask at lines

-- ---- told revisions

-- there is one revision of what was told at its number
abbrev pub ToldRevisionsAreOne : Type 0
ToldRevisionsAreOne =
    (resource : Resource) (at : ℕ) (told : List TransitionData) (r other : RevisionData) →
    IsRevisionTold resource at told r → IsRevisionTold resource at told other → r ≡ other

-- one without a change is that where nothing was told
abbrev pub EmptyRevisionsAreTold : Type 0
EmptyRevisionsAreTold = (resource : Resource) (at : ℕ) → IsRevisionTold resource at [] (record { rev = at; changes = [] })

-- revisions that were told go on by the next one
abbrev pub ToldRevisionsGoOn : Type 0
ToldRevisionsGoOn =
    (resource : Resource) (told : List TransitionData) (from : ℕ) (revisions : List RevisionData) (revision : RevisionData) →
    AreToldBy resource told from revisions →
    (let next : ℕ = from + length revisions + 1 in IsRevisionTold resource next (of_revision next told) revision) →
    AreToldBy resource told from (revisions ++ revision ∷ [])

-- ---- mirrors

-- a mirror begins with a listing of pods that the peer's log has reached, of rows that aren't younger
abbrev pub MirrorsBegin : Type 0
MirrorsBegin =
    (test : Obj → Bool) (peer : Log) (b : ℕ) (rows : List RowData) → IsLog peer → b ≤ end_of peer →
    IsListingBy test peer Pods b rows → All (λ row. row.rev ≤ b) rows → IsMirrorBy test peer Pods b (opened_log b rows)

-- so does a log of which the state at its end is the peer's listing there, whatever it had before
abbrev pub MirrorsBeginAnew : Type 0
MirrorsBeginAnew =
    (test : Obj → Bool) (peer : Log) (resource : Resource) (b : ℕ) (m : Log) (rows : List RowData) →
    IsLog peer → IsLog m → end_of m ≡ b → b ≤ end_of peer →
    IsStateAt m resource b rows → IsListingBy test peer resource b rows → IsMirrorBy test peer resource b m

-- it goes on by revisions that the peer's log has reached, each that of the transitions told at its number
abbrev pub MirrorsGoOn : Type 0
MirrorsGoOn =
    (test : Obj → Bool) (peer : Log) (resource : Resource) (b upto : ℕ) (m : Log) (more : List RevisionData) →
    IsLog peer → IsMirrorBy test peer resource b m → end_of m + length more ≤ upto → upto ≤ end_of peer →
    AreToldBy resource (transitions_by test peer resource (end_of m) upto) (end_of m) more →
    IsMirrorBy test peer resource b (grown m more)

-- the mirror's listing by a further test is the peer's by both
abbrev pub MirrorsAnswerLists : Type 0
MirrorsAnswerLists =
    (test other : Obj → Bool) (peer : Log) (resource : Resource) (b at : ℕ) (m : Log) (rows : List RowData) →
    IsLog peer → IsMirrorBy test peer resource b m → b ≤ at → at ≤ end_of m →
    IsListingBy other m resource at rows ↔ IsListingBy (both test other) peer resource at rows

-- the body of a watch over the mirror is one over the peer, of the same lines, for the objects that both select; but for
-- a loss at its end, which is the mirror's own
abbrev pub MirrorsAnswerWatches : Type 0
MirrorsAnswerWatches =
    (peer m : Log) (b log_floor peer_floor low : ℕ) (s u : Selection) (ask : WatchAsk) (body : Body) →
    IsLog peer → IsMirrorOf peer s b m → SelectsBoth u s ask.selection → b ≤ body.at → body.loss ≡ None → IsWatchBody m log_floor low ask body →
    let asked : WatchAsk = record ask { selection = u } in
    IsWatchBody peer peer_floor low asked body × (lines_of peer asked body ≡ lines_of m ask body)

-- a mirror of a mirror is one of the first peer
abbrev pub MirrorsCompose : Type 0
MirrorsCompose =
    (first second : Obj → Bool) (peer : Log) (resource : Resource) (b c : ℕ) (m n : Log) →
    IsLog peer → b ≤ c → IsMirrorBy first peer resource b m → IsMirrorBy second m resource c n →
    IsMirrorBy (both first second) peer resource c n

-- ---- following

-- a mirror that begins with the rows of an opening follows its lines
abbrev pub FollowingsBegin : Type 0
FollowingsBegin =
    (peer : Log) (log_floor low b : ℕ) (s : Selection) (ask : WatchAsk) (rows : List RowData) →
    IsLog peer → ask.selection ≡ s → s.resource ≡ Pods → All (λ row. row.rev ≤ b) rows →
    let lines : List Line = initial_lines rows ++ Closing b ∷ [] in BeginsBody peer log_floor low ask b lines →
    Follows peer s b b lines (opened_log b rows) []

-- so does a log that has these rows at its end, whatever it had before
abbrev pub FollowingsBeginAnew : Type 0
FollowingsBeginAnew =
    (peer : Log) (log_floor low b : ℕ) (s : Selection) (ask : WatchAsk) (m : Log) (rows : List RowData) →
    IsLog peer → ask.selection ≡ s → IsLog m → end_of m ≡ b → IsStateAt m s.resource b rows →
    let lines : List Line = initial_lines rows ++ Closing b ∷ [] in BeginsBody peer log_floor low ask b lines →
    Follows peer s b b lines m []

-- what a mirror keeps may be committed up to where the next line of a lawful body says, in whole or in part: any
-- beginning of these revisions leaves a mirror
abbrev pub FollowingsCommit : Type 0
FollowingsCommit =
    (peer : Log) (log_floor low b from : ℕ) (s : Selection) (ask : WatchAsk) (lines : List Line) (m : Log) (kept : List TransitionData)
    (line : Line) (more : List RevisionData) →
    IsLog peer → ask.selection ≡ s → Follows peer s b from lines m kept → BeginsBody peer log_floor low ask from (lines ++ line ∷ []) →
    MovesOn (end_of m) line → AreToldBy s.resource kept (end_of m) more → end_of (grown m more) ≤ upto_of line →
    IsMirrorOf peer s b (grown m more)

-- an event above the mirror's end commits all revisions before its own, and is kept
abbrev pub FollowingsHear : Type 0
FollowingsHear =
    (peer : Log) (log_floor low b from : ℕ) (s : Selection) (ask : WatchAsk) (lines : List Line) (m : Log) (kept : List TransitionData)
    (t : TransitionData) (more : List RevisionData) →
    IsLog peer → ask.selection ≡ s → Follows peer s b from lines m kept → BeginsBody peer log_floor low ask from (lines ++ Told t ∷ []) →
    MovesOn (end_of m) (Told t) → AreToldBy s.resource kept (end_of m) more → end_of (grown m more) ≡ upto_of (Told t) →
    Follows peer s b from (lines ++ Told t ∷ []) (grown m more) (kept_after kept (Told t))

-- a bookmark that isn't below the mirror's end commits all revisions up to its own, and nothing is kept
abbrev pub FollowingsMark : Type 0
FollowingsMark =
    (peer : Log) (log_floor low b from : ℕ) (s : Selection) (ask : WatchAsk) (lines : List Line) (m : Log) (kept : List TransitionData)
    (at : ℕ) (more : List RevisionData) →
    IsLog peer → ask.selection ≡ s → Follows peer s b from lines m kept → BeginsBody peer log_floor low ask from (lines ++ Bookmark at ∷ []) →
    MovesOn (end_of m) (Bookmark at) → AreToldBy s.resource kept (end_of m) more → end_of (grown m more) ≡ upto_of (Bookmark at) →
    Follows peer s b from (lines ++ Bookmark at ∷ []) (grown m more) (kept_after kept (Bookmark at))

-- a mirror may begin anew, over another connection, from its own end, if it forgets what it kept
abbrev pub FollowingsResume : Type 0
FollowingsResume =
    (peer : Log) (b : ℕ) (s : Selection) (m : Log) → IsMirrorOf peer s b m → Follows peer s b (end_of m) [] m []

-- ---- lawful lines

-- the rows of the opening of a lawful body, at the first revision of the peer's log or a later one, are in order,
-- selected, and of revisions up to its own
abbrev pub OpeningsAreTaken : Type 0
OpeningsAreTaken =
    (peer : Log) (log_floor low b : ℕ) (ask : WatchAsk) (rows : List RowData) →
    IsLog peer → peer.first ≤ b → BeginsBody peer log_floor low ask b (initial_lines rows ++ Closing b ∷ []) →
    AreRising rows × All (λ row. IsTrue (selects ask.selection row.obj)) rows × All (λ row. row.rev ≤ b) rows

-- the next line of a lawful body that a mirror follows is of a revision that the peer's log has reached
abbrev pub LinesAreReached : Type 0
LinesAreReached =
    (peer : Log) (log_floor low b from : ℕ) (s : Selection) (ask : WatchAsk) (lines : List Line) (m : Log) (kept : List TransitionData) (line : Line) →
    IsLog peer → ask.selection ≡ s → Follows peer s b from lines m kept → BeginsBody peer log_floor low ask from (lines ++ line ∷ []) →
    IsNotAbove (end_of peer) line

-- a mirror that follows the lines of a lawful body takes the next one
abbrev pub LawfulLinesAreTaken : Type 0
LawfulLinesAreTaken =
    (peer : Log) (log_floor low b from : ℕ) (s : Selection) (ask : WatchAsk) (lines : List Line) (m : Log) (kept : List TransitionData) (line : Line) →
    IsLog peer → ask.selection ≡ s → Follows peer s b from lines m kept → IsPastOpening ask lines →
    BeginsBody peer log_floor low ask from (lines ++ line ∷ []) → IsTaken s m kept line
